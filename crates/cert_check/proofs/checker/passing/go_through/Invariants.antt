use Rattle.std.proofs.Common.{◌≡◌, true, ℕ, List, map}
use Rattle.ed_syntax.specs.PublicTypes.{steps_value}
use Rattle.ed_rules.specs.declared.state.State.{State}
use Rattle.cert_check.specs.Certificates.{note_value}
use Rattle.cert_check.specs.checker.Valid.{Check, verdict_of, counted, checks_from}
use Rattle.cert_check.proofs.verdicts.Judging.{verdict_from, shape_from}
use Rattle.cert_check.proofs.checker.passing.go_through.Given as goal

-- the checks before this note hold, and those from here on have the shape of the notes
abbrev pub invariant-loop-index : goal.invariant-loop-index
invariant-loop-index l = record {
  shape : shape_from l.commands l.notes l.index ≡ true;
  checks : (end : ℕ → State → List Check) →
      verdict_of (checks_from l.sight l.writes end 1 l.fn.coming (counted (steps_value l.commands)) (map note_value l.notes)) ≡ verdict_from l.sight l.writes end l.commands l.notes l.index l.coming;
}
