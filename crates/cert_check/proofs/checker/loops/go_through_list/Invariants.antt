use Rattle.std.proofs.Common.{◌≡◌, ℕ, List, map}
use Rattle.ed_syntax.specs.PublicTypes.{command_value}
use Rattle.ed_rules.specs.declared.state.State.{State}
use Rattle.cert_check.specs.checker.Valid.{Check, verdict_of, list_checks, left_by_inner}
use Rattle.cert_check.proofs.verdicts.Judging.{list_from, left_from}
use Rattle.cert_check.proofs.checker.loops.go_through_list.Given as goal

-- the checks before this command hold, and what is left is what the commands from here on leave
abbrev pub invariant-loop-index : goal.invariant-loop-index
invariant-loop-index l =
    (left_by_inner l.sight (map command_value l.list) l.states l.fn.coming ≡ left_from l.sight l.list l.states l.index l.coming) × ((turned : ℕ → State → List Check) →
    verdict_of (list_checks l.sight l.number 1 l.writes l.fn.coming (map command_value l.list) l.states turned) ≡ list_from l.sight l.number l.writes l.list l.states turned l.index l.coming)
