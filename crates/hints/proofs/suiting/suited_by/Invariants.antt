use Rattle.std.specs.List.{All}
use Rattle.ed_base.specs.Lines.{lines_of}
use Rattle.hints.specs.declared.hint.Hint.{Hint}
use Rattle.hints.specs.Allowing.{AllowsFile}
use Rattle.hints.specs.Hints.{IsTried}
use Rattle.hints.proofs.suiting.suited_by.Given as goal

abbrev pub invariant-hints : goal.invariant-hints
invariant-hints l = record {
  tried : All (IsTried l.script l.start l.place) l.suited.items;
  suited : All (λ (one : Hint). AllowsFile one.start (lines_of l.file)) l.suited.items;
}
