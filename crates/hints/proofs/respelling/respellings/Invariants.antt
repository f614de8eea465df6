-- What was told to write so far reads on.
use Rattle.std.specs.Prelude.{IfSome}
use Rattle.std.specs.List.{All}
use Rattle.hints.specs.declared.respelling.Respelling.{Respelling}
use Rattle.hints.specs.Hints.{ReadsOn}
use Rattle.hints.proofs.respelling.respellings.Given as goal

abbrev pub invariant-drafts : goal.invariant-drafts
invariant-drafts l = All (λ (told : Respelling). IfSome told.script (ReadsOn l.script)) l.found.items
