use Rattle.std.proofs.Common.{take}
use Rattle.std.specs.List.{All}
use Rattle.cert_check.proofs.texts.Known.{MaySay}
use Rattle.cert_check.proofs.text.has_text.zone_has_text.Given as goal

-- the bounds before this one may be said
abbrev pub invariant-loop-entry : goal.invariant-loop-entry
invariant-loop-entry l = All (MaySay l.marks) (take l.entry-index l.entry-items)
