use Rattle.std.proofs.Common.{◌≡◌, ◌∷◌, [], false, drop}
use Rattle.std.specs.Prelude.{◌||◌}
use Rattle.std.specs.List.{list_any}
use Rattle.bre_parse.specs.Tree.{in_set}
use Rattle.bre_match.proofs.needed.has_in_range.Given as goal

abbrev pub invariant-loop-byte : goal.invariant-loop-byte
invariant-loop-byte l = (l.found || list_any (in_set false ((l.low, l.high) ∷ [])) (drop l.byte-index l.bytes)) ≡ list_any (in_set false ((l.low, l.high) ∷ [])) l.bytes
