use Rattle.std.proofs.Common.{◌≡◌, map, take}
use Rattle.ed_session.proofs.seen.SeenBytes.of.Given as goal

abbrev pub invariant-bytes : goal.invariant-bytes
invariant-bytes l = map (λ s. s.value) l.items.items ≡ take l.byte-index l.bytes
