-- With each piece fewer bytes have to be skipped, and fewer are left.
use Rattle.std.proofs.Common.{◌≡◌, drop, length}
use Rattle.ed_session.proofs.chunks.skip.Given as goal

abbrev pub invariant-pieces : goal.invariant-pieces
invariant-pieces l = drop l.count l.fn.walk ≡ drop l.more l.walk

abbrev pub decreases-pieces : goal.decreases-pieces
decreases-pieces l = length l.walk
