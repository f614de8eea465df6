-- With each piece fewer bytes are left.
use Rattle.std.proofs.Common.{length}
use Rattle.whole.proofs.beside.Beside.fill.Given as goal

abbrev pub decreases-pieces : goal.decreases-pieces
decreases-pieces l = length l.walk
