-- None that the loop has passed takes the file.
use Rattle.std.proofs.Common.{◌≢◌, take, Some}
use Rattle.std.specs.Prelude.{All}
use Rattle.whole.proofs.taken.is_taken.Given as goal

abbrev pub invariant-all : goal.invariant-all
invariant-all g l = (All (λ one. g.T.Takes.target one ≢ l.file) (take l.one-index l.all))
    × (All (λ one. g.T.Takes.backup one ≢ Some l.file) (take l.one-index l.all))
