-- none of the bytes so far is a newline
use Rattle.std.proofs.Common.{◌≢◌, take}
use Rattle.std.specs.Prelude.{All}
use Rattle.ed_base.specs.Lines.{newline}
use Rattle.landmarks.proofs.chain.newline_in.Given as goal

abbrev pub invariant-loop-place : goal.invariant-loop-place
invariant-loop-place l = All (λ byte. byte ≢ newline) (take l.place l.text)
