use Rattle.std.proofs.Common.{◌≡◌, take}
use Rattle.landmarks.proofs.sameness.are_same.Given as goal

-- the landmarks before this one are the same
abbrev pub invariant-loop-place : goal.invariant-loop-place
invariant-loop-place l = take l.place l.one ≡ take l.place l.other
