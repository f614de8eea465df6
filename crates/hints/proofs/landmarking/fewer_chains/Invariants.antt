use Rattle.std.proofs.Common.{◌<◌, ◌++◌, ℕ}
use Rattle.std.specs.List.{remove}
use Rattle.ed_syntax.specs.PublicScript.{script_value}
use Rattle.hints.specs.Passing.{IsVouched, chains_in}
use Rattle.hints.specs.Landmarks.{marked_by}
use Rattle.hints.proofs.landmarking.fewer_chains.Given as goal

-- without any of those before the place the script isn't vouched for
abbrev pub invariant-loop-place : goal.invariant-loop-place
invariant-loop-place l =
    (place : ℕ) → place < l.place → IsVouched (script_value l.script) (marked_by l.start (chains_in l.given.landmarks ++ remove l.added place)) → ⊥
