use Rattle.std.proofs.Common.{◌<◌, ℕ}
use Rattle.std.specs.List.{remove}
use Rattle.ed_syntax.specs.PublicScript.{script_value}
use Rattle.hints.specs.Passing.{IsVouched}
use Rattle.hints.specs.Widest.{start_with, beside}
use Rattle.hints.proofs.narrowing.fewer_of.Given as goal

-- without any of those before the place the script isn't vouched for
abbrev pub invariant-loop-place : goal.invariant-loop-place
invariant-loop-place l =
    (place : ℕ) → place < l.place → IsVouched (script_value l.script) (start_with l.given l.min (beside l.given (remove l.added place))) → ⊥
