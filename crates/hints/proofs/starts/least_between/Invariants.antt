use Rattle.std.proofs.Common.{◌-◌, ◌<◌, ◌≤◌}
use Rattle.ed_syntax.specs.PublicScript.{script_value}
use Rattle.hints.specs.Passing.{IsVouched, with_min}
use Rattle.hints.proofs.starts.least_between.Given as goal

-- the script is vouched for under the upper number and not under the lower one
abbrev pub invariant-least : goal.invariant-least
invariant-least l = record {
  vouched : IsVouched (script_value l.script) (with_min l.start l.upper);
  refused : IsVouched (script_value l.script) (with_min l.start l.lower) → ⊥;
  order : l.lower < l.upper;
  above : l.fn.refused ≤ l.lower;
  below : l.upper ≤ l.fn.vouched;
  forward : 0 < l.step;
}

abbrev pub decreases-least : goal.decreases-least
decreases-least l = l.upper - l.lower
