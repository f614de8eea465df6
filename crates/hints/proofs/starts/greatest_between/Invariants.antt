use Rattle.std.proofs.Common.{◌-◌, ◌<◌, ◌≤◌}
use Rattle.ed_syntax.specs.PublicScript.{script_value}
use Rattle.ed_rules.specs.LineBounds.{most_lines}
use Rattle.hints.specs.Passing.{IsVouched, with_max}
use Rattle.hints.proofs.starts.greatest_between.Given as goal

-- the script is vouched for under the lower number, and not under the upper one, where a start may have so many lines
abbrev pub invariant-greatest : goal.invariant-greatest
invariant-greatest l = record {
  vouched : IsVouched (script_value l.script) (with_max l.start l.lower);
  refused : l.upper ≤ most_lines → IsVouched (script_value l.script) (with_max l.start l.upper) → ⊥;
  order : l.lower < l.upper;
  above : l.fn.vouched ≤ l.lower;
  below : l.upper ≤ l.fn.refused;
  forward : 0 < l.step;
}

abbrev pub decreases-greatest : goal.decreases-greatest
decreases-greatest l = l.upper - l.lower
