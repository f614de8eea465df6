use Rattle.std.proofs.Common.{◌-◌, ◌≤◌, ◌≡◌, true, length}
use Rattle.ed_syntax.specs.PublicScript.{script_value}
use Rattle.ed_rules.specs.Texts.{are_members}
use Rattle.hints.specs.Narrowing.{AreEnough}
use Rattle.hints.proofs.narrowing.left_of.Given as goal

abbrev pub invariant-places : goal.invariant-places
invariant-places l = record {
  enough : AreEnough (script_value l.script) l.given l.min l.left.items;
  among : are_members l.left.items l.fn.added.items ≡ true;
  fewer : length l.left.items ≤ length l.fn.added.items;
}

abbrev pub decreases-places : goal.decreases-places
decreases-places l = length l.left.items - l.place
