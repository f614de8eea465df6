use Rattle.std.proofs.Common.{◌≡◌, ◌≤◌, true, length}
use Rattle.ed_syntax.specs.PublicScript.{script_value}
use Rattle.ed_rules.specs.Texts.{are_members}
use Rattle.hints.specs.Narrowing.{AreEnough}
use Rattle.hints.proofs.widest.widest_beside.Given as goal

abbrev pub invariant-fewer : goal.invariant-fewer
invariant-fewer l = record {
  enough : AreEnough (script_value l.script) l.given l.most l.left.items;
  below : l.most ≤ l.fn.min;
  among : are_members l.left.items l.fn.added.items ≡ true;
}

abbrev pub decreases-fewer : goal.decreases-fewer
decreases-fewer l = length l.left.items
