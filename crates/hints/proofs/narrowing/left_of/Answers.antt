use Rattle.std.proofs.Common.{refl, arith}
use Rattle.ed_syntax.specs.PublicScript.{script_value}
use Rattle.hints.proofs.Enough.{enough-without, shorter-but_one}
use Rattle.hints.proofs.Narrowed.{among-but_one, among-same}
use Rattle.hints.proofs.narrowing.left_of.Goals as goal

pub places-init : goal.places-init
places-init c = record {
  enough = c.requires.enough;
  among = among-same c.args.added.items c.args.added.items refl;
  fewer = omega arith;
}

pub places-preserved-then-branch : goal.places-preserved-then-branch
places-preserved-then-branch c = record {
  enough = enough-without (script_value c.args.script.now) c.args.given.now c.args.min c.places.left.items c.as_slice.result.now c.as_slice-then-branch.result.now
      c.in_ok-left.left.items c.places.place c.places.invariant.enough c.as_slice.ensures.value c.as_slice-then-branch.ensures.value
      c.in_ok-left.ensures.value (c.in_ok-is_vouched_without.ensures.exact.0 c.if-branch.true);
  among = among-but_one c.args.added.items c.places.left.items c.as_slice-then-branch.result.now c.in_ok-left.left.items c.places.place
      c.places.invariant.among c.as_slice-then-branch.ensures.value c.in_ok-left.ensures.value;
  fewer = shorter-but_one c.places.left.items c.as_slice-then-branch.result.now c.in_ok-left.left.items c.args.added.items c.places.place
      c.as_slice-then-branch.ensures.value c.in_ok-left.ensures.value c.places.invariant.fewer;
}
