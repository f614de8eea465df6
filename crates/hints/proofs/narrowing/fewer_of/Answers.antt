use Rattle.std.proofs.Common.{◌<◌, ◌≤◌, ◌∙◌, ℕ, length, refl, arith}
use Rattle.std.specs.List.{remove}
use Rattle.ed_syntax.specs.PublicScript.{script_value}
use Rattle.ed_rules.proofs.Texting.{members-through}
use Rattle.hints.proofs.Enough.{enough-without, needed-next}
use Rattle.hints.proofs.Narrowed.{among-without}
use Rattle.hints.proofs.narrowing.fewer_of.Goals as goal

pub left_of-requires : goal.left_of-requires
left_of-requires c = record {
  enough = enough-without (script_value c.args.script.now) c.args.given.now c.args.min c.args.added.now c.args.added.now c.args.added.now
      c.in_ok-fewer.fewer.items c.loop-place.place c.requires.enough refl refl c.in_ok-fewer.ensures.value
      (c.in_ok-is_vouched_without.ensures.exact.0 c.if-branch.true);
}

pub loop-place-preserved : goal.loop-place-preserved
loop-place-preserved c =
    needed-next (script_value c.args.script.now) c.args.given.now c.args.min c.args.added.now (remove c.args.added.now c.loop-place.place) c.loop-place.place
    c.in_ok-is_vouched_without.field-0 c.loop-place.invariant refl c.if-branch.false c.in_ok-is_vouched_without.ensures.exact

pub returns-clause-needed : goal.returns-clause-needed
returns-clause-needed c = λ place below. c.loop-place.invariant place (omega (arith, below, c.loop-place-test.false))

pub returns-then-branch-clause-among : goal.returns-then-branch-clause-among
returns-then-branch-clause-among c =
    members-through c.in_ok-left_of.field-0.items c.in_ok-fewer.fewer.items c.args.added.now c.in_ok-left_of.ensures.among
    (among-without c.args.added.now c.args.added.now c.in_ok-fewer.fewer.items c.loop-place.place refl c.in_ok-fewer.ensures.value)
