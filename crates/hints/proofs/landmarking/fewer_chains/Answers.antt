use Rattle.std.proofs.Common.{◌≡◌, length, List, ap, arith}
use Rattle.landmarks.specs.ChainValues.{ChainValue}
use Rattle.ed_syntax.specs.PublicScript.{script_value}
use Rattle.hints.proofs.ByLandmarks.{each-next}
use Rattle.hints.proofs.landmarking.fewer_chains.Goals as goal

pub loop-place-preserved : goal.loop-place-preserved
loop-place-preserved c =
    each-next (script_value c.args.script.now) c.args.given.now c.args.start.now c.args.added.now c.loop-place.place
    c.in_ok-is_vouched_without.field-0 c.loop-place.invariant c.if-branch.false c.in_ok-is_vouched_without.ensures.exact

pub returns-clause-needed : goal.returns-clause-needed
returns-clause-needed c = λ place below. c.loop-place.invariant place
    (let size : length c.as_slice-place-end.result.now ≡ length c.args.added.now =
    ap (λ (l : List ChainValue). length l) c.as_slice-place-end.ensures.value in
    omega (arith, below, size, c.loop-place-test.false))
