use Rattle.std.proofs.Common.{◌∙◌, List, ℕ, ap, sym, subst}
use Rattle.landmarks.specs.ChainValues.{ChainValue}
use Rattle.ed_syntax.specs.PublicScript.{script_value}
use Rattle.hints.specs.Passing.{IsVouched}
use Rattle.hints.specs.Widest.{start_with, beside}
use Rattle.hints.specs.Landmarks.{with_landmarks}
use Rattle.hints.proofs.ByLandmarks.{marked-enough}
use Rattle.hints.proofs.landmarking.widest_marked.Goals as goal

pub widest_of-requires : goal.widest_of-requires
widest_of-requires c = record {
  enough = marked-enough (script_value c.args.script.now) c.args.given.now c.in_ok-marked.marked c.args.min c.members-2.result.now c.args.added.now
      (c.in_ok-marked.ensures.value ∙ ap (λ (l : List ChainValue). with_landmarks c.args.given.now l) c.as_slice.ensures.value) c.requires.ordered c.requires.low c.requires.high c.requires.given_least (c.members-2.ensures.value ∙ c.requires.patterns)
      (subst (λ (l : List (List ℕ)). IsVouched (script_value c.args.script.now) (start_with c.in_ok-marked.marked c.args.min (beside c.in_ok-marked.marked l)))
      (c.members.ensures.value ∙ sym c.members-2.ensures.value)
      (c.in_ok-is_vouched_beside.ensures.exact.0 c.if-not-branch.false));
}
