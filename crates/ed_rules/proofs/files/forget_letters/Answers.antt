use Rattle.std.proofs.Common.{◌∙◌, ap, sym}
use Rattle.zones.specs.Name.{mark}
use Rattle.zones.specs.Zone.{Bounds}
use Rattle.zones.specs.Steps.{after_forget}
use Rattle.ed_rules.proofs.Folds.{without_letters-none, without_letters-next}
use Rattle.ed_rules.proofs.files.forget_letters.Goals as goal

pub loop-place-init : goal.loop-place-init
loop-place-init c = sym (without_letters-none c.args.zone.now)

pub loop-place-preserved : goal.loop-place-preserved
loop-place-preserved c =
    c.forget.ensures.exact
    ∙ (rw (c.of.ensures.value, c.at.ensures.value) (ap (λ (zone : Bounds). after_forget zone (mark c.loop-place.place)) c.loop-place.invariant))
    ∙ sym (without_letters-next c.loop-place.place c.args.zone.now)
