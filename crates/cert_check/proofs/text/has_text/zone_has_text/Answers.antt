use Rattle.std.proofs.Common.{List, arith, sym, ◌∙◌, subst}
use Rattle.std.specs.List.{All}
use Rattle.zones.specs.KnownBounds.{PlacedBound}
use Rattle.cert_check.proofs.texts.Known.{MaySay, may-placed, says-formed, formed-says}
use Rattle.cert_check.proofs.texts.Limited.{all-more, all-end, all-fails}
use Rattle.cert_check.proofs.text.has_text.zone_has_text.Goals as goal

pub loop-entry-preserved : goal.loop-entry-preserved
loop-entry-preserved c =
    all-more (MaySay c.args.marks.now) c.entries-entry-items.result.now c.loop-entry.entry-index c.entry-item.result (omega arith) c.entry-item.is c.loop-entry.invariant
    (sym (may-placed c.args.marks.now c.x.result c.y.result c.bound.result c.entry-item.result c.x.ensures.value c.y.ensures.value c.bound.ensures.value)
    ∙ sym c.may_say.ensures.value ∙ c.if-not-may_say.false)

pub returns-then-not-may_say : goal.returns-then-not-may_say
returns-then-not-may_say c = record {
  exact = (
    λ t. absurd cc,
    λ h. absurd (all-fails (MaySay c.args.marks.now) c.entries-entry-items.result.now c.loop-entry.entry-index c.entry-item.result (omega arith) c.entry-item.is
        (λ may.
        let yes = c.may_say.ensures.value ∙ may-placed c.args.marks.now c.x.result c.y.result c.bound.result c.entry-item.result c.x.ensures.value c.y.ensures.value c.bound.ensures.value ∙ may in
        let no = c.if-not-may_say.true in absurd cc)
        (subst (λ (bs : List PlacedBound). All (MaySay c.args.marks.now) bs) (sym c.entries-entry-items.ensures.value) (formed-says c.args.marks.now c.args.zone.now h))),
  );
}

pub returns : goal.returns
returns c = record {
  exact = (
    λ _. says-formed c.args.marks.now c.args.zone.now c.letters_are_counted.ensures.size c.entries-entry-items.ensures.well_formed
        (subst (λ (bs : List PlacedBound). All (MaySay c.args.marks.now) bs) c.entries-entry-items.ensures.value
        (all-end (MaySay c.args.marks.now) c.entries-entry-items.result.now c.loop-entry.entry-index (omega arith) c.loop-entry.invariant)),
    λ _. cc,
  );
}
