use Rattle.std.proofs.Common.{◌≡◌, ◌*◌, pos, Some, ◌∙◌, false, refl, arith, inl, inr, rules}
use Rattle.std.proofs.lemmas.Bool.{cases_lt}
use Rattle.std.proofs.lemmas.List.{take_all}
use Rattle.std.proofs.lemmas.List.Elements.{All-more}
use Rattle.zones.proofs.Covering.{IsCovered, Covers-entries, Covers-entry_not, Covers-itself_not, itself-unknown, tested}
use Rattle.zones.proofs.kept_zone.entries_cover.Goals as goal

pub loop-kept-preserved : goal.loop-kept-preserved
loop-kept-preserved c =
    All-more (IsCovered c.args.strong.now) c.args.entries.now c.loop-kept.kept-index c.kept-item.result c.loop-kept-test.true c.loop-kept.invariant
    (rw (← c.kept-item.is) (tested c.args.strong.now c.kept-item.result c.place.result c.entry.result c.index-strong-place.result c.covers_bound.result
    c.entry.ensures.value c.place.ensures.value (omega arith) c.covers_bound.ensures.value ∙ c.if-not-covers_bound.false))

pub returns-then-not-covers_bound : goal.returns-then-not-covers_bound
returns-then-not-covers_bound c = record {
  exact = λ weak size is. (
    λ t. search rules,
    λ covers. absurd (Covers-entry_not weak c.args.strong.now c.args.entries.now c.loop-kept.kept-index c.kept-item.result size is c.loop-kept-test.true c.kept-item.is
        (tested c.args.strong.now c.kept-item.result c.place.result c.entry.result c.index-strong-place.result c.covers_bound.result
        c.entry.ensures.value c.place.ensures.value (omega arith) c.covers_bound.ensures.value ∙ c.if-not-covers_bound.true)
        covers),
  );
}

pub returns-then-not-has_place : goal.returns-then-not-has_place
returns-then-not-has_place c = record {
  exact = λ weak size is. (
    λ t. search rules,
    λ covers. absurd (Covers-itself_not weak c.args.strong.now c.args.entries.now c.loop-p.p (omega arith) size is
        (λ any. let bad = c.has_place.ensures.exact.1 any in let not : c.has_place.result ≡ false = c.if-not-has_place.true in cc)
        (tested c.args.strong.now (record { place = 33 * c.loop-p.p; bound = Some (pos 0) }) _ c.of-itself.result c.index-strong-place-in-loop-p.result c.covers_bound-in-loop-p.result
        c.of-itself.ensures.value refl (omega arith) c.covers_bound-in-loop-p.ensures.value ∙ c.if-not-covers_bound-2.true)
        covers),
  );
}

pub returns : goal.returns
returns c = record {
  exact = λ weak size is. (
    λ t. Covers-entries weak c.args.strong.now c.args.entries.now size is
        (rw (take_all c.loop-kept.kept-index c.args.entries.now (omega arith)) at c.loop-kept.invariant)
        (λ p h. elim (cases_lt p c.args.reach) [
          | inl low ↦ c.loop-p.invariant p (omega (arith, low))
          | inr high ↦ itself-unknown c.args.strong.now c.args.entries.now p (c.requires.unknown.row p p high h h)
        ]),
    λ covers. search rules,
  );
}
