use Rattle.std.proofs.Common.{◌≡◌, ◌≢◌, false, arith, rules, ◌∙◌, ap, sym}
use Rattle.std.proofs.lemmas.List.{take_all, drop_all}
use Rattle.std.proofs.lemmas.List.Elements.{All-more}
use Rattle.zones.specs.Bound.{IsKept}
use Rattle.zones.specs.Written.{IsKnownBound, any_at}
use Rattle.zones.proofs.Rising.{Rise-next, Rise-before}
use Rattle.zones.proofs.kept_zone.are_known.Goals as goal

pub loop-kept-preserved : goal.loop-kept-preserved
loop-kept-preserved c =
    let entries = c.args.entries.now in
    let i = c.loop-kept.kept-index in
    let b = c.kept-item.result in
    let h = c.loop-kept-test.true in
    let at = c.kept-item.is in
    let place = c.place-place.ensures.value in
    let known : b.bound ≢ any_at b.place =
    λ e. let is = c.is.ensures.exact.1 (c.entry.ensures.value ∙ e ∙ sym (ap any_at place) ∙ sym c.any_of.ensures.value) in
    let not : c.is.result ≡ false = c.if-is.false in cc in
    record {
      each = All-more IsKnownBound entries i b h c.loop-kept.invariant.each (rw (← at) (record { placed = rw (← place) c.place-place.ensures.in_table; known = known }));
      kept = All-more (λ b. IsKept b.bound) entries i b h c.loop-kept.invariant.kept (rw (← at) (rw (← c.bound-kept.ensures.value) c.bound-kept.ensures.kept));
      rise = λ r. c.loop-kept.invariant.rise (Rise-before c.loop-kept.from i entries b h at (omega (arith, place)) (rw place at r));
      rest = λ r. rw place (Rise-next c.loop-kept.from i entries b h at (c.loop-kept.invariant.rest r)).1;
    }

pub returns-clause-exact : goal.returns-clause-exact
returns-clause-exact c = (
  λ t. record {
    rise = c.loop-kept.invariant.rise (rw (drop_all c.loop-kept.kept-index c.args.entries.now (omega arith)) tt);
    each = rw (take_all c.loop-kept.kept-index c.args.entries.now (omega arith)) at c.loop-kept.invariant.each;
  },
  λ h. search rules,
)

pub returns-clause-kept : goal.returns-clause-kept
returns-clause-kept c t = rw (take_all c.loop-kept.kept-index c.args.entries.now (omega arith)) at c.loop-kept.invariant.kept
