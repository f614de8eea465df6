use Rattle.std.proofs.Common.{◌≡◌, false, sym, ◌∙◌}
use Rattle.zones.proofs.Rising.{AreKnownBounds-known, IsKeptZone-known, known_bounds-written}
use Rattle.zones.proofs.kept_zone.KeptZone.from_entries.Goals as goal

pub returns-then-not-are_known : goal.returns-then-not-are_known
returns-then-not-are_known c = record {
  exact = λ zone size is.
      let bad = c.are_known.ensures.exact.1 (AreKnownBounds-known zone c.as_slice.result.now size (is ∙ sym c.as_slice.ensures.value)) in
      let not : c.are_known.result ≡ false = c.if-not-are_known.true in
      cc;
  well_formed = tt;
}

pub invariant_of-result : goal.invariant_of-result
invariant_of-result c =
    rw (← c.as_slice.ensures.value)
    (IsKeptZone-known c.as_slice.result.now (c.are_known.ensures.exact.0 c.if-not-are_known.false) (c.are_known.ensures.kept c.if-not-are_known.false))

pub returns : goal.returns
returns c = record {
  exact = rw (← c.as_slice.ensures.value) (known_bounds-written c.as_slice.result.now (c.are_known.ensures.exact.0 c.if-not-are_known.false));
  well_formed =
      let kept = IsKeptZone-known c.as_slice.result.now (c.are_known.ensures.exact.0 c.if-not-are_known.false) (c.are_known.ensures.kept c.if-not-are_known.false) in
      rw (← c.as_slice.ensures.value) kept.zone;
}
