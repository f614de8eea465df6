use Rattle.std.proofs.Common.{◌∙◌, ap, sym, List}
use Rattle.zones.specs.Steps.{any_zone}
use Rattle.zones.specs.KnownBounds.{PlacedBound, known_bounds}
use Rattle.zones.specs.Written.{written}
use Rattle.zones.proofs.Listing.{written-known_bounds}
use Rattle.zones.proofs.ReachLemmas.{AreUnknown-reach, reach-in_range}
use Rattle.zones.proofs.zone.Zone.try_keep.Goals as goal

pub invariant_of-result : goal.invariant_of-result
invariant_of-result c =
    let listed = c.in_ok-known_entries.ensures.value in
    let is = ap (λ (entries : List PlacedBound). written entries any_zone) listed ∙ written-known_bounds c.self.inside.table c.self.invariant.zone.size in
    record { zone = rw is c.self.invariant.zone; known = ap known_bounds is ∙ sym listed }

pub returns : goal.returns
returns c = record {
  value = ap (λ (entries : List PlacedBound). written entries any_zone) c.in_ok-known_entries.ensures.value
      ∙ written-known_bounds c.self.inside.table c.self.invariant.zone.size ∙ c.self.view_is;
}

pub known_entries-requires-clause-reach : goal.known_entries-requires-clause-reach
known_entries-requires-clause-reach c = reach-in_range _ _ c.self.invariant.known

pub known_entries-requires-clause-unknown : goal.known_entries-requires-clause-unknown
known_entries-requires-clause-unknown c = AreUnknown-reach _ _ c.self.invariant.known
