-- The bounds that a certificate tells are known.
use Rattle.std.proofs.Common.{◌≡◌, zero, suc, ℤ, pos, negsuc, neg_ℤ, true, false, cond, Option, None, Some, refl, arith}
use Rattle.std.specs.Prelude.{nat_lt}
use Rattle.std.proofs.lemmas.Int.{ints}
use Rattle.zones.specs.Bound.{negative_of}
use Rattle.zones.specs.Zone.{Bounds, bound}
use Rattle.zones.specs.Known.{known, is_within, least, greatest}
use Rattle.zones.specs.Limits.{IsAtMostZero}
use Rattle.ed_rules.specs.declared.state.State.{State}
use Rattle.ed_rules.specs.Formed.{IsCounted}
use Rattle.cert_check.specs.checker.Valid.{knows_least, knows_most}
use Rattle.analyser.specs.Analysis.{low_of, high_of}

low-within : (b : Option ℤ) → IsAtMostZero b → is_within b (neg_ℤ (pos (low_of (negative_of b)))) ≡ true
low-within None h = absurd h
low-within (Some (pos zero)) h = refl
low-within (Some (pos (suc n))) h = absurd (omega (arith, ints))
low-within (Some (negsuc n)) h = grind (arith, ints)

pub knows-low : (s : State) → IsCounted s.zone → knows_least s.zone (low_of (least s.zone 2 0)) ≡ true
unfolding knows_least known
knows-low s h = low-within (bound s.zone 0 2) h

high-within : (zone : Bounds) (b : Option ℤ) → bound zone 2 0 ≡ b → knows_most zone (high_of b) ≡ true
unfolding knows_most known
high-within zone None e = refl
high-within zone (Some (pos n)) e =
    (elim (nat_lt 1000000000000 n) as (λ r. knows_most zone (cond r None (Some n)) ≡ true) [
      | true ↦ refl
      | false ↦ rw e
          (grind (arith, ints))
    ])
high-within zone (Some (negsuc n)) e = rw e refl

pub knows-high : (s : State) → knows_most s.zone (high_of (greatest s.zone 2 0)) ≡ true
knows-high s = high-within s.zone (bound s.zone 2 0) refl
