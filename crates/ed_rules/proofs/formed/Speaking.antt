-- Which names a zone speaks of, and that steps on names that it may speak of keep it so.
use Rattle.std.proofs.Common.{◌≡◌, ◌≢◌, ◌<◌, ◌≤ℤ◌, ◌⊎◌, inl, inr, ℕ, ℤ, pos, int_lt, Bool, true, false, cond, Option, None, Some, refl, ◌∙◌, sym, ap, arith}
use Rattle.std.proofs.lemmas.Int.{ints}
use Rattle.std.proofs.lemmas.Bool.Decides.{eqb_tells}
use Rattle.zones.specs.Bound.{greater_of, widen_bound, widen_diagonal}
use Rattle.zones.specs.Zone.{Bounds, bound}
use Rattle.zones.specs.Steps.{any_zone, after_guard, after_set, after_shift, after_forget, join_of, join_bound, widening_of, widening_bound}
use Rattle.zones.specs.Limits.{IsZone, IsAtMostZero, HasLowDiagonal}
use Rattle.zones.specs.Isolated.{IsIsolated}
use Rattle.zones.proofs.Formulas.{bound-join_of, bound-widening_of, widening_bound-diagonal}
use Rattle.zones.proofs.Kept.{IsZone-any_zone, IsZone-after_guard, IsZone-after_set, IsZone-after_shift, IsZone-after_forget, IsZone-join_of, IsZone-widening_of}
use Rattle.zones.proofs.Diagonal.{HasLowDiagonal-any_zone, HasLowDiagonal-after_guard, HasLowDiagonal-after_set, HasLowDiagonal-after_shift, HasLowDiagonal-after_forget, HasLowDiagonal-join_of, HasLowDiagonal-widening_of}
use Rattle.zones.proofs.Isolated.{IsIsolated-any_zone, IsIsolated-after_guard, IsIsolated-after_set, IsIsolated-after_shift, IsIsolated-after_forget, IsIsolated-forgotten}

-- a zone that speaks of these names alone, its diagonal low
pub record Speaks (names : ℕ → Bool) (zone : Bounds) : Type 0 where
  pub is_zone : IsZone zone
  pub low : HasLowDiagonal zone
  pub silent : (x : ℕ) → x < 32 → names x ≡ false → IsIsolated zone x

-- one of the names
pub record IsNamed (names : ℕ → Bool) (x : ℕ) : Type 0 where
  pub inside : x < 32
  pub named : names x ≡ true

apart : (names : ℕ → Bool) (x y : ℕ) → names x ≡ false → names y ≡ true → y ≢ x
apart names x y n s e = cc

-- STEPS

pub Speaks-any : (names : ℕ → Bool) → Speaks names any_zone
Speaks-any names = record { is_zone = IsZone-any_zone; low = HasLowDiagonal-any_zone; silent = λ x h n. IsIsolated-any_zone x h }

pub Speaks-guard : (names : ℕ → Bool) (zone : Bounds) (x y : ℕ) (c : ℤ) → IsNamed names x → IsNamed names y → Speaks names zone → Speaks names (after_guard zone x y c)
Speaks-guard names zone x y c hx hy h = record {
  is_zone = IsZone-after_guard zone x y c;
  low = HasLowDiagonal-after_guard zone x y c h.low;
  silent = λ z hz n. IsIsolated-after_guard zone z x y c hz hx.inside hy.inside (apart names z x n hx.named) (apart names z y n hy.named) (h.silent z hz n);
}

pub Speaks-set : (names : ℕ → Bool) (zone : Bounds) (x y : ℕ) (c : ℤ) → IsNamed names x → IsNamed names y → Speaks names zone → Speaks names (after_set zone x y c)
Speaks-set names zone x y c hx hy h = record {
  is_zone = IsZone-after_set zone x y c h.is_zone;
  low = HasLowDiagonal-after_set zone x y c h.low;
  silent = λ z hz n. IsIsolated-after_set zone z x y c hz hx.inside hy.inside (apart names z x n hx.named) (apart names z y n hy.named) (h.silent z hz n);
}

pub Speaks-shift : (names : ℕ → Bool) (zone : Bounds) (x : ℕ) (low high : Option ℤ) → IsNamed names x → Speaks names zone → Speaks names (after_shift zone x low high)
Speaks-shift names zone x low high hx h = record {
  is_zone = IsZone-after_shift zone x low high h.is_zone;
  low = HasLowDiagonal-after_shift zone x low high hx.inside h.low;
  silent = λ z hz n. IsIsolated-after_shift zone z x low high hz hx.inside (apart names z x n hx.named) (h.silent z hz n);
}

-- a name that is forgotten may be left out from then on
pub Speaks-forget : (many few : ℕ → Bool) (zone : Bounds) (x : ℕ) → ((z : ℕ) → z ≢ x → few z ≡ false → many z ≡ false) → Speaks many zone → Speaks few (after_forget zone x)
Speaks-forget many few zone x fewer h = record {
  is_zone = IsZone-after_forget zone x h.is_zone;
  low = HasLowDiagonal-after_forget zone x h.low;
  silent = λ z hz n. elim (eqb_tells z x) [
    | inl e ↦ rw e.1 (IsIsolated-forgotten zone x (rw (sym e.1) hz))
    | inr e ↦ IsIsolated-after_forget zone z x hz (λ q. e.1 (sym q)) (h.silent z hz (fewer z e.1 n))
  ];
}

pub Speaks-more : (few many : ℕ → Bool) (zone : Bounds) → ((x : ℕ) → many x ≡ false → few x ≡ false) → Speaks few zone → Speaks many zone
Speaks-more few many zone more h = record { is_zone = h.is_zone; low = h.low; silent = λ x hx n. h.silent x hx (more x n) }

-- JOIN AND WIDENING: of what one side is silent both are

zero-greater : (b : Option ℤ) → IsAtMostZero b → greater_of (Some (pos 0)) b ≡ Some (pos 0)
zero-greater None h = absurd h
zero-greater (Some d) h =
    (elim (int_lt (pos 0) d) as (λ r. int_lt (pos 0) d ≡ r → cond r (Some d) (Some (pos 0)) ≡ Some (pos 0)) [
      | true ↦ λ e. absurd (grind (arith, ints))
      | false ↦ λ e. refl
    ]) refl

not-less : (d : ℤ) → d ≤ℤ pos 0 → int_lt d (pos 0) ≡ false → d ≡ pos 0
not-less d h e = grind (arith, ints)

greater-zero : (b : Option ℤ) → IsAtMostZero b → greater_of b (Some (pos 0)) ≡ Some (pos 0)
greater-zero None h = absurd h
greater-zero (Some d) h =
    (elim (int_lt d (pos 0)) as (λ r. int_lt d (pos 0) ≡ r → cond r (Some (pos 0)) (Some d) ≡ Some (pos 0)) [
      | true ↦ λ e. refl
      | false ↦ λ e. ap (λ (c : ℤ). Some c) (not-less d h e)
    ]) refl

zero-widened : (b : Option ℤ) → IsAtMostZero b → widen_diagonal (Some (pos 0)) b ≡ Some (pos 0)
zero-widened None h = absurd h
zero-widened (Some d) h =
    (elim (int_lt (pos 0) d) as (λ r. int_lt (pos 0) d ≡ r → cond r (greater_of (Some (pos 0)) (Some d)) (Some (pos 0)) ≡ Some (pos 0)) [
      | true ↦ λ e. zero-greater (Some d) h
      | false ↦ λ e. refl
    ]) refl

widened-zero : (b : Option ℤ) → IsAtMostZero b → widen_diagonal b (Some (pos 0)) ≡ Some (pos 0)
widened-zero None h = absurd h
widened-zero (Some d) h =
    (elim (int_lt d (pos 0)) as (λ r. int_lt d (pos 0) ≡ r → cond r (greater_of (Some (pos 0)) (Some (pos 0))) (Some d) ≡ Some (pos 0)) [
      | true ↦ λ e. refl
      | false ↦ λ e. ap (λ (c : ℤ). Some c) (not-less d h e)
    ]) refl

greater-any : (b : Option ℤ) → greater_of b None ≡ None
greater-any None = refl
greater-any (Some d) = refl

widened-any : (b : Option ℤ) → widen_bound b None ≡ None
widened-any None = refl
widened-any (Some d) = refl

pub at_most-zero : (zone : Bounds) (x : ℕ) → x < 32 → HasLowDiagonal zone → IsAtMostZero (bound zone x x)
unfolding HasLowDiagonal
at_most-zero zone x hx h = h x hx

IsIsolated-join_one : (one other : Bounds) (x : ℕ) → x < 32 → IsIsolated one x → HasLowDiagonal other → IsIsolated (join_of one other) x
unfolding join_bound
IsIsolated-join_one one other x hx h low = record {
  itself = bound-join_of one other x x hx hx ∙ (rw h.itself (zero-greater (bound other x x) (at_most-zero other x hx low)));
  row = λ q hq n. bound-join_of one other x q hx hq ∙ (rw (h.row q hq n) refl);
  column = λ p hp n. bound-join_of one other p x hp hx ∙ (rw (h.column p hp n) refl);
}

IsIsolated-join_other : (one other : Bounds) (x : ℕ) → x < 32 → HasLowDiagonal one → IsIsolated other x → IsIsolated (join_of one other) x
unfolding join_bound
IsIsolated-join_other one other x hx low h = record {
  itself = bound-join_of one other x x hx hx ∙ (rw h.itself (greater-zero (bound one x x) (at_most-zero one x hx low)));
  row = λ q hq n. bound-join_of one other x q hx hq ∙ (rw (h.row q hq n) (greater-any (bound one x q)));
  column = λ p hp n. bound-join_of one other p x hp hx ∙ (rw (h.column p hp n) (greater-any (bound one p x)));
}

pub widening_bound-other : (old new : Bounds) (p q : ℕ) → p ≢ q → widening_bound old new p q ≡ widen_bound (bound old p q) (bound new p q)
unfolding widening_bound
widening_bound-other old new p q n = elim (eqb_tells p q) [ inl e ↦ absurd (n e.1) | inr e ↦ rw e.0 refl ]

IsIsolated-widening_old : (old new : Bounds) (x : ℕ) → x < 32 → IsIsolated old x → HasLowDiagonal new → IsIsolated (widening_of old new) x
IsIsolated-widening_old old new x hx h low = record {
  itself = bound-widening_of old new x x hx hx ∙ widening_bound-diagonal old new x ∙ (rw h.itself (zero-widened (bound new x x) (at_most-zero new x hx low)));
  row = λ q hq n. bound-widening_of old new x q hx hq ∙ widening_bound-other old new x q (λ e. n (sym e)) ∙ (rw (h.row q hq n) refl);
  column = λ p hp n. bound-widening_of old new p x hp hx ∙ widening_bound-other old new p x n ∙ (rw (h.column p hp n) refl);
}

IsIsolated-widening_new : (old new : Bounds) (x : ℕ) → x < 32 → HasLowDiagonal old → IsIsolated new x → IsIsolated (widening_of old new) x
IsIsolated-widening_new old new x hx low h = record {
  itself = bound-widening_of old new x x hx hx ∙ widening_bound-diagonal old new x ∙ (rw h.itself (widened-zero (bound old x x) (at_most-zero old x hx low)));
  row = λ q hq n. bound-widening_of old new x q hx hq ∙ widening_bound-other old new x q (λ e. n (sym e)) ∙ (rw (h.row q hq n) (widened-any (bound old x q)));
  column = λ p hp n. bound-widening_of old new p x hp hx ∙ widening_bound-other old new p x n ∙ (rw (h.column p hp n) (widened-any (bound old p x)));
}

-- what isn't named in both isn't named in one of them
abbrev pub IsOfBoth : (one other both : ℕ → Bool) → Type 0
IsOfBoth one other both = (x : ℕ) → x < 32 → both x ≡ false → (one x ≡ false) ⊎ (other x ≡ false)

pub Speaks-join : (m n both : ℕ → Bool) (one other : Bounds) → IsOfBoth m n both → Speaks m one → Speaks n other → Speaks both (join_of one other)
Speaks-join m n both one other of h k = record {
  is_zone = IsZone-join_of one other h.is_zone k.is_zone;
  low = HasLowDiagonal-join_of one other h.low k.low;
  silent = λ x hx q. elim (of x hx q) [
    | inl e ↦ IsIsolated-join_one one other x hx (h.silent x hx e) k.low
    | inr e ↦ IsIsolated-join_other one other x hx h.low (k.silent x hx e)
  ];
}

pub Speaks-widening : (m n both : ℕ → Bool) (old new : Bounds) → IsOfBoth m n both → Speaks m old → Speaks n new → Speaks both (widening_of old new)
Speaks-widening m n both old new of h k = record {
  is_zone = IsZone-widening_of old new h.is_zone k.is_zone;
  low = HasLowDiagonal-widening_of old new h.low k.low;
  silent = λ x hx q. elim (of x hx q) [
    | inl e ↦ IsIsolated-widening_old old new x hx (h.silent x hx e) k.low
    | inr e ↦ IsIsolated-widening_new old new x hx h.low (k.silent x hx e)
  ];
}
