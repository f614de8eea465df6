-- A zone is formed beside its sure marks where it speaks of their names alone, its diagonal low.
use Rattle.std.proofs.Common.{◌≡◌, ◌≢◌, ◌<◌, ◌/◌, ◌%◌, ◌&&◌, ◌==◌, inl, inr, ℕ, zero, suc, ℤ, pos, negsuc, Bool, true, false, List, length, get_or, Option, None, Some, refl, ◌∙◌, sym, ap, subst, arith}
use Rattle.std.proofs.lemmas.Bool.{eq-eqb, eqb-true, not-true, not_from_false, or_cases, or_left, or_right, and_from, and_left, and_right, cases_Bool, both_ways}
use Rattle.std.proofs.lemmas.Bool.Decides.{eqb_tells}
use Rattle.zones.specs.Zone.{Bounds, bound}
use Rattle.zones.specs.Limits.{IsAtMostZero, HasLowDiagonal}
use Rattle.zones.specs.Isolated.{IsIsolated}
use Rattle.zones.proofs.Places.{place-row_column, each-bound}
use Rattle.ed_rules.specs.Formed.{says_nothing, has_name, may_say, ZoneIsFormed}
use Rattle.ed_rules.proofs.formed.Speaking.{Speaks}

-- what may be said where one of the names isn't named

says-zero : (x y : ℕ) (c : ℤ) → says_nothing x y c ≡ true → (x ≡ y) × (c ≡ pos 0)
says-zero x y (pos zero) e = (eqb-true x y e, refl)
says-zero x y (pos (suc n)) e = absurd cc
says-zero x y (negsuc n) e = absurd cc

unnamed-zero : (marks : List Bool) (x y : ℕ) (c : ℤ) → (has_name marks x && has_name marks y) ≡ false → may_say marks x y (Some c) ≡ true → (x ≡ y) × (c ≡ pos 0)
unnamed-zero marks x y c n e = elim (or_cases (says_nothing x y c) (has_name marks x && has_name marks y) e) [
  | inl k ↦ says-zero x y c k
  | inr k ↦ absurd (both_ways (has_name marks x && has_name marks y) n k)
]

silent-itself : (marks : List Bool) (x : ℕ) (b : Option ℤ) → (has_name marks x && has_name marks x) ≡ false → may_say marks x x b ≡ true → b ≡ Some (pos 0)
silent-itself marks x None n e = absurd (both_ways (x == x) (not-true (x == x) e) (eq-eqb x x refl))
silent-itself marks x (Some c) n e = ap (λ (d : ℤ). Some d) (unnamed-zero marks x x c n e).1

silent-other : (marks : List Bool) (x y : ℕ) (b : Option ℤ) → x ≢ y → (has_name marks x && has_name marks y) ≡ false → may_say marks x y b ≡ true → b ≡ None
silent-other marks x y None ne n e = refl
silent-other marks x y (Some c) ne n e = absurd (ne (unnamed-zero marks x y c n e).0)

says-bound : (marks : List Bool) (zone : Bounds) → ZoneIsFormed marks zone → (p q : ℕ) → p < 32 → q < 32 → may_say marks p q (bound zone p q) ≡ true
says-bound marks zone h = each-bound (λ p q b. may_say marks p q b ≡ true) zone h.says

formed-silent : (marks : List Bool) (zone : Bounds) → ZoneIsFormed marks zone → (x : ℕ) → x < 32 → has_name marks x ≡ false → IsIsolated zone x
formed-silent marks zone h x hx n = record {
  itself = silent-itself marks x (bound zone x x) (and_left (has_name marks x) (has_name marks x) n) (says-bound marks zone h x x hx hx);
  row = λ q hq ne. silent-other marks x q (bound zone x q) (λ e. ne (sym e)) (and_left (has_name marks x) (has_name marks q) n) (says-bound marks zone h x q hx hq);
  column = λ p hp ne. silent-other marks p x (bound zone p x) ne (and_right (has_name marks p) (has_name marks x) n) (says-bound marks zone h p x hp hx);
}

pub formed-Speaks : (marks : List Bool) (zone : Bounds) → ZoneIsFormed marks zone → HasLowDiagonal zone → Speaks (has_name marks) zone
formed-Speaks marks zone h low = record { is_zone = h.is_zone; low = low; silent = formed-silent marks zone h }

-- what a zone that speaks of the names alone says

zero-said : (marks : List Bool) (x y : ℕ) (b : Option ℤ) → (x == y) ≡ true → b ≡ Some (pos 0) → may_say marks x y b ≡ true
zero-said marks x y b e is = rw is (or_left (x == y) (has_name marks x && has_name marks y) e)

nothing-said : (marks : List Bool) (x y : ℕ) (b : Option ℤ) → (x == y) ≡ false → b ≡ None → may_say marks x y b ≡ true
nothing-said marks x y b e is = rw is (not_from_false (x == y) e)

named-said : (marks : List Bool) (x y : ℕ) (b : Option ℤ) → (x ≡ y → IsAtMostZero b) → (has_name marks x && has_name marks y) ≡ true → may_say marks x y b ≡ true
named-said marks x y None low n = elim (eqb_tells x y) [ inl e ↦ absurd (low e.1) | inr e ↦ not_from_false (x == y) e.0 ]
named-said marks x y (Some c) low n = or_right (says_nothing x y c) (has_name marks x && has_name marks y) n

low-bound : (zone : Bounds) (x y : ℕ) → x < 32 → HasLowDiagonal zone → x ≡ y → IsAtMostZero (bound zone x y)
unfolding HasLowDiagonal
low-bound zone x y hx low e = subst (λ (z : ℕ). IsAtMostZero (bound zone x z)) e (low x hx)

bound-said : (marks : List Bool) (zone : Bounds) → Speaks (has_name marks) zone → (x y : ℕ) → x < 32 → y < 32 → may_say marks x y (bound zone x y) ≡ true
bound-said marks zone h x y hx hy = elim (cases_Bool (has_name marks x)) [
  | inl n ↦ elim (cases_Bool (has_name marks y)) [
    | inl m ↦ named-said marks x y (bound zone x y) (low-bound zone x y hx h.low) (and_from (has_name marks x) (has_name marks y) n m)
    | inr m ↦ elim (eqb_tells x y) [
      | inl e ↦ zero-said marks x y (bound zone x y) e.0 (rw e.1 (h.silent y hy m).itself)
      | inr e ↦ nothing-said marks x y (bound zone x y) e.0 ((h.silent y hy m).column x hx e.1)
    ]
  ]
  | inr n ↦ elim (eqb_tells x y) [
    | inl e ↦ zero-said marks x y (bound zone x y) e.0 (rw (sym e.1) (h.silent x hx n).itself)
    | inr e ↦ nothing-said marks x y (bound zone x y) e.0 ((h.silent x hx n).row y hy (λ q. e.1 (sym q)))
  ]
]

said-at : (marks : List Bool) (zone : Bounds) → Speaks (has_name marks) zone → (place : ℕ) → place < 1024 → may_say marks (place / 32) (place % 32) (get_or zone place None) ≡ true
unfolding bound
said-at marks zone h place l =
    ap (λ (k : ℕ). may_say marks (place / 32) (place % 32) (get_or zone k None)) (sym (place-row_column place))
    ∙ bound-said marks zone h (place / 32) (place % 32) (omega arith) (omega arith)

pub Speaks-formed : (marks : List Bool) (zone : Bounds) → length marks ≡ 26 → Speaks (has_name marks) zone → ZoneIsFormed marks zone
Speaks-formed marks zone size h = record { letters = size; is_zone = h.is_zone; says = said-at marks zone h }
