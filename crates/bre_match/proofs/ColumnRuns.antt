-- A run of columns: what gets out is just what can be reached from an entry, with the least weight.
use Rattle.std.proofs.Common.{◌≡◌, ℕ, zero, suc, ◌+◌, ◌-◌, ◌<◌, ◌≤◌, ◌⊎◌, inl, inr, List, Option, Some, None, Bool, true, false, refl, subst, arith}
use Rattle.std.specs.Prelude.{◌&&◌}
use Rattle.std.proofs.lemmas.Bool.{and_from}
use Rattle.bre_parse.specs.Tree.{Tree, Empty, Then, Set, TextStart, TextEnd, BackReference, Group, Repeat}
use Rattle.bre_match.specs.Parts.{Part, Nothing, Never, One, AtStart, AtEnd, Both, Maybe, Star, Reaches, part_of, needed, up_to}
use Rattle.bre_match.specs.Ends.{columns, out_of}
use Rattle.bre_match.proofs.Columns.{Pending, AtMost}
use Rattle.bre_match.proofs.Columns.{stepped, unstepped, peek_comes, peek_marked, peek_entered, step_comes, step_marked, step_entered}
use Rattle.bre_match.proofs.TreeReach.{both_left, both_right}

-- a part has no mark
abbrev pub unmarked : Part → Bool
unmarked (One negated ranges None) = true
unmarked (One negated ranges (Some w)) = false
unmarked (Both first rest) = unmarked first && unmarked rest
unmarked (Maybe content) = unmarked content
unmarked (Star content) = unmarked content
unmarked _ = true

pub none_pending : (t : Part) (s : List ℕ) (x y w : ℕ) → unmarked t ≡ true → Pending t s x y w → ⊥
none_pending Nothing s x y w u h = h
none_pending Never s x y w u h = h
none_pending (One n r None) s x y w u h = let e = h.1 in cc
none_pending (One n r (Some v)) s x y w u h = cc
none_pending AtStart s x y w u h = h
none_pending AtEnd s x y w u h = h
none_pending (Both a b) s x y w u h =
    elim h [
      | inl i ↦ none_pending b s x y w (both_right (unmarked a) (unmarked b) u) i
      | inr i ↦ none_pending a s x i.0 w (both_left (unmarked a) (unmarked b) u) i.1
    ]
none_pending (Maybe a) s x y w u h = none_pending a s x y w u h
none_pending (Star a) s x y w u h = none_pending a s x h.0 w u h.1

unmarked_needed : (n : ℕ) (c rest : Part) → unmarked c ≡ true → unmarked rest ≡ true → unmarked (needed n c rest) ≡ true
unmarked_needed zero c rest u v = v
unmarked_needed (suc n) c rest u v = and_from (unmarked c) _ u (unmarked_needed n c rest u v)

unmarked_up_to : (n : ℕ) (c : Part) → unmarked c ≡ true → unmarked (up_to n c) ≡ true
unmarked_up_to zero c u = refl
unmarked_up_to (suc n) c u = and_from (unmarked c) _ u (unmarked_up_to n c u)

pub unmarked_part : (t : Tree) → unmarked (part_of t) ≡ true
unmarked_part Empty = refl
unmarked_part (Then a b) = and_from (unmarked (part_of a)) _ (unmarked_part a) (unmarked_part b)
unmarked_part (Set n r) = refl
unmarked_part TextStart = refl
unmarked_part TextEnd = refl
unmarked_part (BackReference n) = refl
unmarked_part (Group n c) = unmarked_part c
unmarked_part (Repeat l None c) = unmarked_needed l (part_of c) (Star (part_of c)) (unmarked_part c) (unmarked_part c)
unmarked_part (Repeat l (Some m) c) = unmarked_needed l (part_of c) (up_to (m - l) (part_of c)) (unmarked_part c) (unmarked_up_to (m - l) (part_of c) (unmarked_part c))

back_to : (t : Part) (s : List ℕ) (from : ℕ) (entry : ℕ → Option ℕ) (n p q : ℕ) → Reaches (columns t s from entry n) s p q → Reaches t s p q
back_to t s from entry zero p q h = h
back_to t s from entry (suc n) p q h =
    back_to t s from entry n p q (unstepped (columns t s from entry n) s (from + n) (entry (from + n)) p q h)

ahead_to : (t : Part) (s : List ℕ) (from : ℕ) (entry : ℕ → Option ℕ) (n p q : ℕ) → Reaches t s p q → Reaches (columns t s from entry n) s p q
ahead_to t s from entry zero p q h = h
ahead_to t s from entry (suc n) p q h =
    stepped (columns t s from entry n) s (from + n) (entry (from + n)) p q (ahead_to t s from entry n p q h)

-- a mark comes from an entry before
pub columns_come : (t : Part) (s : List ℕ) (from : ℕ) (entry : ℕ → Option ℕ) → unmarked t ≡ true → (n y w : ℕ) → Pending (columns t s from entry n) s (from + n) y w → (p : ℕ) × (from ≤ p) × (p < from + n) × (entry p ≡ Some w) × Reaches t s p y
columns_come t s from entry u zero y w h = absurd (none_pending t s (from + 0) y w u h)
columns_come t s from entry u (suc n) y w h =
    let c = columns t s from entry n in
    let x = from + n in
    let h2 : Pending (columns t s from entry (suc n)) s (from + n + 1) y w = subst (λ z. Pending (columns t s from entry (suc n)) s z y w) (let e : from + suc n ≡ from + n + 1 = omega arith in e) h in
    elim (step_comes c s x y (entry x) w h2) [
      | inl i ↦ (
          let r = columns_come t s from entry u n y w i in
          (r.0, r.1, let lt = r.2 in omega arith, r.3, r.4))
      | inr i ↦ (x, omega arith, omega arith, i.0, back_to t s from entry n x y i.1)
    ]

-- an entry before leaves a mark
pub columns_stand : (t : Part) (s : List ℕ) (from : ℕ) (entry : ℕ → Option ℕ) → (n p y w : ℕ) → from ≤ p → p < from + n → from + n ≤ y → AtMost (entry p) w → Reaches t s p y → (v : ℕ) × (v ≤ w) × Pending (columns t s from entry n) s (from + n) y v
columns_stand t s from entry zero p y w low lt high l r = absurd (omega arith)
columns_stand t s from entry (suc n) p y w low lt high l r =
    let c = columns t s from entry n in
    let x = from + n in
    let e : from + n + 1 ≡ from + suc n = omega arith in
    elim (before_or_at p (from + n) (omega arith)) [
      | inl at ↦ (
          let i = step_entered c s x y (entry x) w (subst (λ z. AtMost (entry z) w) at l) (ahead_to t s from entry n x y (subst (λ z. Reaches t s z y) at r)) (omega arith) in
          (i.0, i.1, subst (λ z. Pending (columns t s from entry (suc n)) s z y i.0) e i.2))
      | inr before ↦ (
          let j = columns_stand t s from entry n p y w low before (omega arith) l r in
          let i = step_marked c s x y (entry x) j.0 j.2 (omega arith) in
          let a = j.1 in
          let b = i.1 in
          (i.0, omega arith, subst (λ z. Pending (columns t s from entry (suc n)) s z y i.0) e i.2))
    ]
  where
    before_or_at : (a b : ℕ) → a ≤ b → (a ≡ b) ⊎ (a < b)
    before_or_at a b h = grind arith

pub out_comes : (t : Part) (s : List ℕ) (from : ℕ) (entry : ℕ → Option ℕ) → unmarked t ≡ true → (n w : ℕ) → out_of t s from entry n ≡ Some w → (p : ℕ) × (from ≤ p) × (p ≤ from + n) × (entry p ≡ Some w) × Reaches t s p (from + n)
out_comes t s from entry u n w e =
    elim (peek_comes (columns t s from entry n) s (from + n) (entry (from + n)) w e) [
      | inl i ↦ (
          let r = columns_come t s from entry u n (from + n) w i in
          (r.0, r.1, let lt = r.2 in omega arith, r.3, r.4))
      | inr i ↦ (from + n, omega arith, omega arith, i.0, back_to t s from entry n (from + n) (from + n) i.1)
    ]

pub out_least : (t : Part) (s : List ℕ) (from : ℕ) (entry : ℕ → Option ℕ) → (n p w : ℕ) → from ≤ p → p ≤ from + n → AtMost (entry p) w → Reaches t s p (from + n) → AtMost (out_of t s from entry n) w
out_least t s from entry n p w low high l r =
    let c = columns t s from entry n in
    let x = from + n in
    elim (before_or_at p (from + n) high) [
      | inl at ↦
          peek_entered c s x (entry x) w (subst (λ z. AtMost (entry z) w) at l) (ahead_to t s from entry n x x (subst (λ z. Reaches t s z x) at r))
      | inr before ↦ (
          let j = columns_stand t s from entry n p x w low before (omega arith) l r in
          let a = peek_marked c s x (entry x) j.0 j.2 in
          let b = a.2 in
          let d = j.1 in
          (a.0, a.1, omega arith))
    ]
  where
    before_or_at : (a b : ℕ) → a ≤ b → (a ≡ b) ⊎ (a < b)
    before_or_at a b h = grind arith
