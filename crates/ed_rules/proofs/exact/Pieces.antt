-- What the pieces of rules leave of zones that know the numbers of their first names.
use Rattle.std.proofs.Common.{◌≡◌, ◌≤◌, ◌+◌, ◌-◌, max, min, ℕ, zero, suc, ℤ, pos, negsuc, ◌+ℤ◌, ◌-ℤ◌, false, Some, arith, refl, subst, inl, inr}
use Rattle.std.proofs.lemmas.Int.{ints}
use Rattle.std.proofs.lemmas.Bool.{cases_lt}
use Rattle.std.proofs.lemmas.List.{get_or-replicate}
use Rattle.zones.specs.Bound.{sum_of}
use Rattle.zones.specs.Zone.{Bounds}
use Rattle.zones.specs.Known.{least, greatest}
use Rattle.zones.specs.Steps.{after_guard, after_set, after_shift}
use Rattle.ed_rules.specs.Marks.{no_marks, for_each_sure}
use Rattle.ed_rules.specs.Pieces.{mark_bounded, mark_pushed, without_addresses, ended, inserted, lifted, left_over, current_left, current_replaced}
use Rattle.ed_rules.specs.Lines.{current_inserted}
use Rattle.ed_rules.specs.Move.{moved_up, moved_down, mark_moved_up, mark_moved_down}
use Rattle.ed_rules.proofs.exact.Zones.{IsSmall, At, At-knows, At-denies, At-least, At-greatest, At-fewer, At-set_current, At-set_last, At-set_first, At-set_second, At-set_target, At-shift_current, At-shift_last, At-shift_target, At-forget, At-guard, At-reset}

-- no letter is sure, so nothing is done for one
pub for_each_sure-no_marks : {A : Type 0} (step : ℕ → A → A) (k : ℕ) (a : A) → k ≤ 26 → for_each_sure step no_marks k a ≡ a
unfolding for_each_sure
for_each_sure-no_marks step zero a h = refl
for_each_sure-no_marks step (suc k) a h =
    rw (get_or-replicate 26 k false false (omega arith)) (for_each_sure-no_marks step k a (omega arith))

pub small-line : (n : ℕ) → n ≤ 9000000000000 → IsSmall (pos n)
small-line n h = (omega (arith, ints), omega (arith, ints))

-- THE END OF A RULE

pub At-ended : (zone : Bounds) (k c l : ℕ) (a b t : ℤ) → At zone k (pos c) (pos l) a b t → 3 ≤ k → c ≤ l →
    At (ended no_marks zone) 3 (pos c) (pos l) (pos 0) (pos 0) (pos 0)
unfolding ended
At-ended zone k c l a b t h k3 le =
    let h3 = At-fewer zone k (pos c) (pos l) a b t h 3 k3 in
    let f3 = At-forget _ 3 (pos c) (pos l) a b t h3 3 (omega arith) in
    let f4 = At-forget _ 3 (pos c) (pos l) a b t f3 4 (omega arith) in
    let f5 = At-forget _ 3 (pos c) (pos l) a b t f4 5 (omega arith) in
    let g0 = At-guard _ 3 (pos c) (pos l) a b t 0 1 (pos 0) f5 (omega arith) (omega arith) (omega arith) (omega arith)
    (omega (arith, ints)) in
    let g1 = At-guard _ 3 (pos c) (pos l) a b t 1 2 (pos 0) g0 (omega arith) (omega arith) (omega arith) (omega arith)
    (omega (arith, ints)) in
    rw (for_each_sure-no_marks mark_bounded 26 (after_guard (after_guard (without_addresses zone) 0 1 (pos 0)) 1 2 (pos 0)) (omega arith))
    (At-reset _ 3 (pos c) (pos l) a b t g1 (omega arith))

-- LINE 0 AS 1

pub At-lifted_first : (zone : Bounds) (k n : ℕ) (c l b t : ℤ) → At zone k c l (pos n) b t → 4 ≤ k → n ≤ 2000000000000 →
    At (lifted 3 zone) k c l (pos (max 1 n)) b t
unfolding lifted
At-lifted_first zone k zero c l b t h k4 le =
    rw (At-knows zone k c l (pos 0) b t 3 0 (pos 0) h (omega arith) (omega arith) (omega arith) (omega arith) (omega (arith, ints)))
    (At-set_first zone k c l (pos 0) b t h k 0 (pos 1) (pos 1) (omega arith) (omega arith) (λ p ne e. e) (omega (arith, ints))
    (small-line 1 (omega arith)))
At-lifted_first zone k (suc n) c l b t h k4 le =
    rw (
      At-denies zone k c l (pos (suc n)) b t 3 0 (pos 0) h (omega arith) (omega arith) (omega arith) (omega arith) (omega (arith, ints)),
      At-knows zone k c l (pos (suc n)) b t 0 3 (negsuc 0) h (omega arith) (omega arith) (omega arith) (omega arith) (omega (arith, ints)),
    )
    (subst (λ (m : ℕ). At zone k c l (pos m) b t) (let e : suc n ≡ max 1 (suc n) = omega arith in e) h)

pub At-lifted_second : (zone : Bounds) (k n : ℕ) (c l a t : ℤ) → At zone k c l a (pos n) t → 5 ≤ k → n ≤ 2000000000000 →
    At (lifted 4 zone) k c l a (pos (max 1 n)) t
unfolding lifted
At-lifted_second zone k zero c l a t h k4 le =
    rw (At-knows zone k c l a (pos 0) t 4 0 (pos 0) h (omega arith) (omega arith) (omega arith) (omega arith) (omega (arith, ints)))
    (At-set_second zone k c l a (pos 0) t h k 0 (pos 1) (pos 1) (omega arith) (omega arith) (λ p ne e. e) (omega (arith, ints))
    (small-line 1 (omega arith)))
At-lifted_second zone k (suc n) c l a t h k4 le =
    rw (
      At-denies zone k c l a (pos (suc n)) t 4 0 (pos 0) h (omega arith) (omega arith) (omega arith) (omega arith) (omega (arith, ints)),
      At-knows zone k c l a (pos (suc n)) t 0 4 (negsuc 0) h (omega arith) (omega arith) (omega arith) (omega arith) (omega (arith, ints)),
    )
    (subst (λ (m : ℕ). At zone k c l a (pos m) t) (let e : suc n ≡ max 1 (suc n) = omega arith in e) h)

-- THE CURRENT LINE OF AN EMPTY INSERTION

pub At-current_inserted : (zone : Bounds) (k n len : ℕ) (c b t : ℤ) → At zone k c (pos len) (pos n) b t → 4 ≤ k → n ≤ 2000000000000 →
    len ≤ 2000000000000 →
    At (current_inserted zone) k (pos (min n len)) (pos len) (pos n) b t
unfolding current_inserted
At-current_inserted zone k n len c b t h k4 small small_len = elim (cases_lt len n) [
  | inl lt ↦
      rw (
        At-denies zone k c (pos len) (pos n) b t 3 2 (pos 0) h (omega arith) (omega arith) (omega arith) (omega arith)
            (omega (arith, ints)),
        At-knows zone k c (pos len) (pos n) b t 2 3 (negsuc 0) h (omega arith) (omega arith) (omega arith) (omega arith)
            (omega (arith, ints)),
      )
      (At-set_current zone k c (pos len) (pos n) b t h 2 (pos 0) (pos (min n len)) (omega arith) (omega arith)
      (let e : min n len ≡ len = omega arith in omega (arith, ints)) (small-line (min n len) (omega arith)))
  | inr ge ↦
      rw (At-knows zone k c (pos len) (pos n) b t 3 2 (pos 0) h (omega arith) (omega arith) (omega arith) (omega arith)
      (omega (arith, ints)))
      (At-set_current zone k c (pos len) (pos n) b t h 3 (pos 0) (pos (min n len)) (omega arith) (omega arith)
      (let e : min n len ≡ n = omega arith in omega (arith, ints)) (small-line (min n len) (omega arith)))
]

-- LINES PUT IN

pub At-inserted : (zone : Bounds) (k x : ℕ) (y n d : ℤ) (c l a b t : ℤ) → At zone k c l a b t → d ≡ l +ℤ n → IsSmall d →
    At (inserted x y (Some n) (Some n) no_marks zone) k c d a b t
unfolding inserted
At-inserted zone k x y n d c l a b t h is s =
    rw (for_each_sure-no_marks (mark_pushed x y (Some n) (Some n)) 26 zone (omega arith))
    (At-shift_last zone k c l a b t h n d is s)

-- THE ADDRESSED LINES REPLACED: so many are left once they are gone

module _ (zone : Bounds) (k first last len left : ℕ) (c t : ℤ) (h : At zone k c (pos len) (pos first) (pos last) t) (k5 : 5 ≤ k)
    (from : 1 ≤ first) (order : first ≤ last) (inside : last ≤ len) (few : len ≤ 1000000000000)
    (is_left : left + last + 1 ≡ len + first) where
  At-left_over : At (left_over zone zone) 6 c (pos len) (pos first) (pos last) (pos left)
  unfolding left_over
  At-left_over =
      let d : ℤ = pos first -ℤ pos last in
      let up : ℤ = pos len -ℤ pos last in
      let down : ℤ = pos last -ℤ pos len in
      let z1 = At-set_target zone k c (pos len) (pos first) (pos last) t h 6 2 (negsuc 0) (pos len -ℤ pos 1) (omega arith) (omega arith)
      (λ p ne e. omega arith) (omega (arith, ints)) (omega (arith, ints), omega (arith, ints)) in
      let z2 = At-shift_target _ 6 c (pos len) (pos first) (pos last) (pos len -ℤ pos 1) z1 d (pos left) (omega (arith, ints))
      (small-line left (omega arith)) in
      let z3 = At-guard _ 6 c (pos len) (pos first) (pos last) (pos left) 5 3 (up +ℤ negsuc 0) z2 (omega arith) (omega arith) (omega arith)
      (omega arith) (omega (arith, ints)) in
      let z4 = At-guard _ 6 c (pos len) (pos first) (pos last) (pos left) 3 5 (down +ℤ pos 1) z3 (omega arith) (omega arith) (omega arith)
      (omega arith) (omega (arith, ints)) in
      rw (
        At-least zone k c (pos len) (pos first) (pos last) t 3 4 d h (omega arith) (omega arith) (omega arith) (omega arith) refl,
        At-greatest zone k c (pos len) (pos first) (pos last) t 3 4 d h (omega arith) (omega arith) (omega arith) (omega arith) refl,
        At-greatest zone k c (pos len) (pos first) (pos last) t 2 4 up h (omega arith) (omega arith) (omega arith) (omega arith) refl,
        At-greatest zone k c (pos len) (pos first) (pos last) t 4 2 down h (omega arith) (omega arith) (omega arith) (omega arith) refl,
      )
      z4

  At-current_left : At (current_left (left_over zone zone)) 6 (pos (min first left)) (pos len) (pos first) (pos last) (pos left)
  unfolding current_left
  At-current_left = elim (cases_lt left first) [
    | inl lt ↦
        rw (
          At-denies (left_over zone zone) 6 c (pos len) (pos first) (pos last) (pos left) 3 5 (pos 0) At-left_over (omega arith)
              (omega arith) (omega arith) (omega arith) (omega (arith, ints)),
          At-knows (left_over zone zone) 6 c (pos len) (pos first) (pos last) (pos left) 5 3 (negsuc 0) At-left_over (omega arith)
              (omega arith) (omega arith) (omega arith) (omega (arith, ints)),
        )
        (At-set_current _ 6 c (pos len) (pos first) (pos last) (pos left) At-left_over 5 (pos 0) (pos (min first left)) (omega arith)
        (omega arith) (let e : min first left ≡ left = omega arith in omega (arith, ints)) (small-line (min first left) (omega arith)))
    | inr ge ↦
        rw (At-knows (left_over zone zone) 6 c (pos len) (pos first) (pos last) (pos left) 3 5 (pos 0) At-left_over (omega arith)
        (omega arith) (omega arith) (omega arith) (omega (arith, ints)))
        (At-set_current _ 6 c (pos len) (pos first) (pos last) (pos left) At-left_over 3 (pos 0) (pos (min first left)) (omega arith)
        (omega arith) (let e : min first left ≡ first = omega arith in omega (arith, ints)) (small-line (min first left) (omega arith)))
  ]

  pub At-deleted : At (after_set (current_replaced 0 (left_over zone zone)) 2 5 (pos 0)) 6 (pos (min first left)) (pos left) (pos first)
      (pos last) (pos left)
  unfolding current_replaced
  At-deleted =
      At-set_last _ 6 (pos (min first left)) (pos len) (pos first) (pos last) (pos left) At-current_left 5 (pos 0) (pos left) (omega arith)
      (omega arith) (omega (arith, ints)) (small-line left (omega arith))

  pub At-replaced : (m : ℕ) → m ≤ 1000000000000 → left + suc m ≤ 1000000000000 →
      At (after_set (current_replaced (suc m) (left_over zone zone)) 2 5 (pos (suc m))) 6 (pos (first + m)) (pos (left + suc m)) (pos first)
      (pos last) (pos left)
  unfolding current_replaced
  At-replaced m some much =
      let z1 = At-set_current _ 6 c (pos len) (pos first) (pos last) (pos left) At-left_over 3 (pos m) (pos (first + m)) (omega arith)
      (omega arith) (omega (arith, ints)) (small-line (first + m) (omega arith)) in
      At-set_last _ 6 (pos (first + m)) (pos len) (pos first) (pos last) (pos left) z1 5 (pos (suc m)) (pos (left + suc m)) (omega arith)
      (omega arith) (omega (arith, ints)) (small-line (left + suc m) (omega arith))

-- `m` AND `t`

module _ (zone : Bounds) (first last len target : ℕ) (c : ℤ) (h : At zone 6 c (pos len) (pos first) (pos last) (pos target))
    (order : first ≤ last) (inside : last ≤ len) (target_in : target ≤ len) (few : len ≤ 1000000000000) where
  pub At-moved_up : At (moved_up no_marks zone) 6 (pos (target + (last + 1 - first))) (pos len) (pos first) (pos last) (pos target)
  unfolding moved_up
  At-moved_up =
      let d : ℤ = pos last -ℤ pos first in
      let z1 = At-set_current zone 6 c (pos len) (pos first) (pos last) (pos target) h 5 (pos 1) (pos (target + 1)) (omega arith)
      (omega arith) (omega (arith, ints)) (small-line (target + 1) (omega arith)) in
      let z2 = At-shift_current _ 6 (pos (target + 1)) (pos len) (pos first) (pos last) (pos target) z1 d
      (pos (target + (last + 1 - first))) (omega (arith, ints)) (small-line (target + (last + 1 - first)) (omega arith)) in
      rw (
        for_each_sure-no_marks (mark_moved_up zone) 26 (after_shift (after_set zone 1 5 (pos 1)) 1 (least zone 4 3) (greatest zone 4 3))
            (omega arith),
        At-least zone 6 c (pos len) (pos first) (pos last) (pos target) 4 3 d h (omega arith) (omega arith) (omega arith)
            (omega arith) refl,
        At-greatest zone 6 c (pos len) (pos first) (pos last) (pos target) 4 3 d h (omega arith) (omega arith) (omega arith)
            (omega arith) refl,
      )
      z2

  pub At-moved_down : At (moved_down no_marks zone) 6 (pos target) (pos len) (pos first) (pos last) (pos target)
  unfolding moved_down
  At-moved_down =
      rw (for_each_sure-no_marks (mark_moved_down zone) 26 (after_set zone 1 5 (pos 0)) (omega arith))
      (At-set_current zone 6 c (pos len) (pos first) (pos last) (pos target) h 5 (pos 0) (pos target) (omega arith) (omega arith)
      (omega (arith, ints)) (small-line target (omega arith)))

  -- so many copies
  pub At-copied : (n : ℕ) → n + first ≡ last + 1 → len + n ≤ 1000000000000 →
      At (after_shift (after_set
      (inserted 5 (pos 0) (sum_of (least zone 4 3) (Some (pos 1))) (sum_of (greatest zone 4 3) (Some (pos 1))) no_marks zone) 1 5 (pos 1)) 1
      (least zone 4 3) (greatest zone 4 3))
      6 (pos (target + n)) (pos (len + n)) (pos first) (pos last) (pos target)
  At-copied n is much =
      let d : ℤ = pos last -ℤ pos first in
      let z0 = At-inserted zone 6 5 (pos 0) (d +ℤ pos 1) (pos (len + n)) c (pos len) (pos first) (pos last) (pos target) h
      (omega (arith, ints)) (small-line (len + n) (omega arith)) in
      let z1 = At-set_current _ 6 c (pos (len + n)) (pos first) (pos last) (pos target) z0 5 (pos 1) (pos (target + 1)) (omega arith)
      (omega arith) (omega (arith, ints)) (small-line (target + 1) (omega arith)) in
      let z2 = At-shift_current _ 6 (pos (target + 1)) (pos (len + n)) (pos first) (pos last) (pos target) z1 d (pos (target + n))
      (omega (arith, ints)) (small-line (target + n) (omega arith)) in
      rw (
        At-least zone 6 c (pos len) (pos first) (pos last) (pos target) 4 3 d h (omega arith) (omega arith) (omega arith)
            (omega arith) refl,
        At-greatest zone 6 c (pos len) (pos first) (pos last) (pos target) 4 3 d h (omega arith) (omega arith) (omega arith)
            (omega arith) refl,
      )
      z2
