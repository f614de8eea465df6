-- Zones that know the numbers of their first names: zero, the current line, the last line, and then the addresses.
use Rattle.std.proofs.Common.{◌≡◌, ◌≢◌, ◌<◌, ◌≤◌, ℕ, zero, suc, ℤ, pos, negsuc, neg_ℤ, ◌+ℤ◌, ◌-ℤ◌, ◌≤ℤ◌, ◌<ℤ◌, int_le, nat_lt, Bool, true, false, Some, arith, refl, ◌∙◌, ap, sym, inl, inr}
use Rattle.std.proofs.lemmas.Int.{ints}
use Rattle.std.proofs.lemmas.Bool.{lt-ltb, ltb-true}
use Rattle.std.proofs.lemmas.Bool.Decides.{eqb_tells}
use Rattle.zones.specs.Bound.{IsKept, clip, raise, lower, tighten, negative_of}
use Rattle.zones.specs.Zone.{Bounds, Numbers, bound, ChangesOnly}
use Rattle.zones.specs.Known.{is_within, known, least, greatest}
use Rattle.zones.specs.Steps.{after_guard, guard_bound, after_set, after_shift, after_forget}
use Rattle.zones.specs.Differences.{Fixes, with_name}
use Rattle.zones.proofs.Formulas.{bound-after_guard, bound-after_set, set_bound-row, set_bound-column}
use Rattle.zones.proofs.Fixed.{Fixes-fewer, Fixes-after_set, Fixes-after_shift, Fixes-after_forget}

-- zero, the current line, the last line, the first address, the second, the target
abbrev pub numbers : (c l a b t : ℤ) → Numbers
numbers c l a b t zero = pos 0
numbers c l a b t (suc zero) = c
numbers c l a b t (suc (suc zero)) = l
numbers c l a b t (suc (suc (suc zero))) = a
numbers c l a b t (suc (suc (suc (suc zero)))) = b
numbers c l a b t (suc (suc (suc (suc (suc zero))))) = t
numbers c l a b t (suc (suc (suc (suc (suc (suc p)))))) = pos 0

-- the first k names
abbrev pub below : ℕ → ℕ → Bool
below k p = nat_lt p k

-- far from the clip
abbrev pub IsSmall : ℤ → Type 0
IsSmall n = (negsuc 9999999999999 ≤ℤ n) × (n ≤ℤ pos 10000000000000)

pub record AreSmall (c l a b t : ℤ) : Type 0 where
  pub current : IsSmall c
  pub last : IsSmall l
  pub first : IsSmall a
  pub second : IsSmall b
  pub target : IsSmall t

-- the first k names are fixed at these numbers
pub record At (zone : Bounds) (k : ℕ) (c l a b t : ℤ) : Type 0 where
  pub fixed : Fixes zone (below k) (numbers c l a b t)
  pub small : AreSmall c l a b t

pub small-at : (c l a b t : ℤ) → AreSmall c l a b t → (p : ℕ) → IsSmall (numbers c l a b t p)
small-at c l a b t h zero = (omega (arith, ints), omega (arith, ints))
small-at c l a b t h (suc zero) = h.current
small-at c l a b t h (suc (suc zero)) = h.last
small-at c l a b t h (suc (suc (suc zero))) = h.first
small-at c l a b t h (suc (suc (suc (suc zero)))) = h.second
small-at c l a b t h (suc (suc (suc (suc (suc zero))))) = h.target
small-at c l a b t h (suc (suc (suc (suc (suc (suc p)))))) = (omega (arith, ints), omega (arith, ints))

pub kept-small : (m n : ℤ) → IsSmall m → IsSmall n → IsKept (Some (m -ℤ n))
kept-small m n h k = let m0 = h.0 in let m1 = h.1 in let n0 = k.0 in let n1 = k.1 in (omega (arith, ints), omega (arith, ints))

-- ONE NUMBER CHANGES

-- all numbers but x's are the same
same-but : (x : ℕ) (c l a b t d m i j u : ℤ) → (1 ≢ x → d ≡ c) → (2 ≢ x → m ≡ l) → (3 ≢ x → i ≡ a) → (4 ≢ x → j ≡ b) → (5 ≢ x → u ≡ t) →
    ChangesOnly x (numbers c l a b t) (numbers d m i j u)
same-but x c l a b t d m i j u current last first second target zero n = refl
same-but x c l a b t d m i j u current last first second target (suc zero) n = current n
same-but x c l a b t d m i j u current last first second target (suc (suc zero)) n = last n
same-but x c l a b t d m i j u current last first second target (suc (suc (suc zero))) n = first n
same-but x c l a b t d m i j u current last first second target (suc (suc (suc (suc zero)))) n = second n
same-but x c l a b t d m i j u current last first second target (suc (suc (suc (suc (suc zero))))) n = target n
same-but x c l a b t d m i j u current last first second target (suc (suc (suc (suc (suc (suc p)))))) n = refl

pub changes-current : (c d l a b t : ℤ) → ChangesOnly 1 (numbers c l a b t) (numbers d l a b t)
changes-current c d l a b t = same-but 1 c l a b t d l a b t (λ n. absurd (n refl)) (λ _. refl) (λ _. refl) (λ _. refl) (λ _. refl)

changes-last : (c l m a b t : ℤ) → ChangesOnly 2 (numbers c l a b t) (numbers c m a b t)
changes-last c l m a b t = same-but 2 c l a b t c m a b t (λ _. refl) (λ n. absurd (n refl)) (λ _. refl) (λ _. refl) (λ _. refl)

changes-first : (c l a m b t : ℤ) → ChangesOnly 3 (numbers c l a b t) (numbers c l m b t)
changes-first c l a m b t = same-but 3 c l a b t c l m b t (λ _. refl) (λ _. refl) (λ n. absurd (n refl)) (λ _. refl) (λ _. refl)

changes-second : (c l a b m t : ℤ) → ChangesOnly 4 (numbers c l a b t) (numbers c l a m t)
changes-second c l a b m t = same-but 4 c l a b t c l a m t (λ _. refl) (λ _. refl) (λ _. refl) (λ n. absurd (n refl)) (λ _. refl)

changes-target : (c l a b t m : ℤ) → ChangesOnly 5 (numbers c l a b t) (numbers c l a b m)
changes-target c l a b t m = same-but 5 c l a b t c l a b m (λ _. refl) (λ _. refl) (λ _. refl) (λ _. refl) (λ n. absurd (n refl))

-- WHAT IS KNOWN OF FIXED NAMES

pub At-bound : (zone : Bounds) (k : ℕ) (c l a b t : ℤ) (p q : ℕ) → At zone k c l a b t → p < 32 → q < 32 → p < k → q < k →
    bound zone p q ≡ Some (numbers c l a b t p -ℤ numbers c l a b t q)
unfolding Fixes
At-bound zone k c l a b t p q h hp hq kp kq = h.fixed p q hp hq (lt-ltb p k kp) (lt-ltb q k kq)

pub At-known : (zone : Bounds) (k : ℕ) (c l a b t : ℤ) (p q : ℕ) (n : ℤ) → At zone k c l a b t → p < 32 → q < 32 → p < k → q < k →
    known zone p q n ≡ int_le (numbers c l a b t p -ℤ numbers c l a b t q) n
unfolding known
At-known zone k c l a b t p q n h hp hq kp kq = ap (λ o. is_within o n) (At-bound zone k c l a b t p q h hp hq kp kq)

pub le-true : (m n : ℤ) → m ≤ℤ n → int_le m n ≡ true
le-true m n h = grind (arith, ints)

pub le-false : (m n : ℤ) → n <ℤ m → int_le m n ≡ false
le-false m n h = grind (arith, ints)

pub At-knows : (zone : Bounds) (k : ℕ) (c l a b t : ℤ) (p q : ℕ) (n : ℤ) → At zone k c l a b t → p < 32 → q < 32 → p < k → q < k →
    (numbers c l a b t p -ℤ numbers c l a b t q) ≤ℤ n → known zone p q n ≡ true
At-knows zone k c l a b t p q n h hp hq kp kq le = At-known zone k c l a b t p q n h hp hq kp kq ∙ le-true _ n le

pub At-denies : (zone : Bounds) (k : ℕ) (c l a b t : ℤ) (p q : ℕ) (n : ℤ) → At zone k c l a b t → p < 32 → q < 32 → p < k → q < k →
    n <ℤ (numbers c l a b t p -ℤ numbers c l a b t q) → known zone p q n ≡ false
At-denies zone k c l a b t p q n h hp hq kp kq lt = At-known zone k c l a b t p q n h hp hq kp kq ∙ le-false _ n lt

pub At-least : (zone : Bounds) (k : ℕ) (c l a b t : ℤ) (p q : ℕ) (d : ℤ) → At zone k c l a b t → p < 32 → q < 32 → p < k → q < k →
    d ≡ numbers c l a b t p -ℤ numbers c l a b t q → least zone p q ≡ Some d
At-least zone k c l a b t p q d h hp hq kp kq is =
    ap (λ o. negative_of o) (At-bound zone k c l a b t q p h hq hp kq kp) ∙ ap (λ n. Some n) (omega (arith, ints))

pub At-greatest : (zone : Bounds) (k : ℕ) (c l a b t : ℤ) (p q : ℕ) (d : ℤ) → At zone k c l a b t → p < 32 → q < 32 → p < k → q < k →
    d ≡ numbers c l a b t p -ℤ numbers c l a b t q → greatest zone p q ≡ Some d
At-greatest zone k c l a b t p q d h hp hq kp kq is = At-bound zone k c l a b t p q h hp hq kp kq ∙ ap (λ n. Some n) (sym is)

-- STEPS

-- a name that is set, or that was among the first
set-name : (x k m p : ℕ) → (p ≢ x → p < m → p < k) → below m p ≡ true → with_name x (below k) p ≡ true
set-name x k m p h e = elim (eqb_tells p x) [
  | inl i ↦ rw i.0 refl
  | inr i ↦ rw i.0 (lt-ltb p k (h i.1 (ltb-true p m e)))
]

set-fixes : (zone : Bounds) (x y k m : ℕ) (n : ℤ) (before after : Numbers) → x < 32 → y < 32 → y < k → ((p : ℕ) → p ≢ x → p < m → p < k) →
    Fixes zone (below k) before → ChangesOnly x before after → after x ≡ before y +ℤ n → ((p : ℕ) → IsSmall (after p)) →
    Fixes (after_set zone x y n) (below m) after
set-fixes zone x y k m n before after hx hy ky more fixes same is small =
    Fixes-fewer (after_set zone x y n) (with_name x (below k)) (below m) after (λ p e. set-name x k m p (more p) e)
    (Fixes-after_set zone x y n (below k) before after hx hy (lt-ltb y k ky) fixes same is
    (λ q hq f. kept-small (after x) (after q) (small x) (small q)))

module _ (zone : Bounds) (k : ℕ) (c l a b t : ℤ) (h : At zone k c l a b t) where
  pub At-fewer : (m : ℕ) → m ≤ k → At zone m c l a b t
  At-fewer m le = record {
    fixed = Fixes-fewer zone (below k) (below m) (numbers c l a b t) (λ p e. let lt = ltb-true p m e in lt-ltb p k (omega arith)) h.fixed;
    small = h.small;
  }

  pub At-set_current : (y : ℕ) (n d : ℤ) → y < 32 → y < k → d ≡ numbers c l a b t y +ℤ n → IsSmall d → At (after_set zone 1 y n) k d l a b t
  At-set_current y n d hy ky is s =
      let small : AreSmall d l a b t =
      record { current = s; last = h.small.last; first = h.small.first; second = h.small.second; target = h.small.target } in
      record {
        fixed = set-fixes zone 1 y k k n (numbers c l a b t) (numbers d l a b t) (omega arith) hy ky (λ p ne e. e) h.fixed
            (changes-current c d l a b t) is (small-at d l a b t small);
        small = small;
      }

  pub At-set_last : (y : ℕ) (n d : ℤ) → y < 32 → y < k → d ≡ numbers c l a b t y +ℤ n → IsSmall d → At (after_set zone 2 y n) k c d a b t
  At-set_last y n d hy ky is s =
      let small : AreSmall c d a b t =
      record { current = h.small.current; last = s; first = h.small.first; second = h.small.second; target = h.small.target } in
      record {
        fixed = set-fixes zone 2 y k k n (numbers c l a b t) (numbers c d a b t) (omega arith) hy ky (λ p ne e. e) h.fixed
            (changes-last c l d a b t) is (small-at c d a b t small);
        small = small;
      }

  pub At-set_first : (m y : ℕ) (n d : ℤ) → y < 32 → y < k → ((p : ℕ) → p ≢ 3 → p < m → p < k) → d ≡ numbers c l a b t y +ℤ n → IsSmall d →
      At (after_set zone 3 y n) m c l d b t
  At-set_first m y n d hy ky more is s =
      let small : AreSmall c l d b t =
      record { current = h.small.current; last = h.small.last; first = s; second = h.small.second; target = h.small.target } in
      record {
        fixed = set-fixes zone 3 y k m n (numbers c l a b t) (numbers c l d b t) (omega arith) hy ky more h.fixed
            (changes-first c l a d b t) is (small-at c l d b t small);
        small = small;
      }

  pub At-set_second : (m y : ℕ) (n d : ℤ) → y < 32 → y < k → ((p : ℕ) → p ≢ 4 → p < m → p < k) → d ≡ numbers c l a b t y +ℤ n → IsSmall d →
      At (after_set zone 4 y n) m c l a d t
  At-set_second m y n d hy ky more is s =
      let small : AreSmall c l a d t =
      record { current = h.small.current; last = h.small.last; first = h.small.first; second = s; target = h.small.target } in
      record {
        fixed = set-fixes zone 4 y k m n (numbers c l a b t) (numbers c l a d t) (omega arith) hy ky more h.fixed
            (changes-second c l a b d t) is (small-at c l a d t small);
        small = small;
      }

  pub At-set_target : (m y : ℕ) (n d : ℤ) → y < 32 → y < k → ((p : ℕ) → p ≢ 5 → p < m → p < k) → d ≡ numbers c l a b t y +ℤ n → IsSmall d →
      At (after_set zone 5 y n) m c l a b d
  At-set_target m y n d hy ky more is s =
      let small : AreSmall c l a b d =
      record { current = h.small.current; last = h.small.last; first = h.small.first; second = h.small.second; target = s } in
      record {
        fixed = set-fixes zone 5 y k m n (numbers c l a b t) (numbers c l a b d) (omega arith) hy ky more h.fixed
            (changes-target c l a b t d) is (small-at c l a b d small);
        small = small;
      }

  pub At-shift_current : (n d : ℤ) → d ≡ c +ℤ n → IsSmall d → At (after_shift zone 1 (Some n) (Some n)) k d l a b t
  At-shift_current n d is s =
      let small : AreSmall d l a b t =
      record { current = s; last = h.small.last; first = h.small.first; second = h.small.second; target = h.small.target } in
      record {
        fixed = Fixes-after_shift zone 1 n (below k) (numbers c l a b t) (numbers d l a b t) (omega arith) h.fixed
            (changes-current c d l a b t) is
            (λ q hq f. kept-small d (numbers d l a b t q) s (small-at d l a b t small q));
        small = small;
      }

  pub At-shift_last : (n d : ℤ) → d ≡ l +ℤ n → IsSmall d → At (after_shift zone 2 (Some n) (Some n)) k c d a b t
  At-shift_last n d is s =
      let small : AreSmall c d a b t =
      record { current = h.small.current; last = s; first = h.small.first; second = h.small.second; target = h.small.target } in
      record {
        fixed = Fixes-after_shift zone 2 n (below k) (numbers c l a b t) (numbers c d a b t) (omega arith) h.fixed
            (changes-last c l d a b t) is
            (λ q hq f. kept-small d (numbers c d a b t q) s (small-at c d a b t small q));
        small = small;
      }

  pub At-shift_target : (n d : ℤ) → d ≡ t +ℤ n → IsSmall d → At (after_shift zone 5 (Some n) (Some n)) k c l a b d
  At-shift_target n d is s =
      let small : AreSmall c l a b d =
      record { current = h.small.current; last = h.small.last; first = h.small.first; second = h.small.second; target = s } in
      record {
        fixed = Fixes-after_shift zone 5 n (below k) (numbers c l a b t) (numbers c l a b d) (omega arith) h.fixed
            (changes-target c l a b t d) is
            (λ q hq f. kept-small d (numbers c l a b d q) s (small-at c l a b d small q));
        small = small;
      }

  pub At-forget : (x : ℕ) → k ≤ x → At (after_forget zone x) k c l a b t
  At-forget x le = record {
    fixed = Fixes-after_forget zone x (below k) (numbers c l a b t) (numbers c l a b t) h.fixed (λ p ne. refl) (not-below x k le);
    small = h.small;
  }
    where
      not-below : (x k : ℕ) → k ≤ x → nat_lt x k ≡ false
      not-below x k le = grind arith

pub Fixes-equal : (zone : Bounds) (fixed : ℕ → Bool) (v w : Numbers) → ((p : ℕ) → fixed p ≡ true → v p ≡ w p) → Fixes zone fixed v →
    Fixes zone fixed w
unfolding Fixes
Fixes-equal zone fixed v w same h p q hp hq fp fq = h p q hp hq fp fq ∙ ap (λ n. Some (n -ℤ v q)) (same p fp) ∙ ap (λ n. Some (w p -ℤ n))
    (same q fq)

pub first-three : (v w : Numbers) → v 0 ≡ w 0 → v 1 ≡ w 1 → v 2 ≡ w 2 → (p : ℕ) → below 3 p ≡ true → v p ≡ w p
first-three v w h0 h1 h2 zero e = h0
first-three v w h0 h1 h2 (suc zero) e = h1
first-three v w h0 h1 h2 (suc (suc zero)) e = h2
first-three v w h0 h1 h2 (suc (suc (suc p))) e = let bad = ltb-true (suc (suc (suc p))) 3 e in absurd (omega arith)

-- what is known of zero, the current line and the last line, whatever was known of addresses
pub At-reset : (zone : Bounds) (k : ℕ) (c l a b t : ℤ) → At zone k c l a b t → 3 ≤ k → At zone 3 c l (pos 0) (pos 0) (pos 0)
At-reset zone k c l a b t h le =
    let three = At-fewer zone k c l a b t h 3 le in
    let zero_small : IsSmall (pos 0) = (omega (arith, ints), omega (arith, ints)) in
    record {
      fixed = Fixes-equal zone (below 3) (numbers c l a b t) (numbers c l (pos 0) (pos 0) (pos 0))
          (first-three (numbers c l a b t) (numbers c l (pos 0) (pos 0) (pos 0)) refl refl refl) three.fixed;
      small = record { current = h.small.current; last = h.small.last; first = zero_small; second = zero_small; target = zero_small };
    }

-- a guard that is true of fixed names changes nothing between fixed names
tighten-stays : (d to c from : ℤ) → d ≤ℤ (to +ℤ c +ℤ from) → IsKept (Some d) → tighten (Some d) (Some to) c (Some from) ≡ Some d
tighten-stays d to c from h k = let low = k.0 in let high = k.1 in grind (arith, ints)

pub At-guard : (zone : Bounds) (k : ℕ) (c l a b t : ℤ) (x y : ℕ) (n : ℤ) → At zone k c l a b t → x < 32 → y < 32 → x < k → y < k →
    (numbers c l a b t x -ℤ numbers c l a b t y) ≤ℤ n → At (after_guard zone x y n) k c l a b t
unfolding Fixes guard_bound
At-guard zone k c l a b t x y n h hx hy kx ky le =
    let v : Numbers = numbers c l a b t in
    record {
      fixed = λ p q hp hq fp fq.
          bound-after_guard zone x y n p q hp hq
          ∙ ap (λ o. tighten o (bound zone p x) n (bound zone y q)) (h.fixed p q hp hq fp fq)
          ∙ ap (λ o. tighten (Some (v p -ℤ v q)) o n (bound zone y q)) (h.fixed p x hp hx fp (lt-ltb x k kx))
          ∙ ap (λ o. tighten (Some (v p -ℤ v q)) (Some (v p -ℤ v x)) n o) (h.fixed y q hy hq (lt-ltb y k ky) fq)
          ∙ tighten-stays (v p -ℤ v q) (v p -ℤ v x) n (v y -ℤ v q) (omega (arith, ints))
          (kept-small (v p) (v q) (small-at c l a b t h.small p) (small-at c l a b t h.small q));
      small = h.small;
    }

-- A NAME THAT IS SET, ASKED WHERE IT LIES

within-clip : (n : ℤ) → n ≤ℤ pos 0 → is_within (clip n) (pos 0) ≡ true
within-clip n h = grind (arith, ints)

beyond-clip : (n : ℤ) → pos 0 <ℤ n → is_within (clip n) (pos 0) ≡ false
beyond-clip n h = grind (arith, ints)

-- how far a name that is set lies above another, clipped
bound-set_row : (zone : Bounds) (x y q : ℕ) (n d : ℤ) → x < 32 → q < 32 → q ≢ x → bound zone y q ≡ Some d →
    bound (after_set zone x y n) x q ≡ clip (d +ℤ n)
bound-set_row zone x y q n d hx hq ne is =
    bound-after_set zone x y n x q hx hq ∙ set_bound-row zone x y n q ne ∙ ap (λ o. raise o (Some n)) is

bound-set_column : (zone : Bounds) (x y p : ℕ) (n d : ℤ) → x < 32 → p < 32 → p ≢ x → bound zone p y ≡ Some d →
    bound (after_set zone x y n) p x ≡ clip (d +ℤ neg_ℤ n)
bound-set_column zone x y p n d hx hp ne is =
    bound-after_set zone x y n p x hp hx ∙ set_bound-column zone x y n p ne ∙ ap (λ o. lower o (Some n)) is

module _ (zone : Bounds) (k : ℕ) (c l a b t : ℤ) (h : At zone k c l a b t) (x y : ℕ) (n : ℤ) (hx : x < 32) (hy : y < 32) (ky : y < k)
    (k3 : 3 ≤ k) (x3 : 3 ≤ x) where
  pub set-not_above : l <ℤ (numbers c l a b t y +ℤ n) → known (after_set zone x y n) x 2 (pos 0) ≡ false
  unfolding known
  set-not_above lt =
      ap (λ o. is_within o (pos 0))
      (bound-set_row zone x y 2 n (numbers c l a b t y -ℤ l) hx (omega arith) (omega arith)
      (At-bound zone k c l a b t y 2 h hy (omega arith) ky (omega arith)))
      ∙ beyond-clip ((numbers c l a b t y -ℤ l) +ℤ n) (omega (arith, ints))

  pub set-not_below : (numbers c l a b t y +ℤ n) <ℤ pos 0 → known (after_set zone x y n) 0 x (pos 0) ≡ false
  unfolding known
  set-not_below lt =
      ap (λ o. is_within o (pos 0))
      (bound-set_column zone x y 0 n (pos 0 -ℤ numbers c l a b t y) hx (omega arith) (omega arith)
      (At-bound zone k c l a b t 0 y h (omega arith) hy (omega arith) ky))
      ∙ beyond-clip ((pos 0 -ℤ numbers c l a b t y) +ℤ neg_ℤ n) (omega (arith, ints))

  pub set-above : (numbers c l a b t y +ℤ n) ≤ℤ l → known (after_set zone x y n) x 2 (pos 0) ≡ true
  unfolding known
  set-above le =
      ap (λ o. is_within o (pos 0))
      (bound-set_row zone x y 2 n (numbers c l a b t y -ℤ l) hx (omega arith) (omega arith)
      (At-bound zone k c l a b t y 2 h hy (omega arith) ky (omega arith)))
      ∙ within-clip ((numbers c l a b t y -ℤ l) +ℤ n) (omega (arith, ints))

  pub set-below : pos 0 ≤ℤ (numbers c l a b t y +ℤ n) → known (after_set zone x y n) 0 x (pos 0) ≡ true
  unfolding known
  set-below le =
      ap (λ o. is_within o (pos 0))
      (bound-set_column zone x y 0 n (pos 0 -ℤ numbers c l a b t y) hx (omega arith) (omega arith)
      (At-bound zone k c l a b t 0 y h (omega arith) hy (omega arith) ky))
      ∙ within-clip ((pos 0 -ℤ numbers c l a b t y) +ℤ neg_ℤ n) (omega (arith, ints))
