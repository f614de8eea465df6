-- Known differences stay known.
use Rattle.std.proofs.Common.{◌≡◌, ◌≢◌, ◌<◌, ℕ, ℤ, pos, neg_ℤ, ◌+ℤ◌, ◌-ℤ◌, Bool, true, false, cond, eqb, Option, Some, arith, refl, ◌∙◌, sym, ap, inl, inr}
use Rattle.std.proofs.lemmas.Int.{ints}
use Rattle.std.proofs.lemmas.Bool.Decides.{eqb_tells}
use Rattle.zones.specs.Bound.{Obeys, IsKept, raise, lower, greater_of, widen_bound, widen_diagonal}
use Rattle.zones.specs.Zone.{Bounds, Numbers, bound, Holds, ChangesOnly}
use Rattle.zones.specs.Steps.{any_zone, any_bound, after_set, after_shift, after_forget, join_of, join_bound, widening_of, widening_bound}
use Rattle.zones.specs.Differences.{IsDifference, Fixes, with_name}
use Rattle.zones.proofs.Formulas.{bound-any_zone, bound-after_set, bound-after_shift, bound-after_forget, bound-join_of, bound-widening_of, set_bound-row, set_bound-column, set_bound-corner, set_bound-other, shift_bound-row, shift_bound-column, shift_bound-corner, shift_bound-other, forget_bound-other}
use Rattle.zones.proofs.Kept.{clip-is, IsKept-negative}

raise-is : (b : Option ℤ) (k c d : ℤ) → b ≡ Some k → k +ℤ c ≡ d → IsKept (Some d) → raise b (Some c) ≡ Some d
raise-is b k c d e f h = rw e (clip-is (k +ℤ c) d f h)

lower-is : (b : Option ℤ) (k c d : ℤ) → b ≡ Some k → k -ℤ c ≡ d → IsKept (Some d) → lower b (Some c) ≡ Some d
lower-is b k c d e f h = rw e (clip-is (k +ℤ neg_ℤ c) d (omega (arith, ints)) h)

-- Pairs

pub IsDifference-after_set : (zone : Bounds) (x y q : ℕ) (c d : ℤ) → x < 32 → q < 32 → q ≢ x →
    IsDifference zone y q d → IsKept (Some (d +ℤ c)) → IsDifference (after_set zone x y c) x q (d +ℤ c)
IsDifference-after_set zone x y q c d hx hq n known kept = (
  bound-after_set zone x y c x q hx hq ∙ set_bound-row zone x y c q n ∙ raise-is (bound zone y q) d c (d +ℤ c) known.0 refl kept,
  bound-after_set zone x y c q x hq hx ∙ set_bound-column zone x y c q n
      ∙ lower-is (bound zone q y) (neg_ℤ d) c (neg_ℤ (d +ℤ c)) known.1 (omega (arith, ints)) (IsKept-negative (d +ℤ c) _ kept refl),
)

pub IsDifference-after_set_other : (zone : Bounds) (x y p q : ℕ) (c d : ℤ) → p < 32 → q < 32 → p ≢ x → q ≢ x →
    IsDifference zone p q d → IsDifference (after_set zone x y c) p q d
IsDifference-after_set_other zone x y p q c d hp hq n m known = (
  bound-after_set zone x y c p q hp hq ∙ set_bound-other zone x y c p q n m ∙ known.0,
  bound-after_set zone x y c q p hq hp ∙ set_bound-other zone x y c q p m n ∙ known.1,
)

pub IsDifference-after_shift : (zone : Bounds) (x q : ℕ) (c d : ℤ) → x < 32 → q < 32 → q ≢ x →
    IsDifference zone x q d → IsKept (Some (d +ℤ c)) → IsDifference (after_shift zone x (Some c) (Some c)) x q (d +ℤ c)
IsDifference-after_shift zone x q c d hx hq n known kept = (
  bound-after_shift zone x (Some c) (Some c) x q hx hq ∙ shift_bound-row zone x (Some c) (Some c) q n
      ∙ raise-is (bound zone x q) d c (d +ℤ c) known.0 refl kept,
  bound-after_shift zone x (Some c) (Some c) q x hq hx ∙ shift_bound-column zone x (Some c) (Some c) q n
      ∙ lower-is (bound zone q x) (neg_ℤ d) c (neg_ℤ (d +ℤ c)) known.1 (omega (arith, ints)) (IsKept-negative (d +ℤ c) _ kept refl),
)

pub IsDifference-after_shift_other : (zone : Bounds) (x p q : ℕ) (low high : Option ℤ) (d : ℤ) → p < 32 → q < 32 → p ≢ x → q ≢ x →
    IsDifference zone p q d → IsDifference (after_shift zone x low high) p q d
IsDifference-after_shift_other zone x p q low high d hp hq n m known = (
  bound-after_shift zone x low high p q hp hq ∙ shift_bound-other zone x low high p q n m ∙ known.0,
  bound-after_shift zone x low high q p hq hp ∙ shift_bound-other zone x low high q p m n ∙ known.1,
)

-- a known difference is that of all numbers that the zone holds of
pub IsDifference-Holds : (zone : Bounds) (number : Numbers) (x y : ℕ) (d : ℤ) → x < 32 → y < 32 →
    Holds zone number → IsDifference zone x y d → number x -ℤ number y ≡ d
unfolding Holds
IsDifference-Holds zone number x y d hx hy holds known =
    let up : Obeys (number x -ℤ number y) (Some d) = rw known.0 at (holds x y hx hy) in
    let down : Obeys (number y -ℤ number x) (Some (neg_ℤ d)) = rw known.1 at (holds y x hy hx) in
    omega (arith, ints)

-- Names

pub Fixes-IsDifference : (zone : Bounds) (fixed : ℕ → Bool) (number : Numbers) (x y : ℕ) → x < 32 → y < 32 →
    Fixes zone fixed number → fixed x ≡ true → fixed y ≡ true → IsDifference zone x y (number x -ℤ number y)
unfolding Fixes
Fixes-IsDifference zone fixed number x y hx hy fixes fx fy =
    let e : number y -ℤ number x ≡ neg_ℤ (number x -ℤ number y) = omega (arith, ints) in
    (fixes x y hx hy fx fy, fixes y x hy hx fy fx ∙ ap (λ d. Some d) e)

pub Fixes-fewer : (zone : Bounds) (fixed fewer : ℕ → Bool) (number : Numbers) →
    ((p : ℕ) → fewer p ≡ true → fixed p ≡ true) → Fixes zone fixed number → Fixes zone fewer number
unfolding Fixes
Fixes-fewer zone fixed fewer number h fixes p q hp hq fp fq = fixes p q hp hq (h p fp) (h q fq)

any_bound-same : (p q : ℕ) → p ≡ q → any_bound p q ≡ Some (pos 0)
any_bound-same p q e = elim (eqb_tells p q) [ inl g ↦ rw g.0 refl | inr g ↦ absurd (g.1 e) ]

-- before any step each name is fixed by itself
pub Fixes-any_zone : (fixed : ℕ → Bool) (number : Numbers) → ((p q : ℕ) → fixed p ≡ true → fixed q ≡ true → p ≡ q) → Fixes any_zone fixed number
unfolding Fixes
Fixes-any_zone fixed number one p q hp hq fp fq =
    let e : p ≡ q = one p q fp fq in
    let d : number p ≡ number q = ap number e in
    let zero : number p -ℤ number q ≡ pos 0 = omega (arith, ints) in
    bound-any_zone p q hp hq ∙ any_bound-same p q e ∙ ap (λ n. Some n) (sym zero)

-- the name that is set, or one that was fixed
was_fixed : (x p : ℕ) (fixed : ℕ → Bool) → p ≢ x → with_name x fixed p ≡ true → fixed p ≡ true
was_fixed x p fixed n h = elim (eqb_tells p x) [ inl e ↦ absurd (n e.1) | inr e ↦ rw e.0 at h ]

pub Fixes-after_set : (zone : Bounds) (x y : ℕ) (c : ℤ) (fixed : ℕ → Bool) (before after : Numbers) → x < 32 → y < 32 → fixed y ≡ true →
    Fixes zone fixed before → ChangesOnly x before after → after x ≡ before y +ℤ c →
    ((q : ℕ) → q < 32 → fixed q ≡ true → IsKept (Some (after x -ℤ after q))) →
    Fixes (after_set zone x y c) (with_name x fixed) after
unfolding Fixes
Fixes-after_set zone x y c fixed before after hx hy fy fixes same e kept p q hp hq fp fq =
    bound-after_set zone x y c p q hp hq ∙
    (elim (eqb_tells p x) [
      | inl i ↦ (elim (eqb_tells q x) [
        | inl j ↦ rw (i.1, j.1, set_bound-corner zone x y c) (ap (λ d. Some d) (omega (arith, ints)))
        | inr j ↦
            let s : after q ≡ before q = same q j.1 in
            let f : fixed q ≡ true = was_fixed x q fixed j.1 fq in
            rw i.1 (set_bound-row zone x y c q j.1 ∙
            raise-is (bound zone y q) (before y -ℤ before q) c (after x -ℤ after q) (fixes y q hy hq fy f) (omega (arith, ints)) (kept q hq f))
      ])
      | inr i ↦
          (let r : after p ≡ before p = same p i.1 in
          let g : fixed p ≡ true = was_fixed x p fixed i.1 fp in
          elim (eqb_tells q x) [
            | inl j ↦ rw j.1 (set_bound-column zone x y c p i.1 ∙
                lower-is (bound zone p y) (before p -ℤ before y) c (after p -ℤ after x) (fixes p y hp hy g fy) (omega (arith, ints))
                (IsKept-negative (after x -ℤ after p) _ (kept p hp g) (omega (arith, ints))))
            | inr j ↦
                let s : after q ≡ before q = same q j.1 in
                let f : fixed q ≡ true = was_fixed x q fixed j.1 fq in
                set_bound-other zone x y c p q i.1 j.1 ∙ fixes p q hp hq g f ∙ ap (λ d. Some d) (omega (arith, ints))
          ])
    ])

pub Fixes-after_shift : (zone : Bounds) (x : ℕ) (c : ℤ) (fixed : ℕ → Bool) (before after : Numbers) → x < 32 →
    Fixes zone fixed before → ChangesOnly x before after → after x ≡ before x +ℤ c →
    ((q : ℕ) → q < 32 → fixed q ≡ true → IsKept (Some (after x -ℤ after q))) →
    Fixes (after_shift zone x (Some c) (Some c)) fixed after
unfolding Fixes
Fixes-after_shift zone x c fixed before after hx fixes same e kept p q hp hq fp fq =
    bound-after_shift zone x (Some c) (Some c) p q hp hq ∙
    (elim (eqb_tells p x) [
      | inl i ↦
          (let fx : fixed x ≡ true = rw i.1 at fp in
          elim (eqb_tells q x) [
            | inl j ↦ rw (i.1, j.1, shift_bound-corner zone x (Some c) (Some c)) (fixes x x hx hx fx fx ∙ ap (λ d. Some d) (omega (arith, ints)))
            | inr j ↦
                let s : after q ≡ before q = same q j.1 in
                rw i.1 (shift_bound-row zone x (Some c) (Some c) q j.1 ∙
                raise-is (bound zone x q) (before x -ℤ before q) c (after x -ℤ after q) (fixes x q hx hq fx fq) (omega (arith, ints)) (kept q hq fq))
          ])
      | inr i ↦
          (let r : after p ≡ before p = same p i.1 in
          elim (eqb_tells q x) [
            | inl j ↦
                let fx : fixed x ≡ true = rw j.1 at fq in
                rw j.1 (shift_bound-column zone x (Some c) (Some c) p i.1 ∙
                lower-is (bound zone p x) (before p -ℤ before x) c (after p -ℤ after x) (fixes p x hp hx fp fx) (omega (arith, ints))
                (IsKept-negative (after x -ℤ after p) _ (kept p hp fp) (omega (arith, ints))))
            | inr j ↦
                let s : after q ≡ before q = same q j.1 in
                shift_bound-other zone x (Some c) (Some c) p q i.1 j.1 ∙ fixes p q hp hq fp fq ∙ ap (λ d. Some d) (omega (arith, ints))
          ])
    ])

pub Fixes-after_forget : (zone : Bounds) (x : ℕ) (fixed : ℕ → Bool) (before after : Numbers) →
    Fixes zone fixed before → ChangesOnly x before after → fixed x ≡ false → Fixes (after_forget zone x) fixed after
unfolding Fixes
Fixes-after_forget zone x fixed before after fixes same f p q hp hq fp fq =
    let n : p ≢ x = λ i. let h = rw i at fp in let bad : false ≡ true = sym f ∙ h in cc in
    let m : q ≢ x = λ i. let h = rw i at fq in let bad : false ≡ true = sym f ∙ h in cc in
    let r : after p ≡ before p = same p n in
    let s : after q ≡ before q = same q m in
    bound-after_forget zone x p q hp hq ∙ forget_bound-other zone x p q n m ∙ fixes p q hp hq fp fq ∙ ap (λ d. Some d) (omega (arith, ints))

greater_of-same : (c : ℤ) → greater_of (Some c) (Some c) ≡ Some c
greater_of-same c = grind (arith, ints)

widen_bound-same : (c : ℤ) → widen_bound (Some c) (Some c) ≡ Some c
widen_bound-same c = grind (arith, ints)

widen_diagonal-same : (c : ℤ) → widen_diagonal (Some c) (Some c) ≡ Some c
widen_diagonal-same c = grind (arith, ints)

pub Fixes-join_of : (one other : Bounds) (fixed : ℕ → Bool) (number : Numbers) → Fixes one fixed number → Fixes other fixed number → Fixes (join_of one other) fixed number
unfolding Fixes join_bound
Fixes-join_of one other fixed number h k p q hp hq fp fq =
    bound-join_of one other p q hp hq ∙ rw (h p q hp hq fp fq, k p q hp hq fp fq) (greater_of-same (number p -ℤ number q))

pub Fixes-widening_of : (old new : Bounds) (fixed : ℕ → Bool) (number : Numbers) → Fixes old fixed number → Fixes new fixed number → Fixes (widening_of old new) fixed number
unfolding Fixes widening_bound
Fixes-widening_of old new fixed number h k p q hp hq fp fq =
    bound-widening_of old new p q hp hq ∙ rw (h p q hp hq fp fq, k p q hp hq fp fq)
    (elim (eqb p q) as (λ r. cond r (widen_diagonal (Some (number p -ℤ number q)) (Some (number p -ℤ number q))) (widen_bound (Some (number p -ℤ number q)) (Some (number p -ℤ number q))) ≡ Some (number p -ℤ number q)) [
      | true ↦ widen_diagonal-same (number p -ℤ number q)
      | false ↦ widen_bound-same (number p -ℤ number q)
    ])
