-- Writes into a table: which bounds are new after one, and which are as before.
use Rattle.std.proofs.Common.{◌≡◌, ◌≢◌, ◌<◌, ◌+◌, ◌*◌, ◌==◌, if◌then◌else◌, ℕ, List, get_or, set, length, Option, None, Some, ℤ, arith, ◌∙◌, ap, sym, refl, inl, inr, below_more, get_or-set_other, get_or-set_same}
use Rattle.std.proofs.lemmas.Bool.Decides.{eqb_tells}
use Rattle.zones.specs.Bound.{IsKept, tighten, clip_bound, raise}
use Rattle.zones.specs.Zone.{Bounds, bound}
use Rattle.zones.specs.Steps.{guard_bound, put_bound}
use Rattle.zones.proofs.Kept.{clip-is}

pub bound-set_same : (table : Bounds) (p q : ℕ) (v : Option ℤ) → 32 * p + q < length table → bound (set table (32 * p + q) v) p q ≡ v
unfolding bound
bound-set_same table p q v h = get_or-set_same table (32 * p + q) v None h

-- a write changes no other row, and no other column
pub bound-set_row : (table : Bounds) (p q a b : ℕ) (v : Option ℤ) → q < 32 → b < 32 → a ≢ p → bound (set table (32 * p + q) v) a b ≡ bound table a b
unfolding bound
bound-set_row table p q a b v hq hb n = get_or-set_other table (32 * p + q) (32 * a + b) v None (omega arith)

pub bound-set_column : (table : Bounds) (p q a b : ℕ) (v : Option ℤ) → q < 32 → b < 32 → b ≢ q → bound (set table (32 * p + q) v) a b ≡ bound table a b
unfolding bound
bound-set_column table p q a b v hq hb n = get_or-set_other table (32 * p + q) (32 * a + b) v None (omega arith)

-- a write on the diagonal changes nothing beside it
pub bound-set_diagonal : (table : Bounds) (p a b : ℕ) (v : Option ℤ) → p < 32 → b < 32 → a ≢ b → bound (set table (32 * p + p) v) a b ≡ bound table a b
unfolding bound
bound-set_diagonal table p a b v hp hb n = get_or-set_other table (32 * p + p) (32 * a + b) v None (omega arith)

-- one more bound of a column that is being written, and of a row
pub column-set : (table : Bounds) (column_at : ℕ → Option ℤ) (p x : ℕ) (v : Option ℤ) → x < 32 → 32 * p + x < length table →
    v ≡ column_at p → ((a : ℕ) → a < p → bound table a x ≡ column_at a) →
    (a : ℕ) → a < p + 1 → bound (set table (32 * p + x) v) a x ≡ column_at a
column-set table column_at p x v hx h e below =
    below_more (λ a. bound (set table (32 * p + x) v) a x ≡ column_at a) p
    (λ a l. bound-set_row table p x a x v hx hx (omega arith) ∙ below a l)
    (bound-set_same table p x v h ∙ e)

pub row-set : (table : Bounds) (row_at : ℕ → Option ℤ) (x q : ℕ) (v : Option ℤ) → q < 32 → 32 * x + q < length table →
    v ≡ row_at q → ((b : ℕ) → b < q → bound table x b ≡ row_at b) →
    (b : ℕ) → b < q + 1 → bound (set table (32 * x + q) v) x b ≡ row_at b
row-set table row_at x q v hq h e below =
    below_more (λ b. bound (set table (32 * x + q) v) x b ≡ row_at b) q
    (λ b l. bound-set_column table x q x b v hq (omega arith) (omega arith) ∙ below b l)
    (bound-set_same table x q v h ∙ e)

-- a bound of which it is known in which row and in which column it lies
pub cross-cases : (x p q : ℕ) (v in_row in_column elsewhere : Option ℤ) → (p ≡ x → v ≡ in_row) → (p ≢ x → q ≡ x → v ≡ in_column) →
    (p ≢ x → q ≢ x → v ≡ elsewhere) → v ≡ (if p == x then in_row else if q == x then in_column else elsewhere)
cross-cases x p q v in_row in_column elsewhere r c e =
    elim (eqb_tells p x) [
      | inl t ↦ rw t.0 (r t.1)
      | inr t ↦ rw t.0 (elim (eqb_tells q x) [ inl u ↦ rw u.0 (c t.1 u.1) | inr u ↦ rw u.0 (e t.1 u.1) ])
    ]

-- a row and a column that formulas give, once the bound where they meet is written too
pub cross-is : (old new : Bounds) (x : ℕ) (v : Option ℤ) (row_at column_at : ℕ → Option ℤ) → x < 32 → length new ≡ 1024 →
    ((q : ℕ) → q < 32 → q ≢ x → bound new x q ≡ row_at q) → ((p : ℕ) → p < 32 → p ≢ x → bound new p x ≡ column_at p) →
    ((p q : ℕ) → p < 32 → q < 32 → p ≢ x → q ≢ x → bound new p q ≡ bound old p q) → (p q : ℕ) → p < 32 → q < 32 →
    bound (set new (32 * x + x) v) p q ≡ (if p == x then (if q == x then v else row_at q) else if q == x then column_at p else bound old p q)
cross-is old new x v row_at column_at hx size rows columns others p q hp hq =
    cross-cases x p q _ _ _ _
    (λ e. rw e (elim (eqb_tells q x) [
      | inl t ↦ rw (t.0, t.1) (bound-set_same new x x v (omega arith))
      | inr t ↦ rw t.0 (bound-set_column new x x x q v hx hq t.1 ∙ rows q hq t.1)
    ]))
    (λ n e. rw e (bound-set_row new x x p x v hx hx n ∙ columns p hp n))
    (λ n m. bound-set_row new x x p q v hx hq n ∙ others p q hp hq n m)

-- by an unbounded number each bound becomes any
pub raise-unbounded : (b : Option ℤ) → raise b None ≡ None
raise-unbounded None = refl
raise-unbounded (Some n) = refl

-- where no way leads, a kept bound stays
pub tighten-no_way_to : (direct : Option ℤ) (c : ℤ) (from : Option ℤ) → IsKept direct → tighten direct None c from ≡ direct
tighten-no_way_to None c from h = refl
tighten-no_way_to (Some d) c from h = clip-is d d refl h

pub tighten-no_way_from : (direct : Option ℤ) (to c : ℤ) → IsKept direct → tighten direct (Some to) c None ≡ direct
tighten-no_way_from None to c h = refl
tighten-no_way_from (Some d) to c h = clip-is d d refl h

pub tighten-no_way : (direct to : Option ℤ) (c : ℤ) → IsKept direct → tighten direct to c None ≡ direct
tighten-no_way direct None c h = tighten-no_way_to direct c None h
tighten-no_way direct (Some to) c h = tighten-no_way_from direct to c h

-- offsets that are equal tighten alike
pub tighten-same : (direct from : Option ℤ) (to to_too c c_too : ℤ) → to ≡ to_too → c ≡ c_too → tighten direct (Some to) c from ≡ tighten direct (Some to_too) c_too from
tighten-same direct from to to_too c c_too e h = ap (λ t. tighten direct (Some t) c from) e ∙ ap (λ n. tighten direct (Some to_too) n from) h

-- one row of a guard, where `table` has the row as it was before the step
pub guard_row-tightened : (old table new row : List (Option ℤ)) (x y p : ℕ) (to c : ℤ) → x < 32 →
    ((b : ℕ) → b < 32 → bound table p b ≡ bound old p b) → bound table p x ≡ Some to →
    ((q : ℕ) → q < 32 → get_or row q None ≡ bound old y q) →
    ((q : ℕ) → q < 32 → bound new p q ≡ tighten (bound table p q) (Some to) c (get_or row q None)) →
    (b : ℕ) → b < 32 → bound new p b ≡ guard_bound old x y c p b
unfolding guard_bound
guard_row-tightened old table new row x y p to c hx same at rows here b hb =
    here b hb ∙ ap (λ d. tighten d (Some to) c (get_or row b None)) (same b hb)
    ∙ ap (λ t. tighten (bound old p b) t c (get_or row b None)) (sym at ∙ same x hx)
    ∙ ap (λ f. tighten (bound old p b) (bound old p x) c f) (rows b hb)

pub guard_row-left : (old table : List (Option ℤ)) (x y p : ℕ) (c : ℤ) → x < 32 → ((q : ℕ) → IsKept (bound old p q)) →
    ((b : ℕ) → b < 32 → bound table p b ≡ bound old p b) → bound table p x ≡ None →
    (b : ℕ) → b < 32 → bound table p b ≡ guard_bound old x y c p b
unfolding guard_bound
guard_row-left old table x y p c hx kept same at b hb =
    same b hb ∙ sym (tighten-no_way_to (bound old p b) c (bound old y b) (kept b))
    ∙ ap (λ t. tighten (bound old p b) t c (bound old y b)) (sym at ∙ same x hx)

-- one bound is replaced
pub put_bound-set : (table : Bounds) (x y : ℕ) (number : Option ℤ) → x < 32 → y < 32 → length table ≡ 1024 →
    (p q : ℕ) → p < 32 → q < 32 → bound (set table (32 * x + y) (clip_bound number)) p q ≡ put_bound table x y number p q
unfolding put_bound
put_bound-set table x y number hx hy size p q hp hq =
    elim (eqb_tells p x) [
      | inl t ↦ elim (eqb_tells q y) [
        | inl u ↦ rw (t.0, u.0, t.1, u.1) (bound-set_same table x y _ (omega arith))
        | inr u ↦ rw (t.0, u.0) (bound-set_column table x y p q _ hy hq u.1)
      ]
      | inr t ↦ rw t.0 (bound-set_row table x y p q _ hy hq t.1)
    ]
