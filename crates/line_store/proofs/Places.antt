-- Where a letter is when a line comes in or goes out before it.
use Rattle.std.proofs.Common.{◌≡◌, ◌≢◌, ℕ, ◌+◌, ◌-◌, ◌<◌, ◌≤◌, Bool, true, false, nat_eq, nat_lt, Option, Some, None, if◌then◌else◌, refl, ap, ◌∙◌, sym, arith, eq-eqb, ne_eqb, ⊎_elim}
use Rattle.std.proofs.lemmas.Bool.{cases_lt, cases_eq, cond-true, cond-false, lt-ltb, le-ltb}
use Rattle.line_store.specs.Marks.{is_at}
use Rattle.line_store.specs.Shifts.{opened, closed}

-- another place than this
pub not_at : (place other : ℕ) → other ≢ place → is_at place (Some other) ≡ false
not_at place other h = ne_eqb other place h

pub is_there : (place : ℕ) → is_at place (Some place) ≡ true
is_there place = eq-eqb place place refl

pub opened-low : (at p : ℕ) → p < at → opened at false (Some p) ≡ Some p
opened-low at p h = cond-true (nat_lt p at) (Some p) (Some (p + 1)) (lt-ltb p at h)

pub opened-high : (at p : ℕ) → at ≤ p → opened at false (Some p) ≡ Some (p + 1)
opened-high at p h = cond-false (nat_lt p at) (Some p) (Some (p + 1)) (le-ltb p at h)

-- a letter before the line that came in
pub opened-below : (at place : ℕ) (b : Bool) (o : Option ℕ) → place < at → (b ≡ true → o ≡ None) → is_at place (opened at b o) ≡ is_at place o
opened-below at place true o h k = not_at place at (omega arith) ∙ ap (is_at place) (sym (k refl))
opened-below at place false None h k = refl
opened-below at place false (Some p) h k = ⊎_elim
    (λ l. ap (is_at place) (opened-low at p l))
    (λ l. ap (is_at place) (opened-high at p l) ∙ not_at place (p + 1) (omega arith) ∙ sym (not_at place p (omega arith)))
    (cases_lt p at)

-- the letters of the line that came in
pub opened-there : (at : ℕ) (b : Bool) (o : Option ℕ) → is_at at (opened at b o) ≡ b
opened-there at true o = is_there at
opened-there at false None = refl
opened-there at false (Some p) = ⊎_elim
    (λ l. ap (is_at at) (opened-low at p l) ∙ not_at at p (omega arith))
    (λ l. ap (is_at at) (opened-high at p l) ∙ not_at at (p + 1) (omega arith))
    (cases_lt p at)

-- equal places one further
next_at : (place p : ℕ) → is_at (place + 1) (Some (p + 1)) ≡ is_at place (Some p)
next_at place p = ⊎_elim
    (λ e. eq-eqb (p + 1) (place + 1) (omega arith) ∙ sym (eq-eqb p place e))
    (λ n. ne_eqb (p + 1) (place + 1) (λ e. n (omega arith)) ∙ sym (ne_eqb p place n))
    (cases_eq p place)

-- a letter after the line that came in
pub opened-above : (at place : ℕ) (b : Bool) (o : Option ℕ) → at ≤ place → (b ≡ true → o ≡ None) → is_at (place + 1) (opened at b o) ≡ is_at place o
opened-above at place true o h k = not_at (place + 1) at (omega arith) ∙ ap (is_at place) (sym (k refl))
opened-above at place false None h k = refl
opened-above at place false (Some p) h k = ⊎_elim
    (λ l. ap (is_at (place + 1)) (opened-low at p l) ∙ not_at (place + 1) p (omega arith) ∙ sym (not_at place p (omega arith)))
    (λ l. ap (is_at (place + 1)) (opened-high at p l) ∙ next_at place p)
    (cases_lt p at)

pub closed-there : (at : ℕ) → closed at (Some at) ≡ None
closed-there at = cond-true (nat_eq at at) None (if nat_lt at at then Some at else Some (at - 1)) (eq-eqb at at refl)

pub closed-low : (at p : ℕ) → p < at → closed at (Some p) ≡ Some p
closed-low at p h = cond-false (nat_eq p at) None (if nat_lt p at then Some p else Some (p - 1)) (ne_eqb p at (omega arith))
    ∙ cond-true (nat_lt p at) (Some p) (Some (p - 1)) (lt-ltb p at h)

pub closed-high : (at p : ℕ) → at < p → closed at (Some p) ≡ Some (p - 1)
closed-high at p h = cond-false (nat_eq p at) None (if nat_lt p at then Some p else Some (p - 1)) (ne_eqb p at (omega arith))
    ∙ cond-false (nat_lt p at) (Some p) (Some (p - 1)) (le-ltb p at (omega arith))

-- a letter before the line that went out
pub closed-below : (at place : ℕ) (o : Option ℕ) → place < at → is_at place (closed at o) ≡ is_at place o
closed-below at place None h = refl
closed-below at place (Some p) h = ⊎_elim
    (λ l. ap (is_at place) (closed-low at p l))
    (λ l. ⊎_elim
    (λ e. ap (λ n. is_at place (closed at (Some n))) e ∙ ap (is_at place) (closed-there at) ∙ sym (not_at place p (omega arith)))
    (λ n. ap (is_at place) (closed-high at p (omega arith)) ∙ not_at place (p - 1) (omega arith) ∙ sym (not_at place p (omega arith)))
    (cases_eq p at))
    (cases_lt p at)

-- a letter after it
pub closed-above : (at place : ℕ) (o : Option ℕ) → at ≤ place → is_at place (closed at o) ≡ is_at (place + 1) o
closed-above at place None h = refl
closed-above at place (Some p) h = ⊎_elim
    (λ l. ap (is_at place) (closed-low at p l) ∙ not_at place p (omega arith) ∙ sym (not_at (place + 1) p (omega arith)))
    (λ l. ⊎_elim
    (λ e. ap (λ n. is_at place (closed at (Some n))) e ∙ ap (is_at place) (closed-there at) ∙ sym (not_at (place + 1) p (omega arith)))
    (λ n. ap (is_at place) (closed-high at p (omega arith)) ∙ sym (next_at place (p - 1)) ∙ ap (λ m. is_at (place + 1) (Some m)) (let e : p - 1 + 1 ≡ p = omega arith in e))
    (cases_eq p at))
    (cases_lt p at)
