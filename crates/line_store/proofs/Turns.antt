-- Lists that are turned: which element stands where, and what comes of a turn after another.
use Rattle.std.proofs.Common.{◌≡◌, ◌≢◌, ◌⊎◌, ℕ, ◌+◌, ◌-◌, ◌<◌, ◌≤◌, List, [], ◌∷◌, ◌++◌, take, drop, if◌then◌else◌, length, get_or, set, remove, nat_lt, ap, ◌∙◌, sym, arith, inl, inr, get_or-set_same, get_or-set_other, length-set, add-one, ⊎_elim}
use Rattle.std.proofs.lemmas.Bool.{cases_lt, cases_eq, cond-true, cond-false, lt-ltb, le-ltb}
use Rattle.std.proofs.lemmas.List.{same_lists, get_or-drop, get_or-take, get_or_append_left, get_or-append_right, length-append, length-drop, length-take-le}
use Rattle.std.proofs.lemmas.List.Edits.{remove-append_right}
use Rattle.line_store.specs.Gaps.{turned}

pub length-turned : {X : Type 0} (count : ℕ) (list : List X) → count ≤ length list → length (turned count list) ≡ length list
length-turned count list h = omega (arith, length-append (drop count list) (take count list), length-drop count list, length-take-le count list h)

-- the elements that come first
pub turned-low : {X : Type 0} (count : ℕ) (list : List X) (i : ℕ) (d : X) → count ≤ length list → i < length list - count → get_or (turned count list) i d ≡ get_or list (i + count) d
turned-low count list i d h l =
    get_or_append_left (drop count list) (take count list) d i (omega (arith, length-drop count list))
    ∙ get_or-drop count list i d ∙ ap (λ n. get_or list n d) (let e : count + i ≡ i + count = omega arith in e)

-- and those that come last
pub turned-high : {X : Type 0} (count : ℕ) (list : List X) (i : ℕ) (d : X) → count ≤ length list → length list - count ≤ i → i < length list →
    get_or (turned count list) i d ≡ get_or list (i - (length list - count)) d
turned-high count list i d h l b =
    get_or-append_right (drop count list) (take count list) (length list - count) i d (length-drop count list) l
    ∙ get_or-take count list (i - (length list - count)) d (omega arith)

-- where each element of a turned list stands
pub get_or-turned : {X : Type 0} (count : ℕ) (list : List X) (i place : ℕ) (d : X) → count ≤ length list → i < length list →
    place ≡ (if nat_lt i (length list - count) then i + count else i - (length list - count)) → get_or (turned count list) i d ≡ get_or list place d
get_or-turned count list i place d h b e =
    let n = length list - count in
    ⊎_elim
    (λ l. turned-low count list i d h l ∙ ap (λ k. get_or list k d) (sym (e ∙ cond-true (nat_lt i n) (i + count) (i - n) (lt-ltb i n l))))
    (λ l. turned-high count list i d h l b ∙ ap (λ k. get_or list k d) (sym (e ∙ cond-false (nat_lt i n) (i + count) (i - n) (le-ltb i n l))))
    (cases_lt i n)

-- a turn after another, where both together are one, or one beyond a whole turn
turned-twice : {X : Type 0} (p q a : ℕ) (list : List X) → p ≤ length list → q ≤ length list → a ≤ length list → (p + q ≡ a) ⊎ (p + q ≡ length list + a) →
    turned p (turned q list) ≡ turned a list
turned-twice p q a list hp hq ha sum =
    let n = length list in
    let inner : length (turned q list) ≡ n = length-turned q list hq in
    let outer : length (turned p (turned q list)) ≡ n = length-turned p (turned q list) (omega arith) ∙ inner in
    same_lists (turned p (turned q list)) (turned a list) (outer ∙ sym (length-turned a list ha))
    (λ k d b. ⊎_elim
    (λ (lp : k < length (turned q list) - p).
    turned-low p (turned q list) k d (omega arith) lp ∙ ⊎_elim
    (λ (lq : k + p < n - q). turned-low q list (k + p) d hq lq ∙ ⊎_elim
    (λ s. sym (turned-low a list k d ha (omega arith) ∙ ap (λ m. get_or list m d) (let e : k + a ≡ k + p + q = omega arith in e)))
    (λ s. absurd (omega arith)) sum)
    (λ (lq : n - q ≤ k + p). turned-high q list (k + p) d hq lq (omega arith) ∙ ⊎_elim
    (λ s. sym (turned-high a list k d ha (omega arith) (omega arith) ∙ ap (λ m. get_or list m d) (let e : k - (n - a) ≡ k + p - (n - q) = omega arith in e)))
    (λ s. sym (turned-low a list k d ha (omega arith) ∙ ap (λ m. get_or list m d) (let e : k + a ≡ k + p - (n - q) = omega arith in e))) sum)
    (cases_lt (k + p) (n - q)))
    (λ (lp : length (turned q list) - p ≤ k).
    let j = k - (length (turned q list) - p) in
    turned-high p (turned q list) k d (omega arith) lp (omega arith) ∙ ⊎_elim
    (λ (lq : j < n - q). turned-low q list j d hq lq ∙ ⊎_elim
    (λ s. sym (turned-high a list k d ha (omega arith) (omega arith) ∙ ap (λ m. get_or list m d) (let e : k - (n - a) ≡ j + q = omega arith in e)))
    (λ s. ⊎_elim
    (λ la. sym (turned-low a list k d ha la ∙ ap (λ m. get_or list m d) (let e : k + a ≡ j + q = omega arith in e)))
    (λ la. absurd (omega arith))
    (cases_lt k (n - a))) sum)
    (λ (lq : n - q ≤ j). turned-high q list j d hq lq (omega arith) ∙ ⊎_elim
    (λ s. absurd (omega arith))
    (λ s. sym (turned-high a list k d ha (omega arith) (omega arith) ∙ ap (λ m. get_or list m d) (let e : k - (n - a) ≡ j - (n - q) = omega arith in e))) sum)
    (cases_lt j (n - q)))
    (cases_lt k (length (turned q list) - p)))

-- the gap moves up: as many elements as it passes go from the front of the ring to its end
pub gap-up : {X : Type 0} (after by : ℕ) (list : List X) → after ≤ length list → by ≤ after → turned (after - by) (drop by list ++ take by list) ≡ turned after list
gap-up after by list h k = turned-twice (after - by) by after list (omega arith) (omega arith) h (inl (omega arith))

-- and down
pub gap-down : {X : Type 0} (after by : ℕ) (list : List X) → after + by ≤ length list →
    turned (after + by) (drop (length list - by) list ++ take (length list - by) list) ≡ turned after list
gap-down after by list h = turned-twice (after + by) (length list - by) after list h (omega arith) (omega arith) (inr (omega arith))

-- an element goes out after the gap
pub turned-pop : {X : Type 0} (after : ℕ) (x : X) (list : List X) → after ≤ length list → turned after list ≡ remove (turned (after + 1) (x ∷ list)) (length list - after)
turned-pop after x list h =
    let front = drop after list in
    let n : length front ≡ length list - after = length-drop after list in
    sym (ap (λ m. remove (turned m (x ∷ list)) (length list - after)) (add-one after)
    ∙ remove-append_right front (x ∷ take after list) (length list - after) (length list - after) n (omega arith)
    ∙ ap (λ m. front ++ remove (x ∷ take after list) m) (let e : (length list - after) - (length list - after) ≡ 0 = omega arith in e))

-- whether a place in the ring is one of those that come first or last
place-cases : (count n i place : ℕ) → place ≡ (if nat_lt i (n - count) then i + count else i - (n - count)) →
    ((i < n - count) × (place ≡ i + count)) ⊎ ((n - count ≤ i) × (place ≡ i - (n - count)))
place-cases count n i place e = ⊎_elim
    (λ l. inl (l, e ∙ cond-true (nat_lt i (n - count)) (i + count) (i - (n - count)) (lt-ltb i (n - count) l)))
    (λ l. inr (l, e ∙ cond-false (nat_lt i (n - count)) (i + count) (i - (n - count)) (le-ltb i (n - count) l)))
    (cases_lt i (n - count))

-- an element is exchanged
pub turned-set : {X : Type 0} (count : ℕ) (list : List X) (i place : ℕ) (x : X) → count ≤ length list → i < length list →
    place ≡ (if nat_lt i (length list - count) then i + count else i - (length list - count)) → turned count (set list place x) ≡ set (turned count list) i x
turned-set count list i place x h b e =
    let long : length (set list place x) ≡ length list = length-set list place x in
    let turn : length (turned count list) ≡ length list = length-turned count list h in
    same_lists (turned count (set list place x)) (set (turned count list) i x)
    (length-turned count (set list place x) (omega arith) ∙ long ∙ sym (length-set (turned count list) i x ∙ turn))
    (λ k d in_it.
    let n = length list in
    let inside : k < n = omega (arith, length-turned count (set list place x) (omega arith)) in
    let there : place < n = ⊎_elim (λ c. let f : place ≡ i + count = c.1 in let g : i < n - count = c.0 in omega arith) (λ c. let f : place ≡ i - (n - count) = c.1 in let g : n - count ≤ i = c.0 in omega arith) (place-cases count n i place e) in
    ⊎_elim
    (λ same.
    ap (λ m. get_or (turned count (set list place x)) m d) same
    ∙ get_or-turned count (set list place x) i place d (omega arith) (omega arith) (e ∙ ap (λ m. if nat_lt i (m - count) then i + count else i - (m - count)) (sym long))
    ∙ get_or-set_same list place x d there
    ∙ sym (ap (λ m. get_or (set (turned count list) i x) m d) same ∙ get_or-set_same (turned count list) i x d (omega arith)))
    (λ other. ⊎_elim
    (λ l.
    let apart : k + count ≢ place = ⊎_elim (λ c m. let f : place ≡ i + count = c.1 in other (omega arith)) (λ c m. let f : place ≡ i - (n - count) = c.1 in let g : n - count ≤ i = c.0 in absurd (omega arith)) (place-cases count n i place e) in
    turned-low count (set list place x) k d (omega arith) (omega arith) ∙ get_or-set_other list place (k + count) x d apart
    ∙ sym (get_or-set_other (turned count list) i k x d other ∙ turned-low count list k d h l))
    (λ l.
    let apart : k - (n - count) ≢ place = ⊎_elim (λ c m. let f : place ≡ i + count = c.1 in absurd (omega arith)) (λ c m. let f : place ≡ i - (n - count) = c.1 in let g : n - count ≤ i = c.0 in other (omega arith)) (place-cases count n i place e) in
    turned-high count (set list place x) k d (omega arith) (omega arith) (omega arith)
    ∙ ap (λ m. get_or (set list place x) (k - (m - count)) d) long
    ∙ get_or-set_other list place (k - (n - count)) x d apart
    ∙ sym (get_or-set_other (turned count list) i k x d other ∙ turned-high count list k d h l inside))
    (cases_lt k (n - count)))
    (cases_eq k i))
