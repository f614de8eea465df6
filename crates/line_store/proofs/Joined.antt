-- Lists that are joined: where each element stands, and what comes of a change of one list.
use Rattle.std.proofs.Common.{◌≡◌, ℕ, zero, suc, ◌+◌, ◌-◌, ◌<◌, ◌≤◌, List, [], ◌∷◌, ◌++◌, length, get_or, set, insert, remove, refl, ap, ◌∙◌, sym, arith, add-one, append_assoc, length-set, take, ⊎_elim}
use Rattle.std.proofs.lemmas.Bool.{cases_lt}
use Rattle.std.proofs.lemmas.List.{get_or_default, get_or_append_left, get_or-append_right, set-append_left, set-append_right, length-append}
use Rattle.std.proofs.lemmas.List.Edits.{insert-append_left, insert-append_right, remove-append_left, remove-append_right, length-insert}
use Rattle.line_store.specs.Chunks.{joined, lines_before}

-- what stands before the next chunk
before_next : {X : Type 0} (k : ℕ) (chunks : List (List X)) → k < length chunks → lines_before (suc k) chunks ≡ lines_before k chunks + length (get_or chunks k [])
before_next k [] h = absurd (omega arith)
before_next zero (chunk ∷ chunks) h = omega arith
before_next (suc k) (chunk ∷ chunks) h = let e = before_next k chunks (omega arith) in omega arith

pub before-next : {X : Type 0} (k : ℕ) (chunks : List (List X)) → k < length chunks → lines_before (k + 1) chunks ≡ lines_before k chunks + length (get_or chunks k [])
before-next k chunks h = ap (λ n. lines_before n chunks) (add-one k) ∙ before_next k chunks h

-- all chunks have all elements
pub before-all : {X : Type 0} (chunks : List (List X)) → lines_before (length chunks) chunks ≡ length (joined chunks)
before-all [] = refl
before-all (chunk ∷ chunks) = omega (arith, before-all chunks, length-append chunk (joined chunks))

pub before-most : {X : Type 0} (k : ℕ) (chunks : List (List X)) → lines_before k chunks ≤ length (joined chunks)
before-most zero chunks = omega arith
before-most (suc k) [] = omega arith
before-most (suc k) (chunk ∷ chunks) = omega (arith, before-most k chunks, length-append chunk (joined chunks))

pub before-end : {X : Type 0} (k : ℕ) (chunks : List (List X)) → length chunks ≤ k → lines_before k chunks ≡ length (joined chunks)
before-end zero [] h = refl
before-end (suc k) [] h = refl
before-end zero (chunk ∷ chunks) h = absurd (omega arith)
before-end (suc k) (chunk ∷ chunks) h = omega (arith, before-end k chunks (omega arith), length-append chunk (joined chunks))

pub before-within : {X : Type 0} (k : ℕ) (chunks : List (List X)) → k < length chunks → lines_before k chunks + length (get_or chunks k []) ≤ length (joined chunks)
before-within k chunks h = omega (arith, before-next k chunks h, before-most (k + 1) chunks)

-- where a place is after a chunk, there is a next one
pub next-chunk : {X : Type 0} (k at : ℕ) (chunks : List (List X)) → k < length chunks → lines_before k chunks + length (get_or chunks k []) < at → at ≤ length (joined chunks) →
    k + 1 < length chunks
next-chunk k at chunks h l m = ⊎_elim (λ a. a) (λ a. absurd (omega (arith, before-next k chunks h, before-end (k + 1) chunks a))) (cases_lt (k + 1) (length chunks))

-- where there is an element, there is a chunk
pub some-chunk : {X : Type 0} (i : ℕ) (chunks : List (List X)) → i < length (joined chunks) → 0 < length chunks
some-chunk i [] h = absurd (omega arith)
some-chunk i (chunk ∷ chunks) h = omega arith

-- what stands before a chunk where one is another
pub before-set_low : {X : Type 0} (j k : ℕ) (chunks : List (List X)) (chunk : List X) → j ≤ k → lines_before j (set chunks k chunk) ≡ lines_before j chunks
before-set_low zero k chunks chunk h = refl
before-set_low (suc j) k [] chunk h = refl
before-set_low (suc j) zero (first ∷ chunks) chunk h = absurd (omega arith)
before-set_low (suc j) (suc k) (first ∷ chunks) chunk h = ap (λ n. length first + n) (before-set_low j k chunks chunk (omega arith))

pub before-set_high : {X : Type 0} (j k : ℕ) (chunks : List (List X)) (chunk : List X) → k < j → k < length chunks →
    lines_before j (set chunks k chunk) + length (get_or chunks k []) ≡ lines_before j chunks + length chunk
before-set_high zero k chunks chunk h l = absurd (omega arith)
before-set_high (suc j) k [] chunk h l = absurd (omega arith)
before-set_high (suc j) zero (first ∷ chunks) chunk h l = omega arith
before-set_high (suc j) (suc k) (first ∷ chunks) chunk h l = let e = before-set_high j k chunks chunk (omega arith) (omega arith) in omega arith

pub length-joined-set : {X : Type 0} (k : ℕ) (chunks : List (List X)) (chunk : List X) → k < length chunks →
    length (joined (set chunks k chunk)) + length (get_or chunks k []) ≡ length (joined chunks) + length chunk
length-joined-set k chunks chunk h =
    let e = before-set_high (length chunks) k chunks chunk h h in
    let a = before-all (set chunks k chunk) in
    let s : lines_before (length (set chunks k chunk)) (set chunks k chunk) ≡ lines_before (length chunks) (set chunks k chunk) = ap (λ n. lines_before n (set chunks k chunk)) (length-set chunks k chunk) in
    omega (arith, before-all chunks)

-- an element of a chunk
pub get_or-joined : {X : Type 0} (chunks : List (List X)) (k j i : ℕ) (d : X) → k < length chunks → j < length (get_or chunks k []) → i ≡ lines_before k chunks + j →
    get_or (joined chunks) i d ≡ get_or (get_or chunks k []) j d
get_or-joined [] k j i d h l e = absurd (omega arith)
get_or-joined (chunk ∷ chunks) zero j i d h l e =
    ap (λ n. get_or (chunk ++ joined chunks) n d) (let f : i ≡ j = omega arith in f) ∙ get_or_append_left chunk (joined chunks) d j l
get_or-joined (chunk ∷ chunks) (suc k) j i d h l e =
    get_or-append_right chunk (joined chunks) (length chunk) i d refl (omega arith)
    ∙ get_or-joined chunks k j (i - length chunk) d (omega arith) l (omega arith)

-- another element in a chunk
pub joined-set : {X : Type 0} (chunks : List (List X)) (k j i : ℕ) (x : X) → k < length chunks → j < length (get_or chunks k []) → i ≡ lines_before k chunks + j →
    joined (set chunks k (set (get_or chunks k []) j x)) ≡ set (joined chunks) i x
joined-set [] k j i x h l e = absurd (omega arith)
joined-set (chunk ∷ chunks) zero j i x h l e =
    sym (ap (λ n. set (chunk ++ joined chunks) n x) (let f : i ≡ j = omega arith in f) ∙ set-append_left chunk (joined chunks) j x l)
joined-set (chunk ∷ chunks) (suc k) j i x h l e =
    ap (λ t. chunk ++ t) (joined-set chunks k j (i - length chunk) x (omega arith) l (omega arith))
    ∙ sym (set-append_right chunk (joined chunks) (length chunk) i x refl (omega arith))

-- an element less in a chunk
pub joined-remove : {X : Type 0} (chunks : List (List X)) (k j i : ℕ) → k < length chunks → j < length (get_or chunks k []) → i ≡ lines_before k chunks + j →
    joined (set chunks k (remove (get_or chunks k []) j)) ≡ remove (joined chunks) i
joined-remove [] k j i h l e = absurd (omega arith)
joined-remove (chunk ∷ chunks) zero j i h l e =
    sym (ap (remove (chunk ++ joined chunks)) (let f : i ≡ j = omega arith in f) ∙ remove-append_left chunk (joined chunks) j l)
joined-remove (chunk ∷ chunks) (suc k) j i h l e =
    ap (λ t. chunk ++ t) (joined-remove chunks k j (i - length chunk) (omega arith) l (omega arith))
    ∙ sym (remove-append_right chunk (joined chunks) (length chunk) i refl (omega arith))

-- an element more in a chunk
pub joined-insert : {X : Type 0} (chunks : List (List X)) (k j i : ℕ) (x : X) → k < length chunks → j ≤ length (get_or chunks k []) → i ≡ lines_before k chunks + j →
    joined (set chunks k (insert (get_or chunks k []) j x)) ≡ insert (joined chunks) i x
joined-insert [] k j i x h l e = absurd (omega arith)
joined-insert (chunk ∷ chunks) zero j i x h l e =
    sym (ap (λ n. insert (chunk ++ joined chunks) n x) (let f : i ≡ j = omega arith in f) ∙ insert-append_left chunk (joined chunks) j x l)
joined-insert (chunk ∷ chunks) (suc k) j i x h l e =
    ap (λ t. chunk ++ t) (joined-insert chunks k j (i - length chunk) x (omega arith) l (omega arith))
    ∙ sym (insert-append_right chunk (joined chunks) (length chunk) i x refl (omega arith))

-- the first element of a chunk goes to the one before it
refilled : {X : Type 0} (chunks : List (List X)) (k : ℕ) (x : X) (rest : List X) → suc k < length chunks → get_or chunks (suc k) [] ≡ x ∷ rest →
    joined (set (set chunks (suc k) rest) k (get_or chunks k [] ++ x ∷ [])) ≡ joined chunks
refilled [] k x rest h e = absurd (omega arith)
refilled (chunk ∷ []) k x rest h e = absurd (omega arith)
refilled (chunk ∷ next ∷ chunks) zero x rest h e =
    append_assoc chunk (x ∷ []) (rest ++ joined chunks) ∙ ap (λ t. chunk ++ (t ++ joined chunks)) (sym e)
refilled (chunk ∷ next ∷ chunks) (suc k) x rest h e = ap (λ t. chunk ++ t) (refilled (next ∷ chunks) k x rest (omega arith) e)

pub joined-refill : {X : Type 0} (chunks : List (List X)) (k : ℕ) (x : X) (rest : List X) → k + 1 < length chunks → get_or chunks (k + 1) [] ≡ x ∷ rest →
    joined (set (set chunks (k + 1) rest) k (get_or chunks k [] ++ x ∷ [])) ≡ joined chunks
joined-refill chunks k x rest h e =
    ap (λ n. joined (set (set chunks n rest) k (get_or chunks k [] ++ x ∷ []))) (add-one k)
    ∙ refilled chunks k x rest (omega arith) (ap (λ n. get_or chunks n []) (sym (add-one k)) ∙ e)

-- the last element of a chunk goes to the one after it
passed : {X : Type 0} (chunks : List (List X)) (k : ℕ) (x : X) (rest : List X) → suc k < length chunks → get_or chunks k [] ≡ rest ++ x ∷ [] →
    joined (set (set chunks k rest) (suc k) (x ∷ get_or chunks (suc k) [])) ≡ joined chunks
passed [] k x rest h e = absurd (omega arith)
passed (chunk ∷ []) k x rest h e = absurd (omega arith)
passed (chunk ∷ next ∷ chunks) zero x rest h e =
    sym (append_assoc rest (x ∷ []) (next ++ joined chunks)) ∙ ap (λ t. t ++ (next ++ joined chunks)) (sym e)
passed (chunk ∷ next ∷ chunks) (suc k) x rest h e = ap (λ t. chunk ++ t) (passed (next ∷ chunks) k x rest (omega arith) e)

pub joined-pass : {X : Type 0} (chunks : List (List X)) (k : ℕ) (x : X) (rest : List X) → k + 1 < length chunks → get_or chunks k [] ≡ rest ++ x ∷ [] →
    joined (set (set chunks k rest) (k + 1) (x ∷ get_or chunks (k + 1) [])) ≡ joined chunks
joined-pass chunks k x rest h e =
    ap (λ n. joined (set (set chunks k rest) n (x ∷ get_or chunks n []))) (add-one k) ∙ passed chunks k x rest (omega arith) e

-- a chunk becomes two
joined_split : {X : Type 0} (chunks : List (List X)) (k : ℕ) (lower upper : List X) → k < length chunks → lower ++ upper ≡ get_or chunks k [] →
    joined (insert (set chunks k lower) (suc k) upper) ≡ joined chunks
joined_split [] k lower upper h e = absurd (omega arith)
joined_split (chunk ∷ chunks) zero lower upper h e =
    sym (append_assoc lower upper (joined chunks)) ∙ ap (λ t. t ++ joined chunks) e
joined_split (chunk ∷ chunks) (suc k) lower upper h e = ap (λ t. chunk ++ t) (joined_split chunks k lower upper (omega arith) e)

lower_split : {X : Type 0} (chunks : List (List X)) (k : ℕ) (lower upper : List X) → k < length chunks →
    get_or (insert (set chunks k lower) (suc k) upper) k [] ≡ lower
lower_split [] k lower upper h = absurd (omega arith)
lower_split (chunk ∷ chunks) zero lower upper h = refl
lower_split (chunk ∷ chunks) (suc k) lower upper h = lower_split chunks k lower upper (omega arith)

upper_split : {X : Type 0} (chunks : List (List X)) (k : ℕ) (lower upper : List X) → k < length chunks →
    get_or (insert (set chunks k lower) (suc k) upper) (suc k) [] ≡ upper
upper_split [] k lower upper h = absurd (omega arith)
upper_split (chunk ∷ chunks) zero lower upper h = refl
upper_split (chunk ∷ chunks) (suc k) lower upper h = upper_split chunks k lower upper (omega arith)

before_split : {X : Type 0} (chunks : List (List X)) (k : ℕ) (lower upper : List X) → k < length chunks →
    lines_before k (insert (set chunks k lower) (suc k) upper) ≡ lines_before k chunks
before_split [] k lower upper h = absurd (omega arith)
before_split (chunk ∷ chunks) zero lower upper h = refl
before_split (chunk ∷ chunks) (suc k) lower upper h = ap (λ n. length chunk + n) (before_split chunks k lower upper (omega arith))

pub joined-split : {X : Type 0} (chunks : List (List X)) (k : ℕ) (lower upper : List X) → k < length chunks → lower ++ upper ≡ get_or chunks k [] →
    joined (insert (set chunks k lower) (k + 1) upper) ≡ joined chunks
joined-split chunks k lower upper h e = ap (λ n. joined (insert (set chunks k lower) n upper)) (add-one k) ∙ joined_split chunks k lower upper h e

pub lower-split : {X : Type 0} (chunks : List (List X)) (k : ℕ) (lower upper : List X) → k < length chunks →
    get_or (insert (set chunks k lower) (k + 1) upper) k [] ≡ lower
lower-split chunks k lower upper h = ap (λ n. get_or (insert (set chunks k lower) n upper) k []) (add-one k) ∙ lower_split chunks k lower upper h

pub upper-split : {X : Type 0} (chunks : List (List X)) (k : ℕ) (lower upper : List X) → k < length chunks →
    get_or (insert (set chunks k lower) (k + 1) upper) (k + 1) [] ≡ upper
upper-split chunks k lower upper h = ap (λ n. get_or (insert (set chunks k lower) n upper) n []) (add-one k) ∙ upper_split chunks k lower upper h

pub before-split : {X : Type 0} (chunks : List (List X)) (k : ℕ) (lower upper : List X) → k < length chunks →
    lines_before k (insert (set chunks k lower) (k + 1) upper) ≡ lines_before k chunks
before-split chunks k lower upper h = ap (λ n. lines_before k (insert (set chunks k lower) n upper)) (add-one k) ∙ before_split chunks k lower upper h

pub length-split : {X : Type 0} (chunks : List (List X)) (k : ℕ) (lower upper : List X) → k < length chunks →
    length (insert (set chunks k lower) (k + 1) upper) ≡ length chunks + 1
length-split chunks k lower upper h =
    let e = length-set chunks k lower in length-insert (set chunks k lower) (k + 1) upper (omega arith) ∙ ap (λ n. n + 1) e

-- an empty chunk more
pub joined-empty : {X : Type 0} (chunks : List (List X)) (chunk : List X) → length chunk ≡ 0 → joined (chunks ++ chunk ∷ []) ≡ joined chunks
joined-empty [] [] e = refl
joined-empty [] (x ∷ chunk) e = absurd (omega arith)
joined-empty (first ∷ chunks) chunk e = ap (λ t. first ++ t) (joined-empty chunks chunk e)

-- an empty chunk less
pub joined-less : {X : Type 0} (chunks : List (List X)) (k : ℕ) → k < length chunks → length (get_or chunks k []) ≡ 0 → joined (remove chunks k) ≡ joined chunks
joined-less [] k h e = absurd (omega arith)
joined-less ([] ∷ chunks) zero h e = refl
joined-less ((x ∷ chunk) ∷ chunks) zero h e = absurd (omega arith)
joined-less (chunk ∷ chunks) (suc k) h e = ap (λ t. chunk ++ t) (joined-less chunks k (omega arith) e)

pub before-less : {X : Type 0} (chunks : List (List X)) (k last : ℕ) → k < last → last < length chunks → lines_before k (remove chunks last) ≡ lines_before k chunks
before-less chunks zero last h l = refl
before-less [] (suc k) last h l = absurd (omega arith)
before-less (chunk ∷ chunks) (suc k) zero h l = absurd (omega arith)
before-less (chunk ∷ chunks) (suc k) (suc last) h l = ap (λ n. length chunk + n) (before-less chunks k last (omega arith) (omega arith))

-- an empty chunk is put after all others
pub joined-aside : {X : Type 0} (chunks less now : List (List X)) (k : ℕ) (empty : List X) → k < length chunks → less ≡ remove chunks k → now ≡ less ++ empty ∷ [] →
    empty ≡ get_or chunks k empty → length (get_or chunks k []) ≡ 0 → joined now ≡ joined chunks
joined-aside chunks less now k empty h r p e z =
    ap joined p ∙ joined-empty less empty (ap length (e ∙ get_or_default chunks k empty [] h) ∙ z) ∙ ap joined r ∙ joined-less chunks k h z

-- some of the first chunks have no more
pub joined-first : {X : Type 0} (n : ℕ) (chunks : List (List X)) → length (joined (take n chunks)) ≤ length (joined chunks)
joined-first zero chunks = omega arith
joined-first (suc n) [] = omega arith
joined-first (suc n) (chunk ∷ chunks) = omega (arith, joined-first n chunks, length-append chunk (joined (take n chunks)), length-append chunk (joined chunks))

-- a list that begins with an element
pub first-and-rest : {X : Type 0} (list : List X) (x : X) → 0 < length list → x ≡ get_or list 0 x → list ≡ x ∷ remove list 0
first-and-rest [] x h e = absurd (omega arith)
first-and-rest (y ∷ list) x h e = ap (λ t. t ∷ list) (sym e)

-- a list that ends with an element
pub rest-and-last : {X : Type 0} (list : List X) (n : ℕ) (x : X) → n + 1 ≡ length list → x ≡ get_or list n x → list ≡ remove list n ++ x ∷ []
rest-and-last [] n x h e = absurd (omega arith)
rest-and-last (y ∷ []) zero x h e = ap (λ t. t ∷ []) (sym e)
rest-and-last (y ∷ z ∷ list) zero x h e = absurd (omega arith)
rest-and-last (y ∷ list) (suc n) x h e = ap (λ t. y ∷ t) (rest-and-last list n x (omega arith) e)

-- the chunks of two lists
pub joined-append : {X : Type 0} (xs ys : List (List X)) → joined (xs ++ ys) ≡ joined xs ++ joined ys
joined-append [] ys = refl
joined-append (x ∷ xs) ys = ap (λ t. x ++ t) (joined-append xs ys) ∙ sym (append_assoc x (joined xs) (joined ys))

-- what stands before a chunk is what those before it have
pub before-take : {X : Type 0} (k : ℕ) (chunks : List (List X)) → length (joined (take k chunks)) ≡ lines_before k chunks
before-take zero chunks = refl
before-take (suc k) [] = refl
before-take (suc k) (chunk ∷ chunks) = length-append chunk (joined (take k chunks)) ∙ ap (λ n. length chunk + n) (before-take k chunks)

pub before-later : {X : Type 0} (j k : ℕ) (chunks : List (List X)) → j ≤ k → lines_before j chunks ≤ lines_before k chunks
before-later zero k chunks h = omega arith
before-later (suc j) zero chunks h = absurd (omega arith)
before-later (suc j) (suc k) [] h = omega arith
before-later (suc j) (suc k) (chunk ∷ chunks) h = omega (arith, before-later j k chunks (omega arith))

-- a chunk is joined with the next one
pub joined-merge : {X : Type 0} (chunks : List (List X)) (k : ℕ) → k + 1 < length chunks →
    joined (set (remove chunks k) k (get_or chunks k [] ++ get_or (remove chunks k) k [])) ≡ joined chunks
joined-merge [] k h = absurd (omega arith)
joined-merge (chunk ∷ []) k h = absurd (omega arith)
joined-merge (chunk ∷ next ∷ chunks) zero h = append_assoc chunk next (joined chunks)
joined-merge (chunk ∷ next ∷ chunks) (suc k) h = ap (λ t. chunk ++ t) (joined-merge (next ∷ chunks) k (omega arith))
