-- Two blocks of a list that change places: where each element comes from, element by element, and as a block that is carried.
use Rattle.std.proofs.Common.{◌≡◌, ℕ, suc, ◌+◌, ◌-◌, ◌<◌, ◌≤◌, List, [], ◌∷◌, ◌++◌, take, drop, length, get_or, refl, sym, ap, ◌∙◌, arith, append_assoc, append-nil, inl, inr, ⊎_elim}
use Rattle.std.specs.Prelude.{remove, insert, ◌⊎◌}
use Rattle.std.proofs.lemmas.Bool.{cases_lt}
use Rattle.std.proofs.lemmas.List.{take_at, drop_at, take_all, drop_all, take-take, take-append-le, drop-append-le, take-append-drop, length-take-le, length-drop, length-append, take_more, drop_more, get_or_at, get_or_append_left, get_or-append_right, get_or-take, get_or-drop, drop-drop, drop-take}
use borrow.Rule.Slice.PartMut.{put_mid, post_of}
use Rattle.ed_base.specs.Parts.{block, carried}
use Rattle.ed_base.proofs.PartLemmas.{front}
use Rattle.line_store.specs.Swaps.{swapped}
use Rattle.line_store.proofs.Ranges.{length-block}

-- a list is what stands before, between and after three of its places
pub parts : {X : Type 0} (low middle high : ℕ) (xs : List X) → low ≤ middle → middle ≤ high →
    xs ≡ take low xs ++ (block low middle xs ++ (block middle high xs ++ drop high xs))
parts low middle high xs h k =
    sym (sym (append_assoc (take low xs) (block low middle xs) (block middle high xs ++ drop high xs))
    ∙ ap (λ t. t ++ (block middle high xs ++ drop high xs)) (front low middle xs h)
    ∙ sym (append_assoc (take middle xs) (block middle high xs) (drop high xs))
    ∙ ap (λ t. t ++ drop high xs) (front middle high xs k)
    ∙ take-append-drop high xs)

-- the blocks of a list that is given by its parts
pub swapped-parts : {X : Type 0} (low middle high : ℕ) (a b c d : List X) → length a ≡ low → low + length b ≡ middle →
    middle + length c ≡ high → swapped low middle high (a ++ (b ++ (c ++ d))) ≡ a ++ (c ++ (b ++ d))
swapped-parts low middle high a b c d la lb lc =
    let list = a ++ (b ++ (c ++ d)) in
    let two : length (a ++ b) ≡ middle = omega (arith, length-append a b) in
    let three : length ((a ++ b) ++ c) ≡ high = omega (arith, length-append (a ++ b) c) in
    let second : list ≡ (a ++ b) ++ (c ++ d) = sym (append_assoc a b (c ++ d)) in
    let third : list ≡ ((a ++ b) ++ c) ++ d = second ∙ sym (append_assoc (a ++ b) c d) in
    let upper : block middle high list ≡ c =
    ap (λ t. drop middle (take high t)) third ∙ ap (drop middle) (take_at ((a ++ b) ++ c) d high three)
    ∙ drop_at (a ++ b) c middle two in
    let lower : block low middle list ≡ b =
    ap (λ t. drop low (take middle t)) second ∙ ap (drop low) (take_at (a ++ b) (c ++ d) middle two) ∙ drop_at a b low la in
    ap (λ t. t ++ (block middle high list ++ (block low middle list ++ drop high list))) (take_at a (b ++ (c ++ d)) low la)
    ∙ ap (λ t. a ++ (t ++ (block low middle list ++ drop high list))) upper
    ∙ ap (λ t. a ++ (c ++ (t ++ drop high list))) lower
    ∙ ap (λ t. a ++ (c ++ (b ++ t))) (ap (drop high) third ∙ drop_at ((a ++ b) ++ c) d high three)

pub length-swapped : {X : Type 0} (low middle high : ℕ) (xs : List X) → low ≤ middle → middle ≤ high → high ≤ length xs →
    length (swapped low middle high xs) ≡ length xs
length-swapped low middle high xs h k l =
    omega (
      arith,
      length-append (take low xs) (block middle high xs ++ (block low middle xs ++ drop high xs)),
      length-append (block middle high xs) (block low middle xs ++ drop high xs),
      length-append (block low middle xs) (drop high xs),
      length-take-le low xs (omega arith),
      length-block low middle xs (omega arith),
      length-block middle high xs l,
      length-drop high xs,
    )

-- a part of a list that was turned has its blocks swapped
pub rotated : {X : Type 0} (low middle high count : ℕ) (list whole part : List X) → list ≡ whole → low ≤ middle →
    middle ≤ high → high ≤ length whole → count ≡ length whole →
    part ≡ drop (middle - low) (take (high - low) (drop low list)) ++ take (middle - low) (take (high - low) (drop low list)) →
    take count (put_mid low (high - low) list part ++ drop (length (put_mid low (high - low) list part)) whole) ≡ swapped low middle high
    whole
rotated low middle high count list whole part same h k l all turns =
    let now = put_mid low (high - low) list part in
    let by = middle - low in
    let reach : low + (high - low) ≡ high = omega arith in
    let step : low + by ≡ middle = omega arith in
    let both : take (high - low) (drop low list) ≡ block low high whole =
    ap (λ t. take (high - low) (drop low t)) same ∙ sym (drop-take low (high - low) whole)
    ∙ ap (λ n. drop low (take n whole)) reach in
    let upper : drop by (block low high whole) ≡ block middle high whole = drop-drop by low (take high whole)
    ∙ ap (λ n. drop n (take high whole)) step in
    let lower : take by (block low high whole) ≡ block low middle whole =
    sym (drop-take low by (take high whole)) ∙ ap (λ n. drop low (take n (take high whole))) step
    ∙ ap (drop low) (take-take middle high whole k) in
    let turned : part ≡ block middle high whole ++ block low middle whole =
    turns ∙ ap (λ t. drop by t ++ take by t) both ∙ ap (λ t. t ++ take by (block low high whole)) upper
    ∙ ap (λ t. block middle high whole ++ t) lower in
    let is : now ≡ swapped low middle high whole =
    ap (λ t. take low t ++ (part ++ post_of low (high - low) t)) same
    ∙ ap (λ t. take low whole ++ (t ++ drop (high - low) (drop low whole))) turned
    ∙ ap (λ t. take low whole ++ ((block middle high whole ++ block low middle whole) ++ t))
    (drop-drop (high - low) low whole ∙ ap (λ n. drop n whole) reach)
    ∙ ap (λ t. take low whole ++ t) (append_assoc (block middle high whole) (block low middle whole) (drop high whole)) in
    let long : length now ≡ length whole = ap length is ∙ length-swapped low middle high whole h k l in
    ap (λ t. take count (now ++ t)) (drop_all (length now) whole (omega arith))
    ∙ ap (take count) (append-nil now)
    ∙ take_all count now (omega arith)
    ∙ is

-- the element at place k stood at place j before
abbrev pub Came : (low middle high k j : ℕ) → Type 0
Came low middle high k j =
    ((k < low) × (j ≡ k))
    ⊎ (((low ≤ k) × (k < low + (high - middle)) × (j ≡ k + (middle - low)))
    ⊎ (((low + (high - middle) ≤ k) × (k < high) × (j ≡ k - (high - middle)))
    ⊎ ((high ≤ k) × (j ≡ k))))

-- each came from somewhere
pub came : (low middle high k : ℕ) → low ≤ middle → middle ≤ high → (j : ℕ) × Came low middle high k j
came low middle high k h l = ⊎_elim
    (λ a. (k, inl (a, refl)))
    (λ a. ⊎_elim
    (λ b. (k + (middle - low), inr (inl (a, b, refl))))
    (λ b. ⊎_elim
    (λ c. (k - (high - middle), inr (inr (inl (b, c, refl)))))
    (λ c. (k, inr (inr (inr (c, refl)))))
    (cases_lt k high))
    (cases_lt k (low + (high - middle))))
    (cases_lt k low)

-- what follows in each case
pub each : {C : Type 0} (low middle high k j : ℕ) → Came low middle high k j → (k < low → j ≡ k → C) →
    (low ≤ k → k < low + (high - middle) → j ≡ k + (middle - low) → C) →
    (low + (high - middle) ≤ k → k < high → j ≡ k - (high - middle) → C) → (high ≤ k → j ≡ k → C) → C
each low middle high k j (inl t) a b c d = a t.0 t.1
each low middle high k j (inr (inl t)) a b c d = b t.0 t.1 t.2
each low middle high k j (inr (inr (inl t))) a b c d = c t.0 t.1 t.2
each low middle high k j (inr (inr (inr t))) a b c d = d t.0 t.1

pub get_or-block : {X : Type 0} (a b i : ℕ) (xs : List X) (d : X) → a + i < b → get_or (block a b xs) i d ≡ get_or xs (a + i) d
get_or-block a b i xs d h = get_or-drop a (take b xs) i d ∙ get_or-take b xs (a + i) d h

-- it is the same element
pub get_or-swapped : {X : Type 0} (low middle high k j : ℕ) (xs : List X) (d : X) → low ≤ middle → middle ≤ high →
    high ≤ length xs → Came low middle high k j → get_or (swapped low middle high xs) k d ≡ get_or xs j d
get_or-swapped low middle high k j xs d h l m from =
    let one = take low xs in
    let two = block middle high xs in
    let three = block low middle xs in
    let four = drop high xs in
    let a : length one ≡ low = length-take-le low xs (omega arith) in
    let b : length two ≡ high - middle = length-block middle high xs m in
    let c : length three ≡ middle - low = length-block low middle xs (omega arith) in
    let n = high - middle in
    each low middle high k j from
    (λ p e. get_or_append_left one (two ++ (three ++ four)) d k (omega arith) ∙ get_or-take low xs k d p
    ∙ ap (λ i. get_or xs i d) (sym e))
    (λ p q e. get_or-append_right one (two ++ (three ++ four)) low k d a p
    ∙ get_or_append_left two (three ++ four) d (k - low) (omega arith)
    ∙ get_or-block middle high (k - low) xs d (omega arith)
    ∙ ap (λ i. get_or xs i d) (let f : middle + (k - low) ≡ j = omega arith in f))
    (λ p q e. get_or-append_right one (two ++ (three ++ four)) low k d a (omega arith)
    ∙ get_or-append_right two (three ++ four) n (k - low) d b (omega arith)
    ∙ get_or_append_left three four d (k - low - n) (omega arith)
    ∙ get_or-block low middle (k - low - n) xs d (omega arith)
    ∙ ap (λ i. get_or xs i d) (let f : low + (k - low - n) ≡ j = omega arith in f))
    (λ p e. get_or-append_right one (two ++ (three ++ four)) low k d a (omega arith)
    ∙ get_or-append_right two (three ++ four) n (k - low) d b (omega arith)
    ∙ get_or-append_right three four (middle - low) (k - low - n) d c (omega arith)
    ∙ get_or-drop high xs (k - low - n - (middle - low)) d
    ∙ ap (λ i. get_or xs i d) (let f : high + (k - low - n - (middle - low)) ≡ j = omega arith in f))

-- a block of which the elements before place m stand in front of others, and the rest after them
abbrev pub parted : {X : Type 0} → (before block others after : List X) → ℕ → List X
parted before block others after m = before ++ (take m block ++ (others ++ (drop m block ++ after)))

-- an element taken out from between p and q, and put between p' and q'
step : {X : Type 0} (xs p q p' q' : List X) (x d : X) (i j : ℕ) → xs ≡ p ++ x ∷ q → p ++ q ≡ p' ++ q' → length p ≡ i →
    length p' ≡ j → insert (remove xs i) j (get_or xs i d) ≡ p' ++ x ∷ q'
step xs p q p' q' x d i j h k e f =
    let out : remove (p ++ x ∷ q) i ≡ p ++ q =
    ap (λ t. t ++ drop (suc i) (p ++ x ∷ q)) (take_at p (x ∷ q) i e)
    ∙ ap (λ t. p ++ t)
    (ap (drop (suc i)) (sym (append_assoc p (x ∷ []) q))
    ∙ drop_at (p ++ x ∷ []) q (suc i) (length-append p (x ∷ []) ∙ omega arith)) in
    ap (λ t. insert (remove t i) j (get_or t i d)) h
    ∙ ap (λ t. insert (remove (p ++ x ∷ q) i) j t) (get_or_at p x q d i e)
    ∙ ap (λ t. insert t j x) (out ∙ k)
    ∙ ap (λ t. t ++ x ∷ drop j (p' ++ q')) (take_at p' q' j f)
    ∙ ap (λ t. p' ++ x ∷ t) (drop_at p' q' j f)

-- the element at place m, at the end of the front part, and at the beginning of the rest
at-end : {X : Type 0} (before block others after : List X) (m : ℕ) (d : X) → m < length block →
    parted before block others after (m + 1) ≡ (before ++ take m block) ++ get_or block m d ∷ (others ++ (drop (m + 1) block ++ after))
at-end before block others after m d h =
    ap (λ t. before ++ (t ++ (others ++ (drop (m + 1) block ++ after)))) (take_more block m d h)
    ∙ ap (λ t. before ++ t) (append_assoc (take m block) (get_or block m d ∷ []) (others ++ (drop (m + 1) block ++ after)))
    ∙ sym (append_assoc before (take m block) (get_or block m d ∷ (others ++ (drop (m + 1) block ++ after))))

at-start : {X : Type 0} (before block others after : List X) (m : ℕ) (d : X) → m < length block →
    parted before block others after m ≡ ((before ++ take m block) ++ others) ++ get_or block m d ∷ (drop (m + 1) block ++ after)
at-start before block others after m d h =
    ap (λ t. before ++ (take m block ++ (others ++ (t ++ after)))) (drop_more block m d h)
    ∙ sym (append_assoc before (take m block) (others ++ get_or block m d ∷ (drop (m + 1) block ++ after)))
    ∙ sym (append_assoc (before ++ take m block) others (get_or block m d ∷ (drop (m + 1) block ++ after)))

length-before : {X : Type 0} (before block : List X) (m : ℕ) → m ≤ length block →
    length (before ++ take m block) ≡ length before + m
length-before before block m h = length-append before (take m block) ∙ ap (λ n. length before + n) (length-take-le m block h)

-- one more element in front of the others
pub turn-up : {X : Type 0} (xs before block others after : List X) (m i j : ℕ) (d : X) → xs ≡ parted before block others after m →
    m < length block → i ≡ length before + (length others + m) → j ≡ length before + m →
    insert (remove xs i) j (get_or xs i d) ≡ parted before block others after (m + 1)
turn-up xs before block others after m i j d h b e f =
    let long : length (before ++ take m block) ≡ length before + m = length-before before block m (omega arith) in
    step xs ((before ++ take m block) ++ others) (drop (m + 1) block ++ after) (before ++ take m block)
    (others ++ (drop (m + 1) block ++ after))
    (get_or block m d) d i j (h ∙ at-start before block others after m d b)
    (append_assoc (before ++ take m block) others (drop (m + 1) block ++ after))
    (omega (arith, length-append (before ++ take m block) others)) (omega arith)
    ∙ sym (at-end before block others after m d b)

-- one more element after the others
pub turn-down : {X : Type 0} (xs before block others after : List X) (m i j : ℕ) (d : X) →
    xs ≡ parted before block others after (m + 1) → m < length block → i ≡ length before + m →
    j ≡ length before + (length others + m) → insert (remove xs i) j (get_or xs i d) ≡ parted before block others after m
turn-down xs before block others after m i j d h b e f =
    let long : length (before ++ take m block) ≡ length before + m = length-before before block m (omega arith) in
    step xs (before ++ take m block) (others ++ (drop (m + 1) block ++ after)) ((before ++ take m block) ++ others)
    (drop (m + 1) block ++ after)
    (get_or block m d) d i j (h ∙ at-end before block others after m d b)
    (sym (append_assoc (before ++ take m block) others (drop (m + 1) block ++ after)))
    (omega arith) (omega (arith, length-append (before ++ take m block) others))
    ∙ sym (at-start before block others after m d b)

-- The lines of the second block go before the first, one after the other.
abbrev pub going_up : {X : Type 0} → (low middle high : ℕ) → List X → ℕ → List X
going_up low middle high xs m = parted (take low xs) (block middle high xs) (block low middle xs) (drop high xs) m

pub up-init : {X : Type 0} (low middle high : ℕ) (xs : List X) → low ≤ middle → middle ≤ high →
    xs ≡ going_up low middle high xs 0
up-init low middle high xs h k = parts low middle high xs h k

pub up-done : {X : Type 0} (low middle high n : ℕ) (xs : List X) → low ≤ middle → middle ≤ high → high ≤ length xs →
    n ≡ high - middle → going_up low middle high xs n ≡ swapped low middle high xs
up-done low middle high n xs h k l e =
    let all : length (block middle high xs) ≡ n = length-block middle high xs l ∙ sym e in
    ap (λ t. take low xs ++ (t ++ (block low middle xs ++ (drop n (block middle high xs) ++ drop high xs))))
    (take_all n (block middle high xs) (omega arith))
    ∙ ap (λ t. take low xs ++ (block middle high xs ++ (block low middle xs ++ (t ++ drop high xs))))
    (drop_all n (block middle high xs) (omega arith))

pub up-turn : {X : Type 0} (low middle high m i j : ℕ) (before xs : List X) (d : X) → xs ≡ going_up low middle high before m →
    low ≤ middle → middle + m < high → high ≤ length before → i ≡ middle + m → j ≡ low + m →
    insert (remove xs i) j (get_or xs i d) ≡ going_up low middle high before (m + 1)
up-turn low middle high m i j before xs d h k b l e f =
    turn-up xs (take low before) (block middle high before) (block low middle before) (drop high before) m i j d h
    (omega (arith, length-block middle high before l))
    (omega (arith, length-take-le low before (omega arith), length-block low middle before (omega arith)))
    (omega (arith, length-take-le low before (omega arith)))

-- The lines of the first block go after the second, the last one first.
abbrev pub going_down : {X : Type 0} → (low middle high : ℕ) → List X → ℕ → List X
going_down low middle high xs m = parted (take low xs) (block low middle xs) (block middle high xs) (drop high xs) m

pub down-init : {X : Type 0} (low middle high n : ℕ) (xs : List X) → low ≤ middle → middle ≤ high → high ≤ length xs →
    n ≡ middle - low → xs ≡ going_down low middle high xs n
down-init low middle high n xs h k l e =
    let all : length (block low middle xs) ≡ n = length-block low middle xs (omega arith) ∙ sym e in
    parts low middle high xs h k
    ∙ sym (ap (λ t. take low xs ++ (t ++ (block middle high xs ++ (drop n (block low middle xs) ++ drop high xs))))
    (take_all n (block low middle xs) (omega arith))
    ∙ ap (λ t. take low xs ++ (block low middle xs ++ (block middle high xs ++ (t ++ drop high xs))))
    (drop_all n (block low middle xs) (omega arith)))

pub down-done : {X : Type 0} (low middle high : ℕ) (xs : List X) →
    going_down low middle high xs 0 ≡ swapped low middle high xs
down-done low middle high xs = refl

pub down-turn : {X : Type 0} (low middle high m i j : ℕ) (before xs : List X) (d : X) →
    xs ≡ going_down low middle high before (m + 1) → low + m < middle → middle ≤ high → high ≤ length before →
    i ≡ low + m → j ≡ high - (middle - i) → insert (remove xs i) j (get_or xs i d) ≡ going_down low middle high before m
down-turn low middle high m i j before xs d h b k l e f =
    turn-down xs (take low before) (block low middle before) (block middle high before) (drop high before) m i j d h
    (omega (arith, length-block low middle before (omega arith)))
    (omega (arith, length-take-le low before (omega arith)))
    (omega (arith, length-take-le low before (omega arith), length-block middle high before l))

-- A block that is carried to an earlier place changes places with what stood between.
pub carried-up : {X : Type 0} (from to place : ℕ) (xs : List X) → place ≤ from → from ≤ to → to ≤ length xs →
    carried from to place xs ≡ swapped place from to xs
carried-up from to place xs h k l =
    let long : length (take from xs) ≡ from = length-take-le from xs (omega arith) in
    ap (λ t. t ++ (block from to xs ++ drop place (take from xs ++ drop to xs)))
    (take-append-le place (take from xs) (drop to xs) (omega arith) ∙ take-take place from xs h)
    ∙ ap (λ t. take place xs ++ (block from to xs ++ t)) (drop-append-le place (take from xs) (drop to xs) (omega arith))

-- and one that is carried to a later place
pub carried-down : {X : Type 0} (from to place high : ℕ) (xs : List X) → from ≤ to → to ≤ high → high ≤ length xs →
    high ≡ place + (to - from) → carried from to place xs ≡ swapped from to high xs
carried-down from to place high xs h k l e =
    let gap = block to high xs in
    let back = drop high xs in
    let rear : drop to xs ≡ gap ++ back =
    ap (drop to) (sym (take-append-drop high xs)) ∙ drop-append-le to (take high xs) back (omega (arith, length-take-le high xs l)) in
    let left : take from xs ++ drop to xs ≡ (take from xs ++ gap) ++ back =
    ap (λ t. take from xs ++ t) rear ∙ sym (append_assoc (take from xs) gap back) in
    let long : length (take from xs ++ gap) ≡ place =
    omega (arith, length-append (take from xs) gap, length-take-le from xs (omega arith), length-block to high xs l) in
    ap (λ t. take place t ++ (block from to xs ++ drop place t)) left
    ∙ ap (λ t. t ++ (block from to xs ++ drop place ((take from xs ++ gap) ++ back))) (take_at (take from xs ++ gap) back place long)
    ∙ ap (λ t. (take from xs ++ gap) ++ (block from to xs ++ t)) (drop_at (take from xs ++ gap) back place long)
    ∙ append_assoc (take from xs) gap (block from to xs ++ back)
