-- Lists into which elements are put, and out of which a range is taken, place by place.
use Rattle.std.proofs.Common.{◌≡◌, ℕ, suc, ◌+◌, ◌-◌, ◌<◌, ◌≤◌, List, [], ◌∷◌, ◌++◌, take, drop, length, get_or, reverse, refl, sym, ap, ◌∙◌, arith, append_assoc}
use Rattle.std.specs.Prelude.{remove, insert}
use Rattle.std.proofs.lemmas.List.{drop_all, drop_more, drop-append-le, take_more, length-drop, length-take, length-take-le, reverse-append, take-append-le, drop_at, take-take, get_or_append_left, get_or-take}
use Rattle.std.proofs.lemmas.List.Edits.{insert-append_right}
use Rattle.ed_base.specs.Parts.{block}

pub length-block : {X : Type 0} (a b : ℕ) (xs : List X) → b ≤ length xs → length (block a b xs) ≡ b - a
length-block a b xs h = length-drop a (take b xs) ∙ ap (λ n. n - a) (length-take-le b xs h)

pub block-none : {X : Type 0} (a : ℕ) (xs : List X) → block a a xs ≡ []
block-none a xs = drop_all a (take a xs) (omega (arith, length-take a xs))

-- an element put after the second of three parts
pub insert-between : {X : Type 0} (xs ys zs : List X) (n : ℕ) (x : X) → n ≡ length xs + length ys →
    insert (xs ++ (ys ++ zs)) n x ≡ xs ++ ((ys ++ x ∷ []) ++ zs)
insert-between xs ys zs n x h =
    insert-append_right xs (ys ++ zs) (length xs) n x refl (omega arith)
    ∙ ap (λ t. xs ++ t) (insert-append_right ys zs (length ys) (n - length xs) x refl (omega arith))
    ∙ rw (let e : n - length xs - length ys ≡ 0 = omega arith in e) (ap (λ t. xs ++ t) (sym (append_assoc ys (x ∷ []) zs)))

-- the last element of the first part taken out
pub remove-last : {X : Type 0} (xs ys : List X) (i j : ℕ) → j ≡ i + 1 → j ≤ length xs →
    remove (take j xs ++ ys) i ≡ take i xs ++ ys
remove-last xs ys i j e h =
    ap (λ t. t ++ drop (suc i) (take j xs ++ ys))
    (take-append-le i (take j xs) ys (omega (arith, length-take-le j xs h)) ∙ take-take i j xs (omega arith))
    ∙ ap (λ t. take i xs ++ t) (drop_at (take j xs) ys (suc i) (length-take-le j xs h ∙ omega arith))

-- the element that is taken out there
pub last-of_front : {X : Type 0} (xs ys : List X) (i j b : ℕ) (d : X) → j ≡ i + 1 → j ≤ b → b ≤ length xs →
    get_or (take j xs ++ ys) i d ≡ get_or (take b xs) i d
last-of_front xs ys i j b d e h k =
    get_or_append_left (take j xs) ys d i (omega (arith, length-take-le j xs (omega arith)))
    ∙ get_or-take j xs i d (omega arith)
    ∙ sym (get_or-take b xs i d (omega arith))

-- one more element, in front of those that were taken
pub taken-more : {X : Type 0} (taken part : List X) (x : X) (i j : ℕ) (d : X) → j ≡ i + 1 → i < length part →
    reverse taken ≡ drop j part → x ≡ get_or part i d → reverse (taken ++ x ∷ []) ≡ drop i part
taken-more taken part x i j d e h r k =
    reverse-append taken (x ∷ [])
    ∙ ap (λ t. x ∷ t) (r ∙ ap (λ n. drop n part) e)
    ∙ ap (λ t. t ∷ drop (i + 1) part) k
    ∙ sym (drop_more part i d h)

-- one element more of a range
pub block-more : {X : Type 0} (a i : ℕ) (xs : List X) (d : X) → a ≤ i → i < length xs →
    block a (i + 1) xs ≡ block a i xs ++ get_or xs i d ∷ []
block-more a i xs d h k =
    ap (drop a) (take_more xs i d k)
    ∙ drop-append-le a (take i xs) (get_or xs i d ∷ []) (omega (arith, length-take-le i xs (omega arith)))
