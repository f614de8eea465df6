-- Parts of a list in a row: what stands before a part, the part, and what stands after it are the list.
use Rattle.std.proofs.Common.{◌≡◌, ℕ, ◌≤◌, List, ◌++◌, take, drop, sym, ap, ◌∙◌, append_assoc}
use Rattle.std.proofs.lemmas.List.{take-take, take-append-drop}
use Rattle.ed_base.specs.Parts.{block}

-- the elements before a place are those before an earlier one, and those between
pub front : {A : Type 0} (a b : ℕ) (xs : List A) → a ≤ b → take a xs ++ block a b xs ≡ take b xs
front a b xs h = ap (λ t. t ++ block a b xs) (sym (take-take a b xs h)) ∙ take-append-drop a (take b xs)

-- a part stands between what is before it and what is after it
pub whole : {A : Type 0} (a b : ℕ) (xs : List A) → a ≤ b → take a xs ++ (block a b xs ++ drop b xs) ≡ xs
whole a b xs h =
    sym (append_assoc (take a xs) (block a b xs) (drop b xs))
    ∙ ap (λ t. t ++ drop b xs) (front a b xs h)
    ∙ take-append-drop b xs
