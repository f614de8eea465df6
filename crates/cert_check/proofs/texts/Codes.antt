-- Items that are written one after another, each so that it shows where it ends: what is read of them is all that they can be.
use Rattle.std.proofs.Common.{◌≡◌, ◌<◌, ◌++◌, ◌∷◌, [], ℕ, List, map, length, arith, refl, ◌∙◌, sym, ap, subst, append_assoc}
use Rattle.std.specs.List.{flat_map}
use Rattle.cert_check.specs.text.Text.{Word, space, spaced}

-- how an item is spelled, and what may stand after one
pub record IsCode {A : Type 0} (spell : A → List ℕ) (Follows : List ℕ → Type 0) : Type 0 where
  pub same : (x y : A) (r s : List ℕ) → Follows r → Follows s → spell x ++ r ≡ spell y ++ s → (x ≡ y) × (r ≡ s)
  pub some : (x : A) (r : List ℕ) → [] ≡ spell x ++ r → ⊥
  pub nothing : Follows []
  pub another : (x : A) (r : List ℕ) → Follows (spell x ++ r)

-- all items begin with those that are read, and the others are left
pub record Left {A : Type 0} (spell : A → List ℕ) (done all : List A) (left : List ℕ) : Type 0 where
  pub later : List A
  pub is : all ≡ done ++ later
  pub rest : flat_map spell later ≡ left

follows : {A : Type 0} (spell : A → List ℕ) (Follows : List ℕ → Type 0) → IsCode spell Follows → (v : List A) (left : List ℕ) → Follows left → Follows (flat_map spell v ++ left)
follows spell Follows code [] left h = h
follows spell Follows code (x ∷ v) left h =
    subst (λ (t : List ℕ). Follows t) (sym (append_assoc (spell x) (flat_map spell v) left)) (code.another x (flat_map spell v ++ left))

follows-all : {A : Type 0} (spell : A → List ℕ) (Follows : List ℕ → Type 0) → IsCode spell Follows → (v : List A) → Follows (flat_map spell v)
follows-all spell Follows code [] = code.nothing
follows-all spell Follows code (x ∷ v) = code.another x (flat_map spell v)

pub left-of : {A : Type 0} (spell : A → List ℕ) (Follows : List ℕ → Type 0) → IsCode spell Follows → (done all : List A) (left : List ℕ) →
    (0 < length done → Follows left) → flat_map spell all ≡ flat_map spell done ++ left → Left spell done all left
left-of spell Follows code [] all left ends e = record { later = all; is = refl; rest = e }
left-of spell Follows code (x ∷ done) [] left ends e = absurd (code.some x (flat_map spell done ++ left) (e ∙ append_assoc (spell x) (flat_map spell done) left))
left-of spell Follows code (x ∷ done) (y ∷ all) left ends e =
    let end : Follows left = ends (omega arith) in
    let both = code.same y x (flat_map spell all) (flat_map spell done ++ left) (follows-all spell Follows code all) (follows spell Follows code done left end)
    (e ∙ append_assoc (spell x) (flat_map spell done) left) in
    let later = left-of spell Follows code done all left (λ _. end) both.1 in
    let first : y ≡ x = both.0 in
    let others : all ≡ done ++ later.later = later.is in
    record { later = later.later; is = cc; rest = later.rest }

-- words after spaces are such items
pub spaced-map : {A : Type 0} (word : A → Word) (xs : List A) → spaced (map word xs) ≡ flat_map (λ x. space ∷ word x) xs
spaced-map word [] = refl
spaced-map word (x ∷ xs) = ap (λ (t : List ℕ). space ∷ (word x ++ t)) (spaced-map word xs)
