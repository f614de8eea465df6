-- The paths of writes, each once: what one write more brings.
use Rattle.std.proofs.Common.{◌≡◌, ℕ, Bool, true, false, cond, not, ◌||◌, List, [], ◌∷◌, ◌++◌, refl, sym, ap, subst, ◌∙◌, ◌+◌, ◌<◌, length, take, get_or}
use Rattle.std.specs.Prelude.{filter}
use Rattle.std.specs.List.{list_any}
use Rattle.std.specs.Str.{bytes_eq}
use Rattle.std.proofs.lemmas.List.{append-nil, take_more}
use Rattle.std.proofs.lemmas.List.Folds.{list_any-append}
use Rattle.std.proofs.lemmas.List.Elements.{filter-append}
use Rattle.std.proofs.lemmas.Map.Views.{any-filter_same}
use Rattle.std.proofs.lemmas.Slice.Eq.{bytes_eq-Decides}
use Rattle.ed_main.specs.Diffs.{first_paths}
use Rattle.rehearsal.specs.declared.held_write.HeldWrite.{HeldWrite}

-- whether these paths have this one
abbrev pub has : List (List ℕ) → List ℕ → Bool
has paths path = list_any (λ one. bytes_eq one path) paths

-- these paths without this one
abbrev without : List ℕ → List (List ℕ) → List (List ℕ)
without path paths = filter (λ one. not (bytes_eq path one)) paths

-- the paths and this one, unless they have it
abbrev pub and_one : List (List ℕ) → List ℕ → List (List ℕ)
and_one paths path = cond (has paths path) paths (paths ++ path ∷ [])

other_stays : (first path one : List ℕ) → bytes_eq first path ≡ false → bytes_eq one path ≡ true → not (bytes_eq first one) ≡ true
other_stays first path one apart same =
    let equal : one ≡ path = (bytes_eq-Decides one path).0 same in
    ap not (subst (λ p. bytes_eq first p ≡ false) (sym equal) apart)

has-without : (first path : List ℕ) (paths : List (List ℕ)) → bytes_eq first path ≡ false → has (without first paths) path ≡ has paths path
has-without first path paths apart =
    any-filter_same (λ one. bytes_eq one path) (λ one. not (bytes_eq first one)) true (λ one. other_stays first path one apart) paths

without-one : (first path : List ℕ) (found : Bool) → bytes_eq first path ≡ found → without first (path ∷ []) ≡ cond found [] (path ∷ [])
without-one first path found is = rw is (elim found as (λ v. cond (not v) (path ∷ []) [] ≡ cond v [] (path ∷ [])) [ true ↦ refl | false ↦ refl ])

without-more : (first path : List ℕ) (paths : List (List ℕ)) (found : Bool) → bytes_eq first path ≡ found
    → without first (paths ++ path ∷ []) ≡ without first paths ++ cond found [] (path ∷ [])
without-more first path paths found is =
    filter-append (λ one. not (bytes_eq first one)) paths (path ∷ []) ∙ ap (λ more. without first paths ++ more) (without-one first path found is)

same_again : (first path : List ℕ) (paths : List (List ℕ)) (found : Bool) → bytes_eq first path ≡ true
    → first ∷ without first (cond found paths (paths ++ path ∷ [])) ≡ first ∷ without first paths
same_again first path paths true same = refl
same_again first path paths false same = ap (λ more. first ∷ more) (without-more first path paths true same ∙ append-nil (without first paths))

other_again : (first path : List ℕ) (paths : List (List ℕ)) (found : Bool) → bytes_eq first path ≡ false
    → first ∷ without first (cond found paths (paths ++ path ∷ [])) ≡ cond found (first ∷ without first paths) ((first ∷ without first paths) ++ path ∷ [])
other_again first path paths true apart = refl
other_again first path paths false apart = ap (λ more. first ∷ more) (without-more first path paths false apart)

before : (first path : List ℕ) (paths : List (List ℕ)) (found : Bool) → bytes_eq first path ≡ found
    → first ∷ without first (and_one paths path) ≡ and_one (first ∷ without first paths) path
before first path paths true same =
    rw same (same_again first path paths (has paths path) same)
before first path paths false apart =
    rw (apart, has-without first path paths apart) (other_again first path paths (has paths path) apart)

pub first_paths-push : (writes : List HeldWrite) (write : HeldWrite) → first_paths (writes ++ write ∷ []) ≡ and_one (first_paths writes) write.path
first_paths-push [] write = refl
first_paths-push (first ∷ writes) write =
    ap (λ more. first.path ∷ without first.path more) (first_paths-push writes write)
    ∙ before first.path write.path (first_paths writes) (bytes_eq first.path write.path) refl

pub not-false : (b : Bool) → not b ≡ false → b ≡ true
not-false true e = refl
not-false false e = sym e

either : (this rest : Bool) → cond this true rest ≡ (rest || (this || false))
either true true = refl
either true false = refl
either false true = refl
either false false = refl

-- the paths of one write more
one_more : (writes : List HeldWrite) (i : ℕ) (write : HeldWrite) → i < length writes → write ≡ get_or writes i write
    → first_paths (take (i + 1) writes) ≡ and_one (first_paths (take i writes)) write.path
one_more writes i write within is =
    ap first_paths (take_more writes i write within ∙ ap (λ one. take i writes ++ one ∷ []) (sym is)) ∙ first_paths-push (take i writes) write

pub path_is_new : (writes : List HeldWrite) (i : ℕ) (write : HeldWrite) (paths : List (List ℕ)) → i < length writes → write ≡ get_or writes i write
    → paths ≡ first_paths (take i writes) → has paths write.path ≡ false → paths ++ write.path ∷ [] ≡ first_paths (take (i + 1) writes)
path_is_new writes i write paths within is told new =
    let none : has (first_paths (take i writes)) write.path ≡ false = subst (λ p. has p write.path ≡ false) told new in
    ap (λ p. p ++ write.path ∷ []) told
    ∙ sym (one_more writes i write within is ∙ ap (λ b. cond b (first_paths (take i writes)) (first_paths (take i writes) ++ write.path ∷ [])) none)

pub path_is_old : (writes : List HeldWrite) (i : ℕ) (write : HeldWrite) (paths : List (List ℕ)) → i < length writes → write ≡ get_or writes i write
    → paths ≡ first_paths (take i writes) → has paths write.path ≡ true → paths ≡ first_paths (take (i + 1) writes)
path_is_old writes i write paths within is told old =
    let one : has (first_paths (take i writes)) write.path ≡ true = subst (λ p. has p write.path ≡ true) told old in
    told ∙ sym (one_more writes i write within is ∙ ap (λ b. cond b (first_paths (take i writes)) (first_paths (take i writes) ++ write.path ∷ [])) one)

-- a path more is found just where it is that one, or was found before
pub has-push : (paths : List (List ℕ)) (path one : List ℕ) (before after : Bool) → before ≡ has paths one → after ≡ cond (bytes_eq path one) true before
    → after ≡ has (paths ++ path ∷ []) one
has-push paths path one before after was is =
    is ∙ ap (λ b. cond (bytes_eq path one) true b) was ∙ either (bytes_eq path one) (has paths one)
    ∙ sym (list_any-append (λ p. bytes_eq p one) paths (path ∷ []))
