-- Words of items of a kind, each after a space, as they are read: words that are the same are those of one item where both are of the kind.
use Rattle.std.proofs.Common.{◌≡◌, ◌≢◌, ◌<◌, ◌++◌, ◌∷◌, [], ℕ, List, map, length, arith, refl, ◌∙◌, sym, ap, subst, append_assoc, append-nil}
use Rattle.std.specs.List.{All}
use Rattle.std.proofs.lemmas.List.Elements.{All-head, All-tail, All-nil, All-cons, All-append}
use Rattle.cert_check.specs.text.Text.{Word, space, spaced}
use Rattle.cert_check.specs.text.Reading.{IsFirstWord, EndsWord}
use Rattle.cert_check.proofs.texts.Separated.{Above, later-of}
use Rattle.cert_check.proofs.texts.Cutting.{unspaced, ends, word-same}
use Rattle.cert_check.proofs.texts.ReadWords.{middle}

-- words that say of which item of the kind they are
pub record AreTold {A : Type 0} (word : A → Word) (Has : A → Type 0) : Type 0 where
  pub same : (x y : A) → Has x → Has y → word x ≡ word y → x ≡ y
  pub above : (x : A) → Above 32 (word x)

-- the items that were read are the first of all, and the others are left
record Rest {A : Type 0} (word : A → Word) (done all : List A) (left : List ℕ) : Type 0 where
  pub later : List A
  pub is : all ≡ done ++ later
  pub rest : spaced (map word later) ≡ left

ends-left : {A : Type 0} (word : A → Word) (done : List A) (left : List ℕ) → EndsWord left →
    EndsWord (spaced (map word done) ++ left)
ends-left word [] left h = h
ends-left word (x ∷ done) left h = refl

rest-of : {A : Type 0} (word : A → Word) (Has : A → Type 0) → AreTold word Has → (done all : List A) (left : List ℕ) →
    All Has done → All Has all →
    (0 < length done → EndsWord left) → spaced (map word done) ++ left ≡ spaced (map word all) → Rest word done all left
rest-of word Has told [] all left h k end e = record { later = all; is = refl; rest = sym e }
rest-of word Has told (x ∷ done) [] left h k end e = absurd cc
rest-of word Has told (x ∷ done) (y ∷ all) left h k end e =
    let after : EndsWord left = end (omega arith) in
    let cut : word x ++ (spaced (map word done) ++ left) ≡ word y ++ spaced (map word all) =
    sym (append_assoc (word x) (spaced (map word done)) left) ∙ later-of e in
    let both = word-same (word x) (word y) (spaced (map word done) ++ left) (spaced (map word all)) (unspaced (word x) (told.above x))
    (unspaced (word y) (told.above y)) (ends-left word done left after) (ends (map word all)) cut in
    let first : x ≡ y = told.same x y (All-head Has x done h) (All-head Has y all k) both.0 in
    let later = rest-of word Has told done all left (All-tail Has x done h) (All-tail Has y all k) (λ _. after) both.1 in
    let others : all ≡ done ++ later.later = later.is in
    record { later = later.later; is = cc; rest = later.rest }

-- a first word that no item has
pub stopped : {A : Type 0} (word : A → Word) (Has : A → Type 0) → AreTold word Has →
    (done all : List A) (left text w later : List ℕ) → All Has done →
    spaced (map word done) ++ left ≡ text → (0 < length done → EndsWord left) → IsFirstWord left w later →
    ((x : A) → Has x → word x ≢ w) →
    All Has all → spaced (map word all) ≡ text → ⊥
stopped {A} word Has told done all left text w later has read end first absent each e =
    let l = rest-of word Has told done all left has each end (read ∙ sym e) in
    elim l.later as (λ t. l.later ≡ t → ⊥) [
      | [] ↦ λ is. let none : [] ≡ space ∷ (w ++ later) = ap (λ (t : List A). spaced (map word t)) (sym is) ∙ l.rest
          ∙ first.0 in absurd cc
      | x ∷ xs ↦ λ is.
          let here : word x ++ spaced (map word xs) ≡ w ++ later =
          later-of (ap (λ (t : List A). spaced (map word t)) (sym is) ∙ l.rest ∙ first.0) in
          let both = word-same (word x) w (spaced (map word xs)) later (unspaced (word x) (told.above x)) first.1.0 (ends (map word xs))
          first.1.1 here in
          absent x (middle Has done x xs (subst (λ (t : List A). All Has t) (l.is ∙ ap (λ (t : List A). done ++ t) is) each)) both.0
    ] refl

-- what is left begins with no space, and is something
pub ended : {A : Type 0} (word : A → Word) (Has : A → Type 0) → AreTold word Has → (done all : List A) (left text : List ℕ) →
    All Has done →
    spaced (map word done) ++ left ≡ text → (0 < length done → EndsWord left) →
    ((later : List ℕ) → left ≢ space ∷ later) → ([] ≡ left → ⊥) →
    All Has all → spaced (map word all) ≡ text → ⊥
ended {A} word Has told done all left text has read end absent some each e =
    let l = rest-of word Has told done all left has each end (read ∙ sym e) in
    elim l.later as (λ t. l.later ≡ t → ⊥) [
      | [] ↦ λ is. some (ap (λ (t : List A). spaced (map word t)) (sym is) ∙ l.rest)
      | x ∷ xs ↦ λ is. absent (word x ++ spaced (map word xs)) (sym (ap (λ (t : List A). spaced (map word t)) (sym is) ∙ l.rest))
    ] refl

-- the items of a text are told
pub one-list : {A : Type 0} (word : A → Word) (Has : A → Type 0) → AreTold word Has → (a b : List A) → All Has a → All Has b →
    spaced (map word a) ≡ spaced (map word b) → a ≡ b
one-list {A} word Has told a b h k e =
    let l = rest-of word Has told a b [] h k (λ _. tt) (append-nil (spaced (map word a)) ∙ e) in
    elim l.later as (λ t. l.later ≡ t → a ≡ b) [
      | [] ↦ λ is. sym (l.is ∙ ap (λ (t : List A). a ++ t) is ∙ append-nil a)
      | x ∷ xs ↦ λ is.
          let none : space ∷ (word x ++ spaced (map word xs)) ≡ [] = ap (λ (t : List A). spaced (map word t)) (sym is)
          ∙ l.rest in absurd cc
    ] refl

spaced-more : {A : Type 0} (word : A → Word) (done : List A) (x : A) (later : List ℕ) →
    spaced (map word (done ++ (x ∷ []))) ++ later ≡ spaced (map word done) ++ (space ∷ (word x ++ later))
spaced-more word [] x later = ap (λ (t : List ℕ). space ∷ (t ++ later)) (append-nil (word x))
spaced-more word (y ∷ done) x later =
    ap (λ (t : List ℕ). space ∷ t)
    (append_assoc (word y) (spaced (map word (done ++ (x ∷ [])))) later ∙ ap (λ (t : List ℕ). word y ++ t) (spaced-more word done x later)
    ∙ sym (append_assoc (word y) (spaced (map word done)) (space ∷ (word x ++ later))))

-- one item more was read
pub record More {A : Type 0} (word : A → Word) (Has : A → Type 0) (done : List A) (left text : List ℕ) : Type 0 where
  pub read : spaced (map word done) ++ left ≡ text
  pub ends : 0 < length done → EndsWord left
  pub each : All Has done

pub one-more : {A : Type 0} (word : A → Word) (Has : A → Type 0) (done : List A) (x : A) (after : List A) (left text w later : List ℕ) → after ≡ done ++ (x ∷ []) →
    spaced (map word done) ++ left ≡ text → IsFirstWord left w later → word x ≡ w → Has x → All Has done →
    More word Has after later text
one-more word Has done x after left text w later is read first here has each = record {
  read =
      ap (λ (items : List _). spaced (map word items) ++ later) is ∙ spaced-more word done x later
      ∙ ap (λ (t : List ℕ). spaced (map word done) ++ (space ∷ (t ++ later))) here
      ∙ ap (λ (t : List ℕ). spaced (map word done) ++ t) (sym first.0) ∙ read;
  ends = λ some. first.1.1;
  each = subst (λ (items : List _). All Has items) (sym is) (All-append Has done (x ∷ []) each (All-cons Has x [] has (All-nil Has)));
}
