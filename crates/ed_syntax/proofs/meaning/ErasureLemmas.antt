-- Lists, steps and lines where a letter is taken off.
use Rattle.std.proofs.Common.{◌≡◌, ◌≢◌, ℕ, zero, suc, ◌+◌, Bool, true, false, not, cond, List, [], ◌∷◌, ◌++◌, map, take, drop, length, get_or, set, replicate, Some, None, Result, Ok, Err, refl, sym, ap, ◌∙◌}
use Rattle.std.specs.Prelude.{position, find, nat_lt}
use Rattle.std.specs.List.{position_or_len}
use Rattle.std.proofs.lemmas.List.{length-map, map-append, map-set, take-map, drop-map, set_comm, get_or-set_other}
use Rattle.std.proofs.Math.ListN.{get_or-map}
use Rattle.ed_base.specs.Buffer.{Line, plain_line, has_letter, with_letter, with_flag, marked_place, marked_at, flagged_at, flagged_place, texts}
use Rattle.ed_base.specs.Parts.{block, exchanged}
use Rattle.ed_base.specs.declared.fault.Fault.{Fault}
use Rattle.ed_syntax.specs.meaning.Values.{◌>>◌}
use Rattle.ed_syntax.specs.meaning.Erasure.{lines_without}
use Rattle.ed_syntax.proofs.meaning.StepLemmas.{chosen}

-- STEPS

-- a value, changed where there is one
abbrev pub mapped : {A B : Type 0} → (A → B) → Result A Fault → Result B Fault
mapped f r = r >> λ a. Ok (f a)

-- the same step, and then one that gives the changed value
pub then-mapped : {A C D : Type 0} (g : C → D) (r : Result A Fault) (k : A → Result C Fault) (l : A → Result D Fault) →
    ((a : A) → l a ≡ mapped g (k a)) → (r >> l) ≡ mapped g (r >> k)
then-mapped g (Ok a) k l same = same a
then-mapped g (Err e) k l same = refl

-- a step that gives a changed value, and then one that gives one
pub mapped-mapped : {A B C D : Type 0} (f : A → B) (g : C → D) (r : Result A Fault) (k : A → Result C Fault) (l : B → Result D Fault) →
    ((a : A) → l (f a) ≡ mapped g (k a)) → (mapped f r >> l) ≡ mapped g (r >> k)
mapped-mapped f g (Ok a) k l same = same a
mapped-mapped f g (Err e) k l same = refl

-- the same step, and then the same one
pub then-same : {A B : Type 0} (r : Result A Fault) (k l : A → Result B Fault) → ((a : A) → k a ≡ l a) → (r >> k) ≡ (r >> l)
then-same (Ok a) k l same = same a
then-same (Err e) k l same = refl

-- one of two by the same test
pub chosen-mapped : {A B : Type 0} (g : A → B) (test : Bool) (a b : A) (c d : B) → c ≡ g a → d ≡ g b → chosen test c d ≡ g (chosen test a b)
chosen-mapped g true a b c d one other = one
chosen-mapped g false a b c d one other = other

-- LISTS

pub map-comm : {A : Type 0} (f g : A → A) → ((a : A) → f (g a) ≡ g (f a)) → (xs : List A) → map f (map g xs) ≡ map g (map f xs)
map-comm f g same [] = refl
map-comm f g same (x ∷ xs) = ap (λ y. y ∷ map f (map g xs)) (same x) ∙ ap (λ ys. g (f x) ∷ ys) (map-comm f g same xs)

pub map-within : {A B : Type 0} (f : A → A) (g : A → B) → ((a : A) → g (f a) ≡ g a) → (xs : List A) → map g (map f xs) ≡ map g xs
map-within f g same [] = refl
map-within f g same (x ∷ xs) = ap (λ y. y ∷ map g (map f xs)) (same x) ∙ ap (λ ys. g x ∷ ys) (map-within f g same xs)

pub block-map : {A B : Type 0} (f : A → B) (a b : ℕ) (xs : List A) → block a b (map f xs) ≡ map f (block a b xs)
block-map f a b xs = ap (drop a) (take-map f b xs) ∙ drop-map f a (take b xs)

pub exchanged-map : {A B : Type 0} (f : A → B) (a b : ℕ) (new xs : List A) → exchanged a b (map f new) (map f xs) ≡ map f (exchanged a b new xs)
exchanged-map f a b new xs =
    ap (λ l. l ++ (map f new ++ drop b (map f xs))) (take-map f a xs)
    ∙ ap (λ l. map f (take a xs) ++ (map f new ++ l)) (drop-map f b xs)
    ∙ ap (λ l. map f (take a xs) ++ l) (sym (map-append f new (drop b xs)))
    ∙ sym (map-append f (take a xs) (new ++ drop b xs))

pub find-same : {A : Type 0} (p q : A → Bool) → ((a : A) → p a ≡ q a) → (xs : List A) → find p xs ≡ find q xs
find-same p q same [] = refl
find-same p q same (x ∷ xs) =
    ap (λ b. cond b (Some x) (find p xs)) (same x) ∙ ap (λ o. cond (q x) (Some x) o) (find-same p q same xs)

position_or_len-map : {A : Type 0} (f : A → A) (p : A → Bool) → ((a : A) → p (f a) ≡ p a) → (xs : List A) →
    position_or_len p (map f xs) ≡ position_or_len p xs
position_or_len-map f p same [] = refl
position_or_len-map f p same (x ∷ xs) =
    ap (λ b. cond (not b) (1 + position_or_len p (map f xs)) 0) (same x)
    ∙ ap (λ n. cond (not (p x)) (1 + n) 0) (position_or_len-map f p same xs)

pub position-map : {A : Type 0} (f : A → A) (p : A → Bool) → ((a : A) → p (f a) ≡ p a) → (xs : List A) → position p (map f xs) ≡ position p xs
position-map f p same xs =
    ap (λ n. cond (nat_lt n (length (map f xs))) (Some n) None) (position_or_len-map f p same xs)
    ∙ ap (λ n. cond (nat_lt (position_or_len p xs) n) (Some (position_or_len p xs)) None) (length-map xs f)

-- LINES

set-replicate : {A : Type 0} (n i : ℕ) (a : A) → set (replicate n a) i a ≡ replicate n a
set-replicate zero i a = refl
set-replicate (suc n) zero a = refl
set-replicate (suc n) (suc i) a = ap (λ l. a ∷ l) (set-replicate n i a)

module _ (x : ℕ) where
  -- a line without the letter
  abbrev pub bare : Line → Line
  bare line = with_letter x false line

  pub bare-plain : (text : List ℕ) → bare (plain_line text) ≡ plain_line text
  bare-plain text = ap (λ (letters : List Bool). record (plain_line text) { letters = letters }) (set-replicate 26 x false)

  pub plain-without : (text : List (List ℕ)) → lines_without x (map plain_line text) ≡ map plain_line text
  plain-without [] = refl
  plain-without (t ∷ ts) = ap (λ l. l ∷ lines_without x (map plain_line ts)) (bare-plain t) ∙ ap (λ ls. plain_line t ∷ ls) (plain-without ts)

  pub length-without : (lines : List Line) → length (lines_without x lines) ≡ length lines
  length-without lines = length-map lines bare

  pub texts-without : (lines : List Line) → texts (lines_without x lines) ≡ texts lines
  texts-without lines = map-within bare (λ (line : Line). line.bytes) (λ line. refl) lines

  pub block-without : (a b : ℕ) (lines : List Line) → block a b (lines_without x lines) ≡ lines_without x (block a b lines)
  block-without a b lines = block-map bare a b lines

  pub exchanged-without : (a b : ℕ) (new lines : List Line) → exchanged a b (lines_without x new) (lines_without x lines) ≡ lines_without x (exchanged a b new lines)
  exchanged-without a b new lines = exchanged-map bare a b new lines

  -- plain lines in place of others
  pub plain-exchanged-without : (a b : ℕ) (text : List (List ℕ)) (lines : List Line) →
      exchanged a b (map plain_line text) (lines_without x lines) ≡ lines_without x (exchanged a b (map plain_line text) lines)
  plain-exchanged-without a b text lines =
      ap (λ new. exchanged a b new (lines_without x lines)) (sym (plain-without text)) ∙ exchanged-without a b (map plain_line text) lines

  pub get_or-without : (lines : List Line) (i : ℕ) → get_or (lines_without x lines) i (plain_line []) ≡ bare (get_or lines i (plain_line []))
  get_or-without lines i = ap (get_or (lines_without x lines) i) (sym (bare-plain [])) ∙ get_or-map bare lines i (plain_line [])

  pub flagged_at-without : (place : ℕ) (flag : Bool) (lines : List Line) → flagged_at place flag (lines_without x lines) ≡ lines_without x (flagged_at place flag lines)
  flagged_at-without place flag lines =
      ap (λ line. set (lines_without x lines) place (with_flag flag line)) (get_or-without lines place)
      ∙ sym (map-set bare lines place (with_flag flag (get_or lines place (plain_line []))))

  pub flagged_place-without : (lines : List Line) → flagged_place (lines_without x lines) ≡ flagged_place lines
  flagged_place-without lines = position-map bare (λ (line : Line). line.flag) (λ line. refl) lines

  -- another letter
  module _ (y : ℕ) (other : y ≢ x) where
    other-has : (line : Line) → has_letter y (bare line) ≡ has_letter y line
    other-has line = get_or-set_other line.letters x y false false other

    other-comm : (marks : Bool) (line : Line) → with_letter y marks (bare line) ≡ bare (with_letter y marks line)
    other-comm marks line = ap (λ (letters : List Bool). record line { letters = letters }) (set_comm line.letters x y false marks (λ e. other (sym e)))

    pub marked_place-without : (lines : List Line) → marked_place y (lines_without x lines) ≡ marked_place y lines
    marked_place-without lines = position-map bare (has_letter y) other-has lines

    pub marked_at-without : (place : ℕ) (lines : List Line) → marked_at place y (lines_without x lines) ≡ lines_without x (marked_at place y lines)
    marked_at-without place lines =
        let others = map (with_letter y false) lines in
        ap (λ ls. set ls place (with_letter y true (get_or ls place (plain_line [])))) (map-comm (with_letter y false) bare (other-comm false) lines)
        ∙ ap (λ line. set (lines_without x others) place (with_letter y true line)) (get_or-without others place)
        ∙ ap (λ line. set (lines_without x others) place line) (other-comm true (get_or others place (plain_line [])))
        ∙ sym (map-set bare others place (with_letter y true (get_or others place (plain_line []))))
