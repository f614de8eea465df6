-- Words of one kind, each after a space, as they are read.
use Rattle.std.proofs.Common.{◌≡◌, ◌≢◌, ◌<◌, ◌++◌, ◌∷◌, [], ℕ, Bool, true, false, List, map, length, Option, None, Some, arith, refl, ◌∙◌, sym, ap, subst, append-nil}
use Rattle.std.specs.Prelude.{IfSome, IfNone}
use Rattle.std.specs.List.{flat_map, All}
use Rattle.std.proofs.lemmas.List.{append_cancel_left}
use Rattle.std.proofs.lemmas.Bool.{false≢true}
use Rattle.std.proofs.lemmas.Simd.{map-map}
use Rattle.ed_rules.specs.Formed.{ChoiceIsBytes, SetIsFormed, TextsAreFormed}
use Rattle.ed_rules.specs.Choices.{Choice, is_set}
use Rattle.ed_rules.specs.Texts.{are_rising}
use Rattle.cert_check.specs.text.Text.{Word, Line, space, spaced, line_text, choice_word, choices_line, texts_line}
use Rattle.cert_check.specs.text.Reading.{ReadsAs, WordReadsAs, IsFirstWord, EndsWord}
use Rattle.cert_check.proofs.texts.Separated.{Above, later-of}
use Rattle.cert_check.proofs.texts.Chosen.{choice-above, choice-same, some-same, somes-same}
use Rattle.cert_check.proofs.texts.Cutting.{unspaced, ends, word-same}
use Rattle.cert_check.proofs.texts.Codes.{IsCode, Left, left-of, spaced-map}
use Rattle.cert_check.proofs.texts.ReadWords.{middle}

-- words that say what they are the words of
pub record AreNames {A : Type 0} (word : A → Word) : Type 0 where
  pub same : (x y : A) → word x ≡ word y → x ≡ y
  pub above : (x : A) → Above 32 (word x)

pub choices-are-names : AreNames choice_word
choices-are-names = record { same = choice-same; above = choice-above }

pub texts-are-names : AreNames (λ (text : List ℕ). choice_word (Some text))
texts-are-names = record { same = λ a b e. some-same a b (choice-same (Some a) (Some b) e); above = λ a. choice-above (Some a) }

code-of : {A : Type 0} (word : A → Word) → AreNames word → IsCode (λ x. space ∷ word x) EndsWord
code-of word names = record {
  same = λ x y r s h k e.
      let both = word-same (word x) (word y) r s (unspaced (word x) (names.above x)) (unspaced (word y) (names.above y)) h k (later-of e) in
      (names.same x y both.0, both.1);
  some = λ x r e. absurd cc;
  nothing = tt;
  another = λ x r. refl;
}

pub spaced-same : {A : Type 0} (word : A → Word) → AreNames word → (a b : List A) → spaced (map word a) ≡ spaced (map word b) →
    a ≡ b
spaced-same word names [] [] e = refl
spaced-same word names [] (y ∷ b) e = absurd cc
spaced-same word names (x ∷ a) [] e = absurd cc
spaced-same word names (x ∷ a) (y ∷ b) e =
    let both = word-same (word x) (word y) (spaced (map word a)) (spaced (map word b)) (unspaced (word x) (names.above x))
    (unspaced (word y) (names.above y))
    (ends (map word a)) (ends (map word b)) (later-of e) in
    let first : x ≡ y = names.same x y both.0 in
    let rest : a ≡ b = spaced-same word names a b both.1 in
    cc

others : {A : Type 0} (word : A → Word) → AreNames word → (done all : List A) (left text : List ℕ) →
    spaced (map word done) ++ left ≡ text → (0 < length done → EndsWord left) → spaced (map word all) ≡ text →
    Left (λ x. space ∷ word x) done all left
others word names done all left text sofar end e =
    left-of (λ x. space ∷ word x) EndsWord (code-of word names) done all left end
    (sym (spaced-map word all) ∙ e ∙ sym sofar ∙ ap (λ (t : List ℕ). t ++ left) (spaced-map word done))

-- a first word that no item has
pub stopped : {A : Type 0} (word : A → Word) (Has : A → Type 0) → AreNames word →
    (done all : List A) (left text w later : List ℕ) → spaced (map word done) ++ left ≡ text →
    (0 < length done → EndsWord left) → IsFirstWord left w later → ((x : A) → Has x → word x ≢ w) → All Has all →
    spaced (map word all) ≡ text → ⊥
stopped {A} word Has names done all left text w later sofar end first absent has e =
    let l = others word names done all left text sofar end e in
    elim l.later as (λ t. l.later ≡ t → ⊥) [
      | [] ↦ λ is. let none : [] ≡ space ∷ (w ++ later) = ap (λ (t : List A). flat_map (λ x. space ∷ word x) t) (sym is)
          ∙ l.rest ∙ first.0 in absurd cc
      | x ∷ xs ↦ λ is.
          let rest : (space ∷ word x) ++ flat_map (λ x. space ∷ word x) xs ≡ space ∷ (w ++ later) =
          ap (λ (t : List A). flat_map (λ x. space ∷ word x) t) (sym is) ∙ l.rest ∙ first.0 in
          let here : word x ++ spaced (map word xs) ≡ w ++ later = ap (λ (t : List ℕ). word x ++ t) (spaced-map word xs)
          ∙ later-of rest in
          let both = word-same (word x) w (spaced (map word xs)) later (unspaced (word x) (names.above x)) first.1.0 (ends (map word xs))
          first.1.1 here in
          absent x (middle Has done x xs (subst (λ (t : List A). All Has t) (l.is ∙ ap (λ (t : List A). done ++ t) is) has)) both.0
    ] refl

-- what is left begins with no space, and is something
pub ended : {A : Type 0} (word : A → Word) → AreNames word → (done all : List A) (left text : List ℕ) →
    spaced (map word done) ++ left ≡ text → (0 < length done → EndsWord left) →
    ((later : List ℕ) → left ≢ space ∷ later) → ([] ≡ left → ⊥) → spaced (map word all) ≡ text → ⊥
ended {A} word names done all left text sofar end absent some e =
    let l = others word names done all left text sofar end e in
    elim l.later as (λ t. l.later ≡ t → ⊥) [
      | [] ↦ λ is. some (ap (λ (t : List A). flat_map (λ x. space ∷ word x) t) (sym is) ∙ l.rest)
      | x ∷ xs ↦ λ is. absent (word x ++ flat_map (λ x. space ∷ word x) xs)
          (sym (ap (λ (t : List A). flat_map (λ x. space ∷ word x) t) (sym is) ∙ l.rest))
    ] refl

-- the words of a line after its key
pub after-its-key : (key line left : List ℕ) (words : List Word) → line ≡ key ++ left → line_text (key ∷ words) ≡ line →
    spaced words ≡ left
after-its-key key line left words is e = append_cancel_left key (spaced words) left (e ∙ is)

-- texts are spelled as choices that aren't none
pub spelled-texts : (texts : List (List ℕ)) →
    spaced (map choice_word (map Some texts)) ≡ spaced (map (λ (text : List ℕ). choice_word (Some text)) texts)
spelled-texts texts = ap (λ (words : List Word). spaced words) (map-map choice_word Some texts)

-- lines of sets are the same where the sets are
abbrev AreTold : {A : Type 0} → (spell : A → Line) → Type 0
AreTold {A} spell = (a b : A) → line_text (spell a) ≡ line_text (spell b) → a ≡ b

choices-told : (key : Word) → AreTold (choices_line key)
choices-told key a b e =
    spaced-same choice_word choices-are-names a b (append_cancel_left key (spaced (map choice_word a)) (spaced (map choice_word b)) e)

pub texts-told : (key : Word) → AreTold (texts_line key)
texts-told key a b e = somes-same a b (choices-told key (map Some a) (map Some b) e)

-- A line whose values were read, in whatever order: it is that of the set that was made of them, or of no set, where they don't pass the
-- test that each set passes.
pub sorted-read : {A : Type 0} (spell : A → Line) (Has : A → Type 0) (test : A → Bool) → AreTold spell →
    ((a : A) → Has a → test a ≡ true) → (line : List ℕ) (read : A) (set : Option A) → line_text (spell read) ≡ line →
    (test read ≡ true → Has read) → IfSome set (λ s. s ≡ read) → IfSome set (λ s. test s ≡ true) →
    IfNone set (test read ≡ false) → ReadsAs spell Has line set
sorted-read {A} spell Has test told passes line read None is formed same passed refused =
    λ a h e. false≢true (sym refused ∙ subst (λ (s : A). test s ≡ true) (told a read (e ∙ sym is)) (passes a h))
sorted-read {A} spell Has test told passes line read (Some set) is formed same passed refused = (
  ap (λ (s : A). line_text (spell s)) same ∙ is,
  subst Has (sym same) (formed (subst (λ (s : A). test s ≡ true) same passed)),
)

-- sets of choices, and of texts, that were read
pub set-formed : (set : List Choice) → All ChoiceIsBytes set → is_set set ≡ true → SetIsFormed set
set-formed [] bytes e = absurd cc
set-formed (c ∷ set) bytes e = record { bytes = bytes; rising = e; some = omega arith }

formed-set : (set : List Choice) → SetIsFormed set → is_set set ≡ true
formed-set [] h = let some = h.some in absurd (omega arith)
formed-set (c ∷ set) h = h.rising

pub choices-read : (key line : List ℕ) (read : List Choice) (set : Option (List Choice)) →
    line_text (choices_line key read) ≡ line → All ChoiceIsBytes read → IfSome set (λ s. s ≡ read) →
    IfSome set (λ s. is_set s ≡ true) → IfNone set (is_set read ≡ false) → ReadsAs (choices_line key) SetIsFormed line set
choices-read key line read set is bytes =
    sorted-read (choices_line key) SetIsFormed is_set (choices-told key) formed-set line read set is (set-formed read bytes)

pub texts-read : (key line : List ℕ) (read : List (List ℕ)) (set : Option (List (List ℕ))) →
    line_text (texts_line key read) ≡ line → All ChoiceIsBytes (map Some read) → IfSome set (λ s. s ≡ read) →
    IfSome set (λ s. are_rising s ≡ true) → IfNone set (are_rising read ≡ false) → ReadsAs (texts_line key) TextsAreFormed line set
texts-read key line read set is bytes =
    sorted-read (texts_line key) TextsAreFormed are_rising (texts-told key) (λ a h. h.rising) line read set is
    (λ rising. record { bytes = bytes; rising = rising })

-- the words of a line after its key are read as those of the line
pub line-reads : {A : Type 0} (words : A → List Word) (Has : A → Type 0) (key line left : List ℕ) (v : Option A) →
    line ≡ key ++ left → WordReadsAs (λ a. spaced (words a)) Has left v → ReadsAs (λ a. key ∷ words a) Has line v
line-reads words Has key line left None is h = λ a has e. h a has (after-its-key key line left (words a) is e)
line-reads words Has key line left (Some a) is h = (ap (λ (t : List ℕ). key ++ t) h.0 ∙ sym is, h.1)

-- all of a text was read
pub texts-spelled : (texts : List (List ℕ)) (left text : List ℕ) →
    spaced (map (λ (t : List ℕ). choice_word (Some t)) texts) ++ left ≡ text → left ≡ [] →
    spaced (map choice_word (map Some texts)) ≡ text
texts-spelled texts left text read none =
    spelled-texts texts ∙ sym (append-nil (spaced (map (λ (t : List ℕ). choice_word (Some t)) texts)))
    ∙ ap (λ (l : List ℕ). spaced (map (λ (t : List ℕ). choice_word (Some t)) texts) ++ l) (sym none) ∙ read
