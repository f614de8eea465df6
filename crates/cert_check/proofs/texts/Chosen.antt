-- Letters, texts and paths, and what is possible: what is written of them says what they are.
use Rattle.std.proofs.Common.{◌≡◌, ◌<◌, ◌≤◌, ◌+◌, ◌/◌, ◌%◌, ◌==◌, ◌++◌, ◌∷◌, [], ℕ, suc, Bool, true, false, not, ◌&&◌, List, length, map, None, Some, inl, inr, arith, refl, ◌∙◌, sym, ap, subst, append_assoc}
use Rattle.std.specs.Prelude.{nat_eq, nat_lt}
use Rattle.std.specs.List.{flat_map, list_any}
use Rattle.std.specs.Cmp.Lexicographic.{pointwise}
use Rattle.std.proofs.lemmas.Bool.{ltb-true, ltb-false, false≢true, and_parts, cases_Bool}
use Rattle.std.proofs.lemmas.Cmp.{nat_list_eq_equiv}
use Rattle.ed_rules.specs.Choices.{Choice}
use Rattle.cert_check.specs.text.Text.{Word, sure_letters, letters_words, hexadecimal, is_itself, byte_text, choice_word, possible}
use Rattle.cert_check.proofs.texts.Separated.{Above, all_above, Above-from_test, Above-append, AreWords, AreWords-append, first-of, later-of}
use Rattle.cert_check.proofs.texts.Worded.{cond-true, cond-false}

letters-above : (p : ℕ) (marks : List Bool) → 32 < p → Above 32 (sure_letters p marks)
letters-above p [] h = tt
letters-above p (true ∷ marks) h = (h, letters-above (suc p) marks (omega arith))
letters-above p (false ∷ marks) h = letters-above (suc p) marks (omega arith)

letters-are-words : (letters : List ℕ) → Above 32 letters → AreWords (letters_words letters)
letters-are-words [] h = tt
letters-are-words (l ∷ letters) h = (h, tt)

pub marks-are-words : (marks : List Bool) → AreWords (letters_words (sure_letters 97 marks))
marks-are-words marks = letters-are-words (sure_letters 97 marks) (letters-above 97 marks (omega arith))

pub later-letters : (p q : ℕ) (marks : List Bool) (rest : List ℕ) → q < p → sure_letters p marks ≡ q ∷ rest → ⊥
later-letters p q [] rest l e = absurd cc
later-letters p q (true ∷ marks) rest l e = let same : p ≡ q = cc in omega arith
later-letters p q (false ∷ marks) rest l e = later-letters (suc p) q marks rest (omega arith) e

letters-same : (p : ℕ) (a b : List Bool) → length a ≡ length b → sure_letters p a ≡ sure_letters p b → a ≡ b
letters-same p [] [] l e = refl
letters-same p [] (y ∷ b) l e = absurd (omega arith)
letters-same p (x ∷ a) [] l e = absurd (omega arith)
letters-same p (true ∷ a) (true ∷ b) l e =
    let later : sure_letters (suc p) a ≡ sure_letters (suc p) b = cc in
    let rest : a ≡ b = letters-same (suc p) a b (omega arith) later in cc
letters-same p (true ∷ a) (false ∷ b) l e = absurd (later-letters (suc p) p b (sure_letters (suc p) a) (omega arith) (sym e))
letters-same p (false ∷ a) (true ∷ b) l e = absurd (later-letters (suc p) p a (sure_letters (suc p) b) (omega arith) e)
letters-same p (false ∷ a) (false ∷ b) l e = let rest : a ≡ b = letters-same (suc p) a b (omega arith) e in cc

one-word : (a b : List ℕ) → letters_words a ≡ letters_words b → a ≡ b
one-word [] [] e = refl
one-word [] (y ∷ b) e = absurd cc
one-word (x ∷ a) [] e = absurd cc
one-word (x ∷ a) (y ∷ b) e = cc

pub marks-same : (a b : List Bool) → length a ≡ length b → letters_words (sure_letters 97 a) ≡ letters_words (sure_letters 97 b) →
    a ≡ b
marks-same a b l e = letters-same 97 a b l (one-word (sure_letters 97 a) (sure_letters 97 b) e)

-- hexadecimal digits
data Digit (d : ℕ) : Type 0 where
  low : d < 10 → hexadecimal d ≡ 48 + d → Digit d
  high : 10 ≤ d → hexadecimal d ≡ 87 + d → Digit d

digit-of : (d : ℕ) → Digit d
digit-of d = elim (cases_Bool (nat_lt d 10)) [
  | inl h ↦ low (ltb-true d 10 h) (cond-true (nat_lt d 10) (48 + d) (87 + d) h)
  | inr h ↦ high (ltb-false d 10 h) (cond-false (nat_lt d 10) (48 + d) (87 + d) h)
]

digit-same : (d e : ℕ) → Digit d → Digit e → hexadecimal d ≡ hexadecimal e → d ≡ e
digit-same d e (low a b) (low p q) h = omega arith
digit-same d e (low a b) (high p q) h = omega arith
digit-same d e (high a b) (low p q) h = omega arith
digit-same d e (high a b) (high p q) h = omega arith

digit-above : (d : ℕ) → Digit d → 32 < hexadecimal d
digit-above d (low a b) = omega arith
digit-above d (high a b) = omega arith

-- a byte is written as itself, or as three
pub data Spelled (b : ℕ) : Type 0 where
  itself : byte_text b ≡ b ∷ [] → 32 < b → (b ≡ 37 → ⊥) → Spelled b
  escaped : byte_text b ≡ 37 ∷ hexadecimal (b / 16) ∷ hexadecimal (b % 16) ∷ [] → Spelled b

not-percent : (b : ℕ) → not (b == 37) ≡ true → b ≡ 37 → ⊥
not-percent b e is = let no : not (37 == 37) ≡ true = subst (λ (n : ℕ). not (n == 37) ≡ true) is e in absurd cc

pub spelled-of : (b : ℕ) → Spelled b
spelled-of b = elim (cases_Bool (is_itself b)) [
  | inl h ↦
      let outer = and_parts (nat_lt 32 b && nat_lt b 127) (not (b == 37)) h in
      let inner = and_parts (nat_lt 32 b) (nat_lt b 127) outer.0 in
      itself (cond-true (is_itself b) _ _ h) (ltb-true 32 b inner.0) (not-percent b outer.1)
  | inr h ↦ escaped (cond-false (is_itself b) _ _ h)
]

spelled-above : (b : ℕ) → Spelled b → Above 32 (byte_text b)
spelled-above b (itself e l n) = subst (λ (t : List ℕ). Above 32 t) (sym e) (l, tt)
spelled-above b (escaped e) =
    subst (λ (t : List ℕ). Above 32 t) (sym e)
    (omega arith, (digit-above _ (digit-of (b / 16)), (digit-above _ (digit-of (b % 16)), tt)))

bytes-above : (bytes : List ℕ) → Above 32 (flat_map byte_text bytes)
bytes-above [] = tt
bytes-above (b ∷ bytes) = Above-append 32 (byte_text b) (flat_map byte_text bytes) (spelled-above b (spelled-of b)) (bytes-above bytes)

pub choice-above : (c : Choice) → Above 32 (choice_word c)
choice-above None = (omega arith, tt)
choice-above (Some bytes) = (omega arith, bytes-above bytes)

-- two bytes with what follows
pub spelled-same : (x y : ℕ) (r s : List ℕ) → Spelled x → Spelled y → byte_text x ++ r ≡ byte_text y ++ s →
    (x ≡ y) × (r ≡ s)
spelled-same x y r s (itself a l n) (itself b m o) e = let f : x ∷ r ≡ y ∷ s = ap (λ (t : List ℕ). t ++ r) (sym a) ∙ e
    ∙ ap (λ (t : List ℕ). t ++ s) b in (cc, cc)
spelled-same x y r s (itself a l n) (escaped b) e =
    let f : x ∷ r ≡ 37 ∷ hexadecimal (y / 16) ∷ hexadecimal (y % 16) ∷ s = ap (λ (t : List ℕ). t ++ r) (sym a) ∙ e
    ∙ ap (λ (t : List ℕ). t ++ s) b in
    let is : x ≡ 37 = cc in absurd (n is)
spelled-same x y r s (escaped a) (itself b m o) e =
    let f : 37 ∷ hexadecimal (x / 16) ∷ hexadecimal (x % 16) ∷ r ≡ y ∷ s = ap (λ (t : List ℕ). t ++ r) (sym a) ∙ e
    ∙ ap (λ (t : List ℕ). t ++ s) b in
    let is : y ≡ 37 = cc in absurd (o is)
spelled-same x y r s (escaped a) (escaped b) e =
    let f : 37 ∷ hexadecimal (x / 16) ∷ hexadecimal (x % 16) ∷ r ≡ 37 ∷ hexadecimal (y / 16) ∷ hexadecimal (y % 16) ∷ s =
    ap (λ (t : List ℕ). t ++ r) (sym a) ∙ e ∙ ap (λ (t : List ℕ). t ++ s) b in
    let high : x / 16 ≡ y / 16 = digit-same _ _ (digit-of (x / 16)) (digit-of (y / 16)) cc in
    let low : x % 16 ≡ y % 16 = digit-same _ _ (digit-of (x % 16)) (digit-of (y % 16)) cc in
    (omega arith, cc)

pub something : (y : ℕ) (s : List ℕ) → Spelled y → [] ≡ byte_text y ++ s → ⊥
something y s (itself b m o) e = let f : [] ≡ y ∷ s = e ∙ ap (λ (t : List ℕ). t ++ s) b in absurd cc
something y s (escaped b) e = let f : [] ≡ 37 ∷ hexadecimal (y / 16) ∷ hexadecimal (y % 16) ∷ s = e
    ∙ ap (λ (t : List ℕ). t ++ s) b in absurd cc

bytes-same : (a b : List ℕ) → flat_map byte_text a ≡ flat_map byte_text b → a ≡ b
bytes-same [] [] e = refl
bytes-same [] (y ∷ b) e = absurd (something y (flat_map byte_text b) (spelled-of y) e)
bytes-same (x ∷ a) [] e = absurd (something x (flat_map byte_text a) (spelled-of x) (sym e))
bytes-same (x ∷ a) (y ∷ b) e =
    let both = spelled-same x y (flat_map byte_text a) (flat_map byte_text b) (spelled-of x) (spelled-of y) e in
    let first : x ≡ y = both.0 in
    let rest : a ≡ b = bytes-same a b both.1 in cc

pub two-bytes : (x y : ℕ) → x < y → x ≡ y → ⊥
two-bytes x y l e = omega arith

dash-differs : (bytes : List ℕ) → 45 ∷ [] ≡ 61 ∷ bytes → ⊥
dash-differs bytes e = two-bytes 45 61 (omega arith) (first-of e)

pub choice-same : (c d : Choice) → choice_word c ≡ choice_word d → c ≡ d
choice-same None None e = refl
choice-same None (Some b) e = absurd (dash-differs (flat_map byte_text b) e)
choice-same (Some a) None e = absurd (dash-differs (flat_map byte_text a) (sym e))
choice-same (Some a) (Some b) e = ap (λ (t : List ℕ). Some t) (bytes-same a b (later-of e))

-- words that are made of the elements of a list
pub words-are-words : {A : Type 0} (f : A → Word) → ((x : A) → Above 32 (f x)) → (xs : List A) → AreWords (map f xs)
words-are-words f above [] = tt
words-are-words f above (x ∷ xs) = (above x, words-are-words f above xs)

all-same : {A B : Type 0} (f : A → B) → ((x y : A) → f x ≡ f y → x ≡ y) → (a b : List A) → map f a ≡ map f b → a ≡ b
all-same f same [] [] e = refl
all-same f same [] (y ∷ b) e = absurd cc
all-same f same (x ∷ a) [] e = absurd cc
all-same f same (x ∷ a) (y ∷ b) e =
    let here : f x ≡ f y = cc in
    let later : map f a ≡ map f b = cc in
    let first : x ≡ y = same x y here in
    let rest : a ≡ b = all-same f same a b later in cc

pub choices-same : (a b : List Choice) → map choice_word a ≡ map choice_word b → a ≡ b
choices-same = all-same choice_word choice-same

pub some-same : (a b : List ℕ) → Some a ≡ Some b → a ≡ b
some-same a b e = cc

-- texts, as choices that aren't none
pub somes-same : (a b : List (List ℕ)) → map Some a ≡ map Some b → a ≡ b
somes-same = all-same Some some-same

pub texts-same : (a b : List (List ℕ)) → map choice_word (map Some a) ≡ map choice_word (map Some b) → a ≡ b
texts-same a b e = somes-same a b (choices-same (map Some a) (map Some b) e)

-- what is possible, by the words
possible-words : (b : Bool) (w : Word) → Above 32 w → AreWords (possible b w)
possible-words true w h = (h, tt)
possible-words false w h = tt

pub two-words : (u v : Word) → all_above 32 u ≡ true → all_above 32 v ≡ true → (a b : Bool) →
    AreWords (possible a u ++ possible b v)
two-words u v hu hv a b =
    AreWords-append (possible a u) (possible b v) (possible-words a u (Above-from_test 32 u hu))
    (possible-words b v (Above-from_test 32 v hv))

pub three-words : (u v w : Word) → all_above 32 u ≡ true → all_above 32 v ≡ true → all_above 32 w ≡ true → (a b c : Bool) →
    AreWords (possible a u ++ possible b v ++ possible c w)
three-words u v w hu hv hw a b c =
    AreWords-append (possible a u ++ possible b v) (possible c w) (two-words u v hu hv a b) (possible-words c w (Above-from_test 32 w hw))

-- no word of a list is this one
abbrev Lacks : Word → List Word → Type 0
Lacks w words = list_any (pointwise nat_eq w) words ≡ false

lacks-other : (w v : Word) (b : Bool) (rest : List Word) → pointwise nat_eq w v ≡ false → Lacks w rest →
    Lacks w (possible b v ++ rest)
lacks-other w v true rest other h = rw other h
lacks-other w v false rest other h = h

lacks-one : (w v : Word) (b : Bool) → pointwise nat_eq w v ≡ false → Lacks w (possible b v)
lacks-one w v true other = rw other refl
lacks-one w v false other = refl

has-first : (w : Word) (r s : List Word) → Lacks w s → w ∷ r ≡ s → ⊥
has-first w r s h e =
    let has : list_any (pointwise nat_eq w) (w ∷ r) ≡ true = rw (nat_list_eq_equiv.refl w) refl in
    absurd (false≢true (sym h ∙ ap (list_any (pointwise nat_eq w)) (sym e) ∙ has))

first-same : (w : Word) (a p : Bool) (r s : List Word) → Lacks w r → Lacks w s → possible a w ++ r ≡ possible p w ++ s →
    (a ≡ p) × (r ≡ s)
first-same w true true r s h k e = (refl, cc)
first-same w true false r s h k e = absurd (has-first w r s k e)
first-same w false true r s h k e = absurd (has-first w s r h (sym e))
first-same w false false r s h k e = (refl, e)

last-same : (w : Word) (a p : Bool) → possible a w ≡ possible p w → a ≡ p
last-same w true true e = refl
last-same w true false e = absurd cc
last-same w false true e = absurd cc
last-same w false false e = refl

-- where the words differ, each was possible in both or in neither
pub two-same : (u v : Word) → pointwise nat_eq u v ≡ false → (a b p q : Bool) →
    possible a u ++ possible b v ≡ possible p u ++ possible q v → (a ≡ p) × (b ≡ q)
two-same u v other a b p q e =
    let first = first-same u a p (possible b v) (possible q v) (lacks-one u v b other) (lacks-one u v q other) e in
    (first.0, last-same v b q first.1)

pub record Same (a b c p q r : Bool) : Type 0 where
  pub first : a ≡ p
  pub second : b ≡ q
  pub third : c ≡ r

pub three-same : (u v w : Word) → pointwise nat_eq u v ≡ false → pointwise nat_eq u w ≡ false → pointwise nat_eq v w ≡ false →
    (a b c p q r : Bool) → possible a u ++ possible b v ++ possible c w ≡ possible p u ++ possible q v ++ possible r w →
    Same a b c p q r
three-same u v w uv uw vw a b c p q r e =
    let after : Bool → Bool → List Word = λ y z. possible y v ++ possible z w in
    let lacks : (y z : Bool) → Lacks u (after y z) = λ y z. lacks-other u v y (possible z w) uv (lacks-one u w z uw) in
    let first = first-same u a p (after b c) (after q r) (lacks b c) (lacks q r)
    (sym (append_assoc (possible a u) _ _) ∙ e ∙ append_assoc (possible p u) _ _) in
    let later = two-same v w vw b c q r first.1 in
    record { first = first.0; second = later.0; third = later.1 }
