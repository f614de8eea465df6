-- Each part of a chain is spelled in one way.
use Rattle.std.proofs.Common.{◌≡◌, ℕ, true, false, nat_eq, List, ◌∷◌, refl, sym, ap, ◌∙◌, subst}
use Rattle.std.specs.Prelude.{codes, IsTrue, IsFalse}
use Rattle.ed_syntax.specs.spelling.Characters.{ampersand, is_digit, begins, after_blanks}
use Rattle.landmarks.specs.declared.which.Which.{Which}
use Rattle.landmarks.specs.declared.which.Which.TheVariants as named
use Rattle.ed_base.specs.Texts.{with_text}
use Rattle.landmarks.specs.Words.{SpellsKey, SpellsWord, SpellsCount, NoKey, NoWord, NoCount}
use Rattle.landmarks.specs.Spelled.{SpellsNone, SpellsWhich, SpellsDistance, SpellsTests}
use Rattle.landmarks.specs.Stops.{NoWhich, NoDistance}
use Rattle.landmarks.proofs.Keys.{key-one, count-one, word-one, key-no_word, count-no_word, key-no_count, key-no_digit, count-digit}

-- what goes on after one `lacking`
pub none-next : {set none : List (List ℕ)} {text key more rest pattern : List ℕ} → SpellsWord (codes "no") text key → SpellsKey key more pattern →
    SpellsNone set text rest none → SpellsNone (with_text pattern set) more rest none
none-next {set} {none} {text} {key} {more} {rest} {pattern} word is (SpellsNone.over s t lacking) = absurd (lacking key word)
none-next {set} {none} {text} {key} {more} {rest} {pattern} word is (SpellsNone.next s n t k m r p word' is' later) =
    let same = word-one word' word in
    let found = key-one (subst (λ k. SpellsKey k m p) same is') is in
    subst (λ p. SpellsNone (with_text p set) more rest none) found.0 (subst (λ m. SpellsNone (with_text p set) m rest none) found.1 later)

pub none-one : {set n1 n2 : List (List ℕ)} {text r1 r2 : List ℕ} → SpellsNone set text r1 n1 → SpellsNone set text r2 n2 → (n1 ≡ n2) × (r1 ≡ r2)
none-one (SpellsNone.next s n t k m r p word is later) other = none-one later (none-next word is other)
none-one (SpellsNone.over s t lacking) (SpellsNone.over s' t' lacking') = (refl, refl)
none-one (SpellsNone.over s t lacking) (SpellsNone.next s' n t' k m r p word is later) = absurd (lacking k word)

pub which-one : {text r1 r2 : List ℕ} {w1 w2 : Which} → SpellsWhich text r1 w1 → SpellsWhich text r2 w2 → (w1 ≡ w2) × (r1 ≡ r2)
which-one (SpellsWhich.first t r p is) (SpellsWhich.first t' r' p' is') = let same = key-one is is' in (ap named.First same.0, same.1)
which-one (SpellsWhich.first t r p is) (SpellsWhich.only t' k' r' p' word is') = absurd (key-no_word 111 (codes "nly") refl is word)
which-one (SpellsWhich.first t r p is) (SpellsWhich.numbered t' r' n is') = absurd (key-no_count is is')
which-one (SpellsWhich.only t k r p word is) (SpellsWhich.first t' r' p' is') = absurd (key-no_word 111 (codes "nly") refl is' word)
which-one (SpellsWhich.only t k r p word is) (SpellsWhich.only t' k' r' p' word' is') =
    let same = key-one (subst (λ k. SpellsKey k r p) (word-one word word') is) is' in (ap named.Only same.0, same.1)
which-one (SpellsWhich.only t k r p word is) (SpellsWhich.numbered t' r' n is') = absurd (count-no_word 111 (codes "nly") refl is' word)
which-one (SpellsWhich.numbered t r n is) (SpellsWhich.first t' r' p' is') = absurd (key-no_count is' is)
which-one (SpellsWhich.numbered t r n is) (SpellsWhich.only t' k' r' p' word is') = absurd (count-no_word 111 (codes "nly") refl is word)
which-one (SpellsWhich.numbered t r n is) (SpellsWhich.numbered t' r' n' is') = let same = count-one is is' in (ap named.Numbered same.0, same.1)

pub no_which_only : {text key : List ℕ} → SpellsWord (codes "only") text key → NoKey key → NoWhich text
no_which_only {text} {key} word lacking rest which (SpellsWhich.first t r p is) = key-no_word 111 (codes "nly") refl is word
no_which_only {text} {key} word lacking rest which (SpellsWhich.only t k r p word' is) = lacking r p (subst (λ k. SpellsKey k r p) (word-one word' word) is)
no_which_only {text} {key} word lacking rest which (SpellsWhich.numbered t r n is) = count-no_word 111 (codes "nly") refl is word

pub no_which_count : {text : List ℕ} → NoWord (codes "only") text → IsTrue (begins is_digit (after_blanks text)) → NoCount text → NoWhich text
no_which_count {text} only digit lacking rest which (SpellsWhich.first t r p is) = key-no_digit is digit
no_which_count {text} only digit lacking rest which (SpellsWhich.only t k r p word' is) = only k word'
no_which_count {text} only digit lacking rest which (SpellsWhich.numbered t r n is) = lacking r n is

pub no_which_key : {text : List ℕ} → NoWord (codes "only") text → (IsTrue (begins is_digit (after_blanks text)) → ⊥) → NoKey text → NoWhich text
no_which_key {text} only digit lacking rest which (SpellsWhich.first t r p is) = lacking r p is
no_which_key {text} only digit lacking rest which (SpellsWhich.only t k r p word' is) = only k word'
no_which_key {text} only digit lacking rest which (SpellsWhich.numbered t r n is) = digit (count-digit is)

pub distance-one : {word text r1 r2 : List ℕ} {unsaid n1 n2 : ℕ} → SpellsDistance word unsaid text r1 n1 → SpellsDistance word unsaid text r2 n2 →
    (n1 ≡ n2) × (r1 ≡ r2)
distance-one (SpellsDistance.unsaid t lacking) (SpellsDistance.unsaid t' lacking') = (refl, refl)
distance-one (SpellsDistance.unsaid t lacking) (SpellsDistance.said t' c r n word is) = absurd (lacking c word)
distance-one (SpellsDistance.said t c r n word is) (SpellsDistance.unsaid t' lacking) = absurd (lacking c word)
distance-one (SpellsDistance.said t c r n word is) (SpellsDistance.said t' c' r' n' word' is') =
    count-one (subst (λ c. SpellsCount c r n) (word-one word word') is) is'

pub no_distance : {word text count : List ℕ} {unsaid : ℕ} → SpellsWord word text count → NoCount count → NoDistance word unsaid text
no_distance {word} {text} {count} {unsaid} w lacking rest n (SpellsDistance.unsaid t none) = none count w
no_distance {word} {text} {count} {unsaid} w lacking rest n (SpellsDistance.said t c r m w' is) = lacking r m (subst (λ c. SpellsCount c r m) (word-one w' w) is)

is_ampersand : (text more : List ℕ) → after_blanks text ≡ ampersand ∷ more → IsFalse (begins (nat_eq ampersand) (after_blanks text)) → {A : Type 0} → A
is_ampersand text more is lacking {A} = let e : false ≡ true = sym lacking ∙ ap (begins (nat_eq ampersand)) is in cc

same_more : (text a b : List ℕ) → after_blanks text ≡ ampersand ∷ a → after_blanks text ≡ ampersand ∷ b → a ≡ b
same_more text a b one other = cc

-- what goes on after `&` and a pattern
pub tests-also : {also lacks all_also all_lacks : List (List ℕ)} {text key more rest pattern : List ℕ} → after_blanks text ≡ ampersand ∷ key →
    SpellsKey key more pattern → SpellsTests also lacks text rest all_also all_lacks → SpellsTests (with_text pattern also) lacks more rest all_also all_lacks
tests-also {also} {lacks} {all_also} {all_lacks} {text} {key} {more} {rest} {pattern} sign is (SpellsTests.over a l t lacking) = is_ampersand text key sign lacking
tests-also {also} {lacks} {all_also} {all_lacks} {text} {key} {more} {rest} {pattern} sign is (SpellsTests.also a l t k m r p aa al sign' is' later) =
    let found = key-one (subst (λ k. SpellsKey k m p) (same_more text k key sign' sign) is') is in
    subst (λ p. SpellsTests (with_text p also) lacks more rest all_also all_lacks) found.0
    (subst (λ m. SpellsTests (with_text p also) lacks m rest all_also all_lacks) found.1 later)
tests-also {also} {lacks} {all_also} {all_lacks} {text} {key} {more} {rest} {pattern} sign is (SpellsTests.lacks a l t w k m r p aa al sign' word is' later) =
    absurd (key-no_word 110 (codes "ot") refl is (subst (λ w. SpellsWord (codes "not") w k) (same_more text w key sign' sign) word))

-- what goes on after `&`, `not` and a pattern
pub tests-lacks : {also lacks all_also all_lacks : List (List ℕ)} {text word key more rest pattern : List ℕ} → after_blanks text ≡ ampersand ∷ word →
    SpellsWord (codes "not") word key → SpellsKey key more pattern → SpellsTests also lacks text rest all_also all_lacks →
    SpellsTests also (with_text pattern lacks) more rest all_also all_lacks
tests-lacks {also} {lacks} {all_also} {all_lacks} {text} {word} {key} {more} {rest} {pattern} sign w is (SpellsTests.over a l t lacking) = is_ampersand text word sign lacking
tests-lacks {also} {lacks} {all_also} {all_lacks} {text} {word} {key} {more} {rest} {pattern} sign w is (SpellsTests.also a l t k m r p aa al sign' is' later) =
    absurd (key-no_word 110 (codes "ot") refl is' (subst (λ w. SpellsWord (codes "not") w key) (same_more text word k sign sign') w))
tests-lacks {also} {lacks} {all_also} {all_lacks} {text} {word} {key} {more} {rest} {pattern} sign w is (SpellsTests.lacks a l t w' k m r p aa al sign' word' is' later) =
    let same = word-one (subst (λ w. SpellsWord (codes "not") w k) (same_more text w' word sign' sign) word') w in
    let found = key-one (subst (λ k. SpellsKey k m p) same is') is in
    subst (λ p. SpellsTests also (with_text p lacks) more rest all_also all_lacks) found.0
    (subst (λ m. SpellsTests also (with_text p lacks) m rest all_also all_lacks) found.1 later)

-- the same sets, and the same rest
pub record AreSame (also1 lacks1 also2 lacks2 : List (List ℕ)) (r1 r2 : List ℕ) : Type 0 where
  pub also : also1 ≡ also2
  pub lacks : lacks1 ≡ lacks2
  pub rest : r1 ≡ r2

pub tests-one : {also lacks a1 l1 a2 l2 : List (List ℕ)} {text r1 r2 : List ℕ} → SpellsTests also lacks text r1 a1 l1 → SpellsTests also lacks text r2 a2 l2 →
    AreSame a1 l1 a2 l2 r1 r2
tests-one (SpellsTests.also a l t k m r p aa al sign is later) other = tests-one later (tests-also sign is other)
tests-one (SpellsTests.lacks a l t w k m r p aa al sign word is later) other = tests-one later (tests-lacks sign word is other)
tests-one (SpellsTests.over a l t lacking) (SpellsTests.over a' l' t' lacking') = record { also = refl; lacks = refl; rest = refl }
tests-one (SpellsTests.over a l t lacking) (SpellsTests.also a' l' t' k m r p aa al sign is later) = is_ampersand t k sign lacking
tests-one (SpellsTests.over a l t lacking) (SpellsTests.lacks a' l' t' w k m r p aa al sign word is later) = is_ampersand t w sign lacking

pub no_digit : (text : List ℕ) → begins is_digit (after_blanks text) ≡ false → IsTrue (begins is_digit (after_blanks text)) → ⊥
no_digit text none some = let e : false ≡ true = sym none ∙ some in cc
