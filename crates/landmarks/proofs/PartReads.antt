-- Parts that are read one after another, in loops.
use Rattle.std.proofs.Common.{◌≡◌, ℕ, true, false, nat_eq, List, [], ◌∷◌, ◌++◌, refl, sym, ap, ◌∙◌, subst, append_assoc}
use Rattle.std.specs.Prelude.{codes, IsFalse}
use Rattle.ed_syntax.specs.spelling.Characters.{ampersand, semicolon_byte, begins, after_blanks}
use Rattle.landmarks.specs.declared.landmark.Landmark.{Landmark}
use Rattle.ed_base.specs.Texts.{with_text}
use Rattle.landmarks.specs.Words.{SpellsKey, SpellsWord, NoKey, NoWord}
use Rattle.landmarks.specs.Spelled.{SpellsNone, SpellsTests, SpellsLandmark, SpellsLandmarks}
use Rattle.landmarks.specs.Stops.{IsEnd, NoNone, NoTests, NoLandmarks}
use Rattle.landmarks.proofs.Ends.{end_all, end_after, end_later, end_is, end_blanks}
use Rattle.landmarks.proofs.Keys.{word-one, key-no_word}
use Rattle.landmarks.proofs.Determined.{none-next, tests-also, tests-lacks}
use Rattle.landmarks.proofs.Chains.{landmarks-next}

-- what is left, after the patterns so far, is all of it
pub record NoneLeft (text left : List ℕ) (set : List (List ℕ)) : Type 0 where
  pub forward : (rest : List ℕ) (none : List (List ℕ)) → SpellsNone set left rest none → SpellsNone [] text rest none
  pub back : (rest : List ℕ) (none : List (List ℕ)) → SpellsNone [] text rest none → SpellsNone set left rest none
  pub end : IsEnd text left

pub none_step : {text left key more pattern : List ℕ} {set after : List (List ℕ)} → SpellsWord (codes "no") left key → IsEnd left key → SpellsKey key more pattern →
    IsEnd key more → after ≡ with_text pattern set → NoneLeft text left set → NoneLeft text more after
none_step {text} {left} {key} {more} {pattern} {set} {after} word to_key is to_more put h =
    subst (NoneLeft text more) (sym put) (record {
      forward = λ rest none later. h.forward rest none (SpellsNone.next set none left key more rest pattern word is later);
      back = λ rest none all. none-next word is (h.back rest none all);
      end = end_later (end_later h.end to_key) to_more;
    })

pub none_done : {text left : List ℕ} {set : List (List ℕ)} → NoWord (codes "no") left → NoneLeft text left set → SpellsNone [] text left set
none_done {text} {left} {set} lacking h = h.forward left set (SpellsNone.over set left lacking)

stuck : {left key rest : List ℕ} {set none : List (List ℕ)} → SpellsWord (codes "no") left key → NoKey key → SpellsNone set left rest none → ⊥
stuck {left} {key} {rest} {set} {none} word lacking (SpellsNone.over s t other) = other key word
stuck {left} {key} {rest} {set} {none} word lacking (SpellsNone.next s n t k m r p word' is later) = lacking m p (subst (λ k. SpellsKey k m p) (word-one word' word) is)

pub none_stuck : {text left key : List ℕ} {set : List (List ℕ)} → SpellsWord (codes "no") left key → NoneLeft text left set → NoKey key → NoNone [] text
none_stuck {text} {left} {key} {set} word h lacking = λ rest none is. stuck word lacking (h.back rest none is)

-- the same of tests
pub record TestsLeft (text left : List ℕ) (also lacks : List (List ℕ)) : Type 0 where
  pub forward : (rest : List ℕ) (a l : List (List ℕ)) → SpellsTests also lacks left rest a l → SpellsTests [] [] text rest a l
  pub back : (rest : List ℕ) (a l : List (List ℕ)) → SpellsTests [] [] text rest a l → SpellsTests also lacks left rest a l
  pub end : IsEnd text left

pub end_ampersand : {left key : List ℕ} → after_blanks left ≡ ampersand ∷ key → IsEnd left key
end_ampersand {left} {key} sign = end_later (end_is (end_blanks left) sign) (end_after ampersand (end_all key))

pub tests_also : {text left key more pattern : List ℕ} {also lacks after : List (List ℕ)} → after_blanks left ≡ ampersand ∷ key → SpellsKey key more pattern →
    IsEnd key more → after ≡ with_text pattern also → TestsLeft text left also lacks → TestsLeft text more after lacks
tests_also {text} {left} {key} {more} {pattern} {also} {lacks} {after} sign is to_more put h =
    subst (λ a. TestsLeft text more a lacks) (sym put) (record {
      forward = λ rest a l later. h.forward rest a l (SpellsTests.also also lacks left key more rest pattern a l sign is later);
      back = λ rest a l all. tests-also sign is (h.back rest a l all);
      end = end_later (end_later h.end (end_ampersand sign)) to_more;
    })

pub tests_lacks : {text left word key more pattern : List ℕ} {also lacks after : List (List ℕ)} → after_blanks left ≡ ampersand ∷ word →
    SpellsWord (codes "not") word key → IsEnd word key → SpellsKey key more pattern → IsEnd key more → after ≡ with_text pattern lacks →
    TestsLeft text left also lacks → TestsLeft text more also after
tests_lacks {text} {left} {word} {key} {more} {pattern} {also} {lacks} {after} sign w to_key is to_more put h =
    subst (λ a. TestsLeft text more also a) (sym put) (record {
      forward = λ rest a l later. h.forward rest a l (SpellsTests.lacks also lacks left word key more rest pattern a l sign w is later);
      back = λ rest a l all. tests-lacks sign w is (h.back rest a l all);
      end = end_later (end_later (end_later h.end (end_ampersand sign)) to_key) to_more;
    })

pub tests_done : {text left : List ℕ} {also lacks : List (List ℕ)} → IsFalse (begins (nat_eq ampersand) (after_blanks left)) → TestsLeft text left also lacks →
    SpellsTests [] [] text left also lacks
tests_done {text} {left} {also} {lacks} other h = h.forward left also lacks (SpellsTests.over also lacks left other)

clash : {A : Type 0} (left more : List ℕ) → after_blanks left ≡ ampersand ∷ more → IsFalse (begins (nat_eq ampersand) (after_blanks left)) → A
clash left more sign other = let e : false ≡ true = sym other ∙ ap (begins (nat_eq ampersand)) sign in cc

same_text : (left more other : List ℕ) → after_blanks left ≡ ampersand ∷ more → after_blanks left ≡ ampersand ∷ other → other ≡ more
same_text left more other sign sign' = cc

stuck_also : (more : List ℕ) {left rest : List ℕ} {also lacks a l : List (List ℕ)} → after_blanks left ≡ ampersand ∷ more → NoWord (codes "not") more → NoKey more →
    SpellsTests also lacks left rest a l → ⊥
stuck_also more sign no_not lacking (SpellsTests.over x y t other) = clash t more sign other
stuck_also more sign no_not lacking (SpellsTests.also x y t k m r p aa al sign' is later) =
    lacking m p (subst (λ k. SpellsKey k m p) (same_text t more k sign sign') is)
stuck_also more sign no_not lacking (SpellsTests.lacks x y t w k m r p aa al sign' word is later) =
    no_not k (subst (λ w. SpellsWord (codes "not") w k) (same_text t more w sign sign') word)

stuck_lacks : (more key : List ℕ) {left rest : List ℕ} {also lacks a l : List (List ℕ)} → after_blanks left ≡ ampersand ∷ more → SpellsWord (codes "not") more key →
    NoKey key → SpellsTests also lacks left rest a l → ⊥
stuck_lacks more key sign word lacking (SpellsTests.over x y t other) = clash t more sign other
stuck_lacks more key sign word lacking (SpellsTests.also x y t k m r p aa al sign' is later) =
    key-no_word 110 (codes "ot") refl is (subst (λ w. SpellsWord (codes "not") w key) (sym (same_text t more k sign sign')) word)
stuck_lacks more key sign word lacking (SpellsTests.lacks x y t w k m r p aa al sign' word' is later) =
    lacking m p (subst (λ k. SpellsKey k m p) (word-one (subst (λ w. SpellsWord (codes "not") w k) (same_text t more w sign sign') word') word) is)

pub tests_stuck_also : {text left : List ℕ} {also lacks : List (List ℕ)} (more : List ℕ) → after_blanks left ≡ ampersand ∷ more → NoWord (codes "not") more →
    TestsLeft text left also lacks → NoKey more → NoTests [] [] text
tests_stuck_also {text} {left} {also} {lacks} more sign no_not h lacking = λ rest a l is. stuck_also more sign no_not lacking (h.back rest a l is)

pub tests_stuck_lacks : {text left : List ℕ} {also lacks : List (List ℕ)} (more key : List ℕ) → after_blanks left ≡ ampersand ∷ more →
    SpellsWord (codes "not") more key → TestsLeft text left also lacks → NoKey key → NoTests [] [] text
tests_stuck_lacks {text} {left} {also} {lacks} more key sign word h lacking = λ rest a l is. stuck_lacks more key sign word lacking (h.back rest a l is)

-- and of landmarks
pub record LandmarksLeft (text left : List ℕ) (chain : List Landmark) : Type 0 where
  pub forward : (later : List Landmark) → SpellsLandmarks left later → SpellsLandmarks text (chain ++ later)
  pub back : (all : List Landmark) → SpellsLandmarks text all → (later : List Landmark) × (all ≡ chain ++ later) × SpellsLandmarks left later
  pub end : IsEnd text left

pub landmarks_step : {text left rest more : List ℕ} {landmark : Landmark} {chain after : List Landmark} → SpellsLandmark left rest landmark → IsEnd left rest →
    after_blanks rest ≡ semicolon_byte ∷ more → after ≡ chain ++ landmark ∷ [] → LandmarksLeft text left chain → LandmarksLeft text more after
landmarks_step {text} {left} {rest} {more} {landmark} {chain} {after} is to_rest sign pushed h =
    subst (LandmarksLeft text more) (sym pushed) (record {
      forward = λ later spells. subst (SpellsLandmarks text) (sym (append_assoc chain (landmark ∷ []) later))
          (h.forward (landmark ∷ later) (SpellsLandmarks.next left rest more landmark later is sign spells));
      back = λ all spells.
          let found = h.back all spells in
          let next = landmarks-next is sign found.2 in
          (next.0, found.1 ∙ ap (λ l. chain ++ l) next.1 ∙ sym (append_assoc chain (landmark ∷ []) next.0), next.2);
      end = end_later (end_later h.end to_rest) (end_later (end_is (end_blanks rest) sign) (end_after semicolon_byte (end_all more)));
    })

pub landmarks_done : {text left rest : List ℕ} {landmark : Landmark} {chain after : List Landmark} → SpellsLandmark left rest landmark → after_blanks rest ≡ [] →
    after ≡ chain ++ landmark ∷ [] → LandmarksLeft text left chain → SpellsLandmarks text after
landmarks_done {text} {left} {rest} {landmark} {chain} {after} is over pushed h =
    subst (SpellsLandmarks text) (sym pushed) (h.forward (landmark ∷ []) (SpellsLandmarks.last left rest landmark is over))

pub landmarks_stuck : {text left : List ℕ} {chain : List Landmark} → LandmarksLeft text left chain → NoLandmarks left → NoLandmarks text
landmarks_stuck {text} {left} {chain} h lacking = λ all is. let found = h.back all is in lacking found.0 found.2
