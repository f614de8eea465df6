use Rattle.std.proofs.Common.{◌≡◌, ℕ, Bool, not, eqb, List, [], ◌∷◌, ◌++◌, length, map, codes, string_bytes, String, Global, unwrap_or, refl, sym, ap, ◌∙◌, append_assoc, arith}
use Rattle.std.proofs.lemmas.Bool.{ne_eqb}
use Rattle.landmarks.specs.ChainValues.{ChainValue}
use Rattle.analyser.specs.declared.analysis.Start.{Start}
use Rattle.analyser.specs.Following.{stated_of}
use Rattle.hints.specs.Shown.{shown_text}
use Rattle.hints.specs.StartWords.{is_empty, bounds_words, of_lines, with_patterns, in_which, landmarks_words, file_words}
use Rattle.hints.proofs.wording.file_words.Goals as goal

none-of : {A : Type 0} (xs : List A) → eqb (length xs) 0 ≡ is_empty xs
none-of [] = refl
none-of (x ∷ xs) = ne_eqb (length (x ∷ xs)) 0 (λ is. absurd (omega (arith, is)))

none-of-made : {A B : Type 0} (f : A → B) (xs : List A) → is_empty xs ≡ is_empty (map f xs)
none-of-made f [] = refl
none-of-made f (x ∷ xs) = refl

same-parts : (a b c d e f g h : List ℕ) → a ≡ e → b ≡ f → c ≡ g → d ≡ h →
    codes "any " ++ (a ++ (b ++ (c ++ d))) ≡ codes "any " ++ (e ++ (f ++ (g ++ h)))
same-parts a b c d e f g h first second third fourth = cc

-- the parts of the sentence, one after another
sentence : (path : List ℕ) (start : Start) (name lines matched landmarks : List ℕ) (bounds patterns : List (List ℕ)) (chains : List ChainValue) (none bare : Bool) →
    bounds ≡ bounds_words start.min start.max → patterns ≡ stated_of start.has → chains ≡ unwrap_or start.landmarks [] → none ≡ is_empty bounds →
    bare ≡ is_empty patterns → name ≡ shown_text path → lines ≡ of_lines bounds → matched ≡ with_patterns start.max (not none) patterns →
    landmarks ≡ in_which (not bare) (landmarks_words chains) →
    codes "any " ++ (name ++ (lines ++ (matched ++ landmarks))) ≡ file_words path start
sentence path start name lines matched landmarks bounds patterns chains none bare bounded stated given told alone named counted listed placed =
    let parts : codes "any " ++ (name ++ (lines ++ (matched ++ landmarks)))
    ≡ codes "any "
    ++ (shown_text path
    ++ (of_lines (bounds_words start.min start.max)
    ++ (with_patterns start.max (not (is_empty (bounds_words start.min start.max))) (stated_of start.has)
    ++ in_which (not (is_empty (stated_of start.has))) (landmarks_words (unwrap_or start.landmarks []))))) = cc in
    parts ∙ simp append_assoc

pub returns : goal.returns
returns c =
    let start = c.args.start.now in
    let bytes = λ (words : String Global). string_bytes words in
    let bounds = c.push_bounds.new.said.items in
    let patterns = c.patterns_in-patterns.result.now in
    let told : map bytes bounds ≡ bounds_words start.min start.max =
    c.in_ok-push_bounds.ensures.value ∙ ap (λ none. map bytes none ++ bounds_words start.min start.max) c.new-bounds.ensures.items in
    let said = c.in_ok-format.ensures.ok
    ∙ same-parts _ _ _ _ _ _ _ _ c.as_str.ensures.value c.as_str-2.ensures.value c.as_str-3.ensures.value c.as_str-4.ensures.value in
    let none : c.is_empty.result ≡ is_empty (map bytes bounds) =
    c.is_empty.ensures ∙ ap (λ count. eqb count 0) (sym c.as_slice.ensures.len ∙ ap length c.as_slice.ensures.value) ∙ none-of bounds ∙ none-of-made bytes bounds in
    record {
      value =
          said
          ∙ sentence c.args.path.now start _ _ _ _ (map bytes bounds) patterns c.chains_in.result.now c.is_empty.result c.is_empty-2.result told
          c.patterns_in-patterns.ensures.value c.chains_in.ensures.value none (c.is_empty-2.ensures ∙ none-of patterns) c.in_ok-name.ensures.value
          (c.in_ok-lines.ensures.value ∙ ap (λ these. of_lines (map bytes these)) c.as_slice.ensures.value) c.in_ok-matched.ensures.value
          c.in_ok-landmarks.ensures.value;
    }
