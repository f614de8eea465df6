use Rattle.std.proofs.Common.{◌≡◌, ◌<◌, ℕ, Bool, false, eqb, List, [], ◌∷◌, ◌++◌, length, map, codes, string_bytes, String, Global, refl, sym, ap, ◌∙◌, append_assoc, arith}
use Rattle.std.proofs.lemmas.Bool.{eqb-false}
use Rattle.std.proofs.lemmas.List.{map_push}
use Rattle.hints.specs.Shown.{joined, quoted_text}
use Rattle.hints.specs.StartWords.{patterns_said}
use Rattle.hints.proofs.landmark_words.push_matched.Goals as goal

of-some : (what between : List ℕ) (patterns : List (List ℕ)) → 0 < length patterns →
    patterns_said what between patterns ≡ (what ++ codes " " ++ joined between (map quoted_text patterns)) ∷ []
of-some what between [] some = absurd (omega arith)
of-some what between (pattern ∷ patterns) some = refl

are-some : (empty : Bool) (members patterns : List (List ℕ)) → empty ≡ eqb (length members) 0 → empty ≡ false → members ≡ patterns → 0 < length patterns
are-some empty members patterns is isnt same =
    let left : length patterns ≡ 0 → ⊥ = λ none. eqb-false (length members) 0 (sym is ∙ isnt) (ap length same ∙ none) in omega arith

pub returns : goal.returns
returns c =
    let what = c.args.what.now in
    let between = c.args.between.now in
    let patterns = c.args.patterns.now in
    let bytes = λ (words : String Global). string_bytes words in
    let said = c.in_ok-format.field-0 in
    let some = are-some c.is_empty.result c.members.result.now patterns c.is_empty.ensures c.if-is_empty.false c.members.ensures.value in
    let all : c.as_str.result.now ≡ joined between (map quoted_text patterns) =
    c.as_str.ensures.value ∙ c.in_ok-all.ensures.value ∙ ap (λ shown. joined between (map bytes shown)) c.as_slice.ensures.value
    ∙ ap (joined between) (c.in_ok-shown.ensures.value ∙ ap (map quoted_text) c.members-2.ensures.value) in
    let word : string_bytes said ≡ what ++ codes " " ++ joined between (map quoted_text patterns) =
    c.in_ok-format.ensures.ok ∙ ap (λ these. what ++ (codes " " ++ these)) all ∙ sym (append_assoc what (codes " ") (joined between (map quoted_text patterns))) in
    record {
      value =
          ap (map bytes) c.in_ok-push.ensures.items ∙ map_push bytes c.args.said.now.items said
          ∙ ap (λ these. map bytes c.args.said.now.items ++ these) (ap (λ one. one ∷ []) word ∙ sym (of-some what between patterns some));
    }
