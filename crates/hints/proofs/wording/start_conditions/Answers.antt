use Rattle.std.proofs.Common.{◌≡◌, ◌∷◌, [], ◌++◌, take, map, codes, string_bytes, String, Global, sym, ap, ◌∙◌, append_assoc}
use Rattle.std.proofs.lemmas.List.{map_push, map_more}
use Rattle.hints.specs.Shown.{quoted_text}
use Rattle.hints.specs.StartWords.{bounds_words, pattern_words}
use Rattle.hints.proofs.wording.start_conditions.Goals as goal

pub loop-pattern-preserved : goal.loop-pattern-preserved
loop-pattern-preserved c =
    let patterns = c.patterns_in-pattern-items.result.now in
    let i = c.loop-pattern.pattern-index in
    let pattern = c.pattern-item.result in
    let bytes = λ (words : String Global). string_bytes words in
    let words = c.in_ok-format.field-0 in
    let bounds = bounds_words c.args.start.now.min c.args.start.now.max in
    let passed = map pattern_words (take i patterns) in
    let text : string_bytes words ≡ pattern_words pattern =
    c.in_ok-format.ensures.ok
    ∙ ap (λ shown. codes "a line that matches " ++ shown) (c.as_str.ensures.value ∙ c.in_ok-shown.ensures.value ∙ ap quoted_text c.as_slice.ensures.value) in
    ap (map bytes) c.in_ok-push.ensures.items ∙ map_push bytes c.loop-pattern.said.items words
    ∙ ap (λ these. these ++ string_bytes words ∷ []) c.loop-pattern.invariant ∙ append_assoc bounds passed (string_bytes words ∷ [])
    ∙ ap (λ these. bounds ++ these)
    (ap (λ one. passed ++ one ∷ []) (text ∙ ap pattern_words c.pattern-item.is) ∙ sym (map_more pattern_words patterns i pattern c.loop-pattern-test.true))
