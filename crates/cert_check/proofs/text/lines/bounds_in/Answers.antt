use Rattle.std.proofs.Common.{◌≡◌, [], ◌∷◌, ℕ, true, false, ◌&&◌, Option, ◌∙◌, sym, ap}
use Rattle.std.specs.Prelude.{decimal}
use Rattle.std.proofs.lemmas.Bool.{and_parts}
use Rattle.ed_rules.specs.LineBounds.{is_few, is_limit}
use Rattle.cert_check.specs.text.Text.{limit_word}
use Rattle.cert_check.proofs.texts.OneText.{few}
use Rattle.cert_check.proofs.texts.Cutting.{no-words}
use Rattle.cert_check.proofs.texts.ReadWords.{not-nothing}
use Rattle.cert_check.proofs.texts.ReadLines.{no-word, one-word, two-words, bounds-words, bounds-same}
use Rattle.cert_check.proofs.text.lines.bounds_in.Goals as goal

pub returns-in_default-next_word : goal.returns-in_default-next_word
returns-in_default-next_word c = record {
  exact = λ v h e.
      no-word c.args.key.now c.args.line.now c.in-Some.left.now (decimal v.0) (limit_word v.1 ∷ []) c.in-Some.ensures.cases c.in_default-next_word.ensures.cases e;
}

pub returns-in_default-next_word-2 : goal.returns-in_default-next_word-2
returns-in_default-next_word-2 c = record {
  exact = λ v h e.
      let words = bounds-words v.0 v.1 h in
      let first = one-word c.args.key.now c.args.line.now c.in-Some.left.now c.in-Some-next_word.low.now c.in-Some-next_word.left.now (decimal v.0) (limit_word v.1 ∷ [])
      c.in-Some.ensures.cases c.in-Some-next_word.ensures.cases words.0 (words.1, tt) e in
      no-words c.in-Some-next_word.left.now (limit_word v.1) [] c.in_default-next_word-2.ensures.cases first.1;
}

pub returns-in_default-number_in : goal.returns-in_default-number_in
returns-in_default-number_in c = record {
  exact = λ v h e.
      let words = bounds-words v.0 v.1 h in
      let two = two-words c.args.key.now c.args.line.now c.in-Some.left.now c.in-Some-next_word.low.now c.in-Some-next_word.left.now c.in-Some-next_word-2.high.now
      c.in-Some-next_word-2.left.now (decimal v.0) (limit_word v.1) c.in-Some.ensures.cases c.in-Some-next_word.ensures.cases c.in-Some-next_word-2.ensures.cases words.0 words.1 e in
      c.in_default-number_in.ensures.exact v.0 (few v.0 (and_parts (is_few v.0) (is_limit v.1) h).0) two.first;
}

pub returns-in_default-limit_in : goal.returns-in_default-limit_in
returns-in_default-limit_in c = record {
  exact = λ v h e.
      let words = bounds-words v.0 v.1 h in
      let two = two-words c.args.key.now c.args.line.now c.in-Some.left.now c.in-Some-next_word.low.now c.in-Some-next_word.left.now c.in-Some-next_word-2.high.now
      c.in-Some-next_word-2.left.now (decimal v.0) (limit_word v.1) c.in-Some.ensures.cases c.in-Some-next_word.ensures.cases c.in-Some-next_word-2.ensures.cases words.0 words.1 e in
      c.in_default-limit_in.ensures.exact v.1 (and_parts (is_few v.0) (is_limit v.1) h).1 two.second;
}

pub returns-then-not-is_empty : goal.returns-then-not-is_empty
returns-then-not-is_empty c = record {
  exact = λ v h e.
      let words = bounds-words v.0 v.1 h in
      let two = two-words c.args.key.now c.args.line.now c.in-Some.left.now c.in-Some-next_word.low.now c.in-Some-next_word.left.now c.in-Some-next_word-2.high.now
      c.in-Some-next_word-2.left.now (decimal v.0) (limit_word v.1) c.in-Some.ensures.cases c.in-Some-next_word.ensures.cases c.in-Some-next_word-2.ensures.cases words.0 words.1 e in
      not-nothing c.in-Some-next_word-2.left.now c.if-not-is_empty.ensures two.none_left;
}

pub returns-then-not-are_few : goal.returns-then-not-are_few
returns-then-not-are_few c = record {
  exact = λ v h e.
      let words = bounds-words v.0 v.1 h in
      let two = two-words c.args.key.now c.args.line.now c.in-Some.left.now c.in-Some-next_word.low.now c.in-Some-next_word.left.now c.in-Some-next_word-2.high.now
      c.in-Some-next_word-2.left.now (decimal v.0) (limit_word v.1) c.in-Some.ensures.cases c.in-Some-next_word.ensures.cases c.in-Some-next_word-2.ensures.cases words.0 words.1 e in
      let low = c.in-Some-number_in.ensures.exact in
      let high = c.in-Some-limit_in.ensures.exact in
      let same = bounds-same v.0 c.in-Some-number_in.low v.1 c.in-Some-limit_in.high c.in-Some-next_word.low.now c.in-Some-next_word-2.high.now h low.1 high.1
      two.first two.second low.0 high.0 in
      let refused : false ≡ true =
      c.if-not-are_few.ensures.value ∙ ap (λ (n : ℕ). is_few n && is_limit c.in-Some-limit_in.high) (sym same.0) ∙ ap (λ (m : Option ℕ). is_few v.0 && is_limit m) (sym same.1) ∙ h in
      absurd cc;
}
