use Rattle.std.proofs.Common.{◌≡◌, ℕ, Bool, true, false, List, ◌∙◌, sym, ap, subst}
use Rattle.ed_rules.specs.Formed.{ZoneIsFormed}
use Rattle.cert_check.specs.text.Text.{sure_letters, letters_words}
use Rattle.cert_check.proofs.texts.Chosen.{marks-same}
use Rattle.cert_check.proofs.texts.ReadSets.{after-its-key}
use Rattle.cert_check.proofs.texts.ReadLetters.{letters-word-same}
use Rattle.cert_check.proofs.text.zone_lines.marks_in.Goals as goal

pub returns-in_default-letters_word_in : goal.returns-in_default-letters_word_in
returns-in_default-letters_word_in c = record {
  exact = λ v h e.
      c.in_default-letters_word_in.ensures.exact (sure_letters 97 v)
      (after-its-key c.args.key.now c.args.line.now c.in-Some.left.now (letters_words (sure_letters 97 v)) c.in-Some.ensures.cases e);
}

pub returns-in_default-letters_in : goal.returns-in_default-letters_in
returns-in_default-letters_in c = record {
  exact = λ v h e.
      let same =
      letters-word-same (sure_letters 97 v) c.in-Some-letters_word_in.letters.now
      (after-its-key c.args.key.now c.args.line.now c.in-Some.left.now (letters_words (sure_letters 97 v)) c.in-Some.ensures.cases e
      ∙ sym c.in-Some-letters_word_in.ensures.exact) in
      c.in_default-letters_in.ensures.exact v h.letters same;
}

pub returns-then-not-zone_has_text : goal.returns-then-not-zone_has_text
returns-then-not-zone_has_text c = record {
  exact = λ v h e.
      let read = c.in-Some-letters_in.ensures.exact in
      let letters : sure_letters 97 v ≡ c.in-Some-letters_word_in.letters.now =
      letters-word-same (sure_letters 97 v) c.in-Some-letters_word_in.letters.now
      (after-its-key c.args.key.now c.args.line.now c.in-Some.left.now (letters_words (sure_letters 97 v)) c.in-Some.ensures.cases e
      ∙ sym c.in-Some-letters_word_in.ensures.exact) in
      let same : v ≡ c.in-Some-letters_in.marks =
      marks-same v c.in-Some-letters_in.marks (h.letters ∙ sym read.1) (ap (λ (l : List ℕ). letters_words l) (letters ∙ sym read.0)) in
      let refused : false ≡ true = c.if-not-zone_has_text.ensures.exact.1 (subst (λ (m : List Bool). ZoneIsFormed m c.args.zone.now) same h) in
      absurd cc;
}
