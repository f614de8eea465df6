use Rattle.std.proofs.Common.{◌∙◌, sym, subst, ℕ, List, map, Some}
use Rattle.std.specs.List.{All}
use Rattle.ed_rules.specs.Formed.{ChoiceIsBytes}
use Rattle.cert_check.specs.text.Text.{choice_word}
use Rattle.cert_check.proofs.texts.Limited.{from-map}
use Rattle.cert_check.proofs.texts.ReadWords.{not-nothing, nothing-left}
use Rattle.cert_check.proofs.texts.ReadSets.{texts-are-names, stopped, ended, spelled-texts, texts-spelled}
use Rattle.cert_check.proofs.text.lines.texts_in.Goals as goal

pub returns-in_default-2 : goal.returns-in_default-2
returns-in_default-2 c = record {
  exact = λ v h e.
      let none = rw c.in_default-2.is at c.in_ok-member.ensures.exact in
      stopped (λ (text : List ℕ). choice_word (Some text)) (λ text. ChoiceIsBytes (Some text)) texts-are-names c.loop-word.texts.items v c.loop-word.left.now
      c.args.text.now c.in-Some.word.now c.in-Some.later.now c.loop-word.invariant.read c.loop-word.invariant.ends c.in-Some.ensures.cases none
      (from-map ChoiceIsBytes Some v h) (sym (spelled-texts v) ∙ e);
}

pub returns-then-not-is_empty : goal.returns-then-not-is_empty
returns-then-not-is_empty c = record {
  exact = λ v h e.
      ended (λ (text : List ℕ). choice_word (Some text)) texts-are-names c.loop-word.texts.items v c.loop-word.left.now c.args.text.now
      c.loop-word.invariant.read c.loop-word.invariant.ends c.in_default.ensures.cases (not-nothing c.loop-word.left.now c.if-not-is_empty.ensures) (sym (spelled-texts v) ∙ e);
}

pub returns : goal.returns
returns c = record {
  exact = (
    texts-spelled c.loop-word.texts.items c.loop-word.left.now c.args.text.now c.loop-word.invariant.read (nothing-left c.loop-word.left.now c.if-not-is_empty.ensures),
    subst (λ (texts : List (List ℕ)). All ChoiceIsBytes (map Some texts)) c.as_slice.ensures.value c.texts_are_bytes.ensures.bytes,
  );
}
