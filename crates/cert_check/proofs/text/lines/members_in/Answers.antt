use Rattle.ed_rules.specs.Formed.{ChoiceIsBytes}
use Rattle.cert_check.specs.text.Text.{choice_word}
use Rattle.cert_check.proofs.texts.ReadSets.{choices-are-names, stopped}
use Rattle.cert_check.proofs.text.lines.members_in.Goals as goal

pub returns-in_default-2 : goal.returns-in_default-2
returns-in_default-2 c = record {
  exact = λ v h e.
      let none = rw c.in_default-2.is at c.in_ok-choice.ensures.exact in
      stopped choice_word ChoiceIsBytes choices-are-names c.loop-word.members.items v c.loop-word.left.now c.args.text.now c.in-Some.word.now c.in-Some.later.now
      c.loop-word.invariant.read c.loop-word.invariant.ends c.in-Some.ensures.cases none h e;
}
