use Rattle.std.proofs.Common.{map, ap, List, ℕ, ◌++◌, ◌∙◌, sym}
use Rattle.cert_check.specs.text.Text.{choice_word}
use Rattle.cert_check.proofs.texts.ReadSets.{choices-read, after-its-key}
use Rattle.cert_check.proofs.text.lines.choices_in.Goals as goal

pub returns-in_default-2 : goal.returns-in_default-2
returns-in_default-2 c = record {
  exact = λ v h e.
      let none = rw c.in_default-2.is at c.in_ok-members.ensures.exact in
      none v h.bytes (after-its-key c.args.key.now c.args.line.now c.in-Some.left.now (map choice_word v) c.in-Some.ensures.cases e);
}

pub returns : goal.returns
returns c =
    let read = rw c.in-Some-2.is at c.in_ok-members.ensures.exact in
    record {
      exact =
          choices-read c.args.key.now c.args.line.now c.in-Some-2.members.items c.from_rising.result
          (ap (λ (l : List ℕ). c.args.key.now ++ l) read.0 ∙ sym c.in-Some.ensures.cases) read.1 c.from_rising.ensures.value c.from_rising.ensures.rising c.from_rising.ensures.refused;
    }
