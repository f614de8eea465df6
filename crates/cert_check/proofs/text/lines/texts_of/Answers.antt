use Rattle.std.proofs.Common.{ℕ, List, map, Some, option_map}
use Rattle.std.specs.List.{All}
use Rattle.std.proofs.lemmas.Result.{IfOk-weaker}
use Rattle.ed_rules.specs.Formed.{ChoiceIsBytes}
use Rattle.cert_check.specs.text.Text.{choice_word}
use Rattle.cert_check.proofs.texts.ReadSets.{line-reads}
use Rattle.cert_check.proofs.text.lines.texts_of.Goals as goal

pub returns : goal.returns
returns c = record {
  exact =
      IfOk-weaker c.texts_in.result _ _
      (λ read h.
      line-reads (λ (texts : List (List ℕ)). map choice_word (map Some texts)) (λ texts. All ChoiceIsBytes (map Some texts)) c.args.key.now c.args.line.now c.in-Some.left.now
      (option_map (λ texts. texts.items) read) c.in-Some.ensures.cases h)
      c.texts_in.ensures.exact;
}
