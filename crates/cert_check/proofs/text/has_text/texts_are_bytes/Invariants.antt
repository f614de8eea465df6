use Rattle.std.proofs.Common.{take, Some}
use Rattle.std.specs.List.{All}
use Rattle.ed_rules.specs.Formed.{ChoiceIsBytes}
use Rattle.cert_check.proofs.text.has_text.texts_are_bytes.Given as goal

abbrev pub invariant-loop-text : goal.invariant-loop-text
invariant-loop-text l = All (λ text. ChoiceIsBytes (Some text)) (take l.text-index l.texts)
