use Rattle.std.proofs.Common.{take}
use Rattle.std.specs.List.{All}
use Rattle.ed_rules.specs.Formed.{ChoiceIsBytes}
use Rattle.cert_check.proofs.text.has_text.choices_are_bytes.Given as goal

abbrev pub invariant-loop-choice : goal.invariant-loop-choice
invariant-loop-choice l = All ChoiceIsBytes (take l.choice-index l.set)
