use Rattle.std.proofs.Common.{◌≡◌, ◌++◌, drop}
use Rattle.ed_rules.specs.Choices.{texts_of}
use Rattle.ed_rules.proofs.line_facts.substituted.texts_of.Given as goal

abbrev pub invariant-loop-choice : goal.invariant-loop-choice
invariant-loop-choice l = l.texts.items ++ texts_of (drop l.choice-index l.choice-items) ≡ texts_of l.choices
