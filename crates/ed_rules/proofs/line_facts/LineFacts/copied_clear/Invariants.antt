use Rattle.std.proofs.Common.{◌≡◌, take}
use Rattle.ed_rules.proofs.line_facts.LineFacts.copied_clear.Given as goal

abbrev pub invariant-loop-stretch : goal.invariant-loop-stretch
invariant-loop-stretch l = l.clear.items ≡ take l.stretch-index l.stretch-items
