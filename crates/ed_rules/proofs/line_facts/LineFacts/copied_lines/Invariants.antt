use Rattle.std.proofs.Common.{◌≡◌, take}
use Rattle.ed_rules.proofs.line_facts.LineFacts.copied_lines.Given as goal

abbrev pub invariant-loop-fact : goal.invariant-loop-fact
invariant-loop-fact l = l.lines.items ≡ take l.fact-index l.fact-items
