use Rattle.std.proofs.Common.{◌≡◌, ◌++◌, drop}
use Rattle.bre_parse.specs.Bre.{bre_tree}
use Rattle.ed_rules.specs.facts.RewrittenLine.{heads_left}
use Rattle.ed_rules.proofs.line_facts.rewritten.heads_left.Given as goal

abbrev pub invariant-loop-pattern : goal.invariant-loop-pattern
invariant-loop-pattern l =
    l.heads.items ++ heads_left (bre_tree l.replaced) (drop l.pattern-index l.matched) ≡ heads_left (bre_tree l.replaced) l.matched
