use Rattle.std.proofs.Common.{◌≡◌, drop}
use Rattle.std.specs.List.{list_any}
use Rattle.bre_parse.specs.Bre.{bre_tree}
use Rattle.bre_parse.specs.TextHeads.{head_clashes}
use Rattle.ed_rules.proofs.line_facts.rewritten.any_clashes.Given as goal

abbrev pub invariant-loop-head : goal.invariant-loop-head
invariant-loop-head l =
    list_any (λ head. head_clashes head (bre_tree l.bre)) (drop l.head-index l.heads) ≡ list_any (λ head. head_clashes head (bre_tree l.bre)) l.heads
