use Rattle.std.proofs.Common.{◌≡◌, drop, map}
use Rattle.std.specs.List.{flat_map}
use Rattle.ed_syntax.specs.PublicTypes.{step_value}
use Rattle.ed_rules.specs.Texts.{with_texts}
use Rattle.ed_rules.specs.Matched.{given_by_step}
use Rattle.ed_rules.proofs.watch.Watch.given.Given as goal

abbrev pub invariant-loop-command : goal.invariant-loop-command
invariant-loop-command l = with_texts (flat_map (given_by_step l.follows) (map step_value l.command-items)) l.has ≡ with_texts (flat_map (given_by_step l.follows) (map step_value (drop l.command-index l.command-items))) l.patterns
