use Rattle.std.proofs.Common.{◌≡◌, drop, map}
use Rattle.std.specs.List.{flat_map}
use Rattle.ed_syntax.specs.PublicTypes.{command_value}
use Rattle.ed_rules.specs.Texts.{with_texts}
use Rattle.ed_rules.specs.Matched.{given_by}
use Rattle.ed_rules.proofs.watch.add_list.Given as goal

abbrev pub invariant-loop-command : goal.invariant-loop-command
invariant-loop-command l = with_texts (flat_map (given_by l.follows) (map command_value l.list)) l.fn.patterns ≡ with_texts (flat_map (given_by l.follows) (map command_value (drop l.command-index l.list))) l.patterns
