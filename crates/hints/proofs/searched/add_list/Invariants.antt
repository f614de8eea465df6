use Rattle.std.proofs.Common.{◌≡◌, drop, map}
use Rattle.std.specs.List.{flat_map}
use Rattle.ed_syntax.specs.PublicTypes.{command_value}
use Rattle.ed_rules.specs.Texts.{with_texts}
use Rattle.ed_rules.specs.Matched.{sought}
use Rattle.hints.proofs.searched.add_list.Given as goal

abbrev pub invariant-commands : goal.invariant-commands
invariant-commands l =
    with_texts (flat_map sought (map command_value l.list)) l.fn.patterns
    ≡ with_texts (flat_map sought (map command_value (drop l.command-index l.list))) l.patterns
