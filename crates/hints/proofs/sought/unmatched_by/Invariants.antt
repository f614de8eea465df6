use Rattle.std.proofs.Common.{◌≡◌, drop}
use Rattle.std.specs.List.{filter, flat_map}
use Rattle.ed_syntax.specs.PublicTypes.{command_value}
use Rattle.ed_rules.specs.Texts.{with_texts}
use Rattle.hints.specs.Sought.{is_unmatched, unmatched}
use Rattle.hints.proofs.sought.unmatched_by.Given as goal

abbrev pub invariant-searches : goal.invariant-searches
invariant-searches l =
    unmatched (command_value l.command) l.state ≡ with_texts (flat_map (filter (is_unmatched l.state)) (drop l.patterns-index l.patterns-items)) l.unmatched
