use Rattle.std.proofs.Common.{ap, ◌∙◌}
use Rattle.std.specs.Prelude.{option_map}
use Rattle.bre_parse.specs.Tree.{sequence_of}
use Rattle.bre_match.specs.Spans.{start_and_end}
use Rattle.bre_match.proofs.Needs.{match_passed_to}
use Rattle.bre_match.proofs.span.span.Goals as goal

pub returns-clause-value : goal.returns-clause-value
returns-clause-value c =
    c.in_ok-found.ensures.value
    ∙ ap (option_map start_and_end)
    (match_passed_to (sequence_of c.args.items.now) c.args.text.now c.args.from c.first_start-start.result c.first_start-start.ensures.after c.first_start-start.ensures.within c.first_start-start.ensures.sound)
