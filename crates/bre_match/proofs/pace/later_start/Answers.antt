use Rattle.std.proofs.Common.{length, refl, arith}
use Rattle.bre_parse.specs.Tree.{sequence_of}
use Rattle.bre_match.proofs.Needs.{match_passed_to}
use Rattle.bre_match.proofs.pace.later_start.Goals as goal

pub returns-then-begins_at_start-clause-same : goal.returns-then-begins_at_start-clause-same
returns-then-begins_at_start-clause-same c =
    match_passed_to (sequence_of c.args.items.now) c.args.text.now c.args.place (length c.args.text.now) c.requires.place (omega arith)
    (λ start low high. c.if-begins_at_start.ensures.sound refl c.args.text.now start (let later = c.requires.later in omega arith))

pub returns-else-begins_at_start-clause-same : goal.returns-else-begins_at_start-clause-same
returns-else-begins_at_start-clause-same c =
    match_passed_to (sequence_of c.args.items.now) c.args.text.now c.args.place c.first_start.result c.first_start.ensures.after
    c.first_start.ensures.within c.first_start.ensures.sound
