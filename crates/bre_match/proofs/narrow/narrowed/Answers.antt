use Rattle.bre_parse.specs.Tree.{sequence_of}
use Rattle.bre_parse.specs.Ways.{ways, from_way}
use Rattle.bre_match.proofs.Narrowing.{leads_nowhere}
use Rattle.bre_match.proofs.narrow.narrowed.Goals as goal

pub returns-in-Some-clause-value : goal.returns-in-Some-clause-value
returns-in-Some-clause-value c =
    let rest = sequence_of c.args.items.now in
    let run = c.args.run.now in
    c.only_end.ensures.value (from_way (ways rest c.args.text.now))
    (λ end away. leads_nowhere rest run.closes run.groups c.args.text.now c.in-Some.bytes end c.in-Some.ensures.sound away)
