use Rattle.bre_match.proofs.AutomatonTables.{first_two}
use Rattle.bre_match.proofs.automaton.begin.Goals as goal

pub returns-clause-serves : goal.returns-clause-serves
returns-clause-serves c = λ part h.
    first_two c.args.starts part c.in_ok-first.first.items c.in_ok-unknown.unknown.items
    c.in_ok-first.ensures.value c.in_ok-unknown.ensures.value
