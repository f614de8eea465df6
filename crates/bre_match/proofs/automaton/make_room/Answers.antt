use Rattle.std.proofs.Common.{rules}
use Rattle.bre_match.proofs.AutomatonTables.{forgotten}
use Rattle.bre_match.proofs.automaton.make_room.Goals as goal

pub returns-then-state-lt2-clause-serves : goal.returns-then-state-lt2-clause-serves
returns-then-state-lt2-clause-serves c = λ starts part h.
    forgotten starts part c.args.states.now.items c.truncate.new.self.items c.args.table.now.items c.fill.new.self.items _ h
    c.truncate.ensures.items (search rules) (c.fill.ensures.items (search rules))
