use Rattle.ed_rules.proofs.facts.FactsLeft.{delete-left, change-left, append-left, insert-left, join-left}
use Rattle.ed_rules.proofs.fact_laws.facts_are_left_by_commands.Goals as goal

pub returns : goal.returns
returns c = record { delete = delete-left; change = change-left; append = append-left; insert = insert-left; join = join-left }
