use Rattle.ed_rules.proofs.formed.StatesFormed.{start-formed, command-formed, join-formed, widen-formed, entry-formed, once-formed, end-formed}
use Rattle.ed_rules.proofs.laws.states_stay_formed.Goals as goal

pub returns : goal.returns
returns c = record {
  start = start-formed;
  command = command-formed;
  join = join-formed;
  widen = widen-formed;
  entry = entry-formed;
  once = once-formed;
  end = end-formed;
}
