use Rattle.ed_rules.proofs.matches.MatchesFormed.{start-matches, command-matches, join-matches, widen-matches, entry-matches, once-matches, end-matches, watched-formed}
use Rattle.ed_rules.proofs.laws.matches_stay_formed.Goals as goal

pub returns : goal.returns
returns c = record {
  start = start-matches;
  command = command-matches;
  join = join-matches;
  widen = widen-matches;
  entry = entry-matches;
  once = once-matches;
  end = end-matches;
  watched = watched-formed;
}
