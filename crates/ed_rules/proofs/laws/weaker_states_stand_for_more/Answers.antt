use Rattle.ed_rules.proofs.sound.Weaker.{StandsFor-join, StandsFor-join_other, StandsFor-widen, StandsFor-widen_other, StandsFor-covers}
use Rattle.ed_rules.proofs.laws.weaker_states_stand_for_more.Goals as goal

pub returns : goal.returns
returns c = record {
  join = StandsFor-join;
  join_other = StandsFor-join_other;
  widen = StandsFor-widen;
  widen_other = StandsFor-widen_other;
  covers = StandsFor-covers;
}
