use Rattle.ed_rules.proofs.CoveringStates.{Covers-itself, Covers-through_both, Covers-join, Covers-join_other, Covers-widen, Covers-widen_other}
use Rattle.ed_rules.proofs.CoveringStates.{Covers-join_on, Covers-widen_on}
use Rattle.ed_rules.proofs.laws.joined_states_are_covered.Goals as goal

pub returns : goal.returns
returns c = record {
  same = Covers-itself;
  through = Covers-through_both;
  join = Covers-join;
  join_other = Covers-join_other;
  widen = Covers-widen;
  widen_other = Covers-widen_other;
  join_on = Covers-join_on;
  widen_on = Covers-widen_on;
}
