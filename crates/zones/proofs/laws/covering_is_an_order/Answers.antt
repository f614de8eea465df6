use Rattle.zones.proofs.Order.{Covers-same, Covers-through, Covers-both, Covers-join_of, Covers-join_of_other, Covers-join_of_least, Covers-widening_of, Covers-widening_of_other}
use Rattle.zones.proofs.laws.covering_is_an_order.Goals as goal

pub returns : goal.returns
returns c = record {
  same = Covers-same;
  through = Covers-through;
  both_ways = Covers-both;
  join = Covers-join_of;
  join_other = Covers-join_of_other;
  join_least = Covers-join_of_least;
  widen = Covers-widening_of;
  widen_other = Covers-widening_of_other;
}
