use Rattle.ed_base.proofs.SortedLemmas.{searched}
use Rattle.ed_base.proofs.sorted.place_of.Goals as goal

pub returns : goal.returns
returns g c = record {
  place = searched g.met.T.Ord.total g.met.T.Member.exact c.args.item.now c.args.members.now c.binary_search.result c.requires.rising c.binary_search.ensures.bound c.binary_search.ensures.position;
}
