use Rattle.std.proofs.Common.{of_calls}
use Rattle.std.specs.Cmp.Lexicographic.{slice_cmp, nat_list_cmp_total}
use Rattle.std.specs.Ordering.{nat_cmp}
use Rattle.std.proofs.lemmas.Map.Lookups.{exact_bytes}
use Rattle.std.proofs.lemmas.Fn.{always_returns_same}
use Rattle.ed_base.proofs.SortedLemmas.{searched}
use Rattle.ed_base.proofs.sorted.place_of_text.Goals as goal

pub returns : goal.returns
returns c = record {
  place = searched nat_list_cmp_total exact_bytes c.args.text.now c.args.members.now c.binary_search_by.result c.requires.rising c.binary_search_by.ensures.bound
      (c.binary_search_by.ensures.position (λ member. slice_cmp nat_cmp member c.args.text.now) (always_returns_same _ _ _ (search of_calls)));
}
