use Rattle.std.proofs.Common.{sym, ◌∙◌}
use Rattle.std.proofs.lemmas.Slice.Eq.{slice_eq-Decides}
use Rattle.ed_base.proofs.SortedLemmas.{told-apart}
use Rattle.ed_base.proofs.sorted.Sorted.is.Goals as goal

pub returns : goal.returns
returns g c =
    let same = slice_eq-Decides (told-apart g.met.T.Ord.total g.met.T.Member.exact g.met.T.Ord.matches_eq) c.members.result.now c.members-2.result.now c.eq.result c.eq.ensures in
    record {
      exact = (λ t. sym c.members.ensures.value ∙ same.0 t ∙ c.members-2.ensures.value, λ e. same.1 (c.members.ensures.value ∙ e ∙ sym c.members-2.ensures.value));
    }
