use Rattle.std.proofs.Common.{◌≡◌, ◌∙◌, ℕ, true, List, subst}
use Rattle.std.specs.List.{list_any}
use Rattle.ed_syntax.specs.meaning.Values.{matches}
use Rattle.ed_rules.specs.Texts.{are_rising}
use Rattle.std.specs.Cmp.Lexicographic.{slice_cmp, nat_list_cmp_total}
use Rattle.std.specs.Ordering.{nat_cmp}
use Rattle.ed_base.proofs.SortedLemmas.{front-rises, rising-filter}
use Rattle.ed_rules.proofs.watch.Watch.gained.Goals as goal

pub of-requires : goal.of-requires
of-requires c =
    let own : are_rising c.args.self.now ≡ true =
    subst (λ (set : List (List ℕ)). are_rising set ≡ true) (c.members-text-items.ensures.value ∙ c.self.view_is) c.members-text-items.ensures.rising in
    record {
      rising = front-rises (slice_cmp nat_cmp) c.loop-text.some.items _ _ c.loop-text.invariant
          (rising-filter nat_list_cmp_total (λ (text : List ℕ). list_any (matches text) c.args.entered.now) c.args.self.now own);
    }
