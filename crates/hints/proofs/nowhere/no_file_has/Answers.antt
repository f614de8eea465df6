-- What is known where the landmarks are would hold of a file that has them.
use Rattle.std.proofs.Common.{sym, arith, ◌∙◌}
use Rattle.hints.proofs.NoFile.{absurd_is_none, counted, nowhere, seen_exactly, too_many_seen}
use Rattle.hints.proofs.nowhere.no_file_has.Goals as goal

pub returns-then-count-gt-COUNT : goal.returns-then-count-gt-COUNT
returns-then-count-gt-COUNT c = record {
  exact = too_many_seen c.args.most c.args.chains.now c.landmarks_in-count.result c.landmarks_in-count.ensures.value (omega arith);
  sound = λ is. cc;
}

pub returns : goal.returns
returns c =
    let named = c.as_slice.ensures.value ∙ c.in_ok-names.ensures.value in
    record {
      exact =
          seen_exactly c.args.most c.args.chains.now c.landmarks_in-count.result _ _ _ _ _
          (counted _ _ c.landmarks_in-count.ensures.value (omega arith)) (omega arith) c.within-zone.ensures.exact named c.in_ok-facts.ensures.exact c.is_absurd.ensures.value;
      sound = λ is some.
          nowhere (record { start = c.landmarks_are_where_they_are_said.ensures.start; marked = c.landmarks_are_where_they_are_said.ensures.marked })
          c.args.most c.args.chains.now c.landmarks_in-count.result _ _ _ _
          (counted _ _ c.landmarks_in-count.ensures.value (omega arith)) (omega arith) c.within-zone.ensures.sound named
          c.in_ok-facts.ensures.exact (absurd_is_none c.what_facts_say_is_true.ensures.clear c.known_bounds_are_true.ensures.known _ _ (sym c.is_absurd.ensures.value ∙ is)) some;
    }
