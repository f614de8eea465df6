use Rattle.std.proofs.Common.{◌≡◌, ℕ, ◌≤◌, ◌++◌, ap, ◌∙◌, subst, sym, arith, Some, None}
use Rattle.bre_parse.specs.Tree.{tree_of, Group}
use Rattle.bre_parse.specs.Ways.{ways, turns, fresh_turn}
use Rattle.bre_parse.proofs.tree.Node.TheLaws.{the_size}
use Rattle.bre_match.specs.Spreads.{AreKnown, Leads}
use Rattle.bre_match.proofs.Asking.{item_within}
use Rattle.bre_match.proofs.Spreads.{content_leads, closed_known, known_before, begins_growing, grown, grown_all}
use Rattle.bre_match.proofs.SpreadSteps.{if_some, leads_next, row_next, row_done, row_falls, turn_led, repeat_next, repeat_done, none_left, from_copied, up_to_begins, up_to_next, up_to_done, fresh_even}
use denote.Param.Weighed.{most, at_most}
use Rattle.bre_match.proofs.spread.+spread.Goals as goal

pub spread_row-spread-requires : goal.spread_row-spread-requires
spread_row-spread-requires t c =
    let part = c.item-item.result in
    let weighs : the_size part ≤ most the_size c.args.items.now =
    subst (λ n. the_size n ≤ most the_size c.args.items.now) (sym c.item-item.is)
    (at_most the_size c.args.items.now c.loop-item.item-index part (omega arith)) in (
      row_falls _ (most the_size c.args.items.now) _ (sym c.decreases) weighs,
      item_within c.args.asked.now c.args.items.now c.loop-item.item-index part c.item-item.is c.requires.asked (omega arith),
    )

pub spread_row-loop-item-preserved : goal.spread_row-loop-item-preserved
spread_row-loop-item-preserved t c =
    row_next c.args.asked.now c.args.items.now c.loop-item.item-index c.item-item.result c.args.text.now c.args.from.now
    c.loop-item.now.items c.in-Some.next.items c.requires.asked c.loop-item-test.true c.item-item.is c.loop-item.invariant
    (rw (c.in-Some.is, c.deref.ensures.value) at c.in_ok-next.ensures.value)

pub spread_row-returns : goal.spread_row-returns
spread_row-returns t c =
    record {
      value = row_done c.args.asked.now c.args.items.now c.loop-item.item-index c.args.text.now c.args.from.now c.loop-item.now.items
          (omega arith) c.loop-item.invariant;
    }

pub spread_group-returns-then-not-is_told_apart : goal.spread_group-returns-then-not-is_told_apart
spread_group-returns-then-not-is_told_apart t c =
    record {
      value = if_some _ _ c.in_ok-found.found
          (λ to led. content_leads c.args.asked.now c.args.group (tree_of c.args.content.now) c.args.text.now c.args.from.now to.items
          (sym c.if-not-is_told_apart.ensures.value) led) c.in_ok-found.ensures.value;
    }

pub spread_group-loop-way-preserved : goal.spread_group-loop-way-preserved
spread_group-loop-way-preserved t c =
    leads_next c.args.asked.now (ways (Group c.args.group (tree_of c.args.content.now)) c.args.text.now) c.args.from.now
    c.loop-way.to.items c.push_new.new.all.items c.in_ok-push_new.field-0.items c.loop-way.way-index _ c.loop-way-test.true
    c.in_ok-push_new.ensures.value c.loop-way.invariant
    (closed_known c.args.asked.now c.args.group (tree_of c.args.content.now) c.args.text.now _ c.new-one.result.items
    c.push.new.self.items c.deref-in-loop-way.result.now c.new-closed.result.items c.deref-in-loop-way-2.result.now
    c.push_new.new.all.items c.new-one.ensures.items c.in_ok-push.ensures.items
    (rw (c.in-Some.is, c.deref.ensures.value, ← c.deref-in-loop-way.ensures.value) at c.in_ok-inner.ensures.value)
    c.new-closed.ensures.items (c.deref-in-loop-way-2.ensures.value ∙ c.in_ok-push_group.ensures.value)
    c.in_ok-push_new.ensures.known)

pub spread_turn-returns : goal.spread_turn-returns
spread_turn-returns t c =
    record {
      value = if_some _ _ c.in_ok-found.found
          (λ to led. turn_led c.args.asked.now (tree_of c.args.content.now) c.args.text.now c.requires.asked c.args.from.now
          c.deref.result.now c.deref-2.result.now to.items (c.deref.ensures.value ∙ c.in_ok-begun.ensures.value)
          (rw (← c.deref-2.ensures.value) at c.in_ok-push_new.ensures.known) led) c.in_ok-found.ensures.value;
    }

pub spread_repeat-loop-done-init : goal.spread_repeat-loop-done-init
spread_repeat-loop-done-init t c =
    λ to. from_copied
    (λ l. (k : ℕ) → Leads c.args.asked.now (turns k (fresh_turn (tree_of c.args.content.now) (ways (tree_of c.args.content.now) c.args.text.now)) c.args.least c.args.most 0) l to)
    c.new-now.result.items c.extend_from_slice.new.self.items c.args.from.now c.new-now.ensures.items
    c.in_ok-extend_from_slice.ensures.items

pub spread_repeat-loop-done-preserved : goal.spread_repeat-loop-done-preserved
spread_repeat-loop-done-preserved t c =
    repeat_next c.args.asked.now (tree_of c.args.content.now) c.args.text.now c.requires.asked c.args.least c.args.most c.loop-done.done
    c.args.from.now c.loop-done.now.items c.in-Some.next.items c.loop-done-test.true c.loop-done.invariant
    (rw (c.in-Some.is, c.deref.ensures.value) at c.in_ok-next.ensures.value)

pub spread_repeat-returns-in-None : goal.spread_repeat-returns-in-None
spread_repeat-returns-in-None t c =
    record {
      value = if_some _ _ c.in_ok-found-in-None.found
          (λ to led. repeat_done c.args.asked.now (tree_of c.args.content.now) c.args.text.now c.args.least None c.args.most
          c.loop-done.done c.args.from.now c.loop-done.now.items c.deref-in-None.result.now to.items c.deref-in-None.ensures.value
          c.in-None.is (omega arith) (omega arith) c.loop-done.invariant led) c.in_ok-found-in-None.ensures.value;
    }

pub spread_repeat-returns : goal.spread_repeat-returns
spread_repeat-returns t c =
    record {
      value = if_some _ _ c.in_ok-found-in-Some-most.found
          (λ to led. repeat_done c.args.asked.now (tree_of c.args.content.now) c.args.text.now c.args.least (Some c.in-Some-most.most) c.args.most
          c.loop-done.done c.args.from.now c.loop-done.now.items c.deref-in-Some-most.result.now to.items c.deref-in-Some-most.ensures.value
          c.in-Some-most.is (omega arith) (omega arith) c.loop-done.invariant led) c.in_ok-found-in-Some-most.ensures.value;
    }

pub spread_more-loop-round-init : goal.spread_more-loop-round-init
spread_more-loop-round-init t c =
    record {
      known = c.in_ok-added.ensures.known;
      growing = begins_growing c.args.asked.now (fresh_turn (tree_of c.args.content.now) (ways (tree_of c.args.content.now) c.args.text.now))
          c.push_new.new.all.items c.in_ok-added.added.items
          (c.in_ok-added.ensures.value ∙ ap (λ l. l ++ c.in_ok-added.added.items) c.new-all.ensures.items);
    }

pub spread_more-returns-then-is_empty : goal.spread_more-returns-then-is_empty
spread_more-returns-then-is_empty t c =
    let none : c.loop-round.added.len ≡ 0 = none_left c.loop-round.added.len c.if-is_empty.ensures in
    let ok = c.loop-round.added.ok in
    record {
      value = grown_all c.args.asked.now (fresh_turn (tree_of c.args.content.now) (ways (tree_of c.args.content.now) c.args.text.now))
          (fresh_even c.args.asked.now (tree_of c.args.content.now) c.args.text.now c.requires.asked) c.args.least None c.args.least
          c.args.from.now c.loop-round.all.items c.loop-round.added.items
          (omega arith) c.loop-round.invariant.growing c.loop-round.invariant.known;
    }

pub spread_more-loop-round-preserved : goal.spread_more-loop-round-preserved
spread_more-loop-round-preserved t c =
    record {
      known = subst (λ l. AreKnown c.args.asked.now l c.args.from.now) (sym c.in_ok-added-2.ensures.value)
          (known_before c.args.asked.now c.loop-round.all.items c.in_ok-added-2.added.items c.args.from.now c.loop-round.invariant.known);
      growing = grown c.args.asked.now (fresh_turn (tree_of c.args.content.now) (ways (tree_of c.args.content.now) c.args.text.now))
          (fresh_even c.args.asked.now (tree_of c.args.content.now) c.args.text.now c.requires.asked) c.loop-round.all.items
          c.loop-round.added.items c.in-Some.next.items c.push_new-in-loop-round.new.all.items c.in_ok-added-2.added.items
          c.loop-round.invariant.growing (rw (c.in-Some.is, c.deref.ensures.value) at c.in_ok-next.ensures.value)
          c.in_ok-added-2.ensures.value (rw c.deref-in-loop-round.ensures.value at c.in_ok-added-2.ensures.known);
    }

pub spread_up_to-loop-passed-init : goal.spread_up_to-loop-passed-init
spread_up_to-loop-passed-init t c =
    let copy : c.extend_from_slice.new.self.items ≡ c.args.from.now =
    c.in_ok-extend_from_slice.ensures.items ∙ ap (λ l. l ++ c.args.from.now) c.new-now.ensures.items in
    record {
      known = subst (AreKnown c.args.asked.now c.push_new.new.all.items) (sym copy) c.in_ok-push_new.ensures.known;
      leads = λ to known led. up_to_begins c.args.asked.now (fresh_turn (tree_of c.args.content.now) (ways (tree_of c.args.content.now) c.args.text.now))
          c.args.least c.args.most c.args.from.now c.extend_from_slice.new.self.items to copy led;
    }

pub spread_up_to-loop-passed-preserved : goal.spread_up_to-loop-passed-preserved
spread_up_to-loop-passed-preserved t c =
    record {
      known = rw c.deref-in-loop-passed.ensures.value at c.in_ok-push_new-2.ensures.known;
      leads = up_to_next c.args.asked.now (tree_of c.args.content.now) c.args.text.now c.requires.asked c.args.least c.args.most
          c.loop-passed.passed c.args.from.now c.loop-passed.now.items c.in-Some.next.items c.loop-passed.all.items
          c.push_new-in-loop-passed.new.all.items c.in_ok-push_new-2.field-0.items c.in_ok-push_new-2.ensures.value
          (rw c.deref-in-loop-passed.ensures.value at c.in_ok-push_new-2.ensures.known)
          (rw (c.in-Some.is, c.deref.ensures.value) at c.in_ok-next.ensures.value) c.loop-passed.invariant.known
          c.loop-passed.invariant.leads;
    }

pub spread_up_to-returns : goal.spread_up_to-returns
spread_up_to-returns t c =
    record {
      value = up_to_done c.args.asked.now (tree_of c.args.content.now) c.args.text.now c.requires.asked c.args.least c.args.most
          c.loop-passed.passed c.args.from.now c.loop-passed.now.items c.loop-passed.all.items
          (omega (arith, c.saturating_sub-passed-end.ensures)) c.loop-passed.invariant.known c.loop-passed.invariant.leads;
    }
