use Rattle.std.proofs.Common.{◌≡◌, ◌+◌, ◌∷◌, ◌++◌, map, drop, reverse, true, ltb, ap, sym, ◌∙◌, subst, arith}
use Rattle.std.specs.Prelude.{◌&&◌}
use Rattle.std.proofs.lemmas.Bool.Decides.{nat_tests}
use Rattle.bre_parse.specs.Tree.{tree_of, Repeat}
use Rattle.bre_parse.specs.Ways.{below}
use Rattle.bre_match.specs.Alike.{RefersWithin}
use Rattle.bre_match.specs.declared.left.Left.TheVariants as stack
use Rattle.bre_match.specs.Outlooks.{first_part}
use Rattle.bre_match.specs.Runs.{at_item, tasks}
use Rattle.bre_match.proofs.Asking.{item_within}
use Rattle.bre_match.proofs.LeftTells.{Tells, way_ended, turn_taken}
use Rattle.bre_match.proofs.Tasks.{items_left, tasks_push}
use Rattle.bre_match.proofs.outlook.Outlook.take_turn.Goals as goal

pub push_turns-requires : goal.push_turns-requires
push_turns-requires c = record {
  asked =
      subst (λ part. RefersWithin c.args.asked.now (tree_of part)) (sym c.deref.ensures)
      (subst (λ part. RefersWithin c.args.asked.now (tree_of part)) c.in-Repeat.is
      (item_within c.args.asked.now c.args.items.now c.args.self.now.at c.index-items-self.result c.index-items-self.is c.requires.asked
      c.requires.place));
}

pub returns-in_ok-push-in-Ended-clause-left : goal.returns-in_ok-push-in-Ended-clause-left
returns-in_ok-push-in-Ended-clause-left c taken start told =
    let old = c.args.self.now in
    way_ended c.args.items.now old.at c.args.text.now start c.in-Ended.way old.met.marks.items old.begun.marks.items
    (tasks old.left.items) (tasks c.push.new.self.items) (reverse old.turns.items)
    (ap tasks c.in_ok-push-in-Ended.ensures.items ∙ tasks_push old.left.items (stack.Run _)
    ∙ ap (λ ways. map (at_item (old.at + 1)) ways ++ tasks old.left.items) c.of-run.ensures.value)
    (subst (λ x. Tells c.args.items.now old.at c.args.text.now start old.met.marks.items old.begun.marks.items (tasks old.left.items)
    (x ∷ reverse old.turns.items)) c.in-Ended.is told)

pub returns-in_ok-push_turns-in-Next-clause-left : goal.returns-in_ok-push_turns-in-Next-clause-left
returns-in_ok-push_turns-in-Next-clause-left c taken start told =
    let old = c.args.self.now in
    let bounds = c.uncounted-bounds.result in
    let done = c.in-Next.done in
    let content = tree_of c.deref.result.now in
    let is : first_part (drop old.at c.args.items.now) ≡ Repeat bounds.least bounds.most content =
    ap first_part (items_left c.args.items.now old.at c.index-items-self.result c.requires.place c.index-items-self.is)
    ∙ ap tree_of c.in-Repeat.is
    ∙ ap (λ part. Repeat c.in-Repeat.least c.in-Repeat.most (tree_of part)) (sym c.deref.ensures)
    ∙ ap (λ n. Repeat n c.in-Repeat.most content) (sym c.uncounted-bounds.ensures.least)
    ∙ ap (λ n. Repeat bounds.least n content) (sym c.uncounted-bounds.ensures.most) in
    let begins : ltb done bounds.enough ≡ true = grind (arith, nat_tests) in
    turn_taken c.args.asked.now c.args.items.now old.at c.args.text.now start bounds content done c.in-Next.way
    (ltb done bounds.enough && below done bounds.most) old.met.marks.items old.begun.marks.items c.push_turns.new.seen.marks.items
    (tasks old.left.items) (reverse old.turns.items) (reverse c.push_turns.new.left.items) c.requires.asked is
    (λ free. c.uncounted-bounds.ensures.most ∙ c.uncounted-bounds.ensures.unbounded free)
    (ap (λ b. b && below done bounds.most) begins) c.in_ok-push_turns-in-Next.ensures.value
    (subst (λ x. Tells c.args.items.now old.at c.args.text.now start old.met.marks.items old.begun.marks.items (tasks old.left.items)
    (x ∷ reverse old.turns.items)) c.in-Next.is told)
