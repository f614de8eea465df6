use Rattle.std.proofs.Common.{◌∷◌, reverse, ap, ◌∙◌, arith}
use Rattle.std.proofs.lemmas.Bool.Decides.{nat_tests}
use Rattle.bre_match.specs.declared.turn.Turn.TheVariants as turn
use Rattle.bre_match.proofs.Asking.{item_within}
use Rattle.bre_match.proofs.LeftTells.{way_begins, way_followed}
use Rattle.bre_match.proofs.Turning.{reverse_popped}
use Rattle.bre_match.proofs.outlook.Outlook.take_way.Goals as goal

pub returns-then-next-self-clause-left : goal.returns-then-next-self-clause-left
returns-then-next-self-clause-left c start told =
    let old = c.args.self.now in
    let next = c.args.next.now in
    way_begins c.args.items.now old.at c.args.text.now start next old.met.marks.items old.begun.marks.items old.left.items
    c.push_others.new.left.items (reverse old.turns.items) (reverse c.push.new.self.items) c.requires.item (grind (arith, nat_tests))
    c.in_ok-push_others.ensures.value
    (reverse_popped c.push.new.self.items old.turns.items _ c.in_ok-push.ensures.items
    ∙ ap (λ g. turn.Next 0 (next.run.end, g) ∷ reverse old.turns.items) c.groups_at.ensures.value)
    told

pub follow-requires-clause-asked : goal.follow-requires-clause-asked
follow-requires-clause-asked c =
    item_within c.args.asked.now c.args.items.now c.args.next.now.item c.index-items-next.result c.index-items-next.is c.requires.asked
    c.requires.item

pub returns-clause-left : goal.returns-clause-left
returns-clause-left c start told =
    let old = c.args.self.now in
    way_followed c.args.asked.now c.args.items.now old.at c.args.text.now start c.index-items-next.result c.args.next.now old.met
    c.follow.new.seen old.begun.marks.items old.left.items c.follow.new.left.items (reverse old.turns.items) c.requires.asked
    c.requires.item c.index-items-next.is (grind (arith, nat_tests)) c.in_ok-follow.ensures.value told
