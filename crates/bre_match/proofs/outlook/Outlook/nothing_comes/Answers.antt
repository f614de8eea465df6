use Rattle.std.proofs.Common.{[], ◌∷◌, ◌++◌, map, reverse, refl, ap, sym, ◌∙◌, subst, arith}
use Rattle.bre_match.specs.declared.left.Left.TheVariants as stack
use Rattle.bre_match.specs.Outlooks.{LeftTells}
use Rattle.bre_match.specs.Runs.{at_item, tasks, ways_of}
use Rattle.bre_match.proofs.Hopeless.{first_tells, nothing_left, no_match, seen_come_to_nothing}
use Rattle.bre_match.proofs.Tasks.{tasks_push, taken_out}
use Rattle.bre_match.proofs.Turning.{reverse_popped}
use Rattle.bre_match.proofs.outlook.Outlook.nothing_comes.Goals as goal
use Rattle.bre_match.proofs.outlook.Outlook.nothing_comes.Goals.{in-Some+else-next-items+in_ok-take_way, in_default+in-Some-pop+in_ok-take_turn+else-not-branch}

pub loop-passed-init : goal.loop-passed-init
loop-passed-init c =
    let old = c.args.self.now in
    record {
      same = refl;
      tells = first_tells c.args.items.now old.at c.args.text.now c.args.start old.met.marks.items old.begun.marks.items
          (tasks c.push.new.self.items) (reverse c.clear-2.new.self.items)
          (ap tasks c.in_ok-push.ensures.items ∙ tasks_push c.clear.new.self.items (stack.Run _)
          ∙ ap (λ l. map (at_item 0) (ways_of c.of-run.result) ++ tasks l) c.clear.ensures.items
          ∙ ap (λ ways. map (at_item 0) ways ++ []) c.of-run.ensures.value)
          c.requires.seen;
    }

pub returns-in_default-pop-clause-sound : goal.returns-in_default-pop-clause-sound
returns-in_default-pop-clause-sound c hopeless =
    let self = c.loop-passed.self in
    no_match c.args.items.now self.at c.args.text.now c.args.start self.met.marks.items self.begun.marks.items
    (nothing_left c.args.items.now self.at c.args.text.now c.args.start self.met.marks.items self.begun.marks.items self.left.items
    self.turns.items (c.in_ok-next.ensures.none c.in_default.is)
    (let none = c.in_default-pop.ensures.cases in let ok = self.turns.ok in omega arith) c.loop-passed.invariant.tells)

pub returns-in_default-pop-clause-seen : goal.returns-in_default-pop-clause-seen
returns-in_default-pop-clause-seen c hopeless steps =
    let self = c.loop-passed.self in
    seen_come_to_nothing c.args.items.now self.at c.args.text.now c.args.start self.met.marks.items self.begun.marks.items
    (nothing_left c.args.items.now self.at c.args.text.now c.args.start self.met.marks.items self.begun.marks.items self.left.items
    self.turns.items (c.in_ok-next.ensures.none c.in_default.is)
    (let none = c.in_default-pop.ensures.cases in let ok = self.turns.ok in omega arith) c.loop-passed.invariant.tells)
    steps

pub loop-passed-preserved : goal.loop-passed-preserved
loop-passed-preserved c = elim c.match-branch-3.branch [
  | in-Some+else-next-items+in_ok-take_way w ↦ record {
    same = ap (λ o. o.at) w.self-is ∙ w.take_way.ensures.same ∙ c.loop-passed.invariant.same;
    tells =
        subst (λ o. LeftTells c.args.items.now c.args.text.now c.args.start o (tasks o.left.items) (reverse o.turns.items))
        (sym w.self-is)
        (w.in_ok-take_way.ensures.left c.args.start
        (subst (λ l. LeftTells c.args.items.now c.args.text.now c.args.start c.loop-passed.self l
        (reverse c.loop-passed.self.turns.items))
        (taken_out _ w.in-Some.next c.loop-passed.self.left.items c.next_ahead.new.left.items c.in_ok-next.ensures.next w.in-Some.is) c.loop-passed.invariant.tells));
  }
  | in_default+in-Some-pop+in_ok-take_turn+else-not-branch w ↦ record {
    same = ap (λ o. o.at) w.self-is ∙ w.take_turn.ensures.same ∙ c.loop-passed.invariant.same;
    tells =
        subst (λ o. LeftTells c.args.items.now c.args.text.now c.args.start o (tasks o.left.items) (reverse o.turns.items))
        (sym w.self-is)
        (w.in_ok-take_turn.ensures.left w.if-not-branch.false c.args.start
        (subst (λ l. LeftTells c.args.items.now c.args.text.now c.args.start c.loop-passed.self l
        (w.in-Some-pop.turn ∷ reverse w.pop.new.self.items))
        (c.in_ok-next.ensures.none w.in_default.is ∙ sym (ap tasks (c.in_ok-next.ensures.empty w.in_default.is)))
        (subst (LeftTells c.args.items.now c.args.text.now c.args.start c.loop-passed.self (tasks c.loop-passed.self.left.items))
        (reverse_popped c.loop-passed.self.turns.items w.pop.new.self.items _ w.in-Some-pop.ensures.items)
        c.loop-passed.invariant.tells)));
  }
]
