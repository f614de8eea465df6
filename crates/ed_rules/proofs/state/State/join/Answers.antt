use Rattle.std.proofs.lemmas.Result.{IfOk-weaker}
use Rattle.ed_rules.specs.Order.{join}
use Rattle.ed_rules.proofs.sound.Weaker.{StandsFor-join, StandsFor-join_other}
use Rattle.ed_rules.proofs.state.State.join.Goals as goal

pub returns-clause-sound : goal.returns-clause-sound
unfolding join
returns-clause-sound c =
    IfOk-weaker c.united.result _ _ (λ s is e st. rw is (rw c.join.ensures.exact (StandsFor-join c.args.self.now c.args.other.now e st))) c.united.ensures.value

pub returns-clause-sound_of_other : goal.returns-clause-sound_of_other
unfolding join
returns-clause-sound_of_other c =
    IfOk-weaker c.united.result _ _ (λ s is e st. rw is (rw c.join.ensures.exact (StandsFor-join_other c.args.self.now c.args.other.now e st))) c.united.ensures.value

pub returns-clause-covers : goal.returns-clause-covers
unfolding join
returns-clause-covers c =
    IfOk-weaker c.united.result _ _ (λ s is. rw is (rw c.join.ensures.exact (c.joined_states_are_covered.ensures.join c.args.self.now c.args.other.now))) c.united.ensures.value

pub returns-clause-covers_other : goal.returns-clause-covers_other
unfolding join
returns-clause-covers_other c =
    IfOk-weaker c.united.result _ _ (λ s is. rw is (rw c.join.ensures.exact (c.joined_states_are_covered.ensures.join_other c.args.self.now c.args.other.now))) c.united.ensures.value
