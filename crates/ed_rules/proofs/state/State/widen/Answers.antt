use Rattle.std.proofs.lemmas.Result.{IfOk-weaker}
use Rattle.ed_rules.specs.Order.{widen}
use Rattle.ed_rules.proofs.sound.Weaker.{StandsFor-widen, StandsFor-widen_other}
use Rattle.ed_rules.proofs.state.State.widen.Goals as goal

pub returns-clause-sound : goal.returns-clause-sound
unfolding widen
returns-clause-sound c =
    IfOk-weaker c.united.result _ _ (λ s is e st. rw is (rw c.widen.ensures.exact (StandsFor-widen c.args.self.now c.args.new.now e st))) c.united.ensures.value

pub returns-clause-sound_of_other : goal.returns-clause-sound_of_other
unfolding widen
returns-clause-sound_of_other c =
    IfOk-weaker c.united.result _ _ (λ s is e st. rw is (rw c.widen.ensures.exact (StandsFor-widen_other c.args.self.now c.args.new.now e st))) c.united.ensures.value

pub returns-clause-covers : goal.returns-clause-covers
unfolding widen
returns-clause-covers c =
    IfOk-weaker c.united.result _ _ (λ s is. rw is (rw c.widen.ensures.exact (c.joined_states_are_covered.ensures.widen c.args.self.now c.args.new.now))) c.united.ensures.value

pub returns-clause-covers_other : goal.returns-clause-covers_other
unfolding widen
returns-clause-covers_other c =
    IfOk-weaker c.united.result _ _ (λ s is. rw is (rw c.widen.ensures.exact (c.joined_states_are_covered.ensures.widen_other c.args.self.now c.args.new.now))) c.united.ensures.value
