use Rattle.std.proofs.Common.{None, Some, ap, arith}
use Rattle.std.specs.Global.{Box}
use Rattle.ed_syntax.specs.PublicTypes.{command_value}
use Rattle.ed_rules.specs.declared.state.State.{State}
use Rattle.ed_rules.specs.Rules.{fault_of}
use Rattle.analyser.proofs.Rounding.{needs-of, passing-next, passing-stops, passing-over}
use Rattle.analyser.proofs.rounds.go_round.Goals as goal

pub loop-command-preserved : goal.loop-command-preserved
loop-command-preserved c =
    let left-so = rw (c.watch.ensures.value, c.deref-in-loop-command.ensures) at (rw c.in-None.is at c.in_ok-outcome_into.ensures.exact) in
    let none = needs-of c.needs_are_the_same_whatever_is_watched.ensures.needs c.args.sight.now (command_value c.command-item.result) c.loop-command.coming.value None (ap fault_of left-so) in
    passing-next c.args.sight.now c.args.list.now c.args.coming.now.value c.loop-command.command-index c.command-item.result c.loop-command.inner.items c.push.new.self.items c.loop-command.coming.value c.outcome_into.new.after
    c.tell.new.state c.swap.new.x.value
    (omega arith) c.command-item.is (rw (c.in_ok-try_keep.ensures.value, c.deref.ensures) at c.in_ok-push.ensures.items) none left-so (rw c.deref_mut-in-None.ensures.value at c.tell.ensures.value) (ap (λ (b : Box State). b.value) c.swap.ensures.x_after) c.loop-command.invariant

pub returns-in-Some : goal.returns-in-Some
returns-in-Some c =
    let fails = rw (c.watch.ensures.value, c.deref-in-loop-command.ensures) at (rw c.in-Some.is at c.in_ok-outcome_into.ensures.exact) in
    let some = needs-of c.needs_are_the_same_whatever_is_watched.ensures.needs c.args.sight.now (command_value c.command-item.result) c.loop-command.coming.value (Some c.in-Some.why) (ap fault_of fails) in
    record {
      value =
          passing-stops c.args.sight.now c.args.list.now c.args.coming.now.value c.loop-command.command-index c.command-item.result c.loop-command.inner.items c.push.new.self.items c.loop-command.coming.value c.in-Some.why
          (omega arith) c.command-item.is (rw (c.in_ok-try_keep.ensures.value, c.deref.ensures) at c.in_ok-push.ensures.items) some c.loop-command.invariant;
    }

pub returns : goal.returns
returns c = record {
  value = passing-over c.args.sight.now c.args.list.now c.args.coming.now.value c.loop-command.command-index c.loop-command.inner.items c.loop-command.coming.value (omega arith) c.loop-command.invariant;
}
