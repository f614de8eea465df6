use Rattle.std.proofs.Common.{None, Some, ap, sym, ◌∙◌}
use Rattle.ed_syntax.specs.PublicTypes.{command_value, step_value}
use Rattle.ed_syntax.specs.meaning.Verbs.{Takes}
use Rattle.ed_rules.specs.Rules.{fault_of}
use Rattle.analyser.proofs.Rounding.{needs-of, left-told, plain-leaves}
use Rattle.analyser.proofs.walk.take.Goals as goal

pub take_global-requires : goal.take_global-requires
take_global-requires c =
    let left-so = rw c.watch.ensures.value at (rw c.in-None.is at c.in_ok-outcome_into.ensures.exact) in
    record {
      global = sym (ap (λ (t : Takes). t.global) c.takes.ensures.value) ∙ c.if-takes.true;
      needed = needs-of c.needs_are_the_same_whatever_is_watched.ensures.needs c.args.sight.now (command_value c.args.command.now) c.args.state.now None (ap fault_of left-so);
      start = left-told c.args.sight.now (step_value c.args.command.now) c.args.state.now c.tell.new.state c.outcome_into.new.after left-so c.tell.ensures.value;
    }

pub returns-else-takes : goal.returns-else-takes
returns-else-takes c =
    let left-so = rw c.watch.ensures.value at (rw c.in-None.is at c.in_ok-outcome_into.ensures.exact) in
    record {
      value =
          plain-leaves c.args.sight.now (step_value c.args.command.now) c.args.state.now c.tell.new.state c.outcome_into.new.after
          (sym (ap (λ (t : Takes). t.global) c.takes.ensures.value) ∙ c.if-takes.false)
          (needs-of c.needs_are_the_same_whatever_is_watched.ensures.needs c.args.sight.now (command_value c.args.command.now) c.args.state.now None (ap fault_of left-so)) left-so c.tell.ensures.value;
    }

pub returns-in-Some : goal.returns-in-Some
returns-in-Some c =
    let fails = rw c.watch.ensures.value at (rw c.in-Some.is at c.in_ok-outcome_into.ensures.exact) in
    record { value = needs-of c.needs_are_the_same_whatever_is_watched.ensures.needs c.args.sight.now (command_value c.args.command.now) c.args.state.now (Some c.in-Some.why) (ap fault_of fails) }
