use Rattle.std.proofs.Common.{None, Some, ◌∙◌, sym, ap}
use Rattle.ed_syntax.specs.PublicTypes.{command_value}
use Rattle.cert_check.proofs.verdicts.Checks.{comes-left}
use Rattle.cert_check.proofs.checker.passing.leave.Goals as goal

pub returns-in-None : goal.returns-in-None
returns-in-None c = record {
  value = comes-left c.needs_are_the_same_whatever_is_watched.ensures.needs c.args.sight.now (command_value c.args.command.now) c.args.known.now c.outcome_into.new.after None
      (rw c.watch.ensures.value at (rw c.in-None.is at c.in_ok-outcome_into.ensures.exact))
      ∙ ap Some (sym c.tell.ensures.value);
}

pub returns-in-Some : goal.returns-in-Some
returns-in-Some c = record {
  value = comes-left c.needs_are_the_same_whatever_is_watched.ensures.needs c.args.sight.now (command_value c.args.command.now) c.args.known.now c.outcome_into.new.after (Some c.in-Some.field-0)
      (rw c.watch.ensures.value at (rw c.in-Some.is at c.in_ok-outcome_into.ensures.exact));
}
