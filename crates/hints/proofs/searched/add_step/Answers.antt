use Rattle.std.proofs.lemmas.Result.{on_ok_weaker}
use Rattle.ed_syntax.specs.PublicTypes.{command_value, step_value}
use Rattle.ed_rules.specs.Matched.{sought}
use Rattle.hints.proofs.SearchedFor.{given-step}
use Rattle.hints.proofs.searched.add_step.Goals as goal

pub returns : goal.returns
returns c = record {
  value = on_ok_weaker c.add_list.result
      (λ e. given-step sought c.add_command.new.patterns c.args.patterns.now c.add_list.new.patterns (command_value c.args.command.now)
      (step_value c.args.command.now).list _ c.in_ok-add_command.ensures.value c.list.ensures.value e)
      c.add_list.ensures.value;
}
