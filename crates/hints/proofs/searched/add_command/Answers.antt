use Rattle.std.proofs.Common.{ap}
use Rattle.std.proofs.lemmas.Result.{on_ok_weaker}
use Rattle.ed_syntax.specs.PublicTypes.{command_value}
use Rattle.ed_syntax.specs.meaning.Verbs.{Takes, takes}
use Rattle.hints.proofs.SearchedFor.{given-command}
use Rattle.hints.proofs.searched.add_command.Goals as goal

pub returns : goal.returns
returns c =
    let own = command_value c.args.command.now in
    record {
      value = on_ok_weaker c.add_address-3.result
          (λ e. given-command own.addresses (takes own.verb).target _ _ _ c.args.patterns.now c.add_address.new.patterns c.add_address-2.new.patterns
          c.add_address-3.new.patterns c.pair.ensures.first c.pair.ensures.second (ap (λ (t : Takes). t.target) c.takes.ensures.value)
          c.in_ok-add_address.ensures.value c.in_ok-add_address-2.ensures.value e)
          c.add_address-3.ensures.value;
    }
