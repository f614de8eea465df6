use Rattle.ed_syntax.specs.PublicTypes.{addresses_value}
use Rattle.ed_syntax.proofs.meaning.ListedLemmas.{single_result}
use Rattle.ed_syntax.proofs.reading.step_after_addresses.Goals as goal

pub returns-in-None-clause-value : goal.returns-in-None-clause-value
returns-in-None-clause-value c =
    single_result (addresses_value c.args.addresses) c.args.bytes.now c.args.later.now.lines c.command_after_addresses.result c.command_after_addresses.new.later.lines c.in-None.ensures.value c.command_after_addresses.ensures.value
