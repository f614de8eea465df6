use Rattle.std.proofs.Common.{◌≡◌, drop, map}
use Rattle.std.specs.List.{list_any}
use Rattle.ed_syntax.specs.PublicTypes.{step_value}
use Rattle.ed_syntax.specs.meaning.Erasure.{step_names}
use Rattle.ed_syntax.proofs.script.Script.names.Given as goal

abbrev pub invariant-loop-command : goal.invariant-loop-command
invariant-loop-command l =
    list_any (step_names l.letter) (map step_value l.self.commands.items)
    ≡ list_any (step_names l.letter) (map step_value (drop l.command-index l.self.commands.items))
