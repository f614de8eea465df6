-- What a script in memory stands for.
use Rattle.ed_syntax.specs.Commands as ed
use Rattle.ed_syntax.specs.declared.script.Script.{Script}
use Rattle.ed_syntax.specs.PublicTypes.{steps_value}

-- a script
abbrev pub script_value : Script → ed.Script
script_value s = record { steps = steps_value s.commands.items; fault = s.fault }
