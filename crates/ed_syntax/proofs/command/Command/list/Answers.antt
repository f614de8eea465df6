use Rattle.std.proofs.Common.{sym, ap, ◌∙◌, map}
use Rattle.ed_syntax.specs.PublicTypes.{command_value, list_value}
use Rattle.ed_syntax.proofs.meaning.ListedLemmas.{list_value_of_global}
use Rattle.ed_syntax.proofs.command.Command.list.Goals as goal

-- src/command.rt:145:5
pub returns-in-Global : goal.returns-in-Global
returns-in-Global c =
    record {
      value =
          ap (map command_value) c.as_slice.ensures.value
          ∙ list_value_of_global c.in-Global.sense c.in-Global.pattern c.in-Global.list
          ∙ sym (ap list_value c.in-Global.is);
    }
