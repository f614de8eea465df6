use Rattle.std.proofs.Common.{◌≡◌, sym, ap, ◌∙◌, length, map, Some, true}
use Rattle.std.proofs.lemmas.List.{map_push}
use Rattle.ed_syntax.specs.reading.ReadCommands.{command_at}
use Rattle.ed_syntax.specs.reading.ReadGlobals.{commands}
use Rattle.ed_syntax.specs.reading.ReadParts.{command_before}
use Rattle.ed_syntax.specs.PublicTypes.{command_value}
use Rattle.ed_syntax.proofs.reader.ListSteps.{before_commands, before_commands-next}
use Rattle.ed_syntax.proofs.globals.all_commands.Goals as goal

pub commands-preserved : goal.commands-preserved
commands-preserved c =
    let line = c.in-Some.line.now in
    let before = c.commands.commands.items in
    let command = c.in-Some-2.command in
    let lines = c.commands.lines.lines in
    let later = c.next.new.self.lines in
    let rest = c.command_at.new.later.lines in
    let is : command_at true line later ≡ Some (command_value command, rest) = sym c.in_ok-command.ensures.value ∙ ap (λ o. command_before o rest) c.in-Some-2.is in
    ap (λ items. before_commands (map command_value items) (commands (length rest) rest)) c.in_ok-push-in-Some-2.ensures.items
    ∙ ap (λ cs. before_commands cs (commands (length rest) rest)) (map_push command_value before command)
    ∙ before_commands-next (map command_value before) line later lines rest (command_value command) c.in-Some.ensures.lines is
    ∙ c.commands.invariant
