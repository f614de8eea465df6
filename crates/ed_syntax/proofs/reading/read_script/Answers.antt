use Rattle.std.proofs.Common.{◌≡◌, ◌+◌, length, Some, map, sym, ap, ◌∙◌, arith}
use Rattle.std.proofs.lemmas.List.{map_push}
use Rattle.ed_syntax.specs.reading.Reading.{script, step_at}
use Rattle.ed_syntax.specs.PublicTypes.{step_value}
use Rattle.ed_syntax.specs.reading.ReadParts.{step_before}
use Rattle.ed_syntax.proofs.reader.LawLemmas.{first-stand}
use Rattle.ed_syntax.proofs.reader.ScriptLemmas.{all_before, all_before-next}
use Rattle.ed_syntax.proofs.reading.read_script.Goals as goal

pub commands-preserved : goal.commands-preserved
commands-preserved c =
    let line = c.in-Some.line.now in
    let before = c.commands.commands.items in
    let command = c.in-Some-2.command in
    let lines = c.commands.lines.lines in
    let later = c.next.new.self.lines in
    let rest = c.read_step.new.later.lines in
    let next = c.read_step.new.later.number in
    let is : step_at line later ≡ Some (step_value command, rest) = sym c.in_ok-command.ensures.value ∙ ap (λ o. step_before o rest) c.in-Some-2.is in
    let all : next + 1 + length rest ≡ c.commands.lines.number + 1 + length lines = omega (arith, c.read_step.ensures.number, c.in-Some.ensures.number, ap length c.in-Some.ensures.lines) in
    ap (λ items. all_before (map step_value items) (script (length rest) (next + 1) rest)) c.in_ok-push-in-Some-2.ensures.items
    ∙ ap (λ cs. all_before cs (script (length rest) (next + 1) rest)) (map_push step_value before command)
    ∙ all_before-next (map step_value before) line later lines rest (step_value command) (c.commands.lines.number + 1) (next + 1) c.in-Some.ensures.lines is all
    ∙ c.commands.invariant

pub invariant_of-result : goal.invariant_of-result
invariant_of-result c =
    let lines = c.commands.lines in
    record { stand = first-stand c.args.bytes.now (map step_value c.commands.commands.items) (script (length lines.lines) (lines.number + 1) lines.lines) c.commands.invariant }

pub invariant_of-result-2 : goal.invariant_of-result-2
invariant_of-result-2 c =
    let lines = c.commands.lines in
    record { stand = first-stand c.args.bytes.now (map step_value c.commands.commands.items) (script (length lines.lines) (lines.number + 1) lines.lines) c.commands.invariant }
