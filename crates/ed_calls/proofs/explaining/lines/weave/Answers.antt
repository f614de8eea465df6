use Rattle.std.proofs.Common.{arith}
use Rattle.ed_calls.proofs.ExplainedLines.{woven-on, woven-end}
use Rattle.ed_calls.proofs.explaining.lines.weave.Goals as goal

pub loop-command-preserved : goal.loop-command-preserved
loop-command-preserved c =
    woven-on c.args.commands.now c.args.commands.now c.loop-command.command-index c.command-item.result c.line_at-line.result c.loop-command.text
    c.push_line.new.text c.as_bytes.result.now (omega arith) c.command-item.is c.in_ok-push_line.ensures.added c.loop-command.invariant

pub returns : goal.returns
returns c =
    record { woven = woven-end c.args.commands.now c.args.commands.now c.loop-command.command-index c.loop-command.text (omega arith) c.loop-command.invariant }
