use Rattle.std.specs.Prelude.{codes}
use Rattle.std.proofs.Common.{arith}
use Rattle.cert_check.specs.text.Text.{headed_lines}
use Rattle.cert_check.proofs.texts.Written.{one-more}
use Rattle.cert_check.proofs.text.writing.push_inner.Goals as goal

pub loop-state-preserved : goal.loop-state-preserved
loop-state-preserved g c =
    let written = g.W.TextWriter.written in
    one-more (headed_lines c.args.version (codes "inner")) c.args.states.now c.loop-state.state-index c.state-item.result (written c.args.out.now) (written c.loop-state.out) (written c.push_headed.new.out)
    (omega arith) c.state-item.is c.loop-state.invariant c.push_headed.ensures.appended
