use Rattle.cert_check.proofs.texts.ReadSets.{texts-read}
use Rattle.cert_check.proofs.text.lines.set_in.Goals as goal

pub returns : goal.returns
returns c =
    let read = rw c.in-Some.is at c.in_ok-texts.ensures.exact in
    record {
      exact =
          texts-read c.args.key.now c.args.line.now c.in-Some.texts.items c.from_rising.result read.0 read.1 c.from_rising.ensures.value c.from_rising.ensures.rising
          c.from_rising.ensures.refused;
    }
