use Rattle.cert_check.proofs.texts.Written.{replacements-written}
use Rattle.cert_check.proofs.text.writing.push_replacements_line.Goals as goal

pub returns : goal.returns
returns g c =
    let written = g.W.TextWriter.written in
    record {
      appended =
          replacements-written (written c.args.out.now) (written c.extend.new.self) (written c.push_possible.new.out) (written c.push_possible-2.new.out) (written c.push_possible-3.new.out) (written c.push.new.self) c.args.replacements
          c.extend.ensures.appended c.push_possible.ensures.appended c.push_possible-2.ensures.appended
          c.push_possible-3.ensures.appended c.push.ensures.appended;
    }
