use Rattle.cert_check.specs.Certificates.{note_value}
use Rattle.cert_check.proofs.texts.Written.{note-written}
use Rattle.cert_check.proofs.text.writing.push_note.Goals as goal

pub returns : goal.returns
returns g c =
    let written = g.W.TextWriter.written in
    record {
      appended =
          note-written c.args.version (written c.args.out.now) (written c.push_headed.new.out) (written c.push_looped.new.out) (note_value c.args.note.now) c.push_headed.ensures.appended c.push_looped.ensures.appended;
    }
