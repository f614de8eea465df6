use Rattle.std.proofs.Common.{◌∙◌, ◌++◌, List, ap}
use Rattle.std.specs.Prelude.{codes}
use Rattle.std.specs.List.{flat_map}
use Rattle.ed_rules.specs.declared.state.State.{State}
use Rattle.cert_check.specs.Certificates.{looped_value}
use Rattle.cert_check.specs.text.Text.{lines_text, headed_lines}
use Rattle.cert_check.proofs.texts.Written.{looped-written}
use Rattle.cert_check.proofs.text.writing.push_list.Goals as goal

pub returns : goal.returns
returns g c =
    let written = g.W.TextWriter.written in
    record {
      appended =
          looped-written c.args.version (written c.args.out.now) (written c.push_headed.new.out) (written c.push_inner.new.out) (written c.extend.new.self) (looped_value c.args.looped.now)
          c.push_headed.ensures.appended
          (c.push_inner.ensures.appended
          ∙ ap (λ (l : List State). written c.push_headed.new.out ++ lines_text (flat_map (headed_lines c.args.version (codes "inner")) l)) c.as_slice.ensures.value)
          c.extend.ensures.appended;
    }
