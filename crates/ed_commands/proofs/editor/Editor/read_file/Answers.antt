-- The file's lines come in.
use Rattle.std.proofs.Common.{◌≡◌, sym, subst}
use Rattle.ed_base.specs.Lines.{lines_of}
use Rattle.ed_syntax.specs.meaning.Effects.{entered}
use Rattle.ed_commands.specs.Editors.{left_by, span_value}
use Rattle.ed_commands.proofs.Filing.{read-in}
use Rattle.ed_commands.proofs.editor.Editor.read_file.Goals as goal

pub returns-clause-exact : goal.returns-clause-exact
returns-clause-exact g c =
    let named = c.name_first.new.self.state in
    let came = subst (λ bytes. c.enter.new.self.state ≡ left_by c.args.before named (entered c.args.span.first (lines_of bytes) named))
    c.in_ok-new.ensures.ok c.in_ok-enter.ensures.exact in
    read-in c.args.path.now c.args.answer c.in_ok-bytes.bytes (span_value c.args.span) c.args.before c.args.self.now.state named c.enter.new.self.state
    c.in_ok-name_first.ensures.exact (sym c.in_ok-bytes.ensures.exact) came
