-- A global command that meets no fault changes no text, so that the buffer before it is told from the lines as they are then.
use Rattle.std.proofs.Common.{◌≡◌, ◌∙◌, None, ap, arith, sym, subst}
use Rattle.std.specs.Prelude.{IsOkAnd}
use Rattle.ed_base.specs.Buffer.{texts}
use Rattle.line_store.specs.Marks.{lettered}
use Rattle.ed_syntax.specs.PublicTypes.{command_value}
use Rattle.ed_syntax.specs.meaning.Applied.{command}
use Rattle.ed_syntax.specs.meaning.Globals.{flags}
use Rattle.ed_syntax.specs.meaning.States.{last}
use Rattle.ed_commands.specs.Earlier.{earlier_in, kept_of, opening_global, with_earlier}
use Rattle.ed_commands.specs.Editors.{BeginsBy}
use Rattle.ed_commands.proofs.Globals.{begun, unasking}
use Rattle.ed_commands.proofs.Held.{held}
use Rattle.ed_commands.proofs.editor.Editor.open_global.Goals as goal

pub carry_out-requires : goal.carry_out-requires
carry_out-requires g c = record { answered = λ asked. absurd (unasking (command_value c.args.command.now).verb c.requires.global asked) }

pub returns-clause-exact : goal.returns-clause-exact
returns-clause-exact g c =
    let s = c.args.self.now.state in
    let mid = c.carry_out.new.self.state in
    let given = command_value c.args.command.now in
    let current = c.self.inside.current in
    let marks = c.of-marks.result in
    let e = c.self-2.inside in
    let lines = g.S.LineStore.lines e.store in
    let t = held lines e.current e.pattern e.replacement e.name e.changed e.past in
    let is : t ≡ mid = ap (λ v. v.state) c.self-2.view_is in
    subst (λ n. IsOkAnd (command s given None) (BeginsBy s n (record { lines = c.flag_count.result; output = c.in_ok-output.output })))
    (sym (ap (λ e. with_earlier e t) (c.open.ensures.opened (texts lines)) ∙ ap (λ u. with_earlier (opening_global (kept_of current marks (texts u.lines)) (earlier_in u)) u) is))
    (begun s mid given c.in_ok-output.output current marks c.flag_count.result c.requires.global c.in_ok-output.ensures.exact
    (ap (λ v. v.state.current) c.self.view_is) (omega (arith, c.self.invariant, ap (λ v. v.state.current) c.self.view_is, ap (λ v. last v.state) c.self.view_is))
    (subst (λ lines. lettered marks 0 lines ≡ lines) (ap (λ v. v.state.lines) c.self.view_is) c.of-marks.ensures.own) (c.flag_count.ensures.value ∙ ap flags is))
