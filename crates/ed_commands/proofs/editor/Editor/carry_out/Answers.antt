-- A command whose lines can't be named is refused, one whose effect meets a fault fails by it, and another replies what its effect
-- and its suffix tell. An answer that isn't asked for may stand for none.
use Rattle.std.proofs.Common.{◌∙◌, Some, ap, arith, refl, subst, sym}
use Rattle.std.specs.Prelude.{IsOkAnd}
use Rattle.std.proofs.lemmas.Result.{err_from_is_err_and}
use Rattle.ed_syntax.specs.PublicTypes.{command_value}
use Rattle.ed_syntax.specs.meaning.Applied.{effect_of}
use Rattle.ed_syntax.specs.meaning.States.{last}
use Rattle.ed_commands.specs.Editors.{Leaves, placed_value}
use Rattle.ed_commands.specs.declared.editor.past.Before.{Before}
use Rattle.ed_commands.proofs.Commanding.{any-answer, refused, failed, done}
use Rattle.ed_commands.proofs.editor.Editor.carry_out.Goals as goal

pub returns-in_err-named-clause-exact : goal.returns-in_err-named-clause-exact
returns-in_err-named-clause-exact g c =
    let p = err_from_is_err_and c.from_residual.result c.from_residual.ensures.1 in
    rw (p.1, p.2) (λ other. refused c.args.self.now.state (command_value c.args.command.now) c.args.answer _ (c.in_err-named.ensures.exact other))

pub returns-in_err-output-clause-exact : goal.returns-in_err-output-clause-exact
returns-in_err-output-clause-exact g c =
    let given = command_value c.args.command.now in
    let at = placed_value c.addressed.new.self.state c.in_ok-named.named in
    let same = ap (λ a. effect_of given.verb given.listed at.span at.target at.state (Some a)) c.unwrap_or-given.ensures
    ∙ any-answer given.verb given.listed at.span at.target at.state c.args.answer c.requires.answered in
    let p = err_from_is_err_and c.from_residual-in_err-output.result c.from_residual-in_err-output.ensures.1 in
    rw (p.1, p.2) (λ other. failed c.args.self.now.state given at c.args.answer _ c.in_ok-named.ensures.exact (sym same ∙ c.in_err-output.ensures.exact other))

pub returns-clause-exact : goal.returns-clause-exact
returns-clause-exact g c =
    let given = command_value c.args.command.now in
    let at = placed_value c.addressed.new.self.state c.in_ok-named.named in
    let before : Before = record { current = c.self.inside.current; listed = given.listed } in
    let same = ap (λ a. effect_of given.verb given.listed at.span at.target at.state (Some a)) c.unwrap_or-given.ensures
    ∙ any-answer given.verb given.listed at.span at.target at.state c.args.answer c.requires.answered in
    rw (ap (λ v. v.state) c.write_suffix.ensures.unchanged)
    (done c.args.self.now.state c.effect.new.self.state given at before c.args.answer c.in_ok-output.output c.write_suffix.result
    c.in_ok-named.ensures.lines (ap (λ v. v.state.current) c.self.view_is)
    (omega (arith, c.self.invariant, ap (λ v. v.state.current) c.self.view_is, ap (λ v. last v.state) c.self.view_is)) refl
    c.in_ok-named.ensures.exact
    (subst (λ e. IsOkAnd e (Leaves before at.state c.effect.new.self.state c.in_ok-output.output)) same c.in_ok-output.ensures.exact) c.write_suffix.ensures.exact)
