-- A line was made: it is current, and the flag writes it. Or none was, and in a list all is as before.
use Rattle.std.proofs.Common.{◌≡◌, ◌∙◌, None, Some, true, ap, subst, sym}
use Rattle.std.specs.Prelude.{IfNone, Ok}
use Rattle.ed_base.specs.Buffer.{texts}
use Rattle.ed_syntax.specs.PublicTypes.{suffix_value}
use Rattle.ed_commands.specs.Earlier.{earlier_of, kept_lines}
use Rattle.ed_commands.specs.Editors.{span_value}
use Rattle.ed_commands.specs.Rewriting.{earlier_of_rewritten}
use Rattle.ed_commands.proofs.Held.{held}
use Rattle.ed_commands.proofs.Substituting.{substituted, rewritten-state, unsubstituted, unwritten-state}
use Rattle.ed_commands.proofs.editor.Editor.substitute.Goals as goal

pub returns-clause-exact : goal.returns-clause-exact
returns-clause-exact g c =
    let e = c.self.inside in
    let before = c.args.before in
    let lines = g.S.LineStore.lines e.store in
    let mid = held lines e.current e.pattern e.replacement e.name e.changed e.past in
    let is : mid ≡ c.remember_both.new.self.state = ap (λ v. v.state) c.self.view_is in
    let after = g.S.LineStore.lines c.rewrite_lines.new.store in
    let past = c.rewrite_lines.new.past in
    let line = c.in-Some-made.line in
    let made = c.in_ok-made.ensures in
    let same : Some c.rewrite_lines.new.pattern ≡ e.pattern = ap (λ t. Some t) made.remembered ∙ sym c.in-Some-pattern.is in
    substituted c.args.pattern.now c.args.replacement.now c.args.which.now (suffix_value c.args.flag) (span_value c.args.span) before c.args.self.now.state mid
    _ c.in-Some-pattern.pattern c.in-Some.replacement line c.in_ok-flag_written.field-0
    (c.in_ok-remember_both.ensures.remembered ∙ ap (λ s. Ok s) (sym is)) c.in-Some-pattern.is c.in-Some.is
    (sym c.in-Some-made.is ∙ made.made)
    (ap (λ p. held after line p e.replacement e.name true past) same ∙ rewritten-state mid before (earlier_of past (texts after)) after _ line made.put
    (made.kept ∙ ap (λ m. earlier_of_rewritten m before.listed (kept_lines before.current lines) (earlier_of e.past (texts lines))) c.in-Some-made.is))
    c.in_ok-flag_written.ensures.value

pub returns-then-before-clause-exact : goal.returns-then-before-clause-exact
returns-then-before-clause-exact g c =
    let e = c.self.inside in
    let before = c.args.before in
    let lines = g.S.LineStore.lines e.store in
    let mid = held lines e.current e.pattern e.replacement e.name e.changed e.past in
    let is : mid ≡ c.remember_both.new.self.state = ap (λ v. v.state) c.self.view_is in
    let after = g.S.LineStore.lines c.rewrite_lines.new.store in
    let past = c.rewrite_lines.new.past in
    let none : c.in_ok-made.made ≡ None = cc in
    let made = c.in_ok-made.ensures in
    let same : Some c.rewrite_lines.new.pattern ≡ e.pattern = ap (λ t. Some t) made.remembered ∙ sym c.in-Some-pattern.is in
    unsubstituted c.args.pattern.now c.args.replacement.now c.args.which.now (suffix_value c.args.flag) (span_value c.args.span) before c.args.self.now.state mid
    _ c.in-Some-pattern.pattern c.in-Some.replacement c.new.result
    (c.in_ok-remember_both.ensures.remembered ∙ ap (λ s. Ok s) (sym is)) c.in-Some-pattern.is c.in-Some.is c.if-before.true
    (sym none ∙ made.made)
    (ap (λ p. held after e.current p e.replacement e.name e.changed past) same
    ∙ unwritten-state mid (earlier_of past (texts after)) after (subst (λ m. IfNone m (after ≡ lines)) none made.untouched)
    (made.kept ∙ ap (λ m. earlier_of_rewritten m before.listed (kept_lines before.current lines) (earlier_of e.past (texts lines))) none))
    c.new.ensures.value
