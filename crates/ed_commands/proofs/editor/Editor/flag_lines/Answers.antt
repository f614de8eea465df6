-- The pattern is remembered, and the lines of the span have the flag or not.
use Rattle.std.proofs.Common.{◌≡◌, ◌∙◌, Some, refl, sym, ap}
use Rattle.std.specs.Prelude.{Ok}
use Rattle.ed_commands.specs.Editors.{span_value}
use Rattle.ed_commands.proofs.Globals.{flagged-by}
use Rattle.ed_commands.proofs.Held.{held}
use Rattle.ed_commands.proofs.Searching.{leaves}
use Rattle.ed_commands.proofs.editor.Editor.flag_lines.Goals as goal

pub returns-clause-exact : goal.returns-clause-exact
returns-clause-exact g c =
    let e = c.self.inside in
    let s = c.args.self.now.state in
    let own = c.args.pattern.now in
    let now = held (g.S.LineStore.lines e.store) e.current e.pattern e.replacement e.name e.changed e.past in
    let is : now ≡ c.remember.new.self.state = ap (λ v. v.state) c.self.view_is in
    let left = leaves s c.remember.new.self.state own (ap (λ v. v.state) c.in_ok-remember.ensures.others) c.in_ok-remember.ensures.remembered in
    let after = g.S.LineStore.lines c.flag_block.new.store in
    flagged-by s now c.args.sense own c.in-Some.pattern (span_value c.args.span) e.past after
    c.requires.order (is ∙ left) c.in-Some.is refl c.in_ok-flag_block.ensures.flagged
    ∙ ap (λ p. Ok (held after e.current p e.replacement e.name e.changed e.past)) (c.in-Some.is ∙ ap (λ t. Some t) (sym c.in_ok-flag_block.ensures.kept))
