-- A flagged line is one of the store's, and without its flag it has the text that it had.
use Rattle.std.proofs.Common.{◌<◌, ◌∙◌, [], length, false, refl, arith, sym, ap}
use Rattle.std.proofs.lemmas.List.Quantifiers.{position-Some}
use Rattle.ed_base.specs.Buffer.{flagged_at, plain_line}
use Rattle.ed_commands.proofs.Changes.{next-one}
use Rattle.ed_commands.proofs.Held.{held}
use Rattle.ed_commands.proofs.editor.Editor.next_global.Goals as goal

pub overflow_add-self : goal.overflow_add-self
overflow_add-self g c =
    let lines = g.S.LineStore.lines c.self.inside.store in
    let within : c.in-Some.place < length lines =
    (position-Some (λ line. line.flag) lines c.in-Some.place (plain_line []) (sym c.next_flagged.ensures.value ∙ c.in-Some.is)).0 in
    omega (arith, within, c.len-self-inside.ensures.value, c.len-self-inside.type_inv)

pub returns-clause-taken : goal.returns-clause-taken
returns-clause-taken g c =
    let e = c.self.inside in
    let lines = g.S.LineStore.lines e.store in
    let s = held lines e.current e.pattern e.replacement e.name e.changed e.past in
    next-one s c.args.self.now.state e.past c.in-Some.place c.next_flagged.result (g.S.LineStore.lines c.unflag.new.self)
    (ap (λ v. v.state) c.self.view_is) refl
    c.next_flagged.ensures.value c.in-Some.is
    (c.unflag.ensures.unflagged ∙ ap (flagged_at c.in-Some.place false) c.next_flagged.ensures.unchanged)
