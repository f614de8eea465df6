-- A line that is marked is one of the store's, so that its number fits.
use Rattle.std.proofs.Common.{◌<◌, [], length, arith, sym, ◌∙◌}
use Rattle.std.proofs.lemmas.List.Quantifiers.{position-Some}
use Rattle.ed_base.specs.Buffer.{plain_line, has_letter}
use Rattle.ed_commands.proofs.editor.Editor.base_line.Goals as goal

pub overflow_add-result : goal.overflow_add-result
overflow_add-result g c =
    let lines = g.S.LineStore.lines c.self.inside.store in
    let within : c.in-Some.place < length lines =
    (position-Some (has_letter c.in-Marked.letter) lines c.in-Some.place (plain_line []) (sym c.marked.ensures.value ∙ c.in-Some.is)).0 in
    omega (arith, c.len-last.ensures.value, c.len-last.type_inv)
