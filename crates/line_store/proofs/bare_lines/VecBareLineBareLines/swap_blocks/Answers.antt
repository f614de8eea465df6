-- The part was turned.
use Rattle.std.proofs.Common.{◌∙◌, ap, sym, length}
use Rattle.line_store.proofs.Swapped.{rotated}
use Rattle.line_store.proofs.bare_lines.VecBareLineBareLines.swap_blocks.Goals as goal

pub returns-clause-swapped : goal.returns-clause-swapped
returns-clause-swapped c =
    let now = c.args.self.now in
    rotated c.args.low c.args.middle c.args.high now.len c.deref_mut.result.now now.items c.rotate_left.new.self c.deref_mut.ensures.value
    c.requires.first c.requires.second c.requires.last (sym c.deref_mut.ensures.len ∙ ap length c.deref_mut.ensures.value) c.rotate_left.ensures.after
