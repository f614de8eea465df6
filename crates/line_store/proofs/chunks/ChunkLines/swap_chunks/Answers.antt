-- The lines of chunks that change places do so too.
use Rattle.std.proofs.Common.{◌≡◌, ◌≤◌, ◌∙◌, ap, sym, length, arith}
use Rattle.line_store.specs.Chunks.{joined, lines_before}
use Rattle.line_store.specs.Swaps.{swapped}
use Rattle.line_store.proofs.Swapped.{length-swapped, rotated}
use Rattle.line_store.proofs.SwappedChunks.{joined-swapped, length-joined-swapped}
use Rattle.line_store.proofs.Offsets.{known-counted}
use Rattle.line_store.proofs.chunks.ChunkLines.swap_chunks.Goals as goal

pub count-requires-clause-count : goal.count-requires-clause-count
count-requires-clause-count c =
    let chunks = c.self.inside.chunks.items in
    let within : c.args.high ≤ length chunks = omega (arith, c.requires.last, ap (λ v. length v.chunks) c.self.view_is) in
    let is = rotated c.args.low c.args.middle c.args.high c.self.inside.chunks.len c.deref_mut.result.now chunks c.rotate_left.new.self c.deref_mut.ensures.value
    c.requires.first c.requires.second within (sym c.deref_mut.ensures.len ∙ ap length c.deref_mut.ensures.value) c.rotate_left.ensures.after in
    omega (arith, ap (λ t. length (joined t)) is, length-joined-swapped c.args.low c.args.middle c.args.high chunks c.requires.first c.requires.second within, c.self.invariant.all)

pub invariant_of-self : goal.invariant_of-self
invariant_of-self c =
    let e = c.self.inside in
    let chunks = e.chunks.items in
    let within : c.args.high ≤ length chunks = omega (arith, c.requires.last, ap (λ v. length v.chunks) c.self.view_is) in
    let long : e.chunks.len ≡ length chunks = sym c.deref_mut.ensures.len ∙ ap length c.deref_mut.ensures.value in
    let is = rotated c.args.low c.args.middle c.args.high e.chunks.len c.deref_mut.result.now chunks c.rotate_left.new.self c.deref_mut.ensures.value
    c.requires.first c.requires.second within long c.rotate_left.ensures.after in
    let same = ap length is ∙ length-swapped c.args.low c.args.middle c.args.high chunks c.requires.first c.requires.second within in
    known-counted e.count c.count.new.self _
    (omega (arith, ap (λ t. length (joined t)) is, length-joined-swapped c.args.low c.args.middle c.args.high chunks c.requires.first c.requires.second within, c.self.invariant.all))
    (omega (arith, same, c.count.ensures.room, c.self.invariant.room))
    c.count.ensures.length c.count.ensures.starts

pub returns-clause-swapped : goal.returns-clause-swapped
returns-clause-swapped c =
    let chunks = c.self.inside.chunks.items in
    let within : c.args.high ≤ length chunks = omega (arith, c.requires.last, ap (λ v. length v.chunks) c.self.view_is) in
    let is = rotated c.args.low c.args.middle c.args.high c.self.inside.chunks.len c.deref_mut.result.now chunks c.rotate_left.new.self c.deref_mut.ensures.value
    c.requires.first c.requires.second within (sym c.deref_mut.ensures.len ∙ ap length c.deref_mut.ensures.value) c.rotate_left.ensures.after in
    ap joined is
    ∙ joined-swapped c.args.low c.args.middle c.args.high chunks c.requires.first c.requires.second within
    ∙ ap (λ v. swapped (lines_before c.args.low v.chunks) (lines_before c.args.middle v.chunks) (lines_before c.args.high v.chunks) (joined v.chunks)) c.self.view_is

pub returns-clause-length : goal.returns-clause-length
returns-clause-length c =
    let chunks = c.self.inside.chunks.items in
    let within : c.args.high ≤ length chunks = omega (arith, c.requires.last, ap (λ v. length v.chunks) c.self.view_is) in
    let is = rotated c.args.low c.args.middle c.args.high c.self.inside.chunks.len c.deref_mut.result.now chunks c.rotate_left.new.self c.deref_mut.ensures.value
    c.requires.first c.requires.second within (sym c.deref_mut.ensures.len ∙ ap length c.deref_mut.ensures.value) c.rotate_left.ensures.after in
    ap length is ∙ length-swapped c.args.low c.args.middle c.args.high chunks c.requires.first c.requires.second within ∙ ap (λ v. length v.chunks) c.self.view_is
