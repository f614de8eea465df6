-- The chunk has as many lines as before.
use Rattle.std.proofs.Common.{◌≡◌, ◌<◌, ◌∙◌, [], ap, length, length-set, get_or, arith}
use Rattle.std.proofs.lemmas.List.{get_or_default}
use Rattle.ed_base.specs.Buffer.{plain_line, with_flag, flagged_at}
use Rattle.line_store.proofs.Offsets.{known-exchanged}
use Rattle.line_store.proofs.chunks.ChunkLines.flag_in.Goals as goal

pub invariant_of-self : goal.invariant_of-self
invariant_of-self c =
    let e = c.self.inside in
    let chunks = e.chunks.items in
    let k = c.args.k in
    let place = c.args.place in
    let within : k < length chunks = omega (arith, c.requires.chunk, ap (λ v. length v.chunks) c.self.view_is) in
    let chunk : c.index_mut.result.now ≡ get_or chunks k [] = c.index_mut.ensures.value ∙ get_or_default chunks k c.index_mut.result.now [] within in
    let is = c.set_flag.ensures.flagged ∙ ap (flagged_at place c.args.flag) chunk in
    known-exchanged k e.count e.starts chunks c.set_flag.new.self c.self.invariant within
    (ap length is ∙ length-set (get_or chunks k []) place (with_flag c.args.flag (get_or (get_or chunks k []) place (plain_line []))))
