-- A chunk begins at each of the places, so that the chunks between them have the lines between them.
use Rattle.std.proofs.Common.{◌≡◌, ◌∙◌, refl, ap, length, arith}
use Rattle.ed_base.specs.Buffer.{texts}
use Rattle.ed_base.specs.Parts.{block}
use Rattle.line_store.specs.Chunks.{joined}
use Rattle.line_store.specs.Kept.{flag_count}
use Rattle.line_store.proofs.Taken.{block-there, exchanged-there, flags-block, length-there, length-replaced}
use Rattle.line_store.proofs.chunks.ChunkLines.exchange_range.Goals as goal

pub swap_in-requires-clause-count : goal.swap_in-requires-clause-count
swap_in-requires-clause-count c =
    let mid = c.cut-2.new.self.chunks in
    let lines = joined c.args.self.now.chunks in
    let new = c.args.new.now.items in
    let s = c.in-Some-chunks_from.ensures in
    let same : joined mid ≡ lines = c.cut-2.ensures.unchanged ∙ c.cut.ensures.unchanged in
    let there =
    exchanged-there c.in-Some-chunks_from.low c.in-Some-chunks_from.high c.args.from c.args.to new mid lines s.low s.high same in
    omega (
      arith,
      ap length there,
      length-replaced c.args.from c.args.to (length lines) (joined new) lines c.requires.order c.requires.last refl,
      c.in-Some.ensures,
      c.requires.count,
      c.self.invariant.all,
      ap (λ v. length (joined v.chunks)) c.self.view_is,
    )

pub of_chunks-requires-clause-count : goal.of_chunks-requires-clause-count
of_chunks-requires-clause-count c =
    let mid = c.cut-2.new.self.chunks in
    let lines = joined c.args.self.now.chunks in
    let low = c.in-Some-chunks_from.low in
    let high = c.in-Some-chunks_from.high in
    let s = c.in-Some-chunks_from.ensures in
    let same : joined mid ≡ lines = c.cut-2.ensures.unchanged ∙ c.cut.ensures.unchanged in
    let part : joined c.in_ok-taken.taken.items ≡ block c.args.from c.args.to lines =
    ap joined c.in_ok-taken.ensures.taken ∙ block-there low high c.args.from c.args.to mid lines s.order s.low s.high same in
    length-there c.args.from c.args.to (joined c.in_ok-taken.taken.items) lines part c.requires.last

pub of_chunks-requires-clause-unflagged : goal.of_chunks-requires-clause-unflagged
of_chunks-requires-clause-unflagged c =
    let mid = c.cut-2.new.self.chunks in
    let lines = joined c.args.self.now.chunks in
    let low = c.in-Some-chunks_from.low in
    let high = c.in-Some-chunks_from.high in
    let s = c.in-Some-chunks_from.ensures in
    let same : joined mid ≡ lines = c.cut-2.ensures.unchanged ∙ c.cut.ensures.unchanged in
    let part : joined c.in_ok-taken.taken.items ≡ block c.args.from c.args.to lines =
    ap joined c.in_ok-taken.ensures.taken ∙ block-there low high c.args.from c.args.to mid lines s.order s.low s.high same in
    ap flag_count part ∙ flags-block c.args.from c.args.to lines c.requires.order c.requires.unflagged

pub returns-clause-taken : goal.returns-clause-taken
returns-clause-taken c =
    let mid = c.cut-2.new.self.chunks in
    let lines = joined c.args.self.now.chunks in
    let low = c.in-Some-chunks_from.low in
    let high = c.in-Some-chunks_from.high in
    let s = c.in-Some-chunks_from.ensures in
    let same : joined mid ≡ lines = c.cut-2.ensures.unchanged ∙ c.cut.ensures.unchanged in
    c.of_chunks.ensures.value
    ∙ ap texts (ap joined c.in_ok-taken.ensures.taken ∙ block-there low high c.args.from c.args.to mid lines s.order s.low s.high same)

pub returns-clause-put : goal.returns-clause-put
returns-clause-put c =
    let mid = c.cut-2.new.self.chunks in
    let lines = joined c.args.self.now.chunks in
    let s = c.in-Some-chunks_from.ensures in
    let same : joined mid ≡ lines = c.cut-2.ensures.unchanged ∙ c.cut.ensures.unchanged in
    c.join_at-2.ensures.unchanged
    ∙ c.join_at.ensures.unchanged
    ∙ ap joined c.in_ok-taken.ensures.put
    ∙ exchanged-there c.in-Some-chunks_from.low c.in-Some-chunks_from.high c.args.from c.args.to c.args.new.now.items mid lines s.low s.high same
