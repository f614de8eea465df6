-- One line more, of no more than a chunk holds.
use Rattle.std.proofs.Common.{◌∙◌, ◌∷◌, ◌++◌, [], ap, sym, arith, length, map, map-id}
use Rattle.std.proofs.lemmas.Iterator.Adapters.{YieldsList-from_vec}
use Rattle.std.proofs.lemmas.Iterator.Consumers.{YieldsList-turn, YieldsList-end}
use Rattle.std.proofs.lemmas.List.{length-map}
use Rattle.ed_base.specs.Buffer.{Line, plain_line, texts}
use Rattle.line_store.proofs.Taken.{plain-push}
use Rattle.line_store.proofs.chunk.Chunk.load.Goals as goal

pub push-requires : goal.push-requires
push-requires c =
    let passed = c.loop-line.yielded in
    let turn = YieldsList-turn (YieldsList-from_vec {s = c.into_iter-line-iterator.result} c.args.lines.items (cc) (cc))
    passed c.loop-line.line-iterator c.loop-line.yielded_by c.next.result c.next.new.self c.in-Some.line c.in-Some.is c.next.ensures.steps in
    omega (arith, turn.0, c.requires.fits, ap length c.loop-line.invariant, length-map (texts passed) plain_line, length-map passed (λ (l : Line). l.bytes))

pub loop-line-preserved : goal.loop-line-preserved
loop-line-preserved c =
    let passed = c.loop-line.yielded in
    c.push.ensures.pushed
    ∙ ap (λ t. t ++ c.plain.result ∷ []) c.loop-line.invariant
    ∙ ap (λ l. map plain_line (texts passed) ++ l ∷ []) c.plain.ensures.value
    ∙ sym (plain-push passed c.in-Some.line)

pub returns : goal.returns
returns c =
    let end = YieldsList-end (YieldsList-from_vec {s = c.into_iter-line-iterator.result} c.args.lines.items (cc) (cc))
    c.loop-line.yielded c.loop-line.line-iterator c.loop-line.yielded_by c.next.result c.next.new.self c.in-None.is c.next.ensures.steps in
    record { loaded = c.loop-line.invariant ∙ ap (λ t. map plain_line (texts t)) (sym (map-id c.loop-line.yielded) ∙ end.0) }
