-- A line put after those before it.
use Rattle.std.proofs.Common.{◌≡◌, ◌+◌, ◌-◌, ◌∙◌, ◌∷◌, ◌++◌, [], false, true, ap, sym, arith, length, map, take, drop, insert, map-id}
use Rattle.std.proofs.lemmas.Iterator.Adapters.{YieldsList-from_vec}
use Rattle.std.proofs.lemmas.Iterator.Consumers.{YieldsList-turn, YieldsList-end}
use Rattle.std.proofs.lemmas.List.{length-map, length-take-le, length_push}
use Rattle.std.proofs.lemmas.List.Edits.{length-insert}
use Rattle.ed_base.specs.Buffer.{Line, plain_line, texts}
use Rattle.ed_base.specs.Parts.{inserted}
use Rattle.line_store.proofs.Ranges.{insert-between}
use Rattle.line_store.proofs.Taken.{plain-push}
use Rattle.line_store.proofs.blocks.put_each.Goals as goal

pub unreachable-requires : goal.unreachable-requires
unreachable-requires g c =
    let turn = YieldsList-turn (YieldsList-from_vec {s = c.into_iter-line-iterator.result} c.args.list.items (cc) (cc))
    c.loop-line.yielded c.loop-line.line-iterator c.loop-line.yielded_by c.next.result c.next.new.self c.in-Some.line c.in-Some.is c.next.ensures.steps in
    let never : false ≡ true = c.in-Err.ensures.room (omega (arith, turn.0, c.loop-line.invariant.room)) in cc

pub loop-line-preserved : goal.loop-line-preserved
loop-line-preserved g c =
    let before = g.L.BareLines.items c.args.lines.now in
    let now = g.L.BareLines.items c.loop-line.lines in
    let at = c.args.at in
    let line = c.in-Some.line in
    let put = c.plain.result in
    let place = c.len-in-loop-line.result - (c.len.result - at) in
    let passed = map plain_line (texts c.loop-line.yielded) in
    let many : length passed ≡ length c.loop-line.yielded = length-map (texts c.loop-line.yielded) plain_line ∙ length-map c.loop-line.yielded (λ (l : Line). l.bytes) in
    let at_end : place ≡ at + length passed = omega (arith, c.loop-line.invariant.place, c.len-in-loop-line.ensures.value) in
    let more = length_push c.loop-line.yielded line in
    record {
      put = c.in-Ok.ensures.inserted
          ∙ ap (λ t. insert t place put) c.loop-line.invariant.put
          ∙ insert-between (take at before) passed (drop at before) place put (omega (arith, length-take-le at before c.requires.place))
          ∙ ap (λ t. inserted at t before) (ap (λ l. passed ++ l ∷ []) c.plain.ensures.value ∙ sym (plain-push c.loop-line.yielded line));
      place = omega (arith, ap length c.in-Ok.ensures.inserted, length-insert now place put (omega (arith, c.loop-line.invariant.place)), c.loop-line.invariant.place, more);
      room = omega (arith, c.loop-line.invariant.room, more);
    }

pub returns : goal.returns
returns g c =
    let end = YieldsList-end (YieldsList-from_vec {s = c.into_iter-line-iterator.result} c.args.list.items (cc) (cc))
    c.loop-line.yielded c.loop-line.line-iterator c.loop-line.yielded_by c.next.result c.next.new.self c.in-None.is c.next.ensures.steps in
    record {
      put = c.loop-line.invariant.put
          ∙ ap (λ t. inserted c.args.at (map plain_line (texts t)) (g.L.BareLines.items c.args.lines.now)) (sym (map-id c.loop-line.yielded) ∙ end.0);
    }
