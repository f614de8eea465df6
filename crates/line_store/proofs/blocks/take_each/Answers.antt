-- A line taken from after those before it.
use Rattle.std.proofs.Common.{◌≡◌, ◌-◌, ◌<◌, ◌∙◌, ap, sym, arith, [], take, drop, get_or, length, map, reverse, remove}
use Rattle.std.proofs.lemmas.List.{get_or_default, length-append, length-take-le, length-map}
use Rattle.ed_base.specs.Buffer.{Line, plain_line, texts}
use Rattle.line_store.proofs.Ranges.{remove-last, last-of_front, taken-more}
use Rattle.line_store.proofs.Taken.{plain-at, texts-drop_plain}
use Rattle.line_store.proofs.blocks.take_each.Goals as goal

pub loop-i-preserved : goal.loop-i-preserved
loop-i-preserved g c =
    let before = g.L.BareLines.items c.args.lines.now in
    let now = g.L.BareLines.items c.loop-i.lines in
    let i = c.loop-i.i - 1 in
    let b = c.args.to in
    let after = drop b before in
    let some : 0 < c.loop-i.i = omega arith in
    let part = take b before in
    let new = map plain_line (texts part) in
    let long : length new ≡ b = length-map (texts part) plain_line ∙ length-map part (λ (l : Line). l.bytes) ∙ length-take-le b before (omega arith) in
    let within : i < length now =
    omega (arith, ap length c.loop-i.invariant.left, length-append (take c.loop-i.i before) after, length-take-le c.loop-i.i before (omega arith)) in
    record {
      left = c.remove.ensures.removed ∙ ap (λ t. remove t i) c.loop-i.invariant.left
          ∙ remove-last before after i c.loop-i.i (omega arith) (omega arith);
      taken = ap reverse c.push_reserved.ensures.items
          ∙ taken-more c.loop-i.taken.items new c.plain.result i c.loop-i.i (plain_line []) (omega arith) (omega arith) c.loop-i.invariant.taken
          (c.plain.ensures.value
          ∙ ap (λ l. plain_line l.bytes) (c.remove.ensures.value ∙ get_or_default now i c.remove.result (plain_line []) within
          ∙ ap (λ t. get_or t i (plain_line [])) c.loop-i.invariant.left
          ∙ last-of_front before after i c.loop-i.i b (plain_line []) (omega arith) (omega arith) (omega arith))
          ∙ sym (plain-at part i (plain_line []) (omega (arith, length-take-le b before (omega arith)))));
      least = omega arith;
      count = omega arith;
      room = omega arith;
    }

pub returns-clause-taken : goal.returns-clause-taken
returns-clause-taken g c =
    let part = take c.args.to (g.L.BareLines.items c.args.lines.now) in
    let first : c.loop-i.i ≡ c.args.from = omega (arith, c.loop-i.invariant.least) in
    ap texts (c.reverse.ensures.items ∙ c.loop-i.invariant.taken ∙ ap (λ n. drop n (map plain_line (texts part))) first)
    ∙ texts-drop_plain c.args.from part
