-- One more line.
use Rattle.std.proofs.Common.{◌≡◌, ◌<◌, ◌+◌, ◌-◌, ◌∙◌, ap, arith, length, get_or, remove, insert, [], refl}
use Rattle.std.proofs.lemmas.List.{get_or_default}
use Rattle.std.proofs.lemmas.List.Edits.{length-insert, length-remove}
use Rattle.ed_base.specs.Buffer.{plain_line}
use Rattle.line_store.proofs.Swapped.{going_up, up-init, up-done, up-turn}
use Rattle.line_store.proofs.swaps.carry_up.Goals as goal

pub loop-i-init : goal.loop-i-init
loop-i-init g c =
    let before = g.L.BareLines.items c.args.lines.now in
    record {
      swapped = up-init c.args.low c.args.middle c.args.high before c.requires.first c.requires.second
          ∙ ap (going_up c.args.low c.args.middle c.args.high before) (let e : 0 ≡ c.args.middle - c.args.middle = omega arith in e);
      count = refl;
      room = omega arith;
    }

pub loop-i-preserved : goal.loop-i-preserved
loop-i-preserved g c =
    let items = g.L.BareLines.items in
    let before = items c.args.lines.now in
    let now = items c.loop-i.lines in
    let i = c.loop-i.i in
    let m = i - c.args.middle in
    let place = c.args.low + m in
    let line = c.remove-line.result in
    let within : i < length now = omega (arith, c.loop-i.invariant.count) in
    let out = length-remove now i within in
    let put : items c.insert.new.self ≡ insert (remove now i) place (get_or now i (plain_line [])) =
    c.in-Ok.ensures.inserted
    ∙ ap (λ t. insert t place line) c.remove-line.ensures.removed
    ∙ ap (insert (remove now i) place) (c.remove-line.ensures.value ∙ get_or_default now i line (plain_line []) within) in
    record {
      swapped = put
          ∙ up-turn c.args.low c.args.middle c.args.high m i place before now (plain_line []) c.loop-i.invariant.swapped
          c.requires.first (omega arith) c.requires.last (omega arith) refl
          ∙ ap (going_up c.args.low c.args.middle c.args.high before) (let e : m + 1 ≡ i + 1 - c.args.middle = omega arith in e);
      count = omega (arith, ap length put, length-insert (remove now i) place (get_or now i (plain_line [])) (omega (arith, out, c.loop-i.invariant.count)), out, c.loop-i.invariant.count);
      room = omega (arith, c.loop-i.invariant.room);
    }

pub returns : goal.returns
returns g c =
    record {
      swapped = c.loop-i.invariant.swapped
          ∙ up-done c.args.low c.args.middle c.args.high (c.loop-i.i - c.args.middle) (g.L.BareLines.items c.args.lines.now)
          c.requires.first c.requires.second c.requires.last (omega arith);
    }
