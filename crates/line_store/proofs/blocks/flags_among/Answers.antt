-- One line more.
use Rattle.std.proofs.Common.{◌≡◌, ℕ, ◌≤◌, ◌∷◌, ◌∙◌, [], Bool, true, false, cond, refl, ap, arith, get_or}
use Rattle.std.proofs.lemmas.List.Sums.{sum_by-cons}
use Rattle.std.specs.Int.{from_bool}
use Rattle.ed_base.specs.Buffer.{Line, plain_line}
use Rattle.ed_base.specs.Parts.{block}
use Rattle.line_store.specs.Kept.{flag_count}
use Rattle.line_store.proofs.Ranges.{block-more}
use Rattle.line_store.proofs.Taken.{flags-append}
use Rattle.line_store.proofs.blocks.flags_among.Goals as goal

counted : (b : Bool) → from_bool b ≡ cond b 1 0
counted true = refl
counted false = refl

one_at_most : (b : Bool) → from_bool b ≤ 1
one_at_most true = omega arith
one_at_most false = omega arith

pub loop-i-preserved : goal.loop-i-preserved
loop-i-preserved g c =
    let lines = g.L.BareLines.items c.args.lines.now in
    let from = c.args.from in
    let i = c.loop-i.i in
    let line = get_or lines i (plain_line []) in
    let more = ap flag_count (block-more from i lines (plain_line []) (omega arith) (omega arith)) ∙ flags-append (block from i lines) (line ∷ []) in
    let one = sum_by-cons (λ (l : Line). cond l.flag 1 0) line [] in
    let told : from_bool c.flagged.result ≡ cond line.flag 1 0 = counted c.flagged.result ∙ ap {B = ℕ} (λ b. cond b 1 0) c.flagged.ensures.value in
    record {
      flags = omega (arith, more, one, told, c.loop-i.invariant.flags, c.from-flags.ensures);
      few = omega (arith, c.loop-i.invariant.few, c.from-flags.ensures, one_at_most c.flagged.result);
    }
