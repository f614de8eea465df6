-- One more line was taken, and those after it are left.
use Rattle.std.proofs.Common.{◌≡◌, ◌+◌, ◌-◌, ◌<◌, ◌∷◌, ◌++◌, [], ◌∙◌, ap, sym, arith, drop, length, length-append, map, slice_range}
use Rattle.std.proofs.lemmas.List.{length-drop}
use Rattle.ed_base.specs.Buffer.{plain_line, texts}
use Rattle.ed_base.specs.Lines.{lines_of}
use Rattle.line_store.specs.Kept.{flag_count}
use Rattle.line_store.proofs.Cuts.{to_end, line-between, rest-after}
use Rattle.line_store.proofs.Filled.{plain-more, taken-next, unflagged-more}
use Rattle.line_store.proofs.Runs.{run-last, run-next}
use Rattle.line_store.proofs.shared.FileLines.next_ring.Goals as goal

pub lines-preserved : goal.lines-preserved
lines-preserved c =
    let bytes = c.as_slice-bytes.result.now in
    let next = c.lines.next in
    let before = c.lines.row.items in
    let line = c.in_ok-line.line in
    let text = c.in-Some.text.now in
    let rest = c.in-Some.rest.now in
    let items = c.push_reserved.ensures.items in
    let file : c.self.inside.block.value ≡ bytes = sym (c.as_slice-bytes.ensures.value ∙ c.deref.ensures) in
    let left : drop next bytes ≡ slice_range bytes next (length bytes) = sym (to_end bytes next) in
    let is : line ≡ plain_line text = c.in_ok-line.ensures.value
    ∙ ap (λ f. plain_line (slice_range f next (next + length text))) file
    ∙ ap plain_line (line-between bytes _ text rest next left c.in-Some.ensures.cut) in
    let after : drop (length bytes - length rest) bytes ≡ rest =
    rest-after bytes _ text rest next c.lines.invariant.place left c.in-Some.ensures.cut in
    let some : next < length bytes = omega (arith, c.in-Some.ensures.shorter, sym (ap length left), length-drop next bytes) in
    record {
      taken = taken-next before line text _ (lines_of (drop next bytes)) (lines_of rest)
          is c.lines.invariant.taken (ap lines_of left ∙ c.in-Some.ensures.first)
          ∙ ap (λ t. texts t ++ lines_of rest) (sym items)
          ∙ ap (λ r. texts c.push_reserved.new.self.items ++ lines_of r) (sym after);
      place = omega arith;
      room = omega (arith, c.lines.invariant.room, c.push_reserved.ensures.capacity);
      few = omega (arith, ap length items, length-append before (line ∷ []), c.lines-test.true, c.len.ensures);
      plain = items ∙ plain-more before line text is c.lines.invariant.plain
          ∙ ap (λ t. map plain_line (texts t)) (sym items);
      unflagged = ap flag_count items ∙ unflagged-more before line text is c.lines.invariant.unflagged;
      order = omega (arith, c.lines.invariant.order, some, c.in-Some.ensures.shorter, ap length left);
      run = run-next bytes _ c.self.inside.next next text rest before _ line c.lines.ended c.lines.invariant.order some
          c.lines.invariant.last is c.in-Some.ensures.line left c.in-Some.ensures.cut items c.lines.invariant.run;
      last = run-last bytes _ next text rest some left c.in-Some.ensures.cut;
    }
