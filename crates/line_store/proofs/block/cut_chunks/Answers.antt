-- A chunk more has been filled, and fewer lines are left.
use Rattle.std.proofs.Common.{◌≡◌, ◌∷◌, ◌++◌, [], ◌∙◌, false, ap, sym, arith, length, length-append, nat_eq}
use Rattle.ed_base.specs.Lines.{lines_of}
use Rattle.line_store.specs.Chunks.{joined}
use Rattle.line_store.proofs.Filled.{fewer-left, joined-more, taken-chunk, unflagged-chunk}
use Rattle.line_store.proofs.block.cut_chunks.Goals as goal

pub chunks-smaller : goal.chunks-smaller
chunks-smaller c =
    let some : nat_eq (length c.chunks.rest) 0 ≡ false = sym c.is_done.ensures.value ∙ c.chunks-test.true in
    fewer-left c.in_ok-chunk.chunk c.chunks.rest c.of_file.new.file some c.in_ok-chunk.ensures.lines c.in_ok-chunk.ensures.count

pub chunks-preserved : goal.chunks-preserved
chunks-preserved c =
    let i = c.chunks.invariant in
    let before = c.chunks.chunks.items in
    let now = c.push.new.self.items in
    let chunk = c.in_ok-chunk.chunk in
    let is : now ≡ before ++ chunk ∷ [] = c.in_ok-push.ensures.items in
    record {
      taken = taken-chunk before now chunk _ _ (lines_of c.of_file.new.file) is i.taken c.in_ok-chunk.ensures.lines;
      count = omega (
        arith,
        c.in-Some.ensures,
        i.count,
        c.len.ensures.value,
        ap length (joined-more before now chunk is),
        length-append (joined before) chunk,
      );
      unflagged = unflagged-chunk before now chunk is i.unflagged c.in_ok-chunk.ensures.unflagged;
    }
