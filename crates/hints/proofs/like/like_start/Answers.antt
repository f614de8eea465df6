-- The file's lines and the patterns that they match are enough, and what is left of them fits the file.
use Rattle.std.proofs.Common.{ℕ, List, length, ◌∙◌, ap, sym}
use Rattle.ed_base.specs.Lines.{lines_of}
use Rattle.ed_syntax.specs.PublicScript.{script_value}
use Rattle.ed_syntax.specs.reading.Reading.{script_of}
use Rattle.hints.proofs.Proposed.{enough-like, like-of}
use Rattle.hints.proofs.like.like_start.Goals as goal

pub widest_of-requires : goal.widest_of-requires
widest_of-requires c = record {
  enough = enough-like (script_value c.in_ok-read.read) c.args.like.now c.in_ok-given.given c.count_lines-min.result c.as_slice-3.result.now c.as_slice-2.result.now
      c.requires.few (c.count_lines-min.ensures.exact ∙ ap (λ (bytes : List ℕ). length (lines_of bytes)) c.as_slice.ensures.value) c.in_ok-given.ensures.value
      (c.as_slice-3.ensures.value ∙ c.in_ok-patterns.ensures.value) (c.as_slice-2.ensures.value ∙ sym c.as_slice-3.ensures.value)
      (c.in_ok-is_vouched_beside.ensures.exact.0 c.if-not-branch.false);
}

pub returns-clause-like : goal.returns-clause-like
returns-clause-like c =
    like-of (script_of c.args.script.now) (script_value c.in_ok-read.read) c.args.like.now c.in_ok-given.given c.count_lines-min.result c.in_ok-patterns.patterns.items
    c.as_slice-3.result.now c.in_ok-widest_of.field-0 c.requires.few c.in_ok-read.ensures.value
    (c.count_lines-min.ensures.exact ∙ ap (λ (bytes : List ℕ). length (lines_of bytes)) c.as_slice.ensures.value) c.in_ok-given.ensures.value
    c.in_ok-patterns.ensures.value c.as_slice-3.ensures.value c.in_ok-widest_of.ensures.widest c.in_ok-widest_of.ensures.narrowed
