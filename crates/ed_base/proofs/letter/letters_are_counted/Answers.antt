-- Counts of lines that a letter marks.
use Rattle.ed_base.proofs.Letters.{plain-uncounted, once-counts, counts-once}
use Rattle.ed_base.proofs.letter.letters_are_counted.Goals as goal

pub returns : goal.returns
returns c = record {
  plain = plain-uncounted;
  once = λ lines. (once-counts lines, counts-once lines);
}
