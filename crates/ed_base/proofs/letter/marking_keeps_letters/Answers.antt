-- What a letter that is set leaves on the lines.
use Rattle.ed_base.proofs.Letters.{plain-known, marked_at-known, marked_at-once}
use Rattle.ed_base.proofs.letter.marking_keeps_letters.Goals as goal

pub returns : goal.returns
returns c = record {
  known_at_first = plain-known;
  known = marked_at-known;
  once = marked_at-once;
}
