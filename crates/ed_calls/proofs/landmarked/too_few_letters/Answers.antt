-- The landmarks that were counted are those that are given, and the letters are those that the script leaves.
use Rattle.ed_calls.proofs.LetterCounts.{leaves_enough, leaves_few}
use Rattle.ed_calls.proofs.landmarked.too_few_letters.Goals as goal

pub returns-then-lines-letters : goal.returns-then-lines-letters
returns-then-lines-letters c = record {
  exact = leaves_enough _ _ _ _ _ c.args.script.now c.landmarks.ensures.value c.in_ok-script.ensures.value c.landmarks_in-lines.ensures.value
      c.letters_left-letters.ensures.value c.letters_left-letters.ensures.few c.if-lines-letters.true;
}

pub returns : goal.returns
returns c = record {
  exact = leaves_few _ _ _ _ _ c.args.script.now c.landmarks.ensures.value c.in_ok-script.ensures.value c.landmarks_in-lines.ensures.value
      c.letters_left-letters.ensures.value c.if-lines-letters.false;
}
