use Rattle.std.proofs.Common.{sym}
use Rattle.landmarks.proofs.WordReads.{wrong_key}
use Rattle.landmarks.proofs.words.key.Goals as goal

pub returns-then-not-begins_with_delimiter-clause-told : goal.returns-then-not-begins_with_delimiter-clause-told
returns-then-not-begins_with_delimiter-clause-told c =
    wrong_key c.args.text.now c.after_blanks-here.result.now c.after_blanks-here.ensures.value (sym c.if-not-begins_with_delimiter.ensures.value)
