use Rattle.std.proofs.Common.{sym}
use Rattle.landmarks.proofs.WordReads.{word_read, word_end, no_word_front}
use Rattle.landmarks.proofs.words.after_word.Goals as goal

pub returns-else-begins_with_letter-clause-spelled : goal.returns-else-begins_with_letter-clause-spelled
returns-else-begins_with_letter-clause-spelled c =
    word_read c.args.text.now c.args.word.now c.in-Some.rest.now c.after_blanks.result.now c.after_blanks.ensures.value
    c.in-Some.ensures.cases.0 c.in-Some.ensures.cases.1 (sym c.if-begins_with_letter.ensures.value)

pub returns-else-begins_with_letter-clause-end : goal.returns-else-begins_with_letter-clause-end
returns-else-begins_with_letter-clause-end c =
    word_end c.args.text.now c.args.word.now c.in-Some.rest.now (word_read c.args.text.now c.args.word.now c.in-Some.rest.now c.after_blanks.result.now
    c.after_blanks.ensures.value c.in-Some.ensures.cases.0 c.in-Some.ensures.cases.1 (sym c.if-begins_with_letter.ensures.value))

pub returns-in-None-clause-spelled : goal.returns-in-None-clause-spelled
returns-in-None-clause-spelled c =
    no_word_front c.args.text.now c.args.word.now c.after_blanks.result.now c.after_blanks.ensures.value c.in-None.ensures.cases
