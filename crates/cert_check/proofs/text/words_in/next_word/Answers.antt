use Rattle.std.proofs.Common.{arith}
use Rattle.std.proofs.lemmas.List.Sums.{prefix_len-le-length}
use Rattle.cert_check.specs.text.Reading.{is_in_word}
use Rattle.cert_check.proofs.texts.ReadWords.{first-word-cut}
use Rattle.cert_check.proofs.text.words_in.next_word.Goals as goal

pub split_at-requires : goal.split_at-requires
split_at-requires c = omega (arith, prefix_len-le-length is_in_word c.in-Some.rest.now)

pub returns-clause-cases : goal.returns-clause-cases
returns-clause-cases c =
    first-word-cut c.args.text.now c.in-Some.rest.now _ _ c.word_len.result c.in-Some.ensures.cases c.word_len.ensures.value c.split_at.ensures.front c.split_at.ensures.back
