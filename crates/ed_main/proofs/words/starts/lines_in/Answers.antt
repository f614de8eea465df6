-- A number of lines is one that `parse` reads, and few enough.
use Rattle.std.proofs.Common.{◌∙◌, sym}
use Rattle.ed_main.proofs.WordsLemmas.{lines_parsed, lines_unparsed}
use Rattle.ed_main.proofs.words.starts.lines_in.Goals as goal

pub returns-in-Ok-clause-value : goal.returns-in-Ok-clause-value
returns-in-Ok-clause-value c = c.few.ensures.value ∙ sym (lines_parsed c.args.text.now c.in-Ok.lines c.in-Ok.ensures.value.0)

pub returns-in-Err-clause-value : goal.returns-in-Err-clause-value
returns-in-Err-clause-value c = sym (lines_unparsed c.args.text.now c.in-Err.ensures.value.0)
