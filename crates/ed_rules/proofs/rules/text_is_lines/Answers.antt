use Rattle.ed_syntax.proofs.spelled.ReadableLemmas.{are-lines}
use Rattle.ed_rules.proofs.rules.text_is_lines.Goals as goal

pub returns : goal.returns
returns c = record { lines = are-lines c.args.text.now c.as_bytes-bytes.ensures.lines }
