use Rattle.std.proofs.Common.{sym, ◌∙◌, ◌+◌, ap, arith}
use Rattle.ed_base.proofs.LineLemmas.{length-lines_of-front}
use Rattle.ed_base.proofs.lines.count_lines.Goals as goal

pub returns-in-len1-up : goal.returns-in-len1-up
returns-in-len1-up c = record {
  exact =
      ap (λ n. n + 1) c.count_newlines.ensures.value
      ∙ sym (length-lines_of-front c.args.bytes.now (omega arith));
}
