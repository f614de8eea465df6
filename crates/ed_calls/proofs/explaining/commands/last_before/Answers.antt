use Rattle.ed_calls.proofs.ExplainedLines.{last-of-front}
use Rattle.ed_calls.proofs.explaining.commands.last_before.Goals as goal

pub returns : goal.returns
returns c = record {
  value = last-of-front c.args.commands.now _ c.count_before-count.result c.saturating_sub.result c.count_before-count.ensures.within
      c.saturating_sub.ensures c.count_before-count.ensures.value;
}
