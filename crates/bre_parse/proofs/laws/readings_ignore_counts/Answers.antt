use Rattle.bre_parse.proofs.ReadingCounts.{elements_ignore_count, repeats_ignore_count, items_ignore_count}
use Rattle.bre_parse.proofs.laws.readings_ignore_counts.Goals as goal

pub returns : goal.returns
returns c = record { elements = elements_ignore_count; repeats = repeats_ignore_count; items = items_ignore_count }
