use Rattle.std.proofs.Common.{length-set, ◌∙◌}
use Rattle.zones.specs.Steps.{after_put, put_bound}
use Rattle.zones.proofs.Places.{zone_by-each}
use Rattle.zones.proofs.Writes.{put_bound-set}
use Rattle.zones.proofs.table.put_table.Goals as goal

pub returns : goal.returns
unfolding after_put
returns c = record {
  exact = rw c.clip_bound.ensures.value (zone_by-each (put_bound c.args.table.now c.args.x c.args.y c.args.number) _
      (length-set _ _ _ ∙ c.told-table)
      (put_bound-set _ _ _ _ c.requires.x_in_range c.requires.y_in_range c.told-table));
}
