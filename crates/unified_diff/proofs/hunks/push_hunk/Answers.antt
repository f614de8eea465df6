use Rattle.unified_diff.specs.Edits.{seen}
use Rattle.unified_diff.proofs.EditLemmas.{rises}
use Rattle.unified_diff.proofs.hunks.push_hunk.Goals as goal

pub overflow_sub-old_count : goal.overflow_sub-old_count
overflow_sub-old_count c =
    (rises c.args.extent.old_start c.args.extent.new_start c.args.extent.old_end c.args.extent.new_end c.args.group.now
    (seen c.args.old.now) (seen c.args.new.now) c.requires.edits).old_order

pub overflow_sub-new_count : goal.overflow_sub-new_count
overflow_sub-new_count c =
    (rises c.args.extent.old_start c.args.extent.new_start c.args.extent.old_end c.args.extent.new_end c.args.group.now
    (seen c.args.old.now) (seen c.args.new.now) c.requires.edits).new_order
