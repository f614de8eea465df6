use Rattle.std.proofs.Common.{length}
use Rattle.unified_diff.specs.Edits.{seen, Edits, TellsUpTo}
use Rattle.unified_diff.proofs.hunks.push_hunks.Given as goal

-- the hunks that are told, and the changes that are left
abbrev pub invariant-hunks : goal.invariant-hunks
invariant-hunks l = record {
  edits : Edits l.old_at l.new_at l.left (length (seen l.old)) (length (seen l.new)) (seen l.old) (seen l.new);
  told : TellsUpTo l.colours l.fn.text l.text l.old_at l.new_at (seen l.old) (seen l.new);
}

abbrev pub decreases-hunks : goal.decreases-hunks
decreases-hunks l = length l.left
