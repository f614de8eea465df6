-- The changes up to i stand once more after all.
use Rattle.std.proofs.Common.{◌≡◌, ◌++◌, ◌≤◌, length}
use Rattle.ed_base.specs.Parts.{block}
use Rattle.ed_commands.proofs.editor.undoing.repeat_changes.Given as goal

abbrev pub invariant-loop-i : goal.invariant-loop-i
invariant-loop-i l =
    let old = l.fn.changes.items in
    record {
      repeated : l.changes.items ≡ old ++ block l.since l.i old;
      most : l.i ≤ length old;
    }
