-- The lines are the same without their flags, and fewer have one.
use Rattle.std.proofs.Common.{◌≡◌}
use Rattle.std.specs.Prelude.{count_by}
use Rattle.ed_syntax.specs.meaning.States.{unflagged}
use Rattle.ed_commands.proofs.editor.undoing.take_flags.Given as goal

abbrev pub invariant-loop-place : goal.invariant-loop-place
invariant-loop-place g l =
    let lines = g.S.LineStore.lines in
    unflagged (lines l.store) ≡ unflagged (lines l.fn.store)

abbrev pub decreases-loop-place : goal.decreases-loop-place
decreases-loop-place g l = count_by (λ line. line.flag) (g.S.LineStore.lines l.store)
