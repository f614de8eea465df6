-- Whether a split is left is whether there is any.
use Rattle.std.proofs.Common.{◌≡◌, drop}
use Rattle.std.specs.List.{list_any}
use Rattle.ed_syntax.specs.meaning.Verbs.{is_split}
use Rattle.ed_commands.proofs.editor.substituting.splits.Given as goal

abbrev pub invariant-loop-part : goal.invariant-loop-part
invariant-loop-part l = list_any is_split (drop l.part-index l.part-items) ≡ list_any is_split l.part-items
