-- What was appended, and the parts that are left, make the whole.
use Rattle.std.proofs.Common.{◌≡◌, ◌++◌, drop, flat_map}
use Rattle.bre_match.specs.Answer.{spans}
use Rattle.ed_syntax.specs.meaning.Substitution.{expanded}
use Rattle.ed_commands.proofs.substitution.replace.Given as goal

abbrev pub invariant-loop-part : goal.invariant-loop-part
invariant-loop-part l =
    l.text ++ flat_map (expanded l.line (spans l.found)) (drop l.part-index l.part-items)
    ≡ l.initial.text ++ flat_map (expanded l.line (spans l.found)) l.part-items
