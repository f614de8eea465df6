use Rattle.std.proofs.Common.{◌≡◌, take}
use Rattle.bre_parse.specs.Tree.{sequence_of}
use Rattle.bre_match.specs.Keeping.{asked_by}
use Rattle.bre_match.proofs.asked.+ask.Given as goal

abbrev pub invariant-ask_all-loop-item : goal.invariant-ask_all-loop-item
invariant-ask_all-loop-item l = l.asked ≡ asked_by (sequence_of (take l.item-index l.items)) l.fn.asked
