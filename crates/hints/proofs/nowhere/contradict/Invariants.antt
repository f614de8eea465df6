-- The facts that were passed contradict nothing.
use Rattle.std.proofs.Common.{◌≡◌, drop}
use Rattle.std.specs.List.{list_any}
use Rattle.hints.specs.Nowhere.{contradicts}
use Rattle.hints.proofs.nowhere.contradict.Given as goal

abbrev pub invariant-loop-fact : goal.invariant-loop-fact
invariant-loop-fact l =
    list_any (contradicts l.zone l.facts) l.facts.lines ≡ list_any (contradicts l.zone l.facts) (drop l.fact-index l.fact-items)
