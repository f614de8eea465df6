-- The texts so far spell the chains, in their order.
use Rattle.std.proofs.Common.{map, take}
use Rattle.ed_calls.specs.Landmarked.{AreSpelled}
use Rattle.ed_main.proofs.chains.spelled_by.Given as goal

abbrev pub invariant-loop-text : goal.invariant-loop-text
invariant-loop-text l = AreSpelled (map (λ text. text.now) (take l.text-index l.texts)) l.chains.items
