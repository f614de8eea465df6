use Rattle.std.proofs.Common.{take}
use Rattle.bre_parse.specs.Tree.{tree_of}
use Rattle.bre_parse.specs.Ways.{ways}
use Rattle.bre_match.specs.Spreads.{Leads}
use Rattle.bre_match.proofs.spread.spread_simply.Given as goal

abbrev pub invariant-loop-way : goal.invariant-loop-way
invariant-loop-way l = Leads l.asked (ways (tree_of l.part) l.text) (take l.way-index l.from) l.to.items
