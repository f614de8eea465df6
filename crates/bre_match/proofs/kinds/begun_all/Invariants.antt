use Rattle.std.proofs.Common.{◌≡◌, map, take}
use Rattle.bre_parse.specs.Tree.{tree_of}
use Rattle.bre_match.specs.Spreads.{begun}
use Rattle.bre_match.proofs.kinds.begun_all.Given as goal

abbrev pub invariant-loop-way : goal.invariant-loop-way
invariant-loop-way l = l.all.items ≡ map (begun (tree_of l.content)) (take l.way-index l.ways)
