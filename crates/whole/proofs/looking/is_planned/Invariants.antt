-- The path isn't among those that the loop has passed.
use Rattle.std.proofs.Common.{◌≡◌, drop}
use Rattle.whole.specs.OneFile.{planned_paths}
use Rattle.whole.specs.Paths.{is_in}
use Rattle.whole.proofs.looking.is_planned.Given as goal

abbrev pub invariant-planned : goal.invariant-planned
invariant-planned l = is_in l.path (planned_paths l.planned) ≡ is_in l.path (planned_paths (drop l.one-index l.planned))
