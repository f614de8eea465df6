-- The path isn't among those that the loop has passed.
use Rattle.std.proofs.Common.{◌≡◌, drop}
use Rattle.whole.specs.Paths.{is_in}
use Rattle.whole.proofs.written.contains.Given as goal

abbrev pub invariant-paths : goal.invariant-paths
invariant-paths l = is_in l.path l.paths ≡ is_in l.path (drop l.known-index l.paths)
