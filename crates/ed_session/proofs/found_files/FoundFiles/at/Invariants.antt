-- The path isn't among those that the loop has passed.
use Rattle.std.proofs.Common.{◌≡◌, drop}
use Rattle.ed_session.specs.FoundFiles.{found_at}
use Rattle.ed_session.proofs.found_files.FoundFiles.at.Given as goal

abbrev pub invariant-found : goal.invariant-found
invariant-found l = found_at l.path l.self.found.items ≡ found_at l.path (drop l.known-index l.self.found.items)
