-- The file isn't among those that the loop has passed.
use Rattle.std.proofs.Common.{◌≡◌, drop}
use Rattle.ed_session.specs.MemFiles.{file_at}
use Rattle.ed_session.proofs.mem_files.MemFiles.file.Given as goal

abbrev pub invariant-files : goal.invariant-files
invariant-files l = file_at l.path l.self.files.items ≡ file_at l.path (drop l.name-index l.self.files.items)
