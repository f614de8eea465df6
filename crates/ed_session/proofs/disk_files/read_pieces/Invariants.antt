use Rattle.std.proofs.Common.{◌-◌, vec_len}
use Rattle.std.specs.Io.KnownBytes.{Consumes}
use Rattle.ed_session.proofs.disk_files.read_pieces.Given as goal

abbrev pub invariant-pieces : goal.invariant-pieces
invariant-pieces g l = Consumes (g.F.Read.remaining l.fn.file) (g.F.Read.remaining l.file) l.bytes.items

abbrev pub decreases-pieces : goal.decreases-pieces
decreases-pieces g l = l.size - vec_len l.bytes
