use Rattle.std.proofs.Common.{◌≡◌, ◌≤◌, ◌+◌, ◌-◌, length}
use Rattle.std.specs.Io.KnownBytes.{Consumes}
use Rattle.sources.proofs.source.read_pieces.Given as goal

abbrev pub invariant-reads : goal.invariant-reads
invariant-reads g l = record {
  fits : length l.bytes ≤ l.limit;
  consumed : Consumes (g.S.Source.remaining l.fn.source) (g.S.Source.remaining l.source) l.bytes;
  reads : g.S.Source.reads l.source ≤ g.S.Source.reads l.fn.source + length l.bytes;
  failures : g.S.Source.failures l.source ≡ g.S.Source.failures l.fn.source;
}

abbrev pub decreases-reads : goal.decreases-reads
decreases-reads g l = l.limit + 1 - length l.bytes
