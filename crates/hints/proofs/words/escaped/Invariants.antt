use Rattle.std.proofs.Common.{◌≡◌, take}
use Rattle.std.specs.List.{flat_map}
use Rattle.std.specs.Char.Escape.{escape_ascii}
use Rattle.hints.proofs.words.escaped.Given as goal

abbrev pub invariant-loop-byte : goal.invariant-loop-byte
invariant-loop-byte l = l.escapes.items ≡ flat_map escape_ascii (take l.byte-index l.bytes)
