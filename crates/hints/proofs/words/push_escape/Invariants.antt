-- The bytes of the escape that were passed were appended: those that are left come after them.
use Rattle.std.proofs.Common.{◌≡◌, ◌≤◌, ◌++◌}
use Rattle.std.specs.Char.Escape.{escape_ascii}
use Rattle.std.specs.Char.Iter.{escape_byte_rest, escape_byte_left, escape_byte_end}
use Rattle.hints.proofs.words.push_escape.Given as goal

abbrev pub invariant-escape : goal.invariant-escape
invariant-escape l = record {
  bound : escape_byte_end l.rest ≤ 4;
  left : l.escapes.items ++ escape_byte_rest l.rest ≡ l.initial.escapes.items ++ escape_ascii l.byte;
}

abbrev pub decreases-escape : goal.decreases-escape
decreases-escape l = escape_byte_left l.rest
