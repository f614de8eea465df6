-- Ranges of lines that begin or end elsewhere than they seem to (XCU ed, "Addresses in ed"; what is meant is our guess).
use Rattle.std.specs.Prelude.{ℕ, pos, Bool, true, false, ◌&&◌, Option, Some, None, int_lt, nat_eq, nat_lt}
use Rattle.std.specs.Ordering.{int_eq}
use Rattle.ed_syntax.specs.Commands as ed
use Rattle.ed_syntax.specs.Commands.{Base, Address, Addresses, Comma, Semicolon, Command}
use Rattle.ed_syntax.specs.declared.verbs.Taking.{Taking}
use Rattle.ed_syntax.specs.declared.verbs.Taking.TheVariants as many
use Rattle.ed_syntax.specs.meaning.Verbs.{takes}

-- a search forward
abbrev pub is_forward : Base → Bool
is_forward (ed.Forward pattern) = true
is_forward _ = false

-- this line, by its number
abbrev pub is_number : ℕ → Base → Bool
is_number n (ed.Number own) = nat_eq own n
is_number n _ = false

-- line 1, by its number and without an offset
abbrev pub is_line_one : Address → Bool
is_line_one a = is_number 1 a.base && int_eq a.offset (pos 0)

-- the lines from line 1 to a match
abbrev pub is_to_match : Addresses → Bool
is_to_match (Comma first last) = is_line_one first && is_forward last.base
is_to_match _ = false

-- the current line
abbrev pub is_current : Base → Bool
is_current ed.Current = true
is_current _ = false

-- a line that may be another one than the current line, wherever that is, and isn't the last one
abbrev pub is_elsewhere : Base → Bool
is_elsewhere ed.Current = false
is_elsewhere ed.Last = false
is_elsewhere _ = true

-- Two addresses with a `,` between them: the second one is counted on from the current line, and the first one stands elsewhere.
abbrev pub is_counted_from_current : Addresses → Bool
is_counted_from_current (Comma first last) = is_elsewhere first.base && is_current last.base && int_lt (pos 0) last.offset
is_counted_from_current _ = false

-- the number of a line, where it alone is the address
abbrev pub base_number : Base → Option ℕ
base_number (ed.Number n) = Some n
base_number _ = None

-- the first of two numbers of lines is greater
abbrev pub is_above : (first last : Address) → Bool
is_above first last = elim (base_number first.base) [ Some a ↦ elim (base_number last.base) [ Some b ↦ nat_lt b a | None ↦ false ] | None ↦ false ]

-- both addresses are numbers without offsets, and the first one is greater
abbrev pub is_reversed_pair : (first last : Address) → Bool
is_reversed_pair first last = is_above first last && int_eq first.offset (pos 0) && int_eq last.offset (pos 0)

-- two such addresses
abbrev pub is_reversed : Addresses → Bool
is_reversed (Comma first last) = is_reversed_pair first last
is_reversed (Semicolon first (Some last)) = is_reversed_pair first last
is_reversed _ = false

-- two lines are taken, and their order counts
abbrev pub is_range : Taking → Bool
is_range many.Lines = true
is_range many.Range = true
is_range many.Whole = true
is_range _ = false

-- the first line of a command's range has a greater number than the last one
abbrev pub is_backward : Command → Bool
is_backward c = is_reversed c.addresses && is_range (takes c.verb).taking
