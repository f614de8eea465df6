-- The 32 names of a zone, each by its place from 0 to 31: the number by which the definitions of zones speak of it.
use Rattle.std.specs.Prelude.{ℕ, ◌+◌}

-- the number 0
abbrev pub zero : ℕ
zero = 0

-- the current line
abbrev pub current_line : ℕ
current_line = 1

-- the last line
abbrev pub last_line : ℕ
last_line = 2

-- a command's first address, its second, and the address that it moves or copies lines to
abbrev pub first_address : ℕ
first_address = 3

abbrev pub second_address : ℕ
second_address = 4

abbrev pub target_address : ℕ
target_address = 5

-- the line that a letter marks, by the letter's place among the letters: the marks follow the other names
abbrev pub mark : (letter : ℕ) → ℕ
mark letter = 6 + letter
