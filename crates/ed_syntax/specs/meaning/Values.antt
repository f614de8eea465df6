-- The values of addresses (XCU ed, "Addresses in ed").
use Rattle.std.specs.Prelude.{ℕ, zero, suc, ◌+◌, ◌-◌, max, ℤ, pos, negsuc, ◌+ℤ◌, Bool, true, false, List, [], ◌∷◌, ◌++◌, reverse, find, Option, Some, None, is_some, ok_or, Result, Ok, Err, nat_le, slice_index_or}
use Rattle.bre_parse.specs.Grammar.{pattern}
use Rattle.bre_parse.specs.Match.{match_from}
use Rattle.ed_base.specs.Buffer.{Line, plain_line, marked_place}
use Rattle.ed_base.specs.declared.fault.Fault.{Fault}
use Rattle.ed_base.specs.declared.fault.Fault.TheVariants as fault
use Rattle.ed_syntax.specs.Commands.{Base, Number, Current, Last, Marked, Forward, Backward, Address, Addresses, Without, One, Comma, Semicolon}
use Rattle.ed_syntax.specs.meaning.States.{State, last}

-- one step, and then another unless the first has met a fault
infixl 10 ◌>>◌
abbrev pub ◌>>◌ : {A B : Type 0} → Result A Fault → (A → Result B Fault) → Result B Fault
(Ok x) >> f = f x
(Err e) >> f = Err e

-- whether a pattern matches somewhere in a line; a text that is no pattern matches nowhere
abbrev pub matches : (pattern line : List ℕ) → Bool
matches text line = elim (pattern text) [ Ok tree ↦ is_some (match_from tree line 0) | Err fault ↦ false ]

-- whether a pattern matches the line of this number, counted from 1
abbrev pub matches_line : List ℕ → List Line → ℕ → Bool
matches_line text lines n = matches text (slice_index_or lines (n - 1) (plain_line [])).bytes

-- so many numbers, from this one up
abbrev pub count_from : (first count : ℕ) → List ℕ
count_from first zero = []
count_from first (suc count) = first ∷ count_from (first + 1) count

-- the numbers from a up to b, none where b is less
abbrev pub upwards : (a b : ℕ) → List ℕ
upwards a b = count_from a (b + 1 - a)

-- the lines after the current one, and then from the first on up to the current one
abbrev pub lines_forward : State → List ℕ
lines_forward s = upwards (s.current + 1) (last s) ++ upwards 1 s.current

-- the lines before the current one downwards, and then from the last one down to the current one
abbrev pub lines_backward : State → List ℕ
lines_backward s = reverse (upwards 1 (s.current - 1)) ++ reverse (upwards (max 1 s.current) (last s))

-- the pattern that a search looks for: its own, or the remembered one
abbrev pub sought : Option (List ℕ) → State → Option (List ℕ)
sought (Some text) s = Some text
sought None s = s.pattern

-- the pattern that a command looks for: its own, or the remembered one, which has to be there
abbrev pub used_pattern : Option (List ℕ) → State → Result (List ℕ) Fault
used_pattern own s = ok_or (sought own s) fault.Pattern

-- the first of these lines that the pattern matches
abbrev pub searched : Option (List ℕ) → List ℕ → State → Result ℕ Fault
searched None order s = Err fault.Pattern
searched (Some text) order s = ok_or (find (matches_line text s.lines) order) fault.NoMatch

-- the line of a mark
abbrev pub line_at : Option ℕ → Result ℕ Fault
line_at None = Err fault.Mark
line_at (Some place) = Ok (place + 1)

-- the line that a base stands for
abbrev pub base_number : Base → State → Result ℕ Fault
base_number (Number n) s = Ok n
base_number Current s = Ok s.current
base_number Last s = Ok (last s)
base_number (Marked letter) s = line_at (marked_place letter s.lines)
base_number (Forward pattern) s = searched (sought pattern s) (lines_forward s) s
base_number (Backward pattern) s = searched (sought pattern s) (lines_backward s) s

-- the pattern that is remembered once a base was looked at: that of its search, whether or not a line was found
abbrev pub remembered : Base → State → Option (List ℕ)
remembered (Number n) s = s.pattern
remembered Current s = s.pattern
remembered Last s = s.pattern
remembered (Marked letter) s = s.pattern
remembered (Forward pattern) s = sought pattern s
remembered (Backward pattern) s = sought pattern s

-- a value lies from 0 to the last line
abbrev pub within : State → ℤ → Result ℕ Fault
within s (pos n) = elim (nat_le n (last s)) [ true ↦ Ok n | false ↦ Err fault.Address ]
within s (negsuc n) = Err fault.Address

-- an address's value: its base plus the sum of its offsets, or the first fault that is met
abbrev pub value : Address → State → Result ℕ Fault
value a s = base_number a.base s >> λ n. within s (pos n +ℤ a.offset)

-- the state once an address was evaluated
abbrev pub evaluated : Address → State → State
evaluated a s = record s { pattern = remembered a.base s }

-- the state after a `;`, where the first address's value is the current line
abbrev pub moved : ℕ → State → State
moved n s = record s { current = n }

-- the values of the addresses before a command, first to last, and the state once they were evaluated
abbrev pub values : Addresses → State → Result (State × List ℕ) Fault
values Without s = Ok (s, [])
values (One a) s = value a s >> λ n. Ok (evaluated a s, n ∷ [])
values (Comma a b) s = value a s >> λ n. value b (evaluated a s) >> λ m. Ok (evaluated b (evaluated a s), n ∷ m ∷ [])
values (Semicolon a None) s = value a s >> λ n. Ok (moved n (evaluated a s), n ∷ n ∷ [])
values (Semicolon a (Some b)) s =
    value a s >> λ n.
    let after = moved n (evaluated a s) in
    value b after >> λ m. Ok (evaluated b after, n ∷ m ∷ [])
