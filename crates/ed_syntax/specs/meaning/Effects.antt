-- What each command does to the buffer (XCU ed, "Commands in ed").
use Rattle.std.specs.Prelude.{ℕ, ◌+◌, ◌-◌, Bool, true, false, ◌&&◌, List, [], ◌∷◌, ◌++◌, map, length, min, decimal, nat_le, nat_lt, Result, Ok, Err}
use Rattle.std.specs.List.{concat}
use Rattle.ed_base.specs.Buffer.{Line, plain_line, texts, marked_at}
use Rattle.ed_base.specs.Lines.{newline}
use Rattle.ed_base.specs.Parts.{between, replaced, inserted}
use Rattle.ed_base.specs.declared.fault.Fault.{Fault}
use Rattle.ed_base.specs.declared.fault.Fault.TheVariants as fault
use Rattle.ed_syntax.specs.declared.request.Request.{Request}
use Rattle.ed_syntax.specs.Commands.{Form}
use Rattle.ed_syntax.specs.meaning.States.{State, Past, Nothing, Same, Was, kept, last}
use Rattle.ed_syntax.specs.meaning.Forms.{lines_written}
use Rattle.ed_syntax.specs.meaning.Ranges.{Span}

-- the state after a command, what it wrote, and whether it changed the buffer
pub record Outcome : Type 0 where
  pub state : State
  pub output : List ℕ
  pub alters : Bool

-- an outcome, or a file that is asked for first
pub data Effect : Type 0 where
  Makes : Outcome → Effect
  Asks : Request → Effect

-- the buffer was changed
abbrev pub altered : List Line → ℕ → State → Outcome
altered lines current s = record { state = record s { lines = lines; current = current }; output = []; alters = true }

-- the buffer stays
abbrev pub only : State → List ℕ → Outcome
only s output = record { state = s; output = output; alters = false }

-- the buffer stays, and this line is current
abbrev pub at_line : ℕ → State → State
at_line n s = record s { current = n }

-- lines entered after line a, the last one current; without any, line a is current
abbrev pub entered : ℕ → List (List ℕ) → State → Outcome
entered a [] s = only (at_line a s) []
entered a (text ∷ more) s = altered (inserted a (map plain_line (text ∷ more)) s.lines) (a + length (text ∷ more)) s

-- `a`: the text after the addressed line
abbrev pub append : List (List ℕ) → Span → State → Outcome
append text x s = entered x.first text s

-- `i`: the text before the addressed line; without any, that line is current where it is there
abbrev pub insert : List (List ℕ) → Span → State → Outcome
insert [] x s = only (at_line (min x.first (last s)) s) []
insert (text ∷ more) x s = entered (x.first - 1) (text ∷ more) s

-- `d`: the line after those deleted is current, or the new last line if there is none
abbrev pub delete : Span → State → Outcome
delete x s = let left = replaced x.first x.last [] s.lines in altered left (min x.first (length left)) s

-- `c`: the text in place of the lines, its last line current; without any they are deleted
abbrev pub change : List (List ℕ) → Span → State → Outcome
change [] x s = delete x s
change (text ∷ more) x s =
    altered (replaced x.first x.last (map plain_line (text ∷ more)) s.lines) (x.first - 1 + length (text ∷ more)) s

-- `j`: one line of their bytes in place of the lines; of one line nothing
abbrev pub join : Span → State → Outcome
join x s =
    elim (nat_lt x.first x.last) [
      | true ↦ altered (replaced x.first x.last (plain_line (concat (texts (between x.first x.last s.lines))) ∷ []) s.lines) x.first s
      | false ↦ only s []
    ]

-- the line after which lines from a to b are put once they were taken out
abbrev pub place_left : Span → (target : ℕ) → ℕ
place_left x target = elim (nat_le target x.last) [ true ↦ target | false ↦ target - (x.last + 1 - x.first) ]

-- `m`: the lines after the target line, with their marks; the last one is current
abbrev pub move : Span → (target : ℕ) → State → Result Outcome Fault
move x target s =
    let moved = between x.first x.last s.lines in
    let place = place_left x target in
    elim (nat_le x.first target && nat_le target x.last) [
      | true ↦ Err fault.Destination
      | false ↦ Ok (altered (inserted place moved (replaced x.first x.last [] s.lines)) (place + length moved) s)
    ]

-- `t`: copies of the lines after the target line, without marks; the last one is current
abbrev pub copy : Span → (target : ℕ) → State → Outcome
copy x target s = entered target (texts (between x.first x.last s.lines)) s

-- `k`: the letter marks the addressed line, and no other
abbrev pub mark : (letter : ℕ) → Span → State → Outcome
mark letter x s = only (record s { lines = marked_at (x.last - 1) letter s.lines }) []

-- `=`: the number of the addressed line
abbrev pub line_number : Span → State → Outcome
line_number x s = only s (decimal x.last ++ newline ∷ [])

-- `l`, `n` and `p`, and the null command: the last line written is current
abbrev pub write : Form → Span → State → Outcome
write form x s = only (at_line x.last s) (lines_written form x.first x.last s.lines)

-- `u`: the buffer that undo keeps in place of the present one, which it then keeps
abbrev pub undo : Past → State → Result Outcome Fault
undo Nothing s = Err fault.Undo
undo Same s = Ok (only s [])
undo (Was before) s = Ok (only (record s { lines = before.lines; current = before.current; changed = true; past = Was (kept s) }) [])
