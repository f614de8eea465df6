-- Worked rows of letters that a script doesn't name, and of letters that it names.
use Rattle.std.specs.Prelude.{◌≡◌, refl, ℕ, Bool, true, false, List, [], ◌∷◌, map, Option, Some, None, Ok, Err, codes}
use Rattle.std.specs.Fmt.{digits}
use Rattle.ed_base.specs.Buffer.{Line, plain_line, marked_place}
use Rattle.ed_base.specs.Lines.{lines_of}
use Rattle.ed_base.specs.declared.fault.Fault.{Fault}
use Rattle.ed_base.specs.declared.fault.Fault.TheVariants as fault
use Rattle.ed_syntax.specs.Commands.{Script}
use Rattle.ed_syntax.specs.meaning.States.{State, Kept, Past, Nothing, Same, Was, Open, opening}
use Rattle.ed_syntax.specs.meaning.Progress.{Ends}
use Rattle.ed_syntax.specs.meaning.Runs.{with_state, present, steps}
use Rattle.ed_syntax.specs.reading.Reading.{script_of}
use Rattle.ed_syntax.specs.meaning.Erasure.{script_names, state_without, lines_without, Marks, marked}
use Rattle.ed_syntax.proofs.meaning.Worked.{Seen, seen, unnamed, Row, row}

-- NAMES

-- whether a script names `a`, and whether it names `z`
abbrev names : List ℕ → Bool × Bool
names script = (script_names 0 (script_of script), script_names 25 (script_of script))

naming_rows : List Row
naming_rows =
    -- marks and addresses
    row (map names (codes "ka" ∷ codes "1kz" ∷ codes "'ap" ∷ codes "/x/,'z-1p" ∷ codes "'a;p" ∷ codes "1;'zp" ∷ []) ≡
    (true, false) ∷ (false, true) ∷ (true, false) ∷ (false, true) ∷ (true, false) ∷ (false, true) ∷ []) refl
    -- targets
    ∷ row (map names (codes "1m'a" ∷ codes "1t'z+2" ∷ codes "'am'z" ∷ []) ≡
    (true, false) ∷ (false, true) ∷ (true, true) ∷ []) refl
    -- lists
    ∷ row (map names (codes "g/x/ka" ∷ codes "g/x/s/x/y/\\\nm'z" ∷ codes "'z,$g/x/d" ∷ codes "v/x/.t'a" ∷ []) ≡
    (true, false) ∷ (false, true) ∷ (false, true) ∷ (true, false) ∷ []) refl
    -- a letter in a text, a pattern or a path isn't named
    ∷ row (map names (codes "a\n'a\n.\nkz" ∷ codes "/'a/d" ∷ codes "s/'z/ka/" ∷ codes "w ka" ∷ codes "a\nz\n" ∷ []) ≡
    (false, true) ∷ (false, false) ∷ (false, false) ∷ (false, false) ∷ (false, false) ∷ []) refl
    ∷ []

-- WITHOUT A LETTER

-- `a` marks line 2 and `z` line 3
abbrev three : List Line
three = marked ((0, 1) ∷ (25, 2) ∷ []) (map plain_line (codes "x" ∷ codes "y" ∷ codes "z" ∷ []))

abbrev places : List Line → List (Option ℕ)
places lines = map (λ letter. marked_place letter lines) (0 ∷ 25 ∷ [])

place_rows : List Row
place_rows =
    row (places three ≡ Some 1 ∷ Some 2 ∷ []) refl  -- marks are set
    ∷ row (places (lines_without 25 three) ≡ Some 1 ∷ None ∷ []) refl  -- one is taken off
    ∷ []

-- it is taken off what undo keeps, and off what a global command began with
abbrev before : Kept
before = record { lines = three; current = 2 }

abbrev busy : State
busy = record opening { lines = three; past = Was before; global = Some (record { before = before; altered = true }) }

abbrev open_places : Option Open → List (Option ℕ)
open_places None = []
open_places (Some g) = places g.before.lines

abbrev past_places : Past → List (Option ℕ)
past_places Nothing = []
past_places Same = []
past_places (Was kept) = places kept.lines

-- the places in the buffer, in what undo would bring back, and in what an open global command keeps
abbrev all_places : State → List (List (Option ℕ))
all_places s = places s.lines ∷ past_places s.past ∷ open_places s.global ∷ []

erasing_rows : List Row
erasing_rows =
    -- all are taken off
    row (all_places (state_without 0 busy) ≡
    (None ∷ Some 2 ∷ []) ∷ (None ∷ Some 2 ∷ []) ∷ (None ∷ Some 2 ∷ []) ∷ []) refl
    ∷ []

-- RUNS

-- a silent run over a file's lines on which these marks stand
abbrev over : Marks → List ℕ → List ℕ → Seen
over marks file script =
    let read : Script = script_of script in
    let start : State = record opening { lines = marked marks (map plain_line (lines_of file)); current = 3 } in
    seen (steps read.steps read.fault (with_state start (present unnamed)) [])

abbrev file : List ℕ
file = codes "x\ny\nz\n"

-- it wrote this and ended with so many lines, or by a fault
abbrev ends_with : List ℕ → ℕ → Seen
ends_with output lines = record { output = output; asked = []; stop = Ends (Ok (record { lines = lines })) }

abbrev fails_with : List ℕ → Fault → Seen
fails_with output f = record { output = output; asked = []; stop = Ends (Err f) }

named_rows : List Row
named_rows =
    row (over ((0, 1) ∷ []) file (codes "'ap\nQ\n") ≡ ends_with (codes "y\n") 3) refl  -- a letter that is named makes a difference
    ∷ row (over [] file (codes "'ap\nQ\n") ≡ fails_with (codes "?\n") fault.Mark) refl  -- named letter that marks none
    ∷ []

-- one that isn't makes none, on a line that is deleted, brought back, moved, copied, substituted and joined, by a script that names `z`
abbrev long : List ℕ
long = codes "2kz\n2d\nu\n2m0\n1t$\n2kz\ng/y/s/y/w/\\\n'zp\n1,2j\nu\n,p\nQ\n"

unnamed_rows : List Row
unfolding digits
unnamed_rows =
    row (over ((0, 1) ∷ []) file long ≡ ends_with (codes "x\nx\nw\nx\nz\nw\n") 4) refl  -- unnamed letter
    ∷ row (over [] file long ≡ ends_with (codes "x\nx\nw\nx\nz\nw\n") 4) refl  -- unnamed letter that marks none
    ∷ row (over ((0, 1) ∷ (1, 1) ∷ []) file long ≡ over [] file long) refl  -- two letters on one line
    ∷ []
