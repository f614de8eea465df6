-- Worked scripts, computed from their bytes.
use Rattle.std.specs.Prelude.{◌≡◌, refl, ℕ, map, pos, true, false, List, [], ◌∷◌, Some, None, codes}
use Rattle.ed_syntax.specs.declared.command.Sense.TheVariants as sense
use Rattle.ed_syntax.specs.Commands.{Number, Current, Last, Forward, Addresses, Without, One, Comma, Form, Plain, Numbered, Unambiguous, Verb, Append, Change, Delete, Insert, Mark, Move, Copy, LineNumber, Write, Global, HelpMode, QuitAnyway, Command, Script, alone, at_base}
use Rattle.ed_syntax.specs.reading.Reading.{script_of}
use Rattle.ed_syntax.proofs.meaning.Worked.{Row, row}

abbrev command : Addresses → Verb → Command
command given verb = record { addresses = given; verb = verb; suffix = None; listed = false }

abbrev with_suffix : Addresses → Verb → Form → Command
with_suffix given verb suffix = record { addresses = given; verb = verb; suffix = Some suffix; listed = false }

abbrev listed : Addresses → Verb → Command
listed given verb = record { addresses = given; verb = verb; suffix = None; listed = true }

abbrev whole : List Command → Script
whole commands = record { steps = map alone commands; fault = None }

abbrev faulty : List Command → ℕ → Script
faulty commands line = record { steps = map alone commands; fault = Some line }

scripts : List Row
scripts =
    row (script_of [] ≡ whole []) refl  -- no script
    ∷ row (script_of (codes ",p\n") ≡ whole (command (Comma (at_base (Number 1)) (at_base Last)) (Write Plain) ∷ [])) refl  -- whole buffer
    ∷ row (script_of (codes ".,d\n") ≡ whole (command (Comma (at_base Current) (at_base Current)) Delete ∷ [])) refl  -- same line twice
    ∷ row (script_of (codes "999999999d") ≡ whole (command (One (at_base (Number 999999999))) Delete ∷ [])) refl  -- greatest number
    ∷ row (script_of (codes "$a\n1d\n..\n.\nQ\n") ≡ whole (command (One (at_base Last)) (Append (codes "1d" ∷ codes ".." ∷ [])) ∷ command Without QuitAnyway ∷ [])) refl  -- text up to dot
    ∷ row (script_of (codes "a\nx") ≡ whole (command Without (Append (codes "x" ∷ [])) ∷ [])) refl  -- text up to end
    -- a fault's line is that of the whole script, counted from 1; nothing after it is read
    ∷ row (script_of (codes "a\nx\n.\np\nz\nQ\n") ≡ faulty (command Without (Append (codes "x" ∷ [])) ∷ command Without (Write Plain) ∷ []) 5) refl  -- fault after text
    ∷ row (script_of (codes "z\np\n") ≡ faulty [] 1) refl  -- fault on first line
    ∷ row (script_of (codes "p\nz") ≡ faulty (command Without (Write Plain) ∷ []) 2) refl  -- fault on last line
    ∷ row (script_of (codes "1234567890d\n") ≡ faulty [] 1) refl  -- no digits too many
    ∷ []

-- a target ends where its address does, and a suffix stands directly after it
suffixes_of_targets : List Row
suffixes_of_targets =
    row (script_of (codes "1m3p\n") ≡ whole (with_suffix (One (at_base (Number 1))) (Move (at_base (Number 3))) Plain ∷ [])) refl  -- suffix after target
    ∷ row (script_of (codes "m3 p\n") ≡ faulty [] 1) refl  -- no suffix after blank
    ∷ row (script_of (codes "1m/x/p\n") ≡ whole (with_suffix (One (at_base (Number 1))) (Move (at_base (Forward (Some (codes "x"))))) Plain ∷ [])) refl  -- suffix after searched target
    ∷ row (script_of (codes "m/xp\n") ≡ whole (command Without (Move (at_base (Forward (Some (codes "xp"))))) ∷ [])) refl  -- letter in open pattern
    ∷ row (script_of (codes "t + n\n") ≡ faulty [] 1) refl  -- suffix after offset
    ∷ row (script_of (codes "t +n\t\n") ≡ whole (with_suffix Without (Copy (record { base = Current; offset = pos 1 })) Numbered ∷ [])) refl  -- target with offset
    ∷ row (script_of (codes "tp\n") ≡ faulty [] 1) refl  -- suffix is no target
    ∷ row (script_of (codes "1m2,3\n") ≡ faulty [] 1) refl  -- one target
    ∷ []

-- a letter that marks comes before a suffix
suffixes : List Row
suffixes =
    row (script_of (codes "kp\nkpp\n") ≡ whole (command Without (Mark 15) ∷ with_suffix Without (Mark 15) Plain ∷ [])) refl  -- mark before suffix
    ∷ row (script_of (codes "lp\n") ≡ whole (with_suffix Without (Write Unambiguous) Plain ∷ [])) refl  -- suffix after form
    ∷ row (script_of (codes "lpn\n") ≡ faulty [] 1) refl  -- one suffix
    ∷ row (script_of (codes "Hp\n") ≡ whole (with_suffix Without HelpMode Plain ∷ [])) refl  -- suffix after mode
    ∷ row (script_of (codes "2cp\nx\n.\n0i\ny") ≡ whole (with_suffix (One (at_base (Number 2))) (Change (codes "x" ∷ [])) Plain ∷ command (One (at_base (Number 0))) (Insert (codes "y" ∷ [])) ∷ [])) refl  -- suffix before text
    -- the fault of a list is one of its global command
    ∷ row (script_of (codes "p\ng/a/p\\\nx\\\np\nQ\n") ≡ faulty (command Without (Write Plain) ∷ []) 2) refl  -- fault in a list
    ∷ []

global_with_a_list : script_of (codes "1,2v//d\\\n.=") ≡ record {
  steps = record {
    command = command (Comma (at_base (Number 1)) (at_base (Number 2))) (Global sense.Others None);
    list = listed Without Delete ∷ listed (One (at_base Current)) LineNumber ∷ [];
  } ∷ [];
  fault = None;
}
global_with_a_list = refl

list_left_out : script_of (codes "g/a") ≡ record { steps = record { command = command Without (Global sense.Matching (Some (codes "a"))); list = listed Without (Write Plain) ∷ [] } ∷ []; fault = None }
list_left_out = refl
