-- Substitution on a range of lines, and what `s` remembers (XCU ed, "Substitute Command").
use Rattle.std.specs.Prelude.{ℕ, ◌+◌, ◌-◌, Bool, true, false, ◌&&◌, List, [], ◌∷◌, ◌++◌, map, length, Option, Some, None, option_map, unwrap_or, ok_or, Result, Ok, Err}
use Rattle.std.specs.List.{list_any}
use Rattle.bre_parse.specs.Grammar.{pattern}
use Rattle.ed_base.specs.Buffer.{Line, plain_line}
use Rattle.ed_base.specs.Parts.{between, replaced}
use Rattle.ed_base.specs.declared.fault.Fault.{Fault}
use Rattle.ed_base.specs.declared.fault.Fault.TheVariants as fault
use Rattle.ed_syntax.specs.declared.replacement.Part.{Part}
use Rattle.ed_syntax.specs.declared.replacement.Which.{Which}
use Rattle.ed_syntax.specs.Commands.{Form}
use Rattle.ed_syntax.specs.meaning.Verbs.{is_split}
use Rattle.ed_syntax.specs.meaning.States.{State}
use Rattle.ed_syntax.specs.meaning.Values.{◌>>◌, used_pattern}
use Rattle.ed_syntax.specs.meaning.Forms.{lines_written}
use Rattle.ed_syntax.specs.meaning.Ranges.{Span}
use Rattle.ed_syntax.specs.meaning.Substitution.{substituted}
use Rattle.ed_syntax.specs.meaning.Effects.{Outcome, altered, only}

-- the lines that a substitution by a pattern's text makes of a line; a text that is no pattern matches nowhere
abbrev pub made_of : (pattern : List ℕ) → List Part → Which → List ℕ → Option (List (List ℕ))
made_of text parts which line = elim (pattern text) [ Ok tree ↦ substituted tree parts which line | Err fault ↦ None ]

-- lines that result, and how many there are up to the last one that a substitution made, if there is one
abbrev pub Results : Type 0
Results = List Line × Option ℕ

-- a line that stays, or the lines that came of it, before what results of those that follow
abbrev pub onto : Line → Option (List (List ℕ)) → Results → Results
onto line None later = (line ∷ later.0, option_map (λ n. 1 + n) later.1)
onto line (Some texts) later = (map plain_line texts ++ later.0, Some (length texts + unwrap_or later.1 0))

-- what results of lines, each by itself; those that were made have no marks
abbrev pub each : (List ℕ → Option (List (List ℕ))) → List Line → Results
each f [] = ([], None)
each f (line ∷ lines) = onto line (f line.bytes) (each f lines)

-- the replacement of a command, or the remembered one, which in a list has no split (our choice)
abbrev pub used_replacement : (listed : Bool) → Option (List Part) → State → Result (List Part) Fault
used_replacement listed (Some parts) s = Ok parts
used_replacement listed None s =
    ok_or s.replacement fault.Replacement >> λ parts.
    elim (listed && list_any is_split parts) [ true ↦ Err fault.Replacement | false ↦ Ok parts ]

-- the line of this number in the form of the flag, if there is one
abbrev pub flag_written : Option Form → ℕ → List Line → List ℕ
flag_written None n lines = []
flag_written (Some form) n lines = lines_written form n n lines

-- The last line that a substitution made is current, and the flag writes it. Without any it is a fault, but not in a list (our choice).
abbrev pub made : (listed : Bool) → Option Form → Span → State → Results → Result Outcome Fault
made listed form x s (lines, None) = elim listed [ true ↦ Ok (only s []) | false ↦ Err fault.NoMatch ]
made listed form x s (lines, Some n) =
    let all = replaced x.first x.last lines s.lines in
    let current = x.first - 1 + n in
    Ok (record (altered all current s) { output = flag_written form current all })

-- `s`: replacement and pattern are remembered once there are both
abbrev pub substitute : (listed : Bool) → Option (List ℕ) → Option (List Part) → Which → Option Form → Span → State → Result Outcome Fault
substitute listed pattern replacement which form x s =
    used_replacement listed replacement s >> λ parts.
    used_pattern pattern s >> λ text.
    made listed form x (record s { pattern = Some text; replacement = Some parts })
    (each (made_of text parts which) (between x.first x.last s.lines))
