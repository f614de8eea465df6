-- What the commands on files do (XCU ed, "Edit Command", "Filename Command", "Quit Command", "Read Command", "Write Command").
use Rattle.std.specs.Prelude.{ℕ, true, false, Bool, not, ◌&&◌, List, [], ◌∷◌, ◌++◌, map, length, Option, Some, None, unwrap_or, ok_or, Result, Ok, Err, nat_eq}
use Rattle.ed_base.specs.Buffer.{plain_line, texts}
use Rattle.ed_base.specs.Lines.{newline, lines_of, bytes_of}
use Rattle.ed_base.specs.Parts.{between}
use Rattle.ed_base.specs.declared.fault.Fault.{Fault}
use Rattle.ed_base.specs.declared.fault.Fault.TheVariants as fault
use Rattle.ed_syntax.specs.declared.request.Answer.{Answer}
use Rattle.ed_syntax.specs.declared.request.Answer.TheVariants as answer
use Rattle.ed_syntax.specs.declared.request.Request.TheVariants as request
use Rattle.ed_syntax.specs.meaning.States.{State, Nothing, last}
use Rattle.ed_syntax.specs.meaning.Values.{◌>>◌}
use Rattle.ed_syntax.specs.meaning.Ranges.{Span}
use Rattle.ed_syntax.specs.meaning.Effects.{Outcome, Effect, Makes, Asks, only, entered}

-- the given path, or the remembered one
abbrev pub used_path : Option (List ℕ) → State → Result (List ℕ) Fault
used_path (Some path) s = Ok path
used_path None s = ok_or s.name fault.Name

-- this path is remembered where none is
abbrev pub named_first : (path : List ℕ) → State → State
named_first path s = record s { name = Some (unwrap_or s.name path) }

-- the bytes of a file; one that is missing is refused
abbrev pub bytes_read : Answer → Result (List ℕ) Fault
bytes_read (answer.Bytes bytes) = Ok bytes
bytes_read _ = Err fault.File

-- what is made of a file's bytes, which are asked for first
abbrev pub with_bytes : (path : List ℕ) → Option Answer → (List ℕ → Outcome) → Result Effect Fault
with_bytes path None make = Ok (Asks (request.Read path))
with_bytes path (Some given) make = bytes_read given >> λ bytes. Ok (Makes (make bytes))

-- `r`: the lines of a file after the addressed line
abbrev pub read : Option (List ℕ) → Option Answer → Span → State → Result Effect Fault
read path given x s = used_path path s >> λ used. with_bytes used given (λ bytes. entered x.first (lines_of bytes) (named_first used s))

-- these are all lines
abbrev pub is_whole : Span → State → Bool
is_whole x s = nat_eq x.first 1 && nat_eq x.last (last s)

-- the lines were written; where they are all lines, nothing is left to be saved
abbrev pub written_to : (path : List ℕ) → Answer → Span → State → Result Effect Fault
written_to path answer.Done x s = Ok (Makes (only (record (named_first path s) { changed = s.changed && not (is_whole x s) }) []))
written_to path _ x s = Err fault.File

-- what is made of the answer to a write, which is asked for first
abbrev pub with_lines : (path : List ℕ) → Option Answer → Span → State → Result Effect Fault
with_lines path None x s = Ok (Asks (request.Write path (bytes_of (texts (between x.first x.last s.lines)))))
with_lines path (Some given) x s = written_to path given x s

-- `w`: the addressed lines are what the file then has
abbrev pub write : Option (List ℕ) → Option Answer → Span → State → Result Effect Fault
write path given x s = used_path path s >> λ used. with_lines used given x s

-- the lines of a file's bytes in place of all, the last one current; marks and undo are gone, and no global command goes on
abbrev pub loaded : (bytes path : List ℕ) → State → State
loaded bytes path s =
    let lines = map plain_line (lines_of bytes) in
    record s { lines = lines; current = length lines; name = Some path; changed = false; past = Nothing; global = None }

-- `E`: a file in place of the buffer
abbrev pub edit_anyway : Option (List ℕ) → Option Answer → State → Result Effect Fault
edit_anyway path given s = used_path path s >> λ used. with_bytes used given (λ bytes. only (loaded bytes used s) [])

-- a buffer that was changed is refused
abbrev pub saved : State → Result State Fault
saved s = elim s.changed [ true ↦ Err fault.Unsaved | false ↦ Ok s ]

-- `e`: the same where the buffer is saved
abbrev pub edit : Option (List ℕ) → Option Answer → State → Result Effect Fault
edit path given s = used_path path s >> λ used. saved s >> edit_anyway (Some used) given

-- `f`: the given path is remembered, and the remembered one is written
abbrev pub file_name : Option (List ℕ) → State → Result Outcome Fault
file_name path s = used_path path s >> λ used. Ok (only (record s { name = Some used }) (used ++ newline ∷ []))

-- `q`: nothing, where the buffer is saved
abbrev pub quit : State → Result Outcome Fault
quit s = saved s >> λ t. Ok (only t [])
