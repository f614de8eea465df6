-- An editor as a value: what it holds, and the fault that it has failed by.
use Rattle.std.specs.Prelude.{ℕ, ◌≡◌, ◌≢◌, ◌+◌, ◌≤◌, true, false, ◌&&◌, List, [], ◌∷◌, ◌++◌, map, nat_le, Option, Some, None, Result, Ok, Err, IsOkAnd, MatchResult}
use Rattle.ed_base.specs.Buffer.{Line, plain_line, texts}
use Rattle.ed_base.specs.declared.fault.Fault.{Fault}
use Rattle.ed_base.specs.declared.fault.Fault.TheVariants.{Destination, Memory}
use Rattle.ed_syntax.specs.Commands as ed
use Rattle.ed_syntax.specs.meaning.States.{State, Kept, kept, opening}
use Rattle.ed_syntax.specs.declared.verbs.Taking.{Taking}
use Rattle.ed_syntax.specs.declared.verbs.Taking.TheVariants as many
use Rattle.ed_syntax.specs.meaning.Values.{◌>>◌}
use Rattle.ed_syntax.specs.meaning.Ranges as ranges
use Rattle.ed_syntax.specs.meaning.Effects.{Outcome, Effect, Makes, Asks, place_left}
use Rattle.ed_syntax.specs.meaning.Files.{used_path, named_first}
use Rattle.ed_syntax.specs.meaning.Globals.{flags, opened}
use Rattle.ed_syntax.specs.meaning.Applied.{Placed, settled, suffix_written}
use Rattle.ed_commands.specs.Earlier.{kept_lines}
use Rattle.ed_commands.specs.declared.editor.globals.Begun.{Begun}
use Rattle.ed_commands.specs.declared.editor.Reply.{Reply}
use Rattle.ed_commands.specs.declared.editor.Reply.TheVariants as reply
use Rattle.ed_commands.specs.declared.editor.past.Before.{Before}
use Rattle.ed_commands.specs.declared.editor.addressing.Addressed.{Addressed}
use Rattle.ed_commands.specs.declared.editor.addressing.Span.{Span}
use Rattle.ed_commands.specs.declared.editor.addressing.Values.{Values}
use Rattle.ed_commands.specs.declared.editor.addressing.Values.TheVariants as these

-- what an editor is
pub record EditorValue : Type 0 where
  pub state : State
  pub failed : Option Fault

abbrev pub opening_value : EditorValue
opening_value = record { state = opening; failed = None }

-- a call told what was expected, or the expected fault; or it was out of memory
abbrev pub Tells : {A B : Type 0} → (A → B) → Result B Fault → Result A Fault → Type 0
Tells value expected result = MatchResult result (λ x. expected ≡ Ok (value x)) (λ fault. fault ≢ Memory → expected ≡ Err fault)

-- a step gave what was expected and left the state that was expected; or the expected fault; or it was out of memory
abbrev pub Steps : {A B : Type 0} → (A → B) → Result (State × B) Fault → Result A Fault → State → Type 0
Steps value expected result new = Tells (λ x. (new, value x)) expected result

-- A reply to a command of this effect: what it wrote, where it left the state that was expected; or the request that it makes
-- first, where nothing has changed.
abbrev pub Replies : (old new : State) → Reply → Effect → Type 0
Replies old new (reply.Done output) (Makes o) = (new ≡ o.state) × (output ≡ o.output)
Replies old new (reply.Done output) (Asks request) = ⊥
Replies old new (reply.Wants request) (Makes o) = ⊥
Replies old new (reply.Wants request) (Asks asked) = (request ≡ asked) × (new ≡ old)

-- what came of a command: a reply to its effect, or the expected fault; or it was out of memory
abbrev pub Applied : Result Effect Fault → Result Reply Fault → (old new : State) → Type 0
Applied expected result old new =
    MatchResult result (λ r. IsOkAnd expected (Replies old new r)) (λ fault. fault ≢ Memory → expected ≡ Err fault)

-- a line was told that was expected, or the expected fault, and in both cases this state was left; or it was out of memory
abbrev pub TellsLine : Result ℕ Fault → State → Result ℕ Fault → State → Type 0
TellsLine expected after result new =
    MatchResult result (λ line. (expected ≡ Ok line) × (new ≡ after)) (λ fault. fault ≢ Memory → (expected ≡ Err fault) × (new ≡ after))

-- the state where this pattern is remembered
abbrev pub with_pattern : Option (List ℕ) → State → State
with_pattern pattern s = record s { pattern = pattern }

-- an editor that differs from another by the remembered pattern at most
abbrev pub SameButPattern : EditorValue → EditorValue → Type 0
SameButPattern old new = new ≡ record { state = record old.state { pattern = new.state.pattern }; failed = old.failed }

-- the first fault stays
abbrev pub failure_of : {R : Type 0} → Option Fault → Result R Fault → Option Fault
failure_of (Some fault) result = Some fault
failure_of None (Ok r) = None
failure_of None (Err fault) = Some fault

-- the values of addresses as a list
abbrev pub list_of_values : Values → List ℕ
list_of_values these.Without = []
list_of_values (these.One only) = only ∷ []
list_of_values (these.Two first second) = first ∷ second ∷ []

-- the lines of a public span
abbrev pub span_value : Span → ranges.Span
span_value x = record { first = x.first; last = x.last }

-- what the addresses of a command name, and the state once they were evaluated
abbrev pub placed_value : State → Addressed → Placed
placed_value s a = record { state = s; span = span_value a.span; target = a.target }

-- a span where a command that takes so many addresses may be applied, in a buffer of so many lines
abbrev pub Fits : Taking → Span → ℕ → Type 0
Fits many.NoAddress x last = Unit {0}
Fits many.Place x last = x.first ≤ last
Fits many.FirstPlace x last = (1 ≤ x.first) × (x.first ≤ last + 1)
Fits many.OneLine x last = (1 ≤ x.first) × (x.first ≤ x.last) × (x.last ≤ last)
Fits many.Lines x last = (1 ≤ x.first) × (x.first ≤ x.last) × (x.last ≤ last)
Fits many.Range x last = (1 ≤ x.first) × (x.first ≤ x.last) × (x.last ≤ last)
Fits many.Whole x last = (1 ≤ x.first) × (x.first ≤ x.last + 1) × (x.last ≤ last)

-- lines that no letter marks
abbrev pub AreNew : List Line → Type 0
AreNew lines = map plain_line (texts lines) ≡ lines

-- the line of the others after which the lines of a span go, where the target isn't one of them
abbrev pub place_beside : ranges.Span → (target : ℕ) → Result ℕ Fault
place_beside x target = elim (nat_le x.first target && nat_le target x.last) [ true ↦ Err Destination | false ↦ Ok (place_left x target) ]

-- the buffer as undo keeps it, where this line was current, or the last one where there are fewer
abbrev pub kept_at : (current : ℕ) → State → Kept
kept_at current s = kept_lines current s.lines

-- the state that an outcome leaves, where the command came from this line, in a list or not
abbrev pub left_by : Before → State → Outcome → State
left_by b s o = settled b.listed (kept_at b.current s) o

-- what an effect leaves and writes before a suffix
abbrev pub Leaves : Before → (old new : State) → (output : List ℕ) → Effect → Type 0
Leaves b old new output (Makes o) = (new ≡ left_by b old o) × (output ≡ o.output)
Leaves b old new output (Asks request) = ⊥

-- some output, and after it what a suffix writes
abbrev pub suffixed : List ℕ → Option ed.Form → State → Result (List ℕ) Fault
suffixed output suffix s = suffix_written suffix s >> λ more. Ok (output ++ more)

-- the state in which the path that a command uses is remembered where none was, or why there is none
abbrev pub naming : Option (List ℕ) → State → Result State Fault
naming path s = used_path path s >> λ used. Ok (named_first used s)

-- A global command begins: its list is run on the state that its own effect leaves, in which so many lines have the flag, and after
-- what that wrote.
abbrev pub BeginsBy : (old new : State) → Begun → Effect → Type 0
BeginsBy old new begun (Makes o) = (new ≡ opened (kept old) o.state) × (begun.lines ≡ flags o.state) × (begun.output ≡ o.output)
BeginsBy old new begun (Asks request) = ⊥

-- what came of its beginning, or the expected fault; or it was out of memory
abbrev pub Begins : Result Effect Fault → Result Begun Fault → (old new : State) → Type 0
Begins expected result old new =
    MatchResult result (λ begun. IsOkAnd expected (BeginsBy old new begun)) (λ fault. fault ≢ Memory → expected ≡ Err fault)
