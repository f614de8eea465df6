-- What a run holds, has written and waits for, and how it ends (XCU ed, "Stdout", "Consequences of Errors").
use Rattle.std.specs.Prelude.{ℕ, zero, suc, ◌+◌, ◌≡◌, ◌⊎◌, Bool, true, false, List, [], ◌∷◌, ◌++◌, length, take, codes, decimal, Result, Ok, Err}
use Rattle.ed_base.specs.Fault.{text_of}
use Rattle.ed_base.specs.Lines.{newline}
use Rattle.ed_base.specs.declared.fault.Fault.{Fault}
use Rattle.ed_base.specs.declared.fault.Fault.TheVariants as fault
use Rattle.ed_syntax.specs.declared.request.Answer.{Answer}
use Rattle.ed_syntax.specs.declared.request.Answer.TheVariants as answer
use Rattle.ed_syntax.specs.declared.request.Request.{Request}
use Rattle.ed_syntax.specs.declared.request.Request.TheVariants as request
use Rattle.ed_syntax.specs.declared.options.Ending.{Ending}
use Rattle.ed_syntax.specs.meaning.States.{State, last}

-- what a run holds beside its commands
pub record Present : Type 0 where
  pub state : State
  pub silent : Bool
  pub prompting : Bool
  pub prompt : List ℕ
  pub help : Bool

-- where a run stands: it waits for an answer, or has ended
pub data Stop : Type 0 where
  Waits : Request → Stop
  Ends : Result Ending Fault → Stop

-- A run from some point on, step by step: a prompt, a command, a report is written, a request is answered, and at last it stops.
-- Each is in the help mode of its point.
pub data Progress : Type 0 where
  Stops : (help : Bool) → Stop → Progress
  Writes : (help : Bool) → (output : List ℕ) → Progress → Progress
  Hears : (help : Bool) → Request → Progress → Progress

-- what is left of a run, for the answers to come
abbrev pub Rest : Type 0
Rest = List Answer → Progress

-- all that is written
abbrev pub output_of : Progress → List ℕ
output_of (Stops help stop) = []
output_of (Writes help output p) = output ++ output_of p
output_of (Hears help r p) = output_of p

-- the requests that were answered
abbrev pub asked_of : Progress → List Request
asked_of (Stops help stop) = []
asked_of (Writes help output p) = asked_of p
asked_of (Hears help r p) = r ∷ asked_of p

-- where it stands at last
abbrev pub stop_of : Progress → Stop
stop_of (Stops help stop) = stop
stop_of (Writes help output p) = stop_of p
stop_of (Hears help r p) = stop_of p

-- what is written of the fault that ends a run, in help mode also its text
abbrev pub report : Bool → Fault → List ℕ
report true f = codes "?" ++ newline ∷ (text_of f ++ newline ∷ [])
report false f = codes "?" ++ newline ∷ []

-- a fault ends a run in some help mode, after a part of what was to be written
abbrev pub broken_off : (help : Bool) → (part : List ℕ) → Fault → Progress
broken_off help part f = Writes help (part ++ report help f) (Stops help (Ends (Err f)))

-- a fault is reported, and ends the run
abbrev pub failing : Present → Fault → Progress
failing m f = broken_off m.help [] f

-- the run ends without a fault
abbrev pub ending : Present → Progress
ending m = Stops m.help (Ends (Ok (record { lines = last m.state })))

-- the end of the script is a `q`, which a changed buffer refuses
abbrev pub quitting : Present → Progress
quitting m = elim m.state.changed [ true ↦ failing m fault.Unsaved | false ↦ ending m ]

-- The run cut at a step, where memory ran out: all that came before it, so many bytes of what it would have written, and the
-- report in the help mode of that point. One that has ended by a fault is cut no more.
abbrev pub cut : (steps bytes : ℕ) → Progress → Progress
cut steps bytes (Stops help (Ends (Err f))) = Stops help (Ends (Err f))
cut steps bytes (Stops help stop) = broken_off help [] fault.Memory
cut zero bytes (Writes help output p) = broken_off help (take bytes output) fault.Memory
cut (suc steps) bytes (Writes help output p) = Writes help output (cut steps bytes p)
cut zero bytes (Hears help r p) = broken_off help [] fault.Memory
cut (suc steps) bytes (Hears help r p) = Hears help r (cut steps bytes p)

-- Memory ran out at one of the steps of a run: what was written and asked is that of the run cut there.
pub record RunsOut (whole : Progress) (output : List ℕ) (asked : List Request) : Type 0 where
  pub steps : ℕ
  pub bytes : ℕ
  pub lost : stop_of (cut steps bytes whole) ≡ Ends (Err fault.Memory)
  pub written : output ≡ output_of (cut steps bytes whole)
  pub answered : asked ≡ asked_of (cut steps bytes whole)

-- a front of some output, and after it the report of memory that ran out
pub record FrontAndReport (whole output : List ℕ) : Type 0 where
  pub front : List ℕ
  pub unwritten : List ℕ
  pub help : Bool
  pub begins : whole ≡ front ++ unwritten
  pub reported : output ≡ front ++ report help fault.Memory

-- a run that is cut wrote a front of its output and the report, or had ended by a fault before
abbrev pub CutsToAFront : Type 0
CutsToAFront = (steps bytes : ℕ) (p : Progress) → (cut steps bytes p ≡ p) ⊎ FrontAndReport (output_of p) (output_of (cut steps bytes p))

-- the count of bytes that were read or written, unless the run is silent
abbrev pub count : Bool → Request → Answer → List ℕ
count false (request.Read path) (answer.Bytes bytes) = decimal (length bytes) ++ newline ∷ []
count false (request.Write path bytes) a = decimal (length bytes) ++ newline ∷ []
count silent r a = []

-- a step of a run that is over
pub data Event : Type 0 where
  Wrote : (help : Bool) → (output : List ℕ) → Event
  Heard : (help : Bool) → Request → Event

-- a run after these steps
abbrev pub after : List Event → Progress → Progress
after [] p = p
after (Wrote help output ∷ events) p = Writes help output (after events p)
after (Heard help r ∷ events) p = Hears help r (after events p)

-- a run that is cut after some of its steps is cut in what is left of it
abbrev pub CutsAfter : Type 0
CutsAfter = (events : List Event) (steps bytes : ℕ) (p : Progress) →
    cut (length events + steps) bytes (after events p) ≡ after events (cut steps bytes p)
