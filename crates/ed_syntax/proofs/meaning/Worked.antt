-- What is seen of a run, for worked rows.
use Rattle.std.specs.Prelude.{ℕ, Bool, true, List, [], ◌∷◌, Option, Some, None, Ok, Err, codes}
use Rattle.ed_base.specs.declared.fault.Fault.{Fault}
use Rattle.ed_syntax.specs.declared.options.Options.{Options}
use Rattle.ed_syntax.specs.declared.request.Answer.{Answer}
use Rattle.ed_syntax.specs.declared.request.Answer.TheVariants as answer
use Rattle.ed_syntax.specs.declared.request.Request.{Request}
use Rattle.ed_syntax.specs.declared.request.Request.TheVariants as request
use Rattle.ed_syntax.specs.reading.Reading.{script_of}
use Rattle.ed_syntax.specs.meaning.Progress.{Progress, Stop, Waits, Ends, output_of, asked_of, stop_of, cut}
use Rattle.ed_syntax.specs.meaning.Runs.{run}

-- what is seen of a run
pub record Seen : Type 0 where
  pub output : List ℕ
  pub asked : List Request
  pub stop : Stop

abbrev pub seen : Progress → Seen
seen p = record { output = output_of p; asked = asked_of p; stop = stop_of p }

-- a run on a file
abbrev pub options : Bool → Option (List ℕ) → Options
options silent prompt = record { silent = silent; prompt = prompt; path = Some (codes "F") }

-- a silent run without a file
abbrev pub unnamed : Options
unnamed = record { silent = true; prompt = None; path = None }

-- a run of a script with these answers
abbrev pub ran : List ℕ → Options → List Answer → Seen
ran script o answers = seen (run (script_of script) o answers)

-- a silent run of a script on a file
abbrev pub edited : List ℕ → List ℕ → Seen
edited file script = ran script (options true None) (answer.Bytes file ∷ [])

-- it wrote this output and asked this, and ended with so many lines or by a fault, or waits
abbrev pub ended : List ℕ → List Request → ℕ → Seen
ended output asked lines = record { output = output; asked = asked; stop = Ends (Ok (record { lines = lines })) }

abbrev pub failed : List ℕ → List Request → Fault → Seen
failed output asked f = record { output = output; asked = asked; stop = Ends (Err f) }

abbrev pub waiting : List ℕ → List Request → Request → Seen
waiting output asked r = record { output = output; asked = asked; stop = Waits r }

-- it read its file and asked no more
abbrev pub ends : List ℕ → ℕ → Seen
ends output lines = ended output (request.Read (codes "F") ∷ []) lines

abbrev pub fails : List ℕ → Fault → Seen
fails output f = failed output (request.Read (codes "F") ∷ []) f

-- a run that was cut at a step, so many bytes of which were written
abbrev pub ran_short : List ℕ → Options → List Answer → (steps bytes : ℕ) → Seen
ran_short script o answers steps bytes = seen (cut steps bytes (run (script_of script) o answers))

-- the same of a silent run on a file
abbrev pub cut_short : List ℕ → List ℕ → (steps bytes : ℕ) → Seen
cut_short file script steps bytes = ran_short script (options true None) (answer.Bytes file ∷ []) steps bytes

-- a row of a table: a statement with its proof
pub data Row : Type 1 where
  row : (Statement : Type 0) → Statement → Row
