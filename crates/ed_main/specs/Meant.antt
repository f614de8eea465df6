-- An empty script, where a file is named that may be the one that was meant (our choice: whoever leaves out the `<` before a script gives an
-- empty one, and a yes to it would be one to a script that nobody has read).
use Rattle.std.specs.Prelude.{◌≡◌, ℕ, Bool, true, false, ◌&&◌, if◌then◌else◌, List, codes, length, nat_eq, Option, None, Some, is_none, IsTrue}
use Rattle.std.specs.List.{ends_with, list_any}
use Rattle.ed_syntax.specs.Commands as ed
use Rattle.ed_syntax.specs.Commands.{Verb, Step, Script}
use Rattle.ed_syntax.specs.reading.Reading.{script_of}
use Rattle.ed_main.specs.declared.job.Job.{Job}
use Rattle.ed_main.specs.declared.job.Job.TheVariants as job
use Rattle.ed_main.specs.Several.{names_none}
use Rattle.ed_main.specs.Wanted.{wanted_path}

-- the file for which a script is judged that is read from standard input
abbrev pub judged_file : Job → Option (List ℕ)
judged_file (job.Edit options None writes (Some wanted)) = options.path
judged_file (job.Vouch wanted None all) = wanted_path wanted
judged_file (job.Judge wanted scripts detail) = if names_none scripts then wanted_path wanted else None
judged_file other = None

-- a file's name is like that of a script: it ends in `.ed`
abbrev pub is_named_as_script : Option (List ℕ) → Bool
is_named_as_script None = false
is_named_as_script (Some path) = ends_with nat_eq path (codes ".ed")

-- an empty script is judged for a file whose name is like that of a script
abbrev pub is_empty_for_script : (script : List ℕ) → Job → Bool
is_empty_for_script script asked = nat_eq (length script) 0 && is_named_as_script (judged_file asked)

-- `w`
abbrev pub is_write : Verb → Bool
is_write (ed.WriteFile path) = true
is_write _ = false

-- a script is read to its end, and writes lines to a file
abbrev pub writes_to_its_end : Script → Bool
writes_to_its_end script = is_none script.fault && list_any (λ step. is_write step.command.verb) script.steps

-- Bytes look like a script: many a text is read as one, as a list of numbers is, but hardly one that has a `w` too.
abbrev pub looks_like_script : List ℕ → Bool
looks_like_script bytes = writes_to_its_end (script_of bytes)

-- A file may be the script that was meant: its name is like that of a script, or what is read of it looks like one.
pub data MayBeMeant (path : List ℕ) : Type 0 where
  named : IsTrue (is_named_as_script (Some path)) → MayBeMeant path
  looks : (bytes : List ℕ) → IsTrue (looks_like_script bytes) → MayBeMeant path

-- a script is judged that is read from standard input, for a file that may be the one that was meant
pub data IsMistaken (asked : Job) : Type 0 where
  mistaken : (path : List ℕ) → judged_file asked ≡ Some path → MayBeMeant path → IsMistaken asked
