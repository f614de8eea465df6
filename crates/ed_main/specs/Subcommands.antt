-- The program's subcommands and what each takes, as `clap` is told (XCU ed, "Synopsis"; our choice: a subcommand).
use Rattle.std.specs.Prelude.{ℕ, true, List, [], ◌∷◌, codes, Some}
use Rattle.clap.specs.Words.{App, Rule, new_app, new_rule, with_subcommand}
use Rattle.clap.specs.Simple.{on_top}
use Rattle.clap.specs.declared.builder.action.ArgAction.TheVariants.{Append, Set, SetTrue}

-- `-s`
abbrev pub silent : Rule
silent = record (new_rule (codes "silent")) { short = Some 115; action = Some SetTrue }

-- `-n`, `--dry-run`
abbrev pub rehearsed : Rule
rehearsed = record (new_rule (codes "rehearsed")) { short = Some 110; long = Some (codes "dry-run"); action = Some SetTrue }

-- `--diff`
abbrev pub diff : Rule
diff = record (new_rule (codes "diff")) { long = Some (codes "diff"); action = Some SetTrue }

-- `--vouched`
abbrev pub vouched : Rule
vouched = record (new_rule (codes "vouched")) { long = Some (codes "vouched"); action = Some SetTrue }

-- `--whole`
abbrev pub whole : Rule
whole = record (new_rule (codes "whole")) { long = Some (codes "whole"); action = Some SetTrue }

-- `--backup SUFFIX`
abbrev pub backup : Rule
backup = record (new_rule (codes "backup")) { long = Some (codes "backup"); action = Some Set; value_names = 1 }

-- `--unchanged`
abbrev pub unchanged : Rule
unchanged = record (new_rule (codes "unchanged")) { long = Some (codes "unchanged"); action = Some SetTrue }

-- `-p STRING`
abbrev pub prompt : Rule
prompt = record (new_rule (codes "prompt")) { short = Some 112; action = Some Set; value_names = 1 }

-- `FILE`
abbrev pub file : Rule
file = record (new_rule (codes "file")) { action = Some Set; value_names = 1 }

-- `-f SCRIPT`
abbrev pub script : Rule
script = record (new_rule (codes "script")) { short = Some 102; action = Some Set; value_names = 1 }

-- `-f SCRIPT`, which may come more than once
abbrev pub scripts : Rule
scripts = record script { action = Some Append }

-- `--min N`
abbrev pub min : Rule
min = record (new_rule (codes "min")) { long = Some (codes "min"); action = Some Set; value_names = 1 }

-- `--max M`
abbrev pub max : Rule
max = record (new_rule (codes "max")) { long = Some (codes "max"); action = Some Set; value_names = 1 }

-- `--like FILE`
abbrev pub like : Rule
like = record (new_rule (codes "like")) { long = Some (codes "like"); action = Some Set; value_names = 1 }

-- `--all`
abbrev pub all : Rule
all = record (new_rule (codes "all")) { long = Some (codes "all"); action = Some SetTrue }

-- `-q`, `--quiet`
abbrev pub quiet : Rule
quiet = record (new_rule (codes "quiet")) { short = Some 113; long = Some (codes "quiet"); action = Some SetTrue }

-- `--patterns`
abbrev pub patterns : Rule
patterns = record (new_rule (codes "patterns")) { long = Some (codes "patterns"); action = Some SetTrue }

-- `--has RE`, which may come more than once
abbrev pub has : Rule
has = record (new_rule (codes "has")) { long = Some (codes "has"); action = Some Append; value_names = 1 }

-- `--at CHAIN`, which may come more than once
abbrev pub at : Rule
at = record (new_rule (codes "at")) { long = Some (codes "at"); action = Some Append; value_names = 1 }

-- `[CERT]`
abbrev pub notes : Rule
notes = record (new_rule (codes "certificate")) { action = Some Set; value_names = 1 }

-- `CERT`
abbrev pub certificate : Rule
certificate = record notes { required = true }

-- a subcommand of this name, that takes these
abbrev pub subcommand : List ℕ → List Rule → App
subcommand name takes = on_top (λ s. record s { rules = takes }) (new_app name)

-- `edit [--vouched] [--like FILE] [--at CHAIN] [--whole] [--backup SUFFIX] [--unchanged] [-n] [--diff] [-s] [-p STRING] [-f SCRIPT] [FILE]`
abbrev pub edit : App
edit = subcommand (codes "edit") (vouched ∷ like ∷ at ∷ whole ∷ backup ∷ unchanged ∷ rehearsed ∷ diff ∷ silent ∷ prompt ∷ script ∷ file ∷ [])

-- `vouch [--like FILE] [--min N] [--max M] [--all] [-q] [--patterns] [--has RE] [--at CHAIN] [-f SCRIPT] [FILE]`
abbrev pub vouch : App
vouch = subcommand (codes "vouch") (like ∷ min ∷ max ∷ all ∷ quiet ∷ patterns ∷ has ∷ at ∷ scripts ∷ file ∷ [])

-- `explain [--like FILE] [--min N] [--max M] [--patterns] [--has RE] [--at CHAIN] [-f SCRIPT] [CERT]`
abbrev pub explain : App
explain = subcommand (codes "explain") (like ∷ min ∷ max ∷ patterns ∷ has ∷ at ∷ script ∷ notes ∷ [])

-- `check [-f SCRIPT] CERT`
abbrev pub check : App
check = subcommand (codes "check") (script ∷ certificate ∷ [])

-- `run [--whole] [--backup SUFFIX] [-n] [--diff] [-s] [-f SCRIPT] CERT [FILE]`
abbrev pub run : App
run = subcommand (codes "run") (whole ∷ backup ∷ rehearsed ∷ diff ∷ silent ∷ script ∷ certificate ∷ file ∷ [])

-- `fits CERT [FILE]`
abbrev pub fits : App
fits = subcommand (codes "fits") (certificate ∷ file ∷ [])

-- the program without its subcommands, of which it wants one
abbrev pub bare : App
bare = on_top (λ s. record s { has_version = true; subcommand_required = true }) (new_app (codes "edv"))

unfoldable pub program : App
program =
    with_subcommand (with_subcommand (with_subcommand (with_subcommand (with_subcommand (with_subcommand bare edit.top) vouch.top) explain.top) check.top) run.top)
    fits.top
