-- Words and the jobs that they give.
use Rattle.std.proofs.Common.{◌≡◌, ℕ, Bool, true, false, List, [], ◌∷◌, Option, Some, None, refl, codes}
use Rattle.clap.proofs.OnLiterals.{clap_on_literals}
use Rattle.ed_calls.specs.declared.judgement.Detail.{Detail}
use Rattle.ed_calls.specs.declared.judgement.Detail.TheVariants.{Each, First, Nothing}
use Rattle.ed_calls.specs.declared.starts.Starts.{Starts}
use Rattle.ed_calls.specs.declared.starts.Starts.TheVariants.{Given, Widest}
use Rattle.ed_main.specs.Subcommands.{program}
use Rattle.ed_main.specs.Words.{job_of, writing_of}
use Rattle.ed_main.specs.declared.job.Job.{Job}
use Rattle.ed_main.specs.declared.job.Job.TheVariants as job
use Rattle.ed_main.specs.declared.wanted.Wanted.{Wanted}
use Rattle.ed_main.specs.declared.wanted.Wanted.TheVariants.{Like, Stated}
use Rattle.ed_main.specs.declared.writing.Writing.{Writing}
use Rattle.ed_main.specs.declared.writing.Writing.TheVariants as writing
use Rattle.ed_main.proofs.Worked.{Row, row}

-- a run with these options
abbrev edit : Bool → Option (List ℕ) → Option (List ℕ) → Option Job
edit silent prompt path = Some (job.Edit (record { silent = silent; prompt = prompt; path = path }) None (writing.AtOnce false) None)

-- its rehearsal
abbrev rehearsal : Bool → Option (List ℕ) → Option (List ℕ) → Option Job
rehearsal silent prompt path = Some (job.Edit (record { silent = silent; prompt = prompt; path = path }) None (writing.Never false false false None) None)

-- a run on F whose writes are made so
abbrev edit_so : Writing → Option Job
edit_so writes = Some (job.Edit (record { silent = false; prompt = None; path = Some (codes "F") }) None writes None)

-- what a script is judged over on a file F, where it is: any such file
abbrev over_any : (vouched : Bool) → Option Wanted
over_any true = Some (Stated (Widest (record { path = Some (codes "F"); min = None; max = None; has = None; landmarks = None })) [])
over_any false = None

-- a run on F only if the script is vouched for, or its rehearsal
abbrev edit_vouched : (rehearsed : Bool) → Option Job
edit_vouched rehearsed = Some (job.Edit (record { silent = false; prompt = None; path = Some (codes "F") }) None (writing_of rehearsed false false false None) (over_any true))

-- the start that a script is judged over without a file
abbrev over_nothing : Starts
over_nothing = Widest (record { path = None; min = None; max = Some 0; has = None; landmarks = None })

-- the same on the empty buffer
abbrev edit_empty_vouched : Option Job
edit_empty_vouched =
    let over = Stated over_nothing [] in
    Some (job.Edit (record { silent = false; prompt = None; path = None }) None (writing.AtOnce false) (Some over))

-- a run on F only if the script is vouched for over files like G
abbrev edit_like : Option Job
edit_like =
    let over = Like (Some (codes "F")) true (codes "G") in
    Some (job.Edit (record { silent = true; prompt = None; path = Some (codes "F") }) None (writing.AtOnce false) (Some over))

-- a run that replaces a file F whole
abbrev edit_whole : (vouched : Bool) → Option Job
edit_whole vouched = Some (job.Edit (record { silent = false; prompt = None; path = Some (codes "F") }) None (writing.AtTheEnd None) (over_any vouched))

-- a certificate for these bounds
abbrev vouch : ℕ → Option ℕ → Option (List ℕ) → Option Job
vouch min max path = Some (job.Vouch (Stated (Given (record { path = path; min = min; max = max; has = None; landmarks = None })) []) None false)

-- the same, or else all refusals
abbrev vouch_all : ℕ → Option ℕ → Option (List ℕ) → Option Job
vouch_all min max path = Some (job.Vouch (Stated (Given (record { path = path; min = min; max = max; has = None; landmarks = None })) []) None true)

-- a certificate that tells of patterns, which states these
abbrev vouch_with : List (List ℕ) → Option Job
vouch_with has = Some (job.Vouch (Stated (Given (record { path = Some (codes "F"); min = 1; max = None; has = Some has; landmarks = None })) []) None false)

-- a certificate for the widest start of these bounds, as far as they are given
abbrev vouch_widest : (min max : Option ℕ) → Option Job
vouch_widest min max = Some (job.Vouch (Stated (Widest (record { path = Some (codes "F"); min = min; max = max; has = None; landmarks = None })) []) None false)

-- a certificate for the empty buffer
abbrev vouch_empty : Option Job
vouch_empty = Some (job.Vouch (Stated over_nothing []) None false)

-- a certificate for files F like G, or all refusals; one that tells of patterns, if it is asked for
abbrev vouch_like : (patterns all : Bool) → Option Job
vouch_like patterns all = Some (job.Vouch (Like (Some (codes "F")) patterns (codes "G")) None all)

-- a certificate for the widest start with these landmarks, or for one of these bounds too
abbrev vouch_at : List (List ℕ) → Option Job
vouch_at at =
    Some (job.Vouch (Stated (Widest (record { path = Some (codes "F"); min = None; max = None; has = None; landmarks = None })) at) None false)

abbrev vouch_within_at : List (List ℕ) → Option Job
vouch_within_at at =
    Some (job.Vouch (Stated (Given (record { path = Some (codes "F"); min = 1; max = Some 9; has = None; landmarks = None })) at) None false)

-- a run on F only if the script is vouched for over files that have these landmarks
abbrev edit_at : List (List ℕ) → Option Job
edit_at at =
    let over = Stated (Widest (record { path = Some (codes "F"); min = None; max = None; has = None; landmarks = None })) at in
    Some (job.Edit (record { silent = false; prompt = None; path = Some (codes "F") }) None (writing.AtOnce false) (Some over))

-- a script that is explained over files that have these landmarks
abbrev explain_at : List (List ℕ) → Option Job
explain_at at =
    Some (job.Explain (Stated (Widest (record { path = Some (codes "FILE"); min = None; max = None; has = None; landmarks = None })) at) None)

-- a check
abbrev check : List ℕ → Option Job
check certificate = Some (job.Check certificate None)

-- a run that is checked first
abbrev run : List ℕ → Bool → Option (List ℕ) → Option Job
run certificate silent path = Some (job.Run certificate (record { silent = silent; prompt = None; path = path }) None (writing.AtOnce false))

-- one on a file F whose writes are made so
abbrev run_so : Writing → Option Job
run_so writes = Some (job.Run (codes "C") (record { silent = false; prompt = None; path = Some (codes "F") }) None writes)

-- its rehearsal
abbrev rehearsed_run : List ℕ → Bool → Option (List ℕ) → Option Job
rehearsed_run certificate silent path = Some (job.Run certificate (record { silent = silent; prompt = None; path = path }) None (writing.Never false false false None))

-- what each does with a file F and the script in a file S
abbrev edit_from_file : (silent vouched : Bool) → Option Job
edit_from_file silent vouched = Some (job.Edit (record { silent = silent; prompt = None; path = Some (codes "F") }) (Some (codes "S")) (writing.AtOnce false) (over_any vouched))

abbrev vouch_from_file : Option Job
vouch_from_file = Some (job.Vouch (Stated (Widest (record { path = Some (codes "F"); min = None; max = None; has = None; landmarks = None })) []) (Some (codes "S")) false)

-- scripts that are judged without certificates
abbrev judge : (scripts : List (List ℕ)) → Detail → Option Job
judge scripts detail = Some (job.Judge (Stated (Widest (record { path = Some (codes "F"); min = None; max = None; has = None; landmarks = None })) []) scripts detail)

-- for any file, named FILE
abbrev judge_any : (scripts : List (List ℕ)) → Detail → Option Job
judge_any scripts detail = Some (job.Judge (Stated (Widest (record { path = Some (codes "FILE"); min = None; max = None; has = None; landmarks = None })) []) scripts detail)

-- on the empty buffer, with nothing told
abbrev judge_empty : (scripts : List (List ℕ)) → Option Job
judge_empty scripts = Some (job.Judge (Stated over_nothing []) scripts Nothing)

abbrev judge_like : (scripts : List (List ℕ)) → Detail → Option Job
judge_like scripts detail = Some (job.Judge (Like (Some (codes "F")) false (codes "G")) scripts detail)

abbrev check_from_file : Option Job
check_from_file = Some (job.Check (codes "C") (Some (codes "S")))

abbrev run_from_file : Option Job
run_from_file = Some (job.Run (codes "C") (record { silent = false; prompt = None; path = Some (codes "F") }) (Some (codes "S")) (writing.AtOnce false))

-- a test of a start
abbrev fits : (certificate : List ℕ) → (path : Option (List ℕ)) → Option Job
fits certificate path = Some (job.Fits certificate path)

-- the job of words after the program's name
abbrev job_given : List (List ℕ) → Option Job
job_given words = job_of (codes "edv" ∷ words)

words : List Row
unfolding clap_on_literals program job_of
words =
    row (job_given (codes "edit" ∷ codes "-s" ∷ codes "F" ∷ []) ≡ edit true None (Some (codes "F"))) refl  -- silent with a file
    ∷ row (job_given (codes "edit" ∷ codes "F" ∷ []) ≡ edit false None (Some (codes "F"))) refl  -- a file
    ∷ row (job_given (codes "edit" ∷ []) ≡ edit false None None) refl  -- nothing
    ∷ row (job_given (codes "edit" ∷ codes "F" ∷ codes "-s" ∷ []) ≡ edit true None (Some (codes "F"))) refl  -- an option after the file
    ∷ row (job_given (codes "edit" ∷ codes "-p" ∷ codes "> " ∷ codes "F" ∷ []) ≡ edit false (Some (codes "> ")) (Some (codes "F"))) refl  -- a prompt
    ∷ row (job_given (codes "edit" ∷ codes "-sp>" ∷ codes "F" ∷ []) ≡ edit true (Some (codes ">")) (Some (codes "F"))) refl  -- options in one word
    ∷ row (job_given (codes "edit" ∷ codes "-p=>" ∷ codes "F" ∷ []) ≡ edit false (Some (codes ">")) (Some (codes "F"))) refl  -- a prompt after equals
    ∷ row (job_given (codes "edit" ∷ codes "-p" ∷ [] ∷ codes "F" ∷ []) ≡ edit false (Some []) (Some (codes "F"))) refl  -- an empty prompt
    ∷ row (job_given (codes "edit" ∷ codes "-p" ∷ codes "a" ∷ codes "--" ∷ codes "-x" ∷ []) ≡ edit false (Some (codes "a")) (Some (codes "-x"))) refl  -- a file after two hyphens
    ∷ row (job_given ([]) ≡ None) refl  -- no subcommand
    ∷ row (job_given (codes "F" ∷ []) ≡ None) refl  -- another subcommand
    ∷ row (job_given (codes "--help" ∷ []) ≡ None) refl  -- help
    ∷ row (job_given (codes "--version" ∷ []) ≡ None) refl  -- version
    ∷ row (job_given (codes "help" ∷ []) ≡ None) refl  -- help as a subcommand
    ∷ row (job_given (codes "edit" ∷ codes "--help" ∷ []) ≡ None) refl  -- help of edit
    ∷ row (job_given (codes "edit" ∷ codes "-x" ∷ []) ≡ None) refl  -- another option
    ∷ row (job_given (codes "edit" ∷ codes "F" ∷ codes "G" ∷ []) ≡ None) refl  -- two files
    ∷ row (job_given (codes "edit" ∷ [] ∷ []) ≡ None) refl  -- an empty name
    ∷ row (job_given (codes "edit" ∷ codes "-" ∷ []) ≡ None) refl  -- a hyphen
    ∷ row (job_given (codes "edit" ∷ codes "--" ∷ codes "-" ∷ []) ≡ None) refl  -- a hyphen after two
    ∷ row (job_given (codes "edit" ∷ codes "-s" ∷ codes "-s" ∷ []) ≡ None) refl  -- an option twice
    ∷ row (job_given (codes "edit" ∷ codes "-p" ∷ codes "a" ∷ codes "-p" ∷ codes "b" ∷ []) ≡ None) refl  -- two prompts
    ∷ row (job_given (codes "edit" ∷ codes "-p" ∷ []) ≡ None) refl  -- no string
    ∷ row (job_given (codes "edit" ∷ codes "-p" ∷ codes "-x" ∷ []) ≡ None) refl  -- a prompt like an option
    ∷ row (job_given (codes "edit" ∷ codes "-p=-x" ∷ []) ≡ None) refl  -- a prompt like an option after equals
    ∷ row (job_given (codes "edit" ∷ codes "-p-x" ∷ []) ≡ None) refl  -- a prompt like an option in one word
    ∷ row (job_given (codes "-s" ∷ codes "edit" ∷ []) ≡ None) refl  -- an option before edit
    ∷ row (job_given (codes "vouch" ∷ codes "--min" ∷ codes "1" ∷ codes "--max" ∷ codes "3" ∷ codes "F" ∷ []) ≡ vouch 1 (Some 3) (Some (codes "F"))) refl  -- vouched
    ∷ row (job_given (codes "vouch" ∷ codes "--min=1" ∷ codes "--max=3" ∷ codes "F" ∷ []) ≡ vouch 1 (Some 3) (Some (codes "F"))) refl  -- vouched in one word each
    ∷ row (job_given (codes "vouch" ∷ codes "--max" ∷ codes "any" ∷ codes "--min" ∷ codes "0" ∷ []) ≡ vouch 0 None None) refl  -- vouched without a file
    ∷ row (job_given (codes "vouch" ∷ codes "F" ∷ codes "--min=0" ∷ codes "--max=any" ∷ []) ≡ vouch 0 None (Some (codes "F"))) refl  -- any after equals
    ∷ row (job_given (codes "vouch" ∷ codes "--min" ∷ codes "+3" ∷ codes "--max" ∷ codes "007" ∷ []) ≡ vouch 3 (Some 7) None) refl  -- numbers with a plus and zeros
    ∷ row (job_given (codes "vouch" ∷ codes "--min" ∷ codes "1000000000000" ∷ codes "--max" ∷ codes "1000000000000" ∷ []) ≡ vouch 1000000000000 (Some 1000000000000) None) refl  -- the most lines
    ∷ row (job_given (codes "vouch" ∷ codes "--min" ∷ codes "0" ∷ codes "--max" ∷ codes "0" ∷ codes "--" ∷ codes "-x" ∷ []) ≡ vouch 0 (Some 0) (Some (codes "-x"))) refl  -- a vouched file after two hyphens
    ∷ row (job_given (codes "vouch" ∷ codes "--min" ∷ codes "1000000000001" ∷ codes "--max" ∷ codes "any" ∷ []) ≡ None) refl  -- more than the most lines
    ∷ row (job_given (codes "vouch" ∷ codes "--min" ∷ codes "0" ∷ codes "--max" ∷ codes "1000000000001" ∷ []) ≡ None) refl  -- a limit above the most lines
    ∷ row (job_given (codes "vouch" ∷ codes "--min" ∷ codes "2" ∷ codes "--max" ∷ codes "1" ∷ []) ≡ None) refl  -- min above max
    ∷ row (job_given (codes "vouch" ∷ codes "--min" ∷ codes "any" ∷ codes "--max" ∷ codes "any" ∷ []) ≡ None) refl  -- min any
    ∷ row (job_given (codes "vouch" ∷ codes "--min" ∷ [] ∷ codes "--max" ∷ codes "any" ∷ []) ≡ None) refl  -- no number
    ∷ row (job_given (codes "vouch" ∷ codes "--min=-1" ∷ codes "--max" ∷ codes "any" ∷ []) ≡ None) refl  -- a number below zero
    ∷ row (job_given (codes "vouch" ∷ codes "--min" ∷ codes " 1" ∷ codes "--max" ∷ codes "any" ∷ []) ≡ None) refl  -- a number with a blank
    ∷ row (job_given (codes "vouch" ∷ codes "--min" ∷ codes "++1" ∷ codes "--max" ∷ codes "any" ∷ []) ≡ None) refl  -- two pluses
    ∷ row (job_given (codes "vouch" ∷ codes "F" ∷ []) ≡ vouch_widest None None) refl  -- no bounds
    ∷ row (job_given (codes "vouch" ∷ codes "--min" ∷ codes "2" ∷ codes "F" ∷ []) ≡ vouch_widest (Some 2) None) refl  -- no max
    ∷ row (job_given (codes "vouch" ∷ codes "--max" ∷ codes "any" ∷ codes "F" ∷ []) ≡ vouch_widest None None) refl  -- no min and no limit
    ∷ row (job_given (codes "vouch" ∷ codes "F" ∷ codes "--max=3" ∷ []) ≡ vouch_widest None (Some 3)) refl  -- no min
    ∷ row (job_given (codes "vouch" ∷ []) ≡ vouch_empty) refl  -- no bounds and no file
    ∷ row (job_given (codes "vouch" ∷ codes "--max" ∷ codes "0" ∷ []) ≡ vouch_empty) refl  -- no lines and no file
    ∷ row (job_given (codes "vouch" ∷ codes "--has" ∷ codes "a" ∷ []) ≡ None) refl  -- a pattern and no file
    ∷ row (job_given (codes "vouch" ∷ codes "--max" ∷ codes "0" ∷ codes "--has" ∷ codes "a" ∷ codes "F" ∷ []) ≡ None) refl  -- a pattern and no lines
    ∷ row (job_given (codes "explain" ∷ codes "--min" ∷ codes "0" ∷ codes "--max" ∷ codes "0" ∷ codes "--has" ∷ codes "a" ∷ []) ≡ None) refl  -- a pattern and no lines to explain
    ∷ row (job_given (codes "vouch" ∷ codes "--min" ∷ codes "3" ∷ codes "--max" ∷ codes "2" ∷ codes "F" ∷ []) ≡ None) refl  -- three lines at least and two at most
    ∷ row (job_given (codes "vouch" ∷ codes "--min" ∷ codes "any" ∷ codes "F" ∷ []) ≡ None) refl  -- min any and no max
    ∷ row (job_given (codes "vouch" ∷ codes "--max" ∷ codes "x" ∷ codes "F" ∷ []) ≡ None) refl  -- max without a number and no min
    ∷ row (job_given (codes "vouch" ∷ codes "--max" ∷ codes "1000000000001" ∷ codes "F" ∷ []) ≡ None) refl  -- max above the most lines and no min
    ∷ row (job_given (codes "vouch" ∷ codes "-" ∷ []) ≡ None) refl  -- a hyphen and no bounds
    ∷ row (job_given (codes "vouch" ∷ codes "--min" ∷ codes "0" ∷ codes "--min" ∷ codes "1" ∷ codes "--max" ∷ codes "any" ∷ []) ≡ None) refl  -- two mins
    ∷ row (job_given (codes "vouch" ∷ codes "--min" ∷ codes "0" ∷ codes "--max" ∷ codes "any" ∷ codes "F" ∷ codes "G" ∷ []) ≡ None) refl  -- two vouched files
    ∷ row (job_given (codes "vouch" ∷ codes "--min" ∷ codes "0" ∷ codes "--max" ∷ codes "any" ∷ [] ∷ []) ≡ None) refl  -- an empty vouched file
    ∷ row (job_given (codes "vouch" ∷ codes "--min" ∷ codes "0" ∷ codes "--max" ∷ codes "any" ∷ codes "-" ∷ []) ≡ None) refl  -- a vouched hyphen
    ∷ row (job_given (codes "vouch" ∷ codes "-s" ∷ codes "--min" ∷ codes "0" ∷ codes "--max" ∷ codes "any" ∷ []) ≡ None) refl  -- silent vouching
    ∷ row (job_given (codes "vouch" ∷ codes "--all" ∷ codes "--min" ∷ codes "1" ∷ codes "--max" ∷ codes "any" ∷ codes "F" ∷ []) ≡ vouch_all 1 None (Some (codes "F"))) refl  -- all refusals
    ∷ row (job_given (codes "vouch" ∷ codes "--min=0" ∷ codes "--max=3" ∷ codes "F" ∷ codes "--all" ∷ []) ≡ vouch_all 0 (Some 3) (Some (codes "F"))) refl  -- all refusals at the end
    ∷ row (job_given (codes "vouch" ∷ codes "--all" ∷ codes "--all" ∷ codes "--min" ∷ codes "0" ∷ codes "--max" ∷ codes "any" ∷ []) ≡ None) refl  -- all refusals twice
    ∷ row (job_given (codes "check" ∷ codes "--all" ∷ codes "C" ∷ []) ≡ None) refl  -- all refusals of a check
    ∷ row (job_given (codes "vouch" ∷ codes "--min" ∷ codes "1" ∷ codes "--max" ∷ codes "any" ∷ codes "--has" ∷ codes "foo" ∷ codes "F" ∷ []) ≡ vouch_with (codes "foo" ∷ [])) refl  -- vouched with a pattern
    ∷ row (job_given (codes "vouch" ∷ codes "--has" ∷ codes "b" ∷ codes "--min" ∷ codes "1" ∷ codes "--max" ∷ codes "any" ∷ codes "F" ∷ codes "--has=a" ∷ codes "--has" ∷ codes "b" ∷ []) ≡ vouch_with (codes "a" ∷ codes "b" ∷ [])) refl  -- vouched with patterns out of order
    ∷ row (job_given (codes "vouch" ∷ codes "--patterns" ∷ codes "--min" ∷ codes "1" ∷ codes "--max" ∷ codes "any" ∷ codes "F" ∷ []) ≡ vouch_with []) refl  -- vouched with none but the flag
    ∷ row (job_given (codes "vouch" ∷ codes "--patterns" ∷ codes "--min" ∷ codes "1" ∷ codes "--max" ∷ codes "any" ∷ codes "--has=-x" ∷ codes "F" ∷ []) ≡ vouch_with (codes "-x" ∷ [])) refl  -- vouched with the flag too
    ∷ row (job_given (codes "vouch" ∷ codes "--patterns" ∷ codes "--patterns" ∷ codes "--min" ∷ codes "1" ∷ codes "--max" ∷ codes "any" ∷ codes "F" ∷ []) ≡ None) refl  -- the flag twice
    ∷ row (job_given (codes "vouch" ∷ codes "--min" ∷ codes "1" ∷ codes "--max" ∷ codes "any" ∷ codes "--has" ∷ []) ≡ None) refl  -- no pattern
    ∷ row (job_given (codes "vouch" ∷ codes "--min" ∷ codes "1" ∷ codes "--max" ∷ codes "any" ∷ codes "--has" ∷ codes "\\(" ∷ codes "F" ∷ []) ≡ None) refl  -- a group that is not closed
    ∷ row (job_given (codes "vouch" ∷ codes "--min" ∷ codes "1" ∷ codes "--max" ∷ codes "any" ∷ codes "--has" ∷ codes "a" ∷ codes "--has" ∷ codes "[b" ∷ codes "F" ∷ []) ≡ None) refl  -- a pattern and one that is none
    ∷ row (job_given (codes "vouch" ∷ codes "--min" ∷ codes "1" ∷ codes "--max" ∷ codes "any" ∷ codes "--has" ∷ codes "-x" ∷ codes "F" ∷ []) ≡ None) refl  -- a pattern like an option
    ∷ row (job_given (codes "check" ∷ codes "--has" ∷ codes "a" ∷ codes "C" ∷ []) ≡ None) refl  -- patterns of a check
    ∷ row (job_given (codes "vouch" ∷ codes "--help" ∷ []) ≡ None) refl  -- help of vouch
    ∷ row (job_given (codes "check" ∷ codes "C" ∷ []) ≡ check (codes "C")) refl  -- checked
    ∷ row (job_given (codes "check" ∷ codes "--" ∷ codes "-x" ∷ []) ≡ check (codes "-x")) refl  -- checked after two hyphens
    ∷ row (job_given (codes "check" ∷ []) ≡ None) refl  -- no certificate
    ∷ row (job_given (codes "check" ∷ codes "C" ∷ codes "D" ∷ []) ≡ None) refl  -- two certificates
    ∷ row (job_given (codes "check" ∷ [] ∷ []) ≡ None) refl  -- an empty certificate
    ∷ row (job_given (codes "check" ∷ codes "-" ∷ []) ≡ None) refl  -- a hyphen as a certificate
    ∷ row (job_given (codes "run" ∷ codes "C" ∷ codes "F" ∷ []) ≡ run (codes "C") false (Some (codes "F"))) refl  -- run with a file
    ∷ row (job_given (codes "run" ∷ codes "C" ∷ []) ≡ run (codes "C") false None) refl  -- run without a file
    ∷ row (job_given (codes "run" ∷ codes "-s" ∷ codes "C" ∷ codes "F" ∷ []) ≡ run (codes "C") true (Some (codes "F"))) refl  -- run silent before the certificate
    ∷ row (job_given (codes "run" ∷ codes "C" ∷ codes "-s" ∷ codes "F" ∷ []) ≡ run (codes "C") true (Some (codes "F"))) refl  -- run silent after the certificate
    ∷ row (job_given (codes "run" ∷ codes "C" ∷ codes "F" ∷ codes "-s" ∷ []) ≡ run (codes "C") true (Some (codes "F"))) refl  -- run silent at the end
    ∷ row (job_given (codes "run" ∷ codes "-s" ∷ codes "C" ∷ codes "-s" ∷ []) ≡ None) refl  -- run silent twice
    ∷ row (job_given (codes "run" ∷ codes "-s" ∷ []) ≡ None) refl  -- run without a certificate
    ∷ row (job_given (codes "run" ∷ codes "-p" ∷ codes "a" ∷ codes "C" ∷ []) ≡ None) refl  -- run with a prompt
    ∷ row (job_given (codes "run" ∷ codes "C" ∷ [] ∷ []) ≡ None) refl  -- run on an empty file
    ∷ row (job_given (codes "run" ∷ codes "C" ∷ codes "-" ∷ []) ≡ None) refl  -- run on a hyphen
    ∷ row (job_given (codes "run" ∷ codes "C" ∷ codes "F" ∷ codes "G" ∷ []) ≡ None) refl  -- run with two files
    ∷ row (job_given (codes "fits" ∷ codes "C" ∷ codes "F" ∷ []) ≡ fits (codes "C") (Some (codes "F"))) refl  -- fits with a file
    ∷ row (job_given (codes "fits" ∷ codes "C" ∷ []) ≡ fits (codes "C") None) refl  -- fits without a file
    ∷ row (job_given (codes "fits" ∷ []) ≡ None) refl  -- fits without a certificate
    ∷ row (job_given (codes "fits" ∷ codes "C" ∷ codes "-" ∷ []) ≡ None) refl  -- fits on a hyphen
    ∷ row (job_given (codes "fits" ∷ codes "-" ∷ codes "F" ∷ []) ≡ None) refl  -- fits by a hyphen
    ∷ row (job_given (codes "fits" ∷ codes "-s" ∷ codes "C" ∷ codes "F" ∷ []) ≡ None) refl  -- fits silent
    ∷ row (job_given (codes "fits" ∷ codes "C" ∷ codes "F" ∷ codes "G" ∷ []) ≡ None) refl  -- fits with two files
    ∷ row (job_given (codes "edit" ∷ codes "-n" ∷ codes "F" ∷ []) ≡ rehearsal false None (Some (codes "F"))) refl  -- rehearsed before the file
    ∷ row (job_given (codes "edit" ∷ codes "-sn" ∷ codes "-p" ∷ codes "> " ∷ codes "F" ∷ []) ≡ rehearsal true (Some (codes "> ")) (Some (codes "F"))) refl  -- rehearsed and silent
    ∷ row (job_given (codes "edit" ∷ codes "-n" ∷ []) ≡ rehearsal false None None) refl  -- rehearsed without a file
    ∷ row (job_given (codes "edit" ∷ codes "-n" ∷ codes "-n" ∷ codes "F" ∷ []) ≡ None) refl  -- rehearsed twice
    ∷ row (job_given (codes "edit" ∷ codes "--vouched" ∷ codes "F" ∷ []) ≡ edit_vouched false) refl  -- if it is vouched for
    ∷ row (job_given (codes "edit" ∷ codes "F" ∷ codes "-n" ∷ codes "--vouched" ∷ []) ≡ edit_vouched true) refl  -- rehearsed if it is vouched for
    ∷ row (job_given (codes "edit" ∷ codes "--vouched" ∷ []) ≡ edit_empty_vouched) refl  -- without a file if it is vouched for
    ∷ row (job_given (codes "edit" ∷ codes "--vouched" ∷ codes "--vouched" ∷ codes "F" ∷ []) ≡ None) refl  -- vouched for twice
    ∷ row (job_given (codes "run" ∷ codes "--vouched" ∷ codes "C" ∷ codes "F" ∷ []) ≡ None) refl  -- run if it is vouched for
    ∷ row (job_given (codes "vouch" ∷ codes "--vouched" ∷ codes "F" ∷ []) ≡ None) refl  -- vouched if it is vouched for
    ∷ row (job_given (codes "run" ∷ codes "-n" ∷ codes "C" ∷ codes "F" ∷ []) ≡ rehearsed_run (codes "C") false (Some (codes "F"))) refl  -- run rehearsed
    ∷ row (job_given (codes "run" ∷ codes "C" ∷ codes "F" ∷ codes "-s" ∷ codes "-n" ∷ []) ≡ rehearsed_run (codes "C") true (Some (codes "F"))) refl  -- run rehearsed at the end
    ∷ row (job_given (codes "vouch" ∷ codes "-n" ∷ codes "--min" ∷ codes "0" ∷ codes "--max" ∷ codes "any" ∷ []) ≡ None) refl  -- vouching rehearsed
    ∷ row (job_given (codes "check" ∷ codes "-n" ∷ codes "C" ∷ []) ≡ None) refl  -- checking rehearsed
    ∷ row (job_given (codes "fits" ∷ codes "-n" ∷ codes "C" ∷ []) ≡ None) refl  -- fits rehearsed
    ∷ row (job_given (codes "edit" ∷ codes "-f" ∷ codes "S" ∷ codes "F" ∷ []) ≡ edit_from_file false false) refl  -- a script in a file
    ∷ row (job_given (codes "edit" ∷ codes "F" ∷ codes "-sfS" ∷ codes "--vouched" ∷ []) ≡ edit_from_file true true) refl  -- a script in a file in one word
    ∷ row (job_given (codes "vouch" ∷ codes "-f" ∷ codes "S" ∷ codes "F" ∷ []) ≡ vouch_from_file) refl  -- vouched in a file
    ∷ row (job_given (codes "check" ∷ codes "C" ∷ codes "-f" ∷ codes "S" ∷ []) ≡ check_from_file) refl  -- checked in a file
    ∷ row (job_given (codes "run" ∷ codes "-f" ∷ codes "S" ∷ codes "C" ∷ codes "F" ∷ []) ≡ run_from_file) refl  -- run from a file
    ∷ row (job_given (codes "fits" ∷ codes "-f" ∷ codes "S" ∷ codes "C" ∷ codes "F" ∷ []) ≡ None) refl  -- fits with a script
    ∷ row (job_given (codes "edit" ∷ codes "-f" ∷ codes "-" ∷ codes "F" ∷ []) ≡ None) refl  -- a hyphen as a script
    ∷ row (job_given (codes "vouch" ∷ codes "-f" ∷ codes "-" ∷ codes "F" ∷ []) ≡ None) refl  -- a vouched hyphen as a script
    ∷ row (job_given (codes "check" ∷ codes "-f" ∷ codes "-" ∷ codes "C" ∷ []) ≡ None) refl  -- a checked hyphen as a script
    ∷ row (job_given (codes "run" ∷ codes "-f" ∷ codes "-" ∷ codes "C" ∷ codes "F" ∷ []) ≡ None) refl  -- run on a hyphen as a script
    ∷ row (job_given (codes "edit" ∷ codes "-f" ∷ [] ∷ codes "F" ∷ []) ≡ None) refl  -- a script without a name
    ∷ row (job_given (codes "edit" ∷ codes "-f" ∷ codes "S" ∷ codes "-f" ∷ codes "T" ∷ codes "F" ∷ []) ≡ None) refl  -- two scripts
    ∷ row (job_given (codes "edit" ∷ codes "-f" ∷ []) ≡ None) refl  -- no script
    ∷ row (job_given (codes "check" ∷ codes "-f" ∷ codes "S" ∷ codes "-f" ∷ codes "T" ∷ codes "C" ∷ []) ≡ None) refl  -- two checked scripts
    ∷ row (job_given (codes "vouch" ∷ codes "-f" ∷ codes "T" ∷ codes "-f" ∷ codes "S" ∷ codes "F" ∷ []) ≡ judge (codes "T" ∷ codes "S" ∷ []) First) refl  -- two judged scripts
    ∷ row (job_given (codes "vouch" ∷ codes "-f" ∷ codes "T" ∷ codes "-f" ∷ codes "S" ∷ []) ≡ judge_any (codes "T" ∷ codes "S" ∷ []) First) refl  -- two judged scripts and no file
    ∷ row (job_given (codes "vouch" ∷ codes "-f" ∷ codes "S" ∷ codes "-q" ∷ []) ≡ judge_empty (codes "S" ∷ [])) refl  -- quiet on one and no file
    ∷ row (job_given (codes "vouch" ∷ codes "F" ∷ codes "-fS" ∷ codes "--all" ∷ codes "-fS" ∷ codes "-f=T" ∷ []) ≡ judge (codes "S" ∷ codes "S" ∷ codes "T" ∷ []) Each) refl  -- three, of which two are the same, and all refusals
    ∷ row (job_given (codes "vouch" ∷ codes "-q" ∷ codes "F" ∷ []) ≡ judge [] Nothing) refl  -- quiet on standard input
    ∷ row (job_given (codes "vouch" ∷ codes "-f" ∷ codes "S" ∷ codes "--quiet" ∷ codes "F" ∷ []) ≡ judge (codes "S" ∷ []) Nothing) refl  -- quiet on a file
    ∷ row (job_given (codes "vouch" ∷ codes "--all" ∷ codes "-qf" ∷ codes "S" ∷ codes "-f" ∷ codes "T" ∷ codes "F" ∷ []) ≡ judge (codes "S" ∷ codes "T" ∷ []) Nothing) refl  -- quiet on two, and all refusals
    ∷ row (job_given (codes "vouch" ∷ codes "-f" ∷ codes "S" ∷ codes "-f" ∷ codes "-" ∷ codes "F" ∷ []) ≡ None) refl  -- a judged hyphen as a second script
    ∷ row (job_given (codes "vouch" ∷ codes "-f" ∷ [] ∷ codes "-f" ∷ codes "S" ∷ codes "F" ∷ []) ≡ None) refl  -- a judged script without a name
    ∷ row (job_given (codes "vouch" ∷ codes "-f" ∷ codes "S" ∷ codes "-f" ∷ codes "T" ∷ codes "F" ∷ codes "G" ∷ []) ≡ None) refl  -- two judged scripts and two files
    ∷ row (job_given (codes "vouch" ∷ codes "-q" ∷ codes "--quiet" ∷ codes "F" ∷ []) ≡ None) refl  -- twice quiet
    ∷ row (job_given (codes "check" ∷ codes "-q" ∷ codes "C" ∷ []) ≡ None) refl  -- a quiet check
    ∷ row (job_given (codes "edit" ∷ codes "--whole" ∷ codes "F" ∷ []) ≡ edit_whole false) refl  -- replaced whole
    ∷ row (job_given (codes "edit" ∷ codes "F" ∷ codes "--vouched" ∷ codes "--whole" ∷ []) ≡ edit_whole true) refl  -- vouched for, and replaced whole
    ∷ row (job_given (codes "edit" ∷ codes "--whole" ∷ codes "-n" ∷ codes "F" ∷ []) ≡ edit_so (writing.Never true false false None)) refl  -- replaced whole, rehearsed
    ∷ row (job_given (codes "run" ∷ codes "--whole" ∷ codes "C" ∷ codes "F" ∷ []) ≡ run_so (writing.AtTheEnd None)) refl  -- run, and replaced whole
    ∷ row (job_given (codes "edit" ∷ codes "--whole" ∷ codes "--whole" ∷ codes "F" ∷ []) ≡ None) refl  -- whole twice
    ∷ row (job_given (codes "vouch" ∷ codes "--whole" ∷ codes "F" ∷ []) ≡ None) refl  -- vouched whole
    ∷ row (job_given (codes "fits" ∷ codes "--whole" ∷ codes "C" ∷ []) ≡ None) refl  -- fits whole
    ∷ row (job_given (codes "edit" ∷ codes "--whole" ∷ codes "--backup" ∷ codes ".orig" ∷ codes "F" ∷ []) ≡ edit_so (writing.AtTheEnd (Some (codes ".orig")))) refl  -- replaced whole, and kept
    ∷ row (job_given (codes "edit" ∷ codes "--backup=-old" ∷ codes "F" ∷ codes "--whole" ∷ []) ≡ edit_so (writing.AtTheEnd (Some (codes "-old")))) refl  -- kept under a name that ends like an option
    ∷ row (job_given (codes "edit" ∷ codes "--backup" ∷ codes "~" ∷ codes "--whole" ∷ codes "-n" ∷ codes "F" ∷ []) ≡ edit_so (writing.Never true false false (Some (codes "~")))) refl  -- kept, rehearsed
    ∷ row (job_given (codes "run" ∷ codes "--whole" ∷ codes "--backup" ∷ codes "~" ∷ codes "C" ∷ codes "F" ∷ []) ≡ run_so (writing.AtTheEnd (Some (codes "~")))) refl  -- run, and kept
    ∷ row (job_given (codes "edit" ∷ codes "--backup" ∷ codes ".orig" ∷ codes "F" ∷ []) ≡ None) refl  -- kept, and not replaced whole
    ∷ row (job_given (codes "edit" ∷ codes "-n" ∷ codes "--backup" ∷ codes ".orig" ∷ codes "F" ∷ []) ≡ None) refl  -- kept, rehearsed, and not replaced whole
    ∷ row (job_given (codes "run" ∷ codes "--backup" ∷ codes ".orig" ∷ codes "C" ∷ codes "F" ∷ []) ≡ None) refl  -- run and kept, and not replaced whole
    ∷ row (job_given (codes "edit" ∷ codes "--whole" ∷ codes "--backup" ∷ [] ∷ codes "F" ∷ []) ≡ None) refl  -- kept under its own name
    ∷ row (job_given (codes "edit" ∷ codes "--whole" ∷ codes "--backup" ∷ codes ".d/F" ∷ codes "F" ∷ []) ≡ None) refl  -- kept in another folder
    ∷ row (job_given (codes "edit" ∷ codes "--whole" ∷ codes "--backup" ∷ codes "/" ∷ codes "F" ∷ []) ≡ None) refl  -- kept in a folder
    ∷ row (job_given (codes "edit" ∷ codes "--whole" ∷ codes "--backup" ∷ []) ≡ None) refl  -- kept under no name
    ∷ row (job_given (codes "edit" ∷ codes "--whole" ∷ codes "--backup" ∷ codes "a" ∷ codes "--backup" ∷ codes "b" ∷ codes "F" ∷ []) ≡ None) refl  -- kept under two names
    ∷ row (job_given (codes "vouch" ∷ codes "--backup" ∷ codes ".orig" ∷ codes "F" ∷ []) ≡ None) refl  -- vouched and kept
    ∷ row (job_given (codes "edit" ∷ codes "--unchanged" ∷ codes "F" ∷ []) ≡ edit_so (writing.AtOnce true)) refl  -- spared
    ∷ row (job_given (codes "edit" ∷ codes "--unchanged" ∷ codes "--whole" ∷ codes "F" ∷ []) ≡ edit_so (writing.AtTheEnd None)) refl  -- spared, as whole files are
    ∷ row (job_given (codes "edit" ∷ codes "-n" ∷ codes "F" ∷ codes "--unchanged" ∷ []) ≡ edit_so (writing.Never false true false None)) refl  -- spared, rehearsed
    ∷ row (job_given (codes "edit" ∷ codes "-n" ∷ codes "--diff" ∷ codes "F" ∷ []) ≡ edit_so (writing.Never false false true None)) refl  -- shown, rehearsed
    ∷ row (job_given (codes "edit" ∷ codes "--diff" ∷ codes "--whole" ∷ codes "-n" ∷ codes "F" ∷ []) ≡ edit_so (writing.Never true false true None)) refl  -- and replaced whole
    ∷ row (job_given (codes "edit" ∷ codes "--diff" ∷ codes "F" ∷ []) ≡ None) refl  -- shown, and not rehearsed
    ∷ row (job_given (codes "run" ∷ codes "--diff" ∷ codes "C" ∷ codes "F" ∷ []) ≡ None) refl  -- so by run
    ∷ row (job_given (codes "run" ∷ codes "-n" ∷ codes "--diff" ∷ codes "C" ∷ codes "F" ∷ []) ≡ run_so (writing.Never false false true None)) refl  -- run, rehearsed and shown
    ∷ row (job_given (codes "vouch" ∷ codes "--diff" ∷ codes "F" ∷ []) ≡ None) refl  -- vouched and shown
    ∷ row (job_given (codes "run" ∷ codes "C" ∷ codes "--unchanged" ∷ codes "F" ∷ []) ≡ None) refl  -- run, and spared
    ∷ row (job_given (codes "edit" ∷ codes "--unchanged" ∷ codes "--unchanged" ∷ codes "F" ∷ []) ≡ None) refl  -- spared twice
    ∷ row (job_given (codes "check" ∷ codes "--unchanged" ∷ codes "C" ∷ []) ≡ None) refl  -- checked and spared
    ∷ row (job_given (codes "vouch" ∷ codes "--like" ∷ codes "G" ∷ codes "F" ∷ []) ≡ vouch_like false false) refl  -- files like another
    ∷ row (job_given (codes "vouch" ∷ codes "F" ∷ codes "--all" ∷ codes "--like=G" ∷ codes "--patterns" ∷ []) ≡ vouch_like true true) refl  -- files like another, with patterns and all refusals
    ∷ row (job_given (codes "vouch" ∷ codes "--like" ∷ codes "G" ∷ []) ≡ None) refl  -- files like another, and none that is edited
    ∷ row (job_given (codes "vouch" ∷ codes "--like" ∷ codes "F" ∷ codes "--min" ∷ codes "1" ∷ codes "F" ∷ []) ≡ None) refl  -- files like one, of so many lines at least
    ∷ row (job_given (codes "vouch" ∷ codes "--like" ∷ codes "F" ∷ codes "--max" ∷ codes "any" ∷ codes "F" ∷ []) ≡ None) refl  -- files like one, of any number of lines
    ∷ row (job_given (codes "vouch" ∷ codes "--has" ∷ codes "a" ∷ codes "--like" ∷ codes "F" ∷ codes "F" ∷ []) ≡ None) refl  -- files like one, with a pattern
    ∷ row (job_given (codes "vouch" ∷ codes "--like" ∷ codes "-" ∷ codes "F" ∷ []) ≡ None) refl  -- files like a hyphen
    ∷ row (job_given (codes "vouch" ∷ codes "--like" ∷ [] ∷ codes "F" ∷ []) ≡ None) refl  -- files like one without a name
    ∷ row (job_given (codes "vouch" ∷ codes "--like" ∷ codes "G" ∷ codes "-" ∷ []) ≡ None) refl  -- a hyphen like another file
    ∷ row (job_given (codes "vouch" ∷ codes "--like" ∷ codes "G" ∷ codes "--like" ∷ codes "H" ∷ codes "F" ∷ []) ≡ None) refl  -- files like two
    ∷ row (job_given (codes "vouch" ∷ codes "--like" ∷ []) ≡ None) refl  -- files like nothing
    ∷ row (job_given (codes "vouch" ∷ codes "-f" ∷ codes "S" ∷ codes "--like" ∷ codes "G" ∷ codes "-f" ∷ codes "T" ∷ codes "F" ∷ []) ≡ judge_like (codes "S" ∷ codes "T" ∷ []) First) refl  -- two scripts for files like another
    ∷ row (job_given (codes "vouch" ∷ codes "-q" ∷ codes "--like" ∷ codes "G" ∷ codes "F" ∷ []) ≡ judge_like [] Nothing) refl  -- quiet for files like another
    ∷ row (job_given (codes "vouch" ∷ codes "--like" ∷ codes "G" ∷ codes "-f" ∷ codes "-" ∷ codes "F" ∷ []) ≡ None) refl  -- a hyphen as a script for files like another
    ∷ row (job_given (codes "edit" ∷ codes "--vouched" ∷ codes "--like" ∷ codes "G" ∷ codes "-s" ∷ codes "F" ∷ []) ≡ edit_like) refl  -- a run on files like another
    ∷ row (job_given (codes "edit" ∷ codes "--like" ∷ codes "G" ∷ codes "F" ∷ []) ≡ None) refl  -- a run that isn't vouched for on files like another
    ∷ row (job_given (codes "edit" ∷ codes "--vouched" ∷ codes "--like" ∷ codes "G" ∷ []) ≡ None) refl  -- a run on the empty buffer, like a file
    ∷ row (job_given (codes "edit" ∷ codes "--vouched" ∷ codes "--like" ∷ codes "-" ∷ codes "F" ∷ []) ≡ None) refl  -- a run on files like a hyphen
    ∷ row (job_given (codes "run" ∷ codes "--like" ∷ codes "G" ∷ codes "C" ∷ codes "F" ∷ []) ≡ None) refl  -- a run by a certificate on files like another
    ∷ row (job_given (codes "fits" ∷ codes "--like" ∷ codes "G" ∷ codes "C" ∷ codes "F" ∷ []) ≡ None) refl  -- a test of files like another
    ∷ row (job_given (codes "vouch" ∷ codes "--at" ∷ codes "/a/" ∷ codes "F" ∷ []) ≡ vouch_at (codes "/a/" ∷ [])) refl  -- a landmark
    ∷ row (job_given (codes "vouch" ∷ codes "--at=/b/; /c/" ∷ codes "F" ∷ codes "--at" ∷ codes "/a/" ∷ []) ≡ vouch_at (codes "/b/; /c/" ∷ codes "/a/" ∷ [])) refl  -- two chains, in their order
    ∷ row (job_given (codes "vouch" ∷ codes "--at" ∷ codes "5" ∷ codes "--max" ∷ codes "9" ∷ codes "--min" ∷ codes "1" ∷ codes "F" ∷ []) ≡ vouch_within_at (codes "5" ∷ [])) refl  -- a line, and bounds
    ∷ row (job_given (codes "vouch" ∷ codes "--at" ∷ codes "/a/" ∷ []) ≡ None) refl  -- a landmark of no file
    ∷ row (job_given (codes "vouch" ∷ codes "--at" ∷ []) ≡ None) refl  -- no chain
    ∷ row (job_given (codes "vouch" ∷ codes "--like" ∷ codes "G" ∷ codes "--at" ∷ codes "/a/" ∷ codes "F" ∷ []) ≡ None) refl  -- files like one, with a landmark
    ∷ row (job_given (codes "edit" ∷ codes "--vouched" ∷ codes "--at" ∷ codes "/a/" ∷ codes "F" ∷ []) ≡ edit_at (codes "/a/" ∷ [])) refl  -- a run on files with a landmark
    ∷ row (job_given (codes "edit" ∷ codes "--at" ∷ codes "/a/" ∷ codes "F" ∷ []) ≡ None) refl  -- a run that isn't vouched for on files with a landmark
    ∷ row (job_given (codes "edit" ∷ codes "--vouched" ∷ codes "--at" ∷ codes "/a/" ∷ []) ≡ None) refl  -- a run on the empty buffer, with a landmark
    ∷ row (job_given (codes "edit" ∷ codes "--vouched" ∷ codes "--at" ∷ codes "/a/" ∷ codes "--like" ∷ codes "G" ∷ codes "F" ∷ []) ≡ None) refl  -- a run on files like one, with a landmark
    ∷ row (job_given (codes "explain" ∷ codes "--at" ∷ codes "/a/" ∷ []) ≡ explain_at (codes "/a/" ∷ [])) refl  -- explained with a landmark
    ∷ row (job_given (codes "explain" ∷ codes "--at" ∷ codes "/a/" ∷ codes "C" ∷ []) ≡ None) refl  -- a landmark beside a certificate
    ∷ row (job_given (codes "check" ∷ codes "--at" ∷ codes "/a/" ∷ codes "C" ∷ []) ≡ None) refl  -- a landmark of a check
    ∷ []
