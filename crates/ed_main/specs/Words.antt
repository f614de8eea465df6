-- The words that the program is given, as `clap` reads them, and the job that they give (XCU ed, "Synopsis"; our choice: no prompt or file
-- that reads as an option).
use Rattle.std.specs.Prelude.{◌≡◌, ◌≢◌, ◌⊎◌, ℕ, Bool, true, false, not, ◌&&◌, ◌||◌, List, [], ◌∷◌, codes, length, nat_eq, nat_lt, Option, Some, None, option_map, unwrap_or, is_none, is_ok, is_some, if◌then◌else◌}
use Rattle.std.specs.List.{list_all, list_any}
use Rattle.std.specs.Option.{option_map_or}
use Rattle.std.specs.Char.{digit_value}
use Rattle.std.specs.Str.{bytes_eq}
use Rattle.std.specs.Str.Parse.{digits_value, without_leading_plus}
use Rattle.clap.specs.Words.{IsAmong, Kinds, Row, all_of, fault_of, first_of, subcommand_of}
use Rattle.bre_parse.specs.Grammar.{pattern}
use Rattle.ed_syntax.specs.declared.options.Options.{Options}
use Rattle.ed_rules.specs.LineBounds.{is_few, is_within}
use Rattle.ed_rules.specs.Texts.{with_texts}
use Rattle.ed_calls.specs.declared.judgement.Detail.{Detail}
use Rattle.ed_calls.specs.declared.judgement.Detail.TheVariants.{Nothing, First, Each}
use Rattle.ed_calls.specs.declared.starts.Starts.{Starts}
use Rattle.ed_calls.specs.declared.starts.Starts.TheVariants.{Given, Widest}
use Rattle.clap.specs.declared.error.kind.ErrorKind.{ErrorKind}
use Rattle.clap.specs.declared.error.kind.ErrorKind.TheVariants as kind
use Rattle.ed_main.specs.declared.words.WordsFault.{WordsFault}
use Rattle.ed_main.specs.declared.words.WordsFault.TheVariants as words
use Rattle.ed_main.specs.declared.job.Job.{Job}
use Rattle.ed_main.specs.declared.job.Job.TheVariants as job
use Rattle.ed_main.specs.declared.wanted.Wanted.{Wanted}
use Rattle.ed_main.specs.declared.wanted.Wanted.TheVariants as wanted
use Rattle.ed_main.specs.declared.writing.Writing.{Writing}
use Rattle.ed_main.specs.declared.writing.Writing.TheVariants as writing
use Rattle.ed_main.specs.Chains.{AreHad}
use Rattle.ed_main.specs.Starts.{any_start}
use Rattle.ed_main.specs.Subcommands.{program}

-- a string that may be a prompt: it doesn't begin with a hyphen
abbrev pub is_prompt : Option (List ℕ) → Bool
is_prompt None = true
is_prompt (Some []) = true
is_prompt (Some (byte ∷ bytes)) = not (nat_eq byte 45)

-- a word that may name a file: it is neither empty nor a hyphen alone
abbrev pub is_path : Option (List ℕ) → Bool
is_path None = true
is_path (Some []) = false
is_path (Some (byte ∷ [])) = not (nat_eq byte 45)
is_path (Some (byte ∷ next ∷ bytes)) = true

-- each of these words may name a file
abbrev pub are_paths : List (List ℕ) → Bool
are_paths words = list_all (λ word. is_path (Some word)) words

-- a flag was given
abbrev pub is_given : Option (List ℕ) → Bool
is_given text = option_map_or (λ t. bytes_eq t (codes "true")) text false

-- the options that `edit` was given
abbrev pub options_in : List Row → Options
options_in rows = record {
  silent = is_given (first_of (codes "silent") rows);
  prompt = first_of (codes "prompt") rows;
  path = first_of (codes "file") rows;
}

-- When the writes of a run are to be made: never where it is to be rehearsed, else at its end where files are to be replaced whole. There the old
-- ones may be kept, under names with a suffix. Written at once, files that have the bytes already may be spared. What a rehearsal would change may be
-- shown.
abbrev pub writing_of : (rehearsed whole spares shows : Bool) → (suffix : Option (List ℕ)) → Writing
writing_of true whole spares shows suffix = writing.Never whole spares shows suffix
writing_of false true spares shows suffix = writing.AtTheEnd suffix
writing_of false false spares shows suffix = writing.AtOnce spares

-- a suffix leads from a file to another name in its folder: it isn't empty and has no slash
abbrev pub is_suffix : List ℕ → Bool
is_suffix text = not (nat_eq (length text) 0) && not (list_any (λ byte. nat_eq byte 47) text)

-- old files may be kept where files are replaced whole
abbrev pub may_keep : (whole : Bool) → (suffix : Option (List ℕ)) → Bool
may_keep whole None = true
may_keep whole (Some suffix) = whole && is_suffix suffix

-- what would change is shown where a run is rehearsed
abbrev pub may_show : (rehearsed shows : Bool) → Bool
may_show rehearsed shows = rehearsed || not shows

abbrev pub writing_with : (rehearsed whole spares shows : Bool) → (suffix : Option (List ℕ)) → Option Writing
writing_with rehearsed whole spares shows suffix = elim (may_show rehearsed shows && may_keep whole suffix) [
  | true ↦ Some (writing_of rehearsed whole spares shows suffix)
  | false ↦ None
]

abbrev pub writing_in : List Row → Option Writing
writing_in rows =
    writing_with (is_given (first_of (codes "rehearsed") rows)) (is_given (first_of (codes "whole") rows))
    (is_given (first_of (codes "unchanged") rows)) (is_given (first_of (codes "diff") rows)) (first_of (codes "backup") rows)

-- a script is only to be run if it is vouched for
abbrev pub is_to_be_vouched : List Row → Bool
is_to_be_vouched rows = is_given (first_of (codes "vouched") rows)

-- all refusals are to be shown
abbrev pub shows_all : List Row → Bool
shows_all rows = is_given (first_of (codes "all") rows)

-- nothing is to be told
abbrev pub is_quiet : List Row → Bool
is_quiet rows = is_given (first_of (codes "quiet") rows)

-- the file that a start is to be proposed from
abbrev pub like_in : List Row → Option (List ℕ)
like_in rows = first_of (codes "like") rows

-- a bound of the start is stated, a pattern or a landmark
abbrev pub states_start : List Row → Bool
states_start rows =
    is_some (first_of (codes "min") rows) || (is_some (first_of (codes "max") rows)
    || (is_some (first_of (codes "has") rows) || is_some (first_of (codes "at") rows)))

-- the file that a script is to be read from
abbrev pub script_in : List Row → Option (List ℕ)
script_in rows = first_of (codes "script") rows

-- the start over which `edit --vouched` judges a script: any with the file at this path and these landmarks, which is found as `vouch` finds
-- it; or one that is proposed from another file
abbrev pub judged_over : (path like : Option (List ℕ)) → (at : List (List ℕ)) → Wanted
judged_over path None at = wanted.Stated (any_start path None) at
judged_over path (Some like) at = wanted.Like path true like

-- `edit` judges a script where it is asked to
abbrev pub judged_if : (vouched : Bool) → (path like : Option (List ℕ)) → (at : List (List ℕ)) → Option Wanted
judged_if true path like at = Some (judged_over path like at)
judged_if false path like at = None

-- a start may be proposed from a file where it is sought, and nothing else is given of it, for a file that is named
abbrev pub may_propose : (sought : Bool) → (path like : Option (List ℕ)) → Bool
may_propose sought path None = true
may_propose sought path (Some like) = is_some path && (sought && is_path (Some like))

-- landmarks, where some are given, are those of a file that is named
abbrev pub may_have : (path : Option (List ℕ)) → (at : List (List ℕ)) → Bool
may_have path [] = true
may_have path (chain ∷ at) = is_some path

-- how many lines the file may have leaves room for one
abbrev pub has_room : (most : Option (Option ℕ)) → Bool
has_room (Some (Some most)) = nat_lt 0 most
has_room other = true

-- patterns that some line matches, where some are given, are those of a file that is named and may have a line
abbrev pub may_match : (path : Option (List ℕ)) → (most : Option (Option ℕ)) → (has : List (List ℕ)) → Bool
may_match path most [] = true
may_match path most (pattern ∷ has) = is_some path && has_room most

-- a file to propose a start from, or landmarks, are given only of a script that is judged, for a file that is named, and not both
abbrev pub may_judge : (vouched : Bool) → (path like : Option (List ℕ)) → (at : List (List ℕ)) → Bool
may_judge vouched path like [] = may_propose vouched path like
may_judge vouched path like (chain ∷ at) = vouched && (is_some path && is_none like)

-- the values of an option that may come several times
abbrev pub texts_in : (id : List ℕ) → List Row → List (List ℕ)
texts_in id rows = unwrap_or (all_of id rows) []

-- the texts of chains of landmarks
abbrev pub chains_in : List Row → List (List ℕ)
chains_in rows = texts_in (codes "at") rows

-- the start over which `edit` judges a script on the file at this path with these landmarks, where it is asked to
abbrev pub judged_with : (path : Option (List ℕ)) → (at : List (List ℕ)) → List Row → Option (Option Wanted)
judged_with path at rows = elim (may_judge (is_to_be_vouched rows) path (like_in rows) at) [
  | true ↦ Some (judged_if (is_to_be_vouched rows) path (like_in rows) at)
  | false ↦ None
]

-- the one with the landmarks that are given
abbrev pub judged_in : (path : Option (List ℕ)) → List Row → Option (Option Wanted)
judged_in path rows = judged_with path (chains_in rows) rows

-- a run with these options
abbrev pub editing_over : Options → (script : Option (List ℕ)) → Option Writing → Option (Option Wanted) → Option Job
editing_over o script writes None = None
editing_over o script writes (Some judged) = option_map (λ w. job.Edit o script w judged) writes

-- where they may be given
abbrev pub editing : Options → (script : Option (List ℕ)) → Option Writing → Option (Option Wanted) → Option Job
editing o script writes judged = elim (is_prompt o.prompt && (is_path o.path && is_path script)) [
  | true ↦ editing_over o script writes judged
  | false ↦ None
]

-- digits, of which there is one at least
abbrev pub are_digits : List ℕ → Bool
are_digits text = nat_lt 0 (length text) && list_all (λ d. nat_lt (digit_value d) 10) text

-- a number of lines as digits, before which a plus may stand, of at most 10^12
abbrev pub lines_in : List ℕ → Option ℕ
lines_in text =
    let digits = without_leading_plus text in
    if are_digits digits && is_few (digits_value 10 digits) then Some (digits_value 10 digits) else None

-- a limit on lines: such a number, or `any` for none
abbrev pub limit_in : List ℕ → Option (Option ℕ)
limit_in text = elim (bytes_eq text (codes "any")) [ true ↦ Some None | false ↦ option_map (λ n. Some n) (lines_in text) ]

-- the fewest lines, where they are given: the text has to be such a number
abbrev pub least_in : Option (List ℕ) → Option (Option ℕ)
least_in None = Some None
least_in (Some text) = option_map (λ least. Some least) (lines_in text)

-- the limit, where one is given: the text has to be one
abbrev pub most_in : Option (List ℕ) → Option (Option (Option ℕ))
most_in None = Some None
most_in (Some text) = option_map (λ most. Some most) (limit_in text)

-- the low bound isn't above the high one; where one isn't given, it is 0 or no limit
abbrev pub are_in_order : (least : Option ℕ) → (most : Option (Option ℕ)) → Bool
are_in_order least most = is_within (unwrap_or least 0) (unwrap_or most None)

-- the start of these bounds where both are given, and else what is given of the widest one
abbrev pub starts_of : (path : Option (List ℕ)) → (least : Option ℕ) → (most : Option (Option ℕ)) → (has : Option (List (List ℕ))) → Starts
starts_of path (Some least) (Some most) has = Given (record { path = path; min = least; max = most; has = has; landmarks = None })
starts_of path (Some least) None has = Widest (record { path = path; min = Some least; max = None; has = has; landmarks = None })
starts_of path None (Some most) has = Widest (record { path = path; min = None; max = most; has = has; landmarks = None })
starts_of path None None has = any_start path has

-- each of these texts is a pattern
abbrev pub are_patterns : List (List ℕ) → Bool
are_patterns texts = list_all (λ text. is_ok (pattern text)) texts

-- The patterns that a start states, each once and in their order, where a certificate that tells of patterns is asked for: by its flag, or by
-- a pattern.
abbrev pub stated : (asked : Bool) → (texts : List (List ℕ)) → Option (List (List ℕ))
stated asked (text ∷ texts) = Some (with_texts (text ∷ texts) [])
stated true [] = Some []
stated false [] = None

-- these may be stated: they are patterns, and such as may be given
abbrev pub may_state : (path : Option (List ℕ)) → (most : Option (Option ℕ)) → (has : List (List ℕ)) → Bool
may_state path most has = may_match path most has && are_patterns has

-- how much is told of a script that isn't vouched for, where something is
abbrev pub detail_of : (all : Bool) → Detail
detail_of true = Each
detail_of false = First

-- a certificate is asked for of one script, in a file or on standard input; several are judged without
abbrev pub telling_of : Wanted → (scripts : List (List ℕ)) → (all : Bool) → Job
telling_of over [] all = job.Vouch over None all
telling_of over (script ∷ []) all = job.Vouch over (Some script) all
telling_of over (script ∷ next ∷ scripts) all = job.Judge over (script ∷ next ∷ scripts) (detail_of all)

-- where nothing is to be told, one is judged without, too
abbrev pub vouching_of : Wanted → (scripts : List (List ℕ)) → (all quiet : Bool) → Job
vouching_of over scripts all true = job.Judge over scripts Nothing
vouching_of over scripts all false = telling_of over scripts all

-- the start of these bounds, where the low one isn't above the high one, and of these patterns and landmarks, where they may be given and each
-- pattern is one
abbrev pub stated_within : (least : Option ℕ) → (most : Option (Option ℕ)) → (path : Option (List ℕ)) → (asked : Bool) → (has at : List (List ℕ)) → Option Wanted
stated_within least most path asked has at = elim (are_in_order least most && (may_state path most has && may_have path at)) [
  | true ↦ Some (wanted.Stated (starts_of path least most (stated asked has)) at)
  | false ↦ None
]

abbrev pub stated_from : (least : Option ℕ) → Option (Option (Option ℕ)) → (path : Option (List ℕ)) → (asked : Bool) → (has at : List (List ℕ)) → Option Wanted
stated_from least None path asked has at = None
stated_from least (Some most) path asked has at = stated_within least most path asked has at

abbrev pub stated_read : Option (Option ℕ) → Option (Option (Option ℕ)) → (path : Option (List ℕ)) → (asked : Bool) → (has at : List (List ℕ)) → Option Wanted
stated_read None most path asked has at = None
stated_read (Some least) most path asked has at = stated_from least most path asked has at

-- certificates that tell of patterns are asked for by their flag
abbrev pub tells_of_patterns : List Row → Bool
tells_of_patterns rows = is_given (first_of (codes "patterns") rows)

-- the start for the file at this path that is stated, as far as it is
abbrev pub stated_in : (path : Option (List ℕ)) → List Row → Option Wanted
stated_in path rows =
    stated_read (least_in (first_of (codes "min") rows)) (most_in (first_of (codes "max") rows)) path (tells_of_patterns rows)
    (texts_in (codes "has") rows) (chains_in rows)

-- the one that is proposed from another file, where neither a bound nor a pattern is stated
abbrev pub proposed_in : (path : Option (List ℕ)) → (like : List ℕ) → List Row → Option Wanted
proposed_in path like rows = elim (may_propose (not (states_start rows)) path (Some like)) [
  | true ↦ Some (wanted.Like path (tells_of_patterns rows) like)
  | false ↦ None
]

-- the start for the file at this path that is asked for
abbrev pub wanted_by : (like : Option (List ℕ)) → (path : Option (List ℕ)) → List Row → Option Wanted
wanted_by None path rows = stated_in path rows
wanted_by (Some like) path rows = proposed_in path like rows

abbrev pub wanted_in : (path : Option (List ℕ)) → List Row → Option Wanted
wanted_in path rows = wanted_by (like_in rows) path rows

-- it is vouched for over the start that is asked for
abbrev pub vouching_over : Option Wanted → (scripts : List (List ℕ)) → (all quiet : Bool) → Option Job
vouching_over None scripts all quiet = None
vouching_over (Some over) scripts all quiet = Some (vouching_of over scripts all quiet)

-- where each name may be one of a file
abbrev pub vouching_if : (named : Bool) → Option Wanted → (scripts : List (List ℕ)) → (all quiet : Bool) → Option Job
vouching_if true over scripts all quiet = vouching_over over scripts all quiet
vouching_if false over scripts all quiet = None

-- a check of the certificate at a path that may be given
abbrev pub checking : (certificate script : Option (List ℕ)) → Option Job
checking None script = None
checking (Some path) script = elim (is_path (Some path) && is_path script) [ true ↦ Some (job.Check path script) | false ↦ None ]

-- a run of a script that is checked first
abbrev pub running : Option (List ℕ) → Options → (script : Option (List ℕ)) → Option Writing → Option Job
running None o script writes = None
running (Some path) o script writes = elim (is_path (Some path) && (is_path o.path && is_path script)) [
  | true ↦ option_map (λ w. job.Run path o script w) writes
  | false ↦ None
]

-- a test of the file at a path that may be given, by the certificate at another
abbrev pub fitting : (certificate path : Option (List ℕ)) → Option Job
fitting None path = None
fitting (Some certificate) path = elim (is_path (Some certificate) && is_path path) [ true ↦ Some (job.Fits certificate path) | false ↦ None ]

-- the file that is meant where a script is explained without a certificate, or several are judged, and none is named: any, under this name
abbrev pub any_file : Option (List ℕ)
any_file = Some (codes "FILE")

-- something is given of a start
abbrev pub gives_start : List Row → Bool
gives_start rows = is_some (like_in rows) || (tells_of_patterns rows || states_start rows)

-- a script is explained by the certificate at a path, beside which nothing is given of a start
abbrev pub explaining_by : (path : List ℕ) → List Row → Option Job
explaining_by path rows = elim (is_path (Some path) && not (gives_start rows)) [ true ↦ Some (job.ExplainBy path (script_in rows)) | false ↦ None ]

-- or over the start that is asked for
abbrev pub explaining_over : Option Wanted → (script : Option (List ℕ)) → Option Job
explaining_over None script = None
explaining_over (Some over) script = Some (job.Explain over script)

abbrev pub explaining : (certificate : Option (List ℕ)) → List Row → Option Job
explaining None rows = explaining_over (wanted_in any_file rows) (script_in rows)
explaining (Some path) rows = explaining_by path rows

-- the job of each subcommand with what it was given
abbrev pub edit_job : List Row → Option Job
edit_job rows = editing (options_in rows) (script_in rows) (writing_in rows) (judged_in (first_of (codes "file") rows) rows)

-- the file that scripts are for: several are for any, where none is named, since no certificate is made that would have its name
abbrev pub file_for : (path : Option (List ℕ)) → (scripts : List (List ℕ)) → Option (List ℕ)
file_for None (script ∷ next ∷ scripts) = any_file
file_for path scripts = path

-- the job of `vouch` with these scripts
abbrev pub vouch_job_of : List Row → (scripts : List (List ℕ)) → Option Job
vouch_job_of rows scripts =
    let path = first_of (codes "file") rows in
    vouching_if (is_path path && are_paths scripts) (wanted_in (file_for path scripts) rows) scripts (shows_all rows) (is_quiet rows)

abbrev pub vouch_job : List Row → Option Job
vouch_job rows = vouch_job_of rows (texts_in (codes "script") rows)

abbrev pub explain_job : List Row → Option Job
explain_job rows = elim (is_path (script_in rows)) [ true ↦ explaining (first_of (codes "certificate") rows) rows | false ↦ None ]

abbrev pub check_job : List Row → Option Job
check_job rows = checking (first_of (codes "certificate") rows) (script_in rows)

-- there is no prompt here
abbrev pub run_job : List Row → Option Job
run_job rows = running (first_of (codes "certificate") rows) (record (options_in rows) { prompt = None }) (script_in rows) (writing_in rows)

abbrev pub fits_job : List Row → Option Job
fits_job rows = fitting (first_of (codes "certificate") rows) (first_of (codes "file") rows)

-- the job of a subcommand by its name
abbrev pub job_by_name : List ℕ → List Row → Option Job
job_by_name name rows =
    if bytes_eq name (codes "edit") then edit_job rows else if bytes_eq name (codes "vouch") then vouch_job rows
    else if bytes_eq name (codes "explain") then explain_job rows
    else if bytes_eq name (codes "check") then check_job rows else if bytes_eq name (codes "run") then run_job rows
    else if bytes_eq name (codes "fits") then fits_job rows else None

abbrev pub job_named : Option (List ℕ × List Row) → Option Job
job_named None = None
job_named (Some p) = job_by_name p.0 p.1

-- the job, where `clap` finds no fault
abbrev pub unless_refused : Kinds → Option Job → Option Job
unless_refused [] found = found
unless_refused (kind ∷ kinds) found = None

-- the job that the words give, of which the first is the program's own name
unfoldable pub job_of : List (List ℕ) → Option Job
job_of words = unless_refused (fault_of program words) (job_named (subcommand_of program words))

-- the most lines that the file may have, where a limit is given
abbrev pub limit_of : Option (Option (Option ℕ)) → Option ℕ
limit_of None = None
limit_of (Some most) = unwrap_or most None

-- the texts of chains spell some, and some file of so many lines has their landmarks
abbrev pub AreHadIn : List Row → Type 0
AreHadIn rows = AreHad (limit_of (most_in (first_of (codes "max") rows))) (chains_in rows)

-- the same of the words of a subcommand, where there is one
abbrev pub AreHadBy : Option (List ℕ × List Row) → Type 0
AreHadBy None = Unit {0}
AreHadBy (Some p) = AreHadIn p.1

-- the same of all words
abbrev pub MayBeHad : List (List ℕ) → Type 0
MayBeHad words = AreHadBy (subcommand_of program words)

-- help or the version is asked for
abbrev pub IsRequest : ErrorKind → Type 0
IsRequest k = (k ≡ kind.DisplayHelp) ⊎ (k ≡ kind.DisplayVersion)

-- what is shown is what was asked for
abbrev pub IsAsked : WordsFault → Type 0
IsAsked (words.Asked text) = Unit {0}
IsAsked other = ⊥

-- of what `clap` may find in the words, one is a request
abbrev pub MayAsk : List (List ℕ) → Type 0
MayAsk words = IsAmong kind.DisplayHelp (fault_of program words) ⊎ IsAmong kind.DisplayVersion (fault_of program words)

-- `clap` finds something in the words, and all that it may find are requests
abbrev pub OnlyAsk : List (List ℕ) → Type 0
OnlyAsk words = (fault_of program words ≢ []) × ((k : ErrorKind) → IsAmong k (fault_of program words) → IsRequest k)
