-- The start that is proposed for a script from a file: the file is one that it allows (our own).
use Rattle.std.specs.Prelude.{ℕ, pos, Bool, true, false, not, ◌&&◌, ◌||◌, nat_eq, nat_le, List, [], ◌∷◌, length, Option, Some, None, ◌≤◌, if◌then◌else◌}
use Rattle.std.specs.List.{filter, list_all, list_any}
use Rattle.std.specs.Ordering.{int_eq}
use Rattle.ed_base.specs.Lines.{lines_of}
use Rattle.ed_syntax.specs.Commands as ed
use Rattle.ed_syntax.specs.Commands.{Base, Address, Addresses, Command, Step, Script}
use Rattle.ed_syntax.specs.meaning.Verbs.{takes}
use Rattle.ed_syntax.specs.meaning.Values.{matches}
use Rattle.ed_rules.specs.Exact.{is_target_by_number}
use Rattle.ed_rules.specs.LineBounds.{IsWithin}
use Rattle.cert_check.specs.checker.Opening.{Match}
use Rattle.analyser.specs.declared.analysis.Start.{Start}
use Rattle.analyser.specs.Following.{stated_of}
use Rattle.hints.specs.declared.given.Given.{Given}
use Rattle.hints.specs.declared.like.Like.{Like}
use Rattle.hints.specs.Sought.{first_of, second_of}
use Rattle.hints.specs.Widest.{start_with, beside, searched, IsWidest}

-- SCRIPTS THAT TAKE LINES BY THEIR NUMBERS

-- the addresses of a command, those before it and its target, each of which may be missing
abbrev pub addresses_of : Command → List (Option Address)
addresses_of c = first_of c.addresses ∷ second_of c.addresses ∷ (takes c.verb).target ∷ []

-- a command takes no line by what it holds, nor by a mark: it is no `g` or `v`, and each address of it begins with a line's number, the current
-- line or the last one
abbrev pub takes_none_by_text : Step → Bool
takes_none_by_text x = list_all is_target_by_number (addresses_of x.command) && not (takes x.command.verb).global

-- the number of a line, from this number on
abbrev pub is_number_from : (least : ℕ) → Base → Bool
is_number_from least (ed.Number n) = nat_le least n
is_number_from least _ = false

abbrev pub names_line_from : (least : ℕ) → Option Address → Bool
names_line_from least None = false
names_line_from least (Some a) = is_number_from least a.base

abbrev pub is_one : Base → Bool
is_one (ed.Number n) = nat_eq n 1
is_one _ = false

abbrev pub is_last : Base → Bool
is_last ed.Last = true
is_last _ = false

-- an address is just such a base, without an offset
abbrev pub is_just : (base : Base → Bool) → Option Address → Bool
is_just base None = false
is_just base (Some a) = base a.base && int_eq a.offset (pos 0)

-- `1,$`, which are all lines of whatever file it is
abbrev pub are_all_lines : Addresses → Bool
are_all_lines addresses = is_just is_one (first_of addresses) && is_just is_last (second_of addresses)

-- The addresses before a command name a line by its number, of those from this number on. Those of all lines name none.
abbrev pub are_numbered : (least : ℕ) → Addresses → Bool
are_numbered least addresses =
    (names_line_from least (first_of addresses) || names_line_from least (second_of addresses)) && not (are_all_lines addresses)

-- a command names a line by its number, of those from this number on
abbrev pub takes_by_number : (least : ℕ) → Step → Bool
takes_by_number least x = are_numbered least x.command.addresses || names_line_from least (takes x.command.verb).target

-- no command of a script takes a line otherwise than by its number, and some command names one, of those from this number on
abbrev pub names_lines_from : (least : ℕ) → Script → Bool
names_lines_from least script = list_all takes_none_by_text script.steps && list_any (takes_by_number least) script.steps

-- A script takes lines by their numbers, as `diff -e` writes one: some command names a line by its number, be it line 0 or 1 too, and none takes a
-- line otherwise. So it is for files with just so many lines.
abbrev pub is_by_numbers : Script → Bool
is_by_numbers script = names_lines_from 0 script

-- The same, and some line is one after the first: where no file is at hand, 0 and 1 stand for the beginning of whatever file it is.
abbrev pub names_later_lines : Script → Bool
names_later_lines script = names_lines_from 2 script

-- WHAT IS TAKEN FROM THE FILE

-- how many lines the file has
abbrev pub lines_in : Like → ℕ
lines_in like = length (lines_of like.file)

-- just the start file, with as many lines as there are given; a certificate of version 2 where it is asked for, and no landmark
abbrev pub given_within : Like → (min : Option ℕ) → (max : Option ℕ) → Given
given_within like min max =
    record { path = like.path; min = min; max = max; has = if like.patterns then Some [] else None; landmarks = None }

-- What is given of the start: exactly as many lines as the file has, where the script takes lines by their numbers; else any number.
abbrev pub given_like : Script → Like → Given
given_like script like =
    if is_by_numbers script then given_within like (Some (lines_in like)) (Some (lines_in like)) else given_within like None None

-- The patterns that may be stated: those that the script's searches are given and that some line of the file matches. Where the script takes
-- lines by their numbers there is none.
abbrev pub stateable : Script → Like → List (List ℕ)
stateable script like =
    if is_by_numbers script then [] else filter (λ text. list_any (matches text) (lines_of like.file)) (searched script)

-- the fullest start that the file is one of: with as many lines at least, and each pattern that may be stated
abbrev pub fullest_like : Script → Like → Start
fullest_like script like = start_with (given_like script like) (lines_in like) (beside (given_like script like) (stateable script like))

-- WHAT IS PROPOSED

-- these lines are those of a file that a start allows: there are as many as it may have, and each pattern that it states is matched by one
pub record Fits (start : Start) (lines : List (List ℕ)) : Type 0 where
  pub within : IsWithin start.min start.max (length lines)
  pub matched : Match (stated_of start.has) lines

-- The start is the widest one of what is given of it (the script is vouched for, with one line less it isn't, and each pattern that is stated is
-- one that its searches are given and is needed), and the file is one that it allows.
pub record IsLike (script : Script) (like : Like) (start : Start) : Type 0 where
  pub widest : IsWidest script (given_like script like) start
  pub fits : Fits start (lines_of like.file)
