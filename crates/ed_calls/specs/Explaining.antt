-- The commands of a script with what is known before each, and the lines that tell it (our choice of the lines).
use Rattle.std.specs.Prelude.{◌≢◌, ℕ, suc, ◌-◌, true, false, not, List, [], ◌∷◌, ◌++◌, length, drop, All, Option, Some, None, nat_eq, codes, decimal}
use Rattle.std.specs.List.{filter}
use Rattle.ed_base.specs.Lines.{newline}
use Rattle.cert_check.specs.declared.checker.verdict.Place.{Place}
use Rattle.cert_check.specs.Certificates.{Looped, Note}
use Rattle.cert_check.specs.checker.Valid.{command_at, inner_at}
use Rattle.ed_rules.specs.declared.state.State.{State}
use Rattle.ed_calls.specs.Known.{known_of}
use Rattle.ed_calls.specs.Places.{is_before}
use Rattle.ed_calls.specs.declared.explaining.commands.Explained.{Explained}

-- WHAT IS KNOWN BEFORE EACH COMMAND

abbrev pub explained_at : Place → State → Explained
explained_at place s = record { place = place; known = known_of s }

-- the commands of a list from one on, of which so many come before
abbrev pub inner_from : (number before : ℕ) → List State → List Explained
inner_from number before [] = []
inner_from number before (s ∷ ss) = explained_at (inner_at number (suc before)) s ∷ inner_from number (suc before) ss

abbrev pub list_of_note : (number : ℕ) → Option Looped → List Explained
list_of_note number None = []
list_of_note number (Some l) = inner_from number 0 l.inner

-- a command, and those of its list
abbrev pub explained_by : (number : ℕ) → Note → List Explained
explained_by number n = explained_at (command_at number) n.state ∷ list_of_note number n.looped

-- the commands from one on, of which so many come before: each with what its own note says
abbrev pub explained_from : (before : ℕ) → List Note → List Explained
explained_from before [] = []
explained_from before (n ∷ ns) = explained_by (suc before) n ++ explained_from (suc before) ns

abbrev pub explained : List Note → List Explained
explained notes = explained_from 0 notes

-- THOSE BEFORE A PLACE

-- the commands up to a place, without that at the place
abbrev pub up_to : Place → List Explained → List Explained
up_to place [] = []
up_to place (x ∷ xs) = elim (is_before x.place place) [ true ↦ x ∷ up_to place xs | false ↦ [] ]

-- at most the last three
abbrev pub last_three : List Explained → List Explained
last_three xs = drop (length xs - 3) xs

-- LINES

abbrev pub inner_text : Option ℕ → List ℕ
inner_text None = []
inner_text (Some inner) = codes "." ++ decimal inner

-- a line begins with the number of a line of the script, after which a command of a list has its number there; whatever words follow
abbrev pub line_with : (line : ℕ) → (inner : Option ℕ) → (words : List ℕ) → List ℕ
line_with line inner words = decimal line ++ inner_text inner ++ codes ": " ++ words ++ newline ∷ []

-- a text is the lines of these commands, in their order: one for each
pub data Woven : List Explained → (text : List ℕ) → Type 0 where
  none : Woven [] []
  more : (one : Explained) (line : ℕ) (words : List ℕ) (others : List Explained) (text : List ℕ) → All (λ byte. byte ≢ newline) words → Woven others text →
      Woven (one ∷ others) (line_with line one.place.inner words ++ text)

-- words without the newlines that they have
abbrev pub on_one_line : List ℕ → List ℕ
on_one_line words = filter (λ byte. not (nat_eq byte newline)) words
