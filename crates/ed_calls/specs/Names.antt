-- Names by which no file can be asked for here: those that aren't UTF-8 (our own: a path is a text). A run that asks for one is refused.
use Rattle.std.specs.Prelude.{ℕ, suc, Bool, true, false, not, ◌||◌, ◌&&◌, List, [], ◌∷◌, Option, Some, None, if◌then◌else◌}
use Rattle.std.specs.List.{list_any}
use Rattle.std.specs.Str.{is_utf8}
use Rattle.ed_syntax.specs.Commands as ed
use Rattle.ed_syntax.specs.Commands.{Command, Step, Script, Verb}
use Rattle.ed_syntax.specs.meaning.Verbs.{takes}
use Rattle.cert_check.specs.declared.checker.verdict.Place.{Place}
use Rattle.cert_check.specs.checker.Valid.{command_at, counted, inner_at}
use Rattle.analyser.specs.declared.analysis.Analysis.{Analysis}
use Rattle.analyser.specs.declared.analysis.Analysis.TheVariants.{Vouched, Cannot}
use Rattle.analyser.specs.declared.analysis.Start.{Start}
use Rattle.ed_calls.specs.Places.{is_before}

abbrev pub is_unusable : Option (List ℕ) → Bool
is_unusable None = false
is_unusable (Some path) = not (is_utf8 path)

-- THE REMEMBERED NAME

-- It is such a one after a command: after `f` if that gives such a one, and after another only if it was before. What `e` and `E` ask for by
-- such a name is refused, and by another one they remember that.
abbrev pub remembered_after : (before : Bool) → Verb → Bool
remembered_after before (ed.FileName (Some path)) = not (is_utf8 path)
remembered_after before (ed.Edit (Some path)) = false
remembered_after before (ed.EditAnyway (Some path)) = false
remembered_after before other = before

-- it may be one in the turns of a list, and after them: it was before, or some `f` of the list gives one
abbrev pub remembered_in : (before : Bool) → List Command → Bool
remembered_in before list = before || list_any (λ c. remembered_after false c.verb) list

-- it may be one after a step
abbrev pub remembered_past : (before : Bool) → Step → Bool
remembered_past before x = remembered_in (remembered_after before x.command.verb) x.list

-- WHAT IS ASKED FOR

-- a command asks for a file by such a name: the one that it is given, or else the remembered one
abbrev pub asks_unusable : (remembered : Bool) → Verb → Bool
asks_unusable remembered verb =
    (takes verb).asks && (elim (takes verb).path [ None ↦ remembered | Some path ↦ not (is_utf8 path) ])

-- the first command of a list that does, where its first one has this number there
abbrev pub first_in_list : (number inner : ℕ) → (remembered : Bool) → List Command → Option Place
first_in_list number inner remembered [] = None
first_in_list number inner remembered (c ∷ cs) =
    if asks_unusable remembered c.verb then Some (inner_at number inner) else first_in_list number (suc inner) remembered cs

-- the first one of a step: its own command, or one of its list
abbrev pub first_of_step : (number : ℕ) → (remembered : Bool) → Step → Option Place
first_of_step number remembered x =
    if asks_unusable remembered x.command.verb then Some (command_at number)
    else first_in_list number 1 (remembered_in remembered x.list) x.list

-- the first one of these steps, where the first of them has this number
abbrev pub first_from : (number : ℕ) → (remembered : Bool) → List Step → Option Place
first_from number remembered [] = None
first_from number remembered (x ∷ xs) = elim (first_of_step number remembered x) [
  | Some place ↦ Some place
  | None ↦ first_from (suc number) (remembered_past remembered x) xs
]

-- BEFORE A NEED THAT FAILS

-- the place of the first counted command that asks for a file by such a name, where the file at this path is the first
abbrev pub first_asked : (path : Option (List ℕ)) → Script → Option Place
first_asked path script = first_from 1 (is_unusable path) (counted script.steps)

-- a place where something is wrong, if a run comes there: no need fails before it, nor at it
abbrev pub unless_before : Analysis → Place → Option Place
unless_before (Vouched c) place = Some place
unless_before (Cannot need why notes) place = elim (is_before place need) [ true ↦ Some place | false ↦ None ]

-- where a run over this start asks for a file by such a name before it comes to the first need that fails
abbrev pub first_unusable : Script → Start → Analysis → Option Place
first_unusable script start answer = elim (first_asked start.path script) [ None ↦ None | Some place ↦ unless_before answer place ]
