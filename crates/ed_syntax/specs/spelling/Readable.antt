-- Commands that can be read: what holds of each command that bytes spell (XCU ed, "Addresses in ed", "Commands in ed").
use Rattle.std.specs.Prelude.{ℕ, Bool, true, not, ◌&&◌, ◌||◌, List, is_none, nat_eq, IsTrue}
use Rattle.std.specs.List.{list_all}
use Rattle.ed_base.specs.Lines.{newline}
use Rattle.ed_syntax.specs.Commands as ed
use Rattle.ed_syntax.specs.Commands.{Verb, Command, Step, Script}
use Rattle.ed_syntax.specs.meaning.Verbs.{takes, may_have}
use Rattle.ed_syntax.specs.spelling.Spellings.{SpellsScript}

-- none of these lines holds a newline
abbrev pub are_lines : List (List ℕ) → Bool
are_lines text = list_all (λ line. list_all (λ byte. not (nat_eq byte newline)) line) text

-- what a command enters are lines; no script enters anything else
abbrev pub enters_lines : Verb → Bool
enters_lines (ed.Append text) = are_lines text
enters_lines (ed.Insert text) = are_lines text
enters_lines (ed.Change text) = are_lines text
enters_lines _ = true

-- What holds of each command that is read: it has no addresses and no suffix where it takes none, and a text's lines hold no newline.
abbrev pub is_readable : Command → Bool
is_readable c = may_have c.addresses c.verb && (is_none c.suffix || (takes c.verb).suffix) && enters_lines c.verb

-- a step whose command and whose list's commands are readable
abbrev pub is_readable_step : Step → Bool
is_readable_step x = is_readable x.command && list_all is_readable x.list

-- each command of a script that bytes spell is readable, those of lists too
abbrev pub SpelledIsReadable : Type 0
SpelledIsReadable = (bytes : List ℕ) (script : Script) → SpellsScript bytes script → IsTrue (list_all is_readable_step script.steps)
