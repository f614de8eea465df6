-- Scripts that may leave no line for a command, and scripts whose changes nobody sees (XCU ed, "Commands in ed"; what is meant is our guess).
use Rattle.std.specs.Prelude.{Bool, true, false, not, ◌&&◌, ◌||◌, List, [], ◌∷◌, is_some, is_none}
use Rattle.std.specs.List.{list_any}
use Rattle.ed_syntax.specs.Commands as ed
use Rattle.ed_syntax.specs.Commands.{Addresses, One, Verb, Command, Step, Script}
use Rattle.ed_syntax.specs.meaning.Verbs as verbs
use Rattle.ed_syntax.specs.meaning.Verbs.{takes, Alteration}
use Rattle.remarks.specs.Ranges.{is_line_one}

-- WHERE NO LINE MAY BE LEFT

-- `d`
abbrev pub is_delete : Verb → Bool
is_delete ed.Delete = true
is_delete _ = false

-- a global command may delete all lines
abbrev pub deletes_in_list : Step → Bool
deletes_in_list x = list_any (λ c. is_delete c.verb) x.list

-- lines are put in, or come back, so that there are some
abbrev pub puts : Alteration → Bool
puts (verbs.Enters text) = true
puts verbs.Reads = true
puts verbs.Loads = true
puts verbs.BringsBack = true
puts _ = false

-- a command of the script puts lines in
abbrev pub puts_lines : Step → Bool
puts_lines x = puts (takes x.command.verb).lines

-- After a step no line may be left: its list may delete all, or none may have been left before it and it puts none in.
abbrev pub may_leave_none : (emptied : Bool) → Step → Bool
may_leave_none emptied x = deletes_in_list x || (emptied && not (puts_lines x))

-- `i`
abbrev pub is_insert : Verb → Bool
is_insert (ed.Insert text) = true
is_insert _ = false

-- line 1 is the only address
abbrev pub is_at_first : Addresses → Bool
is_at_first (One a) = is_line_one a
is_at_first _ = false

-- `1i`
abbrev pub inserts_at_first : Step → Bool
inserts_at_first x = is_insert x.command.verb && is_at_first x.command.addresses

-- CHANGES THAT NOBODY SEES

-- the lines of the buffer are changed, and not taken from a file or brought back
abbrev pub is_change : Alteration → Bool
is_change verbs.Never = false
is_change verbs.Loads = false
is_change verbs.BringsBack = false
is_change _ = true

-- a command changes lines, its list aside
abbrev pub changes : Command → Bool
changes c = is_change (takes c.verb).lines

-- a command by itself writes lines to a file or to the output
abbrev pub verb_writes : Verb → Bool
verb_writes (ed.Write form) = true
verb_writes ed.Null = true
verb_writes (ed.WriteFile path) = true
verb_writes (ed.Substitute pattern replacement which form) = is_some form
verb_writes _ = false

-- it does, or its suffix does
abbrev pub writes : Command → Bool
writes c = verb_writes c.verb || is_some c.suffix

-- the same of a step with its list
abbrev pub step_changes : Step → Bool
step_changes x = changes x.command || list_any changes x.list

abbrev pub step_writes : Step → Bool
step_writes x = writes x.command || list_any writes x.list

-- the steps before the first that ends the run
abbrev pub before_end : List Step → List Step
before_end [] = []
before_end (x ∷ xs) = elim (is_some (takes x.command.verb).ends) [ true ↦ [] | false ↦ x ∷ before_end xs ]

-- A script that can be read to its end changes lines before the run ends, and writes none, neither to a file nor to the output.
abbrev pub writes_nothing : Script → Bool
writes_nothing script =
    is_none script.fault && list_any step_changes (before_end script.steps) && not (list_any step_writes (before_end script.steps))
