-- The rules of a global command beside that of the command itself: the state in which its list is run for a line, and the state after
-- its last line (XCU ed, "Global Command", "Global Non-Matched Command"). One state, the invariant, stands for the editor before each
-- line is taken and, unless it is known that one line alone is taken, after the last.
use Rattle.std.specs.Prelude.{ℕ, pos, negsuc, Bool, true, false, List, [], Option, Some, None, option_map, find, if◌then◌else◌}
use Rattle.std.specs.List.{list_any}
use Rattle.zones.specs.Name as name
use Rattle.zones.specs.Name.{current_line, last_line}
use Rattle.zones.specs.Zone.{Bounds}
use Rattle.zones.specs.Steps.{after_guard, after_set, after_forget}
use Rattle.ed_syntax.specs.Commands as ed
use Rattle.ed_syntax.specs.Commands.{Addresses, Without, Verb, Command, Step}
use Rattle.ed_syntax.specs.declared.command.Sense.TheVariants as sense
use Rattle.ed_syntax.specs.meaning.Verbs.{may_alter}
use Rattle.ed_syntax.specs.meaning.Globals.{wanted}
use Rattle.ed_rules.specs.declared.known_matches.Matches.{Matches}
use Rattle.ed_rules.specs.declared.state.Old.{Old}
use Rattle.ed_rules.specs.declared.state.Undo.{Undo}
use Rattle.ed_rules.specs.declared.state.State.{State}
use Rattle.ed_rules.specs.States.{old_of}
use Rattle.ed_rules.specs.Pieces.{with_zone, ended}
use Rattle.ed_rules.specs.Texts.{with_text}
use Rattle.ed_rules.specs.facts.Facts.{Facts, no_facts}
use Rattle.ed_rules.specs.Following.{facts_set, spoken_facts}
use Rattle.ed_rules.specs.facts.FoundLines.{without, with_answer, witnesses, is_only}

-- the end of a rule
abbrev pub finished : State → State
finished s = with_zone (ended s.marks s.zone) s

-- some line is current
unfoldable pub line_taken : Bounds → Bounds
line_taken zone =
    after_guard (after_guard (after_forget zone current_line) name.zero current_line (negsuc 0)) current_line last_line (pos 0)

-- a line that `g` takes for a given pattern matches it, since no command changes the text of a line with the flag
abbrev pub taken_matches : Verb → (has : List (List ℕ)) → List (List ℕ)
taken_matches (ed.Global sense.Matching (Some text)) has = with_text text has
taken_matches _ has = has

-- of a given pattern it is known whether the line that was taken, which is current, matches it
abbrev pub with_taken : Verb → Facts → Facts
with_taken (ed.Global which (Some text)) facts = with_answer current_line text (wanted which true) facts
with_taken _ facts = facts

-- what is known of single lines, where they are followed: another line is current, of which nothing more is known
abbrev pub facts_taken : Verb → (invariant : State) → Facts
facts_taken verb invariant = if invariant.follows then with_taken verb (without current_line invariant.facts) else no_facts

-- the state in which the list is run for a line that was taken, with these bounds and facts
abbrev pub entry_with : Verb → (invariant : State) → Bounds → Facts → State
entry_with verb invariant zone facts =
    finished (record invariant {
      zone = zone;
      matches = record invariant.matches { has = taken_matches verb invariant.matches.has };
      facts = facts;
    })

-- the same, where any line may be the one that was taken
abbrev pub body_entry : Verb → (invariant : State) → State
body_entry verb invariant = entry_with verb invariant (line_taken invariant.zone) (facts_taken verb invariant)

-- ONE LINE ALONE

-- the name of the line that is known to match a pattern, as no other does; as in a search, a letter that isn't sure is no name
abbrev pub only_match : (pattern : List ℕ) → (invariant : State) → Option ℕ
only_match pattern invariant =
    let facts = spoken_facts invariant.marks invariant.facts in find (is_only invariant.zone facts pattern) (witnesses facts pattern)

-- that of the line that a `g` with a given pattern takes, if it goes over all lines
abbrev pub only_line : Verb → (invariant : State) → Option ℕ
only_line (ed.Global sense.Matching (Some text)) invariant = only_match text invariant
only_line _ invariant = None

-- the line of the name v is current
unfoldable pub line_known : (v : ℕ) → Bounds → Bounds
line_known v zone =
    after_guard (after_guard (after_set zone current_line v (pos 0)) name.zero current_line (negsuc 0)) current_line last_line (pos 0)

-- and all that is known of it
abbrev pub facts_known : (v : ℕ) → Verb → (invariant : State) → Facts
facts_known v verb invariant =
    if invariant.follows then with_taken verb (facts_set true current_line v (pos 0) invariant.zone invariant.facts) else no_facts

-- the state in which the list is run for the line of the name v, bounds and facts changed at once
abbrev pub line_entry : (v : ℕ) → Verb → (invariant : State) → State
line_entry v verb invariant = entry_with verb invariant (line_known v invariant.zone) (facts_known v verb invariant)

-- no addresses are given, so that all lines are gone over
abbrev pub once_by : (given : Addresses) → Verb → (invariant : State) → Option State
once_by Without verb invariant = option_map (λ v. line_entry v verb invariant) (only_line verb invariant)
once_by _ verb invariant = None

-- The state in which the list is run, where it is known by the invariant that it is run once, and for which line. The invariant then stands
-- for the editor before that line is taken, and what the list leaves for the editor after the last one.
abbrev pub once_entry : Command → (invariant : State) → Option State
once_entry c invariant = once_by c.addresses c.verb invariant

-- THE END

-- a command of the list may change the buffer
abbrev pub list_may_alter : List Command → Bool
list_may_alter list = list_any (λ c. may_alter c.verb) list

-- the buffer as it was before, where it may be changed
abbrev pub old_if : Bool → (before : State) → Option Old
old_if true before = Some (old_of before)
old_if false before = None

-- what some of its lines matched
abbrev pub old_has_if : Bool → (before : State) → List (List ℕ)
old_has_if true before = before.matches.has
old_has_if false before = []

-- what is known of matches once undo has these lines
abbrev pub with_old : Bool → (before : State) → Matches → Matches
with_old may before m = record m { old_has = old_has_if may before }

-- what undo may find after a global command: the buffer as it is, or the one before the command where its list may change it
abbrev pub undo_of_global : List Command → (before : State) → Undo
undo_of_global list before = record { nothing = false; same = true; was = old_if (list_may_alter list) before }

-- the state after a global command that began in the state `before`
abbrev pub loop_end : Step → (before invariant : State) → State
loop_end x before invariant =
    finished (record invariant { undo = undo_of_global x.list before; matches = with_old (list_may_alter x.list) before invariant.matches })
