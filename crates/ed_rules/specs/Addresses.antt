-- The state with its addresses evaluated, or the fault of the first need that fails (XCU ed, "Addresses in ed").
use Rattle.std.specs.Prelude.{ℕ, ℤ, pos, negsuc, ◌+ℤ◌, Bool, true, false, ◌&&◌, ◌||◌, not, nat_lt, List, [], ◌∷◌, Option, Some, None, Result, Ok, Err, if◌then◌else◌}
use Rattle.std.specs.List.{list_all}
use Rattle.std.specs.Ordering.{int_eq}
use Rattle.ed_base.specs.declared.fault.Fault.{Fault}
use Rattle.ed_base.specs.declared.fault.Fault.TheVariants as fault
use Rattle.bre_parse.specs.Grammar.{pattern}
use Rattle.bre_parse.specs.Always.{always}
use Rattle.zones.specs.Name as name
use Rattle.zones.specs.Name.{current_line, last_line, first_address, second_address, target_address, mark}
use Rattle.zones.specs.Zone.{Bounds}
use Rattle.zones.specs.Known.{known}
use Rattle.zones.specs.Steps.{after_set, after_guard, after_shift, after_forget}
use Rattle.ed_syntax.specs.Commands as ed
use Rattle.ed_syntax.specs.Commands.{Base, Address, Addresses, Without, One, Comma, Semicolon}
use Rattle.ed_syntax.specs.meaning.Verbs.{here}
use Rattle.ed_syntax.specs.meaning.Values.{◌>>◌}
use Rattle.ed_rules.specs.declared.following.Way.{Way}
use Rattle.ed_rules.specs.declared.following.Way.TheVariants as ways
use Rattle.ed_rules.specs.declared.state.State.{State}
use Rattle.ed_rules.specs.Choices.{Choice, has_choice}
use Rattle.ed_rules.specs.Marks.{is_sure}
use Rattle.ed_rules.specs.Texts.{is_member}
use Rattle.ed_rules.specs.Pieces.{needing}
use Rattle.ed_rules.specs.Following.{facts_without, set_to, is_followed, spoken_facts, only_pattern, found_by}
use Rattle.ed_rules.specs.facts.Facts.{Facts}
use Rattle.ed_rules.specs.facts.FoundLines.{Known, known_as, without}
use Rattle.ed_rules.specs.facts.AssignedFacts.{moved}

-- the pattern has a match in every line; a text that is no pattern has none
abbrev pub is_always : Choice → Bool
is_always None = false
is_always (Some text) = elim (pattern text) [ Ok tree ↦ always tree | Err f ↦ false ]

-- the patterns that a command may look for: its own, or those that may be remembered
abbrev pub possible_patterns : Option (List ℕ) → State → Result (List Choice) Fault
possible_patterns None s = needing (not (has_choice s.patterns None)) fault.Pattern s.patterns
possible_patterns (Some text) s = Ok (Some text ∷ [])

-- 0 <= x <= the last line is known
abbrev pub in_buffer : ℕ → State → Result State Fault
in_buffer x s = needing (known s.zone name.zero x (pos 0) && known s.zone x last_line (pos 0)) fault.Address s

-- x becomes y
abbrev pub copied : ℕ → ℕ → State → State
copied x y s = set_to x y (pos 0) s

-- a name of the zone plus a number
abbrev pub set_from : ℕ → ℕ → ℤ → State → Result State Fault
set_from x from c s = in_buffer x (set_to x from c s)

-- x becomes a number
abbrev pub set_number : ℕ → ℤ → State → State
set_number x n s = record s { zone = after_set s.zone x name.zero n; facts = facts_without s.follows x s.facts }

-- some line, plus an offset
unfoldable pub found : ℕ → ℤ → Bounds → Bounds
found x k zone =
    after_shift (after_guard (after_guard (after_forget zone x) name.zero x (negsuc 0)) x last_line (pos 0)) x (Some k) (Some k)

-- some line is known to match the pattern: it is one of those of which that is known, a line that is followed matches it, or it has a match
-- in every line, and some line is there
abbrev pub is_found : State → Choice → Bool
is_found s None = false
is_found s (Some text) =
    is_member s.matches.has text || (is_followed s text || (known s.zone name.zero last_line (negsuc 0) && is_always (Some text)))

-- What is known of the line that a search finds, plus an offset: where lines are followed and there is one pattern only, all that facts say
-- of it. Else it is some line.
abbrev pub known_found : (follows : Bool) → Way → (only : Option (List ℕ)) → ℕ → ℤ → (marks : List Bool) → Bounds → Facts → Known
known_found false way only x k marks zone facts = known_as (found x k zone) facts
known_found true way None x k marks zone facts = known_as (found x k zone) (without x facts)
known_found true way (Some text) x k marks zone facts = moved x k (found_by way x text zone (spoken_facts marks facts))

-- the state with the line that a search finds
abbrev pub with_found : Way → (possible : List Choice) → ℕ → ℤ → State → State
with_found way possible x k s =
    let f = known_found s.follows way (only_pattern possible) x k s.marks s.zone s.facts in
    record s { zone = f.zone; facts = f.facts; patterns = possible }

-- a search: some line is known to match each pattern that may be looked for
abbrev pub searched : Way → ℕ → Option (List ℕ) → ℤ → State → Result State Fault
searched way x text k s =
    possible_patterns text s >> λ possible.
    needing (list_all (is_found s) possible) fault.NoMatch (with_found way possible x k s) >> in_buffer x

-- one address, evaluated into x
abbrev pub evaluated_base : ℕ → Base → ℤ → State → Result State Fault
evaluated_base x (ed.Number n) k s = in_buffer x (set_number x (pos n +ℤ k) s)
evaluated_base x ed.Current k s = set_from x current_line k s
evaluated_base x ed.Last k s = set_from x last_line k s
evaluated_base x (ed.Marked letter) k s = needing (nat_lt letter 26 && is_sure s.marks letter) fault.Mark s >> set_from x (mark letter) k
evaluated_base x (ed.Forward text) k s = searched ways.Forward x text k s
evaluated_base x (ed.Backward text) k s = searched ways.Backward x text k s

abbrev pub evaluated : ℕ → Address → State → Result State Fault
evaluated x a s = evaluated_base x a.base a.offset s

-- the addresses before a command, into the first and the second
abbrev pub addressed : Addresses → State → Result State Fault
addressed Without s = Ok s
addressed (One a) s = evaluated first_address a s >> λ t. Ok (copied second_address first_address t)
addressed (Comma a b) s = evaluated first_address a s >> evaluated second_address b
addressed (Semicolon a None) s =
    evaluated first_address a s >> λ t. Ok (copied second_address first_address (copied current_line first_address t))
addressed (Semicolon a (Some b)) s = evaluated first_address a s >> λ t. evaluated second_address b (copied current_line first_address t)

-- the current line, without an offset
abbrev pub is_current : Base → Bool
is_current ed.Current = true
is_current _ = false

abbrev pub is_here : Address → Bool
is_here a = is_current a.base && int_eq a.offset (pos 0)

-- what stands for a command's own addresses: the second of `.,.` is set from the first, our choice
abbrev pub standing : Addresses → Addresses
standing Without = Without
standing (One a) = One a
standing (Comma a b) = if is_here a && is_here b then One here else Comma a b
standing (Semicolon a b) = Semicolon a b

-- of two addresses a command of one takes the last
abbrev pub last_given : Addresses → State → State
last_given Without s = s
last_given (One a) s = s
last_given (Comma a b) s = copied first_address second_address s
last_given (Semicolon a b) s = copied first_address second_address s

-- the target of `m` and `t`
abbrev pub targeted : Option Address → State → Result State Fault
targeted None s = Ok s
targeted (Some a) s = evaluated target_address a s

-- the addressed lines are lines
abbrev pub ranged : State → Result State Fault
ranged s =
    needing
    (known s.zone name.zero first_address (negsuc 0) && known s.zone first_address second_address (pos 0) && known s.zone second_address last_line (pos 0))
    fault.Address s
