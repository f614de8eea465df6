-- The rule of `s` (XCU ed, "Substitute Command"): what it needs, and what it leaves.
use Rattle.std.specs.Prelude.{ℕ, ℤ, pos, negsuc, Bool, true, false, ◌&&◌, ◌||◌, not, nat_eq, List, Option, Some, None, Result, Ok, Err, if◌then◌else◌}
use Rattle.std.specs.List.{list_all, list_any}
use Rattle.ed_base.specs.declared.fault.Fault.{Fault}
use Rattle.ed_base.specs.declared.fault.Fault.TheVariants as fault
use Rattle.zones.specs.Name as name
use Rattle.zones.specs.Name.{current_line, last_line, first_address, second_address, mark}
use Rattle.zones.specs.Zone.{Bounds}
use Rattle.zones.specs.Known.{known, greatest}
use Rattle.zones.specs.Steps.{after_guard, after_set, after_shift, after_forget}
use Rattle.ed_syntax.specs.declared.replacement.Part.{Part}
use Rattle.ed_syntax.specs.declared.replacement.Which.{Which}
use Rattle.ed_syntax.specs.declared.replacement.Which.TheVariants as which
use Rattle.ed_syntax.specs.meaning.Values.{◌>>◌}
use Rattle.ed_rules.specs.declared.state.Replacements.{Replacements}
use Rattle.ed_rules.specs.declared.state.State.{State}
use Rattle.ed_rules.specs.Marks.{for_each_sure}
use Rattle.ed_rules.specs.Choices.{Choice}
use Rattle.ed_rules.specs.Texts.{is_member}
use Rattle.ed_rules.specs.StandsFor.{ends_line}
use Rattle.ed_rules.specs.Order.{join}
use Rattle.ed_rules.specs.Pieces.{needing, with_zone, guarded_by, modified, is_told_apart, mark_lost}
use Rattle.ed_rules.specs.Addresses.{is_always, possible_patterns}
use Rattle.ed_rules.specs.facts.Facts.{LineFact, Facts, at, le, tells}
use Rattle.ed_rules.specs.facts.FoundLines.{matches_it}

-- WHAT IT NEEDS

-- the kind of a replacement
abbrev pub kind_of : List Part → Replacements
kind_of parts = let splits = list_any ends_line parts in record { none = false; plain = not splits; split = splits }

-- the kinds that a command may use: that of its own replacement, or those that may be remembered
abbrev pub possible_kinds : Option (List Part) → Replacements → Replacements
possible_kinds None kinds = kinds
possible_kinds (Some parts) kinds = kind_of parts

-- a replacement is there; in a list it has no split
abbrev pub has_usable : (listed : Bool) → Replacements → Bool
has_usable listed kinds = not kinds.none && not (listed && kinds.split)

-- the state with the kinds that the command may use, where one is there
abbrev pub replacement_used : (listed : Bool) → Option (List Part) → State → Result State Fault
replacement_used listed own s =
    let kinds = possible_kinds own s.replacements in needing (has_usable listed kinds) fault.Replacement (record s { replacements = kinds })

-- the state with the patterns that the command may look for, where there are some
abbrev pub pattern_used : Option (List ℕ) → State → Result State Fault
pattern_used own s = possible_patterns own s >> λ patterns. Ok (record s { patterns = patterns })

-- the first of the matches on a line is replaced, or all
abbrev pub takes_first : Which → Bool
takes_first which.First = true
takes_first (which.Nth before) = nat_eq before 0
takes_first which.All = true

-- single lines are followed, and the addressed lines are one that is known to match the pattern
abbrev pub is_known_line : State → (pattern : List ℕ) → Bool
is_known_line s text =
    s.follows && (known s.zone second_address first_address (pos 0) && tells s.zone s.facts first_address text true)

-- the pattern has a match in each of the addressed lines: it has one in every line, or they are one line that is known to match it
abbrev pub matches_each : State → Choice → Bool
matches_each s None = false
matches_each s (Some text) = is_always (Some text) || is_known_line s text

-- there is something to be replaced in each of the addressed lines
abbrev pub is_sure_to_match : State → Which → Bool
is_sure_to_match s choice = list_all (matches_each s) s.patterns && takes_first choice

-- all lines are addressed
abbrev pub takes_all : Bounds → Bool
takes_all zone = known zone first_address name.zero (pos 1) && known zone last_line second_address (pos 0)

-- the fact says that its line matches the pattern, and the line is one of those that are addressed
abbrev pub is_match_among : Bounds → (pattern : List ℕ) → LineFact → Bool
is_match_among zone text f =
    matches_it text f && (le zone (at first_address) (at f.name) (pos 0) && le zone (at f.name) (at second_address) (pos 0))

-- one of the addressed lines is known to match the pattern; or all lines are addressed, and some line is known to match it
abbrev pub is_matched_among : State → (pattern : List ℕ) → Bool
is_matched_among s text = list_any (is_match_among s.zone text) s.facts.lines || (takes_all s.zone && is_member s.matches.has text)

-- the pattern has a match in some addressed line, or in every line
abbrev pub matches_some : State → Choice → Bool
matches_some s None = false
matches_some s (Some text) = is_matched_among s text || is_always (Some text)

-- single lines are followed, and there is something to be replaced in some addressed line
abbrev pub is_sure_of_some : State → Which → Bool
is_sure_of_some s choice = s.follows && (list_all (matches_some s) s.patterns && takes_first choice)

-- WHAT IT LEAVES

-- a mark stays, or goes down by what splits may add
abbrev pub mark_kept : (splits : Bool) → ℕ → State → State
mark_kept splits letter s = if splits then with_zone (after_shift s.zone (mark letter) (Some (pos 0)) None) s else s

-- the pattern is known not to match the line of the letter
abbrev pub is_told_not_to_match : (before : Bounds) → Facts → (letter : ℕ) → Choice → Bool
is_told_not_to_match before facts letter None = false
is_told_not_to_match before facts letter (Some text) = tells before facts (mark letter) text false

-- The line of the letter surely isn't changed: it is told from the one that is addressed, or single lines are followed and no pattern that may
-- be looked for matches it.
abbrev pub is_left_alone : (before : Bounds) → (letter : ℕ) → State → Bool
is_left_alone before letter s =
    is_told_apart before letter s || (s.follows && list_all (is_told_not_to_match before s.facts letter) s.patterns)

-- One mark: before the lines it stays; after them, or where its line surely isn't changed, it stays or goes down; else it may be lost.
unfoldable pub mark_substituted : (before : Bounds) → (splits : Bool) → ℕ → State → State
mark_substituted before splits letter s =
    if known s.zone second_address (mark letter) (negsuc 0) then mark_kept splits letter s
    else if known s.zone (mark letter) first_address (negsuc 0) then s
    else if is_left_alone before letter s then mark_kept splits letter s
    else mark_lost letter s

abbrev pub marks_substituted : (splits : Bool) → State → State
marks_substituted splits s = for_each_sure (mark_substituted s.zone splits) s.marks 26 s

-- where lines may be split: there may be more of them; the current one isn't before the second address, and as far from the last
-- one as that was, so by the same bounds in both ways
unfoldable pub current_split : (below above : Option ℤ) → Bounds → Bounds
current_split below above zone =
    guarded_by
    (guarded_by
    (after_guard (after_forget (after_shift zone last_line (Some (pos 0)) None) current_line) second_address current_line (pos 0))
    current_line last_line below)
    last_line current_line above

-- the current line after a substitution in each of the lines
abbrev pub current_substituted : (splits : Bool) → (before : Bounds) → Bounds → Bounds
current_substituted true before zone = current_split (greatest before second_address last_line) (greatest before last_line second_address) zone
current_substituted false before zone = after_set zone current_line second_address (pos 0)

-- a substitution in each of the lines
unfoldable pub surely_substituted : (listed : Bool) → (start : State) → State → State
surely_substituted listed start s =
    let t = marks_substituted s.replacements.split s in
    modified listed start (with_zone (current_substituted s.replacements.split s.zone t.zone) t)

-- The current line after a substitution in some of the lines at least: it is one of those that are then in their place. Where lines may be
-- split, there may be more of them.
unfoldable pub current_within : (splits : Bool) → Bounds → Bounds
current_within true zone =
    after_guard (after_guard (after_forget (after_shift zone last_line (Some (pos 0)) None) current_line) first_address current_line (pos 0))
    current_line last_line (pos 0)
current_within false zone =
    after_guard (after_guard (after_forget zone current_line) first_address current_line (pos 0)) current_line second_address (pos 0)

-- a substitution in some of the lines at least
unfoldable pub partly_substituted : (listed : Bool) → (start : State) → State → State
partly_substituted listed start s =
    let t = marks_substituted s.replacements.split s in
    modified listed start (with_zone (current_within s.replacements.split t.zone) t)

-- By whether it is sure of each line, or of some; where it is sure of none, only a list may go on without a match.
abbrev pub substituted_if : (each some listed : Bool) → (start : State) → State → Result State Fault
substituted_if true some listed start s = Ok (surely_substituted listed start s)
substituted_if false true listed start s = Ok (partly_substituted listed start s)
substituted_if false false true start s = Ok (join s (partly_substituted true start s))
substituted_if false false false start s = Err fault.NoMatch

-- `s`: its own replacement and pattern become the only ones that may be remembered
abbrev pub substituted : (listed : Bool) → Option (List ℕ) → Option (List Part) → Which → (start : State) → State → Result State Fault
substituted listed pattern replacement choice start s =
    replacement_used listed replacement s >> pattern_used pattern >> λ t.
    substituted_if (is_sure_to_match t choice) (is_sure_of_some t choice) listed start t
