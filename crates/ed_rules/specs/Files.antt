-- The rules of the commands on files: what each needs of a state with its addresses evaluated, and what it makes of it (XCU ed, "Edit
-- Command", "Filename Command", "Quit Command", "Read Command", "Write Command").
use Rattle.std.specs.Prelude.{ℕ, zero, suc, pos, negsuc, Bool, true, false, ◌&&◌, ◌||◌, not, List, [], ◌∷◌, map, Option, Some, None, unwrap_or, Result, Ok, if◌then◌else◌}
use Rattle.ed_base.specs.declared.fault.Fault.{Fault}
use Rattle.ed_base.specs.declared.fault.Fault.TheVariants as fault
use Rattle.zones.specs.Name as name
use Rattle.zones.specs.Name.{current_line, last_line, first_address, second_address, mark}
use Rattle.zones.specs.Zone.{Bounds}
use Rattle.zones.specs.Known.{known, greatest}
use Rattle.zones.specs.Steps.{after_guard, after_set, after_forget}
use Rattle.ed_syntax.specs.Commands as ed
use Rattle.ed_syntax.specs.Commands.{Addresses, Without, One, Comma, Semicolon, Verb}
use Rattle.ed_syntax.specs.meaning.Values.{◌>>◌}
use Rattle.ed_rules.specs.declared.state.Changed.{Changed}
use Rattle.ed_rules.specs.declared.state.Undo.{Undo}
use Rattle.ed_rules.specs.declared.state.State.{State}
use Rattle.ed_rules.specs.Choices.{Choice, has_choice, union}
use Rattle.ed_rules.specs.Marks.{no_marks}
use Rattle.ed_rules.specs.States.{unchanged, changed, nothing_to_undo, old_of, undo_to}
use Rattle.ed_rules.specs.Order.{changed_of_both, undo_of_both}
use Rattle.ed_rules.specs.Pieces.{needing, with_zone, guarded_by, inserted}
use Rattle.ed_rules.specs.Addresses.{ranged}

-- PATHS

-- where no path is given, one is remembered
abbrev pub named : Option (List ℕ) → State → Result State Fault
named None s = needing (not (has_choice s.names None)) fault.Name s
named (Some path) s = Ok s

-- the same choices, with this path in place of none
unfoldable pub filled : (path : List ℕ) → List Choice → List Choice
filled path set = union (map (λ c. Some (unwrap_or c path)) set) []

-- a path that `r` or `w` has is remembered where none is
abbrev pub named_first : Option (List ℕ) → State → State
named_first None s = s
named_first (Some path) s = record s { names = filled path s.names }

-- a path that `e`, `E` or `f` has is the one that is remembered
abbrev pub named_anew : Option (List ℕ) → State → State
named_anew None s = s
named_anew (Some path) s = record s { names = Some path ∷ [] }

-- READING

-- what undo may find where the buffer may be changed
abbrev pub undo_if_modified : (listed : Bool) → (start : State) → Undo → Undo
undo_if_modified true start undo = undo
undo_if_modified false start undo = undo_of_both undo (undo_to (old_of start))

-- the buffer may be changed by a command that began in the state `start`
abbrev pub maybe_modified : (listed : Bool) → (start : State) → State → State
maybe_modified listed start s = record s { changed = changed_of_both s.changed changed; undo = undo_if_modified listed start s.undo }

-- the current line isn't before the first address, and as far from the last line as that was
unfoldable pub current_read : (before : Bounds) → Bounds → Bounds
current_read before zone =
    guarded_by
    (guarded_by (after_guard (after_forget zone current_line) first_address current_line (pos 0)) current_line last_line (greatest before first_address last_line))
    last_line current_line (greatest before last_line first_address)

-- any number of lines after the first address, the last of them current
abbrev pub lines_read : State → State
lines_read s = with_zone (current_read s.zone (inserted first_address (pos 0) (Some (pos 0)) None s.marks s.zone)) s

-- `r`
abbrev pub file_read : (listed : Bool) → Option (List ℕ) → (start : State) → State → Result State Fault
file_read listed path start s = named path s >> λ t. Ok (maybe_modified listed start (lines_read (named_first path t)))

-- WRITING

-- the lines of `w`: given ones, or all
abbrev pub whole_or_ranged : (given : Addresses) → State → Result State Fault
whole_or_ranged Without s = Ok s
whole_or_ranged (One a) s = ranged s
whole_or_ranged (Comma a b) s = ranged s
whole_or_ranged (Semicolon a b) s = ranged s

-- where the addressed lines are all lines, nothing is left to be saved; where one isn't written, the flag stays; else it may be either
unfoldable pub changed_by_lines : Bounds → Changed → Changed
changed_by_lines zone c =
    if known zone first_address name.zero (pos 1) && known zone last_line second_address (pos 0) then unchanged
    else if known zone name.zero first_address (negsuc 1) || known zone second_address last_line (negsuc 0) then c
    else record c { no = true }

abbrev pub changed_by_write : (given : Addresses) → Bounds → Changed → Changed
changed_by_write Without zone c = unchanged
changed_by_write (One a) zone c = changed_by_lines zone c
changed_by_write (Comma a b) zone c = changed_by_lines zone c
changed_by_write (Semicolon a b) zone c = changed_by_lines zone c

-- `w`
abbrev pub file_written : (given : Addresses) → Option (List ℕ) → State → Result State Fault
file_written given path s = named path s >> λ t. Ok (record (named_first path t) { changed = changed_by_write given t.zone t.changed })

-- the paths that a command may ask to write
abbrev pub written_paths : Verb → State → List Choice
written_paths (ed.WriteFile None) s = s.names
written_paths (ed.WriteFile (Some path)) s = Some path ∷ []
written_paths _ s = []

-- A BUFFER ANEW

-- the first k letters are forgotten
unfoldable pub without_letters : (k : ℕ) → Bounds → Bounds
without_letters zero zone = zone
without_letters (suc k) zone = after_forget (without_letters k zone) (mark k)

-- any number of lines, the last one current
unfoldable pub zone_loaded : Bounds → Bounds
zone_loaded zone =
    after_set (after_guard (without_letters 26 (after_forget (after_forget zone current_line) last_line)) name.zero last_line (pos 0)) current_line last_line (pos 0)

-- the lines of a file in place of all: marks and undo are gone
abbrev pub loaded : State → State
loaded s = record s { zone = zone_loaded s.zone; marks = no_marks; changed = unchanged; undo = nothing_to_undo }

-- the buffer is saved
abbrev pub saved : State → Result State Fault
saved s = needing (not s.changed.yes) fault.Unsaved s

-- `E`
abbrev pub edited_anyway : Option (List ℕ) → State → Result State Fault
edited_anyway path s = named path s >> λ t. Ok (named_anew path (loaded t))

-- `e`
abbrev pub edited : Option (List ℕ) → State → Result State Fault
edited path s = named path s >> λ t. saved t >> λ u. Ok (named_anew path (loaded u))

-- `f`
abbrev pub file_named : Option (List ℕ) → State → Result State Fault
file_named path s = named path s >> λ t. Ok (named_anew path t)
