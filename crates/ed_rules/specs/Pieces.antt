-- The pieces that rules share: needs, the end of a rule, the change of a buffer, insertion, line 0 as 1, replacement.
use Rattle.std.specs.Prelude.{ℕ, zero, suc, ℤ, pos, negsuc, ◌-ℤ◌, Bool, true, false, ◌&&◌, List, Option, Some, None, slice_set, if◌then◌else◌, Result, Ok, Err}
use Rattle.ed_base.specs.declared.fault.Fault.{Fault}
use Rattle.zones.specs.Name as name
use Rattle.zones.specs.Name.{current_line, last_line, first_address, second_address, target_address, mark}
use Rattle.zones.specs.Bound.{sum_of}
use Rattle.zones.specs.Zone.{Bounds}
use Rattle.zones.specs.Known.{known, least, greatest}
use Rattle.zones.specs.Steps.{after_guard, after_set, after_shift, after_forget}
use Rattle.ed_rules.specs.declared.state.Undo.{Undo}
use Rattle.ed_rules.specs.declared.state.State.{State}
use Rattle.ed_rules.specs.Marks.{for_each_sure}
use Rattle.ed_rules.specs.States.{changed, old_of, undo_to}
use Rattle.ed_rules.specs.facts.Facts.{differ}

-- what a need gives: the value where it is met, else its fault
abbrev pub needing : {A : Type 0} → Bool → Fault → A → Result A Fault
needing met fault a = if met then Ok a else Err fault

abbrev pub with_zone : Bounds → State → State
with_zone zone s = record s { zone = zone }

-- a guard; one with an unbounded number is left out
abbrev pub guarded_by : Bounds → ℕ → ℕ → Option ℤ → Bounds
guarded_by zone x y None = zone
guarded_by zone x y (Some c) = after_guard zone x y c

-- THE END OF EACH RULE

-- the addresses are forgotten
abbrev pub without_addresses : Bounds → Bounds
without_addresses zone = after_forget (after_forget (after_forget zone first_address) second_address) target_address

-- a line that is marked lies from 1 to the last line
unfoldable pub mark_bounded : ℕ → Bounds → Bounds
mark_bounded letter zone = after_guard (after_guard zone name.zero (mark letter) (negsuc 0)) (mark letter) last_line (pos 0)

-- the addresses are forgotten, and what all buffers have is taken up
unfoldable pub ended : List Bool → Bounds → Bounds
ended marks zone =
    for_each_sure mark_bounded marks 26
    (after_guard (after_guard (without_addresses zone) name.zero current_line (pos 0)) current_line last_line (pos 0))

-- MOD

-- what undo may find after a change: outside lists the buffer at the command's start
abbrev pub undo_after : (listed : Bool) → (start : State) → Undo → Undo
undo_after true start undo = undo
undo_after false start undo = undo_to (old_of start)

-- the buffer was changed by a command that began in the state `start`
abbrev pub modified : (listed : Bool) → (start : State) → State → State
modified listed start s = record s { changed = changed; undo = undo_after listed start s.undo }

-- INS

-- one mark, where low to high lines come after x + c
unfoldable pub mark_pushed : ℕ → ℤ → Option ℤ → Option ℤ → ℕ → Bounds → Bounds
mark_pushed x c low high letter zone =
    if known zone (mark letter) x c then zone
    else if known zone x (mark letter) (negsuc 0 -ℤ c) then after_shift zone (mark letter) low high
    else after_shift zone (mark letter) (Some (pos 0)) high

-- low to high lines come after x + c
unfoldable pub inserted : ℕ → ℤ → Option ℤ → Option ℤ → List Bool → Bounds → Bounds
inserted x c low high marks zone = after_shift (for_each_sure (mark_pushed x c low high) marks 26 zone) last_line low high

-- LIFT

-- 0 stands for 1
unfoldable pub lifted : ℕ → Bounds → Bounds
lifted x zone =
    if known zone x name.zero (pos 0) then after_set zone x name.zero (pos 1)
    else if known zone name.zero x (negsuc 0) then zone
    else (let raised = after_guard (after_shift zone x (Some (pos 0)) (Some (pos 1))) name.zero x (negsuc 0) in
    if known raised name.zero last_line (negsuc 0) then after_guard raised x last_line (pos 0) else raised)

-- REPL

-- Single lines are followed, one line is addressed, and a pattern is known to match it and not the letter's line, or that and not it. Facts go
-- by the zone `before`, with which the rule began: on the way some letters have their new numbers, and facts are still of the old ones.
abbrev pub is_told_apart : (before : Bounds) → (letter : ℕ) → State → Bool
is_told_apart before letter s =
    s.follows && (known before second_address first_address (pos 0) && differ before s.facts (mark letter) first_address)

-- the line of the letter is after the second address, and moves as the lines between become n
unfoldable pub mark_moved : ℕ → ℕ → State → State
mark_moved n letter s =
    with_zone
    (after_shift s.zone (mark letter) (sum_of (least s.zone first_address second_address) (Some (pos n -ℤ pos 1)))
    (sum_of (greatest s.zone first_address second_address) (Some (pos n -ℤ pos 1)))) s

-- The line x is before or after the one that becomes n lines: it stays, or moves as the lines after that one do.
unfoldable pub moved_beside : ℕ → (x : ℕ) → Bounds → Bounds
moved_beside zero x zone = after_shift zone x (Some (negsuc 0)) (Some (pos 0))
moved_beside (suc n) x zone = after_shift zone x (Some (pos 0)) (Some (pos n))

-- the line of the letter may be gone
unfoldable pub mark_lost : ℕ → State → State
mark_lost letter s = record s { zone = after_forget s.zone (mark letter); marks = slice_set s.marks letter false }

-- one letter of the replacement of the addressed lines by n lines
unfoldable pub mark_replaced : (before : Bounds) → ℕ → ℕ → State → State
mark_replaced before n letter s =
    if known s.zone (mark letter) first_address (negsuc 0) then s
    else if known s.zone second_address (mark letter) (negsuc 0) then mark_moved n letter s
    else if is_told_apart before letter s then with_zone (moved_beside n (mark letter) s.zone) s
    else mark_lost letter s

-- the target becomes the number of lines that are left: the first address less the second is from low to high, the last line less the second is
-- at most above, and the second less the last line at most below
abbrev pub left_by : (low high above below : Option ℤ) → Bounds → Bounds
left_by low high above below zone =
    guarded_by
    (guarded_by (after_shift (after_set zone target_address last_line (negsuc 0)) target_address low high)
    target_address first_address (sum_of above (Some (negsuc 0))))
    first_address target_address (sum_of below (Some (pos 1)))

-- the target becomes the number of lines that are left; the distances are those in the zone before
unfoldable pub left_over : (before : Bounds) → Bounds → Bounds
left_over before zone =
    left_by (least before first_address second_address) (greatest before first_address second_address)
    (greatest before last_line second_address) (greatest before second_address last_line) zone

-- the current line after a deletion
unfoldable pub current_left : Bounds → Bounds
current_left zone =
    if known zone first_address target_address (pos 0) then after_set zone current_line first_address (pos 0)
    else if known zone target_address first_address (negsuc 0) then after_set zone current_line target_address (pos 0)
    else after_guard
    (after_guard (after_guard (after_forget zone current_line) first_address current_line (pos 1)) current_line first_address (pos 0))
    current_line target_address (pos 0)

-- the current line after n lines took the place of the addressed ones
unfoldable pub current_replaced : ℕ → Bounds → Bounds
current_replaced zero zone = current_left zone
current_replaced (suc n) zone = after_set zone current_line first_address (pos n)

-- the addressed lines are replaced by n lines
unfoldable pub replaced : ℕ → State → State
replaced n s =
    let marked = for_each_sure (mark_replaced s.zone n) s.marks 26 s in
    with_zone (after_set (current_replaced n (left_over s.zone marked.zone)) last_line target_address (pos n)) marked
