-- The rule of `m`. All its tests ask the zone before; where both directions are known, up is taken.
use Rattle.std.specs.Prelude.{ℕ, ℤ, pos, negsuc, ◌&&◌, ◌||◌, not, Bool, List, Option, Some, if◌then◌else◌, Result, Ok, Err}
use Rattle.ed_base.specs.declared.fault.Fault.{Fault}
use Rattle.ed_base.specs.declared.fault.Fault.TheVariants as fault
use Rattle.zones.specs.Name.{current_line, first_address, second_address, target_address, mark}
use Rattle.zones.specs.Bound.{sum_of, negative_of}
use Rattle.zones.specs.Zone.{Bounds}
use Rattle.zones.specs.Known.{known, least, greatest}
use Rattle.zones.specs.Steps.{after_guard, after_set, after_shift, after_forget, join_of}
use Rattle.ed_syntax.specs.meaning.Values.{◌>>◌}
use Rattle.ed_rules.specs.declared.moves.Way.{Way}
use Rattle.ed_rules.specs.declared.moves.Way.TheVariants as ways
use Rattle.ed_rules.specs.declared.state.State.{State}
use Rattle.ed_rules.specs.Marks.{for_each_sure}
use Rattle.ed_rules.specs.Pieces.{with_zone, modified}
use Rattle.ed_rules.specs.facts.Facts.{same, differ}

-- a number less a bound
abbrev pub less : ℤ → Option ℤ → Option ℤ
less c bound = sum_of (negative_of bound) (Some c)

-- one mark of a move up: the lines that are passed go down by the lines that are moved, and these by what is passed
unfoldable pub mark_moved_up : (before : Bounds) → ℕ → Bounds → Bounds
mark_moved_up before letter zone =
    let x = mark letter in
    if known before x target_address (pos 0) || known before second_address x (negsuc 0) then zone
    else if known before target_address x (negsuc 0) && known before x first_address (negsuc 0)
    then after_shift zone x (sum_of (least before second_address first_address) (Some (pos 1)))
    (sum_of (greatest before second_address first_address) (Some (pos 1)))
    else if known before first_address x (pos 0) && known before x second_address (pos 0)
    then after_shift zone x (less (pos 1) (greatest before first_address target_address)) (less (pos 1) (least before first_address target_address))
    else after_forget zone x

-- the target is above the lines: the last of them is current
unfoldable pub moved_up : List Bool → Bounds → Bounds
moved_up marks before =
    for_each_sure (mark_moved_up before) marks 26
    (after_shift (after_set before current_line target_address (pos 1)) current_line (least before second_address first_address)
    (greatest before second_address first_address))

-- one mark of a move down
unfoldable pub mark_moved_down : (before : Bounds) → ℕ → Bounds → Bounds
mark_moved_down before letter zone =
    let x = mark letter in
    if known before x first_address (negsuc 0) || known before target_address x (negsuc 0) then zone
    else if known before second_address x (negsuc 0) && known before x target_address (pos 0)
    then after_shift zone x (less (negsuc 0) (greatest before second_address first_address)) (less (negsuc 0) (least before second_address first_address))
    else if known before first_address x (pos 0) && known before x second_address (pos 0)
    then after_shift zone x (least before target_address second_address) (greatest before target_address second_address)
    else after_forget zone x

-- one mark of a move up or down
abbrev pub mark_moved : Way → (before : Bounds) → ℕ → Bounds → Bounds
mark_moved ways.Up = mark_moved_up
mark_moved ways.Down = mark_moved_down

-- the target is after the lines: the last of them comes to its place
unfoldable pub moved_down : List Bool → Bounds → Bounds
moved_down marks before =
    for_each_sure (mark_moved_down before) marks 26 (after_set before current_line target_address (pos 0))

-- the target is above the lines or after them, and isn't known to be where: what both ways leave
unfoldable pub moved_either : List Bool → Bounds → Bounds
moved_either marks before =
    join_of (moved_up marks (after_guard before target_address first_address (negsuc 0)))
    (moved_down marks (after_guard before second_address target_address (negsuc 0)))

-- Single lines are followed, one line is moved, and a pattern is known to match it and not the target's line, or that and not it. Where the
-- zone says that both are one line, facts aren't asked.
abbrev pub is_target_told_apart : State → Bool
is_target_told_apart s =
    s.follows && (known s.zone second_address first_address (pos 0) &&
    (not (same s.zone target_address first_address) && differ s.zone s.facts target_address first_address))

-- the zone after a move, or the fault where the target may lie among the lines
abbrev pub moved_zone : (apart : Bool) → List Bool → Bounds → Result Bounds Fault
moved_zone apart marks zone =
    if known zone target_address first_address (negsuc 0) then Ok (moved_up marks zone)
    else if known zone second_address target_address (negsuc 0) then Ok (moved_down marks zone)
    else if apart then Ok (moved_either marks zone)
    else Err fault.Destination

-- `m`
abbrev pub moved_lines : (listed : Bool) → (start : State) → State → Result State Fault
moved_lines listed start s =
    moved_zone (is_target_told_apart s) s.marks s.zone >> λ zone. Ok (modified listed start (with_zone zone s))
