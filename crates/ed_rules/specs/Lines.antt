-- The rules of the commands on lines, in the order of the page on rules: what each makes of the state with its addresses evaluated
-- (XCU ed, "Commands in ed").
use Rattle.std.specs.Prelude.{ℕ, zero, suc, ℤ, pos, negsuc, Bool, true, Option, Some, slice_set, if◌then◌else◌}
use Rattle.zones.specs.Name.{current_line, last_line, first_address, second_address, target_address, mark}
use Rattle.zones.specs.Bound.{sum_of}
use Rattle.zones.specs.Zone.{Bounds}
use Rattle.zones.specs.Known.{known, least, greatest}
use Rattle.zones.specs.Steps.{after_guard, after_set, after_shift, after_forget}
use Rattle.ed_syntax.specs.Commands.{Addresses, Without, One, Comma, Semicolon}
use Rattle.ed_rules.specs.declared.state.State.{State}
use Rattle.ed_rules.specs.Order.{join}
use Rattle.ed_rules.specs.Pieces.{with_zone, modified, inserted, lifted, replaced}

-- `a` of n lines: where there are some, the buffer is changed
abbrev pub text_after : (listed : Bool) → (start : State) → ℕ → State → State
text_after listed start zero s = s
text_after listed start (suc m) s =
    modified listed start (with_zone (inserted first_address (pos 0) (Some (pos (suc m))) (Some (pos (suc m))) s.marks s.zone) s)

abbrev pub appended : (listed : Bool) → (start : State) → ℕ → State → State
appended listed start n s = let t = text_after listed start n s in with_zone (after_set t.zone current_line first_address (pos n)) t

-- the line that `i` without a text makes current: the one that it names, or the last one
unfoldable pub current_inserted : Bounds → Bounds
current_inserted zone =
    if known zone first_address last_line (pos 0) then after_set zone current_line first_address (pos 0)
    else if known zone last_line first_address (negsuc 0) then after_set zone current_line last_line (pos 0)
    else after_guard (after_guard (after_forget zone current_line) first_address current_line (pos 1)) current_line first_address (pos 0)

-- `i` of n lines, its address lifted
abbrev pub put_before : (listed : Bool) → (start : State) → ℕ → State → State
put_before listed start zero s = with_zone (current_inserted s.zone) s
put_before listed start (suc m) s =
    modified listed start
    (with_zone
    (after_set (inserted first_address (negsuc 0) (Some (pos (suc m))) (Some (pos (suc m))) s.marks s.zone) current_line first_address (pos m)) s)

-- the addresses of `c`: where one was given, the second is set once the first is lifted
abbrev pub lifted_range : (given : Addresses) → Bounds → Bounds
lifted_range Without zone = after_guard (lifted second_address (lifted first_address zone)) first_address second_address (pos 0)
lifted_range (One a) zone =
    after_guard (lifted second_address (after_set (lifted first_address zone) second_address first_address (pos 0)))
    first_address second_address (pos 0)
lifted_range (Comma a b) zone = after_guard (lifted second_address (lifted first_address zone)) first_address second_address (pos 0)
lifted_range (Semicolon a b) zone = after_guard (lifted second_address (lifted first_address zone)) first_address second_address (pos 0)

-- `c` of n lines
abbrev pub changed_to : (listed : Bool) → (start : State) → ℕ → State → State
changed_to listed start n s = modified listed start (replaced n s)

-- `d`
abbrev pub deleted : (listed : Bool) → (start : State) → State → State
deleted listed start s = modified listed start (replaced 0 s)

-- `j` of two addresses
abbrev pub joined : (listed : Bool) → (start : State) → State → State
joined listed start s =
    if known s.zone second_address first_address (pos 0) then s
    else if known s.zone first_address second_address (negsuc 0) then modified listed start (replaced 1 s)
    else join (modified listed start (replaced 1 (with_zone (after_guard s.zone first_address second_address (negsuc 0)) s)))
    (with_zone (after_guard s.zone second_address first_address (pos 0)) s)

-- with one address nothing is joined
abbrev pub joined_given : (given : Addresses) → (listed : Bool) → (start : State) → State → State
joined_given Without listed start s = joined listed start s
joined_given (One a) listed start s = s
joined_given (Comma a b) listed start s = joined listed start s
joined_given (Semicolon a b) listed start s = joined listed start s

-- `k`
abbrev pub marked : ℕ → State → State
marked letter s = record s { zone = after_set s.zone (mark letter) first_address (pos 0); marks = slice_set s.marks letter true }

-- `l`, `n`, `p`, and the null command: a line is current
abbrev pub current_at : ℕ → State → State
current_at x s = with_zone (after_set s.zone current_line x (pos 0)) s

-- `t`: from low + 1 to high + 1 lines after the target
abbrev pub copied_after : Option ℤ → Option ℤ → State → State
copied_after low high s =
    with_zone
    (after_shift
    (after_set (inserted target_address (pos 0) (sum_of low (Some (pos 1))) (sum_of high (Some (pos 1))) s.marks s.zone) current_line target_address (pos 1))
    current_line low high) s

abbrev pub copied_lines : (listed : Bool) → (start : State) → State → State
copied_lines listed start s =
    modified listed start (copied_after (least s.zone second_address first_address) (greatest s.zone second_address first_address) s)
