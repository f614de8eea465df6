-- Joining, widening and comparing facts: what is joined is what one says and the other says too.
use Rattle.std.specs.Prelude.{ℕ, negsuc, pos, Bool, ◌&&◌, ◌||◌, not, nat_eq, nat_lt, if◌then◌else◌}
use Rattle.std.specs.List.{list_all, list_any, filter}
use Rattle.zones.specs.Name as name
use Rattle.zones.specs.Zone.{Bounds}
use Rattle.zones.specs.Known.{known}
use Rattle.ed_rules.specs.facts.Facts.{LineFact, Stretch, Facts, point, same_text, is_clear, tells}

-- x is known to be the number of a line
abbrev pub is_line : Bounds → ℕ → Bool
is_line zone x = known zone name.zero x (negsuc 0) && known zone x name.last_line (pos 0)

abbrev pub same_answer : Bool → Bool → Bool
same_answer one other = if one then other else not other

abbrev pub same_fact : LineFact → LineFact → Bool
same_fact f g = same_text f.pattern g.pattern && (nat_eq f.name g.name && same_answer f.matches g.matches)

abbrev pub same_stretch : Stretch → Stretch → Bool
same_stretch s t = same_text s.pattern t.pattern && (nat_eq s.after t.after && nat_eq s.before t.before)

-- the fact is one of these, or is told of a line
abbrev pub says_line : Bounds → Facts → LineFact → Bool
says_line zone facts f =
    list_any (same_fact f) facts.lines || (nat_lt f.name 32 && (is_line zone f.name && tells zone facts f.name f.pattern f.matches))

-- the stretch is one of these, or follows from them
abbrev pub says_clear : Bounds → Facts → Stretch → Bool
says_clear zone facts s =
    list_any (same_stretch s) facts.clear ||
    (nat_lt s.after 33 && (nat_lt s.before 33 && is_clear zone facts (point s.after) (point s.before) s.pattern))

-- those of the first facts that the second say too, over a zone: what a join and a widening leave
abbrev pub both_facts : (one : Facts) → (zone : Bounds) → (other : Facts) → Facts
both_facts one zone other = record { lines = filter (says_line zone other) one.lines; clear = filter (says_clear zone other) one.clear }

-- a zone with facts says each of the weak facts
abbrev pub cover_facts : (weak : Facts) → (zone : Bounds) → (strong : Facts) → Bool
cover_facts weak zone strong = list_all (says_line zone strong) weak.lines && list_all (says_clear zone strong) weak.clear
