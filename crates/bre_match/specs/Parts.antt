-- Parts of patterns as a search by columns takes them, and from where to where they reach.
use Rattle.std.specs.Prelude.{◌≡◌, ℕ, zero, suc, ◌+◌, ◌-◌, ◌⊎◌, Bool, true, List, length, Option, Some, None, slice_get}
use Rattle.bre_parse.specs.Tree.{Tree, Empty, Then, Set, TextStart, TextEnd, BackReference, Group, Repeat}
use Rattle.bre_parse.specs.Ways.{has_byte_in}

-- A part as a search takes it: without groups, and with the turns of a repeat written out. A set carries a mark: the
-- least weight with which one stands just after it.
pub data Part : Type 0 where
  Nothing : Part
  Never : Part
  One : (negated : Bool) → (ranges : List (ℕ × ℕ)) → (mark : Option ℕ) → Part
  AtStart : Part
  AtEnd : Part
  Both : (first rest : Part) → Part
  Maybe : (content : Part) → Part
  Star : (content : Part) → Part

-- so many of a part, and then the rest
abbrev pub needed : ℕ → Part → Part → Part
needed zero part rest = rest
needed (suc n) part rest = Both part (needed n part rest)

-- at most so many of a part
abbrev pub up_to : ℕ → Part → Part
up_to zero part = Nothing
up_to (suc n) part = Maybe (Both part (up_to n part))

-- the turns of a repeat, written out
abbrev pub written_out : (least : ℕ) → (most : Option ℕ) → Part → Part
written_out least None part = needed least part (Star part)
written_out least (Some most) part = needed least part (up_to (most - least) part)

-- a part of a pattern, with no mark
abbrev pub part_of : Tree → Part
part_of Empty = Nothing
part_of (Then first rest) = Both (part_of first) (part_of rest)
part_of (Set negated ranges) = One negated ranges None
part_of TextStart = AtStart
part_of TextEnd = AtEnd
part_of (BackReference group) = Never
part_of (Group group content) = part_of content
part_of (Repeat least most content) = written_out least most (part_of content)

-- so many steps of a relation
abbrev pub Power : (ℕ → ℕ → Type 0) → ℕ → ℕ → ℕ → Type 0
Power R zero p q = p ≡ q
Power R (suc k) p q = (m : ℕ) × R p m × Power R k m q

-- A part can be taken from a place to another. Marks don't count.
abbrev pub Reaches : Part → List ℕ → ℕ → ℕ → Type 0
Reaches Nothing text p q = p ≡ q
Reaches Never text p q = ⊥
Reaches (One negated ranges mark) text p q = (p + 1 ≡ q) × (has_byte_in negated ranges (slice_get text p) ≡ true)
Reaches AtStart text p q = (p ≡ q) × (p ≡ 0)
Reaches AtEnd text p q = (p ≡ q) × (p ≡ length text)
Reaches (Both first rest) text p q = (m : ℕ) × Reaches first text p m × Reaches rest text m q
Reaches (Maybe content) text p q = (p ≡ q) ⊎ Reaches content text p q
Reaches (Star content) text p q = (k : ℕ) × Power (Reaches content text) k p q
