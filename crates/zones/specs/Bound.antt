-- What a zone knows of one pair of names: a number that their difference is not above, or any, which is None.
use Rattle.std.specs.Prelude.{ℤ, pos, negsuc, neg_ℤ, ◌+ℤ◌, ◌≤ℤ◌, int_lt, int_le, Bool, true, false, Option, Some, None, if◌then◌else◌}

-- the highest number that a zone keeps, 10^15, and the lowest
abbrev pub highest : ℤ
highest = pos 1000000000000000

abbrev pub lowest : ℤ
lowest = negsuc 999999999999999

-- a difference obeys a bound where it is not above its number; any allows each difference
abbrev pub Obeys : ℤ → Option ℤ → Type 0
Obeys difference None = Unit {0}
Obeys difference (Some c) = difference ≤ℤ c

-- a bound that a zone may keep is any, or lies between the lowest and the highest number
abbrev pub IsKept : Option ℤ → Type 0
IsKept None = Unit {0}
IsKept (Some c) = (lowest ≤ℤ c) × (c ≤ℤ highest)

-- A number as a zone keeps it, always to the weaker side: one above the highest is any, one below the lowest is the lowest.
abbrev pub clip : ℤ → Option ℤ
clip c = if int_lt highest c then None else if int_lt c lowest then Some lowest else Some c

-- a bound as a zone keeps it; any stays any
abbrev pub clip_bound : Option ℤ → Option ℤ
clip_bound None = None
clip_bound (Some c) = clip c

-- any plus a number is any
abbrev pub sum_of : Option ℤ → Option ℤ → Option ℤ
sum_of None b = None
sum_of (Some a) None = None
sum_of (Some a) (Some b) = Some (a +ℤ b)

-- the negative of a bound; that of any is any
abbrev pub negative_of : Option ℤ → Option ℤ
negative_of None = None
negative_of (Some c) = Some (neg_ℤ c)

-- the stronger of two bounds, any being greater than each number
abbrev pub lesser_of : Option ℤ → Option ℤ → Option ℤ
lesser_of None b = b
lesser_of (Some a) None = Some a
lesser_of (Some a) (Some b) = if int_lt b a then Some b else Some a

-- the weaker of two bounds
abbrev pub greater_of : Option ℤ → Option ℤ → Option ℤ
greater_of None b = None
greater_of (Some a) None = None
greater_of (Some a) (Some b) = if int_lt a b then Some b else Some a

-- a bound raised by a number; by an unbounded one it is any
abbrev pub raise : Option ℤ → Option ℤ → Option ℤ
raise b by = clip_bound (sum_of b by)

-- a bound lowered by a number; by an unbounded one it is any
abbrev pub lower : Option ℤ → Option ℤ → Option ℤ
lower b by = raise b (negative_of by)

-- the lesser of a direct bound and of that by the way `to`, c, `from`
abbrev pub tighten : Option ℤ → Option ℤ → ℤ → Option ℤ → Option ℤ
tighten direct to c from = clip_bound (lesser_of direct (sum_of (sum_of to (Some c)) from))

-- a bound that rose is given up; one that didn't stays
abbrev pub widen_bound : Option ℤ → Option ℤ → Option ℤ
widen_bound None b = None
widen_bound (Some a) None = None
widen_bound (Some a) (Some b) = if int_lt a b then None else Some a

-- on the diagonal a bound that rose becomes 0, or the other's number if that is more; one that didn't stays
abbrev pub widen_diagonal : Option ℤ → Option ℤ → Option ℤ
widen_diagonal None b = None
widen_diagonal (Some a) None = None
widen_diagonal (Some a) (Some b) = if int_lt a b then greater_of (Some (pos 0)) (Some b) else Some a

-- a bound covers another where it is no less
abbrev pub covers_bound : Option ℤ → Option ℤ → Bool
covers_bound None b = true
covers_bound (Some a) None = false
covers_bound (Some a) (Some b) = int_le b a
