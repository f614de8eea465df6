-- Ways that a list keeps in a few words each.
use Rattle.std.specs.Prelude.{ℕ, List, ◌++◌, map, replicate, Option, Some, None, nat_eq, slice_set, if◌then◌else◌}
use Rattle.bre_parse.specs.Groups.{Groups}
use Rattle.bre_parse.specs.Ways.{Way}
use Rattle.bre_match.specs.declared.listed.Three.{Three}
use Rattle.bre_match.specs.declared.listed.ShortWay.{ShortWay}
use Rattle.bre_match.specs.declared.listed.WayList.{WayList}

-- the span that two numbers tell; of a group that isn't set the first is the greatest that there is
abbrev pub short_span : ℕ × ℕ → Option (ℕ × ℕ)
short_span span = if nat_eq span.0 4294967295 then None else Some (span.0, span.1)

-- the way that a short one tells, where all other groups are these
abbrev pub short_way : Groups → Three → ShortWay → Way
short_way same told short =
    (short.end, slice_set (slice_set (slice_set same told.one (short_span short.one)) told.two (short_span short.two)) told.three (short_span short.three))

-- the ways of a list, in their order
abbrev pub listed : WayList → List Way
listed list = map (short_way list.same list.told) list.short.items ++ list.long.items

-- what is told where there is no way
abbrev pub nowhere : Way
nowhere = (0, replicate 9 None)
