-- Where ways come to, order apart: each is like one that is known.
use Rattle.std.specs.Prelude.{◌≡◌, ℕ, ◌<◌, ◌≤◌, List, Bool, None}
use Rattle.bre_parse.specs.Tree.{Tree}
use Rattle.bre_parse.specs.Groups.{cleared}
use Rattle.bre_parse.specs.Match.{longest_from}
use Rattle.bre_parse.specs.Ways.{Way, Body}
use Rattle.bre_match.specs.Alike.{HasAlike}
use Rattle.bre_match.specs.Outlooks.{Each}

-- each of some ways is like one that is known
abbrev pub AreKnown : List Bool → (known some : List Way) → Type 0
AreKnown asked known some = Each (HasAlike asked known) some

-- whatever a body gives from each of these ways is known
abbrev pub Leads : List Bool → Body → (from known : List Way) → Type 0
Leads asked body from known = Each (λ way. AreKnown asked known (body way.0 way.1)) from

-- a way with the groups inside a part unset
abbrev pub begun : Tree → Way → Way
begun content way = (way.0, cleared content way.1)

-- from each place between two no way leads through a pattern
abbrev pub NoneBetween : Tree → List ℕ → (low high : ℕ) → Type 0
NoneBetween tree text low high = (start : ℕ) → low ≤ start → start < high → longest_from tree text start ≡ None
