-- What chains of landmarks say of a file in which their landmarks are, as bounds and facts of lines (our own). The line of each landmark has a
-- name in the zone.
use Rattle.std.specs.Prelude.{ℕ, ℤ, pos, negsuc, neg_ℤ, Bool, true, false, List, [], ◌∷◌, ◌++◌, map, length, drop}
use Rattle.std.specs.List.{flat_map}
use Rattle.zones.specs.Name.{zero, last_line}
use Rattle.zones.specs.Zone.{Bounds}
use Rattle.zones.specs.Steps.{after_guard}
use Rattle.ed_rules.specs.facts.Facts.{LineFact, Stretch, end}
use Rattle.ed_rules.specs.facts.FoundLines.{Known, known_as}
use Rattle.landmarks.specs.declared.which.Which.{Which}
use Rattle.landmarks.specs.declared.which.Which.TheVariants.{First, Only, Numbered}
use Rattle.landmarks.specs.declared.landmark.Landmark.{Landmark}

-- A landmark, the name of its line, and that of the line of the landmark before it; for the first one of a chain the latter is the name of 0.
pub record Named : Type 0 where
  pub before : ℕ
  pub name : ℕ
  pub landmark : Landmark

abbrev pub named_as : (before name : ℕ) → Landmark → Named
named_as before name landmark = record { before = before; name = name; landmark = landmark }

-- the landmarks of a chain take the names in their order; where the names run out, the rest take none
abbrev pub named_below : (before : ℕ) → (names : List ℕ) → (chain : List Landmark) → List Named
named_below before names [] = []
named_below before [] (landmark ∷ chain) = []
named_below before (name ∷ names) (landmark ∷ chain) =
    named_as before name landmark ∷ named_below name names chain

-- the landmarks of several chains, one chain after another
abbrev pub named : (names : List ℕ) → (chains : List (List Landmark)) → List Named
named names [] = []
named names (chain ∷ chains) = named_below zero names chain ++ named (drop (length chain) names) chains

-- HOW FAR ITS LINE IS FROM OTHERS

-- x - y is at most this
pub record Distance : Type 0 where
  pub of : ℕ
  pub from : ℕ
  pub most : ℤ

abbrev pub distance : (x y : ℕ) → (most : ℤ) → Distance
distance x y most = record { of = x; from = y; most = most }

-- a line that is looked for by its number has that number
abbrev pub distances_sought : Which → (x : ℕ) → List Distance
distances_sought (Numbered number) x = distance x zero (pos number) ∷ distance zero x (neg_ℤ (pos number)) ∷ []
distances_sought _ x = []

-- it is one of the lines, so many come after it at least, and it is so many further down than the one before at least
abbrev pub distances_of : Named → List Distance
distances_of at =
    distance zero at.name (negsuc 0) ∷ distance at.name last_line (neg_ℤ (pos at.landmark.tail)) ∷
    distance at.before at.name (neg_ℤ (pos at.landmark.gap)) ∷ distances_sought at.landmark.which at.name

-- the zone that knows of these distances too
abbrev pub guarded : List Distance → Bounds → Bounds
guarded [] zone = zone
guarded (d ∷ more) zone = guarded more (after_guard zone d.of d.from d.most)

-- WHAT ITS LINE AND THOSE AROUND IT MATCH

abbrev pub line_fact : (x : ℕ) → (matches : Bool) → (pattern : List ℕ) → LineFact
line_fact x matches pattern = record { name = x; pattern = pattern; matches = matches }

abbrev pub clear_between : (after before : ℕ) → (pattern : List ℕ) → Stretch
clear_between after before pattern = record { after = after; before = before; pattern = pattern }

-- a line that is looked for by a pattern matches it
abbrev pub lines_sought : Which → (x : ℕ) → List LineFact
lines_sought (First pattern) x = line_fact x true pattern ∷ []
lines_sought (Only pattern) x = line_fact x true pattern ∷ []
lines_sought (Numbered number) x = []

-- it matches some patterns too, and doesn't match others
abbrev pub lines_of : Named → List LineFact
lines_of at =
    lines_sought at.landmark.which at.name ++ (map (line_fact at.name true) at.landmark.also ++ map (line_fact at.name false) at.landmark.lacks)

-- it is the first line below the one before that matches; where it is the only one, none above and none below it does
abbrev pub clear_sought : Which → (before x : ℕ) → List Stretch
clear_sought (First pattern) before x = clear_between before x pattern ∷ []
clear_sought (Only pattern) before x =
    clear_between before x pattern ∷ clear_between zero x pattern ∷ clear_between x end pattern ∷ []
clear_sought (Numbered number) before x = []

-- no line between the one before and it matches some patterns
abbrev pub clear_of : Named → List Stretch
clear_of at =
    clear_sought at.landmark.which at.before at.name ++ map (clear_between at.before at.name) at.landmark.none

-- what is known where the landmarks of these chains are the lines of these names, beside a zone
abbrev pub started : (names : List ℕ) → (chains : List (List Landmark)) → Bounds → Known
started names chains zone =
    let all = named names chains in
    known_as (guarded (flat_map distances_of all) zone) (record { lines = flat_map lines_of all; clear = flat_map clear_of all })
