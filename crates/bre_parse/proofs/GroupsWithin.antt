-- A match lies within its text, and its groups within it.
use Rattle.std.proofs.Common.{◌≡◌, ℕ, zero, suc, ◌+◌, ◌-◌, ◌≤◌, List, [], ◌∷◌, ◌++◌, map, flat_map, length, drop, Option, Some, None, Bool, true, false, cond, refl, subst, arith}
use Rattle.std.specs.Prelude.{◌&&◌, nat_eq, nat_le, nat_lt, slice_get, slice_index_or, slice_set}
use Rattle.bre_parse.specs.Tree.{Tree, Empty, Then, Set, TextStart, TextEnd, BackReference, Group, Repeat}
use Rattle.bre_parse.specs.Groups.{Groups, no_groups, cleared}
use Rattle.bre_parse.specs.Ways.{Way, Body, ways, turns, next_turn, after_turn, stopped_or_on, from_way, with_group, fresh_turn, below, only_if, by_end, insert_way, enough, referred_ways, bytes_of, begins_with, has_byte_in}
use Rattle.bre_parse.specs.Match.{first, longest_from, or_later, match_among, match_from}
use Rattle.bre_parse.specs.Laws.{EndBetween, IsBetween, AreBetween}
use Rattle.bre_parse.proofs.Within.{ways_end_within, in_by_end}

set_between : (low high : ℕ) (groups : Groups) (group : ℕ) (value : Option (ℕ × ℕ)) → AreBetween low high groups → IsBetween low high value → AreBetween low high (slice_set groups group value)
set_between low high [] group value h i = h
set_between low high (first ∷ groups) zero value h i = (i, h.1)
set_between low high (first ∷ groups) (suc group) value h i = (h.0, set_between low high groups group value h.1 i)

cleared_between : (low high : ℕ) (tree : Tree) (groups : Groups) → AreBetween low high groups → AreBetween low high (cleared tree groups)
cleared_between low high (Then first rest) groups h = cleared_between low high rest (cleared first groups) (cleared_between low high first groups h)
cleared_between low high (Group group content) groups h = set_between low high (cleared content groups) group None (cleared_between low high content groups h) tt
cleared_between low high (Repeat least most content) groups h = cleared_between low high content groups h
cleared_between low high Empty groups h = h
cleared_between low high (Set negated ranges) groups h = h
cleared_between low high TextStart groups h = h
cleared_between low high TextEnd groups h = h
cleared_between low high (BackReference group) groups h = h

-- a later place bounds the groups too
one_raised : (low middle high : ℕ) (group : Option (ℕ × ℕ)) → middle ≤ high → IsBetween low middle group → IsBetween low high group
one_raised low middle high None le h = tt
one_raised low middle high (Some span) le h = (h.0, h.1, let a = h.2 in omega arith)

raised : (low middle high : ℕ) (groups : Groups) → middle ≤ high → AreBetween low middle groups → AreBetween low high groups
raised low middle high [] le h = tt
raised low middle high (group ∷ groups) le h = (one_raised low middle high group le h.0, raised low middle high groups le h.1)

-- the way goes on from its place, and its groups lie in front of its end
abbrev Lies : (low place : ℕ) → Way → Type 0
Lies low place way = (place ≤ way.0) × AreBetween low way.0 way.1

abbrev AllLie : (low place : ℕ) → List Way → Type 0
AllLie low place [] = Unit {0}
AllLie low place (way ∷ ways) = Lies low place way × AllLie low place ways

lie_cond : (low place : ℕ) (test : Bool) (one other : List Way) → AllLie low place one → AllLie low place other → AllLie low place (cond test one other)
lie_cond low place true one other h i = h
lie_cond low place false one other h i = i

lie_insert : (low place : ℕ) (way : Way) (others : List Way) → Lies low place way → AllLie low place others → AllLie low place (insert_way way others)
lie_insert low place way [] a h = (a, tt)
lie_insert low place way (other ∷ others) a h =
    lie_cond low place (nat_lt way.0 other.0) (other ∷ insert_way way others) (way ∷ other ∷ others) (h.0, lie_insert low place way others a h.1) (a, h)

lie_by_end : (low place : ℕ) (ways : List Way) → AllLie low place ways → AllLie low place (by_end ways)
lie_by_end low place [] h = tt
lie_by_end low place (way ∷ ways) h = lie_insert low place way (by_end ways) h.0 (lie_by_end low place ways h.1)

lie_append : (low place : ℕ) (one other : List Way) → AllLie low place one → AllLie low place other → AllLie low place (one ++ other)
lie_append low place [] other h i = i
lie_append low place (way ∷ one) other h i = (h.0, lie_append low place one other h.1 i)

-- ways from a later place
lie_later : (low place later : ℕ) (ways : List Way) → place ≤ later → AllLie low later ways → AllLie low place ways
lie_later low place later [] le h = tt
lie_later low place later (way ∷ ways) le h = ((let a = h.0.0 in omega arith, h.0.1), lie_later low place later ways le h.1)

lie_flat_map : (low place : ℕ) (f : Way → List Way) (ways : List Way) → AllLie low place ways → ((way : Way) → Lies low place way → AllLie low way.0 (f way)) → AllLie low place (flat_map f ways)
lie_flat_map low place f [] h all = tt
lie_flat_map low place f (way ∷ ways) h all =
    lie_append low place (f way) (flat_map f ways) (lie_later low place way.0 (f way) h.0.0 (all way h.0)) (lie_flat_map low place f ways h.1 all)

lie_map : (low place : ℕ) (f : Way → Way) (ways : List Way) → AllLie low place ways → ((way : Way) → Lies low place way → Lies low place (f way)) → AllLie low place (map f ways)
lie_map low place f [] h all = tt
lie_map low place f (way ∷ ways) h all = (all way h.0, lie_map low place f ways h.1 all)

lie_only_if : (low place : ℕ) (test : Bool) (way : Way) → Lies low place way → AllLie low place (only_if test way)
lie_only_if low place true way h = (h, tt)
lie_only_if low place false way h = tt

lie_next_turn : (low : ℕ) (test : Bool) (turn : Body) (place : ℕ) (groups : Groups) → AllLie low place (turn place groups) → AllLie low place (next_turn test turn place groups)
lie_next_turn low true turn place groups h = lie_by_end low place (turn place groups) h
lie_next_turn low false turn place groups h = tt

-- where the groups lie in front of a place, those of each way do so too
abbrev Keeps : (low : ℕ) → Body → Type 0
Keeps low body = (place : ℕ) (groups : Groups) → low ≤ place → AreBetween low place groups → AllLie low place (body place groups)

lie_stopped : (low : ℕ) (idle : Bool) (done : ℕ) (again : Body) (way : Way) → AreBetween low way.0 way.1 → AllLie low way.0 (again way.0 way.1) → AllLie low way.0 (stopped_or_on idle done again way)
lie_stopped low true done again way h i = lie_only_if low way.0 (nat_eq done 0) way (omega arith, h)
lie_stopped low false done again way h i = i

lie_turns : (more low : ℕ) (turn : Body) (least : ℕ) (most : Option ℕ) (done : ℕ) → Keeps low turn → Keeps low (turns more turn least most done)
lie_turns zero low turn least most done all place groups le h = lie_only_if low place (nat_le least done) (place, groups) (omega arith, h)
lie_turns (suc more) low turn least most done all place groups le h =
    lie_by_end low place _ (lie_append low place _ (only_if (nat_le least done) (place, groups))
    (lie_flat_map low place (after_turn least done place (turns more turn least most (done + 1))) (next_turn (below done most) turn place groups) (lie_next_turn low (below done most) turn place groups (all place groups le h))
    (λ way lies. lie_stopped low (nat_eq way.0 place && nat_le least done) done (turns more turn least most (done + 1)) way lies.1 (lie_turns more low turn least most (done + 1) all way.0 way.1 (let a = lies.0 in omega arith) lies.1)))
    (lie_only_if low place (nat_le least done) (place, groups) (omega arith, h)))

lie_referred : (low : ℕ) (text : List ℕ) (span : Option (ℕ × ℕ)) → Keeps low (referred_ways text span)
lie_referred low text None place groups le h = tt
lie_referred low text (Some span) place groups le h =
    lie_only_if low place (begins_with (drop place text) (bytes_of text span)) _ (omega arith, raised low place _ groups (omega arith) h)

ways_lie : (low : ℕ) (tree : Tree) (text : List ℕ) → Keeps low (ways tree text)
ways_lie low Empty text place groups le h = ((omega arith, h), tt)
ways_lie low (Then first rest) text place groups le h =
    lie_flat_map low place (from_way (ways rest text)) (by_end (ways first text place groups)) (lie_by_end low place (ways first text place groups) (ways_lie low first text place groups le h))
    (λ way lies. ways_lie low rest text way.0 way.1 (let a = lies.0 in omega arith) lies.1)
ways_lie low (Set negated ranges) text place groups le h =
    lie_only_if low place (has_byte_in negated ranges (slice_get text place)) (place + 1, groups) (omega arith, raised low place (place + 1) groups (omega arith) h)
ways_lie low TextStart text place groups le h = lie_only_if low place (nat_eq place 0) (place, groups) (omega arith, h)
ways_lie low TextEnd text place groups le h = lie_only_if low place (nat_eq place (length text)) (place, groups) (omega arith, h)
ways_lie low (BackReference group) text place groups le h = lie_referred low text (slice_index_or groups group None) place groups le h
ways_lie low (Group group content) text place groups le h =
    lie_map low place (with_group group place) (ways content text place groups) (ways_lie low content text place groups le h)
    (λ way lies. (lies.0, set_between low way.0 way.1 group (Some (place, way.0)) lies.1 (le, lies.0, omega arith)))
ways_lie low (Repeat least most content) text place groups le h =
    lie_turns (enough least text place) low (fresh_turn content (ways content text)) least most 0
    (λ place' groups' le' h'. ways_lie low content text place' (cleared content groups') le' (cleared_between low place' content groups' h')) place groups le h

-- the first of the ways

first_lies : (low place : ℕ) (ways : List Way) (way : Way) → AllLie low place ways → first ways ≡ Some way → AreBetween low way.0 way.1
first_lies low place [] way h e = absurd cc
first_lies low place (other ∷ ways) way h e = subst (λ (w : Way). AreBetween low w.0 w.1) (same other way e) h.0.1
  where
    same : (a b : Way) → ◌≡◌ {A = Option Way} (Some a) (Some b) → a ≡ b
    same a b e = cc

first_ends : (low high : ℕ) (ways : List Way) (way : Way) → EndBetween low high ways → first ways ≡ Some way → (low ≤ way.0) × (way.0 ≤ high)
first_ends low high [] way h e = absurd cc
first_ends low high (other ∷ ways) way h e = subst (λ (w : Way). (low ≤ w.0) × (w.0 ≤ high)) (same other way e) (h.0, h.1)
  where
    same : (a b : Way) → ◌≡◌ {A = Option Way} (Some a) (Some b) → a ≡ b
    same a b e = cc

-- a match lies at a place or later, and its groups within it
abbrev LiesAt : List ℕ → (from : ℕ) → ℕ × Way → Type 0
LiesAt text from found = (from ≤ found.0) × (found.0 ≤ found.1.0) × (found.1.0 ≤ length text) × AreBetween found.0 found.1.0 found.1.1

none_between : (place : ℕ) → AreBetween place place no_groups
none_between place = (tt, (tt, (tt, (tt, (tt, (tt, (tt, (tt, (tt, tt)))))))))

longest_lies : (tree : Tree) (text : List ℕ) (start : ℕ) (way : Way) → start ≤ length text → longest_from tree text start ≡ Some way → LiesAt text start (start, way)
longest_lies tree text start way le e =
    let all = ways tree text start no_groups in
    let ends = first_ends start (length text) (by_end all) way (in_by_end start (length text) all (ways_end_within tree text start no_groups le)) e in
    let groups = first_lies start start (by_end all) way (lie_by_end start start all (ways_lie start tree text start no_groups (omega arith) (none_between start))) e in
    (omega arith, ends.0, ends.1, groups)

among_lies : (starts : ℕ) (tree : Tree) (text : List ℕ) (start : ℕ) (found : ℕ × Way) → start + starts ≤ suc (length text) → match_among starts tree text start ≡ Some found → LiesAt text start found
among_lies zero tree text start found le e = absurd cc
among_lies (suc starts) tree text start found le e = by (longest_from tree text start) refl e (among_lies starts tree text (start + 1) found (omega arith))
  where
    same : (a b : ℕ × Way) → ◌≡◌ {A = Option (ℕ × Way)} (Some a) (Some b) → a ≡ b
    same a b e = cc

    by : (way : Option Way) → longest_from tree text start ≡ way → or_later way start (match_among starts tree text (start + 1)) ≡ Some found → (match_among starts tree text (start + 1) ≡ Some found → LiesAt text (start + 1) found) → LiesAt text start found
    by None f e later = let lies = later e in let a = lies.0 in (omega arith, lies.1, lies.2, lies.3)
    by (Some way) f e later = subst (λ (m : ℕ × Way). LiesAt text start m) (same (start, way) found e) (longest_lies tree text start way (omega arith) f)

pub matches_lie_within : (tree : Tree) (text : List ℕ) (from start end : ℕ) (groups : Groups) → from ≤ length text → match_from tree text from ≡ Some (start, (end, groups)) → (from ≤ start) × (start ≤ end) × (end ≤ length text) × AreBetween start end groups
matches_lie_within tree text from start end groups le e = among_lies (suc (length text - from)) tree text from (start, (end, groups)) (omega arith) e
