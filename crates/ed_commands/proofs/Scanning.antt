-- The matches that are left at a place are the one that is found there and those that are left after it.
use Rattle.std.proofs.Common.{◌≡◌, ◌≢◌, ℕ, zero, suc, ◌+◌, ◌-◌, ◌<◌, ◌≤◌, Bool, true, false, ◌&&◌, List, [], ◌∷◌, length, Option, Some, None, refl, sym, ◌∙◌, ap, arith, zero-add, suc-add, Result, Ok, Err, IfOk, IfSome, option_map, take, drop}
use Rattle.std.specs.Prelude.{nat_le, nat_eq}
use Rattle.std.proofs.lemmas.Bool.Decides.{eqb_tells, leb_tells}
use Rattle.std.proofs.lemmas.Bool.{true≢false}
use Rattle.std.specs.declared.alloc.AllocError.{AllocError}
use Rattle.bre_parse.specs.Tree.{Tree}
use Rattle.bre_parse.specs.Match.{match_from}
use Rattle.bre_parse.specs.Laws.{MatchesLieWithin}
use Rattle.ed_syntax.specs.meaning.Substitution.{Found, is_empty, taken_first, taken_from, taken}
use Rattle.bre_match.specs.declared.Match.{Match}
use Rattle.bre_match.specs.Answer.{spans, LiesWithin}
use Rattle.ed_commands.specs.declared.substitution.Scan.{Scan}
use Rattle.ed_commands.specs.Scans.{left_from, scan_after, passed_over, nth_of, alone, left, Goes}

-- a match that was found lies at its place or later
abbrev pub LiesAfter : ℕ → Option Found → Type 0
LiesAfter from None = Unit {0}
LiesAfter from (Some m) = (from ≤ m.0) × (m.0 ≤ m.1.0)

-- what is taken after a match, by whether it is empty and whether it is passed over
abbrev pub by_kind : (again : ℕ → Bool → List Found) (from : ℕ) (m : Found) (empty passed : Bool) → List Found
by_kind again from m empty passed =
    elim empty [ false ↦ m ∷ again m.1.0 true | true ↦ elim passed [ true ↦ again (from + 1) false | false ↦ m ∷ again (m.1.0 + 1) false ] ]

same_by_kind : (again other : ℕ → Bool → List Found) (from : ℕ) (m : Found) (empty passed : Bool) → nat_eq m.0 m.1.0 ≡ empty →
    (from ≤ m.0) × (m.0 ≤ m.1.0) → ((place : ℕ) (f : Bool) → from < place → again place f ≡ other place f) →
    by_kind again from m empty passed ≡ by_kind other from m empty passed
same_by_kind again other from m true true is lies same = same (from + 1) false (omega arith)
same_by_kind again other from m true false is lies same = ap (λ l. m ∷ l) (same (m.1.0 + 1) false (omega (arith, lies)))
same_by_kind again other from m false passed is lies same =
    let differ : m.0 ≢ m.1.0 = grind (arith, is, eqb_tells) in
    ap (λ l. m ∷ l) (same m.1.0 true (omega (arith, lies, differ)))

-- what is taken asks only for matches further on
pub same_after : (again other : ℕ → Bool → List Found) (from : ℕ) (full : Bool) (found : Option Found) → LiesAfter from found →
    ((place : ℕ) (f : Bool) → from < place → again place f ≡ other place f) → taken_first again from full found ≡ taken_first other from full found
same_after again other from full None lies same = refl
same_after again other from full (Some m) lies same = same_by_kind again other from m (is_empty m) (full && nat_eq m.0 from) refl lies same

-- each match lies at the place that it was looked for from, or later
abbrev pub LieAfter : Tree → List ℕ → Type 0
LieAfter tree text = (from : ℕ) → from ≤ length text → LiesAfter from (match_from tree text from)

-- the matches taken from a place on, by whether the place is in the text
abbrev pub by_place : (again : ℕ → Bool → List Found) → Tree → List ℕ → (from : ℕ) → Bool → (inside : Bool) → List Found
by_place again tree text from full inside = elim inside [ true ↦ taken_first again from full (match_from tree text from) | false ↦ [] ]

at_outside : (again : ℕ → Bool → List Found) (tree : Tree) (text : List ℕ) (from : ℕ) (full inside : Bool) → inside ≡ false →
    by_place again tree text from full inside ≡ []
at_outside again tree text from full false is = refl
at_outside again tree text from full true is = cc

at_inside : (again : ℕ → Bool → List Found) (tree : Tree) (text : List ℕ) (from : ℕ) (full inside : Bool) → inside ≡ true →
    by_place again tree text from full inside ≡ taken_first again from full (match_from tree text from)
at_inside again tree text from full true is = refl
at_inside again tree text from full false is = cc

same_by_place : (again other : ℕ → Bool → List Found) (tree : Tree) (text : List ℕ) (from : ℕ) (full inside : Bool) → nat_le from (length text) ≡ inside →
    LieAfter tree text → (from ≤ length text → (place : ℕ) (f : Bool) → from < place → again place f ≡ other place f) →
    by_place again tree text from full inside ≡ by_place other tree text from full inside
same_by_place again other tree text from full false is lie same = refl
same_by_place again other tree text from full true is lie same =
    let within : from ≤ length text = grind (arith, is, leb_tells) in
    same_after again other from full (match_from tree text from) (lie from within) (same within)

-- a count that is large enough may be larger by one
pub one_more : (tree : Tree) (text : List ℕ) → LieAfter tree text → (most from : ℕ) (full : Bool) → suc (length text) ≤ from + most →
    taken_from (suc most) tree text from full ≡ taken_from most tree text from full
one_more tree text lie zero from full enough =
    let outside : nat_le from (length text) ≡ false = grind (arith, leb_tells) in
    at_outside (λ p f. taken_from zero tree text p f) tree text from full (nat_le from (length text)) outside
one_more tree text lie (suc most) from full enough =
    same_by_place (λ p f. taken_from (suc most) tree text p f) (λ p f. taken_from most tree text p f) tree text from full (nat_le from (length text)) refl lie
    (λ within place f further. one_more tree text lie most place f (omega (arith, enough)))

-- so may be larger by any number
pub any_more : (tree : Tree) (text : List ℕ) → LieAfter tree text → (extra most from : ℕ) (full : Bool) → suc (length text) ≤ from + most →
    taken_from (extra + most) tree text from full ≡ taken_from most tree text from full
any_more tree text lie zero most from full enough = rw zero-add refl
any_more tree text lie (suc extra) most from full enough =
    rw suc-add (one_more tree text lie (extra + most) from full (omega (arith, enough)) ∙ any_more tree text lie extra most from full enough)

-- with a count that is large enough just what is left is taken
pub as_left : (tree : Tree) (text : List ℕ) → LieAfter tree text → (most from : ℕ) (full : Bool) → suc (length text) ≤ from + most →
    taken_from most tree text from full ≡ left_from tree text from full
as_left tree text lie most from full enough =
    let least = suc (length text) - from in
    let split : (most - least) + least ≡ most = omega (arith, enough) in
    ap (λ k. taken_from k tree text from full) (sym split) ∙ any_more tree text lie (most - least) least from full (omega arith)

-- what is left at a place of the text
pub left_inside : (tree : Tree) (text : List ℕ) → LieAfter tree text → (from : ℕ) (full : Bool) → from ≤ length text →
    left_from tree text from full ≡ taken_first (λ p f. left_from tree text p f) from full (match_from tree text from)
left_inside tree text lie from full within =
    let count : suc (length text) - from ≡ suc (length text - from) = omega arith in
    let inside : nat_le from (length text) ≡ true = grind (arith, leb_tells) in
    ap (λ k. taken_from k tree text from full) count
    ∙ at_inside (λ p f. taken_from (length text - from) tree text p f) tree text from full (nat_le from (length text)) inside
    ∙ (same_after (λ p f. taken_from (length text - from) tree text p f) (λ p f. left_from tree text p f) from full (match_from tree text from) (lie from within)
    (λ place f further. as_left tree text lie (length text - from) place f (omega arith)))

lies_at : MatchesLieWithin → (tree : Tree) (text : List ℕ) (from : ℕ) → from ≤ length text → (found : Option Found) → match_from tree text from ≡ found → LiesAfter from found
lies_at law tree text from within None is = tt
lies_at law tree text from within (Some (start, (end, groups))) is =
    let all = law tree text from start end groups within is in
    (all.0, all.1)

-- by the law, each match lies at its place or later
pub lie_after : MatchesLieWithin → (tree : Tree) (text : List ℕ) → LieAfter tree text
lie_after law tree text from within = lies_at law tree text from within (match_from tree text from) refl

-- what is left, told by the match that was found
pub told_left : (tree : Tree) (text : List ℕ) → LieAfter tree text → (from : ℕ) (full : Bool) → from ≤ length text →
    (result : Result (Option Match) AllocError) → IfOk result (λ found. option_map spans found ≡ match_from tree text from) →
    IfOk result (λ found. left_from tree text from full ≡ taken_first (left_from tree text) from full (option_map spans found))
told_left tree text lie from full within (Ok found) is = rw is (left_inside tree text lie from full within)
told_left tree text lie from full within (Err e) is = tt

-- how a match is taken, by what is known of it
accepted_by : (again : ℕ → Bool → List Found) (from : ℕ) (full : Bool) (m : Found) (here empty : Bool) →
    (full && here && empty) ≡ false →
    by_kind again from m empty (full && here) ≡ m ∷ elim empty [ true ↦ again (m.1.0 + 1) false | false ↦ again m.1.0 true ]
accepted_by again from full m here false stays = refl
accepted_by again from false m here true stays = refl
accepted_by again from true m false true stays = refl
accepted_by again from true m true true stays = absurd (true≢false stays)

-- the scan after a match that is empty or isn't
abbrev pub scan_by : Found → Bool → Scan
scan_by m empty = elim empty [ true ↦ record { place = m.1.0 + 1; after_full = false } | false ↦ record { place = m.1.0; after_full = true } ]

-- what follows a match, by whether it is empty
after_by : (again : ℕ → Bool → List Found) (m : Found) (empty : Bool) → is_empty m ≡ empty →
    elim empty [ true ↦ again (m.1.0 + 1) false | false ↦ again m.1.0 true ] ≡ again (scan_after m).place (scan_after m).after_full
after_by again m true is = ap (λ (b : Bool). again (scan_by m b).place (scan_by m b).after_full) (sym is)
after_by again m false is = ap (λ (b : Bool). again (scan_by m b).place (scan_by m b).after_full) (sym is)

-- what a match that isn't passed over leaves
pub accepted : (again : ℕ → Bool → List Found) (from : ℕ) (full : Bool) (m : Found) → passed_over (record { place = from; after_full = full }) m ≡ false →
    taken_first again from full (Some m) ≡ m ∷ again (scan_after m).place (scan_after m).after_full
accepted again from full m stays =
    accepted_by again from full m (nat_eq m.0 from) (is_empty m) stays ∙ ap (λ l. m ∷ l) (after_by again m (is_empty m) refl)

left_out_by : (again : ℕ → Bool → List Found) (from : ℕ) (full : Bool) (m : Found) (here empty : Bool) → (full && here && empty) ≡ true →
    by_kind again from m empty (full && here) ≡ again (from + 1) false
left_out_by again from true m true true passes = refl
left_out_by again from true m true false passes = absurd (true≢false (sym passes))
left_out_by again from true m false empty passes = absurd (true≢false (sym passes))
left_out_by again from false m here empty passes = absurd (true≢false (sym passes))

-- one that is passed over is left out, and a byte is kept
pub left_out : (again : ℕ → Bool → List Found) (from : ℕ) (full : Bool) (m : Found) → passed_over (record { place = from; after_full = full }) m ≡ true →
    taken_first again from full (Some m) ≡ again (from + 1) false
left_out again from full m passes = left_out_by again from full m (nat_eq m.0 from) (is_empty m) passes

-- the match after so many, told by where the scan is then
pub nth_alone : (tree : Tree) (text : List ℕ) (old new : Scan) (found : Option Match) (all : List Found) (n : ℕ) →
    Goes tree text old found new → left tree text old ≡ drop n all → alone found ≡ nth_of n all
nth_alone tree text old new None all n goes is = ap (λ (l : List Found). take 1 l) (sym goes ∙ is)
nth_alone tree text old new (Some found) all n goes is = ap (λ (l : List Found). take 1 l) (sym goes.first ∙ is)

-- the same of an answer
pub nth_told : (tree : Tree) (text : List ℕ) (old new : Scan) (result : Result (Option Match) AllocError) (all : List Found) (n : ℕ) →
    IfOk result (λ found. Goes tree text old found new) → left tree text old ≡ drop n all → IfOk result (λ found. alone found ≡ nth_of n all)
nth_told tree text old new (Ok found) all n goes is = nth_alone tree text old new found all n goes is
nth_told tree text old new (Err e) all n goes is = tt

-- a match that was taken lies within the text
pub taken_within : (tree : Tree) (text : List ℕ) (old new : Scan) (result : Result (Option Match) AllocError) →
    IfOk result (λ found. Goes tree text old found new) → IfOk result (λ found. IfSome found (LiesWithin 0 (length text)))
taken_within tree text old new (Ok None) goes = tt
taken_within tree text old new (Ok (Some found)) goes = (omega arith, goes.ordered, goes.within)
taken_within tree text old new (Err e) goes = tt
