-- What a head tells of each text that begins with it.
use Rattle.std.proofs.Common.{◌≡◌, ℕ, zero, suc, ◌+◌, ◌-◌, ◌<◌, ◌≤◌, Bool, true, false, cond, List, [], ◌∷◌, ◌++◌, flat_map, length, drop, Option, Some, None, refl, ap, sym, subst, ◌∙◌, append-nil, arith}
use Rattle.std.specs.Prelude.{◌&&◌, nat_eq, slice_get}
use Rattle.std.specs.Option.{IsSome}
use Rattle.std.proofs.lemmas.Bool.{and_parts, and_from, eqb-true, not-true}
use Rattle.std.proofs.lemmas.Bool.Decides.{nat_tests}
use Rattle.std.proofs.lemmas.Option.{slice_get_within}
use Rattle.bre_parse.specs.declared.text_heads.Step.{Step}
use Rattle.bre_parse.specs.declared.text_heads.Step.TheVariants.{Blocked, Taken, Passed, Open}
use Rattle.bre_parse.specs.Tree.{Tree, Empty, Then, Set, TextStart, TextEnd, BackReference, Group, Repeat, in_set}
use Rattle.bre_parse.specs.Groups.{Groups, no_groups}
use Rattle.bre_parse.specs.Ways.{Way, ways, turns, after_turn, from_way, fresh_turn, only_if, by_end, has_byte_in, begins_with}
use Rattle.bre_parse.specs.Match.{first, or_later, match_among, match_from}
use Rattle.bre_parse.specs.Always.{is_unbounded}
use Rattle.bre_parse.specs.TextHeads.{lacks, step_at, step_by, cannot_start, untouched, untouched_from, single_byte, onto_bytes, first_bytes, is_anchored, after_start, head_asked, is_byte, begins_with_items, head_matches, head_clashes}
use Rattle.bre_parse.proofs.EmptyWays.{HasWay}
use Rattle.bre_parse.proofs.AlwaysLaw.{text_start_is, unbounded_is, way_matches}
use Rattle.bre_parse.proofs.LiteralWays.{one_way}
use Rattle.bre_parse.proofs.SingleBytes.{single_is, begins_after, single_then}

-- Starts that have no way

then_none : (first rest : Tree) (text : List ℕ) (place : ℕ) (groups : Groups) → ways first text place groups ≡ [] → ways (Then first rest) text place groups ≡ []
then_none first rest text place groups e = ap (λ (found : List Way). flat_map (from_way (ways rest text)) (by_end found)) e

then_empty : (first rest : Tree) (text : List ℕ) (place : ℕ) (groups : Groups) → ways first text place groups ≡ (place, groups) ∷ [] →
    ways (Then first rest) text place groups ≡ ways rest text place groups
then_empty first rest text place groups e =
    ap (λ (found : List Way). flat_map (from_way (ways rest text)) (by_end found)) e ∙ append-nil (ways rest text place groups)

then_one : (first rest : Tree) (text : List ℕ) (place : ℕ) (groups : Groups) (test : Bool) → ways first text place groups ≡ only_if test (place + 1, groups) →
    ways rest text (place + 1) groups ≡ [] → ways (Then first rest) text place groups ≡ []
then_one first rest text place groups test e none =
    ap (λ (found : List Way). flat_map (from_way (ways rest text)) (by_end found)) e
    ∙ one_way test (place + 1, groups) (from_way (ways rest text))
    ∙ ap (λ (later : List Way). cond test later []) none
    ∙ either test []
  where
    either : (b : Bool) (found : List Way) → cond b found found ≡ found
    either true found = refl
    either false found = refl

-- a byte of the head is one of the text
begins_byte : (text head : List ℕ) (place byte : ℕ) → begins_with text head ≡ true → slice_get head place ≡ Some byte → slice_get text place ≡ Some byte
begins_byte text [] place byte begins e = absurd cc
begins_byte [] (one ∷ head) place byte begins e = absurd cc
begins_byte (found ∷ text) (one ∷ head) zero byte begins e = ap Some (eqb-true found one (and_parts _ _ begins).0) ∙ e
begins_byte (found ∷ text) (one ∷ head) (suc place) byte begins e = begins_byte text head place byte (and_parts _ _ begins).1 e

-- where no byte of the set is, any number of them is none
none_taken : (content : Tree) (text : List ℕ) (byte place : ℕ) (groups : Groups) → slice_get text place ≡ Some byte → lacks content byte ≡ true →
    ways (Repeat 0 None content) text place groups ≡ (place, groups) ∷ []
none_taken (Set negated ranges) text byte place groups at e =
    ap (λ (test : Bool). by_end (flat_map (after_turn 0 0 place (turns (0 + (length text - place)) (fresh_turn (Set negated ranges) (ways (Set negated ranges) text)) 0 None 1))
    (by_end (only_if test (place + 1, groups))) ++ (place, groups) ∷ []))
    (ap (has_byte_in negated ranges) at ∙ not-true (in_set negated ranges byte) e)
none_taken Empty text byte place groups at e = absurd cc
none_taken (Then first rest) text byte place groups at e = absurd cc
none_taken TextStart text byte place groups at e = absurd cc
none_taken TextEnd text byte place groups at e = absurd cc
none_taken (BackReference group) text byte place groups at e = absurd cc
none_taken (Group group content) text byte place groups at e = absurd cc
none_taken (Repeat least most content) text byte place groups at e = absurd cc

-- what a step says of the ways of a part
abbrev Comes : Step → Tree → List ℕ → (place : ℕ) → Groups → Type 0
Comes Blocked part text place groups = ways part text place groups ≡ []
Comes Taken part text place groups = (test : Bool) × (ways part text place groups ≡ only_if test (place + 1, groups))
Comes Passed part text place groups = ways part text place groups ≡ (place, groups) ∷ []
Comes Open part text place groups = Unit {0}

set_comes : (negated : Bool) (ranges : List (ℕ × ℕ)) (text : List ℕ) (byte place : ℕ) (groups : Groups) → slice_get text place ≡ Some byte →
    Comes (step_at (Set negated ranges) byte place) (Set negated ranges) text place groups
set_comes negated ranges text byte place groups at = by (in_set negated ranges byte) refl
  where
    by : (there : Bool) → in_set negated ranges byte ≡ there → Comes (cond there Taken Blocked) (Set negated ranges) text place groups
    by true e = (has_byte_in negated ranges (slice_get text place), refl)
    by false e = ap (λ (test : Bool). only_if test (place + 1, groups)) (ap (has_byte_in negated ranges) at ∙ e)

repeat_comes : (least : ℕ) (most : Option ℕ) (content : Tree) (text : List ℕ) (byte place : ℕ) (groups : Groups) → slice_get text place ≡ Some byte →
    Comes (step_at (Repeat least most content) byte place) (Repeat least most content) text place groups
repeat_comes least most content text byte place groups at = by (nat_eq least 0 && is_unbounded most && lacks content byte) refl
  where
    by : (test : Bool) → (nat_eq least 0 && is_unbounded most && lacks content byte) ≡ test → Comes (cond test Passed Open) (Repeat least most content) text place groups
    by false e = tt
    by true e =
        let all = and_parts (nat_eq least 0 && is_unbounded most) (lacks content byte) e in
        let any = and_parts (nat_eq least 0) (is_unbounded most) all.0 in
        ap (λ (count : ℕ). ways (Repeat count most content) text place groups) (eqb-true least 0 any.0)
        ∙ ap (λ (bound : Option ℕ). ways (Repeat 0 bound content) text place groups) (unbounded_is most any.1)
        ∙ none_taken content text byte place groups at all.1

as_stepped : (part : Tree) (text : List ℕ) (byte place : ℕ) (groups : Groups) → slice_get text place ≡ Some byte → Comes (step_at part byte place) part text place groups
as_stepped (Set negated ranges) text byte place groups at = set_comes negated ranges text byte place groups at
as_stepped TextStart text byte place groups at = by (nat_eq place 0) refl
  where
    by : (here : Bool) → nat_eq place 0 ≡ here → Comes (cond here Passed Blocked) TextStart text place groups
    by true e = ap (λ (test : Bool). only_if test (place, groups)) e
    by false e = ap (λ (test : Bool). only_if test (place, groups)) e
as_stepped TextEnd text byte place groups at = ap (λ (test : Bool). only_if test (place, groups)) (before_end (slice_get_within text place byte at))
  where
    before_end : place < length text → nat_eq place (length text) ≡ false
    before_end lt = grind (arith, nat_tests)
as_stepped (Repeat least most content) text byte place groups at = repeat_comes least most content text byte place groups at
as_stepped Empty text byte place groups at = tt
as_stepped (Then first rest) text byte place groups at = tt
as_stepped (BackReference group) text byte place groups at = tt
as_stepped (Group group content) text byte place groups at = tt

pub blocked_starts : (tree : Tree) (head text : List ℕ) (place : ℕ) (groups : Groups) → cannot_start tree head place ≡ true → begins_with text head ≡ true →
    ways tree text place groups ≡ []
blocked_starts (Then first rest) head text place groups e begins =
    by_byte (slice_get head place) refl e (λ f. blocked_starts rest head text (place + 1) groups f begins) (λ f. blocked_starts rest head text place groups f begins)
  where
    by_step : (how : Step) → Comes how first text place groups →
        elim how [ Blocked ↦ true | Taken ↦ cannot_start rest head (place + 1) | Passed ↦ cannot_start rest head place | Open ↦ false ] ≡ true →
        (cannot_start rest head (place + 1) ≡ true → ways rest text (place + 1) groups ≡ []) → (cannot_start rest head place ≡ true → ways rest text place groups ≡ []) →
        ways (Then first rest) text place groups ≡ []
    by_step Blocked is f later same = then_none first rest text place groups is
    by_step Taken is f later same = then_one first rest text place groups is.0 is.1 (later f)
    by_step Passed is f later same = then_empty first rest text place groups is ∙ same f
    by_step Open is f later same = absurd cc

    by_byte : (found : Option ℕ) → slice_get head place ≡ found →
        elim (step_by first found place) [ Blocked ↦ true | Taken ↦ cannot_start rest head (place + 1) | Passed ↦ cannot_start rest head place | Open ↦ false ] ≡ true →
        (cannot_start rest head (place + 1) ≡ true → ways rest text (place + 1) groups ≡ []) → (cannot_start rest head place ≡ true → ways rest text place groups ≡ []) →
        ways (Then first rest) text place groups ≡ []
    by_byte None at f later same = absurd cc
    by_byte (Some byte) at f later same =
        by_step (step_at first byte place) (as_stepped first text byte place groups (begins_byte text head place byte begins at)) f later same
blocked_starts Empty head text place groups e begins = absurd cc
blocked_starts (Set negated ranges) head text place groups e begins = absurd cc
blocked_starts TextStart head text place groups e begins = absurd cc
blocked_starts TextEnd head text place groups e begins = absurd cc
blocked_starts (BackReference group) head text place groups e begins = absurd cc
blocked_starts (Group group content) head text place groups e begins = absurd cc
blocked_starts (Repeat least most content) head text place groups e begins = absurd cc

-- The head that is left untouched

untouched_blocks : (tree : Tree) (head left : List ℕ) (place more : ℕ) → more < length (untouched_from tree head left place) → cannot_start tree head (place + more) ≡ true
untouched_blocks tree head [] place more lt = absurd (omega arith)
untouched_blocks tree head (byte ∷ left) place more lt =
    by (cannot_start tree head place) refl more lt (λ later. untouched_blocks tree head left (place + 1) later)
  where
    step : (place more : ℕ) → place + 1 + more ≡ place + suc more
    step place more = omega arith

    none : (place : ℕ) → place + 0 ≡ place
    none place = omega arith

    by : (test : Bool) → cannot_start tree head place ≡ test → (more : ℕ) → more < length (cond test (byte ∷ untouched_from tree head left (place + 1)) []) →
        ((later : ℕ) → later < length (untouched_from tree head left (place + 1)) → cannot_start tree head (place + 1 + later) ≡ true) → cannot_start tree head (place + more) ≡ true
    by false e more lt all = absurd (omega arith)
    by true e zero lt all = ap (cannot_start tree head) (none place) ∙ e
    by true e (suc more) lt all = ap (cannot_start tree head) (sym (step place more)) ∙ all more (omega arith)

untouched_begins : (tree : Tree) (head text left : List ℕ) (place : ℕ) → begins_with text left ≡ true → begins_with text (untouched_from tree head left place) ≡ true
untouched_begins tree head text [] place begins = refl
untouched_begins tree head [] (byte ∷ left) place begins = absurd cc
untouched_begins tree head (found ∷ text) (byte ∷ left) place begins =
    by (cannot_start tree head place) (untouched_begins tree head text left (place + 1) (and_parts _ _ begins).1)
  where
    by : (test : Bool) → begins_with text (untouched_from tree head left (place + 1)) ≡ true →
        begins_with (found ∷ text) (cond test (byte ∷ untouched_from tree head left (place + 1)) []) ≡ true
    by true later = and_from _ _ (and_parts _ _ begins).0 later
    by false later = refl

pub untouched_stands : (tree : Tree) (head text : List ℕ) → begins_with text head ≡ true → begins_with text (untouched tree head) ≡ true
untouched_stands tree head text begins = untouched_begins tree head text head 0 begins

pub untouched_has_none : (tree : Tree) (head text : List ℕ) (place : ℕ) (groups : Groups) → begins_with text head ≡ true → place < length (untouched tree head) →
    ways tree text place groups ≡ []
untouched_has_none tree head text place groups begins lt =
    blocked_starts tree head text place groups (ap (cannot_start tree head) (from_none place) ∙ untouched_blocks tree head head 0 place lt) begins
  where
    from_none : (place : ℕ) → place ≡ 0 + place
    from_none place = omega arith

-- Patterns with `^`

anchored_is : (tree : Tree) → is_anchored tree ≡ true → tree ≡ Then TextStart (after_start tree)
anchored_is (Then first rest) e =
    ap (λ (part : Tree). Then part rest) (text_start_is first e)
    ∙ ap (λ (test : Bool). Then TextStart (cond test rest (Then first rest))) (sym e)
anchored_is Empty e = absurd cc
anchored_is (Set negated ranges) e = absurd cc
anchored_is TextStart e = absurd cc
anchored_is TextEnd e = absurd cc
anchored_is (BackReference group) e = absurd cc
anchored_is (Group group content) e = absurd cc
anchored_is (Repeat least most content) e = absurd cc

at_start : (rest : Tree) (text : List ℕ) (groups : Groups) → ways (Then TextStart rest) text 0 groups ≡ ways rest text 0 groups
at_start rest text groups = append-nil (ways rest text 0 groups)

past_start : (rest : Tree) (text : List ℕ) (place : ℕ) (groups : Groups) → 1 ≤ place → ways (Then TextStart rest) text place groups ≡ []
past_start rest text place groups le = then_none TextStart rest text place groups (ap (λ (test : Bool). only_if test (place, groups)) past)
  where
    past : nat_eq place 0 ≡ false
    past = grind (arith, nat_tests)

none_among : (starts : ℕ) (tree : Tree) (text : List ℕ) (start : ℕ) → ((place : ℕ) → start ≤ place → ways tree text place no_groups ≡ []) → match_among starts tree text start ≡ None
none_among zero tree text start none = refl
none_among (suc starts) tree text start none =
    ap (λ (found : List Way). or_later (first (by_end found)) start (match_among starts tree text (start + 1))) (none start (omega arith))
    ∙ none_among starts tree text (start + 1) (λ place le. none place (omega arith))

-- an anchored pattern without a way from 0 has no match
none_from_start : (rest : Tree) (text : List ℕ) → ways (Then TextStart rest) text 0 no_groups ≡ [] → match_from (Then TextStart rest) text 0 ≡ None
none_from_start rest text none = none_among (suc (length text - 0)) (Then TextStart rest) text 0 each
  where
    each : (place : ℕ) → 0 ≤ place → ways (Then TextStart rest) text place no_groups ≡ []
    each zero le = none
    each (suc place) le = past_start rest text (suc place) no_groups (omega arith)

pub clashing_heads_match_nothing : (tree : Tree) (head text : List ℕ) → head_clashes head tree ≡ true → begins_with text head ≡ true → match_from tree text 0 ≡ None
clashing_heads_match_nothing tree head text e begins =
    let both = and_parts (is_anchored tree) (cannot_start tree head 0) e in
    let is = anchored_is tree both.0 in
    ap (λ (t : Tree). match_from t text 0) is
    ∙ none_from_start (after_start tree) text (ap (λ (t : Tree). ways t text 0 no_groups) (sym is) ∙ blocked_starts tree head text 0 no_groups both.1 begins)

-- The head that a pattern asks for

has_of_cond : (test : Bool) (found : List Way) → HasWay (cond test found []) → (test ≡ true) × HasWay found
has_of_cond true found h = (refl, h)
has_of_cond false found h = absurd h

first_bytes_stand : (tree : Tree) (text : List ℕ) (place : ℕ) (groups : Groups) → HasWay (ways tree text place groups) → begins_with (drop place text) (first_bytes tree) ≡ true
first_bytes_stand (Then first rest) text place groups has =
    by (single_byte first) refl (λ h. first_bytes_stand rest text (place + 1) groups h)
  where
    by : (one : Option ℕ) → single_byte first ≡ one → (HasWay (ways rest text (place + 1) groups) → begins_with (drop (place + 1) text) (first_bytes rest) ≡ true) →
        begins_with (drop place text) (onto_bytes one (first_bytes rest)) ≡ true
    by None e later = refl
    by (Some byte) e later =
        let is = ap (λ (part : Tree). ways (Then part rest) text place groups) (single_is first byte e) ∙ single_then byte rest text place groups in
        let both = has_of_cond (begins_with (drop place text) (byte ∷ [])) (ways rest text (place + 1) groups) (subst (λ (found : List Way). HasWay found) is has) in
        begins_after byte (first_bytes rest) text place ∙ and_from _ _ both.0 (later both.1)
first_bytes_stand Empty text place groups has = refl
first_bytes_stand (Set negated ranges) text place groups has = refl
first_bytes_stand TextStart text place groups has = refl
first_bytes_stand TextEnd text place groups has = refl
first_bytes_stand (BackReference group) text place groups has = refl
first_bytes_stand (Group group content) text place groups has = refl
first_bytes_stand (Repeat least most content) text place groups has = refl

matched_from_start : (rest : Tree) (text : List ℕ) (found : ℕ × Way) → match_from (Then TextStart rest) text 0 ≡ Some found → begins_with text (first_bytes rest) ≡ true
matched_from_start rest text found e = by (ways (Then TextStart rest) text 0 no_groups) refl
  where
    by : (all : List Way) → ways (Then TextStart rest) text 0 no_groups ≡ all → begins_with text (first_bytes rest) ≡ true
    by [] is = absurd (let none = none_from_start rest text is in cc)
    by (way ∷ all) is =
        first_bytes_stand rest text 0 no_groups (subst (λ (ways : List Way). HasWay ways) (sym is ∙ at_start rest text no_groups) tt)

pub head_is_asked : (tree : Tree) (text : List ℕ) (found : ℕ × Way) → match_from tree text 0 ≡ Some found → begins_with text (head_asked tree) ≡ true
head_is_asked tree text found e = by (is_anchored tree) refl
  where
    by : (test : Bool) → is_anchored tree ≡ test → begins_with text (cond test (first_bytes (after_start tree)) []) ≡ true
    by true is = matched_from_start (after_start tree) text found (ap (λ (t : Tree). match_from t text 0) (sym (anchored_is tree is)) ∙ e)
    by false is = refl

-- A pattern that a head matches

some_byte : (one : Option ℕ) (byte : ℕ) → is_byte one byte ≡ true → one ≡ Some byte
some_byte None byte e = absurd cc
some_byte (Some found) byte e = ap Some (eqb-true found byte e)

items_have_way : (tree : Tree) (head text : List ℕ) (place : ℕ) (groups : Groups) → begins_with_items head tree ≡ true → begins_with (drop place text) head ≡ true →
    HasWay (ways tree text place groups)
items_have_way Empty head text place groups e begins = tt
items_have_way (Then first rest) [] text place groups e begins = absurd cc
items_have_way (Then first rest) (byte ∷ head) text place groups e begins =
    let both = and_parts (is_byte (single_byte first) byte) (begins_with_items head rest) e in
    let stand = and_parts _ _ (sym (begins_after byte head text place) ∙ begins) in
    let is = ap (λ (part : Tree). ways (Then part rest) text place groups) (single_is first byte (some_byte (single_byte first) byte both.0)) ∙ single_then byte rest text place groups in
    subst (λ (found : List Way). HasWay found)
    (sym (is ∙ ap (λ (test : Bool). cond test (ways rest text (place + 1) groups) []) stand.0))
    (items_have_way rest head text (place + 1) groups both.1 stand.1)
items_have_way (Set negated ranges) head text place groups e begins = absurd cc
items_have_way TextStart head text place groups e begins = absurd cc
items_have_way TextEnd head text place groups e begins = absurd cc
items_have_way (BackReference group) head text place groups e begins = absurd cc
items_have_way (Group group content) head text place groups e begins = absurd cc
items_have_way (Repeat least most content) head text place groups e begins = absurd cc

pub heads_are_matched : (tree : Tree) (head text : List ℕ) → head_matches head tree ≡ true → begins_with text head ≡ true → IsSome (match_from tree text 0)
heads_are_matched tree head text e begins =
    let both = and_parts (is_anchored tree) (begins_with_items head (after_start tree)) e in
    let is = anchored_is tree both.0 in
    let way = items_have_way (after_start tree) head text 0 no_groups both.1 begins in
    way_matches tree text 0 (omega arith)
    (subst (λ (found : List Way). HasWay found) (sym (ap (λ (t : Tree). ways t text 0 no_groups) is ∙ at_start (after_start tree) text no_groups)) way)
