-- The loops by which it is found where ways come to.
use Rattle.std.proofs.Common.{◌≡◌, ℕ, zero, suc, ◌+◌, ◌-◌, ◌*◌, ◌<◌, ◌≤◌, List, [], ◌∷◌, ◌++◌, map, length, take, drop, get_or, Option, None, Some, IfSome, Bool, true, false, leb, ltb, refl, ap, sym, ◌∙◌, subst, append_assoc, eqb, arith}
use Rattle.std.proofs.lemmas.Bool.Decides.{nat_tests}
use Rattle.bre_parse.specs.declared.tree.Node.{Node}
use Rattle.bre_parse.specs.Tree.{Tree, Empty, Repeat, tree_of, sequence_of}
use Rattle.bre_parse.specs.Groups.{no_groups}
use Rattle.bre_parse.specs.Match.{first, longest_from, match_among}
use Rattle.bre_parse.specs.Ways.{Way, Body, ways, turns, fresh_turn, by_end}
use Rattle.bre_parse.proofs.Sequences.{sequence_of-drop, sequence_of-all}
use Rattle.bre_match.specs.Alike.{RefersWithin, HasAlike}
use Rattle.bre_match.specs.Outlooks.{Each}
use Rattle.bre_match.specs.Spreads.{AreKnown, Leads, begun, NoneBetween}
use Rattle.bre_match.proofs.Asking.{rest_within}
use Rattle.bre_match.proofs.Each.{each_map, each_head, each_rest}
use Rattle.bre_match.proofs.SameWays.{Even, even_fresh, even_ways}
use Rattle.bre_match.proofs.Spreads.{each_taken, each_whole, known_itself, known_before, known_known, one_known, leads_more, led_known, fresh_led, then_leads, needed_turn, repeat_leads, later_turn, last_turn}
use Rattle.bre_match.proofs.Starts.{skip_starts}

-- an answer that may be none
pub if_some : {A : Type 0} (P Q : A → Type 0) (o : Option A) → ((x : A) → P x → Q x) → IfSome o P → IfSome o Q
if_some P Q None f h = tt
if_some P Q (Some x) f h = f x h

pub knows_new : (asked : List Bool) (found all all' : List Way) (i : ℕ) (way : Way) → i < length found
    → all' ≡ all ++ get_or found i way ∷ [] → AreKnown asked all (take i found) → AreKnown asked all' (take (i + 1) found)
knows_new asked found all all' i way lt put known =
    let here = get_or found i way in
    subst (λ l. AreKnown asked l (take (i + 1) found)) (sym put)
    (each_taken (HasAlike asked (all ++ here ∷ [])) found i way lt (known_before asked all (here ∷ []) (take i found) known)
    (one_known asked all here))

pub put_new : (old all added all' added' : List Way) (w : Way) → all' ≡ all ++ w ∷ [] → added' ≡ added ++ w ∷ [] → all ≡ old ++ added
    → all' ≡ old ++ added'
put_new old all added all' added' w e f g = rw (e, f, g, append_assoc) refl

pub knows_old : (asked : List Bool) (found all all' : List Way) (i : ℕ) (way : Way) → i < length found → all' ≡ all
    → HasAlike asked all (get_or found i way) → AreKnown asked all (take i found) → AreKnown asked all' (take (i + 1) found)
knows_old asked found all all' i way lt same has known =
    subst (λ l. AreKnown asked l (take (i + 1) found)) (sym same) (each_taken (HasAlike asked all) found i way lt known has)

pub knows_all : (asked : List Bool) (found all : List Way) (i : ℕ) → length found ≤ i → AreKnown asked all (take i found)
    → AreKnown asked all found
knows_all asked found all i le known = each_whole (HasAlike asked all) found i le known

pub leads_next : (asked : List Bool) (body : Body) (from to to' more : List Way) (i : ℕ) (way : Way) → i < length from
    → to' ≡ to ++ more → Leads asked body (take i from) to → AreKnown asked to' (body (get_or from i way).0 (get_or from i way).1)
    → Leads asked body (take (i + 1) from) to'
leads_next asked body from to to' more i way lt grow led known =
    each_taken (λ w. AreKnown asked to' (body w.0 w.1)) from i way lt
    (leads_more asked body (take i from) to to' led
    (subst (λ l. AreKnown asked l to) (sym grow) (known_before asked to more to (known_itself asked to)))) known

pub leads_all : (asked : List Bool) (body : Body) (from to : List Way) (i : ℕ) → length from ≤ i → Leads asked body (take i from) to
    → Leads asked body from to
leads_all asked body from to i le led = each_whole (λ w. AreKnown asked to (body w.0 w.1)) from i le led

pub row_next : (asked : List Bool) (items : List Node) (i : ℕ) (item : Node) (s : List ℕ) (from now next : List Way)
    → RefersWithin asked (sequence_of items) → i < length items → item ≡ get_or items i item
    → ((to : List Way) → Leads asked (ways (sequence_of (drop i items)) s) now to → Leads asked (ways (sequence_of items) s) from to)
    → Leads asked (ways (tree_of item) s) now next
    → (to : List Way) → Leads asked (ways (sequence_of (drop (i + 1) items)) s) next to → Leads asked (ways (sequence_of items) s) from to
row_next asked items i item s from now next within lt e cont led to h =
    cont to (subst (λ t. Leads asked (ways t s) now to) (sym (sequence_of-drop items i item lt e))
    (then_leads asked (tree_of item) (sequence_of (drop (i + 1) items)) (rest_within asked items (i + 1) within) s now next to led h))

empty_leads : (asked : List Bool) (s : List ℕ) (now : List Way) → Leads asked (ways Empty s) now now
empty_leads asked s now =
    each_map (HasAlike asked now) (λ w. AreKnown asked now (ways Empty s w.0 w.1)) now (λ w has. (has, tt)) (known_itself asked now)

pub row_done : (asked : List Bool) (items : List Node) (i : ℕ) (s : List ℕ) (from now : List Way) → length items ≤ i
    → ((to : List Way) → Leads asked (ways (sequence_of (drop i items)) s) now to → Leads asked (ways (sequence_of items) s) from to)
    → Leads asked (ways (sequence_of items) s) from now
row_done asked items i s from now le cont =
    cont now (subst (λ t. Leads asked (ways t s) now now) (sym (sequence_of-all items i le)) (empty_leads asked s now))

pub row_begins : (asked : List Bool) (items : List Node) (s : List ℕ) (from now : List Way) → now ≡ from
    → (to : List Way) → Leads asked (ways (sequence_of items) s) now to → Leads asked (ways (sequence_of items) s) from to
row_begins asked items s from now e to led = subst (λ l. Leads asked (ways (sequence_of items) s) l to) e led

-- a turn that begins with the different ones of some ways
pub turn_led : (asked : List Bool) (c : Tree) (s : List ℕ) → RefersWithin asked c → (from unset different to : List Way)
    → unset ≡ map (begun c) from → AreKnown asked different unset → Leads asked (ways c s) different to
    → Leads asked (fresh_turn c (ways c s)) from to
turn_led asked c s within from unset different to is known led =
    fresh_led asked c (ways c s) from to
    (subst (λ l. Leads asked (ways c s) l to) is (led_known asked (ways c s) (even_ways asked c within s) different to unset led known))

pub fresh_even : (asked : List Bool) (c : Tree) (s : List ℕ) → RefersWithin asked c → Even asked (fresh_turn c (ways c s))
fresh_even asked c s within = even_fresh asked c (ways c s) (even_ways asked c within s)

-- one of the turns that are needed
pub repeat_next : (asked : List Bool) (c : Tree) (s : List ℕ) → RefersWithin asked c → (least : ℕ) (most : Option ℕ) (done : ℕ)
    (from now next : List Way)
    → done < least
    → ((to : List Way) → ((k : ℕ) → Leads asked (turns k (fresh_turn c (ways c s)) least most done) now to)
    → (k : ℕ) → Leads asked (turns k (fresh_turn c (ways c s)) least most 0) from to)
    → Leads asked (fresh_turn c (ways c s)) now next
    → (to : List Way) → ((k : ℕ) → Leads asked (turns k (fresh_turn c (ways c s)) least most (done + 1)) next to)
    → (k : ℕ) → Leads asked (turns k (fresh_turn c (ways c s)) least most 0) from to
repeat_next asked c s within least most done from now next lt cont led to on =
    let few : leb least done ≡ false = grind (arith, nat_tests) in
    cont to (needed_turn asked (fresh_turn c (ways c s)) (fresh_even asked c s within) least most done now next to few led on)

pub repeat_done : (asked : List Bool) (c : Tree) (s : List ℕ) (least : ℕ) (most given : Option ℕ) (done : ℕ)
    (from now slice to : List Way)
    → slice ≡ now → given ≡ most → least ≤ done → done ≤ least
    → ((to : List Way) → ((k : ℕ) → Leads asked (turns k (fresh_turn c (ways c s)) least given done) now to)
    → (k : ℕ) → Leads asked (turns k (fresh_turn c (ways c s)) least given 0) from to)
    → ((k : ℕ) → Leads asked (turns k (fresh_turn c (ways c s)) least most least) slice to)
    → Leads asked (ways (Repeat least given c) s) from to
repeat_done asked c s least most given done from now slice to read same enough most_done cont led =
    let all : least ≡ done = omega arith in
    repeat_leads asked c least given s from to (cont to (λ k.
    subst (λ o. Leads asked (turns k (fresh_turn c (ways c s)) least o done) now to) (sym same)
    (subst (λ d. Leads asked (turns k (fresh_turn c (ways c s)) least most d) now to) all
    (subst (λ l. Leads asked (turns k (fresh_turn c (ways c s)) least most least) l to) read (led k)))))

-- a list of none
pub none_left : (n : ℕ) → true ≡ eqb n 0 → n ≡ 0
none_left n e = grind (arith, nat_tests)

-- what a copy leads to
pub from_copied : (P : List Way → Type 0) (none now from : List Way) → none ≡ [] → now ≡ none ++ from → P now → P from
from_copied P none now from empty put p = subst P (put ∙ ap (λ l. l ++ from) empty) p

-- what is found where nothing was
pub found_known : (asked : List Bool) (ws none out found all : List Way) → none ≡ [] → out ≡ none ++ ws → found ≡ out
    → AreKnown asked all found → AreKnown asked all ws
found_known asked ws none out found all empty put read known =
    subst (AreKnown asked all) (read ∙ put ∙ ap (λ l. l ++ ws) empty) known

-- a part weighs no more than all
pub row_falls : (a b t : ℕ) → t ≡ 4 * b + 3 → a ≤ b → 4 * a < t
row_falls a b t e le = omega (arith, e, le)

-- the turns that may come, up to the most
pub up_to_begins : (asked : List Bool) (turn : Body) (least most : ℕ) (from now to : List Way) → now ≡ from
    → ((k : ℕ) → Leads asked (turns k turn least (Some most) (least + 0)) now to)
    → (k : ℕ) → Leads asked (turns k turn least (Some most) least) from to
up_to_begins asked turn least most from now to same led k =
    let none : least + 0 ≡ least = omega arith in
    subst (λ n. Leads asked (turns k turn least (Some most) n) from to) none
    (subst (λ l. Leads asked (turns k turn least (Some most) (least + 0)) l to) same (led k))

-- one of the turns that may come, up to the most
pub up_to_next : (asked : List Bool) (c : Tree) (s : List ℕ) → RefersWithin asked c → (least most passed : ℕ)
    (from now next all all' more : List Way)
    → all' ≡ all ++ more → AreKnown asked all' next → Leads asked (fresh_turn c (ways c s)) now next → AreKnown asked all now
    → ((to : List Way) → AreKnown asked to all
    → ((k : ℕ) → Leads asked (turns k (fresh_turn c (ways c s)) least (Some most) (least + passed)) now to)
    → (k : ℕ) → Leads asked (turns k (fresh_turn c (ways c s)) least (Some most) least) from to)
    → (to : List Way) → AreKnown asked to all'
    → ((k : ℕ) → Leads asked (turns k (fresh_turn c (ways c s)) least (Some most) (least + (passed + 1))) next to)
    → (k : ℕ) → Leads asked (turns k (fresh_turn c (ways c s)) least (Some most) least) from to
up_to_next asked c s within least most passed from now next all all' more grow known led here cont to ended on =
    let turn = fresh_turn c (ways c s) in
    let whole : AreKnown asked to (all ++ more) = subst (AreKnown asked to) grow ended in
    let first = each_head (HasAlike asked to) all more whole in
    let count : least + (passed + 1) ≡ least + passed + 1 = omega arith in
    cont to first (later_turn asked turn (fresh_even asked c s within) least (Some most) (least + passed) now next to
    (through to all now here first) led (through to all' next known ended)
    (λ k. subst (λ n. Leads asked (turns k turn least (Some most) n) next to) count (on k)))
  where
    through : (to all ws : List Way) → AreKnown asked all ws → AreKnown asked to all → AreKnown asked to ws
    through to all ws h i = known_known asked to all ws h i

pub up_to_done : (asked : List Bool) (c : Tree) (s : List ℕ) → RefersWithin asked c → (least most passed : ℕ) (from now all : List Way)
    → most - least ≤ passed → AreKnown asked all now
    → ((to : List Way) → AreKnown asked to all
    → ((k : ℕ) → Leads asked (turns k (fresh_turn c (ways c s)) least (Some most) (least + passed)) now to)
    → (k : ℕ) → Leads asked (turns k (fresh_turn c (ways c s)) least (Some most) least) from to)
    → (k : ℕ) → Leads asked (turns k (fresh_turn c (ways c s)) least (Some most) least) from all
up_to_done asked c s within least most passed from now all le here cont =
    let none : ltb (least + passed) most ≡ false = grind (arith, nat_tests) in
    cont all (known_itself asked all) (last_turn asked (fresh_turn c (ways c s)) (fresh_even asked c s within) least (Some most)
    (least + passed) now all none here)

-- Starts

pub none_more : (t : Tree) (s : List ℕ) (low at : ℕ) → NoneBetween t s low at → longest_from t s at ≡ None → NoneBetween t s low (at + 1)
none_more t s low at none here start le lt = by_cases (ltb start at) refl
  where
    by_cases : (b : Bool) → ltb start at ≡ b → longest_from t s start ≡ None
    by_cases true e = none start le (grind (arith, nat_tests))
    by_cases false e =
        let same : at ≡ start = grind (arith, nat_tests) in
        subst (λ p. longest_from t s p ≡ None) same here

pub none_joined : (t : Tree) (s : List ℕ) (low middle high : ℕ) → NoneBetween t s low middle → NoneBetween t s middle high
    → NoneBetween t s low high
none_joined t s low middle high one other start le lt = by_cases (ltb start middle) refl
  where
    by_cases : (b : Bool) → ltb start middle ≡ b → longest_from t s start ≡ None
    by_cases true e = one start le (grind (arith, nat_tests))
    by_cases false e = other start (grind (arith, nat_tests)) lt

pub start_put : (t : Tree) (s : List ℕ) (low at : ℕ) (all all' : List Way) → all' ≡ all ++ (at, no_groups) ∷ []
    → (Each (λ w. ways t s w.0 w.1 ≡ []) all → NoneBetween t s low at)
    → Each (λ w. ways t s w.0 w.1 ≡ []) all' → NoneBetween t s low (at + 1)
start_put t s low at all all' put none each =
    let P : Way → Type 0 = λ w. ways t s w.0 w.1 ≡ [] in
    let whole : Each P (all ++ (at, no_groups) ∷ []) = subst (Each P) put each in
    let here : ways t s at no_groups ≡ [] = (each_rest P all ((at, no_groups) ∷ []) whole).0 in
    none_more t s low at (none (each_head P all ((at, no_groups) ∷ []) whole)) (ap (λ l. first (by_end l)) here)

pub starts_passed : (t : Tree) (s : List ℕ) (start later : ℕ) → start ≤ later → later ≤ length s + 1
    → NoneBetween t s start later
    → match_among (length s + 1 - start) t s start ≡ match_among (length s + 1 - later) t s later
starts_passed t s start later le within none = by_cases (later - start) refl
  where
    by_cases : (d : ℕ) → later - start ≡ d
        → match_among (length s + 1 - start) t s start ≡ match_among (length s + 1 - later) t s later
    by_cases zero e =
        let same : start ≡ later = omega arith in
        ap (λ p. match_among (length s + 1 - p) t s p) same
    by_cases (suc k) e =
        skip_starts k (length s + 1 - later) (length s + 1 - start) t s start later (omega arith) (omega arith)
        (λ j f. none (start + j) (omega arith) (omega arith))
