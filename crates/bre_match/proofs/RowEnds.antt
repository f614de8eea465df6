-- What is told of a row's end holds of its ways.
use Rattle.std.proofs.Common.{◌≡◌, ℕ, zero, suc, ◌+◌, ◌-◌, ◌<◌, ◌≤◌, Bool, true, false, List, [], ◌∷◌, ◌++◌, flat_map, length, drop, take, get_or, Option, Some, None, leb, refl, ap, sym, ◌∙◌, subst, append-nil, arith}
use Rattle.std.proofs.lemmas.Bool.Decides.{nat_tests}
use Rattle.std.proofs.lemmas.List.{take_all, length-drop}
use Rattle.std.specs.Prelude.{nat_eq, slice_get}
use Rattle.bre_parse.specs.declared.tree.Node.{Node}
use Rattle.bre_parse.specs.Tree.{Tree, Empty, Then, Set, TextStart, TextEnd, BackReference, Group, Repeat, tree_of, sequence_of}
use Rattle.bre_parse.specs.Groups.{Groups, no_groups}
use Rattle.bre_parse.specs.Ways.{Way, ways, by_end, from_way, only_if, has_byte_in}
use Rattle.bre_parse.specs.Match.{first, longest_from, or_later, match_among, match_from}
use Rattle.bre_parse.specs.Laws.{EndBetween}
use Rattle.bre_parse.proofs.Sequences.{sequence_of-drop, sequence_of-all}
use Rattle.bre_parse.proofs.Within.{in_append}
use Rattle.bre_match.specs.declared.row_end.RowEnd.{RowEnd}
use Rattle.bre_match.specs.declared.row_end.RowEnd.TheVariants as row
use Rattle.bre_match.specs.declared.row_search.RowMatch.TheVariants as matched
use Rattle.bre_match.specs.Runs.{closed, shorter_ways, members}
use Rattle.bre_match.specs.Starts.{one_byte_of}
use Rattle.bre_match.specs.RowEnds.{end_if, after_end, or_other, step_end, fixed_end, last_end, counts_of, repeat_of_set, after_bytes, item_end, row_end, EndsAs, TellsMatch}
use Rattle.bre_match.proofs.PartKinds.{one_byte_is}
use Rattle.bre_match.proofs.Rows.{bytes_row, row_there, row_none, by_end_shorter}
use Rattle.bre_match.proofs.Sorting.{longest_first}
use Rattle.bre_match.proofs.Starts.{stays_best, longest_within}

-- the only way ends as told
abbrev Alone : RowEnd → Groups → List Way → Type 0
Alone (row.At q) g ws = ws ≡ (q, g) ∷ []
Alone row.Nowhere g ws = ws ≡ []
Alone row.Untold g ws = Unit {0}

-- the longest way ends as told
abbrev Longest : RowEnd → Groups → List Way → Type 0
Longest (row.At q) g ws = first (by_end ws) ≡ Some (q, g)
Longest row.Nowhere g ws = ws ≡ []
Longest row.Untold g ws = Unit {0}

alone_longest : (how : RowEnd) (g : Groups) (ws : List Way) → Alone how g ws → Longest how g ws
alone_longest (row.At q) g ws h = ap (λ l. first (by_end l)) h
alone_longest row.Nowhere g ws h = h
alone_longest row.Untold g ws h = tt

-- one byte or an anchor

only_as_told : (b : Bool) (q : ℕ) (g : Groups) → Alone (end_if b (row.At q)) g (only_if b (q, g))
only_as_told true q g = refl
only_as_told false q g = refl

step_alone : (a : Tree) (s : List ℕ) (p : ℕ) (g : Groups) → Alone (step_end a s p) g (ways a s p g)
step_alone (Set n rs) s p g = only_as_told (has_byte_in n rs (slice_get s p)) (p + 1) g
step_alone TextStart s p g = only_as_told (nat_eq p 0) p g
step_alone TextEnd s p g = only_as_told (nat_eq p (length s)) p g
step_alone Empty s p g = tt
step_alone (Then a b) s p g = tt
step_alone (BackReference i) s p g = tt
step_alone (Group i a) s p g = tt
step_alone (Repeat l m a) s p g = tt

-- what stands after the only way of a part
after_alone : (how : RowEnd) (a b : Tree) (s : List ℕ) (p q : ℕ) (g : Groups) → ways a s p g ≡ (q, g) ∷ [] → Alone how g (ways b s q g) → Alone how g (ways (Then a b) s p g)
after_alone how a b s p q g e h =
    let f : ways (Then a b) s p g ≡ ways b s q g = ap (λ l. flat_map (from_way (ways b s)) (by_end l)) e ∙ append-nil (ways b s q g) in
    subst (Alone how g) (sym f) h

after_longest : (how : RowEnd) (a b : Tree) (s : List ℕ) (p q : ℕ) (g : Groups) → ways a s p g ≡ (q, g) ∷ [] → Longest how g (ways b s q g) → Longest how g (ways (Then a b) s p g)
after_longest how a b s p q g e h =
    let f : ways (Then a b) s p g ≡ ways b s q g = ap (λ l. flat_map (from_way (ways b s)) (by_end l)) e ∙ append-nil (ways b s q g) in
    subst (Longest how g) (sym f) h

after_none : (a b : Tree) (s : List ℕ) (p : ℕ) (g : Groups) → ways a s p g ≡ [] → ways (Then a b) s p g ≡ []
after_none a b s p g e = ap (λ l. flat_map (from_way (ways b s)) (by_end l)) e

fixed_alone : (t : Tree) (s : List ℕ) (p : ℕ) (g : Groups) → Alone (fixed_end t s p) g (ways t s p g)
fixed_alone (Then a b) s p g = by_step (step_end a s p) (step_alone a s p g) (λ q. fixed_alone b s q g)
  where
    by_step : (how : RowEnd) → Alone how g (ways a s p g) → ((q : ℕ) → Alone (fixed_end b s q) g (ways b s q g)) → Alone (after_end how (fixed_end b s)) g (ways (Then a b) s p g)
    by_step (row.At q) e rest = after_alone (fixed_end b s q) a b s p q g e (rest q)
    by_step row.Nowhere e rest = after_none a b s p g e
    by_step row.Untold e rest = tt
fixed_alone Empty s p g = refl
fixed_alone (Set n rs) s p g = tt
fixed_alone TextStart s p g = tt
fixed_alone TextEnd s p g = tt
fixed_alone (BackReference i) s p g = tt
fixed_alone (Group i a) s p g = tt
fixed_alone (Repeat l m a) s p g = tt

-- From an earlier place bytes and anchors end no later.

low_only : (b : Bool) (high q p : ℕ) (g : Groups) (f : Way → List Way) → q ≤ p → ((r : ℕ) → r ≤ p → EndBetween 0 high (f (r, g))) → EndBetween 0 high (flat_map f (by_end (only_if b (q, g))))
low_only true high q p g f le h = in_append 0 high (f (q, g)) [] (h q le) tt
low_only false high q p g f le h = tt

end_at : (b : Bool) (p q : ℕ) → end_if b (row.At p) ≡ row.At q → p ≡ q
end_at true p q e = cc
end_at false p q e = absurd cc

step_earlier : (a : Tree) (s : List ℕ) (p e q high : ℕ) (g : Groups) (f : Way → List Way) → p ≤ e → step_end a s e ≡ row.At q → ((r : ℕ) → r ≤ q → EndBetween 0 high (f (r, g))) → EndBetween 0 high (flat_map f (by_end (ways a s p g)))
step_earlier (Set n rs) s p e q high g f le is h =
    let same = end_at (has_byte_in n rs (slice_get s e)) (e + 1) q is in
    low_only (has_byte_in n rs (slice_get s p)) high (p + 1) q g f (omega arith) h
step_earlier TextStart s p e q high g f le is h =
    let same = end_at (nat_eq e 0) e q is in
    low_only (nat_eq p 0) high p q g f (omega arith) h
step_earlier TextEnd s p e q high g f le is h =
    let same = end_at (nat_eq e (length s)) e q is in
    low_only (nat_eq p (length s)) high p q g f (omega arith) h
step_earlier Empty s p e q high g f le is h = absurd cc
step_earlier (Then a b) s p e q high g f le is h = absurd cc
step_earlier (BackReference i) s p e q high g f le is h = absurd cc
step_earlier (Group i a) s p e q high g f le is h = absurd cc
step_earlier (Repeat l m a) s p e q high g f le is h = absurd cc

fixed_earlier : (t : Tree) (s : List ℕ) (p e q : ℕ) (g : Groups) → p ≤ e → fixed_end t s e ≡ row.At q → EndBetween 0 q (ways t s p g)
fixed_earlier (Then a b) s p e q g le is = by_step (step_end a s e) refl is (λ r m low told. fixed_earlier b s r m q g low told)
  where
    by_step : (how : RowEnd) → step_end a s e ≡ how → after_end how (fixed_end b s) ≡ row.At q → ((r m : ℕ) → r ≤ m → fixed_end b s m ≡ row.At q → EndBetween 0 q (ways b s r g)) → EndBetween 0 q (ways (Then a b) s p g)
    by_step (row.At m) step told rest =
        step_earlier a s p e m q g (from_way (ways b s)) le step (λ r low. rest r m low told)
    by_step row.Nowhere step told rest = absurd cc
    by_step row.Untold step told rest = absurd cc
fixed_earlier Empty s p e q g le is = let same : e ≡ q = cc in (omega arith, omega arith, tt)
fixed_earlier (Set n rs) s p e q g le is = absurd cc
fixed_earlier TextStart s p e q g le is = absurd cc
fixed_earlier TextEnd s p e q g le is = absurd cc
fixed_earlier (BackReference i) s p e q g le is = absurd cc
fixed_earlier (Group i a) s p e q g le is = absurd cc
fixed_earlier (Repeat l m a) s p e q g le is = absurd cc

-- The last end of a run from which the rest leads on

shorter_earlier : (t : Tree) (s : List ℕ) (p e n q : ℕ) (g : Groups) → p ≤ e → fixed_end t s e ≡ row.At q → EndBetween 0 q (flat_map (from_way (ways t s)) (shorter_ways p n (closed None g)))
shorter_earlier t s p e zero q g le is = in_append 0 q (ways t s p g) [] (fixed_earlier t s p e q g le is) tt
shorter_earlier t s p e (suc n) q g le is =
    in_append 0 q (ways t s p g) (flat_map (from_way (ways t s)) (shorter_ways (p - 1) n (closed None g)))
    (fixed_earlier t s p e q g le is) (shorter_earlier t s (p - 1) e n q g (omega arith) is)

first_is_longest : (q : ℕ) (g : Groups) (ws vs : List Way) → ws ≡ (q, g) ∷ [] → EndBetween 0 q vs → first (by_end (ws ++ vs)) ≡ Some (q, g)
first_is_longest q g ws vs e h =
    ap (λ l. first (by_end (l ++ vs))) e
    ∙ sym (longest_first ((q, g) ∷ vs))
    ∙ stays_best (q, g) 0 q vs (omega arith) h

last_longest : (t : Tree) (s : List ℕ) (p n : ℕ) (g : Groups) → Longest (last_end (fixed_end t s) p n) g (flat_map (from_way (ways t s)) (shorter_ways p n (closed None g)))
last_longest t s p zero g =
    subst (Longest (fixed_end t s p) g) (sym (append-nil (ways t s p g)))
    (alone_longest (fixed_end t s p) g (ways t s p g) (fixed_alone t s p g))
last_longest t s p (suc n) g = by_end_here (fixed_end t s p) refl (fixed_alone t s p g) (last_longest t s (p - 1) n g)
  where
    by_end_here : (how : RowEnd) → fixed_end t s p ≡ how → Alone how g (ways t s p g) → Longest (last_end (fixed_end t s) (p - 1) n) g (flat_map (from_way (ways t s)) (shorter_ways (p - 1) n (closed None g))) → Longest (or_other how (last_end (fixed_end t s) (p - 1) n)) g (flat_map (from_way (ways t s)) (shorter_ways p (suc n) (closed None g)))
    by_end_here (row.At q) is alone later =
        first_is_longest q g (ways t s p g) (flat_map (from_way (ways t s)) (shorter_ways (p - 1) n (closed None g))) alone (shorter_earlier t s (p - 1) p n q g (omega arith) is)
    by_end_here row.Nowhere is alone later =
        subst (λ ws. Longest (last_end (fixed_end t s) (p - 1) n) g (ws ++ flat_map (from_way (ways t s)) (shorter_ways (p - 1) n (closed None g)))) (sym alone) later
    by_end_here row.Untold is alone later = tt

-- A repeat of a set and what stands after it

bytes_longest : (t : Tree) (s : List ℕ) (p least : ℕ) (most : Option ℕ) (n : Bool) (rs : List (ℕ × ℕ)) (g : Groups) → Longest (after_bytes least (members most 0 n rs (drop p s)) (fixed_end t s) p) g (ways (Then (Repeat least most (Set n rs)) t) s p g)
bytes_longest t s p least most n rs g = by_count (leb least (members most 0 n rs (drop p s))) refl
  where
    by_count : (b : Bool) → leb least (members most 0 n rs (drop p s)) ≡ b → Longest (end_if b (last_end (fixed_end t s) (p + members most 0 n rs (drop p s)) (members most 0 n rs (drop p s) - least))) g (ways (Then (Repeat least most (Set n rs)) t) s p g)
    by_count true b =
        let m = members most 0 n rs (drop p s) in
        let le : least ≤ m = grind (arith, nat_tests) in
        let listed : by_end (ways (Repeat least most (Set n rs)) s p g) ≡ shorter_ways (p + m) (m - least) (closed None g) =
        ap by_end (bytes_row s n rs least most p g ∙ row_there least p m g le) ∙ by_end_shorter (p + m) (m - least) (closed None g) in
        subst (λ ws. Longest (last_end (fixed_end t s) (p + m) (m - least)) g (flat_map (from_way (ways t s)) ws)) (sym listed) (last_longest t s (p + m) (m - least) g)
    by_count false b =
        let m = members most 0 n rs (drop p s) in
        let lt : m < least = grind (arith, nat_tests) in
        after_none (Repeat least most (Set n rs)) t s p g (bytes_row s n rs least most p g ∙ row_none least p m g lt)

repeat_longest : (a t : Tree) (s : List ℕ) (p : ℕ) (bytes : ℕ × Option ℕ × (Bool × List (ℕ × ℕ))) (g : Groups) → repeat_of_set a ≡ Some bytes → Longest (after_bytes bytes.0 (members bytes.1 0 bytes.2.0 bytes.2.1 (drop p s)) (fixed_end t s) p) g (ways (Then a t) s p g)
repeat_longest (Repeat least most content) t s p bytes g is = by_set (one_byte_of content) refl is
  where
    by_set : (set : Option (Bool × List (ℕ × ℕ))) → one_byte_of content ≡ set → counts_of least most set ≡ Some bytes → Longest (after_bytes bytes.0 (members bytes.1 0 bytes.2.0 bytes.2.1 (drop p s)) (fixed_end t s) p) g (ways (Then (Repeat least most content) t) s p g)
    by_set None e told = absurd cc
    by_set (Some set) e told =
        let told_is : (least, most, set) ≡ bytes = cc in
        subst (λ (b : ℕ × Option ℕ × (Bool × List (ℕ × ℕ))). Longest (after_bytes b.0 (members b.1 0 b.2.0 b.2.1 (drop p s)) (fixed_end t s) p) g (ways (Then (Repeat least most content) t) s p g)) told_is
        (subst (λ (c : Tree). Longest (after_bytes least (members most 0 set.0 set.1 (drop p s)) (fixed_end t s) p) g (ways (Then (Repeat least most c) t) s p g)) (sym (one_byte_is content set.0 set.1 (sym e)))
        (bytes_longest t s p least most set.0 set.1 g))
repeat_longest Empty t s p bytes g is = absurd cc
repeat_longest (Then a b) t s p bytes g is = absurd cc
repeat_longest (Set n rs) t s p bytes g is = absurd cc
repeat_longest TextStart t s p bytes g is = absurd cc
repeat_longest TextEnd t s p bytes g is = absurd cc
repeat_longest (BackReference i) t s p bytes g is = absurd cc
repeat_longest (Group i a) t s p bytes g is = absurd cc

row_longest : (t : Tree) (s : List ℕ) (p : ℕ) (g : Groups) → Longest (row_end t s p) g (ways t s p g)
row_longest (Then a b) s p g = by_repeat (repeat_of_set a) refl (λ q. row_longest b s q g)
  where
    by_step : (how : RowEnd) → Alone how g (ways a s p g) → ((q : ℕ) → Longest (row_end b s q) g (ways b s q g)) → Longest (after_end how (row_end b s)) g (ways (Then a b) s p g)
    by_step (row.At q) e rest = after_longest (row_end b s q) a b s p q g e (rest q)
    by_step row.Nowhere e rest = after_none a b s p g e
    by_step row.Untold e rest = tt

    by_repeat : (bytes : Option (ℕ × Option ℕ × (Bool × List (ℕ × ℕ)))) → repeat_of_set a ≡ bytes → ((q : ℕ) → Longest (row_end b s q) g (ways b s q g)) → Longest (item_end bytes a (fixed_end b s) (row_end b s) s p) g (ways (Then a b) s p g)
    by_repeat None is rest = by_step (step_end a s p) (step_alone a s p g) rest
    by_repeat (Some bytes) is rest = repeat_longest a b s p bytes g is
row_longest Empty s p g = refl
row_longest (Set n rs) s p g = tt
row_longest TextStart s p g = tt
row_longest TextEnd s p g = tt
row_longest (BackReference i) s p g = tt
row_longest (Group i a) s p g = tt
row_longest (Repeat l m a) s p g = tt

longest_told : (how : RowEnd) (ws : List Way) → Longest how no_groups ws → EndsAs how (first (by_end ws))
longest_told (row.At q) ws h = h
longest_told row.Nowhere ws h = ap (λ l. first (by_end l)) h
longest_told row.Untold ws h = tt

pub row_told : (t : Tree) (s : List ℕ) (p : ℕ) (how : RowEnd) → how ≡ row_end t s p → EndsAs how (longest_from t s p)
row_told t s p how e =
    subst (λ h. EndsAs h (longest_from t s p)) (sym e) (longest_told (row_end t s p) (ways t s p no_groups) (row_longest t s p no_groups))

-- Item after item

pub fixed_step : (items : List Node) (i : ℕ) (item : Node) (s : List ℕ) (at : ℕ) (how whole : RowEnd) → i < length items → item ≡ get_or items i item → how ≡ step_end (tree_of item) s at → fixed_end (sequence_of (drop i items)) s at ≡ whole → after_end how (fixed_end (sequence_of (drop (i + 1) items)) s) ≡ whole
fixed_step items i item s at how whole lt there is so_far =
    ap (λ h. after_end h (fixed_end (sequence_of (drop (i + 1) items)) s)) is
    ∙ sym (ap (λ t. fixed_end t s at) (sequence_of-drop items i item lt there))
    ∙ so_far

pub fixed_done : (items : List Node) (i : ℕ) (s : List ℕ) (at : ℕ) (whole : RowEnd) → length items ≤ i → fixed_end (sequence_of (drop i items)) s at ≡ whole → row.At at ≡ whole
fixed_done items i s at whole le so_far =
    sym (ap (λ t. fixed_end t s at) (sequence_of-all items i le)) ∙ so_far

pub row_step : (items : List Node) (i : ℕ) (item : Node) (s : List ℕ) (at : ℕ) (how whole : RowEnd) → i < length items → item ≡ get_or items i item → None ≡ repeat_of_set (tree_of item) → how ≡ step_end (tree_of item) s at → row_end (sequence_of (drop i items)) s at ≡ whole → after_end how (row_end (sequence_of (drop (i + 1) items)) s) ≡ whole
row_step items i item s at how whole lt there none is so_far =
    let rest = sequence_of (drop (i + 1) items) in
    ap (λ h. after_end h (row_end rest s)) is
    ∙ ap (λ b. item_end b (tree_of item) (fixed_end rest s) (row_end rest s) s at) none
    ∙ sym (ap (λ t. row_end t s at) (sequence_of-drop items i item lt there))
    ∙ so_far

pub row_done : (items : List Node) (i : ℕ) (s : List ℕ) (at : ℕ) (whole : RowEnd) → length items ≤ i → row_end (sequence_of (drop i items)) s at ≡ whole → row.At at ≡ whole
row_done items i s at whole le so_far =
    sym (ap (λ t. row_end t s at) (sequence_of-all items i le)) ∙ so_far

pub row_after_bytes : (items : List Node) (i : ℕ) (item : Node) (s : List ℕ) (at least : ℕ) (most : Option ℕ) (n : Bool) (rs : List (ℕ × ℕ)) (how whole : RowEnd) → i < length items → item ≡ get_or items i item → Some (least, most, (n, rs)) ≡ repeat_of_set (tree_of item) → how ≡ after_bytes least (members most 0 n rs (drop at s)) (fixed_end (sequence_of (take (length items - (i + 1)) (drop (i + 1) items))) s) at → row_end (sequence_of (drop i items)) s at ≡ whole → how ≡ whole
row_after_bytes items i item s at least most n rs how whole lt there told is so_far =
    let rest = sequence_of (drop (i + 1) items) in
    let all : take (length items - (i + 1)) (drop (i + 1) items) ≡ drop (i + 1) items =
    take_all (length items - (i + 1)) (drop (i + 1) items) (let m = length-drop (i + 1) items in omega arith) in
    is
    ∙ ap (λ l. after_bytes least (members most 0 n rs (drop at s)) (fixed_end (sequence_of l) s) at) all
    ∙ ap (λ b. item_end b (tree_of item) (fixed_end rest s) (row_end rest s) s at) told
    ∙ sym (ap (λ t. row_end t s at) (sequence_of-drop items i item lt there))
    ∙ so_far

-- One place before is left to try.
pub next_before : (rest : ℕ → RowEnd) (at before more passed : ℕ) (whole : RowEnd) → passed < more → before ≡ at - 1 → row.Nowhere ≡ rest at → last_end rest at (more - passed) ≡ whole → last_end rest before (more - (passed + 1)) ≡ whole
next_before rest at before more passed whole lt is none so_far =
    let left : more - passed ≡ suc (more - (passed + 1)) = omega arith in
    ap (λ p. last_end rest p (more - (passed + 1))) is
    ∙ ap (λ h. or_other h (last_end rest (at - 1) (more - (passed + 1)))) none
    ∙ sym (ap (last_end rest at) left)
    ∙ so_far

-- From one start to the next

pub match_later : (t : Tree) (s : List ℕ) (from start : ℕ) → from ≤ start → start ≤ length s → match_from t s from ≡ match_among (length s + 1 - start) t s start → TellsMatch (matched.Untold start) t s from
match_later t s from start low high left =
    let count : suc (length s - start) ≡ length s + 1 - start = omega arith in
    (ap (λ n. match_among n t s start) count ∙ sym left, low, high)

pub match_here : (t : Tree) (s : List ℕ) (from start end : ℕ) → from ≤ start → start ≤ length s → longest_from t s start ≡ Some (end, no_groups) → match_from t s from ≡ match_among (length s + 1 - start) t s start → TellsMatch (matched.At start end) t s from
match_here t s from start end low high here left =
    let count : length s + 1 - start ≡ suc (length s - start) = omega arith in
    let within = longest_within t s start (end, no_groups) high (sym here) in
    (left ∙ ap (λ n. match_among n t s start) count ∙ ap (λ w. or_later w start (match_among (length s - start) t s (start + 1))) here, low, within.0, within.1)
