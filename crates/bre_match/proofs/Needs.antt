-- Where a sequence lacks bytes that it needs, it has no way.
use Rattle.std.proofs.Common.{◌≡◌, ◌≢◌, ltb, ℕ, zero, suc, ◌+◌, ◌-◌, ◌<◌, ◌≤◌, Bool, true, false, List, [], ◌∷◌, ◌++◌, flat_map, length, drop, take, get_or, Option, Some, None, refl, ap, sym, ◌∙◌, subst, append-nil, arith}
use Rattle.std.specs.Prelude.{slice_get, slice_index, nat_le, ◌&&◌, ◌||◌, ◌==◌, option_map}
use Rattle.std.proofs.lemmas.Bool.Decides.{nat_tests}
use Rattle.std.proofs.lemmas.List.{drop-drop}
use Rattle.std.specs.List.{list_any}
use Rattle.memchr.specs.Find.{IsFirstByte, is_byte}
use Rattle.bre_parse.specs.declared.tree.Node.{Node}
use Rattle.bre_parse.specs.Tree.{Tree, Empty, Then, Set, TextStart, TextEnd, BackReference, Group, Repeat, in_set, tree_of, sequence_of}
use Rattle.bre_parse.proofs.Sequences.{sequence_of-drop, sequence_of-all}
use Rattle.bre_parse.specs.Groups.{Groups, no_groups}
use Rattle.bre_parse.specs.Ways.{Way, ways, by_end, from_way, only_if, has_byte_in}
use Rattle.bre_parse.specs.Match.{first, longest_from, match_among, match_from}
use Rattle.bre_parse.specs.Laws.{EndBetween}
use Rattle.bre_parse.proofs.Within.{byte_there, in_by_end, ways_end_within}
use Rattle.bre_match.specs.Laws.{Has}
use Rattle.bre_match.specs.Starts.{one_byte_of}
use Rattle.bre_match.specs.Needs.{after_if, after_first, after_item, lacks_after, lacks_needed}
use Rattle.bre_match.proofs.FirstWay.{match_absent}
use Rattle.bre_match.proofs.Starts.{skip_starts}

-- the first byte of a set is no later than any other
least_after : (n : Bool) (rs : List (ℕ × ℕ)) (at k : ℕ) (bytes : List ℕ) → has_byte_in n rs (slice_get bytes k) ≡ true → (p : ℕ) × (after_first n rs at bytes ≡ Some p) × (p ≤ at + k + 1)
least_after n rs at k [] h = absurd cc
least_after n rs at zero (byte ∷ bytes) h =
    (at + 1, ap (λ c. after_if c at (after_first n rs (at + 1) bytes)) h, omega arith)
least_after n rs at (suc k) (byte ∷ bytes) h = by_cases (in_set n rs byte) (least_after n rs (at + 1) k bytes h)
  where
    by_cases : (c : Bool) → ((p : ℕ) × (after_first n rs (at + 1) bytes ≡ Some p) × (p ≤ at + 1 + k + 1)) → (p : ℕ) × (after_if c at (after_first n rs (at + 1) bytes) ≡ Some p) × (p ≤ at + suc k + 1)
    by_cases true i = (at + 1, refl, omega arith)
    by_cases false i = (i.0, i.1, let l = i.2 in omega arith)

-- a byte that none is
none_there : (n : Bool) (rs : List (ℕ × ℕ)) (at : ℕ) (bytes : List ℕ) → ((k : ℕ) → k < length bytes → in_set n rs (slice_index bytes k) ≡ false) → after_first n rs at bytes ≡ None
none_there n rs at [] h = refl
none_there n rs at (byte ∷ bytes) h =
    ap (λ c. after_if c at (after_first n rs (at + 1) bytes)) (h 0 (omega arith))
    ∙ none_there n rs (at + 1) bytes (λ k lt. h (suc k) (omega arith))

first_there : (n : Bool) (rs : List (ℕ × ℕ)) (at k : ℕ) (bytes : List ℕ) → k < length bytes → in_set n rs (slice_index bytes k) ≡ true → ((j : ℕ) → j < k → in_set n rs (slice_index bytes j) ≡ false) → after_first n rs at bytes ≡ Some (at + k + 1)
first_there n rs at k [] lt is before = absurd (omega arith)
first_there n rs at zero (byte ∷ bytes) lt is before =
    ap (λ c. after_if c at (after_first n rs (at + 1) bytes)) is
    ∙ ap Some (let e : at + 1 ≡ at + 0 + 1 = omega arith in e)
first_there n rs at (suc k) (byte ∷ bytes) lt is before =
    ap (λ c. after_if c at (after_first n rs (at + 1) bytes)) (before 0 (omega arith))
    ∙ first_there n rs (at + 1) k bytes (omega arith) is (λ j l. before (suc j) (omega arith))
    ∙ ap Some (let e : at + 1 + k + 1 ≡ at + suc k + 1 = omega arith in e)

pub one_range : (low high byte : ℕ) → in_set false ((low, high) ∷ []) byte ≡ (nat_le low byte && nat_le byte high)
one_range low high byte = by_cases (nat_le low byte && nat_le byte high)
  where
    by_cases : (c : Bool) → (c || false) ≡ c
    by_cases true = refl
    by_cases false = refl

same_byte : (byte other : ℕ) → (other == byte) ≡ true → in_set false ((byte, byte) ∷ []) other ≡ true
same_byte byte other e = one_range byte byte other ∙ grind (arith, nat_tests)

pub other_byte : (byte other : ℕ) → ¬ ((other == byte) ≡ true) → in_set false ((byte, byte) ∷ []) other ≡ false
other_byte byte other e = one_range byte byte other ∙ grind (arith, nat_tests)

-- What a search for a byte finds
pub byte_found : (byte at : ℕ) (bytes : List ℕ) (found : Option ℕ) → IsFirstByte (is_byte byte) bytes found → after_first false ((byte, byte) ∷ []) at bytes ≡ option_map (λ k. at + k + 1) found
byte_found byte at bytes None h =
    none_there false ((byte, byte) ∷ []) at bytes (λ k lt. other_byte byte (slice_index bytes k) (h k (omega arith) lt))
byte_found byte at bytes (Some k) h =
    let before = h.0 in
    first_there false ((byte, byte) ∷ []) at k bytes before.high (same_byte byte (slice_index bytes k) h.1) (λ j l. other_byte byte (slice_index bytes j) (before.before j (omega arith) l))

get_dropped : (s : List ℕ) (from k : ℕ) → slice_get (drop from s) k ≡ slice_get s (from + k)
get_dropped s zero k = ap (slice_get s) (let e : k ≡ 0 + k = omega arith in e)
get_dropped [] (suc from) k = refl
get_dropped (byte ∷ s) (suc from) k =
    let e : suc from + k ≡ suc (from + k) = omega arith in
    get_dropped s from k ∙ sym (ap (slice_get (byte ∷ s)) e)

pub none_through : (f : Way → List Way) (low high : ℕ) (ws : List Way) → EndBetween low high ws → ((w : Way) → low ≤ w.0 → w.0 ≤ high → f w ≡ []) → flat_map f ws ≡ []
none_through f low high [] b all = refl
none_through f low high (w ∷ ws) b all =
    ap (λ l. l ++ flat_map f ws) (all w b.0 b.1) ∙ none_through f low high ws b.2 all

abbrev set_told : Option (Bool × List (ℕ × ℕ)) → Tree
set_told None = Empty
set_told (Some set) = Set set.0 set.1

pub set_is : (tree : Tree) (set : Bool × List (ℕ × ℕ)) → one_byte_of tree ≡ Some set → tree ≡ Set set.0 set.1
set_is (Set n rs) set e = ap set_told e
set_is Empty set e = absurd cc
set_is (Then a b) set e = absurd cc
set_is TextStart set e = absurd cc
set_is TextEnd set e = absurd cc
set_is (BackReference i) set e = absurd cc
set_is (Group i a) set e = absurd cc
set_is (Repeat l m a) set e = absurd cc

-- no way of the rest where it lacks bytes
abbrev NoneLater : Tree → List ℕ → Type 0
NoneLater b s =
    (low q : ℕ) (h : Groups) → low ≤ q → q ≤ length s → lacks_needed b s low ≡ true → ways b s q h ≡ []

none_after_set : (n : Bool) (rs : List (ℕ × ℕ)) (b : Tree) (s : List ℕ) (from p : ℕ) (g : Groups) → from ≤ p → NoneLater b s → lacks_after (lacks_needed b s) (after_first n rs from (drop from s)) ≡ true → ways (Then (Set n rs) b) s p g ≡ []
none_after_set n rs b s from p g le rest e = by_byte (has_byte_in n rs (slice_get s p)) refl
  where
    by_byte : (there : Bool) → has_byte_in n rs (slice_get s p) ≡ there → flat_map (from_way (ways b s)) (by_end (only_if there (p + 1, g))) ≡ []
    by_byte false is = refl
    by_byte true is =
        let same : from + (p - from) ≡ p = (let h = le in omega arith) in
        let here : has_byte_in n rs (slice_get (drop from s) (p - from)) ≡ true =
        ap (has_byte_in n rs) (get_dropped s from (p - from) ∙ ap (slice_get s) same) ∙ is in
        let l = least_after n rs from (p - from) (drop from s) here in
        let lacking : lacks_needed b s l.0 ≡ true = ap (lacks_after (lacks_needed b s)) (sym l.1) ∙ e in
        let low : l.0 ≤ p + 1 = (let m = l.2 in let h = le in omega arith) in
        append-nil (ways b s (p + 1) g) ∙ rest l.0 (p + 1) g low (byte_there s p n rs is) lacking

none_of_item : (a b : Tree) (s : List ℕ) (from p : ℕ) (g : Groups) → from ≤ p → p ≤ length s → NoneLater b s → lacks_after (lacks_needed b s) (after_item (one_byte_of a) s from) ≡ true → ways (Then a b) s p g ≡ []
none_of_item a b s from p g le high rest e = by_item (one_byte_of a) refl e
  where
    by_item : (set : Option (Bool × List (ℕ × ℕ))) → one_byte_of a ≡ set → lacks_after (lacks_needed b s) (after_item set s from) ≡ true → ways (Then a b) s p g ≡ []
    by_item None is lacks =
        none_through (from_way (ways b s)) p (length s) (by_end (ways a s p g)) (in_by_end p (length s) (ways a s p g) (ways_end_within a s p g high)) (λ w lo hi. rest from w.0 w.1 (let h = le in omega arith) hi lacks)
    by_item (Some set) is lacks =
        subst (λ (x : Tree). ways (Then x b) s p g ≡ []) (sym (set_is a set is)) (none_after_set set.0 set.1 b s from p g le rest lacks)

no_way : (t : Tree) (s : List ℕ) (from p : ℕ) (g : Groups) → from ≤ p → p ≤ length s → lacks_needed t s from ≡ true → ways t s p g ≡ []
no_way (Then a b) s from p g le high e =
    none_of_item a b s from p g le high (λ low q h lo hi lacks. no_way b s low q h lo hi lacks) e
no_way Empty s from p g le high e = absurd cc
no_way (Set n rs) s from p g le high e = absurd cc
no_way TextStart s from p g le high e = absurd cc
no_way TextEnd s from p g le high e = absurd cc
no_way (BackReference i) s from p g le high e = absurd cc
no_way (Group i a) s from p g le high e = absurd cc
no_way (Repeat l m a) s from p g le high e = absurd cc

-- A sequence that lacks bytes from a place on has no match at or after it.
pub no_match : (t : Tree) (s : List ℕ) (from : ℕ) → from ≤ length s → lacks_needed t s from ≡ true → match_from t s from ≡ None
no_match t s from le e =
    match_absent t s from le (λ p m lo hi h. subst (λ (l : List Way). Has m l) (no_way t s from p no_groups lo hi e) h)

-- Item after item

what_is_left : (items : List Node) (i : ℕ) (item : Node) (s : List ℕ) (at : ℕ) → i < length items → item ≡ get_or items i item → lacks_needed (sequence_of (drop i items)) s at ≡ lacks_after (lacks_needed (sequence_of (drop (i + 1) items)) s) (after_item (one_byte_of (tree_of item)) s at)
what_is_left items i item s at lt e = ap (λ t. lacks_needed t s at) (sequence_of-drop items i item lt e)

pub item_lacks : (items : List Node) (i : ℕ) (item : Node) (s : List ℕ) (at : ℕ) (whole : Bool) → i < length items → item ≡ get_or items i item → None ≡ after_item (one_byte_of (tree_of item)) s at → lacks_needed (sequence_of (drop i items)) s at ≡ whole → true ≡ whole
item_lacks items i item s at whole lt e none so_far =
    ap (lacks_after (lacks_needed (sequence_of (drop (i + 1) items)) s)) none ∙ sym (what_is_left items i item s at lt e) ∙ so_far

pub item_there : (items : List Node) (i : ℕ) (item : Node) (s : List ℕ) (at after : ℕ) (whole : Bool) → i < length items → item ≡ get_or items i item → Some after ≡ after_item (one_byte_of (tree_of item)) s at → lacks_needed (sequence_of (drop i items)) s at ≡ whole → lacks_needed (sequence_of (drop (i + 1) items)) s after ≡ whole
item_there items i item s at after whole lt e there so_far =
    ap (lacks_after (lacks_needed (sequence_of (drop (i + 1) items)) s)) there ∙ sym (what_is_left items i item s at lt e) ∙ so_far

pub nothing_lacks : (items : List Node) (i : ℕ) (s : List ℕ) (at : ℕ) (whole : Bool) → length items ≤ i → lacks_needed (sequence_of (drop i items)) s at ≡ whole → false ≡ whole
nothing_lacks items i s at whole le so_far =
    sym (ap (λ t. lacks_needed t s at) (sequence_of-all items i le)) ∙ so_far

-- Before the first byte of the first item's set no start has a way.
pub none_before : (items : List Node) (part : Node) (s : List ℕ) (from after start : ℕ) (n : Bool) (rs : List (ℕ × ℕ)) → length items ≢ 0 → part ≡ get_or items 0 part → Some (n, rs) ≡ one_byte_of (tree_of part) → Some after ≡ after_first n rs from (drop from s) → from ≤ start → start + 1 < after → longest_from (sequence_of items) s start ≡ None
none_before [] part s from after start n rs some at is told le lt = absurd (some refl)
none_before (item ∷ items) part s from after start n rs some at is told le lt =
    let t : tree_of item ≡ Set n rs = ap tree_of (sym at) ∙ set_is (tree_of part) (n, rs) (sym is) in
    ap (λ x. longest_from (Then x (sequence_of items)) s start) t ∙ by_byte (has_byte_in n rs (slice_get s start)) refl
  where
    by_byte : (there : Bool) → has_byte_in n rs (slice_get s start) ≡ there → longest_from (Then (Set n rs) (sequence_of items)) s start ≡ None
    by_byte false e =
        ap (λ c. first (by_end (flat_map (from_way (ways (sequence_of items) s)) (by_end (only_if c (start + 1, no_groups)))))) e
    by_byte true e =
        let same : from + (start - from) ≡ start = (let h = le in omega arith) in
        let here : has_byte_in n rs (slice_get (drop from s) (start - from)) ≡ true =
        ap (has_byte_in n rs) (get_dropped s from (start - from) ∙ ap (slice_get s) same) ∙ e in
        let l = least_after n rs from (start - from) (drop from s) here in
        let both : Some after ≡ Some l.0 = told ∙ l.1 in
        let equal : after ≡ l.0 = cc in
        let early : l.0 ≤ from + (start - from) + 1 = l.2 in
        absurd (omega arith)

-- Where there is no such byte, no start has one.
pub none_without : (items : List Node) (part : Node) (s : List ℕ) (from start : ℕ) (n : Bool) (rs : List (ℕ × ℕ)) → length items ≢ 0 → part ≡ get_or items 0 part → Some (n, rs) ≡ one_byte_of (tree_of part) → None ≡ after_first n rs from (drop from s) → from ≤ start → longest_from (sequence_of items) s start ≡ None
none_without [] part s from start n rs some at is told le = absurd (some refl)
none_without (item ∷ items) part s from start n rs some at is told le =
    let t : tree_of item ≡ Set n rs = ap tree_of (sym at) ∙ set_is (tree_of part) (n, rs) (sym is) in
    ap (λ x. longest_from (Then x (sequence_of items)) s start) t ∙ by_byte (has_byte_in n rs (slice_get s start)) refl
  where
    by_byte : (there : Bool) → has_byte_in n rs (slice_get s start) ≡ there → longest_from (Then (Set n rs) (sequence_of items)) s start ≡ None
    by_byte false e =
        ap (λ c. first (by_end (flat_map (from_way (ways (sequence_of items) s)) (by_end (only_if c (start + 1, no_groups)))))) e
    by_byte true e =
        let same : from + (start - from) ≡ start = (let h = le in omega arith) in
        let here : has_byte_in n rs (slice_get (drop from s) (start - from)) ≡ true =
        ap (has_byte_in n rs) (get_dropped s from (start - from) ∙ ap (slice_get s) same) ∙ e in
        let l = least_after n rs from (start - from) (drop from s) here in
        let both = told ∙ l.1 in
        absurd cc

-- So the search may begin there.
pub passed_to : (t : Tree) (s : List ℕ) (from start : ℕ) → from ≤ start → start ≤ length s → ((k : ℕ) → from ≤ k → k < start → longest_from t s k ≡ None) → match_from t s from ≡ match_among (length s + 1 - start) t s start
passed_to t s from start le high none = by_order (ltb from start) refl
  where
    by_order : (later : Bool) → ltb from start ≡ later → match_from t s from ≡ match_among (length s + 1 - start) t s start
    by_order true e =
        let lt : from < start = grind (arith, nat_tests) in
        skip_starts (start - from - 1) (length s + 1 - start) (suc (length s - from)) t s from start (omega arith) (omega arith) (λ j small. none (from + j) (omega arith) (omega arith))
    by_order false e =
        let same : from ≡ start = grind (arith, nat_tests) in
        let count : suc (length s - from) ≡ length s + 1 - start = omega arith in
        ap (λ n. match_among n t s from) count ∙ ap (match_among (length s + 1 - start) t s) same

-- The match from there is the match from the place before.
pub match_passed_to : (t : Tree) (s : List ℕ) (from start : ℕ) → from ≤ start → start ≤ length s → ((k : ℕ) → from ≤ k → k < start → longest_from t s k ≡ None) → match_from t s start ≡ match_from t s from
match_passed_to t s from start le high none =
    let count : suc (length s - start) ≡ length s + 1 - start = omega arith in
    ap (λ n. match_among n t s start) count ∙ sym (passed_to t s from start le high none)

-- Bytes that aren't in a set are passed over.
none_among : (n : Bool) (rs : List (ℕ × ℕ)) (at k : ℕ) (bytes : List ℕ) → list_any (in_set n rs) (take k bytes) ≡ false → after_first n rs (at + k) (drop k bytes) ≡ after_first n rs at bytes
none_among n rs at zero bytes none = let same : at + 0 ≡ at = omega arith in ap (λ p. after_first n rs p bytes) same
none_among n rs at (suc k) [] none = refl
none_among n rs at (suc k) (byte ∷ bytes) none = by_cases (in_set n rs byte) refl none (λ h. none_among n rs (at + 1) k bytes h)
  where
    by_cases : (c : Bool) → in_set n rs byte ≡ c → (c || list_any (in_set n rs) (take k bytes)) ≡ false → (list_any (in_set n rs) (take k bytes) ≡ false → after_first n rs (at + 1 + k) (drop k bytes) ≡ after_first n rs (at + 1) bytes) → after_first n rs (at + suc k) (drop k bytes) ≡ after_first n rs at (byte ∷ bytes)
    by_cases true is h rest = absurd cc
    by_cases false is h rest =
        let same : at + suc k ≡ at + 1 + k = omega arith in
        ap (λ p. after_first n rs p (drop k bytes)) same
        ∙ rest h
        ∙ sym (ap (λ c. after_if c at (after_first n rs (at + 1) bytes)) is)

pub block_passed : (n : Bool) (rs : List (ℕ × ℕ)) (s : List ℕ) (at k : ℕ) → list_any (in_set n rs) (take (at + k - at) (drop at s)) ≡ false → after_first n rs (at + k) (drop (at + k) s) ≡ after_first n rs at (drop at s)
block_passed n rs s at k none =
    let count : at + k - at ≡ k = omega arith in
    ap (after_first n rs (at + k)) (sym (drop-drop k at s))
    ∙ none_among n rs at k (drop at s) (sym (ap (λ m. list_any (in_set n rs) (take m (drop at s))) count) ∙ none)
