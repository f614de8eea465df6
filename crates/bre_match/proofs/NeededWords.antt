-- A word that items next to each other spell: where it doesn't stand, the pattern has no way.
use Rattle.std.proofs.Common.{◌≡◌, ℕ, zero, suc, ◌+◌, ◌-◌, ◌<◌, ◌≤◌, Bool, true, false, List, [], ◌∷◌, ◌++◌, length, drop, take, get_or, Option, Some, None, min, refl, ap, sym, ◌∙◌, subst, append-nil, append_assoc, arith}
use Rattle.std.specs.Prelude.{slice_get, slice_index, slice_range, nat_eq, ◌&&◌}
use Rattle.std.proofs.lemmas.Bool.Decides.{nat_tests}
use Rattle.std.proofs.lemmas.List.{get_or-drop, get_or-take, length-drop, length-take, take_all}
use Rattle.memchr.specs.Find.{FindsNeedle, OccursAt}
use Rattle.bre_parse.specs.declared.tree.Node.{Node}
use Rattle.bre_parse.specs.Tree.{Tree, Then, Set, tree_of, sequence_of}
use Rattle.bre_parse.specs.Groups.{Groups}
use Rattle.bre_parse.specs.Match.{match_from}
use Rattle.bre_parse.specs.Ways.{begins_with, by_end, from_way, has_byte_in, only_if, ways, Way}
use Rattle.bre_parse.proofs.Sequences.{sequence_of-drop, sequence_of-all}
use Rattle.bre_parse.proofs.Within.{byte_there, in_by_end, ways_end_within}
use Rattle.bre_match.specs.Laws.{Has}
use Rattle.bre_match.specs.Passing.{NeedsWord, NoneEndsBefore}
use Rattle.bre_match.proofs.FirstWay.{match_absent}
use Rattle.bre_match.proofs.Needs.{none_through, other_byte}
use Rattle.bre_match.proofs.Words.{begins_occurs}

-- the items of a word, and what follows them
abbrev pub spelled : List ℕ → Tree → Tree
spelled [] rest = rest
spelled (byte ∷ word) rest = Then (Set false ((byte, byte) ∷ [])) (spelled word rest)

pub spelled-append : (word more : List ℕ) (rest : Tree) → spelled (word ++ more) rest ≡ spelled word (spelled more rest)
spelled-append [] more rest = refl
spelled-append (byte ∷ word) more rest = ap (Then (Set false ((byte, byte) ∷ []))) (spelled-append word more rest)

-- a byte at a place of a text, and the bytes from there on
begins_more : (s : List ℕ) (p b : ℕ) (w : List ℕ) → has_byte_in false ((b, b) ∷ []) (slice_get s p) ≡ true → begins_with (drop (p + 1) s) w ≡ true → begins_with (drop p s) (b ∷ w) ≡ true
begins_more [] p b w is rest = absurd cc
begins_more (x ∷ s) zero b w is rest = by_byte (nat_eq x b) refl
  where
    by_byte : (same : Bool) → nat_eq x b ≡ same → (nat_eq x b && begins_with s w) ≡ true
    by_byte true e = rw e rest
    by_byte false e = absurd (let other = other_byte b x (λ same. let both = sym e ∙ same in cc) in cc)
begins_more (x ∷ s) (suc p) b w is rest =
    let e : suc p + 1 ≡ suc (p + 1) = omega arith in
    begins_more s p b w is (ap (λ k. begins_with (drop k (x ∷ s)) w) (sym e) ∙ rest)

-- where the word doesn't stand at a place, its items have no way from there
no_way_of_word : (w : List ℕ) (rest : Tree) (s : List ℕ) (p : ℕ) (g : Groups) → begins_with (drop p s) w ≡ false → ways (spelled w rest) s p g ≡ []
no_way_of_word [] rest s p g h = absurd cc
no_way_of_word (b ∷ w) rest s p g h =
    by_byte (has_byte_in false ((b, b) ∷ []) (slice_get s p)) refl (λ e. no_way_of_word w rest s (p + 1) g e)
  where
    by_rest : (there : Bool) → begins_with (drop (p + 1) s) w ≡ there → has_byte_in false ((b, b) ∷ []) (slice_get s p) ≡ true →
        (begins_with (drop (p + 1) s) w ≡ false → ways (spelled w rest) s (p + 1) g ≡ []) → ways (spelled w rest) s (p + 1) g ≡ []
    by_rest false e is later = later e
    by_rest true e is later = absurd (let all = begins_more s p b w is e in cc)

    by_byte : (there : Bool) → has_byte_in false ((b, b) ∷ []) (slice_get s p) ≡ there →
        (begins_with (drop (p + 1) s) w ≡ false → ways (spelled w rest) s (p + 1) g ≡ []) → ways (spelled (b ∷ w) rest) s p g ≡ []
    by_byte false is later = rw is refl
    by_byte true is later = rw is (append-nil (ways (spelled w rest) s (p + 1) g) ∙ by_rest (begins_with (drop (p + 1) s) w) refl is later)

-- nor has a text without the word any
spelled-needs : (w : List ℕ) (rest : Tree) → NeedsWord (spelled w rest) w
spelled-needs w rest s none p g le = by_word (begins_with (drop p s) w) refl
  where
    by_word : (there : Bool) → begins_with (drop p s) w ≡ there → ways (spelled w rest) s p g ≡ []
    by_word false e = no_way_of_word w rest s p g e
    by_word true e = absurd (none p (begins_occurs p s w le e))

pub front-needs : (tree rest : Tree) (w : List ℕ) → tree ≡ spelled w rest → NeedsWord tree w
front-needs tree rest w is = subst (λ t. NeedsWord t w) (sym is) (spelled-needs w rest)

-- an item before what needs the word
then-needs : (a rest : Tree) (w : List ℕ) → NeedsWord rest w → NeedsWord (Then a rest) w
then-needs a rest w needs s none p g le =
    none_through (from_way (ways rest s)) p (length s) (by_end (ways a s p g))
    (in_by_end p (length s) (ways a s p g) (ways_end_within a s p g le)) (λ w lo hi. needs s none w.0 w.1 hi)

pub later-needs : (items : List Node) (at : ℕ) (w : List ℕ) → NeedsWord (sequence_of (drop at items)) w → NeedsWord (sequence_of items) w
later-needs items zero w needs = needs
later-needs [] (suc at) w needs = needs
later-needs (item ∷ items) (suc at) w needs = then-needs (tree_of item) (sequence_of items) w (later-needs items at w needs)

-- the rest of the items, taken whole
pub rest_of : (at : ℕ) (items : List Node) → take (length items - at) (drop at items) ≡ drop at items
rest_of at items = take_all (length items - at) (drop at items) (omega (arith, length-drop at items))

-- the empty word stands in each text
pub needs-nothing : (tree : Tree) → NeedsWord tree []
needs-nothing tree s none p g le = absurd (none 0 (record { fits = omega arith; reads = λ j lt. absurd (omega arith) }))

-- one more item is spelled
pub spells-more : (items : List Node) (i byte : ℕ) (item : Node) (w more : List ℕ) (whole : Tree) → i < length items → item ≡ get_or items i item →
    tree_of item ≡ Set false ((byte, byte) ∷ []) → more ≡ w ++ byte ∷ [] →
    whole ≡ spelled w (sequence_of (drop i items)) → whole ≡ spelled more (sequence_of (drop (i + 1) items))
spells-more items i byte item w more whole lt at is grown so_far =
    so_far
    ∙ ap (spelled w) (sequence_of-drop items i item lt at ∙ ap (λ t. Then t (sequence_of (drop (i + 1) items))) is)
    ∙ sym (spelled-append w (byte ∷ []) (sequence_of (drop (i + 1) items)))
    ∙ ap (λ v. spelled v (sequence_of (drop (i + 1) items))) (sym grown)

-- a word that stands in a part of a text stands in the text
record InPart (text w : List ℕ) (start end k : ℕ) : Type 0 where
  ends : k + length w ≤ end - start
  there : OccursAt text w (start + k)

in_part : (text w : List ℕ) (start end k : ℕ) → start ≤ end → end ≤ length text → OccursAt (slice_range text start end) w k → InPart text w start end k
in_part text w start end k order within h =
    let n : ℕ = end - start in
    let left : length (drop start text) ≡ length text - start = length-drop start text in
    let long : length (slice_range text start end) ≡ min n (length (drop start text)) = length-take n (drop start text) in
    let fits : k + length w ≤ length (slice_range text start end) = h.fits in
    let ends : k + length w ≤ n = omega arith in
    record {
      ends = ends;
      there = record {
        fits = omega arith;
        reads = λ j lt.
            let low : k + j < n = omega arith in
            let e : start + k + j ≡ start + (k + j) = omega arith in
            ap (slice_index text) e
            ∙ sym (get_or-take n (drop start text) (k + j) 0 low ∙ get_or-drop start text (k + j) 0)
            ∙ h.reads j lt;
      };
    }

-- a text without the word has no match
pub no_match_without : (tree : Tree) (w s : List ℕ) → NeedsWord tree w → ((k : ℕ) → ¬ OccursAt s w k) → match_from tree s 0 ≡ None
no_match_without tree w s needs none =
    match_absent tree s 0 (omega arith) (λ p m lo hi h. subst (λ (l : List Way). Has m l) (needs s none p _ hi) h)

-- where the word is nowhere, no part has a match
pub none_without_word : (tree : Tree) (w text : List ℕ) (place : ℕ) → NeedsWord tree w → FindsNeedle text w 0 None → NoneEndsBefore tree text place
none_without_word tree w text place needs nowhere start end order within before =
    no_match_without tree w (slice_range text start end) needs (λ k h.
    let i = in_part text w start end k order within h in
    let ends : k + length w ≤ end - start = i.ends in
    nowhere (start + k) (omega arith) (omega arith) i.there)

-- and else none that ends before the word does where it stands first
pub none_before_word : (tree : Tree) (w text : List ℕ) (at : ℕ) → NeedsWord tree w → FindsNeedle text w 0 (Some at) → NoneEndsBefore tree text (at + length w)
none_before_word tree w text at needs found start end order within before =
    no_match_without tree w (slice_range text start end) needs (λ k h.
    let i = in_part text w start end k order within h in
    let ends : k + length w ≤ end - start = i.ends in
    found.0.before (start + k) (omega arith) (omega arith) i.there)
