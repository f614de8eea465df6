-- A search for a word finds the match of a literal pattern.
use Rattle.std.proofs.Common.{◌≡◌, ℕ, zero, suc, ◌+◌, ◌-◌, ◌<◌, ◌≤◌, List, [], ◌∷◌, length, take, drop, Option, Some, None, Bool, true, false, eqb, All, refl, ap, sym, ◌∙◌, subst, arith}
use Rattle.std.proofs.lemmas.Bool.Decides.{nat_tests}
use Rattle.std.proofs.lemmas.List.{drop-drop, length-drop, take_all}
use Rattle.std.specs.Prelude.{option_map, slice_index}
use Rattle.memchr.specs.Find.{OccursAt, FindsNeedle}
use Rattle.bre_parse.specs.Tree.{Tree}
use Rattle.bre_parse.specs.Literal.{literal}
use Rattle.bre_parse.specs.Groups.{no_groups}
use Rattle.bre_parse.specs.Ways.{Way, ways, begins_with, only_if}
use Rattle.bre_parse.specs.Match.{match_from}
use Rattle.bre_parse.specs.Laws.{first_to, LiteralsMatchThemselves}
use Rattle.bre_match.proofs.FirstWay.{match_found, match_absent}
use Rattle.bre_match.proofs.TreeReach.{both_left, both_right}
use Rattle.bre_match.specs.Laws.{Has}
use Rattle.bre_match.proofs.WaysReach.{has_only, has_if}

record Reads (text word : List ℕ) : Type 0 where
  fits : length word ≤ length text
  reads : (j : ℕ) → j < length word → slice_index text j ≡ slice_index word j

begins_reads : (t w : List ℕ) → begins_with t w ≡ true → Reads t w
begins_reads t [] h = record { fits = omega arith; reads = λ j lt. absurd (omega arith) }
begins_reads [] (b ∷ w) h = absurd (cc)
begins_reads (a ∷ t) (b ∷ w) h =
    let i = begins_reads t w (both_right (eqb a b) (begins_with t w) h) in
    let e = both_left (eqb a b) (begins_with t w) h in
    let f = i.fits in
    record { fits = omega arith; reads = λ j lt. each i (grind (arith, nat_tests, e)) j lt }
  where
    each : Reads t w → a ≡ b → (j : ℕ) → j < length (b ∷ w) → slice_index (a ∷ t) j ≡ slice_index (b ∷ w) j
    each i e zero lt = e
    each i e (suc j) lt = i.reads j (omega arith)

reads_begin : (t w : List ℕ) → Reads t w → begins_with t w ≡ true
reads_begin t [] h = refl
reads_begin [] (b ∷ w) h = absurd (let f = h.fits in omega arith)
reads_begin (a ∷ t) (b ∷ w) h =
    let e : a ≡ b = h.reads 0 (omega arith) in
    let f = h.fits in
    let g : eqb a b ≡ true = grind (arith, nat_tests, e) in
    rw g (reads_begin t w (record { fits = omega arith; reads = λ j lt. h.reads (suc j) (omega arith) }))

occurs_begins : (k : ℕ) (hay w : List ℕ) → OccursAt hay w k → begins_with (drop k hay) w ≡ true
occurs_begins zero hay w h =
    let f = h.fits in
    reads_begin hay w (record { fits = omega arith; reads = λ j lt. ap (slice_index hay) (let e : j ≡ 0 + j = omega arith in e) ∙ h.reads j lt })
occurs_begins (suc k) [] w h = absurd (let f = h.fits in omega arith)
occurs_begins (suc k) (x ∷ hay) w h =
    let f = h.fits in
    occurs_begins k hay w (record {
      fits = omega arith;
      reads = λ j lt. ap (slice_index (x ∷ hay)) (let e : suc (k + j) ≡ suc k + j = omega arith in e) ∙ h.reads j lt;
    })

pub begins_occurs : (k : ℕ) (hay w : List ℕ) → k ≤ length hay → begins_with (drop k hay) w ≡ true → OccursAt hay w k
begins_occurs zero hay w le h =
    let i = begins_reads hay w h in
    let f = i.fits in
    record { fits = omega arith; reads = λ j lt. ap (slice_index hay) (let e : 0 + j ≡ j = omega arith in e) ∙ i.reads j lt }
begins_occurs (suc k) [] w le h = absurd (omega arith)
begins_occurs (suc k) (x ∷ hay) w le h =
    let i = begins_occurs k hay w (omega arith) h in
    let f = i.fits in
    record {
      fits = omega arith;
      reads = λ j lt. ap (slice_index (x ∷ hay)) (let e : suc k + j ≡ suc (k + j) = omega arith in e) ∙ i.reads j lt;
    }

-- the rest of a text, taken whole
pub whole_rest : (from : ℕ) (s : List ℕ) → take (length s - from) (drop from s) ≡ drop from s
whole_rest from s = take_all (length s - from) (drop from s) (let n = length-drop from s in omega arith)

-- what a search for the word finds in the text from a place on
abbrev pub word_spans : (word : List ℕ) → (from : ℕ) → ℕ → ℕ × Way
word_spans word from k = (from + k, (from + k + length word, no_groups))

pub word_match : LiteralsMatchThemselves → (t : Tree) (s w : List ℕ) (from : ℕ) (o : Option ℕ) → literal t ≡ Some w → All (λ byte. byte < 256) s → from ≤ length s → FindsNeedle (drop from s) w 0 o → option_map (word_spans w from) o ≡ match_from t s from
word_match law t s w from o is bytes le found = by_cases o found
  where
    size : length (drop from s) ≡ length s - from
    size = length-drop from s

    listed : (p : ℕ) → ways t s p no_groups ≡ only_if (begins_with (drop p s) w) (p + length w, no_groups)
    listed p = law t w s p no_groups is bytes

    way_there : (p m : ℕ) → Has m (ways t s p no_groups) → (begins_with (drop p s) w ≡ true) × (p + length w ≡ m)
    way_there p m h =
        has_only m (begins_with (drop p s) w) (p + length w, no_groups) (subst (λ l. Has m l) (listed p) h)

    from_there : (p : ℕ) → from ≤ p → drop (p - from) (drop from s) ≡ drop p s
    from_there p low = drop-drop (p - from) from s ∙ ap (λ z. drop z s) (let e : from + (p - from) ≡ p = omega arith in e)

    occurs : (p m : ℕ) → from ≤ p → p ≤ length s → Has m (ways t s p no_groups) → OccursAt (drop from s) w (p - from)
    occurs p m low high h =
        let n = size in
        begins_occurs (p - from) (drop from s) w (omega arith) (ap (λ l. begins_with l w) (from_there p low) ∙ (way_there p m h).0)

    first_only : (b : Bool) (v : Way) → b ≡ true → first_to v.0 (only_if b v) ≡ Some v
    first_only true v e = let f : eqb v.0 v.0 ≡ true = grind (arith, nat_tests) in rw f refl
    first_only false v e = absurd (cc)

    by_cases : (o : Option ℕ) → FindsNeedle (drop from s) w 0 o → option_map (word_spans w from) o ≡ match_from t s from
    by_cases None nowhere =
        sym (match_absent t s from le (λ p m low high h. let n = size in nowhere (p - from) (omega arith) (omega arith) (occurs p m low high h)))
    by_cases (Some k) there =
        let n = size in
        let high = there.0.high in
        let begins : begins_with (drop (from + k) s) w ≡ true = ap (λ l. begins_with l w) (sym (drop-drop k from s)) ∙ occurs_begins k (drop from s) w there.1 in
        sym (match_found t s from (from + k) (from + k + length w) (from + k + length w, no_groups) (omega arith) (omega arith)
        (λ p m low lt h. there.0.before (p - from) (omega arith) (omega arith) (occurs p m low (omega arith) h))
        (subst (λ l. Has (from + k + length w) l) (sym (listed (from + k))) (has_if (from + k + length w) (begins_with (drop (from + k) s) w) (from + k + length w, no_groups) begins refl))
        (λ m h. let e = (way_there (from + k) m h).1 in omega arith)
        (ap (first_to (from + k + length w)) (listed (from + k)) ∙ first_only (begins_with (drop (from + k) s) w) (from + k + length w, no_groups) begins))
