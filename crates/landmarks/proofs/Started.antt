-- Where the landmarks of chains are at the lines that names number, all is so that the chains say.
use Rattle.std.proofs.Common.{◌≡◌, ◌<◌, ◌≤◌, ℕ, zero, suc, ◌+◌, ◌-◌, ℤ, pos, negsuc, neg_ℤ, ◌-ℤ◌, ◌≤ℤ◌, Bool, true, false, List, [], ◌∷◌, ◌++◌, map, length, drop, All, slice_index_or, refl, sym, ap, subst, ◌∙◌, arith}
use Rattle.std.specs.List.{flat_map}
use Rattle.std.proofs.lemmas.Int.{ints}
use Rattle.std.proofs.lemmas.List.{length-map}
use Rattle.std.proofs.lemmas.List.Elements.{All-head, All-tail, All-cons, All-nil, All-map, All-append, All-weaker}
use Rattle.zones.specs.Zone.{Bounds, Numbers, Holds}
use Rattle.zones.proofs.Soundness.{Holds-after_guard}
use Rattle.ed_base.specs.Buffer.{Line, plain_line, texts}
use Rattle.ed_syntax.specs.meaning.Values.{matches, matches_line}
use Rattle.ed_rules.specs.facts.Facts.{ReadsEnds, LineFactHolds, StretchHolds, value_of, point, end}
use Rattle.ed_rules.specs.facts.FoundHolds.{KnownHolds}
use Rattle.ed_rules.proofs.facts.FoundLines.{value-at}
use Rattle.landmarks.specs.declared.which.Which.{Which}
use Rattle.landmarks.specs.declared.which.Which.TheVariants.{First, Only, Numbered}
use Rattle.landmarks.specs.declared.landmark.Landmark.{Landmark}
use Rattle.landmarks.specs.Places.{line_of, NoneMatches, Matches, Differs, IsFirstBelow, IsSought, IsAlone, IsAt, AreAt, over, next}
use Rattle.landmarks.specs.Starting.{Named, named_as, named_below, named, Distance, distance, distances_sought, distances_of, guarded, line_fact, clear_between, lines_sought, lines_of, clear_sought, clear_of, started}
use Rattle.landmarks.specs.Starts.{AreEachAt, AreNumbered}

pub record DistanceHolds (number : Numbers) (d : Distance) : Type 0 where
  pub of_named : d.of < 32
  pub from_named : d.from < 32
  pub holds : (number d.of -ℤ number d.from) ≤ℤ d.most

-- all that a landmark says is so
pub record IsSo (number : Numbers) (lines : List Line) (at : Named) : Type 0 where
  pub distances : All (DistanceHolds number) (distances_of at)
  pub of_lines : All (LineFactHolds number lines) (lines_of at)
  pub of_clear : All (StretchHolds number lines) (clear_of at)

-- BYTES OF LINES

line-bytes : (lines : List Line) (i : ℕ) → slice_index_or (texts lines) i [] ≡ (slice_index_or lines i (plain_line [])).bytes
line-bytes [] i = refl
line-bytes (line ∷ lines) zero = refl
line-bytes (line ∷ lines) (suc i) = line-bytes lines i

-- whether the line of a number matches, by the bytes of the lines
same-match : (lines : List Line) (file : List (List ℕ)) (pattern : List ℕ) (n : ℕ) → texts lines ≡ file →
    matches_line pattern lines n ≡ matches pattern (line_of file n)
same-match lines file pattern n same =
    ap (matches pattern) (sym (line-bytes lines (n - 1)) ∙ ap (λ (ts : List (List ℕ)). slice_index_or ts (n - 1) []) same)

same-count : (lines : List Line) (file : List (List ℕ)) → texts lines ≡ file → length lines ≡ length file
same-count lines file same = sym (length-map lines (λ (line : Line). line.bytes)) ∙ ap length same

-- ONE LANDMARK

-- the line of the landmark before it is `above`, or 0
module _ (number : Numbers) (file : List (List ℕ)) (lines : List Line) (same : texts lines ≡ file) (r : ReadsEnds number lines)
    (landmark : Landmark) (before x above place : ℕ) (hb : before < 32) (hx : x < 32) (before_is : number before ≡ pos above)
    (x_is : number x ≡ pos place) where
  one-line : (answer : Bool) (pattern : List ℕ) → above < place → place ≤ length file →
      matches pattern (line_of file place) ≡ answer → LineFactHolds number lines (line_fact x answer pattern)
  one-line answer pattern low high e =
      let count = same-count lines file same in
      record {
        named = hx;
        holds = record {
          line = place;
          is = x_is;
          from = omega arith;
          inside = omega arith;
          told = same-match lines file pattern place same ∙ e;
        };
      }

  before-value : value_of number (point before) ≡ pos above
  before-value = value-at number before hb ∙ before_is

  x-value : value_of number (point x) ≡ pos place
  x-value = value-at number x hx ∙ x_is

  zero-value : value_of number (point 0) ≡ pos 0
  zero-value = value-at number 0 (omega arith) ∙ r.zero_is

  end-value : value_of number (point end) ≡ pos (length file + 1)
  end-value =
      let last = r.last_is in
      let count = same-count lines file same in
      omega (arith, ints)

  -- none of the lines after `low` and before `high` matches
  one-stretch : (a b low high : ℕ) (pattern : List ℕ) → a < 33 → b < 33 → value_of number (point a) ≡ pos low →
      value_of number (point b) ≡ pos high → NoneMatches file low (high - 1) pattern →
      StretchHolds number lines (clear_between a b pattern)
  one-stretch a b low high pattern ha hb' va vb none = record {
    after_named = ha;
    before_named = hb';
    holds = λ n from inside above under. same-match lines file pattern n same ∙ none n (omega (arith, ints)) (omega (arith, ints));
  }

  sought-lines : (which : Which) → IsSought file which above place → above < place → place ≤ length file →
      All (LineFactHolds number lines) (lines_sought which x)
  sought-lines (First pattern) s low high = All-cons (LineFactHolds number lines) _ [] (one-line true pattern low high s.matched)
      (All-nil (LineFactHolds number lines))
  sought-lines (Only pattern) s low high = All-cons (LineFactHolds number lines) _ [] (one-line true pattern low high s.matched)
      (All-nil (LineFactHolds number lines))
  sought-lines (Numbered n) s low high = All-nil (LineFactHolds number lines)

  first-clear : (pattern : List ℕ) → IsFirstBelow file pattern above place →
      StretchHolds number lines (clear_between before x pattern)
  first-clear pattern s = one-stretch before x above place pattern (omega arith) (omega arith) before-value x-value s.first

  sought-clear : (which : Which) → IsSought file which above place → IsAlone file which place →
      All (StretchHolds number lines) (clear_sought which before x)
  sought-clear (First pattern) s alone = All-cons (StretchHolds number lines) (clear_between before x pattern) [] (first-clear pattern s)
      (All-nil (StretchHolds number lines))
  sought-clear (Only pattern) s alone =
      let below : NoneMatches file place (length file + 1 - 1) pattern = λ n from to. alone.1 n from (omega arith) in
      All-cons (StretchHolds number lines) (clear_between before x pattern)
      (clear_between 0 x pattern ∷ clear_between x end pattern ∷ []) (first-clear pattern s)
      (All-cons (StretchHolds number lines) (clear_between 0 x pattern) (clear_between x end pattern ∷ [])
      (one-stretch 0 x 0 place pattern (omega arith) (omega arith) zero-value x-value alone.0)
      (All-cons (StretchHolds number lines) (clear_between x end pattern) []
      (one-stretch x end place (length file + 1) pattern (omega arith) (omega arith) x-value end-value below)
      (All-nil (StretchHolds number lines))))
  sought-clear (Numbered n) s alone = All-nil (StretchHolds number lines)

  one-distance : (a b : ℕ) (most : ℤ) → a < 32 → b < 32 → (number a -ℤ number b) ≤ℤ most →
      DistanceHolds number (distance a b most)
  one-distance a b most ha hb' h = record { of_named = ha; from_named = hb'; holds = h }

  sought-distances : (which : Which) → IsSought file which above place → All (DistanceHolds number) (distances_sought which x)
  sought-distances (First pattern) s = All-nil (DistanceHolds number)
  sought-distances (Only pattern) s = All-nil (DistanceHolds number)
  sought-distances (Numbered n) s =
      let z = r.zero_is in
      All-cons (DistanceHolds number) (distance x 0 (pos n)) (distance 0 x (neg_ℤ (pos n)) ∷ [])
      (one-distance x 0 (pos n) hx (omega arith) (omega (arith, ints)))
      (All-cons (DistanceHolds number) (distance 0 x (neg_ℤ (pos n))) []
      (one-distance 0 x (neg_ℤ (pos n)) (omega arith) hx (omega (arith, ints))) (All-nil (DistanceHolds number)))

  pub is-so : IsAt file above landmark place → IsSo number lines (named_as before x landmark)
  is-so at =
      let low = at.distances.below in
      let inside = at.distances.inside in
      let gap = at.distances.gap in
      let tail = at.distances.tail in
      let z = r.zero_is in
      let last = r.last_is in
      let count = same-count lines file same in
      record {
        distances =
            All-cons (DistanceHolds number) (distance 0 x (negsuc 0))
            (distance x 2 (neg_ℤ (pos landmark.tail)) ∷ distance before x (neg_ℤ (pos landmark.gap))
            ∷ distances_sought landmark.which x) (one-distance 0 x (negsuc 0) (omega arith) hx (omega (arith, ints)))
            (All-cons (DistanceHolds number) (distance x 2 (neg_ℤ (pos landmark.tail)))
            (distance before x (neg_ℤ (pos landmark.gap)) ∷ distances_sought landmark.which x)
            (one-distance x 2 (neg_ℤ (pos landmark.tail)) hx (omega arith) (omega (arith, ints)))
            (All-cons (DistanceHolds number) (distance before x (neg_ℤ (pos landmark.gap))) (distances_sought landmark.which x)
            (one-distance before x (neg_ℤ (pos landmark.gap)) hb hx (omega (arith, ints)))
            (sought-distances landmark.which at.sought)));
        of_lines = All-append (LineFactHolds number lines) (lines_sought landmark.which x)
            (map (line_fact x true) landmark.also ++ map (line_fact x false) landmark.lacks)
            (sought-lines landmark.which at.sought low inside)
            (All-append (LineFactHolds number lines) (map (line_fact x true) landmark.also) (map (line_fact x false) landmark.lacks)
            (All-map (LineFactHolds number lines) (line_fact x true) landmark.also
            (All-weaker (Matches file place) (λ q. LineFactHolds number lines (line_fact x true q))
            (λ q e. one-line true q low inside e) landmark.also at.also))
            (All-map (LineFactHolds number lines) (line_fact x false) landmark.lacks
            (All-weaker (Differs file place) (λ q. LineFactHolds number lines (line_fact x false q))
            (λ q e. one-line false q low inside e) landmark.lacks at.lacks)));
        of_clear = All-append (StretchHolds number lines) (clear_sought landmark.which before x)
            (map (clear_between before x) landmark.none) (sought-clear landmark.which at.sought at.alone)
            (All-map (StretchHolds number lines) (clear_between before x) landmark.none
            (All-weaker (NoneMatches file above (place - 1)) (λ q. StretchHolds number lines (clear_between before x q))
            (λ q e. one-stretch before x above place q (omega arith) (omega arith) before-value x-value e) landmark.none at.none));
      }

-- CHAINS

-- the first names number the places of a chain, and those after them the places of the others
numbers-first : (number : Numbers) (names own more : List ℕ) → AreNumbered number names (own ++ more) → AreNumbered number names own
numbers-first number names [] more h = tt
numbers-first number [] (n ∷ own) more h = h
numbers-first number (x ∷ names) (n ∷ own) more h = (h.0, h.1, numbers-first number names own more h.2)

numbers-rest : (number : Numbers) (names own more : List ℕ) → AreNumbered number names (own ++ more) →
    AreNumbered number (drop (length own) names) more
numbers-rest number names [] more h = h
numbers-rest number [] (n ∷ own) more h = absurd h
numbers-rest number (x ∷ names) (n ∷ own) more h = numbers-rest number names own more h.2

as-many : (file : List (List ℕ)) (above : ℕ) (chain : List Landmark) (places : List ℕ) → AreAt file above chain places →
    length places ≡ length chain
as-many file above [] places (over b) = refl
as-many file above (landmark ∷ chain) [] none = elim none [ ]
as-many file above (landmark ∷ chain) (place ∷ places) (next b p l c ps at rest) = ap suc (as-many file place chain places rest)

chain-is-so : (number : Numbers) (file : List (List ℕ)) (lines : List Line) (same : texts lines ≡ file) (r : ReadsEnds number lines)
    (before above : ℕ) (names : List ℕ) (chain : List Landmark) (places : List ℕ) → before < 32 → number before ≡ pos above →
    AreAt file above chain places → AreNumbered number names places → All (IsSo number lines) (named_below before names chain)
chain-is-so number file lines same r before above names [] places hb is at numbers = All-nil (IsSo number lines)
chain-is-so number file lines same r before above [] (landmark ∷ chain) places hb is at numbers = All-nil (IsSo number lines)
chain-is-so number file lines same r before above (x ∷ names) (landmark ∷ chain) [] hb is none numbers = elim none [ ]
chain-is-so number file lines same r before above (x ∷ names) (landmark ∷ chain) (place ∷ places) hb is (next b p l c ps at rest)
    numbers =
    All-cons (IsSo number lines) (named_as before x landmark) (named_below x names chain)
    (is-so number file lines same r landmark before x above place hb numbers.0 is numbers.1 at)
    (chain-is-so number file lines same r x place names chain places numbers.0 numbers.1 rest numbers.2)

chains-are-so : (number : Numbers) (file : List (List ℕ)) (lines : List Line) (same : texts lines ≡ file) (r : ReadsEnds number lines)
    (names : List ℕ) (chains : List (List Landmark)) (places : List ℕ) →
    AreEachAt file chains places → AreNumbered number names places → All (IsSo number lines) (named names chains)
chains-are-so number file lines same r names [] places at numbers = All-nil (IsSo number lines)
chains-are-so number file lines same r names (chain ∷ chains) places (AreEachAt.next c cs own more at rest) numbers =
    let later : AreNumbered number (drop (length chain) names) more = subst (λ (k : ℕ). AreNumbered number (drop k names) more)
    (as-many file 0 chain own at) (numbers-rest number names own more numbers) in
    All-append (IsSo number lines) (named_below 0 names chain) (named (drop (length chain) names) chains)
    (chain-is-so number file lines same r 0 0 names chain own (omega arith) r.zero_is at (numbers-first number names own more numbers))
    (chains-are-so number file lines same r (drop (length chain) names) chains more rest later)

-- what each landmark says, together
all-of : {X Y : Type 0} (P : X → Type 0) (Q : Y → Type 0) (f : X → List Y) → ((x : X) → P x → All Q (f x)) → (xs : List X) →
    All P xs → All Q (flat_map f xs)
all-of P Q f k [] h = All-nil Q
all-of P Q f k (x ∷ xs) h = All-append Q (f x) (flat_map f xs) (k x (All-head P x xs h)) (all-of P Q f k xs (All-tail P x xs h))

guarded-holds : (number : Numbers) (ds : List Distance) (zone : Bounds) → All (DistanceHolds number) ds → Holds zone number →
    Holds (guarded ds zone) number
guarded-holds number [] zone all h = h
guarded-holds number (d ∷ ds) zone all h =
    let k = All-head (DistanceHolds number) d ds all in
    guarded-holds number ds _ (All-tail (DistanceHolds number) d ds all)
    (Holds-after_guard zone d.of d.from d.most number k.of_named k.from_named h k.holds)

pub started-holds : (number : Numbers) (file : List (List ℕ)) (lines : List Line) (names : List ℕ) (chains : List (List Landmark))
    (places : List ℕ) (zone : Bounds) → texts lines ≡ file → ReadsEnds number lines →
    AreEachAt file chains places → AreNumbered number names places → Holds zone number →
    KnownHolds (started names chains zone) number lines
started-holds number file lines names chains places zone same r at numbers holds =
    let so = chains-are-so number file lines same r names chains places at numbers in
    record {
      zone = guarded-holds number (flat_map distances_of (named names chains)) zone
          (all-of (IsSo number lines) (DistanceHolds number) distances_of (λ n so. so.distances) (named names chains) so) holds;
      facts = record {
        of_lines = all-of (IsSo number lines) (LineFactHolds number lines) lines_of (λ n so. so.of_lines) (named names chains) so;
        of_clear = all-of (IsSo number lines) (StretchHolds number lines) clear_of (λ n so. so.of_clear) (named names chains) so;
      };
    }

-- PLACES

-- a line of the file
abbrev pub IsPlace : (file : List (List ℕ)) → (place : ℕ) → Type 0
IsPlace file place = (1 ≤ place) × (place ≤ length file)

chain-inside : (file : List (List ℕ)) (above : ℕ) (chain : List Landmark) (places : List ℕ) → AreAt file above chain places →
    All (IsPlace file) places
chain-inside file above [] places (over b) = All-nil (IsPlace file)
chain-inside file above (landmark ∷ chain) [] none = elim none [ ]
chain-inside file above (landmark ∷ chain) (place ∷ places) (next b p l c ps at rest) =
    let below = at.distances.below in
    All-cons (IsPlace file) place places (omega arith, at.distances.inside) (chain-inside file place chain places rest)

pub each-inside : (file : List (List ℕ)) (chains : List (List Landmark)) (places : List ℕ) → AreEachAt file chains places →
    All (IsPlace file) places
each-inside file [] places AreEachAt.over = All-nil (IsPlace file)
each-inside file (chain ∷ chains) places (AreEachAt.next c cs own more at rest) =
    All-append (IsPlace file) own more (chain-inside file 0 chain own at) (each-inside file chains more rest)
