-- Where the landmarks of chains are in a file, letters mark their lines, and what is known at the start holds of them.
use Rattle.std.proofs.Common.{◌≡◌, ◌≢◌, ◌<◌, ◌≤◌, ◌+◌, ◌-◌, ◌∷◌, ◌++◌, [], ℕ, zero, suc, pos, negsuc, List, map, length, Option, Some, None, All, refl, sym, ap, subst, arith, ◌∙◌, ◌||◌, ◌⊎◌, inl, inr, Bool, true, false, true≢false, ◌↔◌, ℤ, ◌-ℤ◌, ◌≤ℤ◌, IsTrue}
use Rattle.std.specs.List.{list_any}
use Rattle.std.proofs.lemmas.Bool.{and_parts}
use Rattle.std.proofs.lemmas.List.{append_assoc, length-append, length-map}
use Rattle.std.proofs.lemmas.List.Elements.{All-nil, All-cons, All-head, All-tail, All-weaker}
use Rattle.std.proofs.lemmas.Int.{ints}
use Rattle.zones.specs.Name as name
use Rattle.zones.specs.Name.{mark}
use Rattle.zones.specs.Zone.{Bounds, Numbers, Holds}
use Rattle.zones.specs.Known as zones
use Rattle.ed_base.specs.Buffer.{Line, plain_line, texts}
use Rattle.ed_syntax.specs.meaning.Erasure.{AreApart}
use Rattle.ed_rules.specs.LineBounds.{IsAtMost}
use Rattle.ed_rules.specs.facts.Facts.{Facts, FactsHold, IsClear, LineFact, LineFactHolds, Point, ReadsEnds, is_clear, point_at, value_of}
use Rattle.ed_rules.specs.facts.FoundHolds.{KnownHolds}
use Rattle.ed_rules.specs.facts.FoundLines.{known_as}
use Rattle.ed_syntax.specs.meaning.Values.{matches_line}
use Rattle.landmarks.specs.declared.landmark.Landmark.{Landmark}
use Rattle.landmarks.specs.ChainValues.{ChainValue}
use Rattle.landmarks.specs.Places.{AreAt}
use Rattle.landmarks.specs.Starting.{started}
use Rattle.landmarks.specs.Starts.{AreEachAt, AreNumbered, marks_at, numbers_at, AreMarked}
use Rattle.cert_check.specs.checker.Beginning.{IsCounted, count_of, landmarks_of}
use Rattle.hints.specs.Nowhere.{SomeFileHas, IsSeenNowhere, EndsWithin, letters_down, zone_within, known_there, contradicts, is_absurd}

-- what is said of landmarks that are where they say
pub record LandmarkLaws : Type 0 where
  pub start : (number : Numbers) (file : List (List ℕ)) (lines : List Line) (names : List ℕ) (chains : List (List Landmark))
      (places : List ℕ) (zone : Bounds) → texts lines ≡ file → ReadsEnds number lines → AreEachAt file chains places →
      AreNumbered number names places → Holds zone number → KnownHolds (started names chains zone) number lines
  pub marked : (file : List (List ℕ)) (chains : List (List Landmark)) (letters places : List ℕ) → AreEachAt file chains places →
      length letters ≡ length places → All (λ letter. letter < 26) letters → AreApart (marks_at letters places) →
      AreMarked file letters places (marks_at letters places) (numbers_at letters places (length file))

-- no line in a stretch that is known to be clear matches
abbrev pub ClearIsTrue : Type 0
ClearIsTrue = (zone : Bounds) (facts : Facts) (number : Numbers) (lines : List Line) (x y : Point) (pattern : List ℕ) →
    is_clear zone facts x y pattern ≡ true → x.name < 32 → y.name < 32 → Holds zone number → FactsHold facts number lines →
    IsClear (length lines) (matches_line pattern lines) (value_of number x) (value_of number y)

-- what a zone says it knows of two numbers is true
abbrev pub KnownIsTrue : Type 0
KnownIsTrue = (zone : Bounds) (number : Numbers) (x y : ℕ) (c : ℤ) → zones.known zone x y c ≡ true → x < 32 → y < 32 → Holds zone number →
    (number x -ℤ number y) ≤ℤ c

-- what is known holds of no lines
abbrev pub HoldsOfNone : (zone : Bounds) → Facts → Type 0
HoldsOfNone zone facts = (number : Numbers) (lines : List Line) → KnownHolds (known_as zone facts) number lines → ⊥

-- THE LETTERS

-- one more name is taken
pub name_taken : (names new all : List ℕ) (below left letter taken : ℕ) → below ≡ suc left → letter ≡ left → taken ≡ mark
    letter →
    new ≡ names ++ taken ∷ [] → names ++ map mark (letters_down below) ≡ all → new ++ map mark (letters_down left) ≡ all
name_taken names new all below left letter taken more is named pushed rest =
    let own : taken ≡ mark left = named ∙ ap mark is in
    ap (λ ns. ns ++ map mark (letters_down left)) (pushed ∙ ap (λ t. names ++ t ∷ []) own)
    ∙ append_assoc names (mark left ∷ []) (map mark (letters_down left))
    ∙ subst (λ b. names ++ map mark (letters_down b) ≡ all) more rest

count-letters : (count : ℕ) → length (letters_down count) ≡ count
count-letters zero = refl
count-letters (suc count) = ap suc (count-letters count)

low-letters : (count : ℕ) → All (λ letter. letter < count) (letters_down count)
low-letters zero = All-nil (λ letter. letter < 0)
low-letters (suc count) =
    All-cons (λ letter. letter < suc count) count (letters_down count) (omega arith)
    (All-weaker (λ letter. letter < count) (λ letter. letter < suc count) (λ letter low. omega arith) (letters_down count)
    (low-letters count))

are-others : (count : ℕ) (letters places : List ℕ) → All (λ letter. letter < count) letters →
    All (λ other. other.0 ≢ count) (marks_at letters places)
are-others count [] places low = All-nil (λ (other : ℕ × ℕ). other.0 ≢ count)
are-others count (letter ∷ letters) [] low = All-nil (λ (other : ℕ × ℕ). other.0 ≢ count)
are-others count (letter ∷ letters) (place ∷ places) low =
    let first = All-head (λ l. l < count) letter letters low in
    All-cons (λ (other : ℕ × ℕ). other.0 ≢ count) (letter, place - 1) (marks_at letters places) (λ e. omega arith)
    (are-others count letters places (All-tail (λ l. l < count) letter letters low))

are-apart : (count : ℕ) (places : List ℕ) → AreApart (marks_at (letters_down count) places)
are-apart zero places = tt
are-apart (suc count) [] = tt
are-apart (suc count) (place ∷ places) = (are-others count (letters_down count) places (low-letters count), are-apart count places)

-- ONE PLACE FOR EACH

as-many : (file : List (List ℕ)) (above : ℕ) (chain : List Landmark) (places : List ℕ) → AreAt file above chain places →
    length places ≡ length chain
as-many file above [] places (AreAt.over b) = refl
as-many file above (landmark ∷ chain) [] none = elim none [ ]
as-many file above (landmark ∷ chain) (place ∷ places) (AreAt.next b p l c ps at rest) = ap suc (as-many file place chain places rest)

count-places : (file : List (List ℕ)) (chains : List (List Landmark)) (places : List ℕ) → AreEachAt file chains places →
    length places ≡ count_of chains
count-places file [] places AreEachAt.over = refl
count-places file (chain ∷ chains) places (AreEachAt.next c cs own more at rest) =
    length-append own more ∙ ap (λ n. n + length more) (as-many file 0 chain own at)
    ∙ ap (λ n. length chain + n) (count-places file chains more rest)

texts-plain : (text : List (List ℕ)) → texts (map plain_line text) ≡ text
texts-plain [] = refl
texts-plain (t ∷ text) = ap (λ l. t ∷ l) (texts-plain text)

-- WHAT IS KNOWN

within : (number : Numbers) (lines : ℕ) (most : Option ℕ) → IsAtMost lines most → number name.zero ≡ pos 0 → number
    name.last_line ≡ pos lines →
    EndsWithin number most
within number lines None few none last = tt
within number lines (Some most) few none last = rw (none, last) (omega (arith, ints))

-- a file that has the landmarks is one of which holds all that is known where they are
pub held : LandmarkLaws → (most : Option ℕ) (stated : List ChainValue) (count : ℕ) (zone : Bounds) → count ≡ count_of
    (landmarks_of stated) →
    count ≤ 26 → ((number : Numbers) → EndsWithin number most → Holds zone number) → SomeFileHas most stated →
    (number : Numbers) × ((lines : List Line) × KnownHolds (started (map mark (letters_down count)) (landmarks_of stated) zone) number
    lines)
held laws most stated count zone counted low sound some =
    let chains = landmarks_of stated in
    let places = some.has.0 in
    let letters = letters_down count in
    let number : Numbers = numbers_at letters places (length some.file) in
    let lines : List Line = map plain_line some.file in
    let known : AreMarked some.file letters places (marks_at letters places) number =
    laws.marked some.file chains letters places some.has.1
    (count-letters count ∙ (counted ∙ sym (count-places some.file chains places some.has.1)))
    (All-weaker (λ letter. letter < count) (λ letter. letter < 26) (λ letter small. omega arith) letters (low-letters count))
    (are-apart count places) in
    let holds = sound number (within number (length some.file) most some.few known.zero_is known.last_is) in
    let ends : ReadsEnds number lines =
    record { zero_is = known.zero_is; last_is = known.last_is ∙ ap pos (sym (length-map some.file plain_line)) } in (
      number,
      (
        lines,
        laws.start number some.file lines (map mark letters) chains places zone (texts-plain some.file) ends some.has.1
            known.numbered holds,
      ),
    )

-- where what is known holds of no lines, no file has the landmarks
pub nowhere : LandmarkLaws → (most : Option ℕ) (stated : List ChainValue) (count : ℕ) (zone after : Bounds) (facts : Facts) (names
    : List ℕ) →
    count ≡ count_of (landmarks_of stated) → count ≤ 26 → ((number : Numbers) → EndsWithin number most → Holds zone number) →
    names ≡ map mark (letters_down count) → known_as after facts ≡ started names (landmarks_of stated) zone → HoldsOfNone after
    facts →
    SomeFileHas most stated → ⊥
nowhere laws most stated count zone after facts names counted low sound named known none some =
    let all = held laws most stated count zone counted low sound some in
    none all.0 all.1.0 (subst (λ k. KnownHolds k all.0 all.1.0) (sym (known ∙ ap (λ ns. started ns (landmarks_of stated) zone)
    named)) all.1.1)

-- WHERE FACTS CONTRADICT EACH OTHER

-- a line that has to match can't lie where none does
one-contradicts : ClearIsTrue → (zone : Bounds) (facts : Facts) (number : Numbers) (lines : List Line) (f : LineFact) → Holds zone
    number →
    FactsHold facts number lines → LineFactHolds number lines f → contradicts zone facts f ≡ true → ⊥
one-contradicts clear zone facts number lines f holds all own is =
    let both = and_parts f.matches (is_clear zone facts (point_at f.name (negsuc 0)) (point_at f.name (pos 1)) f.pattern) is in
    let told = own.holds in
    let none : matches_line f.pattern lines told.line ≡ false =
    clear zone facts number lines (point_at f.name (negsuc 0)) (point_at f.name (pos 1)) f.pattern both.1 own.named own.named holds all
    told.line told.from told.inside (rw told.is (omega (arith, ints))) (rw told.is (omega (arith, ints))) in
    true≢false (sym both.0 ∙ (sym told.told ∙ none))

either : (a b : Bool) → a || b ≡ true → (a ≡ true) ⊎ (b ≡ true)
either true b e = inl refl
either false b e = inr e

some-contradicts : ClearIsTrue → (zone : Bounds) (facts : Facts) (number : Numbers) (lines : List Line) (fs : List LineFact) →
    Holds zone number → FactsHold facts number lines → All (LineFactHolds number lines) fs → list_any (contradicts zone facts) fs
    ≡ true → ⊥
some-contradicts clear zone facts number lines [] holds all own is = true≢false (sym is)
some-contradicts clear zone facts number lines (f ∷ fs) holds all own is =
    elim (either (contradicts zone facts f) (list_any (contradicts zone facts) fs) is) [
      | inl one ↦ one-contradicts clear zone facts number lines f holds all (All-head (LineFactHolds number lines) f fs own) one
      | inr more ↦ some-contradicts clear zone facts number lines fs holds all (All-tail (LineFactHolds number lines) f fs own) more
    ]

contradicted : ClearIsTrue → (zone : Bounds) (facts : Facts) → list_any (contradicts zone facts) facts.lines ≡ true →
    HoldsOfNone zone facts
contradicted clear zone facts is number lines known =
    some-contradicts clear zone facts number lines facts.lines known.zone known.facts known.facts.of_lines is

not-below : (n : ℤ) → (n -ℤ n) ≤ℤ negsuc 0 → ⊥
not-below n less = omega (arith, ints, less)

-- what can't be holds of no lines
pub absurd_is_none : ClearIsTrue → KnownIsTrue → (zone : Bounds) (facts : Facts) → is_absurd (known_as zone facts) ≡ true →
    HoldsOfNone zone facts
absurd_is_none clear true_bounds zone facts is =
    elim (either (zones.known zone name.zero name.zero (negsuc 0)) (list_any (contradicts zone facts) facts.lines) is) [
      | inl empty ↦ λ number lines known.
          not-below (number name.zero) (true_bounds zone number name.zero name.zero (negsuc 0) empty (omega arith) (omega arith) known.zone)
      | inr some ↦ contradicted clear zone facts some
    ]

-- WHAT IS SEEN

-- what is known as is said is known there, and so the test decides what is seen
pub seen_exactly : (most : Option ℕ) (stated : List ChainValue) (count : ℕ) (zone after : Bounds) (facts : Facts) (names : List ℕ)
    (told : Bool) → count ≡ count_of (landmarks_of stated) → count ≤ 26 → zone ≡ zone_within most → names ≡ map mark (letters_down count) →
    known_as after facts ≡ started names (landmarks_of stated) zone → told ≡ is_absurd (known_as after facts) →
    IsTrue told ↔ IsSeenNowhere most stated
seen_exactly most stated count zone after facts names told counted low bounded named known is =
    let there : known_as after facts ≡ known_there most stated =
    known ∙ ap (λ (ns : List ℕ). started ns (landmarks_of stated) zone) named
    ∙ ap (λ (n : ℕ). started (map mark (letters_down n)) (landmarks_of stated) zone) counted
    ∙ ap (λ (z : Bounds). started (map mark (letters_down (count_of (landmarks_of stated)))) (landmarks_of stated) z) bounded in
    let same : told ≡ is_absurd (known_there most stated) = is ∙ ap is_absurd there in (
      λ yes. record { few = subst (λ (n : ℕ). n ≤ 26) counted low; absurd = subst IsTrue same yes },
      λ seen. subst IsTrue (sym same) seen.absurd,
    )

not-seen : (most : Option ℕ) (stated : List ChainValue) (number : ℕ) → IsCounted number (count_of (landmarks_of stated)) → 26 < number →
    IsSeenNowhere most stated → ⊥
not-seen most stated number (inl same) many seen = let few = seen.few in omega (arith, same, few, many)
not-seen most stated number (inr more) many seen = let few = seen.few in let least = more.0 in let less = more.1 in omega (arith, least, less, few)

-- of more landmarks than letters nothing is seen
pub too_many_seen : (most : Option ℕ) (stated : List ChainValue) (number : ℕ) → IsCounted number (count_of (landmarks_of stated)) → 26 < number →
    IsTrue false ↔ IsSeenNowhere most stated
too_many_seen most stated number counted many = (λ yes. absurd (true≢false (sym yes)), λ seen. absurd (not-seen most stated number counted many seen))

-- a count that didn't stop at the greatest number is that of the landmarks
pub counted : (number count : ℕ) → IsCounted number count → number ≤ 26 → number ≡ count
counted number count (inl same) low = same
counted number count (inr more) low = let most = more.0 in absurd (omega arith)
