-- Letters that mark the lines of landmarks, and the numbers of all names then.
use Rattle.std.proofs.Common.{◌≡◌, ◌≢◌, ◌<◌, ℕ, zero, suc, ◌+◌, ◌-◌, pos, List, [], ◌∷◌, map, length, get_or, All, slice_index_or, refl, sym, ap, ◌∙◌, arith}
use Rattle.std.proofs.lemmas.List.Elements.{All-head, All-tail, All-cons, All-nil}
use Rattle.zones.specs.Name.{mark}
use Rattle.zones.specs.Zone.{Numbers, updated}
use Rattle.zones.proofs.Known.{updated-same, updated-other}
use Rattle.ed_syntax.specs.meaning.Erasure.{AreApart}
use Rattle.landmarks.specs.declared.landmark.Landmark.{Landmark}
use Rattle.landmarks.specs.Starts.{AreEachAt, AreNumbered, marks_at, unmarked_numbers, numbers_at, AreMarked}
use Rattle.landmarks.proofs.Started.{IsPlace, each-inside}

-- names that aren't marks have their own numbers
numbers-low : (letters places : List ℕ) (count p : ℕ) → p < 6 → numbers_at letters places count p ≡ unmarked_numbers count p
numbers-low [] places count p h = refl
numbers-low (letter ∷ letters) [] count p h = refl
numbers-low (letter ∷ letters) (place ∷ places) count p h =
    updated-other (numbers_at letters places count) (mark letter) (pos place) p (λ e. omega arith) ∙ numbers-low letters places count p h

-- another letter changes no number of these
numbered-more : (number : Numbers) (letter place : ℕ) (letters places : List ℕ) →
    All (λ other. other.0 ≢ letter) (marks_at letters places) → AreNumbered number (map mark letters) places →
    AreNumbered (updated number (mark letter) (pos place)) (map mark letters) places
numbered-more number letter place letters [] apart h = tt
numbered-more number letter place [] (p ∷ places) apart h = h
numbered-more number letter place (other ∷ letters) (p ∷ places) apart h =
    let one : other ≢ letter = All-head (λ (m : ℕ × ℕ). m.0 ≢ letter) (other, p - 1) (marks_at letters places) apart in (
      h.0,
      updated-other number (mark letter) (pos place) (mark other) (λ e. one (omega arith)) ∙ h.1,
      numbered-more number letter place letters places
          (All-tail (λ (m : ℕ × ℕ). m.0 ≢ letter) (other, p - 1) (marks_at letters places) apart) h.2,
    )

numbers-there : (letters places : List ℕ) (count : ℕ) → length letters ≡ length places → All (λ letter. letter < 26) letters →
    AreApart (marks_at letters places) →
    AreNumbered (numbers_at letters places count) (map mark letters) places
numbers-there letters [] count same low apart = tt
numbers-there [] (place ∷ places) count same low apart = absurd (omega arith)
numbers-there (letter ∷ letters) (place ∷ places) count same low apart =
    let small : letter < 26 = All-head (λ l. l < 26) letter letters low in (
      omega arith,
      updated-same (numbers_at letters places count) (mark letter) (pos place),
      numbered-more (numbers_at letters places count) letter place letters places apart.0
          (numbers-there letters places count (omega arith) (All-tail (λ l. l < 26) letter letters low) apart.1),
    )

marks-inside : (file : List (List ℕ)) (letters places : List ℕ) → All (λ letter. letter < 26) letters →
    All (IsPlace file) places → All (λ one. (one.0 < 26) × (one.1 < length file)) (marks_at letters places)
marks-inside file [] places low inside = All-nil (λ one. (one.0 < 26) × (one.1 < length file))
marks-inside file (letter ∷ letters) [] low inside = All-nil (λ one. (one.0 < 26) × (one.1 < length file))
marks-inside file (letter ∷ letters) (place ∷ places) low inside =
    let one = All-head (IsPlace file) place places inside in
    let from = one.0 in
    let to = one.1 in
    All-cons (λ (one : ℕ × ℕ). (one.0 < 26) × (one.1 < length file)) (letter, place - 1) (marks_at letters places)
    (All-head (λ l. l < 26) letter letters low, omega arith)
    (marks-inside file letters places (All-tail (λ l. l < 26) letter letters low) (All-tail (IsPlace file) place places inside))

-- the mark at an index is that of the letter there
record MarkAt (letters places : List ℕ) (number : Numbers) (index letter : ℕ) : Type 0 where
  within : index < length (marks_at letters places)
  letter_is : (get_or (marks_at letters places) index (0, 0)).0 ≡ letter
  place_is : number (mark letter) ≡ pos ((get_or (marks_at letters places) index (0, 0)).1 + 1)

mark-at : (file : List (List ℕ)) (letters places : List ℕ) (number : Numbers) (index letter : ℕ) →
    length letters ≡ length places → All (IsPlace file) places → AreNumbered number (map mark letters) places →
    index < length letters → slice_index_or letters index letter ≡ letter → MarkAt letters places number index letter
mark-at file [] places number index letter same inside numbered h is = absurd (omega arith)
mark-at file (l ∷ letters) [] number index letter same inside numbered h is = absurd (omega arith)
mark-at file (l ∷ letters) (place ∷ places) number zero letter same inside numbered h is =
    let one = All-head (IsPlace file) place places inside in
    let from = one.0 in
    let plus : place ≡ place - 1 + 1 = omega arith in
    record { within = omega arith; letter_is = is; place_is = ap (λ k. number (mark k)) (sym is) ∙ numbered.1 ∙ ap pos plus }
mark-at file (l ∷ letters) (place ∷ places) number (suc index) letter same inside numbered h is =
    let more = mark-at file letters places number index letter (omega arith) (All-tail (IsPlace file) place places inside) numbered.2
    (omega arith) is in
    let within = more.within in
    record { within = omega arith; letter_is = more.letter_is; place_is = more.place_is }

pub are-marked : (file : List (List ℕ)) (chains : List (List Landmark)) (letters places : List ℕ) → AreEachAt file chains places →
    length letters ≡ length places → All (λ letter. letter < 26) letters →
    AreApart (marks_at letters places) → AreMarked file letters places (marks_at letters places) (numbers_at letters places (length file))
are-marked file chains letters places at same low apart =
    let inside = each-inside file chains places at in
    let count = length file in
    let numbered = numbers-there letters places count same low apart in
    record {
      inside = marks-inside file letters places low inside;
      zero_is = numbers-low letters places count 0 (omega arith);
      current_is = numbers-low letters places count 1 (omega arith);
      last_is = numbers-low letters places count 2 (omega arith);
      numbered = numbered;
      marks_are = λ letter there.
          let one = mark-at file letters places (numbers_at letters places count) there.0 letter same inside numbered there.1 there.2 in
          (there.0, one.within, one.letter_is, one.place_is);
    }
