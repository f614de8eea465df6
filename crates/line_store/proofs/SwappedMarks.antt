-- Two blocks of lines that change places, with their letters and flags.
use Rattle.std.proofs.Common.{◌≡◌, ℕ, ◌+◌, ◌-◌, ◌<◌, ◌≤◌, List, [], ◌++◌, cond, take, drop, length, get_or, nat_eq, nat_lt, Option, Some, None, if◌then◌else◌, refl, sym, ap, ◌∙◌, arith, eq-eqb, ne_eqb, inl, inr, ⊎_elim}
use Rattle.std.proofs.lemmas.Bool.{cases_lt, cases_eq, cond-true, cond-false, lt-ltb, le-ltb}
use Rattle.std.proofs.lemmas.List.{same_lists, get_or_past}
use Rattle.std.proofs.lemmas.List.Sums.{sum_by-append}
use Rattle.std.proofs.lemmas.List.FromFn.{length-map-range_with_len, get_or-map-range_with_len}
use Rattle.ed_base.specs.Buffer.{Line, plain_line}
use Rattle.ed_base.specs.Parts.{block}
use Rattle.line_store.specs.Marks.{is_at, lettered, AllBelow}
use Rattle.line_store.specs.Shifts.{place_swapped, places_swapped}
use Rattle.line_store.specs.Kept.{Unflagged, flag_count}
use Rattle.line_store.specs.Swaps.{swapped}
use Rattle.line_store.proofs.Lettered.{length-lettered, get_or-lettered, letters_at-same, line_with}
use Rattle.line_store.proofs.Swapped.{parts, length-swapped, Came, came, each, get_or-swapped}

-- where a letter goes to, whose line comes from where it was
goes : (low middle high p : ℕ) → low ≤ middle → middle ≤ high → (q : ℕ) × (place_swapped low middle high (Some p) ≡ Some q) × Came low middle high q p
goes low middle high p h k =
    let last = Some p in
    let third = if nat_lt p high then Some (p - (middle - low)) else last in
    let second = if nat_lt p middle then Some (p + (high - middle)) else third in
    ⊎_elim
    (λ a. (p, cond-true (nat_lt p low) last second (lt-ltb p low a), inl (a, refl)))
    (λ a. let not_low = cond-false (nat_lt p low) last second (le-ltb p low a) in ⊎_elim
    (λ b. (
      p + (high - middle),
      not_low ∙ cond-true (nat_lt p middle) (Some (p + (high - middle))) third (lt-ltb p middle b),
      inr (inr (inl (omega arith, omega arith, omega arith))),
    ))
    (λ b. let not_first = not_low ∙ cond-false (nat_lt p middle) (Some (p + (high - middle))) third (le-ltb p middle b) in ⊎_elim
    (λ c. (
      p - (middle - low),
      not_first ∙ cond-true (nat_lt p high) (Some (p - (middle - low))) last (lt-ltb p high c),
      inr (inl (omega arith, omega arith, omega arith)),
    ))
    (λ c. (p, not_first ∙ cond-false (nat_lt p high) (Some (p - (middle - low))) last (le-ltb p high c), inr (inr (inr (c, refl)))))
    (cases_lt p high))
    (cases_lt p middle))
    (cases_lt p low)

-- one place comes from one place
came-one : (low middle high k j q p : ℕ) → low ≤ middle → middle ≤ high → Came low middle high k j → Came low middle high q p → q ≡ k → p ≡ j
came-one low middle high k j q p h l a b e = each low middle high k j a
    (λ c d. each low middle high q p b (λ c' d'. omega arith) (λ c' c'' d'. omega arith) (λ c' c'' d'. omega arith) (λ c' d'. omega arith))
    (λ c c2 d. each low middle high q p b (λ c' d'. omega arith) (λ c' c'' d'. omega arith) (λ c' c'' d'. omega arith) (λ c' d'. omega arith))
    (λ c c2 d. each low middle high q p b (λ c' d'. omega arith) (λ c' c'' d'. omega arith) (λ c' c'' d'. omega arith) (λ c' d'. omega arith))
    (λ c d. each low middle high q p b (λ c' d'. omega arith) (λ c' c'' d'. omega arith) (λ c' c'' d'. omega arith) (λ c' d'. omega arith))

-- and goes to one
goes-one : (low middle high k j q p : ℕ) → low ≤ middle → middle ≤ high → Came low middle high k j → Came low middle high q p → p ≡ j → q ≡ k
goes-one low middle high k j q p h l a b e = each low middle high k j a
    (λ c d. each low middle high q p b (λ c' d'. omega arith) (λ c' c'' d'. omega arith) (λ c' c'' d'. omega arith) (λ c' d'. omega arith))
    (λ c c2 d. each low middle high q p b (λ c' d'. omega arith) (λ c' c'' d'. omega arith) (λ c' c'' d'. omega arith) (λ c' d'. omega arith))
    (λ c c2 d. each low middle high q p b (λ c' d'. omega arith) (λ c' c'' d'. omega arith) (λ c' c'' d'. omega arith) (λ c' d'. omega arith))
    (λ c d. each low middle high q p b (λ c' d'. omega arith) (λ c' c'' d'. omega arith) (λ c' c'' d'. omega arith) (λ c' d'. omega arith))

same_tests : (q k p j : ℕ) → (q ≡ k → p ≡ j) → (p ≡ j → q ≡ k) → nat_eq q k ≡ nat_eq p j
same_tests q k p j f g = ⊎_elim
    (λ e. eq-eqb q k e ∙ sym (eq-eqb p j (f e)))
    (λ n. ne_eqb q k n ∙ sym (ne_eqb p j (λ e. n (g e))))
    (cases_eq q k)

-- a letter is at a place where it was at the place that this came from
at-swapped : (low middle high k j : ℕ) (o : Option ℕ) → low ≤ middle → middle ≤ high → Came low middle high k j → is_at k (place_swapped low middle high o) ≡ is_at j o
at-swapped low middle high k j None h l from = refl
at-swapped low middle high k j (Some p) h l from =
    let to = goes low middle high p h l in
    ap (is_at k) to.1
    ∙ same_tests to.0 k p j (came-one low middle high k j to.0 p h l from to.2) (goes-one low middle high k j to.0 p h l from to.2)

get_or-places_swapped : (low middle high letter : ℕ) (marks : List (Option ℕ)) → letter < 26 →
    get_or (places_swapped low middle high marks) letter None ≡ place_swapped low middle high (get_or marks letter None)
get_or-places_swapped low middle high letter marks h =
    get_or-map-range_with_len (λ k. place_swapped low middle high (get_or marks k None)) 0 26 letter letter None h (omega arith)

-- a place comes from one among as many
from-within : (low middle high count k j : ℕ) → low ≤ middle → middle ≤ high → high ≤ count → Came low middle high k j → k < count → j < count
from-within low middle high count k j h l m from b =
    each low middle high k j from (λ c d. omega arith) (λ c c' d. omega arith) (λ c c' d. omega arith) (λ c d. omega arith)

to-within : (low middle high count k j : ℕ) → low ≤ middle → middle ≤ high → high ≤ count → Came low middle high k j → j < count → k < count
to-within low middle high count k j h l m from b =
    each low middle high k j from (λ c d. omega arith) (λ c c' d. omega arith) (λ c c' d. omega arith) (λ c d. omega arith)

-- the lines have their letters where they have gone
pub lettered-swapped : (low middle high : ℕ) (marks : List (Option ℕ)) (lines : List Line) → low ≤ middle → middle ≤ high → high ≤ length lines →
    lettered (places_swapped low middle high marks) 0 (swapped low middle high lines) ≡ swapped low middle high (lettered marks 0 lines)
lettered-swapped low middle high marks lines h l m =
    let now = places_swapped low middle high marks in
    let moved = swapped low middle high lines in
    let count : length moved ≡ length lines = length-swapped low middle high lines h l m in
    let many : length (lettered marks 0 lines) ≡ length lines = length-lettered marks 0 lines in
    same_lists (lettered now 0 moved) (swapped low middle high (lettered marks 0 lines))
    (length-lettered now 0 moved ∙ count ∙ sym (length-swapped low middle high (lettered marks 0 lines) h l (omega arith) ∙ many))
    (λ k d b.
    let from = came low middle high k h l in
    let j = from.0 in
    let inside : k < length lines = omega (arith, length-lettered now 0 moved) in
    let before : j < length lines = from-within low middle high (length lines) k j h l m from.1 inside in
    get_or-lettered now 0 k k moved d (omega arith) (omega arith)
    ∙ ap (line_with now k) (get_or-swapped low middle high k j lines d h l m from.1)
    ∙ ap (λ t. record (get_or lines j d) { letters = t })
    (letters_at-same k j now marks (λ letter c. ap (is_at k) (get_or-places_swapped low middle high letter marks c)
    ∙ at-swapped low middle high k j (get_or marks letter None) h l from.1))
    ∙ sym (get_or-swapped low middle high k j (lettered marks 0 lines) d h l (omega arith) from.1
    ∙ get_or-lettered marks 0 j j lines d before (omega arith)))

-- the letters have places among the lines
below-swapped : (low middle high count : ℕ) (o : Option ℕ) (place : ℕ) → low ≤ middle → middle ≤ high → high ≤ count → ((p : ℕ) → o ≡ Some p → p < count) →
    place_swapped low middle high o ≡ Some place → place < count
below-swapped low middle high count None place h l m below e = absurd cc
below-swapped low middle high count (Some p) place h l m below e =
    let to = goes low middle high p h l in
    let same : to.0 ≡ place = some_is to.0 place (sym to.1 ∙ e) in
    let b = to-within low middle high count to.0 p h l m to.2 (below p refl) in
    omega arith
  where
    some_is : (i j : ℕ) → ◌≡◌ {A = Option ℕ} (Some i) (Some j) → i ≡ j
    some_is i j h = cc

pub places_swapped-below : (low middle high count : ℕ) (marks : List (Option ℕ)) → low ≤ middle → middle ≤ high → high ≤ count → AllBelow count marks →
    AllBelow count (places_swapped low middle high marks)
places_swapped-below low middle high count marks h l m below letter place e = ⊎_elim
    (λ b. below-swapped low middle high count (get_or marks letter None) place h l m (below letter) (sym (get_or-places_swapped low middle high letter marks b) ∙ e))
    (λ b. let f : ◌≡◌ {A = Option ℕ} None (Some place) =
    sym (get_or_past (places_swapped low middle high marks) letter None (omega (arith, length-map-range_with_len (λ k. place_swapped low middle high (get_or marks k None)) 0 26))) ∙ e in absurd cc)
    (cases_lt letter 26)

-- as many lines have the flag
pub flags-swapped : (low middle high : ℕ) (lines : List Line) → low ≤ middle → middle ≤ high → high ≤ length lines →
    flag_count (swapped low middle high lines) ≡ flag_count lines
flags-swapped low middle high lines h l m =
    let f : Line → ℕ = λ line. cond line.flag 1 0 in
    let a = take low lines in
    let b = block low middle lines in
    let c = block middle high lines in
    let d = drop high lines in
    omega (
      arith,
      ap flag_count (parts low middle high lines h l),
      sum_by-append f a (c ++ (b ++ d)),
      sum_by-append f c (b ++ d),
      sum_by-append f b d,
      sum_by-append f a (b ++ (c ++ d)),
      sum_by-append f b (c ++ d),
      sum_by-append f c d,
    )

-- No line before a place has the flag, where each of those comes from before a place before which none had it.
pub unflagged-swapped : (low middle high place next : ℕ) (lines : List Line) → low ≤ middle → middle ≤ high → high ≤ length lines →
    ((k j : ℕ) → Came low middle high k j → k < next → j < place) → Unflagged place lines → Unflagged next (swapped low middle high lines)
unflagged-swapped low middle high place next lines h l m earlier none k b =
    let from = came low middle high k h l in
    ap (λ line. line.flag) (get_or-swapped low middle high k from.0 lines (plain_line []) h l m from.1) ∙ none from.0 (earlier k from.0 from.1 b)
