-- The letters that landmarks take: none that the script names, none above `z`, and none twice.
use Rattle.std.proofs.Common.{◌≡◌, ◌≢◌, ◌↔◌, ◌==◌, ◌⊎◌, inl, inr, ◌<◌, ◌≤◌, ℕ, zero, suc, ◌+◌, ◌-◌, Bool, true, false, ◌||◌, List, [], ◌∷◌, ◌++◌, length, All, Contains, slice_set, refl, sym, ap, ◌∙◌, arith}
use Rattle.std.proofs.lemmas.Bool.{cases_eq, eq-eqb, ne_eqb}
use Rattle.std.proofs.lemmas.List.{append_assoc, get_or-set_other, length-append}
use Rattle.std.proofs.lemmas.List.Elements.{All-nil, All-head, All-tail, All-cons, All-weaker}
use Rattle.ed_syntax.specs.Commands.{Script}
use Rattle.ed_syntax.specs.meaning.Erasure.{script_names, steps_name, letters_of, AreApart}
use Rattle.ed_rules.specs.declared.state.State.{State}
use Rattle.ed_rules.specs.Marks.{is_sure, no_marks}
use Rattle.ed_rules.proofs.sound.LettersInLines.{no_letter}
use Rattle.landmarks.specs.declared.landmark.Landmark.{Landmark}
use Rattle.landmarks.specs.Places.{AreAt}
use Rattle.landmarks.specs.Starts.{AreEachAt, marks_at}
use Rattle.cert_check.specs.checker.Beginning.{count_of, IsCounted, unnamed_below, letters_for, count_unnamed, letters_left, letters_of_chains, has_letters, with_sure, with_landmarks}

-- a letter below one that the script doesn't name
abbrev pub IsFree : Script → (below letter : ℕ) → Type 0
IsFree script below letter = (letter < below) × (script_names letter script ≡ false)

free-more : (script : Script) (below : ℕ) (letters : List ℕ) → All (IsFree script below) letters →
    All (IsFree script (suc below)) letters
free-more script below letters all =
    All-weaker (IsFree script below) (IsFree script (suc below))
    (λ letter free. let low = free.0 in (omega arith, free.1)) letters all

pub are-free : (script : Script) (below count : ℕ) → All (IsFree script below) (unnamed_below below script count)
are-free script zero count = All-nil (IsFree script 0)
are-free script (suc below) zero = All-nil (IsFree script (suc below))
are-free script (suc below) (suc count) =
    (elim (script_names below script) as (λ b. script_names below script ≡ b →
    All (IsFree script (suc below)) (elim b as (λ _. List ℕ) [
      | true ↦ unnamed_below below script (suc count)
      | false ↦ below ∷ unnamed_below below script count
    ])) [
      | true ↦ λ e. free-more script below (unnamed_below below script (suc count)) (are-free script below (suc count))
      | false ↦ λ e. All-cons (IsFree script (suc below)) below (unnamed_below below script count) (omega arith, e)
          (free-more script below (unnamed_below below script count) (are-free script below count))
    ]) refl

pub are-letters : (script : Script) (below : ℕ) (letters : List ℕ) → All (IsFree script below) letters →
    All (λ letter. letter < below) letters
are-letters script below letters all =
    All-weaker (IsFree script below) (λ letter. letter < below) (λ letter free. free.0) letters all

-- the script names none of the marks
pub are-unnamed : (script : Script) (below : ℕ) (letters places : List ℕ) → All (IsFree script below) letters →
    steps_name (letters_of (marks_at letters places)) script.steps ≡ false
are-unnamed script below [] places all = refl
are-unnamed script below (letter ∷ letters) [] all = refl
are-unnamed script below (letter ∷ letters) (place ∷ places) all =
    ap (λ b. b || steps_name (letters_of (marks_at letters places)) script.steps)
    (All-head (IsFree script below) letter letters all).1
    ∙ are-unnamed script below letters places (All-tail (IsFree script below) letter letters all)

-- NONE TWICE

are-others : (script : Script) (below : ℕ) (letters places : List ℕ) → All (IsFree script below) letters →
    All (λ other. other.0 ≢ below) (marks_at letters places)
are-others script below [] places all = All-nil (λ (other : ℕ × ℕ). other.0 ≢ below)
are-others script below (letter ∷ letters) [] all = All-nil (λ (other : ℕ × ℕ). other.0 ≢ below)
are-others script below (letter ∷ letters) (place ∷ places) all =
    let low = (All-head (IsFree script below) letter letters all).0 in
    All-cons (λ (other : ℕ × ℕ). other.0 ≢ below) (letter, place - 1) (marks_at letters places) (λ e. omega arith)
    (are-others script below letters places (All-tail (IsFree script below) letter letters all))

apart-with : (script : Script) (below : ℕ) (letters : List ℕ) → All (IsFree script below) letters →
    ((places : List ℕ) → AreApart (marks_at letters places)) → (places : List ℕ) → AreApart (marks_at (below ∷ letters) places)
apart-with script below letters all apart [] = tt
apart-with script below letters all apart (place ∷ places) = (are-others script below letters places all, apart places)

pub are-apart : (script : Script) (below count : ℕ) (places : List ℕ) →
    AreApart (marks_at (unnamed_below below script count) places)
are-apart script zero count places = tt
are-apart script (suc below) zero places = tt
are-apart script (suc below) (suc count) places =
    elim (script_names below script) as (λ b. AreApart (marks_at (elim b as (λ _. List ℕ) [
      | true ↦ unnamed_below below script (suc count)
      | false ↦ below ∷ unnamed_below below script count
    ]) places)) [
      | true ↦ are-apart script below (suc count) places
      | false ↦ apart-with script below (unnamed_below below script count) (are-free script below count) (are-apart script below count)
          places
    ]

-- THE LETTERS ARE SURE

sure-among : (letters : List ℕ) (marks : List Bool) (letter : ℕ) → is_sure (with_sure letters marks) letter ≡ true →
    Contains letters letter ⊎ (is_sure marks letter ≡ true)
sure-among [] marks letter h = inr h
sure-among (own ∷ letters) marks letter h =
    elim (sure-among letters (slice_set marks own true) letter h) [
      | inl at ↦ let there = at.1 in inl (suc at.0, omega arith, at.2)
      | inr e ↦ elim (cases_eq letter own) [
        | inl same ↦ inl (0, omega arith, sym same)
        | inr other ↦ inr (sym (get_or-set_other marks own letter true false other) ∙ e)
      ]
    ]

-- a letter is sure just because it is one of these
pub sure-is-one : (letters : List ℕ) (letter : ℕ) → is_sure (with_sure letters no_marks) letter ≡ true → Contains letters letter
sure-is-one letters letter h =
    elim (sure-among letters no_marks letter h) [
      | inl at ↦ at
      | inr e ↦ let f : false ≡ true = sym (no_letter 26 letter) ∙ e in absurd cc
    ]

-- ONE PLACE FOR EACH

as-many : (file : List (List ℕ)) (above : ℕ) (chain : List Landmark) (places : List ℕ) → AreAt file above chain places →
    length places ≡ length chain
as-many file above [] places (AreAt.over b) = refl
as-many file above (landmark ∷ chain) [] none = elim none [ ]
as-many file above (landmark ∷ chain) (place ∷ places) (AreAt.next b p l c ps at rest) = ap suc (as-many file place chain places rest)

pub count-places : (file : List (List ℕ)) (chains : List (List Landmark)) (places : List ℕ) → AreEachAt file chains places →
    length places ≡ count_of chains
count-places file [] places AreEachAt.over = refl
count-places file (chain ∷ chains) places (AreEachAt.next c cs own more at rest) =
    length-append own more ∙ ap (λ n. n + length more) (as-many file 0 chain own at)
    ∙ ap (λ n. length chain + n) (count-places file chains more rest)

-- HOW MANY THERE ARE

few-letters : (script : Script) (below count : ℕ) →
    (length (unnamed_below below script count) ≤ below) × (length (unnamed_below below script count) ≤ count)
few-letters script zero count = (omega arith, omega arith)
few-letters script (suc below) zero = (omega arith, omega arith)
few-letters script (suc below) (suc count) =
    elim (script_names below script) as (λ b.
    let letters = elim b as (λ _. List ℕ) [
      | true ↦ unnamed_below below script (suc count)
      | false ↦ below ∷ unnamed_below below script count
    ] in (length letters ≤ suc below) × (length letters ≤ suc count)) [
      | true ↦ let more = few-letters script below (suc count) in let low = more.0 in let few = more.1 in (omega arith, omega arith)
      | false ↦ let more = few-letters script below count in let low = more.0 in let few = more.1 in (omega arith, omega arith)
    ]

-- there are as many as are wanted, or all that the script leaves
abbrev IsTaken : (taken count left : ℕ) → Type 0
IsTaken taken count left = ((taken ≡ count) × (count ≤ left)) ⊎ ((taken ≡ left) × (left ≤ count))

one-more : (taken count left : ℕ) → IsTaken taken count left → IsTaken (suc taken) (suc count) (suc left)
one-more taken count left (inl all) = let is = all.0 in let most = all.1 in inl (ap suc is, omega arith)
one-more taken count left (inr few) = let is = few.0 in let most = few.1 in inr (ap suc is, omega arith)

taken-so : (script : Script) (below count : ℕ) →
    IsTaken (length (unnamed_below below script count)) count (count_unnamed below script)
taken-so script zero count = inr (refl, omega arith)
taken-so script (suc below) zero = inl (refl, omega arith)
taken-so script (suc below) (suc count) =
    elim (script_names below script) as (λ b. IsTaken
    (length (elim b as (λ _. List ℕ) [
      | true ↦ unnamed_below below script (suc count)
      | false ↦ below ∷ unnamed_below below script count
    ])) (suc count)
    (elim b as (λ _. ℕ) [ true ↦ count_unnamed below script | false ↦ suc (count_unnamed below script) ])) [
      | true ↦ taken-so script below (suc count)
      | false ↦ one-more (length (unnamed_below below script count)) count (count_unnamed below script) (taken-so script below count)
    ]

-- there are too few just where the script leaves fewer than are wanted
lettered-by : (script : Script) (count : ℕ) →
    IsTaken (length (letters_for script count)) count (letters_left script) →
    ((length (letters_for script count) == count) ≡ false) ↔ (letters_left script < count)
lettered-by script count (inl all) =
    let is = all.0 in
    let most = all.1 in (
      λ e. let f : true ≡ false = sym (eq-eqb (length (letters_for script count)) count is) ∙ e in absurd cc,
      λ less. let no : ⊥ = omega arith in absurd no,
    )
lettered-by script count (inr few) =
    let is = few.0 in
    let most = few.1 in (
      λ e. elim (cases_eq (letters_left script) count) [
        | inl same ↦
            let f : true ≡ false = sym (eq-eqb (length (letters_for script count)) count (is ∙ same)) ∙ e in absurd cc
        | inr other ↦ omega arith
      ],
      λ less. ne_eqb (length (letters_for script count)) count (λ e. omega arith),
    )

pub too-few-just-so : (script : Script) (chains : List (List Landmark)) →
    (has_letters script chains ≡ false) ↔ (letters_left script < count_of chains)
too-few-just-so script chains = lettered-by script (count_of chains) (taken-so script 26 (count_of chains))

-- the letters of so many landmarks as were counted, if they are fewer than that
pub too-few : (script : Script) (chains : List (List Landmark)) (letters : List ℕ) (count : ℕ) → IsCounted count (count_of chains) →
    letters ≡ letters_for script count → length letters < count → has_letters script chains ≡ false
too-few script chains letters count (inl size) own few =
    let same : letters ≡ letters_of_chains script chains = own ∙ ap (letters_for script) size in
    let long : length letters ≡ length (letters_of_chains script chains) = ap length same in
    ne_eqb (length (letters_of_chains script chains)) (count_of chains) (λ e. omega arith)
too-few script chains letters count (inr most) own few =
    let size = most.0 in
    let more = most.1 in
    let at_most = (few-letters script 26 (count_of chains)).0 in
    ne_eqb (length (letters_of_chains script chains)) (count_of chains) (λ e. omega arith)

-- else there are enough, and they are these
pub enough : (script : Script) (chains : List (List Landmark)) (letters : List ℕ) (count : ℕ) → IsCounted count (count_of chains) →
    letters ≡ letters_for script count → count ≤ length letters →
    (has_letters script chains ≡ true) × (letters ≡ letters_of_chains script chains)
enough script chains letters count (inl size) own many =
    let same : letters ≡ letters_of_chains script chains = own ∙ ap (letters_for script) size in
    let long : length letters ≡ length (letters_of_chains script chains) = ap length same in
    let few = (few-letters script 26 (count_of chains)).1 in
    (eq-eqb (length (letters_of_chains script chains)) (count_of chains) (omega arith), same)
enough script chains letters count (inr most) own many =
    let size = most.0 in
    let long : length letters ≡ length (letters_for script count) = ap length own in
    let at_most = (few-letters script 26 count).0 in
    let no : ⊥ = omega arith in absurd no

-- what is said of there being enough
pub known-just-so : (script : Script) (chains : List (List Landmark)) (known : Bool) → known ≡ has_letters script chains →
    (known ≡ false) ↔ (letters_left script < count_of chains)
known-just-so script chains known is =
    let so = too-few-just-so script chains in
    (λ e. so.0 (sym is ∙ e), λ less. is ∙ so.1 less)

-- and then the landmarks are known by these
pub knows-so : (script : Script) (chains : List (List Landmark)) (letters same : List ℕ) (count : ℕ) (old new : State) →
    IsCounted count (count_of chains) → letters ≡ letters_for script count → count ≤ length letters → same ≡ letters →
    new ≡ with_landmarks same chains old → new ≡ with_landmarks (letters_of_chains script chains) chains old
knows-so script chains letters same count old new size own many is known =
    known ∙ ap (λ (ls : List ℕ). with_landmarks ls chains old) (is ∙ (enough script chains letters count size own many).1)

-- ONE LETTER FURTHER

letter-first : (script : Script) (below more lower fewer : ℕ) → below ≡ suc lower → more ≡ suc fewer →
    script_names lower script ≡ false → unnamed_below below script more ≡ lower ∷ unnamed_below lower script fewer
letter-first script below more lower fewer low some free =
    ap (λ n. unnamed_below n script more) low ∙ ap (λ n. unnamed_below (suc lower) script n) some
    ∙ ap (λ b. elim b as (λ _. List ℕ) [
      | true ↦ unnamed_below lower script (suc fewer)
      | false ↦ lower ∷ unnamed_below lower script fewer
    ]) free

pub letter-taken : (script : Script) (letters pushed all : List ℕ) (below more lower fewer letter : ℕ) → below ≡ suc lower →
    more ≡ suc fewer → letter ≡ lower → script_names letter script ≡ false → pushed ≡ letters ++ letter ∷ [] →
    letters ++ unnamed_below below script more ≡ all → pushed ++ unnamed_below lower script fewer ≡ all
letter-taken script letters pushed all below more lower fewer letter low some is free new h =
    let rest : List ℕ = unnamed_below lower script fewer in
    ap (λ (ls : List ℕ). ls ++ rest) (new ∙ ap (λ x. letters ++ x ∷ []) is) ∙ append_assoc letters (lower ∷ []) rest
    ∙ ap (λ (ls : List ℕ). letters ++ ls)
    (sym (letter-first script below more lower fewer low some (ap (λ x. script_names x script) (sym is) ∙ free)))
    ∙ h
