-- The bounds that a text says, one after another, and the zone that they give.
use Rattle.std.proofs.Common.{◌≡◌, ◌≢◌, ◌<◌, ◌≤◌, suc, ◌+◌, ◌-◌, ◌*◌, ◌/◌, ◌%◌, ◌^◌, ◌++◌, ◌∷◌, [], ℕ, ℤ, true, false, ◌&&◌, List, get_or, map, Option, None, Some, inl, inr, arith, refl, ◌∙◌, sym, ap, subst, append_assoc, append-nil}
use Rattle.std.specs.Prelude.{nat_lt, nat_le}
use Rattle.std.specs.List.{All, flat_map}
use Rattle.std.proofs.lemmas.Bool.{lt-ltb, le-leb, and_from, or_left, or_right, cases_Bool}
use Rattle.std.proofs.lemmas.List.{map-append}
use Rattle.std.proofs.lemmas.List.Elements.{All-nil, All-cons, All-head, All-tail, All-append, All-weaker}
use Rattle.std.proofs.lemmas.Grind.{flat_map-append}
use lib.Signed.{mag}
use Rattle.zones.specs.Bound.{IsKept}
use Rattle.zones.specs.Zone.{Bounds}
use Rattle.zones.specs.Limits.{IsZone}
use Rattle.zones.specs.KnownBounds.{PlacedBound, known_bounds}
use Rattle.zones.specs.Written.{Rise}
use Rattle.ed_rules.specs.Marks.{is_sure}
use Rattle.ed_rules.specs.Formed.{says_nothing, has_name, may_say, ZoneIsFormed}
use Rattle.cert_check.specs.text.Text.{Word, space, spaced, bound_words, bounds_words}
use Rattle.cert_check.specs.text.Reading.{all_marks, IsFirstWord, IsNamed, number_word, spoken_word, IsSpoken, said_word, IsSaid}
use Rattle.cert_check.proofs.texts.Separated.{Above, later-of}
use Rattle.cert_check.proofs.texts.Worded.{cond-false, bound-above, bound-same}
use Rattle.cert_check.proofs.texts.Cutting.{unspaced, ends, word-same}
use Rattle.cert_check.proofs.texts.Zoned.{silent, spoken, said, nothing, small}
use Rattle.cert_check.proofs.texts.ReadLetters.{get_or-all}
use Rattle.cert_check.proofs.texts.Known.{placed, placed_words, MaySay, any-unknown, zone-all, zone-words, says-formed}

-- ONE BOUND

pub spoken-is : (b : PlacedBound) (s : IsSpoken b) → spoken_word b ≡ said_word (b.place / 32) (b.place % 32) s.number
spoken-is b s = ap (λ (v : Option ℤ). number_word (b.place / 32) (b.place % 32) v) s.is

pub spoken-small : (b : PlacedBound) (s : IsSpoken b) → mag s.number < 2 ^ 63
spoken-small b s = small s.number (subst (λ (v : Option ℤ). IsKept v) s.is s.kept)

pub spoken-above : (b : PlacedBound) → IsSpoken b → Above 32 (spoken_word b)
spoken-above b s =
    subst (λ (w : Word). Above 32 w) (sym (spoken-is b s)) (bound-above (b.place / 32) (b.place % 32) s.number (spoken-small b s))

same-placed : (a b : PlacedBound) → a.place ≡ b.place → a.bound ≡ b.bound → a ≡ b
same-placed a b e f = ap (λ (k : ℕ). placed k a.bound) e ∙ ap (λ (v : Option ℤ). placed b.place v) f

pub spoken-same : (a b : PlacedBound) → IsSpoken a → IsSpoken b → spoken_word a ≡ spoken_word b → a ≡ b
spoken-same a b s t e =
    let same = bound-same (a.place / 32) (a.place % 32) s.number (b.place / 32) (b.place % 32) t.number s.row s.column t.row t.column
    (spoken-small a s) (spoken-small b t)
    (sym (spoken-is a s) ∙ e ∙ spoken-is b t) in
    let row = same.row in
    let column = same.column in
    same-placed a b (omega arith) (s.is ∙ ap (λ (n : ℤ). Some n) same.number ∙ sym t.is)

-- THE FIRST WORD OF A TEXT

-- a text whose first word says a bound
pub first-same : (b d : PlacedBound) (words : List Word) (text left : List ℕ) → IsSpoken b → IsSpoken d →
    (space ∷ spoken_word b) ++ spaced words ≡ text → IsFirstWord text (spoken_word d) left → (b ≡ d) × (spaced words ≡ left)
first-same b d words text left s t e first =
    let both = word-same (spoken_word b) (spoken_word d) (spaced words) left (unspaced (spoken_word b) (spoken-above b s)) first.1.0
    (ends words) first.1.1 (later-of (e ∙ first.0)) in
    (spoken-same b d s t both.0, both.1)

-- the number that a text says first is one that zones keep, where the text says a bound
pub first-kept : (text left : List ℕ) (x y : ℕ) (number : ℤ) → IsSaid x y number left text →
    (b : PlacedBound) (words : List Word) → IsSpoken b → (space ∷ spoken_word b) ++ spaced words ≡ text → IsKept (Some number)
first-kept text left x y number said b words s e =
    let both = word-same (spoken_word b) (said_word x y number) (spaced words) left (unspaced (spoken_word b) (spoken-above b s))
    (unspaced (said_word x y number) (bound-above x y number said.signed)) (ends words) said.ends (later-of (e ∙ sym said.is)) in
    let same = bound-same (b.place / 32) (b.place % 32) s.number x y number s.row s.column said.row said.column (spoken-small b s)
    said.signed (sym (spoken-is b s) ∙ both.0) in
    subst (λ (n : ℤ). IsKept (Some n)) same.number (subst IsKept s.is s.kept)

-- a number that is said and kept is a spoken bound
pub first-spoken : (text left : List ℕ) (x y : ℕ) (number : ℤ) (b : PlacedBound) → IsSaid x y number left text → x < 32 →
    y < 32 → b.place ≡ 32 * x + y → b.bound ≡ Some number → IsKept b.bound → IsSpoken b × IsFirstWord text (spoken_word b) left
first-spoken text left x y number b said hx hy at is kept =
    let row : x ≡ b.place / 32 = omega arith in
    let column : y ≡ b.place % 32 = omega arith in
    let s : IsSpoken b =
    record {
      placed = omega arith;
      number = number;
      is = is;
      kept = kept;
      row = subst IsNamed row said.row;
      column = subst IsNamed column said.column;
    } in
    let word : said_word x y number ≡ spoken_word b =
    ap (λ (p : ℕ). said_word p y number) row ∙ ap (λ (q : ℕ). said_word (b.place / 32) q number) column ∙ sym (spoken-is b s) in (
      s,
      (sym said.is ∙ ap (λ (w : Word). (space ∷ w) ++ left) word, (unspaced (spoken_word b) (spoken-above b s), said.ends)),
    )

-- BOUND AFTER BOUND

-- what is left of a text says spoken bounds, which rise
pub record SaysRest (from : ℕ) (left : List ℕ) : Type 0 where
  pub later : List PlacedBound
  pub spoken : All IsSpoken later
  pub rises : Rise from later
  pub says : spaced (map spoken_word later) ≡ left

-- the first of them, where a bound is read first
says-first : (bounds : List PlacedBound) (from : ℕ) (left later : List ℕ) (d : PlacedBound) → All IsSpoken bounds →
    Rise from bounds → spaced (map spoken_word bounds) ≡ left → IsSpoken d → IsFirstWord left (spoken_word d) later →
    (from ≤ d.place) × SaysRest (suc d.place) later
says-first [] from left later d all rises e s first = let none : [] ≡ space ∷ (spoken_word d ++ later) = e ∙ first.0 in absurd cc
says-first (b ∷ bounds) from left later d all rises e s first =
    let both = first-same b d (map spoken_word bounds) left later (All-head IsSpoken b bounds all) s e first in (
      subst (λ (k : PlacedBound). from ≤ k.place) both.0 rises.0,
      record {
        later = bounds;
        spoken = All-tail IsSpoken b bounds all;
        rises = subst (λ (k : PlacedBound). Rise (suc k.place) bounds) both.0 rises.1;
        says = both.1;
      },
    )

pub rest-first : (from : ℕ) (left later : List ℕ) (d : PlacedBound) → IsSpoken d → IsFirstWord left (spoken_word d) later →
    SaysRest from left → (from ≤ d.place) × SaysRest (suc d.place) later
rest-first from left later d s first r = says-first r.later from left later d r.spoken r.rises r.says s first

says-none : (bounds : List PlacedBound) (left : List ℕ) → All IsSpoken bounds → spaced (map spoken_word bounds) ≡ left →
    left ≢ [] → ((b : PlacedBound) (words : List Word) → IsSpoken b → (space ∷ spoken_word b) ++ spaced words ≢ left) → ⊥
says-none [] left all e some absent = some (sym e)
says-none (b ∷ bounds) left all e some absent = absent b (map spoken_word bounds) (All-head IsSpoken b bounds all) e

pub rest-none : (from : ℕ) (left : List ℕ) → left ≢ [] →
    ((b : PlacedBound) (words : List Word) → IsSpoken b → (space ∷ spoken_word b) ++ spaced words ≢ left) → SaysRest from left →
    ⊥
rest-none from left some absent r = says-none r.later left r.spoken r.says some absent

-- one bound further
pub said-further : (bounds more : List PlacedBound) (d : PlacedBound) (left later text : List ℕ) → more ≡ bounds ++ d ∷ [] →
    IsFirstWord left (spoken_word d) later → spaced (map spoken_word bounds) ++ left ≡ text →
    spaced (map spoken_word more) ++ later ≡ text
said-further bounds more d left later text is first e =
    ap (λ (bs : List PlacedBound). spaced (map spoken_word bs) ++ later) is
    ∙ ap (λ (ws : List Word). spaced ws ++ later) (map-append spoken_word bounds (d ∷ []))
    ∙ ap (λ (t : List ℕ). t ++ later) (flat_map-append (λ (w : Word). space ∷ w) (map spoken_word bounds) (spoken_word d ∷ []))
    ∙ append_assoc (spaced (map spoken_word bounds)) (spaced (spoken_word d ∷ [])) later
    ∙ ap (λ (t : List ℕ). spaced (map spoken_word bounds) ++ t)
    (ap (λ (t : List ℕ). t ++ later) (append-nil (space ∷ spoken_word d)) ∙ sym first.0)
    ∙ e

pub spoken-further : (bounds more : List PlacedBound) (d : PlacedBound) → more ≡ bounds ++ d ∷ [] → All IsSpoken bounds →
    IsSpoken d → All IsSpoken more
spoken-further bounds more d is all s =
    subst (λ (bs : List PlacedBound). All IsSpoken bs) (sym is)
    (All-append IsSpoken bounds (d ∷ []) all (All-cons IsSpoken d [] s (All-nil IsSpoken)))

-- the same text says the same bounds
pub bounds-same : (a b : List PlacedBound) → All IsSpoken a → All IsSpoken b →
    spaced (map spoken_word a) ≡ spaced (map spoken_word b) → a ≡ b
bounds-same [] [] s t e = refl
bounds-same [] (d ∷ b) s t e = absurd cc
bounds-same (c ∷ a) [] s t e = absurd cc
bounds-same (c ∷ a) (d ∷ b) s t e =
    let first_c : IsSpoken c = All-head IsSpoken c a s in
    let first_d : IsSpoken d = All-head IsSpoken d b t in
    let both = word-same (spoken_word c) (spoken_word d) (spaced (map spoken_word a)) (spaced (map spoken_word b))
    (unspaced (spoken_word c) (spoken-above c first_c))
    (unspaced (spoken_word d) (spoken-above d first_d)) (ends (map spoken_word a)) (ends (map spoken_word b)) (later-of e) in
    let first : c ≡ d = spoken-same c d first_c first_d both.0 in
    let later : a ≡ b = bounds-same a b (All-tail IsSpoken c a s) (All-tail IsSpoken d b t) both.1 in
    cc

-- A ZONE

-- a bound that says something, where it is a number
abbrev SaysSome : PlacedBound → Type 0
SaysSome b = (number : ℤ) → b.bound ≡ Some number → says_nothing (b.place / 32) (b.place % 32) number ≡ false

known-some : (zone : Bounds) → All SaysSome (known_bounds zone)
known-some zone =
    zone-all SaysSome zone (λ k l e number is.
    elim (cases_Bool (says_nothing (k / 32) (k % 32) number)) as (λ _. says_nothing (k / 32) (k % 32) number ≡ false) [
      | inl t ↦ let unknown = any-unknown k (get_or zone k None) (is ∙ nothing (k / 32) (k % 32) number t) in absurd cc
      | inr f ↦ f
    ])

placed-spoken : (bounds : List PlacedBound) → All IsSpoken bounds → All SaysSome bounds →
    flat_map placed_words bounds ≡ map spoken_word bounds
placed-spoken [] s t = refl
placed-spoken (b ∷ bounds) s t =
    let first : IsSpoken b = All-head IsSpoken b bounds s in
    let here : placed_words b ≡ spoken_word b ∷ [] =
    ap (λ (v : Option ℤ). bound_words (b.place / 32) (b.place % 32) v) first.is
    ∙ cond-false (says_nothing (b.place / 32) (b.place % 32) first.number) [] _ (All-head SaysSome b bounds t first.number first.is)
    ∙ ap (λ (w : Word). w ∷ []) (sym (spoken-is b first)) in
    ap (λ (ws : List Word). ws ++ flat_map placed_words bounds) here
    ∙ ap (λ (ws : List Word). spoken_word b ∷ ws) (placed-spoken bounds (All-tail IsSpoken b bounds s) (All-tail SaysSome b bounds t))

-- a zone whose known bounds are spoken says just these
pub spoken-zone : (zone : Bounds) → All IsSpoken (known_bounds zone) → bounds_words 0 zone ≡ map spoken_word (known_bounds zone)
spoken-zone zone s = zone-words zone ∙ placed-spoken (known_bounds zone) s (known-some zone)

-- a zone that speaks of the lines and of any letters has spoken bounds alone
pub formed-spoken : (zone : Bounds) → ZoneIsFormed all_marks zone → All IsSpoken (known_bounds zone)
formed-spoken zone h =
    zone-all IsSpoken zone (λ k l e.
    let size = h.is_zone.size in
    elim (said all_marks (k / 32) (k % 32) (get_or zone k None) (h.says k (omega arith)) (h.is_zone.kept k)) as (λ _. IsSpoken
    (placed k (get_or zone k None))) [
      | silent is none ↦ let unknown = any-unknown k (get_or zone k None) is in absurd cc
      | spoken c is one hx hy hc ↦ record { placed = omega arith; number = c; is = is; kept = h.is_zone.kept k; row = hx; column = hy }
    ])

named-has : (place : ℕ) → place < 32 → IsNamed place → has_name all_marks place ≡ true
named-has place l h = elim h [
  | inl low ↦ or_left (nat_lt place 3) (nat_le 6 place && is_sure all_marks (place - 6)) (lt-ltb place 3 low)
  | inr high ↦
      or_right (nat_lt place 3) (nat_le 6 place && is_sure all_marks (place - 6))
      (and_from (nat_le 6 place) (is_sure all_marks (place - 6)) (le-leb 6 place high) (get_or-all (place - 6) false (omega arith)))
]

spoken-may_say : (b : PlacedBound) → IsSpoken b → MaySay all_marks b
spoken-may_say b s =
    let x = b.place / 32 in
    let y = b.place % 32 in
    let low = s.placed in
    ap (λ (v : Option ℤ). may_say all_marks x y v) s.is
    ∙ or_right (says_nothing x y s.number) (has_name all_marks x && has_name all_marks y)
    (and_from (has_name all_marks x) (has_name all_marks y) (named-has x (omega arith) s.row) (named-has y (omega arith) s.column))

pub spoken-formed : (zone : Bounds) → IsZone zone → All IsSpoken (known_bounds zone) → ZoneIsFormed all_marks zone
spoken-formed zone h s = says-formed all_marks zone refl h (All-weaker IsSpoken (MaySay all_marks) spoken-may_say (known_bounds zone) s)
