-- What a zone says, by its known bounds alone.
use Rattle.std.proofs.Common.{◌≡◌, ◌<◌, ◌+◌, ◌/◌, ◌%◌, ◌==◌, ◌++◌, ◌∷◌, [], ℕ, zero, suc, ℤ, pos, Bool, true, false, not, ◌&&◌, ◌||◌, List, length, get_or, take, Option, None, Some, inl, inr, arith, refl, ◌∙◌, sym, ap, subst, append-nil}
use Rattle.std.specs.List.{All, flat_map}
use Rattle.std.proofs.lemmas.Grind.{flat_map-append}
use Rattle.std.proofs.lemmas.List.{take_more}
use Rattle.std.proofs.lemmas.List.Elements.{All-nil, All-cons, All-head, All-tail}
use Rattle.std.proofs.lemmas.Bool.{cases_Bool}
use Rattle.zones.specs.Zone.{Bounds}
use Rattle.zones.specs.Limits.{IsZone}
use Rattle.zones.specs.Steps.{any_bound}
use Rattle.zones.specs.KnownBounds.{PlacedBound, is_unknown, known_from, known_bounds}
use Rattle.zones.proofs.Listing.{option_eq-true, option_eq-itself}
use Rattle.ed_rules.specs.Formed.{has_name, may_say, ZoneIsFormed}
use Rattle.cert_check.specs.text.Text.{Word, spaced, bound_words, bounds_words}
use Rattle.cert_check.proofs.texts.Written.{then-words}
use Rattle.cert_check.proofs.texts.Worded.{cond-true, cond-false}

unknown-any : (place : ℕ) (b : Option ℤ) → is_unknown place b ≡ true → b ≡ any_bound (place / 32) (place % 32)
unknown-any place b h = option_eq-true b (any_bound (place / 32) (place % 32)) h

pub any-unknown : (place : ℕ) (b : Option ℤ) → b ≡ any_bound (place / 32) (place % 32) → is_unknown place b ≡ true
any-unknown place b e = rw e (option_eq-itself (any_bound (place / 32) (place % 32)))

known-skip : (place : ℕ) (b : Option ℤ) (bounds : Bounds) → is_unknown place b ≡ true →
    known_from place (b ∷ bounds) ≡ known_from (suc place) bounds
known-skip place b bounds h = cond-true (is_unknown place b) _ _ h

known-next : (place : ℕ) (b : Option ℤ) (bounds : Bounds) → is_unknown place b ≡ false →
    known_from place (b ∷ bounds) ≡ (record { place = place; bound = b }) ∷ known_from (suc place) bounds
known-next place b bounds h = cond-false (is_unknown place b) _ _ h

-- WHAT HOLDS OF EACH KNOWN BOUND

-- a bound at a place
abbrev pub placed : (place : ℕ) → Option ℤ → PlacedBound
placed place b = record { place = place; bound = b }

known-all : (P : PlacedBound → Type 0) (place : ℕ) (bounds : Bounds) →
    ((k : ℕ) → k < length bounds → is_unknown (place + k) (get_or bounds k None) ≡ false →
    P (placed (place + k) (get_or bounds k None))) → All P (known_from place bounds)
known-all P place [] h = All-nil P
known-all P place (b ∷ bounds) h =
    let later : All P (known_from (suc place) bounds) =
    known-all P (suc place) bounds (λ k l e.
    let at : suc place + k ≡ place + suc k = omega arith in
    subst (λ (i : ℕ). P (placed i (get_or bounds k None))) (sym at)
    (h (suc k) (omega arith) (subst (λ (i : ℕ). is_unknown i (get_or bounds k None) ≡ false) at e))) in
    elim (cases_Bool (is_unknown place b)) [
      | inl e ↦ subst (λ (bs : List PlacedBound). All P bs) (sym (known-skip place b bounds e)) later
      | inr e ↦
          let at : place + 0 ≡ place = omega arith in
          let here : P (placed place b) =
          subst (λ (i : ℕ). P (placed i b)) at (h 0 (omega arith) (subst (λ (i : ℕ). is_unknown i b ≡ false) (sym at) e)) in
          subst (λ (bs : List PlacedBound). All P bs) (sym (known-next place b bounds e))
          (All-cons P (placed place b) (known_from (suc place) bounds) here later)
    ]

all-known : (P : PlacedBound → Type 0) (place : ℕ) (bounds : Bounds) → All P (known_from place bounds) → (k : ℕ) →
    k < length bounds → is_unknown (place + k) (get_or bounds k None) ≡ false → P (placed (place + k) (get_or bounds k None))
all-known P place [] h k l e = absurd (omega arith)
all-known P place (b ∷ bounds) h zero l e =
    let at : place + 0 ≡ place = omega arith in
    let here : is_unknown place b ≡ false = subst (λ (i : ℕ). is_unknown i b ≡ false) at e in
    let all = subst (λ (bs : List PlacedBound). All P bs) (known-next place b bounds here) h in
    subst (λ (i : ℕ). P (placed i b)) (sym at) (All-head P (placed place b) (known_from (suc place) bounds) all)
all-known P place (b ∷ bounds) h (suc k) l e =
    let at : suc place + k ≡ place + suc k = omega arith in
    let later : All P (known_from (suc place) bounds) = elim (cases_Bool (is_unknown place b)) [
      | inl u ↦ subst (λ (bs : List PlacedBound). All P bs) (known-skip place b bounds u) h
      | inr u ↦ All-tail P (placed place b) (known_from (suc place) bounds)
          (subst (λ (bs : List PlacedBound). All P bs) (known-next place b bounds u) h)
    ] in
    subst (λ (i : ℕ). P (placed i (get_or bounds k None))) at
    (all-known P (suc place) bounds later k (omega arith) (subst (λ (i : ℕ). is_unknown i (get_or bounds k None) ≡ false) (sym at) e))

-- it holds of each known bound of a zone where it holds of each bound that isn't unknown
pub zone-all : (P : PlacedBound → Type 0) (zone : Bounds) →
    ((k : ℕ) → k < length zone → is_unknown k (get_or zone k None) ≡ false → P (placed k (get_or zone k None))) →
    All P (known_bounds zone)
unfolding known_bounds
zone-all P zone h =
    known-all P 0 zone (λ k l e.
    let at : 0 + k ≡ k = omega arith in
    subst (λ (i : ℕ). P (placed i (get_or zone k None))) (sym at)
    (h k l (subst (λ (i : ℕ). is_unknown i (get_or zone k None) ≡ false) at e)))

all-zone : (P : PlacedBound → Type 0) (zone : Bounds) → All P (known_bounds zone) → (k : ℕ) → k < length zone →
    is_unknown k (get_or zone k None) ≡ false → P (placed k (get_or zone k None))
unfolding known_bounds
all-zone P zone h k l e =
    let at : 0 + k ≡ k = omega arith in
    subst (λ (i : ℕ). P (placed i (get_or zone k None))) at
    (all-known P 0 zone h k l (subst (λ (i : ℕ). is_unknown i (get_or zone k None) ≡ false) (sym at) e))

-- WHAT MAY BE SAID

-- a bound may be said beside these marks
abbrev pub MaySay : List Bool → PlacedBound → Type 0
MaySay marks b = may_say marks (b.place / 32) (b.place % 32) b.bound ≡ true

-- the same by its names and number
pub may-placed : (marks : List Bool) (x y : ℕ) (v : Option ℤ) (b : PlacedBound) → x ≡ b.place / 32 → y ≡ b.place % 32 →
    v ≡ b.bound → may_say marks x y v ≡ may_say marks (b.place / 32) (b.place % 32) b.bound
may-placed marks x y v b is_x is_y is_v =
    ap (λ (p : ℕ). may_say marks p y v) is_x ∙ ap (λ (q : ℕ). may_say marks (b.place / 32) q v) is_y
    ∙ ap (λ (u : Option ℤ). may_say marks (b.place / 32) (b.place % 32) u) is_v

pub any-said : (marks : List Bool) (x y : ℕ) → may_say marks x y (any_bound x y) ≡ true
any-said marks x y = elim (cases_Bool (x == y)) [
  | inl h ↦ ap (λ (b : Option ℤ). may_say marks x y b) (cond-true (x == y) (Some (pos 0)) None h)
      ∙ ap (λ (b : Bool). b || (has_name marks x && has_name marks y)) h
  | inr h ↦ ap (λ (b : Option ℤ). may_say marks x y b) (cond-false (x == y) (Some (pos 0)) None h) ∙ ap (λ (b : Bool). not b) h
]

-- a zone is formed where each of its known bounds may be said
pub says-formed : (marks : List Bool) (zone : Bounds) → length marks ≡ 26 → IsZone zone → All (MaySay marks) (known_bounds zone) →
    ZoneIsFormed marks zone
says-formed marks zone size is_zone h = record {
  letters = size;
  is_zone = is_zone;
  says = λ k l.
      let long = is_zone.size in
      elim (cases_Bool (is_unknown k (get_or zone k None))) [
        | inl e ↦ ap (λ (b : Option ℤ). may_say marks (k / 32) (k % 32) b) (unknown-any k (get_or zone k None) e)
            ∙ any-said marks (k / 32) (k % 32)
        | inr e ↦ all-zone (MaySay marks) zone h k (omega arith) e
      ];
}

pub formed-says : (marks : List Bool) (zone : Bounds) → ZoneIsFormed marks zone → All (MaySay marks) (known_bounds zone)
formed-says marks zone h = zone-all (MaySay marks) zone (λ k l e. let size = h.is_zone.size in h.says k (omega arith))

-- THE WORDS

-- what is said of a bound with its place
abbrev pub placed_words : PlacedBound → List Word
placed_words b = bound_words (b.place / 32) (b.place % 32) b.bound

-- the same by its names and number
pub words-placed : (x y : ℕ) (v : Option ℤ) (b : PlacedBound) → x ≡ b.place / 32 → y ≡ b.place % 32 → v ≡ b.bound →
    bound_words x y v ≡ placed_words b
words-placed x y v b is_x is_y is_v =
    ap (λ (p : ℕ). bound_words p y v) is_x ∙ ap (λ (q : ℕ). bound_words (b.place / 32) q v) is_y
    ∙ ap (λ (u : Option ℤ). bound_words (b.place / 32) (b.place % 32) u) is_v

any-words : (x y : ℕ) → bound_words x y (any_bound x y) ≡ []
any-words x y = elim (cases_Bool (x == y)) [
  | inl h ↦ ap (λ (b : Option ℤ). bound_words x y b) (cond-true (x == y) (Some (pos 0)) None h) ∙ cond-true (x == y) [] _ h
  | inr h ↦ ap (λ (b : Option ℤ). bound_words x y b) (cond-false (x == y) (Some (pos 0)) None h)
]

words-from : (place : ℕ) (bounds : Bounds) → bounds_words place bounds ≡ flat_map placed_words (known_from place bounds)
words-from place [] = refl
words-from place (b ∷ bounds) =
    let later = words-from (suc place) bounds in
    elim (cases_Bool (is_unknown place b)) [
      | inl e ↦
          let none : bound_words (place / 32) (place % 32) b ≡ [] =
          ap (λ (v : Option ℤ). bound_words (place / 32) (place % 32) v) (unknown-any place b e)
          ∙ any-words (place / 32) (place % 32) in
          ap (λ (ws : List Word). ws ++ bounds_words (suc place) bounds) none ∙ later
          ∙ ap (λ (bs : List PlacedBound). flat_map placed_words bs) (sym (known-skip place b bounds e))
      | inr e ↦
          ap (λ (ws : List Word). bound_words (place / 32) (place % 32) b ++ ws) later
          ∙ ap (λ (bs : List PlacedBound). flat_map placed_words bs) (sym (known-next place b bounds e))
    ]

-- a zone says what its known bounds say
pub zone-words : (zone : Bounds) → bounds_words 0 zone ≡ flat_map placed_words (known_bounds zone)
unfolding known_bounds
zone-words zone = words-from 0 zone

-- the words of one more
pub one-bound-more : (bounds : List PlacedBound) (i : ℕ) (b : PlacedBound) (o p q : List ℕ) → i < length bounds →
    b ≡ get_or bounds i b → p ≡ o ++ spaced (flat_map placed_words (take i bounds)) → q ≡ p ++ spaced (placed_words b) →
    q ≡ o ++ spaced (flat_map placed_words (take (i + 1) bounds))
one-bound-more bounds i b o p q h is is_p is_q =
    let now : flat_map placed_words (take i bounds) ++ placed_words b ≡ flat_map placed_words (take (i + 1) bounds) =
    sym (
    ap (λ (bs : List PlacedBound). flat_map placed_words bs) (take_more bounds i b h)
    ∙ flat_map-append placed_words (take i bounds) (get_or bounds i b ∷ [])
    ∙ ap (λ (d : PlacedBound). flat_map placed_words (take i bounds) ++ (placed_words d ++ [])) (sym is)
    ∙ ap (λ (ws : List Word). flat_map placed_words (take i bounds) ++ ws) (append-nil (placed_words b))) in
    then-words o p q (flat_map placed_words (take i bounds)) (placed_words b) is_p is_q ∙ ap (λ (ws : List Word). o ++ spaced ws) now
