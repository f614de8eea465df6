-- Landmarks have one place or none.
use Rattle.std.proofs.Common.{◌≡◌, ◌<◌, ◌≤◌, ◌-◌, ℕ, Bool, true, false, List, [], ◌∷◌, ◌++◌, length, refl, ◌∙◌, sym, ap, subst, inl, inr, ◌⊎◌, arith}
use Rattle.std.specs.Prelude.{All}
use Rattle.std.proofs.lemmas.List.{drop_at}
use Rattle.std.proofs.lemmas.List.Elements.{All-head, All-drop, All-same}
use Rattle.landmarks.specs.declared.which.Which.{Which}
use Rattle.landmarks.specs.declared.which.Which.TheVariants.{First, Only, Numbered}
use Rattle.landmarks.specs.declared.landmark.Landmark.{Landmark}
use Rattle.landmarks.specs.declared.misplaced.Misfit.{Misfit}
use Rattle.landmarks.specs.declared.misplaced.Misplaced.{Misplaced}
use Rattle.landmarks.specs.Places.{Matches, Differs, NoneMatches, IsFirstBelow, IsSought, IsAlone, HasDistances, IsAt, AreAt, over, next, last_of}
use Rattle.landmarks.specs.Misplaced.{IsNowhere, IsBeyond, IsWrongDistance, near, late, IsAnother, IsWrong, missing, beyond, far, repeated, unmatched, matched, between, IsMisplaced}

-- ONE LINE IS LOOKED FOR

both : (b : Bool) → b ≡ true → b ≡ false → ⊥
both b t f = cc

apart : (m n : ℕ) → (m < n) ⊎ ((m ≡ n) ⊎ (n < m))
apart m n = grind arith

first-one : (lines : List (List ℕ)) (pattern : List ℕ) (before m n : ℕ) → IsFirstBelow lines pattern before m → IsFirstBelow lines pattern before n → m ≡ n
first-one lines pattern before m n one other = elim (apart m n) [
  | inl h ↦ absurd (both _ one.matched (other.first m one.below (omega arith)))
  | inr h ↦ elim h [ inl e ↦ e | inr g ↦ absurd (both _ other.matched (one.first n other.below (omega arith))) ]
]

sought-one : (lines : List (List ℕ)) (which : Which) (before m n : ℕ) → IsSought lines which before m → IsSought lines which before n → m ≡ n
sought-one lines (First pattern) before m n one other = first-one lines pattern before m n one other
sought-one lines (Only pattern) before m n one other = first-one lines pattern before m n one other
sought-one lines (Numbered number) before m n one other = one ∙ sym other

pub places-one : (lines : List (List ℕ)) (before : ℕ) (chain : List Landmark) (places others : List ℕ) → AreAt lines before chain places → AreAt lines before chain others → places ≡ others
places-one lines before [] places others (over b) (over c) = refl
places-one lines before (landmark ∷ chain) [] others none _ = elim none [ ]
places-one lines before (landmark ∷ chain) (place ∷ places) [] _ none = elim none [ ]
places-one lines before (landmark ∷ chain) (place ∷ places) (other ∷ others) (next b p l c ps at rest) (next b' p' l' c' ps' at' rest') =
    let same : place ≡ other = sought-one lines landmark.which before place other at.sought at'.sought in
    let rest'' : AreAt lines place chain others = subst (λ n. AreAt lines n chain others) (sym same) rest' in
    ap (λ n. n ∷ places) same ∙ ap (λ ns. other ∷ ns) (places-one lines place chain places others rest rest'')

-- THE LANDMARKS BEFORE ONE

-- those before one have their places, and it has its own below the last of them
record Split (lines : List (List ℕ)) (before : ℕ) (front : List Landmark) (landmark : Landmark) (places : List ℕ) : Type 0 where
  earlier : List ℕ
  place : ℕ
  placed : AreAt lines before front earlier
  at : IsAt lines (last_of before earlier) landmark place

split : (lines : List (List ℕ)) (before : ℕ) (front : List Landmark) (landmark : Landmark) (rest : List Landmark) (places : List ℕ) →
    AreAt lines before (front ++ landmark ∷ rest) places → Split lines before front landmark places
split lines before [] landmark rest [] none = elim none [ ]
split lines before (l ∷ front) landmark rest [] none = elim none [ ]
split lines before [] landmark rest (place ∷ places) (next b p l c ps at more) = record { earlier = []; place = place; placed = over before; at = at }
split lines before (l ∷ front) landmark rest (place ∷ places) (next b p m c ps at more) =
    let s = split lines place front landmark rest places more in
    record { earlier = place ∷ s.earlier; place = s.place; placed = next before place l front s.earlier at s.placed; at = s.at }

-- one more after the last
pub placed-more : (lines : List (List ℕ)) (before : ℕ) (front : List Landmark) (places : List ℕ) (landmark : Landmark) (place : ℕ) → AreAt lines before front places →
    IsAt lines (last_of before places) landmark place → AreAt lines before (front ++ landmark ∷ []) (places ++ place ∷ [])
placed-more lines before [] places landmark place (over b) at = next before place landmark [] [] at (over place)
placed-more lines before (l ∷ front) [] landmark place none at = elim none [ ]
placed-more lines before (l ∷ front) (p ∷ places) landmark place (next b q m c ps one more) at =
    next before p l (front ++ landmark ∷ []) (places ++ place ∷ []) one (placed-more lines p front places landmark place more at)

pub last-more : (before : ℕ) (places : List ℕ) (place : ℕ) → last_of before (places ++ place ∷ []) ≡ place
last-more before [] place = refl
last-more before (p ∷ places) place = last-more p places place

-- NONE WHERE ONE IS WRONG

all-here : (P : List ℕ → Type 0) (patterns front rest : List (List ℕ)) (pattern : List ℕ) → patterns ≡ front ++ pattern ∷ rest → All P patterns → P pattern
all-here P patterns front rest pattern cut h =
    let from : All P (pattern ∷ rest) = subst (λ (ps : List (List ℕ)). All P ps) (drop_at front (pattern ∷ rest) (length front) refl) (All-drop P (length front) (front ++ pattern ∷ rest) (All-same P (front ++ pattern ∷ rest) patterns (sym cut) h)) in
    All-head P pattern rest from

nowhere-wrong : (lines : List (List ℕ)) (which : Which) (before place : ℕ) → IsNowhere lines which before → IsSought lines which before place → place ≤ length lines → ⊥
nowhere-wrong lines (First pattern) before place none at inside = both _ at.matched (none place at.below inside)
nowhere-wrong lines (Only pattern) before place none at inside = both _ at.matched (none place at.below inside)
nowhere-wrong lines (Numbered number) before place none at inside = none

beyond-wrong : (lines : List (List ℕ)) (which : Which) (before place sought : ℕ) → IsBeyond lines which sought → IsSought lines which before place → place ≤ length lines → ⊥
beyond-wrong lines (First pattern) before place sought none at inside = none
beyond-wrong lines (Only pattern) before place sought none at inside = none
beyond-wrong lines (Numbered number) before place sought none at inside = omega (arith, none.1, at, inside)

distance-wrong : (last before : ℕ) (landmark : Landmark) (place : ℕ) (why : Misfit) → IsWrongDistance last before landmark place why → HasDistances last before landmark place → ⊥
distance-wrong last before landmark place why (near h) d = elim h [ inl a ↦ omega (arith, a, d.below) | inr a ↦ omega (arith, a, d.gap) ]
distance-wrong last before landmark place why (late a b h) d = omega (arith, h, d.tail)

another-wrong : (lines : List (List ℕ)) (which : Which) (place other : ℕ) → IsAnother lines which place other → IsAlone lines which place → ⊥
another-wrong lines (First pattern) place other h alone = h
another-wrong lines (Numbered number) place other h alone = h
another-wrong lines (Only pattern) place other h alone = elim (apart other place) [
  | inl less ↦ both _ h.3 (alone.0 other h.1 (omega (arith, less)))
  | inr more ↦ elim more [ inl e ↦ h.0 e | inr greater ↦ both _ h.3 (alone.1 other greater h.2) ]
]

wrong-at : (lines : List (List ℕ)) (before : ℕ) (landmark : Landmark) (why : Misfit) (place : ℕ) → IsWrong lines before landmark why → IsAt lines before landmark place → ⊥
wrong-at lines before landmark why place (missing none) at = nowhere-wrong lines landmark.which before place none at.sought at.distances.inside
wrong-at lines before landmark why place (beyond number none) at = beyond-wrong lines landmark.which before place number none at.sought at.distances.inside
wrong-at lines before landmark why place (far n w sought inside wrong) at =
    let same : n ≡ place = sought-one lines landmark.which before n place sought at.sought in
    distance-wrong (length lines) before landmark place w (subst (λ m. IsWrongDistance (length lines) before landmark m w) same wrong) at.distances
wrong-at lines before landmark why place (repeated n other h wrong) at =
    let same : n ≡ place = sought-one lines landmark.which before n place h.sought at.sought in
    another-wrong lines landmark.which place other (subst (λ m. IsAnother lines landmark.which m other) same wrong) at.alone
wrong-at lines before landmark why place (unmatched n pattern h alone wrong) at =
    let same : place ≡ n = sought-one lines landmark.which before place n at.sought h.sought in
    both _ (subst (λ m. Matches lines m pattern) same (all-here (Matches lines place) landmark.also wrong.front wrong.rest pattern wrong.cut at.also)) wrong.fails
wrong-at lines before landmark why place (matched n pattern h alone also wrong) at =
    let same : place ≡ n = sought-one lines landmark.which before place n at.sought h.sought in
    both _ wrong.fails (subst (λ m. Differs lines m pattern) same (all-here (Differs lines place) landmark.lacks wrong.front wrong.rest pattern wrong.cut at.lacks))
wrong-at lines before landmark why place (between n line pattern h alone also lacks wrong) at =
    let same : place ≡ n = sought-one lines landmark.which before place n at.sought h.sought in
    let none : NoneMatches lines before (place - 1) pattern = all-here (NoneMatches lines before (place - 1)) landmark.none wrong.front wrong.rest pattern wrong.cut at.none in
    both _ wrong.fails.matched (none line wrong.fails.after (omega (arith, same, wrong.fails.above)))

pub misplaced-nowhere : (lines : List (List ℕ)) (chain : List Landmark) (wrong : Misplaced) (places : List ℕ) → IsMisplaced lines chain wrong → AreAt lines 0 chain places → ⊥
misplaced-nowhere lines chain wrong places m at =
    let s = split lines 0 m.front m.landmark m.rest places (subst (λ (c : List Landmark). AreAt lines 0 c places) m.cut at) in
    let same : s.earlier ≡ m.places = places-one lines 0 m.front s.earlier m.places s.placed m.placed in
    let before : last_of 0 s.earlier ≡ wrong.before = ap (last_of 0) same ∙ m.before in
    wrong-at lines wrong.before m.landmark wrong.why s.place m.why (subst (λ n. IsAt lines n m.landmark s.place) before s.at)
