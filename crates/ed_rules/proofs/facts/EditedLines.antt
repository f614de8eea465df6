-- Lines after an edit, one by one, and what holds between two numbers after it.
use Rattle.std.proofs.Common.{◌≡◌, ◌<◌, ◌≤◌, ◌⊎◌, inl, inr, ℕ, ◌+◌, ◌-◌, ℤ, pos, ◌+ℤ◌, ◌<ℤ◌, Bool, false, List, [], ◌++◌, length, take, drop, get_or, refl, sym, ap, subst, ◌∙◌, arith, length-append, length-drop}
use Rattle.std.proofs.lemmas.Int.{ints}
use Rattle.std.proofs.lemmas.Bool.{cases_lt}
use Rattle.std.proofs.lemmas.List.{length-take-le, get_or-take, get_or-drop, get_or_append_left, get_or-append_right}
use Rattle.ed_base.specs.Buffer.{Line, plain_line}
use Rattle.ed_base.specs.Parts.{exchanged}
use Rattle.ed_syntax.specs.meaning.Values.{matches, matches_line}
use Rattle.ed_rules.specs.facts.Facts.{IsClear, IsTold}
use Rattle.ed_rules.specs.facts.EditedFacts.{Moves, IsLeft}

-- how the test of each line goes over: p before the edit, p' after it, q of the new lines
pub record Goes (a b n count : ℕ) (p p' q : ℕ → Bool) : Type 0 where
  pub before : (m : ℕ) → 1 ≤ m → m < a → p' m ≡ p m
  pub fresh : (m : ℕ) → a ≤ m → m < a + n → p' m ≡ q (m - a)
  pub after : (m : ℕ) → a + n ≤ m → p' m ≡ p (m + b + 1 - (a + n))

-- the sizes of an edit
pub record Sizes (a b n count count' : ℕ) : Type 0 where
  pub from : 1 ≤ a
  pub order : a ≤ b + 1
  pub inside : b ≤ count
  pub left : count' + (b + 1) ≡ count + (n + a)

abbrev pub test_of : List ℕ → List Line → ℕ → Bool
test_of pattern new i = matches pattern (get_or new i (plain_line [])).bytes

pub lines-go : (pattern : List ℕ) (lines new : List Line) (a b : ℕ) → 1 ≤ a → a ≤ b + 1 → b ≤ length lines →
    Goes a b (length new) (length lines) (matches_line pattern lines) (matches_line pattern (exchanged (a - 1) b new lines)) (test_of pattern new)
lines-go pattern lines new a b from order inside =
    let head : List Line = take (a - 1) lines in
    let size : length head ≡ a - 1 = length-take-le (a - 1) lines (omega arith) in
    let none : Line = plain_line [] in
    let by : (l k : Line) → l ≡ k → matches pattern l.bytes ≡ matches pattern k.bytes = λ l k e. ap (λ (x : Line). matches pattern x.bytes) e in
    record {
      before = λ m low high. by _ _ (get_or_append_left head (new ++ drop b lines) none (m - 1) (omega arith) ∙ get_or-take (a - 1) lines (m - 1) none (omega arith));
      fresh = λ m low high. by _ _
          (get_or-append_right head (new ++ drop b lines) (a - 1) (m - 1) none size (omega arith)
          ∙ get_or_append_left new (drop b lines) none (m - 1 - (a - 1)) (omega arith)
          ∙ ap (λ (i : ℕ). get_or new i none) (omega arith));
      after = λ m low. by _ _
          (get_or-append_right head (new ++ drop b lines) (a - 1) (m - 1) none size (omega arith)
          ∙ get_or-append_right new (drop b lines) (length new) (m - 1 - (a - 1)) none refl (omega arith)
          ∙ get_or-drop b lines (m - 1 - (a - 1) - length new) none
          ∙ ap (λ (i : ℕ). get_or lines i none) (omega arith));
    }

pub sizes-of : (lines new : List Line) (a b : ℕ) → 1 ≤ a → a ≤ b + 1 → b ≤ length lines → Sizes a b (length new) (length lines) (length (exchanged (a - 1) b new lines))
sizes-of lines new a b from order inside =
    let size : length (take (a - 1) lines) ≡ a - 1 = length-take-le (a - 1) lines (omega arith) in
    let all : length (exchanged (a - 1) b new lines) ≡ length (take (a - 1) lines) + (length new + (length lines - b)) = grind (arith, length-append, length-drop) in
    record { from = from; order = order; inside = inside; left = omega arith }

-- no new line passes
abbrev pub NonePasses : ℕ → (ℕ → Bool) → Type 0
NonePasses n q = (i : ℕ) → i < n → q i ≡ false

-- the lines between x and y were clear, and no new line passes: they still are
pub clear-free : (a b n count count' : ℕ) (p p' q : ℕ → Bool) (x y x' y' : ℤ) → Goes a b n count p p' q → Sizes a b n count count' → Moves a b n x x' → Moves a b n y y' →
    NonePasses n q → IsClear count p x y → IsClear count' p' x' y'
clear-free a b n count count' p p' q x y x' y' g s mx my free clear m from inside above under =
    let order = s.order in
    let room = s.inside in
    let left = s.left in
    elim (cases_lt m a) [
      | inl low ↦ g.before m from low ∙ clear m from (omega arith)
          (elim mx [ inl k ↦ omega (arith, ints) | inr k ↦ omega (arith, ints) ])
          (elim my [ inl k ↦ omega (arith, ints) | inr k ↦ omega (arith, ints) ])
      | inr low ↦ elim (cases_lt m (a + n)) [
        | inl in_new ↦ g.fresh m low in_new ∙ free (m - a) (omega arith)
        | inr high ↦ g.after m high ∙ clear (m + b + 1 - (a + n)) (omega arith) (omega arith)
            (elim mx [ inl k ↦ omega (arith, ints) | inr k ↦ omega (arith, ints) ])
            (elim my [ inl k ↦ omega (arith, ints) | inr k ↦ omega (arith, ints) ])
      ]
    ]

-- both were on one side of all that gave way
pub clear-outside : (a b n count count' : ℕ) (p p' q : ℕ → Bool) (x y x' y' : ℤ) → Goes a b n count p p' q → Sizes a b n count count' → Moves a b n x x' → Moves a b n y y' →
    ((pos b <ℤ x) ⊎ (y <ℤ pos a)) → IsClear count p x y → IsClear count' p' x' y'
clear-outside a b n count count' p p' q x y x' y' g s mx my side clear m from inside above under =
    let order = s.order in
    let room = s.inside in
    let left = s.left in
    elim side [
      | inl k ↦
          let e : x' +ℤ pos (b + 1) ≡ x +ℤ pos (n + a) = (elim mx [ inl l ↦ let d = l.0 in absurd (omega (arith, ints)) | inr l ↦ l.1 ]) in
          let high : a + n ≤ m = omega (arith, ints) in
          g.after m high ∙ clear (m + b + 1 - (a + n)) (omega arith) (omega arith) (omega (arith, ints)) (elim my [ inl l ↦ omega (arith, ints) | inr l ↦ omega (arith, ints) ])
      | inr k ↦
          let e : y' ≡ y = (elim my [ inl l ↦ l.1 | inr l ↦ let d = l.0 in absurd (omega (arith, ints)) ]) in
          let low : m < a = omega (arith, ints) in
          g.before m from low ∙ clear m from (omega arith) (elim mx [ inl l ↦ omega (arith, ints) | inr l ↦ omega (arith, ints) ]) (omega (arith, ints))
    ]

-- what was left on either side was clear, and no new line passes
pub clear-joined : (a b n count count' : ℕ) (p p' q : ℕ → Bool) (x y x' y' : ℤ) → Goes a b n count p p' q → Sizes a b n count count' → Moves a b n x x' → Moves a b n y y' →
    NonePasses n q → x <ℤ pos a → pos b <ℤ y → IsClear count p x (pos a) → IsClear count p (pos b) y → IsClear count' p' x' y'
clear-joined a b n count count' p p' q x y x' y' g s mx my free hx hy low_clear high_clear m from inside above under =
    let order = s.order in
    let room = s.inside in
    let left = s.left in
    let e : x' ≡ x = (elim mx [ inl l ↦ l.1 | inr l ↦ let d = l.0 in absurd (omega (arith, ints)) ]) in
    let f : y' +ℤ pos (b + 1) ≡ y +ℤ pos (n + a) = (elim my [ inl l ↦ let d = l.0 in absurd (omega (arith, ints)) | inr l ↦ l.1 ]) in
    elim (cases_lt m a) [
      | inl low ↦ g.before m from low ∙ low_clear m from (omega arith) (omega (arith, ints)) (omega (arith, ints))
      | inr low ↦ elim (cases_lt m (a + n)) [
        | inl in_new ↦ g.fresh m low in_new ∙ free (m - a) (omega arith)
        | inr high ↦ g.after m high ∙ high_clear (m + b + 1 - (a + n)) (omega arith) (omega arith) (omega (arith, ints)) (omega (arith, ints))
      ]
    ]

-- from x to the current line
pub clear-before : (a b n count count' current : ℕ) (p p' q : ℕ → Bool) (x x' : ℤ) → Goes a b n count p p' q → Sizes a b n count count' → Moves a b n x x' → IsLeft a n count' current →
    ((i : ℕ) → i + 1 < n → q i ≡ false) → x <ℤ pos a → IsClear count p x (pos a) → IsClear count' p' x' (pos current)
clear-before a b n count count' current p p' q x x' g s mx cur free hx clear m from inside above under =
    let order = s.order in
    let room = s.inside in
    let left = s.left in
    let e : x' ≡ x = (elim mx [ inl l ↦ l.1 | inr l ↦ let d = l.0 in absurd (omega (arith, ints)) ]) in
    elim (cases_lt m a) [
      | inl low ↦ g.before m from low ∙ clear m from (omega arith) (omega (arith, ints)) (omega (arith, ints))
      | inr low ↦ elim cur [
        | inl k ↦ g.fresh m low (omega (arith, ints)) ∙ free (m - a) (omega (arith, ints))
        | inr k ↦ let u = k.0 in absurd (elim k.1 [ inl l ↦ omega (arith, ints) | inr l ↦ omega (arith, ints) ])
      ]
    ]

-- from the current line to y
pub clear-after : (a b n count count' current : ℕ) (p p' q : ℕ → Bool) (y y' : ℤ) → Goes a b n count p p' q → Sizes a b n count count' → Moves a b n y y' → IsLeft a n count' current →
    pos b <ℤ y → IsClear count p (pos b) y → IsClear count' p' (pos current) y'
clear-after a b n count count' current p p' q y y' g s my cur hy clear m from inside above under =
    let order = s.order in
    let room = s.inside in
    let left = s.left in
    let f : y' +ℤ pos (b + 1) ≡ y +ℤ pos (n + a) = (elim my [ inl l ↦ let d = l.0 in absurd (omega (arith, ints)) | inr l ↦ l.1 ]) in
    let high : a + n ≤ m = (elim cur [ inl k ↦ omega (arith, ints) | inr k ↦ let u = k.0 in (elim k.1 [ inl l ↦ omega (arith, ints) | inr l ↦ absurd (omega (arith, ints)) ]) ]) in
    g.after m high ∙ clear (m + b + 1 - (a + n)) (omega arith) (omega arith) (omega (arith, ints)) (omega (arith, ints))

-- a line that stays is told as before
pub told-moved : (a b n count count' : ℕ) (p p' q : ℕ → Bool) (z z' : ℤ) (answer : Bool) → Goes a b n count p p' q → Sizes a b n count count' → Moves a b n z z' → IsTold count p z answer → IsTold count' p' z' answer
told-moved a b n count count' p p' q z z' answer g s mz t =
    let order = s.order in
    let room = s.inside in
    let left = s.left in
    let is = t.is in
    let from = t.from in
    let inside = t.inside in
    elim mz [
      | inl k ↦
          let below = k.0 in
          let e = k.1 in
          record { line = t.line; is = e ∙ t.is; from = t.from; inside = omega (arith, ints); told = g.before t.line t.from (omega (arith, ints)) ∙ t.told }
      | inr k ↦
          let above = k.0 in
          let e = k.1 in
          let there : ℕ = t.line + (n + a) - (b + 1) in
          let old : there + b + 1 - (a + n) ≡ t.line = omega (arith, ints) in
          record { line = there; is = omega (arith, ints); from = omega (arith, ints); inside = omega (arith, ints); told = g.after there (omega (arith, ints)) ∙ subst (λ (m : ℕ). p m ≡ answer) (sym old) t.told }
    ]
