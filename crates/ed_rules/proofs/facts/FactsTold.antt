-- What a zone with facts says is true of the numbers that the zone and the facts hold of.
use Rattle.std.proofs.Common.{◌≡◌, ◌<◌, ◌≤◌, inl, inr, ℕ, ℤ, pos, ◌+ℤ◌, ◌-ℤ◌, ◌≤ℤ◌, int_le, Bool}
use Rattle.std.proofs.Common.{true, false, cond, not, eqb, List, [], ◌∷◌, length, All, Option, Some, None, refl, ap, subst, ◌∙◌}
use Rattle.std.proofs.Common.{arith}
use Rattle.std.specs.List.{list_any}
use Rattle.std.specs.Cmp.Lexicographic.{bytes_decides}
use Rattle.std.proofs.lemmas.Int.{ints}
use Rattle.std.proofs.lemmas.Bool.{eq-eqb, ne_eqb, and_parts, or_cases}
use Rattle.std.proofs.lemmas.Bool.Decides.{eqb_tells}
use Rattle.std.proofs.lemmas.List.Elements.{All-head, All-tail}
use Rattle.zones.specs.Zone.{Bounds, Numbers, Holds}
use Rattle.zones.specs.Known.{known}
use Rattle.zones.proofs.Known.{known-true}
use Rattle.ed_base.specs.Buffer.{Line}
use Rattle.ed_syntax.specs.meaning.Values.{matches_line}
use Rattle.ed_rules.specs.facts.Facts.{LineFact, Stretch, Facts, Point, FactsHold, LineFactHolds, StretchHolds, IsClear, value_of, at, point, le, same, below, same_text, spans, is_clear, says, holds_line, is_told, tells, told, are_opposite, differ}

-- where some element passes a test, what follows from each that passes is true
pub any-gives : {A : Type 0} (test : A → Bool) (Q : A → Type 0) (R : Type 0) (xs : List A) → All Q xs →
    ((x : A) → Q x → test x ≡ true → R) → list_any test xs ≡ true → R
any-gives test Q R [] all k h = absurd cc
any-gives test Q R (x ∷ xs) all k h = elim (or_cases (test x) (list_any test xs) h) [
  | inl e ↦ k x (All-head Q x xs all) e
  | inr e ↦ any-gives test Q R xs (All-tail Q x xs all) k e
]

pub text-same : (one other : List ℕ) → same_text one other ≡ true → one ≡ other
text-same one other e = (bytes_decides one other).0 e

pub point-named : (x : ℕ) → x < 33 → (point x).name < 32
point-named x h = elim (eqb_tells x 32) [
  | inl e ↦ rw e.0 (omega arith)
  | inr e ↦ rw e.0 (omega arith)
]

int_le-true : (a b : ℤ) → int_le a b ≡ true → a ≤ℤ b
int_le-true a b h = grind (arith, ints)

-- how `le` computes, for names that are one and for others
pub le-same : (zone : Bounds) (x y : Point) (c d : ℤ) → d ≡ (c +ℤ y.plus) -ℤ x.plus → x.name ≡ y.name → int_le (pos 0) d ≡ le zone x y c
le-same zone x y c d e q = let k : eqb x.name y.name ≡ true = eq-eqb x.name y.name q in rw (e, k) refl

pub le-other : (zone : Bounds) (x y : Point) (c d : ℤ) → d ≡ (c +ℤ y.plus) -ℤ x.plus → (x.name ≡ y.name → ⊥) →
    known zone x.name y.name d ≡ le zone x y c
le-other zone x y c d e q = let k : eqb x.name y.name ≡ false = ne_eqb x.name y.name q in rw (e, k) refl

pub le-true : (zone : Bounds) (number : Numbers) (x y : Point) (c : ℤ) → le zone x y c ≡ true → x.name < 32 → y.name < 32 →
    Holds zone number → value_of number x ≤ℤ (value_of number y +ℤ c)
le-true zone number x y c e hx hy holds =
    let d : ℤ = (c +ℤ y.plus) -ℤ x.plus in
    (elim (eqb_tells x.name y.name) [
      | inl q ↦
          let k : int_le (pos 0) d ≡ true = rw q.0 at e in
          let l : pos 0 ≤ℤ d = int_le-true (pos 0) d k in
          let n : number x.name ≡ number y.name = ap number q.1 in
          omega (arith, ints)
      | inr q ↦
          let k : known zone x.name y.name d ≡ true = rw q.0 at e in
          let l : (number x.name -ℤ number y.name) ≤ℤ d = known-true zone number x.name y.name d k hx hy holds in
          omega (arith, ints)
    ])

pub is_clear-true : (zone : Bounds) (facts : Facts) (number : Numbers) (lines : List Line) (x y : Point) (pattern : List ℕ) →
    is_clear zone facts x y pattern ≡ true → x.name < 32 → y.name < 32 → Holds zone number → FactsHold facts number lines →
    IsClear (length lines) (matches_line pattern lines) (value_of number x) (value_of number y)
is_clear-true zone facts number lines x y pattern e hx hy holds h n from inside above under =
    elim (or_cases (le zone y x (pos 1)) (list_any (spans zone x y pattern) facts.clear) e) [
      | inl k ↦ let l = le-true zone number y x (pos 1) k hy hx holds in absurd (omega (arith, ints))
      | inr k ↦ any-gives (spans zone x y pattern) (StretchHolds number lines) (matches_line pattern lines n ≡ false) facts.clear h.of_clear
          (λ s t q.
          let a = and_parts (same_text s.pattern pattern) _ q in
          let b = and_parts (le zone (point s.after) x (pos 0)) (le zone y (point s.before) (pos 0)) a.1 in
          let low = le-true zone number (point s.after) x (pos 0) b.0 (point-named s.after t.after_named) hx holds in
          let high = le-true zone number y (point s.before) (pos 0) b.1 hy (point-named s.before t.before_named) holds in
          subst (λ (p : List ℕ). matches_line p lines n ≡ false) (text-same s.pattern pattern a.0) (t.holds n from inside (omega (arith, ints)) (omega (arith, ints)))) k
    ]

pub same-true : (zone : Bounds) (number : Numbers) (x y : ℕ) → same zone x y ≡ true → x < 32 → y < 32 → Holds zone number → number x ≡ number y
same-true zone number x y e hx hy holds =
    let b = and_parts (le zone (at x) (at y) (pos 0)) (le zone (at y) (at x) (pos 0)) e in
    let l = le-true zone number (at x) (at y) (pos 0) b.0 hx hy holds in
    let k = le-true zone number (at y) (at x) (pos 0) b.1 hy hx holds in
    omega (arith, ints)

answer-is : (answer m : Bool) → cond answer m (not m) ≡ true → m ≡ answer
answer-is true m h = h
answer-is false true h = cc
answer-is false false h = refl

-- two numbers of one line
line-one : (n m : ℕ) (z : ℤ) → z ≡ pos n → z ≡ pos m → n ≡ m
line-one n m z e f = omega (arith, ints)

is_told-true : (zone : Bounds) (facts : Facts) (number : Numbers) (lines : List Line) (x n : ℕ) (pattern : List ℕ) (answer : Bool) →
    is_told zone facts x pattern answer ≡ true → x < 32 → Holds zone number → FactsHold facts number lines →
    number x ≡ pos n → matches_line pattern lines n ≡ answer
is_told-true zone facts number lines x n pattern answer e hx holds h is =
    any-gives (says zone x pattern answer) (LineFactHolds number lines) (matches_line pattern lines n ≡ answer) facts.lines h.of_lines
    (λ f t q.
    let a = and_parts (same_text f.pattern pattern) _ q in
    let b = and_parts (same zone f.name x) _ a.1 in
    let s : number f.name ≡ number x = same-true zone number f.name x b.0 t.named hx holds in
    let l : t.holds.line ≡ n = line-one t.holds.line n (number f.name) t.holds.is (s ∙ is) in
    subst (λ (p : List ℕ). matches_line p lines n ≡ answer) (text-same f.pattern pattern a.0)
    (subst (λ (m : ℕ). matches_line f.pattern lines m ≡ answer) l (t.holds.told ∙ answer-is answer f.matches b.1))) e

holds_line-false : (zone : Bounds) (facts : Facts) (number : Numbers) (lines : List Line) (x n : ℕ) (pattern : List ℕ) →
    list_any (holds_line zone x pattern) facts.clear ≡ true → x < 32 → Holds zone number → FactsHold facts number lines →
    number x ≡ pos n → 1 ≤ n → n ≤ length lines → matches_line pattern lines n ≡ false
holds_line-false zone facts number lines x n pattern e hx holds h is from inside =
    any-gives (holds_line zone x pattern) (StretchHolds number lines) (matches_line pattern lines n ≡ false) facts.clear h.of_clear
    (λ s t q.
    let a = and_parts (same_text s.pattern pattern) _ q in
    let b = and_parts (below zone (point s.after) (at x)) (below zone (at x) (point s.before)) a.1 in
    let low = le-true zone number (point s.after) (at x) (pos 0 -ℤ pos 1) b.0 (point-named s.after t.after_named) hx holds in
    let high = le-true zone number (at x) (point s.before) (pos 0 -ℤ pos 1) b.1 hx (point-named s.before t.before_named) holds in
    subst (λ (p : List ℕ). matches_line p lines n ≡ false) (text-same s.pattern pattern a.0) (t.holds n from inside (omega (arith, ints)) (omega (arith, ints)))) e

pub tells-true : (zone : Bounds) (facts : Facts) (number : Numbers) (lines : List Line) (x n : ℕ) (pattern : List ℕ) (answer : Bool) →
    tells zone facts x pattern answer ≡ true → x < 32 → Holds zone number → FactsHold facts number lines →
    number x ≡ pos n → 1 ≤ n → n ≤ length lines → matches_line pattern lines n ≡ answer
tells-true zone facts number lines x n pattern true e hx holds h is from inside =
    is_told-true zone facts number lines x n pattern true e hx holds h is
tells-true zone facts number lines x n pattern false e hx holds h is from inside =
    elim (or_cases (is_told zone facts x pattern false) (list_any (holds_line zone x pattern) facts.clear) e) [
      | inl k ↦ is_told-true zone facts number lines x n pattern false k hx holds h is
      | inr k ↦ holds_line-false zone facts number lines x n pattern k hx holds h is from inside
    ]

pub told-tells : (zone : Bounds) (facts : Facts) (x : ℕ) (pattern : List ℕ) (answer : Bool) → told zone facts x pattern ≡ Some answer → tells zone facts x pattern answer ≡ true
told-tells zone facts x pattern answer e =
    (elim (tells zone facts x pattern true) as
    (λ b. tells zone facts x pattern true ≡ b → cond b (Some true) (cond (tells zone facts x pattern false) (Some false) None) ≡ Some answer → tells zone facts x pattern answer ≡ true) [
      | true ↦ λ q r. let a : true ≡ answer = cc in subst (λ (b : Bool). tells zone facts x pattern b ≡ true) a q
      | false ↦ λ q r.
          (elim (tells zone facts x pattern false) as (λ b. tells zone facts x pattern false ≡ b → cond b (Some false) None ≡ Some answer → tells zone facts x pattern answer ≡ true) [
            | true ↦ λ u w. let a : false ≡ answer = cc in subst (λ (b : Bool). tells zone facts x pattern b ≡ true) a u
            | false ↦ λ u w. absurd cc
          ]) refl r
    ]) refl e

pub told-true : (zone : Bounds) (facts : Facts) (number : Numbers) (lines : List Line) (x n : ℕ) (pattern : List ℕ) (answer : Bool) →
    told zone facts x pattern ≡ Some answer → x < 32 → Holds zone number → FactsHold facts number lines →
    number x ≡ pos n → 1 ≤ n → n ≤ length lines → matches_line pattern lines n ≡ answer
told-true zone facts number lines x n pattern answer e hx holds h is from inside =
    tells-true zone facts number lines x n pattern answer (told-tells zone facts x pattern answer e) hx holds h is from inside

opposite-two : (a b : Option Bool) (p q : Bool) → are_opposite a b ≡ true → ((answer : Bool) → a ≡ Some answer → p ≡ answer) → ((answer : Bool) → b ≡ Some answer → q ≡ answer) → p ≡ q → ⊥
opposite-two None b p q e f g h = cc
opposite-two (Some true) None p q e f g h = cc
opposite-two (Some false) None p q e f g h = cc
opposite-two (Some true) (Some true) p q e f g h = cc
opposite-two (Some false) (Some false) p q e f g h = cc
opposite-two (Some true) (Some false) p q e f g h = let k = f true refl in let l = g false refl in cc
opposite-two (Some false) (Some true) p q e f g h = let k = f false refl in let l = g true refl in cc

pub any-any : {A : Type 0} (test : A → Bool) (R : Type 0) (xs : List A) → ((x : A) → test x ≡ true → R) → list_any test xs ≡ true → R
any-any test R [] k h = absurd cc
any-any test R (x ∷ xs) k h = elim (or_cases (test x) (list_any test xs) h) [ inl e ↦ k x e | inr e ↦ any-any test R xs k e ]

pub differ-true : (zone : Bounds) (facts : Facts) (number : Numbers) (lines : List Line) (x y n m : ℕ) →
    differ zone facts x y ≡ true → x < 32 → y < 32 → Holds zone number → FactsHold facts number lines →
    number x ≡ pos n → 1 ≤ n → n ≤ length lines → number y ≡ pos m → 1 ≤ m → m ≤ length lines → n ≡ m → ⊥
differ-true zone facts number lines x y n m e hx hy holds h is from inside js below within one =
    let by : (p : List ℕ) → are_opposite (told zone facts x p) (told zone facts y p) ≡ true → ⊥ = λ p o.
    opposite-two (told zone facts x p) (told zone facts y p) (matches_line p lines n) (matches_line p lines m) o
    (λ answer q. told-true zone facts number lines x n p answer q hx holds h is from inside)
    (λ answer q. told-true zone facts number lines y m p answer q hy holds h js below within)
    (ap (matches_line p lines) one) in
    elim (or_cases _ _ e) [
      | inl k ↦ any-any (λ (f : LineFact). are_opposite (told zone facts x f.pattern) (told zone facts y f.pattern)) ⊥ facts.lines (λ f q. by f.pattern q) k
      | inr k ↦ any-any (λ (s : Stretch). are_opposite (told zone facts x s.pattern) (told zone facts y s.pattern)) ⊥ facts.clear (λ s q. by s.pattern q) k
    ]
