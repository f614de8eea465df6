-- What is said once a name has become another one's line, or has moved, is true.
use Rattle.std.proofs.Common.{◌≡◌, ◌<◌, inl, inr, ℕ, zero, suc, ℤ, pos, negsuc, ◌+ℤ◌, ◌≤ℤ◌, ◌<ℤ◌, ◌==◌, true, false, cond, not, ◌&&◌, eqb, List, [], ◌++◌, filter, find, flat_map, length, map, All, None, Some, refl, sym, ap, ◌∙◌, arith}
use Rattle.std.proofs.lemmas.Int.{ints}
use Rattle.std.proofs.lemmas.Bool.{eqb-true, cases_eq, and_parts}
use Rattle.std.proofs.lemmas.List.Elements.{All-nil, All-map, All-append, All-weaker}
use Rattle.zones.specs.Zone.{Bounds, Numbers, Holds, updated}
use Rattle.zones.specs.Steps.{after_shift}
use Rattle.zones.proofs.Soundness.{Holds-after_set, Holds-after_shift}
use Rattle.zones.proofs.Known.{updated-same, updated-other}
use Rattle.ed_base.specs.Buffer.{Line}
use Rattle.ed_syntax.specs.meaning.Values.{matches_line}
use Rattle.ed_rules.specs.facts.Facts.{ReadsEnds, LineFact, Stretch, Facts, FactsHold, LineFactHolds, StretchHolds, value_of, point, same, told}
use Rattle.ed_rules.specs.facts.FactOrder.{is_line}
use Rattle.ed_rules.specs.facts.FoundLines.{Known, known_as, without}
use Rattle.ed_rules.specs.facts.FoundHolds.{KnownHolds}
use Rattle.ed_rules.specs.facts.EditedFacts.{told_fact}
use Rattle.ed_rules.specs.facts.AssignedFacts.{told_as, from_as, to_as, is_heir, handed_on, assigned, shortened, moved}
use Rattle.ed_rules.proofs.facts.FactsTold.{same-true, told-true}
use Rattle.ed_rules.proofs.facts.FactsOrdered.{is_line-true}
use Rattle.ed_rules.proofs.facts.FoundLines.{filter-both, find-gives, FactsHold-without, clear-within, not-name, value-other, value-at}
use Rattle.ed_rules.proofs.facts.EditedFacts.{all-flat, told-fact-each}

told_as-holds : (x y : ℕ) (patterns : List (List ℕ)) (zone : Bounds) (facts : Facts) (number : Numbers) (lines : List Line) → x < 32 → y < 32 → Holds zone number → ReadsEnds number lines → FactsHold facts number lines →
    All (LineFactHolds (updated number x (number y)) lines) (told_as zone facts x y patterns)
told_as-holds x y patterns zone facts number lines hx hy holds r h =
    let w : Numbers = updated number x (number y) in
    (elim (is_line zone y) as (λ b. is_line zone y ≡ b → All (LineFactHolds w lines) (cond b (flat_map (λ p. told_fact x p (told zone facts y p)) patterns) [])) [
      | true ↦ λ e.
          let i = is_line-true zone number lines y e hy holds r in
          all-flat (LineFactHolds w lines) (λ p. told_fact x p (told zone facts y p)) patterns (λ p.
          told-fact-each (LineFactHolds w lines) x p (told zone facts y p) (λ answer t. record {
            named = hx;
            holds = record { line = i.line; is = updated-same number x (number y) ∙ i.is; from = i.from; inside = i.inside; told = told-true zone facts number lines y i.line p answer t hy holds h i.is i.from i.inside };
          }))
      | false ↦ λ e. All-nil (LineFactHolds w lines)
    ]) refl

-- a name that becomes another's has its place
value-new : (x y : ℕ) (number : Numbers) → x < 32 → y < 32 → value_of (updated number x (number y)) (point x) ≡ value_of number (point y)
value-new x y number hx hy =
    let a : value_of (updated number x (number y)) (point x) ≡ updated number x (number y) x = value-at (updated number x (number y)) x hx in
    let b : value_of number (point y) ≡ number y = value-at number y hy in
    a ∙ updated-same number x (number y) ∙ sym b

-- Stretches from y, said from x: x has the place that y had, and the other names theirs.
from_as-holds : (x y : ℕ) (w number : Numbers) (lines : List Line) (clear : List Stretch) → x < 32 → value_of w (point x) ≡ value_of number (point y) →
    ((p : ℕ) → p < 33 → (p ≡ x → ⊥) → value_of w (point p) ≡ value_of number (point p)) → All (StretchHolds number lines) clear → All (StretchHolds w lines) (from_as x y clear)
from_as-holds x y w number lines clear hx moved_to others all =
    All-map (StretchHolds w lines) (λ (s : Stretch). record s { after = x }) (filter (λ (s : Stretch). eqb s.after y && not (eqb s.before x)) clear)
    (filter-both (λ (s : Stretch). eqb s.after y && not (eqb s.before x)) (StretchHolds number lines) (λ (s : Stretch). StretchHolds w lines (record s { after = x })) clear all
    (λ s q e.
    let b = and_parts (eqb s.after y) (not (eqb s.before x)) e in
    let is : s.after ≡ y = eqb-true s.after y b.0 in
    let low : value_of w (point x) ≡ value_of number (point s.after) = moved_to ∙ ap (λ (z : ℕ). value_of number (point z)) (sym is) in
    let high = others s.before q.before_named (not-name s.before x b.1) in
    record { after_named = omega arith; before_named = q.before_named; holds = clear-within (length lines) (matches_line s.pattern lines) _ _ _ _ (omega (arith, ints)) (omega (arith, ints)) q.holds }))

to_as-holds : (x y : ℕ) (w number : Numbers) (lines : List Line) (clear : List Stretch) → x < 32 → value_of w (point x) ≡ value_of number (point y) →
    ((p : ℕ) → p < 33 → (p ≡ x → ⊥) → value_of w (point p) ≡ value_of number (point p)) → All (StretchHolds number lines) clear → All (StretchHolds w lines) (to_as x y clear)
to_as-holds x y w number lines clear hx moved_to others all =
    All-map (StretchHolds w lines) (λ (s : Stretch). record s { before = x }) (filter (λ (s : Stretch). eqb s.before y && not (eqb s.after x)) clear)
    (filter-both (λ (s : Stretch). eqb s.before y && not (eqb s.after x)) (StretchHolds number lines) (λ (s : Stretch). StretchHolds w lines (record s { before = x })) clear all
    (λ s q e.
    let b = and_parts (eqb s.before y) (not (eqb s.after x)) e in
    let is : s.before ≡ y = eqb-true s.before y b.0 in
    let high : value_of w (point x) ≡ value_of number (point s.before) = moved_to ∙ ap (λ (z : ℕ). value_of number (point z)) (sym is) in
    let low = others s.after q.after_named (not-name s.after x b.1) in
    record { after_named = q.after_named; before_named = omega arith; holds = clear-within (length lines) (matches_line s.pattern lines) _ _ _ _ (omega (arith, ints)) (omega (arith, ints)) q.holds }))

-- what another name of the line is told is true of it
handed_on-holds : (x : ℕ) (zone : Bounds) (facts : Facts) (number : Numbers) (lines : List Line) → x < 32 → Holds zone number → FactsHold facts number lines → FactsHold (handed_on x zone facts) number lines
handed_on-holds x zone facts number lines hx holds h =
    let names : List ℕ = map (λ (f : LineFact). f.name) facts.lines in
    let named : All (λ (z : ℕ). z < 32) names = All-map (λ (z : ℕ). z < 32) (λ (f : LineFact). f.name) facts.lines
    (All-weaker (LineFactHolds number lines) (λ (f : LineFact). f.name < 32) (λ f q. q.named) facts.lines h.of_lines) in
    (elim (find (is_heir zone x) names) as (λ o. find (is_heir zone x) names ≡ o → FactsHold (elim o [
      | Some z ↦ record facts { clear = from_as z x facts.clear ++ (to_as z x facts.clear ++ facts.clear) }
      | None ↦ facts
    ]) number lines) [
      | None ↦ λ e. h
      | Some z ↦ λ e.
          let found = find-gives (is_heir zone x) (λ (y : ℕ). y < 32) names z named e in
          let tests = and_parts (not (eqb z x)) (same zone z x) found.1 in
          let is : number z ≡ number x = same-true zone number z x tests.1 found.0 hx holds in
          let there : value_of number (point z) ≡ value_of number (point x) = value-at number z found.0 ∙ is ∙ sym (value-at number x hx) in
          record {
            of_lines = h.of_lines;
            of_clear = All-append (StretchHolds number lines) (from_as z x facts.clear) (to_as z x facts.clear ++ facts.clear)
                (from_as-holds z x number number lines facts.clear found.0 there (λ p hp ne. refl) h.of_clear)
                (All-append (StretchHolds number lines) (to_as z x facts.clear) facts.clear (to_as-holds z x number number lines facts.clear found.0 there (λ p hp ne. refl) h.of_clear) h.of_clear);
          }
    ]) refl

pub assigned-holds : (x y : ℕ) (patterns : List (List ℕ)) (zone : Bounds) (facts : Facts) (number : Numbers) (lines : List Line) → x < 32 → y < 32 → (2 ≡ x → ⊥) → Holds zone number → ReadsEnds number lines → FactsHold facts number lines →
    KnownHolds (assigned x y patterns zone facts) (updated number x (number y)) lines
assigned-holds x y patterns zone old number lines hx hy ne holds r was =
    let facts : Facts = handed_on x zone old in
    let h : FactsHold facts number lines = handed_on-holds x zone old number lines hx holds was in
    let w : Numbers = updated number x (number y) in
    let others : FactsHold (without x facts) w lines = FactsHold-without x (number y) facts number lines ne h in
    let moved_to = value-new x y number hx hy in
    let same_else : (p : ℕ) → p < 33 → (p ≡ x → ⊥) → value_of w (point p) ≡ value_of number (point p) = λ p hp other. value-other x p (number y) number ne hp other in
    record {
      zone = Holds-after_set zone x y (pos 0) number w hx hy holds (updated-other number x (number y)) (let e : w x ≡ number y = updated-same number x (number y) in omega (arith, ints));
      facts = record {
        of_lines = All-append (LineFactHolds w lines) (told_as zone facts x y patterns) (without x facts).lines (told_as-holds x y patterns zone facts number lines hx hy holds r h) others.of_lines;
        of_clear = All-append (StretchHolds w lines) (from_as x y facts.clear) (to_as x y facts.clear ++ (without x facts).clear) (from_as-holds x y w number lines facts.clear hx moved_to same_else h.of_clear)
            (All-append (StretchHolds w lines) (to_as x y facts.clear) (without x facts).clear (to_as-holds x y w number lines facts.clear hx moved_to same_else h.of_clear) others.of_clear);
      };
    }

-- MOVED BY A NUMBER

other-lines : (x : ℕ) (n : ℤ) (facts : Facts) (number : Numbers) (lines : List Line) → (2 ≡ x → ⊥) → FactsHold facts number lines → All (LineFactHolds (updated number x n) lines) (filter (λ (f : LineFact). not (eqb f.name x)) facts.lines)
other-lines x n facts number lines ne h = (FactsHold-without x n facts number lines ne h).of_lines

-- a place that isn't a smaller one, or isn't a greater one
pub value-up : (x z : ℕ) (n : ℤ) (number : Numbers) → x < 32 → (2 ≡ x → ⊥) → z < 33 → number x ≤ℤ n → value_of number (point z) ≤ℤ value_of (updated number x n) (point z)
value-up x z n number hx ne hz up = elim (cases_eq z x) [
  | inl e ↦
      let a : value_of number (point z) ≡ number x = ap (λ (y : ℕ). value_of number (point y)) e ∙ value-at number x hx in
      let b : value_of (updated number x n) (point z) ≡ n = ap (λ (y : ℕ). value_of (updated number x n) (point y)) e ∙ value-at (updated number x n) x hx ∙ updated-same number x n in
      omega (arith, ints)
  | inr d ↦ let c = value-other x z n number ne hz d in omega (arith, ints)
]

value-down : (x z : ℕ) (n : ℤ) (number : Numbers) → x < 32 → (2 ≡ x → ⊥) → z < 33 → n ≤ℤ number x → value_of (updated number x n) (point z) ≤ℤ value_of number (point z)
value-down x z n number hx ne hz down = elim (cases_eq z x) [
  | inl e ↦
      let a : value_of number (point z) ≡ number x = ap (λ (y : ℕ). value_of number (point y)) e ∙ value-at number x hx in
      let b : value_of (updated number x n) (point z) ≡ n = ap (λ (y : ℕ). value_of (updated number x n) (point y)) e ∙ value-at (updated number x n) x hx ∙ updated-same number x n in
      omega (arith, ints)
  | inr d ↦ let c = value-other x z n number ne hz d in omega (arith, ints)
]

shifted : (zone : Bounds) (x : ℕ) (c : ℤ) (number : Numbers) → x < 32 → Holds zone number → Holds (after_shift zone x (Some c) (Some c)) (updated number x (number x +ℤ c))
shifted zone x c number hx holds =
    let w : Numbers = updated number x (number x +ℤ c) in
    let e : w x ≡ number x +ℤ c = updated-same number x (number x +ℤ c) in
    Holds-after_shift zone x (Some c) (Some c) number w hx holds (updated-other number x (number x +ℤ c)) (omega (arith, ints)) (omega (arith, ints))

-- the same numbers
pub moved-holds : (x : ℕ) (c : ℤ) (k : Known) (number : Numbers) (lines : List Line) → x < 32 → (2 ≡ x → ⊥) → KnownHolds k number lines → (c ≡ pos 0 → ⊥) → KnownHolds (moved x c k) (updated number x (number x +ℤ c)) lines
moved-holds x (pos zero) k number lines hx ne h some = absurd (some refl)
moved-holds x (pos (suc n)) k number lines hx ne h some =
    let c : ℤ = pos (suc n) in
    let w : Numbers = updated number x (number x +ℤ c) in
    record {
      zone = shifted k.zone x c number hx h.zone;
      facts = record {
        of_lines = other-lines x (number x +ℤ c) k.facts number lines ne h.facts;
        of_clear = filter-both (shortened x c) (StretchHolds number lines) (StretchHolds w lines) k.facts.clear h.facts.of_clear
            (λ s q e.
            let high = value-other x s.before (number x +ℤ c) number ne q.before_named (not-name s.before x e) in
            let low = value-up x s.after (number x +ℤ c) number hx ne q.after_named (omega (arith, ints)) in
            record { after_named = q.after_named; before_named = q.before_named; holds = clear-within (length lines) (matches_line s.pattern lines) _ _ _ _ low (omega (arith, ints)) q.holds });
      };
    }
moved-holds x (negsuc n) k number lines hx ne h some =
    let c : ℤ = negsuc n in
    let w : Numbers = updated number x (number x +ℤ c) in
    record {
      zone = shifted k.zone x c number hx h.zone;
      facts = record {
        of_lines = other-lines x (number x +ℤ c) k.facts number lines ne h.facts;
        of_clear = filter-both (shortened x c) (StretchHolds number lines) (StretchHolds w lines) k.facts.clear h.facts.of_clear
            (λ s q e.
            let low = value-other x s.after (number x +ℤ c) number ne q.after_named (not-name s.after x e) in
            let high = value-down x s.before (number x +ℤ c) number hx ne q.before_named (omega (arith, ints)) in
            record { after_named = q.after_named; before_named = q.before_named; holds = clear-within (length lines) (matches_line s.pattern lines) _ _ _ _ (omega (arith, ints)) high q.holds });
      };
    }

-- what a move down and a move up leave
pub moved-down : (x : ℕ) (i : ℤ) (k : Known) → pos 0 <ℤ i →
    moved x i k ≡ known_as (after_shift k.zone x (Some i) (Some i)) (record {
      lines = filter (λ f. not (f.name == x)) k.facts.lines;
      clear = filter (λ s. not (s.before == x)) k.facts.clear;
    })
moved-down x (pos zero) k h = absurd (omega (arith, ints))
moved-down x (pos (suc n)) k h = refl
moved-down x (negsuc n) k h = absurd (omega (arith, ints))

pub moved-up : (x : ℕ) (i : ℤ) (k : Known) → i <ℤ pos 0 →
    moved x i k ≡ known_as (after_shift k.zone x (Some i) (Some i)) (record {
      lines = filter (λ f. not (f.name == x)) k.facts.lines;
      clear = filter (λ s. not (s.after == x)) k.facts.clear;
    })
moved-up x (pos n) k h = absurd (omega (arith, ints))
moved-up x (negsuc n) k h = refl
