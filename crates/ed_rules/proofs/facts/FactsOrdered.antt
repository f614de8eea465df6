-- What is joined or widened holds where either holds, and so does what is covered. How facts are ordered.
use Rattle.std.proofs.Common.{◌≡◌, ◌<◌, ◌≤◌, inl, inr, ℕ, suc, ℤ, pos, negsuc, ◌-ℤ◌, ◌≤ℤ◌, Bool, true, false, cond, List, [], ◌∷◌, length, All, Contains, nat_eq, nat_lt, refl, sym, subst, arith}
use Rattle.std.specs.List.{list_any, list_all, filter}
use Rattle.std.specs.Cmp.Lexicographic.{bytes_decides}
use Rattle.std.proofs.lemmas.Int.{ints}
use Rattle.std.proofs.lemmas.Bool.{eqb-true, ltb-true, eq-eqb, and_from, and_parts, or_cases, or_left}
use Rattle.std.proofs.lemmas.List.Elements.{All-cons, All-nil, All-filter, All-contains, All-contains_itself}
use Rattle.std.proofs.lemmas.List.Folds.{list_any_at}
use Rattle.zones.specs.Zone.{Bounds, Numbers, Holds}
use Rattle.zones.specs.Known.{known}
use Rattle.zones.proofs.Known.{known-true}
use Rattle.ed_base.specs.Buffer.{Line}
use Rattle.ed_rules.specs.facts.Facts.{ReadsEnds, LineFact, Stretch, Facts, FactsHold, LineFactHolds, StretchHolds, point, same_text}
use Rattle.ed_rules.specs.facts.FactOrder.{is_line, same_answer, same_fact, same_stretch, says_line, says_clear, both_facts, cover_facts}
use Rattle.ed_rules.proofs.facts.FactsTold.{any-gives, text-same, point-named, is_clear-true, tells-true}

positive-nat : (z : ℤ) → pos 1 ≤ℤ z → (n : ℕ) × (z ≡ pos n)
positive-nat (pos n) h = (n, refl)
positive-nat (negsuc n) h = absurd (omega (arith, ints))

pub record IsLine (number : ℤ) (count : ℕ) : Type 0 where
  pub line : ℕ
  pub is : number ≡ pos line
  pub from : 1 ≤ line
  pub inside : line ≤ count

pub is_line-true : (zone : Bounds) (number : Numbers) (lines : List Line) (x : ℕ) → is_line zone x ≡ true → x < 32 → Holds zone number → ReadsEnds number lines →
    IsLine (number x) (length lines)
is_line-true zone number lines x e hx holds r =
    let b = and_parts (known zone 0 x (negsuc 0)) (known zone x 2 (pos 0)) e in
    let low : (number 0 -ℤ number x) ≤ℤ negsuc 0 = known-true zone number 0 x (negsuc 0) b.0 (omega arith) hx holds in
    let high : (number x -ℤ number 2) ≤ℤ pos 0 = known-true zone number x 2 (pos 0) b.1 hx (omega arith) holds in
    let z = r.zero_is in
    let l = r.last_is in
    let n = positive-nat (number x) (omega (arith, ints)) in
    let i = n.1 in
    record { line = n.0; is = n.1; from = omega (arith, ints); inside = omega (arith, ints) }

answer-same : (a b : Bool) → same_answer a b ≡ true → a ≡ b
answer-same true true e = refl
answer-same true false e = cc
answer-same false true e = cc
answer-same false false e = refl

answer-itself : (b : Bool) → same_answer b b ≡ true
answer-itself true = refl
answer-itself false = refl

line_fact : ℕ → List ℕ → Bool → LineFact
line_fact x p m = record { name = x; pattern = p; matches = m }

fact-same : (x y : ℕ) (p q : List ℕ) (a b : Bool) → x ≡ y → p ≡ q → a ≡ b → line_fact x p a ≡ line_fact y q b
fact-same x y p q a b e f g = cc

same_fact-true : (f g : LineFact) → same_fact f g ≡ true → f ≡ g
unfolding line_fact
same_fact-true f g e =
    let a = and_parts (same_text f.pattern g.pattern) _ e in
    let b = and_parts (nat_eq f.name g.name) _ a.1 in
    let p : f.pattern ≡ g.pattern = text-same f.pattern g.pattern a.0 in
    let n : f.name ≡ g.name = eqb-true f.name g.name b.0 in
    let m : f.matches ≡ g.matches = answer-same f.matches g.matches b.1 in
    fact-same f.name g.name f.pattern g.pattern f.matches g.matches n p m

stretch : ℕ → ℕ → List ℕ → Stretch
stretch x y p = record { after = x; before = y; pattern = p }

stretch-same : (x y z w : ℕ) (p q : List ℕ) → x ≡ z → y ≡ w → p ≡ q → stretch x y p ≡ stretch z w q
stretch-same x y z w p q e f g = cc

same_stretch-true : (s t : Stretch) → same_stretch s t ≡ true → s ≡ t
unfolding stretch
same_stretch-true s t e =
    let a = and_parts (same_text s.pattern t.pattern) _ e in
    let b = and_parts (nat_eq s.after t.after) _ a.1 in
    let p : s.pattern ≡ t.pattern = text-same s.pattern t.pattern a.0 in
    let x : s.after ≡ t.after = eqb-true s.after t.after b.0 in
    let y : s.before ≡ t.before = eqb-true s.before t.before b.1 in
    stretch-same s.after s.before t.after t.before s.pattern t.pattern x y p

says_line-true : (zone : Bounds) (facts : Facts) (number : Numbers) (lines : List Line) (f : LineFact) → says_line zone facts f ≡ true →
    Holds zone number → ReadsEnds number lines → FactsHold facts number lines → LineFactHolds number lines f
says_line-true zone facts number lines f e holds r h =
    elim (or_cases (list_any (same_fact f) facts.lines) _ e) [
      | inl k ↦ any-gives (same_fact f) (LineFactHolds number lines) (LineFactHolds number lines f) facts.lines h.of_lines
          (λ g t q. subst (λ (u : LineFact). LineFactHolds number lines u) (sym (same_fact-true f g q)) t) k
      | inr k ↦
          let a = and_parts (nat_lt f.name 32) _ k in
          let named : f.name < 32 = ltb-true f.name 32 a.0 in
          let b = and_parts (is_line zone f.name) _ a.1 in
          let i = is_line-true zone number lines f.name b.0 named holds r in
          record {
            named = named;
            holds = record {
              line = i.line;
              is = i.is;
              from = i.from;
              inside = i.inside;
              told = tells-true zone facts number lines f.name i.line f.pattern f.matches b.1 named holds h i.is i.from i.inside;
            };
          }
    ]

says_clear-true : (zone : Bounds) (facts : Facts) (number : Numbers) (lines : List Line) (s : Stretch) → says_clear zone facts s ≡ true →
    Holds zone number → FactsHold facts number lines → StretchHolds number lines s
says_clear-true zone facts number lines s e holds h =
    elim (or_cases (list_any (same_stretch s) facts.clear) _ e) [
      | inl k ↦ any-gives (same_stretch s) (StretchHolds number lines) (StretchHolds number lines s) facts.clear h.of_clear
          (λ t u q. subst (λ (v : Stretch). StretchHolds number lines v) (sym (same_stretch-true s t q)) u) k
      | inr k ↦
          let a = and_parts (nat_lt s.after 33) _ k in
          let b = and_parts (nat_lt s.before 33) _ a.1 in
          let after_named : s.after < 33 = ltb-true s.after 33 a.0 in
          let before_named : s.before < 33 = ltb-true s.before 33 b.0 in
          record {
            after_named = after_named;
            before_named = before_named;
            holds = is_clear-true zone facts number lines (point s.after) (point s.before) s.pattern b.1
                (point-named s.after after_named) (point-named s.before before_named) holds h;
          }
    ]

-- what holds of each that passes
filter-gives : {A : Type 0} (test : A → Bool) (Q : A → Type 0) (xs : List A) → ((x : A) → test x ≡ true → Q x) → All Q (filter test xs)
filter-gives test Q [] k = All-nil Q
filter-gives test Q (x ∷ xs) k =
    (elim (test x) as (λ b. test x ≡ b → All Q (cond b (x ∷ filter test xs) (filter test xs))) [
      | true ↦ λ e. All-cons Q x (filter test xs) (k x e) (filter-gives test Q xs k)
      | false ↦ λ e. filter-gives test Q xs k
    ]) refl

pub FactsHold-both : (one : Facts) (zone : Bounds) (other : Facts) (number : Numbers) (lines : List Line) → FactsHold one number lines → FactsHold (both_facts one zone other) number lines
FactsHold-both one zone other number lines h = record {
  of_lines = All-filter (says_line zone other) (LineFactHolds number lines) one.lines h.of_lines;
  of_clear = All-filter (says_clear zone other) (StretchHolds number lines) one.clear h.of_clear;
}

pub FactsHold-both_other : (one : Facts) (zone : Bounds) (other : Facts) (number : Numbers) (lines : List Line) → Holds zone number → ReadsEnds number lines → FactsHold other number lines →
    FactsHold (both_facts one zone other) number lines
FactsHold-both_other one zone other number lines holds r h = record {
  of_lines = filter-gives (says_line zone other) (LineFactHolds number lines) one.lines (λ f e. says_line-true zone other number lines f e holds r h);
  of_clear = filter-gives (says_clear zone other) (StretchHolds number lines) one.clear (λ s e. says_clear-true zone other number lines s e holds h);
}

pub all-gives : {A : Type 0} (test : A → Bool) (Q : A → Type 0) (xs : List A) → ((x : A) → test x ≡ true → Q x) → list_all test xs ≡ true → All Q xs
all-gives test Q [] k h = All-nil Q
all-gives test Q (x ∷ xs) k h = let b = and_parts (test x) (list_all test xs) h in All-cons Q x xs (k x b.0) (all-gives test Q xs k b.1)

pub FactsHold-covers : (weak : Facts) (zone : Bounds) (strong : Facts) (number : Numbers) (lines : List Line) → cover_facts weak zone strong ≡ true →
    Holds zone number → ReadsEnds number lines → FactsHold strong number lines → FactsHold weak number lines
FactsHold-covers weak zone strong number lines e holds r h =
    let b = and_parts (list_all (says_line zone strong) weak.lines) _ e in
    record {
      of_lines = all-gives (says_line zone strong) (LineFactHolds number lines) weak.lines (λ f q. says_line-true zone strong number lines f q holds r h) b.0;
      of_clear = all-gives (says_clear zone strong) (StretchHolds number lines) weak.clear (λ s q. says_clear-true zone strong number lines s q holds h) b.1;
    }

-- HOW FACTS ARE ORDERED

contains-there : {A : Type 0} (xs : List A) (x y : A) → Contains xs x → Contains (y ∷ xs) x
contains-there xs x y c = let k = c.1 in (suc c.0, omega arith, c.2)

-- a test that each element passes
all-each : {A : Type 0} (test : A → Bool) (xs : List A) → ((x : A) → Contains xs x → test x ≡ true) → list_all test xs ≡ true
all-each test [] k = refl
all-each test (x ∷ xs) k = and_from (test x) (list_all test xs) (k x (0, omega arith, refl)) (all-each test xs (λ y c. k y (contains-there xs y x c)))

any-of : {A : Type 0} (test : A → Bool) (xs : List A) (x : A) → Contains xs x → test x ≡ true → list_any test xs ≡ true
any-of test xs x c e = list_any_at test xs c.0 x c.1 (subst (λ y. test y ≡ true) (sym c.2) e)

text-itself : (text : List ℕ) → same_text text text ≡ true
text-itself text = (bytes_decides text text).1 refl

says-own_line : (zone : Bounds) (facts : Facts) (f : LineFact) → Contains facts.lines f → says_line zone facts f ≡ true
says-own_line zone facts f c =
    or_left (list_any (same_fact f) facts.lines) _
    (any-of (same_fact f) facts.lines f c
    (and_from (same_text f.pattern f.pattern) _ (text-itself f.pattern) (and_from (nat_eq f.name f.name) _ (eq-eqb f.name f.name refl) (answer-itself f.matches))))

says-own_clear : (zone : Bounds) (facts : Facts) (s : Stretch) → Contains facts.clear s → says_clear zone facts s ≡ true
says-own_clear zone facts s c =
    or_left (list_any (same_stretch s) facts.clear) _
    (any-of (same_stretch s) facts.clear s c
    (and_from (same_text s.pattern s.pattern) _ (text-itself s.pattern)
    (and_from (nat_eq s.after s.after) _ (eq-eqb s.after s.after refl) (eq-eqb s.before s.before refl))))

-- each element of a filtered list is one of the list, and passes
filtered : {A : Type 0} (test : A → Bool) (xs : List A) (x : A) → Contains (filter test xs) x → Contains xs x × (test x ≡ true)
filtered test xs x c = (
  All-contains (Contains xs) (filter test xs) x (All-filter test (Contains xs) xs (All-contains_itself xs)) c,
  All-contains (λ y. test y ≡ true) (filter test xs) x (filter-gives test (λ y. test y ≡ true) xs (λ y e. e)) c,
)

all-filter : {A : Type 0} (p test : A → Bool) (xs : List A) → list_all p xs ≡ true → list_all p (filter test xs) ≡ true
all-filter p test xs h = all-each p (filter test xs) (λ x c. All-contains (λ y. p y ≡ true) xs x (all-gives p (λ y. p y ≡ true) xs (λ y e. e) h) (filtered test xs x c).0)

pub cover-itself : (facts : Facts) (zone : Bounds) → cover_facts facts zone facts ≡ true
cover-itself facts zone =
    and_from (list_all (says_line zone facts) facts.lines) _
    (all-each (says_line zone facts) facts.lines (λ f c. says-own_line zone facts f c))
    (all-each (says_clear zone facts) facts.clear (λ s c. says-own_clear zone facts s c))

pub cover-both : (one other : Facts) (by zone : Bounds) → cover_facts (both_facts one by other) zone one ≡ true
cover-both one other by zone =
    and_from (list_all (says_line zone one) (filter (says_line by other) one.lines)) _
    (all-each (says_line zone one) (filter (says_line by other) one.lines) (λ f c. says-own_line zone one f (filtered (says_line by other) one.lines f c).0))
    (all-each (says_clear zone one) (filter (says_clear by other) one.clear) (λ s c. says-own_clear zone one s (filtered (says_clear by other) one.clear s c).0))

pub cover-both_other : (one other : Facts) (zone : Bounds) → cover_facts (both_facts one zone other) zone other ≡ true
cover-both_other one other zone =
    and_from (list_all (says_line zone other) (filter (says_line zone other) one.lines)) _
    (all-each (says_line zone other) (filter (says_line zone other) one.lines) (λ f c. (filtered (says_line zone other) one.lines f c).1))
    (all-each (says_clear zone other) (filter (says_clear zone other) one.clear) (λ s c. (filtered (says_clear zone other) one.clear s c).1))

-- fewer facts are covered too
pub cover-fewer : (p : LineFact → Bool) (q : Stretch → Bool) (facts : Facts) (zone : Bounds) (strong : Facts) → cover_facts facts zone strong ≡ true →
    cover_facts (record { lines = filter p facts.lines; clear = filter q facts.clear }) zone strong ≡ true
cover-fewer p q facts zone strong e =
    let b = and_parts (list_all (says_line zone strong) facts.lines) _ e in
    and_from (list_all (says_line zone strong) (filter p facts.lines)) _
    (all-filter (says_line zone strong) p facts.lines b.0)
    (all-filter (says_clear zone strong) q facts.clear b.1)

-- what covered before it was joined or widened covers after it
pub cover-on : (one other : Facts) (by zone : Bounds) (strong : Facts) → cover_facts one zone strong ≡ true → cover_facts (both_facts one by other) zone strong ≡ true
cover-on one other by zone strong e =
    let b = and_parts (list_all (says_line zone strong) one.lines) _ e in
    and_from (list_all (says_line zone strong) (filter (says_line by other) one.lines)) _
    (all-filter (says_line zone strong) (says_line by other) one.lines b.0)
    (all-filter (says_clear zone strong) (says_clear by other) one.clear b.1)
