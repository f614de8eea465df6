-- What is said of the line that a search finds is true of it.
use Rattle.std.proofs.Common.{◌≡◌, ◌<◌, ◌≤◌, inl, inr, ℕ, ◌+◌, ◌-◌, ℤ, pos, negsuc, ◌+ℤ◌, ◌-ℤ◌, ◌≤ℤ◌, ◌<ℤ◌, Bool, true, false, cond, not, ◌&&◌, eqb, List, [], ◌∷◌, find, length, get_or, ok_or, All, Option, Some, None, Ok, refl, sym, ap, subst, ◌∙◌, arith}
use Rattle.std.specs.List.{list_any, filter}
use Rattle.std.proofs.lemmas.Int.{ints}
use Rattle.std.proofs.lemmas.Bool.{eqb-false, cases_order, not-true, ne_eqb, and_parts}
use Rattle.std.proofs.lemmas.Bool.Decides.{eqb_tells}
use Rattle.std.proofs.lemmas.List.Elements.{All-head, All-tail, All-cons, All-nil, All-map, All-weaker}
use Rattle.zones.specs.Zone.{Bounds, Numbers, Holds, updated}
use Rattle.zones.specs.Steps.{after_guard}
use Rattle.zones.proofs.Soundness.{Holds-after_guard, Holds-after_set, Holds-after_forget}
use Rattle.zones.proofs.Known.{known-true, updated-same, updated-other}
use Rattle.ed_base.specs.Buffer.{Line, plain_line}
use Rattle.ed_syntax.specs.meaning.Values.{matches, matches_line, lines_forward, lines_backward, searched}
use Rattle.ed_syntax.specs.meaning.States as editor
use Rattle.ed_base.specs.declared.fault.Fault.TheVariants as fault
use Rattle.ed_rules.specs.Matched.{is_matched}
use Rattle.ed_rules.proofs.sound.Searching.{forward-finds, backward-finds}
use Rattle.ed_rules.proofs.facts.SearchOrder.{forward-found, backward-found}
use Rattle.ed_rules.specs.facts.FoundHolds.{KnownHolds, ReadsPlaces, Finds}
use Rattle.std.proofs.lemmas.List.Folds.{list_any_at}
use Rattle.ed_rules.specs.facts.Facts.{LineFact, Stretch, Facts, FactsHold, LineFactHolds, StretchHolds, IsClear, IsTold, value_of, at, point, end, same_text, is_clear}
use Rattle.ed_rules.specs.facts.FoundLines.{Known, known_as, without, with_answer, with_match, with_stretch, some_line, matches_it, is_witnessed, witnesses, is_only, at_most_each, at_least_each, ends_from, ends_after, first_after, is_ahead, found_ahead, found_only, searched_forward, begins_to, begins_before, last_before, is_behind, found_behind, searched_backward}
use Rattle.ed_rules.specs.facts.SearchOrder.{NonePass, IsFoundForward, IsFoundBackward}
use Rattle.ed_rules.proofs.facts.FactsTold.{any-gives, text-same, point-named, le-true, is_clear-true}

-- FACTS OF OTHER NAMES

pub filter-both : {A : Type 0} (test : A → Bool) (Q R : A → Type 0) (xs : List A) → All Q xs → ((x : A) → Q x → test x ≡ true → R x) → All R (filter test xs)
filter-both test Q R [] all k = All-nil R
filter-both test Q R (x ∷ xs) all k =
    let rest = filter-both test Q R xs (All-tail Q x xs all) k in
    (elim (test x) as (λ b. test x ≡ b → All R (cond b (x ∷ filter test xs) (filter test xs))) [
      | true ↦ λ e. All-cons R x (filter test xs) (k x (All-head Q x xs all) e) rest
      | false ↦ λ e. rest
    ]) refl

pub told-same : (count : ℕ) (test : ℕ → Bool) (y z : ℤ) (answer : Bool) → z ≡ y → IsTold count test y answer → IsTold count test z answer
told-same count test y z answer e h = record { line = h.line; is = e ∙ h.is; from = h.from; inside = h.inside; told = h.told }

pub clear-within : (count : ℕ) (test : ℕ → Bool) (low high low' high' : ℤ) → low ≤ℤ low' → high' ≤ℤ high → IsClear count test low high → IsClear count test low' high'
clear-within count test low high low' high' h k clear n from inside above under = clear n from inside (omega (arith, ints)) (omega (arith, ints))

pub not-name : (x y : ℕ) → not (eqb x y) ≡ true → x ≡ y → ⊥
not-name x y e = eqb-false x y (not-true (eqb x y) e)

-- a place of another name keeps its value
pub value-other : (t x : ℕ) (n : ℤ) (number : Numbers) → (2 ≡ t → ⊥) → x < 33 → (x ≡ t → ⊥) → value_of (updated number t n) (point x) ≡ value_of number (point x)
value-other t x n number ht hx ne = elim (eqb_tells x 32) [
  | inl e ↦ rw e.0 (ap (λ (z : ℤ). z +ℤ pos 1) (updated-other number t n 2 ht))
  | inr e ↦ rw e.0 (ap (λ (z : ℤ). z +ℤ pos 0) (updated-other number t n x ne))
]

pub FactsHold-without : (t : ℕ) (n : ℤ) (facts : Facts) (number : Numbers) (lines : List Line) → (2 ≡ t → ⊥) → FactsHold facts number lines → FactsHold (without t facts) (updated number t n) lines
FactsHold-without t n facts number lines ht h = record {
  of_lines = filter-both (λ (f : LineFact). not (eqb f.name t)) (LineFactHolds number lines) (LineFactHolds (updated number t n) lines) facts.lines h.of_lines
      (λ f q e. record { named = q.named; holds = told-same (length lines) (matches_line f.pattern lines) (number f.name) (updated number t n f.name) f.matches (updated-other number t n f.name (not-name f.name t e)) q.holds });
  of_clear = filter-both (λ (s : Stretch). not (eqb s.after t) && not (eqb s.before t)) (StretchHolds number lines) (StretchHolds (updated number t n) lines) facts.clear h.of_clear
      (λ s q e.
      let b = and_parts (not (eqb s.after t)) (not (eqb s.before t)) e in
      let low = value-other t s.after n number ht q.after_named (not-name s.after t b.0) in
      let high = value-other t s.before n number ht q.before_named (not-name s.before t b.1) in
      record {
        after_named = q.after_named;
        before_named = q.before_named;
        holds = clear-within (length lines) (matches_line s.pattern lines) _ _ _ _ (omega (arith, ints)) (omega (arith, ints)) q.holds;
      });
}

-- WITNESSES

-- a name is that of a line that passes
pub record IsWitness (number : Numbers) (count : ℕ) (test : ℕ → Bool) (v : ℕ) : Type 0 where
  pub named : v < 32
  pub line : ℕ
  pub is : number v ≡ pos line
  pub from : 1 ≤ line
  pub inside : line ≤ count
  pub passes : test line ≡ true

pub witness-of : (number : Numbers) (lines : List Line) (pattern : List ℕ) (f : LineFact) → LineFactHolds number lines f → matches_it pattern f ≡ true → IsWitness number (length lines) (matches_line pattern lines) f.name
witness-of number lines pattern f h e =
    let b = and_parts (same_text f.pattern pattern) f.matches e in
    record {
      named = h.named;
      line = h.holds.line;
      is = h.holds.is;
      from = h.holds.from;
      inside = h.holds.inside;
      passes = subst (λ (p : List ℕ). matches_line p lines h.holds.line ≡ true) (text-same f.pattern pattern b.0) (h.holds.told ∙ b.1);
    }

pub witnesses-true : (facts : Facts) (number : Numbers) (lines : List Line) (pattern : List ℕ) → FactsHold facts number lines → All (IsWitness number (length lines) (matches_line pattern lines)) (witnesses facts pattern)
witnesses-true facts number lines pattern h =
    All-map (IsWitness number (length lines) (matches_line pattern lines)) (λ (f : LineFact). f.name) (filter (matches_it pattern) facts.lines)
    (filter-both (matches_it pattern) (LineFactHolds number lines) (λ (f : LineFact). IsWitness number (length lines) (matches_line pattern lines) f.name) facts.lines h.of_lines (λ f q e. witness-of number lines pattern f q e))

pub find-gives : {A : Type 0} (test : A → Bool) (Q : A → Type 0) (xs : List A) (v : A) → All Q xs → find test xs ≡ Some v → Q v × (test v ≡ true)
find-gives test Q [] v all e = absurd cc
find-gives {A = A} test Q (x ∷ xs) v all e =
    (elim (test x) as (λ b. test x ≡ b → cond b (Some x) (find test xs) ≡ Some v → Q v × (test v ≡ true)) [
      | true ↦ λ q r. let s : x ≡ v = cc in (subst Q s (All-head Q x xs all), subst (λ (y : A). test y ≡ true) s q)
      | false ↦ λ q r. find-gives test Q xs v (All-tail Q x xs all) r
    ]) refl e

-- BOUNDS ON THE LINE THAT IS FOUND

Holds-at_most_each : (x : ℕ) (ys : List ℕ) (zone : Bounds) (w : Numbers) → x < 32 → All (λ y. (y < 32) × (w x ≤ℤ w y)) ys → Holds zone w → Holds (at_most_each x ys zone) w
Holds-at_most_each x [] zone w hx all h = h
Holds-at_most_each x (y ∷ ys) zone w hx all h =
    let k = All-head (λ (z : ℕ). (z < 32) × (w x ≤ℤ w z)) y ys all in
    let l = k.1 in
    Holds-at_most_each x ys _ w hx (All-tail (λ (z : ℕ). (z < 32) × (w x ≤ℤ w z)) y ys all) (Holds-after_guard zone x y (pos 0) w hx k.0 h (omega (arith, ints)))

Holds-at_least_each : (x : ℕ) (ys : List ℕ) (zone : Bounds) (w : Numbers) → x < 32 → All (λ y. (y < 32) × (w y ≤ℤ w x)) ys → Holds zone w → Holds (at_least_each x ys zone) w
Holds-at_least_each x [] zone w hx all h = h
Holds-at_least_each x (y ∷ ys) zone w hx all h =
    let k = All-head (λ (z : ℕ). (z < 32) × (w z ≤ℤ w x)) y ys all in
    let l = k.1 in
    Holds-at_least_each x ys _ w hx (All-tail (λ (z : ℕ). (z < 32) × (w z ≤ℤ w x)) y ys all) (Holds-after_guard zone y x (pos 0) w k.0 hx h (omega (arith, ints)))

-- what is known where a line was found: w are the numbers with it
pub record IsThere (w : Numbers) (lines : List Line) (pattern : List ℕ) (x n : ℕ) : Type 0 where
  pub named : x < 32
  pub is : w x ≡ pos n
  pub from : 1 ≤ n
  pub inside : n ≤ length lines
  pub passes : matches_line pattern lines n ≡ true

-- of a line it is known whether it matches
pub with_answer-holds : (w : Numbers) (lines : List Line) (pattern : List ℕ) (x : ℕ) (matches : Bool) (facts : Facts) → x < 32 →
    IsTold (length lines) (matches_line pattern lines) (w x) matches → FactsHold facts w lines → FactsHold (with_answer x pattern matches facts) w lines
with_answer-holds w lines pattern x matches facts named told h = record {
  of_lines = All-cons (LineFactHolds w lines) (record { name = x; pattern = pattern; matches = matches }) facts.lines (record { named = named; holds = told }) h.of_lines;
  of_clear = h.of_clear;
}

pub with_match-holds : (w : Numbers) (lines : List Line) (pattern : List ℕ) (x n : ℕ) (facts : Facts) → IsThere w lines pattern x n → FactsHold facts w lines → FactsHold (with_match x pattern facts) w lines
with_match-holds w lines pattern x n facts i h =
    with_answer-holds w lines pattern x true facts i.named (record { line = n; is = i.is; from = i.from; inside = i.inside; told = i.passes }) h

with_stretch-holds : (w : Numbers) (lines : List Line) (pattern : List ℕ) (a b : ℕ) (facts : Facts) → a < 33 → b < 33 →
    IsClear (length lines) (matches_line pattern lines) (value_of w (point a)) (value_of w (point b)) → FactsHold facts w lines → FactsHold (with_stretch a b pattern facts) w lines
with_stretch-holds w lines pattern a b facts ha hb clear h = record {
  of_lines = h.of_lines;
  of_clear = All-cons (StretchHolds w lines) (record { after = a; before = b; pattern = pattern }) facts.clear (record { after_named = ha; before_named = hb; holds = clear }) h.of_clear;
}

pub value-at : (w : Numbers) (x : ℕ) → x < 32 → value_of w (point x) ≡ w x
value-at w x h = let e : eqb x 32 ≡ false = ne_eqb x 32 (λ q. omega arith) in rw e (omega (arith, ints))

both-ways : (b : Bool) → b ≡ true → b ≡ false → ⊥
both-ways b e f = cc

-- where stretches end that begin no later than `low`, the found line is no earlier
ends-true : (zone : Bounds) (facts : Facts) (w : Numbers) (lines : List Line) (pattern : List ℕ) (x n low : ℕ) → IsThere w lines pattern x n → low < 32 → Holds zone w → FactsHold facts w lines → w low <ℤ pos n →
    All (λ y. (y < 32) × (w y ≤ℤ w x)) (ends_after zone facts low pattern)
ends-true zone facts w lines pattern x n low i hl holds h above =
    All-map (λ (y : ℕ). (y < 32) × (w y ≤ℤ w x)) (λ (s : Stretch). s.before) (filter (ends_from zone low pattern) facts.clear)
    (filter-both (ends_from zone low pattern) (StretchHolds w lines) (λ (s : Stretch). (s.before < 32) × (w s.before ≤ℤ w x)) facts.clear h.of_clear
    (λ s q e.
    let a = and_parts (same_text s.pattern pattern) _ e in
    let b = and_parts (not (eqb s.before end)) _ a.1 in
    let ne = not-name s.before end b.0 in
    let named = q.before_named in
    let small : s.before < 32 = omega arith in
    let begins = le-true zone w (point s.after) (at low) (pos 0) b.1 (point-named s.after q.after_named) hl holds in
    let v : value_of w (point s.before) ≡ w s.before = value-at w s.before small in
    let is = i.is in
    let same : matches_line s.pattern lines n ≡ true = subst (λ (p : List ℕ). matches_line p lines n ≡ true) (sym (text-same s.pattern pattern a.0)) i.passes in
    (small, not-above (w s.before) (w x) (λ less. both-ways _ same (q.holds n i.from i.inside (omega (arith, ints)) (omega (arith, ints))))))
    )
  where
    not-above : (y z : ℤ) → (z <ℤ y → ⊥) → y ≤ℤ z
    not-above y z k = grind (arith, ints)

-- FORWARD

no-less : (y z : ℤ) → (z <ℤ y → ⊥) → y ≤ℤ z
no-less y z k = grind (arith, ints)

first_after-holds : (zone : Bounds) (facts : Facts) (w : Numbers) (lines : List Line) (pattern : List ℕ) (x n low : ℕ) (highs : List ℕ) → IsThere w lines pattern x n → low < 32 → Holds zone w → FactsHold facts w lines →
    w low <ℤ pos n → All (λ y. (y < 32) × (w x ≤ℤ w y)) highs → IsClear (length lines) (matches_line pattern lines) (w low) (pos n) → KnownHolds (first_after low highs x pattern zone facts) w lines
first_after-holds zone facts w lines pattern x n low highs i hl holds h above bounded clear =
    let is = i.is in
    let hx : x < 33 = let k = i.named in omega arith in
    let a : value_of w (point low) ≡ w low = value-at w low hl in
    let b : value_of w (point x) ≡ w x = value-at w x i.named in
    record {
      zone = Holds-at_least_each x (ends_after zone facts low pattern) _ w i.named (ends-true zone facts w lines pattern x n low i hl holds h above)
          (Holds-at_most_each x highs _ w i.named bounded (Holds-after_guard zone low x (negsuc 0) w hl i.named holds (omega (arith, ints))));
      facts = with_match-holds w lines pattern x n (with_stretch low x pattern facts) i
          (with_stretch-holds w lines pattern low x facts (omega arith) hx
          (clear-within (length lines) (matches_line pattern lines) (w low) (pos n) _ _ (omega (arith, ints)) (omega (arith, ints)) clear) h);
    }

-- a line that passes isn't one of those that don't
not-among : (p : ℕ → Bool) (a b n : ℕ) → NonePass p a b → p n ≡ true → a ≤ n → n < b → ⊥
not-among p a b n none passes from below = both-ways (p n) passes (none n from below)

ahead-of : (zone : Bounds) (w : Numbers) (v k current : ℕ) → Holds zone w → v < 32 → w v ≡ pos k → w 1 ≡ pos current → is_ahead zone v ≡ true → current < k
ahead-of zone w v k current holds hv vs cs e =
    let l : (w 1 -ℤ w v) ≤ℤ negsuc 0 = known-true zone w 1 v (negsuc 0) e (omega arith) hv holds in
    omega (arith, ints)

found_ahead-holds : (zone : Bounds) (facts : Facts) (w : Numbers) (lines : List Line) (pattern : List ℕ) (x n current : ℕ) → IsThere w lines pattern x n → Holds zone w → FactsHold facts w lines → ReadsPlaces w current lines →
    current ≤ length lines → IsFoundForward (matches_line pattern lines) current (length lines) n → KnownHolds (found_ahead x pattern zone facts) w lines
found_ahead-holds zone facts w lines pattern x n current i holds h r in_buffer found =
    let count : ℕ = length lines in
    let p : ℕ → Bool = matches_line pattern lines in
    let ws : List ℕ = witnesses facts pattern in
    let W : ℕ → Type 0 = IsWitness w count p in
    let all : All W ws = witnesses-true facts w lines pattern h in
    let zero_is = r.zero_is in
    let current_is = r.current_is in
    let last_is = r.last_is in
    let is = i.is in
    let from = i.from in
    let inside = i.inside in
    (elim (list_any (is_ahead zone) ws) as
    (λ b. list_any (is_ahead zone) ws ≡ b → KnownHolds (cond b (first_after 1 (filter (is_ahead zone) ws) x pattern zone facts)
    (cond (is_clear zone facts (at 1) (point end) pattern) (first_after 0 ws x pattern zone facts) (known_as zone (with_match x pattern facts)))) w lines) [
      | true ↦ λ e.
          let lies : (current < n) × NonePass p (current + 1) n = (elim found.lies [
            | inl l ↦ l
            | inr l ↦ absurd (any-gives (is_ahead zone) W ⊥ ws all (λ v q a.
                let past = ahead-of zone w v q.line current holds q.named q.is current_is a in
                let within = q.inside in
                not-among p (current + 1) (count + 1) q.line l.1 q.passes (omega arith) (omega arith)) e)
          ]) in
          let past = lies.0 in
          first_after-holds zone facts w lines pattern x n 1 (filter (is_ahead zone) ws) i (omega arith) holds h (omega (arith, ints))
          (filter-both (is_ahead zone) W (λ y. (y < 32) × (w x ≤ℤ w y)) ws all (λ v q a.
          let beyond = ahead-of zone w v q.line current holds q.named q.is current_is a in
          let vs = q.is in
          (q.named, no-less (w x) (w v) (λ less. not-among p (current + 1) n q.line lies.1 q.passes (omega arith) (omega (arith, ints))))))
          (λ m low high above under. lies.1 m (omega (arith, ints)) (omega (arith, ints)))
      | false ↦ λ e.
          (elim (is_clear zone facts (at 1) (point end) pattern) as
          (λ b. is_clear zone facts (at 1) (point end) pattern ≡ b → KnownHolds (cond b (first_after 0 ws x pattern zone facts) (known_as zone (with_match x pattern facts))) w lines) [
            | true ↦ λ k.
                let clear = is_clear-true zone facts w lines (at 1) (point end) pattern k (omega arith) (omega arith) holds h in
                let lies : (n ≤ current) × NonePass p (current + 1) (count + 1) × NonePass p 1 n = (elim found.lies [
                  | inl l ↦ let past = l.0 in absurd (both-ways (p n) i.passes (clear n from inside (omega (arith, ints)) (omega (arith, ints))))
                  | inr l ↦ l
                ]) in
                first_after-holds zone facts w lines pattern x n 0 ws i (omega arith) holds h (omega (arith, ints))
                (All-weaker W (λ y. (y < 32) × (w x ≤ℤ w y)) (λ v q.
                let vs = q.is in
                (q.named, no-less (w x) (w v) (λ less. not-among p 1 n q.line lies.2 q.passes q.from (omega (arith, ints))))) ws all)
                (λ m low high above under. lies.2 m low (omega (arith, ints)))
            | false ↦ λ k. record { zone = holds; facts = with_match-holds w lines pattern x n facts i h }
          ]) refl
    ]) refl

-- the only line that matches is the one that is found
only-found : (zone : Bounds) (facts : Facts) (w : Numbers) (lines : List Line) (pattern : List ℕ) (x n v current : ℕ) → IsThere w lines pattern x n → Holds zone w → FactsHold facts w lines → ReadsPlaces w current lines →
    IsWitness w (length lines) (matches_line pattern lines) v → is_only zone facts pattern v ≡ true → KnownHolds (found_only v x pattern zone facts) w lines
only-found zone facts w lines pattern x n v current i holds h r q e =
    let b = and_parts (is_clear zone facts (at 0) (at v) pattern) _ e in
    let before = is_clear-true zone facts w lines (at 0) (at v) pattern b.0 (omega arith) q.named holds h in
    let after = is_clear-true zone facts w lines (at v) (point end) pattern b.1 q.named (omega arith) holds h in
    let zero_is = r.zero_is in
    let last_is = r.last_is in
    let vs = q.is in
    let is = i.is in
    let inside = i.inside in
    let one : n ≡ q.line = (elim (cases_order n q.line) [
      | inl s ↦ s
      | inr s ↦ absurd (elim s [
        | inl less ↦ both-ways _ i.passes (before n i.from i.inside (let from = i.from in omega (arith, ints)) (omega (arith, ints)))
        | inr more ↦ both-ways _ i.passes (after n i.from i.inside (omega (arith, ints)) (omega (arith, ints)))
      ])
    ]) in
    record {
      zone = Holds-after_set zone x v (pos 0) w w i.named q.named holds (λ y ne. refl) (omega (arith, ints));
      facts = with_match-holds w lines pattern x n facts i h;
    }

-- the zone and the facts of other names hold with the line that was found
there-holds : (zone : Bounds) (number : Numbers) (x n count : ℕ) → 3 ≤ x → x < 6 → Holds zone number → number 0 ≡ pos 0 → number 2 ≡ pos count → 1 ≤ n → n ≤ count → Holds (some_line x zone) (updated number x (pos n))
there-holds zone number x n count lo hi holds zero_is last_is from inside =
    let w : Numbers = updated number x (pos n) in
    let wx : w x ≡ pos n = updated-same number x (pos n) in
    let w0 : w 0 ≡ pos 0 = updated-other number x (pos n) 0 (omega arith) ∙ zero_is in
    let w2 : w 2 ≡ pos count = updated-other number x (pos n) 2 (omega arith) ∙ last_is in
    Holds-after_guard _ x 2 (pos 0) w (omega arith) (omega arith)
    (Holds-after_guard _ 0 x (negsuc 0) w (omega arith) (omega arith) (Holds-after_forget zone x number w holds (updated-other number x (pos n))) (omega (arith, ints))) (omega (arith, ints))

pub forward-holds : (zone : Bounds) (facts : Facts) (number : Numbers) (lines : List Line) (pattern : List ℕ) (x n current : ℕ) → 3 ≤ x → x < 6 → Holds zone number → FactsHold facts number lines → ReadsPlaces number current lines →
    current ≤ length lines → IsFoundForward (matches_line pattern lines) current (length lines) n → KnownHolds (searched_forward x pattern zone facts) (updated number x (pos n)) lines
forward-holds zone facts number lines pattern x n current lo hi holds h r in_buffer found =
    let w : Numbers = updated number x (pos n) in
    let others : Facts = without x facts in
    let there : Bounds = some_line x zone in
    let i : IsThere w lines pattern x n = record { named = omega arith; is = updated-same number x (pos n); from = found.from; inside = found.inside; passes = found.passes } in
    let z : Holds there w = there-holds zone number x n (length lines) lo hi holds r.zero_is r.last_is found.from found.inside in
    let f : FactsHold others w lines = FactsHold-without x (pos n) facts number lines (λ (q : 2 ≡ x). omega arith) h in
    let q : ReadsPlaces w current lines = record {
      zero_is = updated-other number x (pos n) 0 (omega arith) ∙ r.zero_is;
      current_is = updated-other number x (pos n) 1 (omega arith) ∙ r.current_is;
      last_is = updated-other number x (pos n) 2 (omega arith) ∙ r.last_is;
    } in
    (elim (find (is_only there others pattern) (witnesses others pattern)) as
    (λ o. find (is_only there others pattern) (witnesses others pattern) ≡ o → KnownHolds (elim o as (λ _. Known) [ Some v ↦ found_only v x pattern there others | None ↦ found_ahead x pattern there others ]) w lines) [
      | Some v ↦ λ e.
          let k = find-gives (is_only there others pattern) (IsWitness w (length lines) (matches_line pattern lines)) (witnesses others pattern) v (witnesses-true others w lines pattern f) e in
          only-found there others w lines pattern x n v current i z f q k.0 k.1
      | None ↦ λ e. found_ahead-holds there others w lines pattern x n current i z f q in_buffer found
    ]) refl

-- BACKWARD

-- where stretches begin that end no earlier than `high`, the found line is no later; `high` may be the end
begins-true : (zone : Bounds) (facts : Facts) (w : Numbers) (lines : List Line) (pattern : List ℕ) (x n high : ℕ) → IsThere w lines pattern x n → high < 33 → Holds zone w → FactsHold facts w lines → pos n <ℤ value_of w (point high) →
    All (λ y. (y < 32) × (w x ≤ℤ w y)) (begins_before zone facts high pattern)
begins-true zone facts w lines pattern x n high i hl holds h under =
    All-map (λ (y : ℕ). (y < 32) × (w x ≤ℤ w y)) (λ (s : Stretch). s.after) (filter (begins_to zone high pattern) facts.clear)
    (filter-both (begins_to zone high pattern) (StretchHolds w lines) (λ (s : Stretch). (s.after < 32) × (w x ≤ℤ w s.after)) facts.clear h.of_clear
    (λ s q e.
    let a = and_parts (same_text s.pattern pattern) _ e in
    let b = and_parts (not (eqb s.after end)) _ a.1 in
    let ne = not-name s.after end b.0 in
    let named = q.after_named in
    let small : s.after < 32 = omega arith in
    let ends = le-true zone w (point high) (point s.before) (pos 0) b.1 (point-named high hl) (point-named s.before q.before_named) holds in
    let v : value_of w (point s.after) ≡ w s.after = value-at w s.after small in
    let is = i.is in
    let same : matches_line s.pattern lines n ≡ true = subst (λ (p : List ℕ). matches_line p lines n ≡ true) (sym (text-same s.pattern pattern a.0)) i.passes in
    (small, no-less (w x) (w s.after) (λ less. both-ways _ same (q.holds n i.from i.inside (omega (arith, ints)) (omega (arith, ints)))))))

last_before-holds : (start zone : Bounds) (facts : Facts) (w : Numbers) (lines : List Line) (pattern : List ℕ) (x n high : ℕ) (lows : List ℕ) → IsThere w lines pattern x n → high < 33 → Holds start w → Holds zone w → FactsHold facts w lines →
    pos n <ℤ value_of w (point high) → All (λ y. (y < 32) × (w y ≤ℤ w x)) lows → IsClear (length lines) (matches_line pattern lines) (pos n) (value_of w (point high)) → KnownHolds (last_before high lows x pattern start zone facts) w lines
last_before-holds start zone facts w lines pattern x n high lows i hl begun holds h under bounded clear =
    let is = i.is in
    let hx : x < 33 = let k = i.named in omega arith in
    let b : value_of w (point x) ≡ w x = value-at w x i.named in
    record {
      zone = Holds-at_most_each x (begins_before start facts high pattern) _ w i.named (begins-true start facts w lines pattern x n high i hl begun h under)
          (Holds-at_least_each x lows _ w i.named bounded holds);
      facts = with_match-holds w lines pattern x n (with_stretch x high pattern facts) i
          (with_stretch-holds w lines pattern x high facts hx hl
          (clear-within (length lines) (matches_line pattern lines) (pos n) (value_of w (point high)) _ _ (omega (arith, ints)) (omega (arith, ints)) clear) h);
    }

behind-of : (zone : Bounds) (w : Numbers) (v k current : ℕ) → Holds zone w → v < 32 → w v ≡ pos k → w 1 ≡ pos current → is_behind zone v ≡ true → k < current
behind-of zone w v k current holds hv vs cs e =
    let l : (w v -ℤ w 1) ≤ℤ negsuc 0 = known-true zone w v 1 (negsuc 0) e hv (omega arith) holds in
    omega (arith, ints)

found_behind-holds : (zone : Bounds) (facts : Facts) (w : Numbers) (lines : List Line) (pattern : List ℕ) (x n current : ℕ) → IsThere w lines pattern x n → Holds zone w → FactsHold facts w lines → ReadsPlaces w current lines →
    current ≤ length lines → IsFoundBackward (matches_line pattern lines) current (length lines) n → KnownHolds (found_behind x pattern zone facts) w lines
found_behind-holds zone facts w lines pattern x n current i holds h r in_buffer found =
    let count : ℕ = length lines in
    let p : ℕ → Bool = matches_line pattern lines in
    let ws : List ℕ = witnesses facts pattern in
    let W : ℕ → Type 0 = IsWitness w count p in
    let all : All W ws = witnesses-true facts w lines pattern h in
    let zero_is = r.zero_is in
    let current_is = r.current_is in
    let last_is = r.last_is in
    let is = i.is in
    let from = i.from in
    let inside = i.inside in
    let here : value_of w (point 1) ≡ w 1 = value-at w 1 (omega arith) in
    (elim (list_any (is_behind zone) ws) as
    (λ b. list_any (is_behind zone) ws ≡ b → KnownHolds (cond b (last_before 1 (filter (is_behind zone) ws) x pattern zone (after_guard zone x 1 (negsuc 0)) facts)
    (cond (is_clear zone facts (at 0) (at 1) pattern) (last_before end ws x pattern zone zone facts) (known_as zone (with_match x pattern facts)))) w lines) [
      | true ↦ λ e.
          let lies : (n < current) × NonePass p (n + 1) current = (elim found.lies [
            | inl l ↦ l
            | inr l ↦ absurd (any-gives (is_behind zone) W ⊥ ws all (λ v q a.
                let past = behind-of zone w v q.line current holds q.named q.is current_is a in
                not-among p 1 current q.line l.1 q.passes q.from past) e)
          ]) in
          let past = lies.0 in
          last_before-holds zone (after_guard zone x 1 (negsuc 0)) facts w lines pattern x n 1 (filter (is_behind zone) ws) i (omega arith) holds
          (Holds-after_guard zone x 1 (negsuc 0) w i.named (omega arith) holds (omega (arith, ints))) h (omega (arith, ints))
          (filter-both (is_behind zone) W (λ y. (y < 32) × (w y ≤ℤ w x)) ws all (λ v q a.
          let beyond = behind-of zone w v q.line current holds q.named q.is current_is a in
          let vs = q.is in
          (q.named, no-less (w v) (w x) (λ less. not-among p (n + 1) current q.line lies.1 q.passes (omega (arith, ints)) (omega arith)))))
          (λ m low high above under. lies.1 m (omega (arith, ints)) (omega (arith, ints)))
      | false ↦ λ e.
          (elim (is_clear zone facts (at 0) (at 1) pattern) as
          (λ b. is_clear zone facts (at 0) (at 1) pattern ≡ b → KnownHolds (cond b (last_before end ws x pattern zone zone facts) (known_as zone (with_match x pattern facts))) w lines) [
            | true ↦ λ k.
                let clear = is_clear-true zone facts w lines (at 0) (at 1) pattern k (omega arith) (omega arith) holds h in
                let lies : (current ≤ n) × NonePass p 1 current × NonePass p (n + 1) (count + 1) = (elim found.lies [
                  | inl l ↦ let past = l.0 in absurd (both-ways (p n) i.passes (clear n from inside (omega (arith, ints)) (omega (arith, ints))))
                  | inr l ↦ l
                ]) in
                last_before-holds zone zone facts w lines pattern x n end ws i (omega arith) holds holds h (omega (arith, ints))
                (All-weaker W (λ y. (y < 32) × (w y ≤ℤ w x)) (λ v q.
                let vs = q.is in
                let within = q.inside in
                (q.named, no-less (w v) (w x) (λ less. not-among p (n + 1) (count + 1) q.line lies.2 q.passes (omega (arith, ints)) (omega arith)))) ws all)
                (λ m low high above under. lies.2 m (omega (arith, ints)) (omega arith))
            | false ↦ λ k. record { zone = holds; facts = with_match-holds w lines pattern x n facts i h }
          ]) refl
    ]) refl

pub backward-holds : (zone : Bounds) (facts : Facts) (number : Numbers) (lines : List Line) (pattern : List ℕ) (x n current : ℕ) → 3 ≤ x → x < 6 → Holds zone number → FactsHold facts number lines → ReadsPlaces number current lines →
    current ≤ length lines → IsFoundBackward (matches_line pattern lines) current (length lines) n → KnownHolds (searched_backward x pattern zone facts) (updated number x (pos n)) lines
backward-holds zone facts number lines pattern x n current lo hi holds h r in_buffer found =
    let w : Numbers = updated number x (pos n) in
    let others : Facts = without x facts in
    let there : Bounds = some_line x zone in
    let i : IsThere w lines pattern x n = record { named = omega arith; is = updated-same number x (pos n); from = found.from; inside = found.inside; passes = found.passes } in
    let z : Holds there w = there-holds zone number x n (length lines) lo hi holds r.zero_is r.last_is found.from found.inside in
    let f : FactsHold others w lines = FactsHold-without x (pos n) facts number lines (λ (q : 2 ≡ x). omega arith) h in
    let q : ReadsPlaces w current lines = record {
      zero_is = updated-other number x (pos n) 0 (omega arith) ∙ r.zero_is;
      current_is = updated-other number x (pos n) 1 (omega arith) ∙ r.current_is;
      last_is = updated-other number x (pos n) 2 (omega arith) ∙ r.last_is;
    } in
    (elim (find (is_only there others pattern) (witnesses others pattern)) as
    (λ o. find (is_only there others pattern) (witnesses others pattern) ≡ o → KnownHolds (elim o as (λ _. Known) [ Some v ↦ found_only v x pattern there others | None ↦ found_behind x pattern there others ]) w lines) [
      | Some v ↦ λ e.
          let k = find-gives (is_only there others pattern) (IsWitness w (length lines) (matches_line pattern lines)) (witnesses others pattern) v (witnesses-true others w lines pattern f) e in
          only-found there others w lines pattern x n v current i z f q k.0 k.1
      | None ↦ λ e. found_behind-holds there others w lines pattern x n current i z f q in_buffer found
    ]) refl

-- SOME LINE MATCHES

matched-at : (pattern : List ℕ) (lines : List Line) (i : ℕ) → i < length lines → matches pattern (get_or lines i (plain_line [])).bytes ≡ true → is_matched lines pattern ≡ true
matched-at pattern lines i h e = list_any_at (λ (l : Line). matches pattern l.bytes) lines i (plain_line []) h e

pub witnessed-matched : (facts : Facts) (number : Numbers) (lines : List Line) (pattern : List ℕ) → FactsHold facts number lines → is_witnessed facts pattern ≡ true → is_matched lines pattern ≡ true
witnessed-matched facts number lines pattern h e =
    any-gives (matches_it pattern) (LineFactHolds number lines) (is_matched lines pattern ≡ true) facts.lines h.of_lines
    (λ f q a.
    let v = witness-of number lines pattern f q a in
    let from = v.from in
    let inside = v.inside in
    matched-at pattern lines (v.line - 1) (omega arith) v.passes) e

ok-some : (o : Option ℕ) (n : ℕ) → ok_or o fault.NoMatch ≡ Ok n → o ≡ Some n
ok-some None n e = absurd cc
ok-some (Some m) n e = let k : m ≡ n = cc in ap Some k

pub forward-search : (zone : Bounds) (facts : Facts) (number : Numbers) (e : editor.State) (pattern : List ℕ) (x : ℕ) → 3 ≤ x → x < 6 → Holds zone number → FactsHold facts number e.lines → ReadsPlaces number e.current e.lines →
    e.current ≤ length e.lines → is_matched e.lines pattern ≡ true → Finds (searched_forward x pattern zone facts) number x e.lines (searched (Some pattern) (lines_forward e) e)
forward-search zone facts number e pattern x lo hi holds h r inside matched =
    let k = forward-finds pattern e matched inside in
    let found = forward-found (matches_line pattern e.lines) e.current (length e.lines) k.0 inside (ok-some _ k.0 k.1) in
    record { line = k.0; is = k.1; from = k.2; inside = k.3; holds = forward-holds zone facts number e.lines pattern x k.0 e.current lo hi holds h r inside found }

pub backward-search : (zone : Bounds) (facts : Facts) (number : Numbers) (e : editor.State) (pattern : List ℕ) (x : ℕ) → 3 ≤ x → x < 6 → Holds zone number → FactsHold facts number e.lines → ReadsPlaces number e.current e.lines →
    e.current ≤ length e.lines → is_matched e.lines pattern ≡ true → Finds (searched_backward x pattern zone facts) number x e.lines (searched (Some pattern) (lines_backward e) e)
backward-search zone facts number e pattern x lo hi holds h r inside matched =
    let k = backward-finds pattern e matched inside in
    let found = backward-found (matches_line pattern e.lines) e.current (length e.lines) k.0 inside (ok-some _ k.0 k.1) in
    record { line = k.0; is = k.1; from = k.2; inside = k.3; holds = backward-holds zone facts number e.lines pattern x k.0 e.current lo hi holds h r inside found }
