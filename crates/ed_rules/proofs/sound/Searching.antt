-- A search for a pattern that some line matches finds a line.
use Rattle.std.proofs.Common.{◌≡◌, ◌<◌, ◌≤◌, inl, inr, ℕ, zero, suc, ◌+◌, ◌-◌, ℤ, pos, negsuc, ◌+ℤ◌, max, Bool, true, false, cond, ◌||◌, List, [], ◌∷◌, ◌++◌, reverse, length, get_or, Option, Some, Ok, Err, arith, refl, ◌∙◌, sym, ap, subst, IsSome, IsTrue}
use Rattle.std.specs.List.{find, list_any}
use Rattle.std.specs.Option.{is_some, ok_or}
use Rattle.std.proofs.lemmas.Int.{ints}
use Rattle.std.proofs.lemmas.Bool.{cases_lt, cases_eq, or_cases, or_left, or_right}
use Rattle.std.proofs.lemmas.List.Folds.{list_any-append}
use Rattle.ed_base.specs.Buffer.{Line, plain_line}
use Rattle.ed_rules.specs.Matched.{is_matched}
use Rattle.std.proofs.lemmas.List.{reverse-append}
use Rattle.ed_base.specs.declared.fault.Fault.TheVariants as fault
use Rattle.bre_parse.specs.Grammar.{pattern}
use Rattle.bre_parse.specs.Match.{match_from}
use Rattle.bre_parse.specs.Always.{always}
use Rattle.bre_parse.proofs.AlwaysLaw.{pattern_matches}
use Rattle.zones.specs.Zone.{Bounds, Numbers, Holds, updated}
use Rattle.zones.proofs.Soundness.{Holds-after_guard, Holds-after_shift, Holds-after_forget}
use Rattle.ed_syntax.specs.meaning.States as editor
use Rattle.ed_syntax.specs.meaning.Values.{matches, matches_line, count_from, upwards, lines_forward, lines_backward}
use Rattle.ed_syntax.specs.meaning.Values as concrete
use Rattle.ed_rules.specs.Addresses.{is_always, found}
use Rattle.zones.proofs.Known.{updated-same, updated-other}

-- each of these numbers is a line's
abbrev Each : ℕ → List ℕ → Type 0
Each count [] = Unit {0}
Each count (n ∷ ns) = (1 ≤ n) × (n ≤ count) × Each count ns

Each-append : (count : ℕ) (xs ys : List ℕ) → Each count xs → Each count ys → Each count (xs ++ ys)
Each-append count [] ys h k = k
Each-append count (x ∷ xs) ys h k = (h.0, h.1, Each-append count xs ys h.2 k)

Each-count_from : (count first many : ℕ) → 1 ≤ first → first + many ≤ count + 1 → Each count (count_from first many)
Each-count_from count first zero h k = tt
Each-count_from count first (suc many) h k = (h, omega arith, Each-count_from count (first + 1) many (omega arith) (omega arith))

Each-upwards : (count a b : ℕ) → 1 ≤ a → b ≤ count → Each count (upwards a b)
Each-upwards count a b h k = elim (cases_lt (b + 1) a) [
  | inl l ↦ subst (λ (m : ℕ). Each count (count_from a m)) (let z : 0 ≡ b + 1 - a = omega arith in z) tt
  | inr l ↦ Each-count_from count a (b + 1 - a) h (omega arith)
]

-- where one of them passes, the first that passes is found
pub find-line : (p : ℕ → Bool) (count : ℕ) (ns : List ℕ) → list_any p ns ≡ true → Each count ns → (n : ℕ) × (find p ns ≡ Some n) × (1 ≤ n) × (n ≤ count)
find-line p count [] any each = absurd cc
find-line p count (n ∷ ns) any each =
    (elim (p n) as (λ b. p n ≡ b → b || list_any p ns ≡ true → (m : ℕ) × (cond b (Some n) (find p ns) ≡ Some m) × (1 ≤ m) × (m ≤ count)) [
      | true ↦ λ e h. (n, refl, each.0, each.1)
      | false ↦ λ e h. find-line p count ns h each.2
    ]) refl any

-- a number that passes is among those that are counted
any-count_from : (p : ℕ → Bool) (n first many : ℕ) → p n ≡ true → first ≤ n → n < first + many → list_any p (count_from first many) ≡ true
any-count_from p n first zero e h k = absurd (omega arith)
any-count_from p n first (suc many) e h k = elim (cases_eq n first) [
  | inl s ↦ or_left (p first) (list_any p (count_from (first + 1) many)) (subst (λ (m : ℕ). p m ≡ true) s e)
  | inr d ↦ or_right (p first) (list_any p (count_from (first + 1) many)) (any-count_from p n (first + 1) many e (omega arith) (omega arith))
]

any-reverse : (p : ℕ → Bool) (ns : List ℕ) → list_any p ns ≡ true → list_any p (reverse ns) ≡ true
any-reverse p [] h = h
any-reverse p (n ∷ ns) h =
    ap (list_any p) (reverse-append (n ∷ []) ns) ∙ list_any-append p (reverse ns) (n ∷ []) ∙ (elim (or_cases (p n) (list_any p ns) h) [
      | inl e ↦ or_right (list_any p (reverse ns)) (p n || false) (or_left (p n) false e)
      | inr e ↦ or_left (list_any p (reverse ns)) (p n || false) (any-reverse p ns e)
    ])

-- the place of a line that matches
matched-place : (text : List ℕ) (ls : List Line) → is_matched ls text ≡ true → (i : ℕ) × (i < length ls) × (matches text (get_or ls i (plain_line [])).bytes ≡ true)
matched-place text [] h = absurd cc
matched-place text (l ∷ ls) h = elim (or_cases (matches text l.bytes) (is_matched ls text) h) [
  | inl e ↦ (0, omega arith, e)
  | inr e ↦ let q = matched-place text ls e in let k = q.1 in (suc q.0, omega arith, q.2)
]

matched-number : (text : List ℕ) (ls : List Line) → is_matched ls text ≡ true → (n : ℕ) × (1 ≤ n) × (n ≤ length ls) × (matches_line text ls n ≡ true)
matched-number text ls h =
    let q = matched-place text ls h in
    let k = q.1 in
    let same : q.0 + 1 - 1 ≡ q.0 = omega arith in
    (q.0 + 1, omega arith, omega arith, subst (λ (i : ℕ). matches text (get_or ls i (plain_line [])).bytes ≡ true) (sym same) q.2)

is_some-true : {A : Type 0} (o : Option A) → IsSome o → is_some o ≡ true
is_some-true o h = h

IsTrue-of : (b : Bool) → b ≡ true → IsTrue b
IsTrue-of b h = h

pub always-matches : (text line : List ℕ) → is_always (Some text) ≡ true → matches text line ≡ true
always-matches text line =
    (elim (pattern text) as (λ r. pattern text ≡ r → (elim r as (λ _. Bool) [ Ok tree ↦ always tree | Err f ↦ false ]) ≡ true → (elim r as (λ _. Bool) [ Ok tree ↦ is_some (match_from tree line 0) | Err f ↦ false ]) ≡ true) [
      | Ok tree ↦ λ e h. is_some-true (match_from tree line 0) (pattern_matches text line tree e (IsTrue-of (always tree) h))
      | Err f ↦ λ e h. cc
    ]) refl

-- a pattern that always matches is matched where there is a line
pub always-matched : (text : List ℕ) (ls : List Line) → is_always (Some text) ≡ true → 1 ≤ length ls → is_matched ls text ≡ true
always-matched text [] h k = absurd (omega arith)
always-matched text (l ∷ ls) h k = or_left (matches text l.bytes) (is_matched ls text) (always-matches text l.bytes h)

-- forward
pub forward-finds : (text : List ℕ) (e : editor.State) → is_matched e.lines text ≡ true → e.current ≤ length e.lines →
    (n : ℕ) × (concrete.searched (Some text) (lines_forward e) e ≡ Ok n) × (1 ≤ n) × (n ≤ length e.lines)
forward-finds text e h inside =
    let count : ℕ = length e.lines in
    let p : ℕ → Bool = matches_line text e.lines in
    let after : List ℕ = upwards (e.current + 1) count in
    let before : List ℕ = upwards 1 e.current in
    let k = matched-number text e.lines h in
    let low = k.1 in
    let high = k.2 in
    let any : list_any p (after ++ before) ≡ true = list_any-append p after before ∙ (elim (cases_lt e.current k.0) [
      | inl l ↦ or_left (list_any p after) (list_any p before) (any-count_from p k.0 (e.current + 1) (count + 1 - (e.current + 1)) k.3 (omega arith) (omega arith))
      | inr l ↦ or_right (list_any p after) (list_any p before) (any-count_from p k.0 1 (e.current + 1 - 1) k.3 (omega arith) (omega arith))
    ]) in
    let q = find-line p count (after ++ before) any
    (Each-append count after before (Each-upwards count (e.current + 1) count (omega arith) (omega arith)) (Each-upwards count 1 e.current (omega arith) inside)) in
    (q.0, ap (λ (o : Option ℕ). ok_or o fault.NoMatch) q.1, q.2, q.3)

-- the zone with the found line
pub Holds-found : (x : ℕ) (k : ℤ) (zone : Bounds) (v : Numbers) (n count : ℕ) → 3 ≤ x → x < 6 → Holds zone v → v 0 ≡ pos 0 → v 2 ≡ pos count → 1 ≤ n → n ≤ count →
    Holds (found x k zone) (updated v x (pos n +ℤ k))
unfolding found
Holds-found x k zone v n count lo hi holds v0 v2 some inside =
    let u : Numbers = updated v x (pos n) in
    let w : Numbers = updated v x (pos n +ℤ k) in
    let ux : u x ≡ pos n = updated-same v x (pos n) in
    let wx : w x ≡ pos n +ℤ k = updated-same v x (pos n +ℤ k) in
    let u0 : u 0 ≡ pos 0 = updated-other v x (pos n) 0 (omega arith) ∙ v0 in
    let u2 : u 2 ≡ pos count = updated-other v x (pos n) 2 (omega arith) ∙ v2 in
    Holds-after_shift _ x (Some k) (Some k) u w (omega arith)
    (Holds-after_guard _ x 2 (pos 0) u (omega arith) (omega arith)
    (Holds-after_guard _ 0 x (negsuc 0) u (omega arith) (omega arith) (Holds-after_forget zone x v u holds (updated-other v x (pos n))) (omega (arith, ints))) (omega (arith, ints)))
    (λ p h. updated-other v x (pos n +ℤ k) p h ∙ sym (updated-other v x (pos n) p h)) (omega (arith, ints)) (omega (arith, ints))

-- backward
Each-reverse : (count : ℕ) (xs : List ℕ) → Each count xs → Each count (reverse xs)
Each-reverse count [] h = tt
Each-reverse count (x ∷ xs) h = subst (λ (l : List ℕ). Each count l) (sym (reverse-append (x ∷ []) xs)) (Each-append count (reverse xs) (x ∷ []) (Each-reverse count xs h.2) (h.0, h.1, tt))

pub backward-finds : (text : List ℕ) (e : editor.State) → is_matched e.lines text ≡ true → e.current ≤ length e.lines →
    (n : ℕ) × (concrete.searched (Some text) (lines_backward e) e ≡ Ok n) × (1 ≤ n) × (n ≤ length e.lines)
backward-finds text e h inside =
    let count : ℕ = length e.lines in
    let p : ℕ → Bool = matches_line text e.lines in
    let before : List ℕ = upwards 1 (e.current - 1) in
    let after : List ℕ = upwards (max 1 e.current) count in
    let k = matched-number text e.lines h in
    let low = k.1 in
    let high = k.2 in
    let any : list_any p (reverse before ++ reverse after) ≡ true = list_any-append p (reverse before) (reverse after) ∙ (elim (cases_lt k.0 e.current) [
      | inl l ↦ or_left (list_any p (reverse before)) (list_any p (reverse after)) (any-reverse p before (any-count_from p k.0 1 (e.current - 1 + 1 - 1) k.3 (omega arith) (omega arith)))
      | inr l ↦ or_right (list_any p (reverse before)) (list_any p (reverse after)) (any-reverse p after (any-count_from p k.0 (max 1 e.current) (count + 1 - max 1 e.current) k.3 (omega arith) (omega arith)))
    ]) in
    let q = find-line p count (reverse before ++ reverse after) any
    (Each-append count (reverse before) (reverse after) (Each-reverse count before (Each-upwards count 1 (e.current - 1) (omega arith) (omega arith)))
    (Each-reverse count after (Each-upwards count (max 1 e.current) count (omega arith) (omega arith)))) in
    (q.0, ap (λ (o : Option ℕ). ok_or o fault.NoMatch) q.1, q.2, q.3)
