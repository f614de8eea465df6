-- The lines that an exact command takes: the rule asks for them just where the editor finds them.
use Rattle.std.proofs.Common.{◌≡◌, ◌<◌, ◌≤◌, ◌+◌, ℕ, zero, suc, max, ℤ, pos, negsuc, ◌&&◌, List, [], ◌∷◌, length, Result, Ok, Err, arith, refl, ◌∙◌, ap, sym, subst, inl, inr}
use Rattle.std.proofs.lemmas.Int.{ints}
use Rattle.std.proofs.lemmas.Bool.{cases_lt, le-leb, lt-leb, and_from, and_left, and_right}
use Rattle.ed_base.specs.declared.fault.Fault.{Fault}
use Rattle.ed_base.specs.declared.fault.Fault.TheVariants as fault
use Rattle.ed_base.specs.Buffer.{Line}
use Rattle.zones.specs.Known.{known}
use Rattle.zones.specs.Steps.{after_set, after_guard}
use Rattle.ed_syntax.specs.declared.verbs.Taking.TheVariants as many
use Rattle.ed_syntax.specs.Commands.{Addresses, Without, One, Comma, Semicolon}
use Rattle.ed_syntax.specs.meaning.States as editor
use Rattle.ed_syntax.specs.meaning.Verbs.{given_or}
use Rattle.ed_syntax.specs.meaning.Ranges.{Span, span, first_of_two, last_of_two, spanned, ordered, single, from_first, whole}
use Rattle.ed_rules.specs.declared.state.State.{State}
use Rattle.ed_rules.specs.Pieces.{needing, with_zone, lifted}
use Rattle.ed_rules.specs.Lines.{lifted_range}
use Rattle.ed_rules.specs.Addresses.{copied, last_given, ranged}
use Rattle.ed_rules.specs.Files.{whole_or_ranged}
use Rattle.ed_rules.specs.Rules.{taken}
use Rattle.ed_rules.specs.ExactRules.{EndAlike}
use Rattle.ed_rules.proofs.sound.Commanding.{IsGiven, given_or-given, ordered-is, from_first-is}
use Rattle.ed_rules.proofs.exact.EndAlike.{EndAlike-ok, EndAlike-fault, needing-met, needing-failed, met-goes, failed-stops}
use Rattle.ed_rules.proofs.exact.Zones.{At, At-knows, At-denies, At-set_first, At-set_second, At-guard}
use Rattle.ed_rules.proofs.exact.Pieces.{small-line, At-lifted_first, At-lifted_second}
use Rattle.ed_rules.proofs.exact.Addresses.{Sees, Sees-zone, Sees-facts, Pairs, PairsNone, PairsOf, IsSome}

pub given-pairs : (a : Addresses) → IsGiven a → (lines : List Line) (t : State) (p : editor.State × List ℕ) → PairsOf a lines t p →
    Pairs ⊥ lines t p
given-pairs Without g lines t p h = absurd g
given-pairs (One a) g lines t p h =
    record { sees = h.sees; first_in = h.first_in; last_in = h.last_in; same_lines = h.same_lines; some = h.some; same = λ z. absurd z }
given-pairs (Comma a b) g lines t p h = h
given-pairs (Semicolon a b) g lines t p h = h

-- the last of two in place of the first
last-for-both : (lines : List Line) (t : State) (p : editor.State × List ℕ) → Pairs ⊥ lines t p →
    Sees 5 (pos (last_of_two p.1)) (pos (last_of_two p.1)) (pos 0) (copied 3 4 t) p.0
last-for-both lines t p h =
    let f = h.sees.few in
    let i : last_of_two p.1 ≤ length p.0.lines = subst (λ (ls : List Line). last_of_two p.1 ≤ length ls) (sym h.same_lines) h.last_in in
    Sees-facts 5 (pos (last_of_two p.1)) (pos (last_of_two p.1)) (pos 0) (with_zone (after_set t.zone 3 4 (pos 0)) t) p.0 (copied 3 4 t).facts
    (Sees-zone 5 5 (pos (first_of_two p.1)) (pos (last_of_two p.1)) (pos 0) (pos (last_of_two p.1)) (pos (last_of_two p.1)) (pos 0) t p.0
    (after_set t.zone 3 4 (pos 0)) h.sees
    (At-set_first t.zone 5 (pos p.0.current) (pos (length p.0.lines)) (pos (first_of_two p.1)) (pos (last_of_two p.1))
    (pos 0) h.sees.zone 5 4 (pos 0) (pos (last_of_two p.1)) (omega arith) (omega arith) (λ q ne lt. lt) (omega (arith, ints))
    (small-line (last_of_two p.1) (omega arith))))

pub last_given-sees : (a : Addresses) → IsGiven a → (lines : List Line) (t : State) (p : editor.State × List ℕ) → PairsOf a lines t p →
    Sees 5 (pos (last_of_two p.1)) (pos (last_of_two p.1)) (pos 0) (last_given a t) p.0
last_given-sees Without g lines t p h = absurd g
last_given-sees (One a) g lines t p h = subst (λ (n : ℕ). Sees 5 (pos n) (pos (last_of_two p.1)) (pos 0) t p.0) (h.same tt) h.sees
last_given-sees (Comma a b) g lines t p h = last-for-both lines t p h
last_given-sees (Semicolon a b) g lines t p h = last-for-both lines t p h

-- THE RANGE

module _ (t : State) (e : editor.State) (k a b : ℕ) (u : ℤ) (h : Sees k (pos a) (pos b) u t e) (k5 : 5 ≤ k) where
  pub ranged-ok : 1 ≤ a → a ≤ b → b ≤ length e.lines → ranged t ≡ Ok t
  ranged-ok f o i =
      needing-met (known t.zone 0 3 (negsuc 0) && known t.zone 3 4 (pos 0) && known t.zone 4 2 (pos 0)) fault.Address t
      (and_from (known t.zone 0 3 (negsuc 0) && known t.zone 3 4 (pos 0)) (known t.zone 4 2 (pos 0))
      (and_from (known t.zone 0 3 (negsuc 0)) (known t.zone 3 4 (pos 0))
      (At-knows t.zone k (pos e.current) (pos (length e.lines)) (pos a) (pos b) u 0 3 (negsuc 0) h.zone (omega arith) (omega arith)
      (omega arith) (omega arith) (omega (arith, ints)))
      (At-knows t.zone k (pos e.current) (pos (length e.lines)) (pos a) (pos b) u 3 4 (pos 0) h.zone (omega arith) (omega arith)
      (omega arith) (omega arith) (omega (arith, ints))))
      (At-knows t.zone k (pos e.current) (pos (length e.lines)) (pos a) (pos b) u 4 2 (pos 0) h.zone (omega arith) (omega arith)
      (omega arith) (omega arith) (omega (arith, ints))))

  pub ranged-zero : a < 1 → ranged t ≡ Err fault.Address
  ranged-zero f =
      needing-failed (known t.zone 0 3 (negsuc 0) && known t.zone 3 4 (pos 0) && known t.zone 4 2 (pos 0)) fault.Address t
      (and_left (known t.zone 0 3 (negsuc 0) && known t.zone 3 4 (pos 0)) (known t.zone 4 2 (pos 0))
      (and_left (known t.zone 0 3 (negsuc 0)) (known t.zone 3 4 (pos 0))
      (At-denies t.zone k (pos e.current) (pos (length e.lines)) (pos a) (pos b) u 0 3 (negsuc 0) h.zone (omega arith) (omega arith)
      (omega arith) (omega arith) (omega (arith, ints)))))

  pub ranged-disordered : b < a → ranged t ≡ Err fault.Address
  ranged-disordered f =
      needing-failed (known t.zone 0 3 (negsuc 0) && known t.zone 3 4 (pos 0) && known t.zone 4 2 (pos 0)) fault.Address t
      (and_left (known t.zone 0 3 (negsuc 0) && known t.zone 3 4 (pos 0)) (known t.zone 4 2 (pos 0))
      (and_right (known t.zone 0 3 (negsuc 0)) (known t.zone 3 4 (pos 0))
      (At-denies t.zone k (pos e.current) (pos (length e.lines)) (pos a) (pos b) u 3 4 (pos 0) h.zone (omega arith) (omega arith)
      (omega arith) (omega arith) (omega (arith, ints)))))

  pub ranged-beyond : length e.lines < b → ranged t ≡ Err fault.Address
  ranged-beyond f =
      needing-failed (known t.zone 0 3 (negsuc 0) && known t.zone 3 4 (pos 0) && known t.zone 4 2 (pos 0)) fault.Address t
      (and_right (known t.zone 0 3 (negsuc 0) && known t.zone 3 4 (pos 0)) (known t.zone 4 2 (pos 0))
      (At-denies t.zone k (pos e.current) (pos (length e.lines)) (pos a) (pos b) u 4 2 (pos 0) h.zone (omega arith) (omega arith)
      (omega arith) (omega arith) (omega (arith, ints))))

ordered-zero : (a b : ℕ) → a < 1 → ordered a b ≡ Err fault.Address
ordered-zero a b h = rw (lt-leb 1 a h, ordered) refl

ordered-wrong : (a b : ℕ) → 1 ≤ a → b < a → ordered a b ≡ Err fault.Address
ordered-wrong a b h k = rw (le-leb 1 a h, ordered) (rw (lt-leb a b k) refl)

-- the addressed lines of an editor, in order and inside
pub record Spans (e : editor.State) (k : ℕ) (t : ℤ) (u : State) (x : Span) : Type 0 where
  pub sees : Sees k (pos x.first) (pos x.last) t u e
  pub from : 1 ≤ x.first
  pub order : x.first ≤ x.last
  pub inside : x.last ≤ length e.lines

pub range-alike : (t : State) (e : editor.State) (k a b : ℕ) (u : ℤ) → Sees k (pos a) (pos b) u t e → 5 ≤ k → b ≤ length e.lines →
    EndAlike (Spans e k u) (ranged t) (ordered a b)
range-alike t e k a b u h k5 i = elim (cases_lt a 1) [
  | inl zero_first ↦ EndAlike-fault (Spans e k u) fault.Address (ranged t) (ordered a b) (ranged-zero t e k a b u h k5 zero_first)
      (ordered-zero a b zero_first)
  | inr f ↦ elim (cases_lt b a) [
    | inl wrong ↦ EndAlike-fault (Spans e k u) fault.Address (ranged t) (ordered a b) (ranged-disordered t e k a b u h k5 wrong)
        (ordered-wrong a b f wrong)
    | inr o ↦
        EndAlike-ok (Spans e k u) t (span a b) (ranged t) (ordered a b) (ranged-ok t e k a b u h k5 f o i) (ordered-is a b f o)
        (record { sees = h; from = f; order = o; inside = i })
  ]
]

-- where both addresses are one line
pub one-range : (t : State) (e : editor.State) (k a b : ℕ) (u : ℤ) → Sees k (pos a) (pos b) u t e → 5 ≤ k → b ≤ length e.lines → a ≡ b →
    EndAlike (λ v x. Spans e k u v x × (x.first ≡ x.last)) (ranged t) (ordered a b)
one-range t e k a b u h k5 i same = elim (cases_lt a 1) [
  | inl zero_first ↦ EndAlike-fault (λ v x. Spans e k u v x × (x.first ≡ x.last)) fault.Address (ranged t) (ordered a b)
      (ranged-zero t e k a b u h k5 zero_first) (ordered-zero a b zero_first)
  | inr f ↦
      EndAlike-ok (λ v x. Spans e k u v x × (x.first ≡ x.last)) t (span a b) (ranged t) (ordered a b)
      (ranged-ok t e k a b u h k5 f (omega arith) i) (ordered-is a b f (omega arith))
      (record { sees = h; from = f; order = omega arith; inside = i }, same)
]

-- the values of two addresses lie in the buffer
inside-of : (lines : List Line) (t : State) (p : editor.State × List ℕ) → Pairs ⊥ lines t p → last_of_two p.1 ≤ length p.0.lines
inside-of lines t p h = subst (λ (ls : List Line). last_of_two p.1 ≤ length ls) (sym h.same_lines) h.last_in

pub pairs-range : (lines : List Line) (t : State) (p : editor.State × List ℕ) (count : ℕ) → Pairs ⊥ lines t p →
    EndAlike (Spans p.0 5 (pos 0)) (ranged t) (spanned many.Range count p.1)
pairs-range lines t p count h = range-alike t p.0 5 (first_of_two p.1) (last_of_two p.1) (pos 0) h.sees (omega arith)
    (inside-of lines t p h)

-- ONE LINE

pub AtLine-alike : (given a : Addresses) → IsGiven a → (lines : List Line) (t : State) (p : editor.State × List ℕ) (count : ℕ) →
    PairsOf a lines t p →
    EndAlike (λ u x. Spans p.0 5 (pos 0) u x × (x.first ≡ x.last)) (taken many.OneLine given a t) (spanned many.OneLine count p.1)
AtLine-alike given a g lines t p count h =
    let n : ℕ = last_of_two p.1 in
    line-alike (last_given a t) n (last_given-sees a g lines t p h) (inside-of lines t p (given-pairs a g lines t p h))
  where
    line-alike : (u : State) (n : ℕ) → Sees 5 (pos n) (pos n) (pos 0) u p.0 → n ≤ length p.0.lines →
        EndAlike (λ u x. Spans p.0 5 (pos 0) u x × (x.first ≡ x.last)) (needing (known u.zone 0 3 (negsuc 0)) fault.Address u) (single n)
    line-alike u zero s i =
        EndAlike-fault (λ u x. Spans p.0 5 (pos 0) u x × (x.first ≡ x.last)) fault.Address
        (needing (known u.zone 0 3 (negsuc 0)) fault.Address u) (single zero)
        (needing-failed (known u.zone 0 3 (negsuc 0)) fault.Address u
        (At-denies u.zone 5 (pos p.0.current) (pos (length p.0.lines)) (pos 0) (pos 0) (pos 0) 0 3 (negsuc 0) s.zone (omega arith)
        (omega arith) (omega arith) (omega arith) (omega (arith, ints)))) refl
    line-alike u (suc n) s i =
        EndAlike-ok (λ u x. Spans p.0 5 (pos 0) u x × (x.first ≡ x.last)) u (span (suc n) (suc n))
        (needing (known u.zone 0 3 (negsuc 0)) fault.Address u) (single (suc n))
        (needing-met (known u.zone 0 3 (negsuc 0)) fault.Address u
        (At-knows u.zone 5 (pos p.0.current) (pos (length p.0.lines)) (pos (suc n)) (pos (suc n)) (pos 0) 0 3 (negsuc 0) s.zone
        (omega arith) (omega arith) (omega arith) (omega arith) (omega (arith, ints)))) refl
        (record { sees = s; from = omega arith; order = omega arith; inside = i }, refl)

-- LINE 0 STANDS FOR 1

-- for `i`
abbrev pub FirstPlaces : editor.State → State → Span → Type 0
FirstPlaces e u x = (b : ℤ) × Sees 5 (pos x.first) b (pos 0) u e × (1 ≤ x.first) × (x.first ≤ length e.lines + 1)

pub first_place-alike : (given a : Addresses) → IsGiven a → (lines : List Line) (t : State) (p : editor.State × List ℕ) (count : ℕ) →
    PairsOf a lines t p →
    EndAlike (FirstPlaces p.0) (taken many.FirstPlace given a t) (spanned many.FirstPlace count p.1)
first_place-alike given a g lines t p count h =
    let n : ℕ = last_of_two p.1 in
    let u : State = last_given a t in
    let s = last_given-sees a g lines t p h in
    let i = inside-of lines t p (given-pairs a g lines t p h) in
    let f = s.few in (
      pos n,
      Sees-zone 5 5 (pos n) (pos n) (pos 0) (pos (max 1 n)) (pos n) (pos 0) u p.0 (lifted 3 u.zone) s
          (At-lifted_first u.zone 5 n (pos p.0.current) (pos (length p.0.lines)) (pos n) (pos 0) s.zone (omega arith) (omega arith)),
      omega arith,
      omega arith,
    )

-- for `c`
from_first-wrong : (a b count : ℕ) → b < a → from_first a b count ≡ Err fault.Address
from_first-wrong a b count h = rw (lt-leb a b h, from_first) refl

from_first-beyond : (a b count : ℕ) → a ≤ b → count < max 1 b → from_first a b count ≡ Err fault.Address
from_first-beyond a b count h k = rw (le-leb a b h, lt-leb (max 1 b) count k, from_first) refl

module _ (t : State) (e : editor.State) (a b : ℕ) (h : Sees 5 (pos a) (pos b) (pos 0) t e) (le : a ≤ b) (i : b ≤ length e.lines) where
  lifted-both : Sees 5 (pos (max 1 a)) (pos (max 1 b)) (pos 0) (with_zone (after_guard (lifted 4 (lifted 3 t.zone)) 3 4 (pos 0)) t) e
  lifted-both =
      let f = h.few in
      let c : ℤ = pos e.current in
      let l : ℤ = pos (length e.lines) in
      let z1 = At-lifted_first t.zone 5 a c l (pos b) (pos 0) h.zone (omega arith) (omega arith) in
      let z2 = At-lifted_second (lifted 3 t.zone) 5 b c l (pos (max 1 a)) (pos 0) z1 (omega arith) (omega arith) in
      let z3 = At-guard (lifted 4 (lifted 3 t.zone)) 5 c l (pos (max 1 a)) (pos (max 1 b)) (pos 0) 3 4 (pos 0) z2 (omega arith)
      (omega arith) (omega arith) (omega arith) (let m : max 1 a ≤ max 1 b = omega arith in omega (arith, ints)) in
      Sees-zone 5 5 (pos a) (pos b) (pos 0) (pos (max 1 a)) (pos (max 1 b)) (pos 0) t e
      (after_guard (lifted 4 (lifted 3 t.zone)) 3 4 (pos 0)) h z3

lifted-one : (t : State) (e : editor.State) (a : ℕ) → Sees 5 (pos a) (pos a) (pos 0) t e → a ≤ length e.lines →
    Sees 5 (pos (max 1 a)) (pos (max 1 a)) (pos 0)
    (with_zone (after_guard (lifted 4 (after_set (lifted 3 t.zone) 4 3 (pos 0))) 3 4 (pos 0)) t) e
lifted-one t e a h i =
    let f = h.few in
    let c : ℤ = pos e.current in
    let l : ℤ = pos (length e.lines) in
    let m : ℕ = max 1 a in
    let z1 = At-lifted_first t.zone 5 a c l (pos a) (pos 0) h.zone (omega arith) (omega arith) in
    let z2 = At-set_second (lifted 3 t.zone) 5 c l (pos m) (pos a) (pos 0) z1 5 3 (pos 0) (pos m) (omega arith) (omega arith)
    (λ q ne lt. lt) (omega (arith, ints)) (small-line m (omega arith)) in
    let z3 = At-lifted_second (after_set (lifted 3 t.zone) 4 3 (pos 0)) 5 m c l (pos m) (pos 0) z2 (omega arith) (omega arith) in
    let same : max 1 m ≡ m = omega arith in
    let z4 = At-guard (lifted 4 (after_set (lifted 3 t.zone) 4 3 (pos 0))) 5 c l (pos m) (pos (max 1 m)) (pos 0) 3 4 (pos 0) z3
    (omega arith) (omega arith) (omega arith) (omega arith) (omega (arith, ints)) in
    Sees-zone 5 5 (pos a) (pos a) (pos 0) (pos m) (pos m) (pos 0) t e
    (after_guard (lifted 4 (after_set (lifted 3 t.zone) 4 3 (pos 0))) 3 4 (pos 0)) h
    (subst (λ (n : ℕ). At (after_guard (lifted 4 (after_set (lifted 3 t.zone) 4 3 (pos 0))) 3 4 (pos 0)) 5 c l (pos m) (pos n)
    (pos 0)) same z4)

lifted-given : (given d : Addresses) → IsGiven d → (lines : List Line) (t : State) (p : editor.State × List ℕ) →
    PairsOf (given_or given d) lines t p → first_of_two p.1 ≤ last_of_two p.1 →
    Sees 5 (pos (max 1 (first_of_two p.1))) (pos (max 1 (last_of_two p.1))) (pos 0) (with_zone (lifted_range given t.zone) t) p.0
lifted-given Without d g lines t p h le = let q = given-pairs d g lines t p h in lifted-both t p.0 (first_of_two p.1)
    (last_of_two p.1) q.sees le (inside-of lines t p q)
lifted-given (One b) d g lines t p h le =
    let q = given-pairs (One b) tt lines t p h in
    let i = inside-of lines t p q in
    subst (λ (l : ℕ). Sees 5 (pos (max 1 (first_of_two p.1))) (pos (max 1 l)) (pos 0) (with_zone (lifted_range (One b) t.zone) t) p.0)
    (h.same tt)
    (lifted-one t p.0 (first_of_two p.1) (subst (λ (l : ℕ). Sees 5 (pos (first_of_two p.1)) (pos l) (pos 0) t p.0) (sym (h.same tt)) h.sees)
    (omega arith))
lifted-given (Comma b c) d g lines t p h le = lifted-both t p.0 (first_of_two p.1) (last_of_two p.1) h.sees le (inside-of lines t p h)
lifted-given (Semicolon b c) d g lines t p h le = lifted-both t p.0 (first_of_two p.1) (last_of_two p.1) h.sees le (inside-of lines t p h)

pub lines-alike : (given d : Addresses) → IsGiven d → (lines : List Line) (t : State) (p : editor.State × List ℕ) →
    PairsOf (given_or given d) lines t p →
    EndAlike (Spans p.0 5 (pos 0)) (taken many.Lines given (given_or given d) t) (spanned many.Lines (length p.0.lines) p.1)
lines-alike given d g lines t p h =
    let a : ℕ = first_of_two p.1 in
    let b : ℕ = last_of_two p.1 in
    let q = given-pairs (given_or given d) (given_or-given given d g) lines t p h in
    let u : State = with_zone (lifted_range given t.zone) t in
    let c : ℤ = pos p.0.current in
    let l : ℤ = pos (length p.0.lines) in
    let R : State → Span → Type 0 = Spans p.0 5 (pos 0) in
    elim (cases_lt b a) [
      | inl wrong ↦
          EndAlike-fault R fault.Address (taken many.Lines given (given_or given d) t) (spanned many.Lines (length p.0.lines) p.1)
          (failed-stops (known t.zone 3 4 (pos 0)) fault.Address u ranged
          (At-denies t.zone 5 c l (pos a) (pos b) (pos 0) 3 4 (pos 0) q.sees.zone (omega arith) (omega arith) (omega arith) (omega arith)
          (omega (arith, ints))))
          (from_first-wrong a b (length p.0.lines) wrong)
      | inr le ↦
          let go : taken many.Lines given (given_or given d) t ≡ ranged u = met-goes (known t.zone 3 4 (pos 0)) fault.Address u ranged
          (At-knows t.zone 5 c l (pos a) (pos b) (pos 0) 3 4 (pos 0) q.sees.zone (omega arith) (omega arith) (omega arith) (omega arith)
          (omega (arith, ints))) in
          let s = lifted-given given d g lines t p h le in
          elim (cases_lt (length p.0.lines) (max 1 b)) [
            | inl beyond ↦
                EndAlike-fault R fault.Address (taken many.Lines given (given_or given d) t) (spanned many.Lines (length p.0.lines) p.1)
                (go ∙ ranged-beyond u p.0 5 (max 1 a) (max 1 b) (pos 0) s (omega arith) beyond)
                (from_first-beyond a b (length p.0.lines) le beyond)
            | inr i ↦
                EndAlike-ok R u (span (max 1 a) (max 1 b)) (taken many.Lines given (given_or given d) t)
                (spanned many.Lines (length p.0.lines) p.1)
                (go ∙ ranged-ok u p.0 5 (max 1 a) (max 1 b) (pos 0) s (omega arith) (omega arith) (omega arith) i)
                (from_first-is a b (length p.0.lines) le i)
                (record { sees = s; from = omega arith; order = omega arith; inside = i })
          ]
    ]

-- THE LINES OF `w`

-- given ones, or all: the first line isn't told where the buffer is empty
abbrev pub Wholes : (given : Addresses) → editor.State → State → Span → Type 0
Wholes Without e u x = (k : ℕ) × (a b t : ℤ) × (3 ≤ k) × Sees k a b t u e × (x ≡ span 1 (length e.lines))
Wholes (One a) e u x = Spans e 5 (pos 0) u x
Wholes (Comma a b) e u x = Spans e 5 (pos 0) u x
Wholes (Semicolon a b) e u x = Spans e 5 (pos 0) u x

whole-some : (count : ℕ) (vs : List ℕ) → IsSome vs → whole count vs ≡ ordered (first_of_two vs) (last_of_two vs)
whole-some count [] s = let i = s.is in absurd cc
whole-some count (a ∷ vs) s = refl

given-whole : (lines : List Line) (t : State) (p : editor.State × List ℕ) (count : ℕ) → Pairs ⊥ lines t p →
    EndAlike (Spans p.0 5 (pos 0)) (ranged t) (spanned many.Whole count p.1)
given-whole lines t p count h =
    subst (λ (y : Result Span Fault). EndAlike (Spans p.0 5 (pos 0)) (ranged t) y) (sym (whole-some count p.1 h.some))
    (pairs-range lines t p count h)

pub whole-alike : (given d : Addresses) → d ≡ Without → (lines : List Line) (t : State) (p : editor.State × List ℕ) →
    PairsOf (given_or given d) lines t p →
    EndAlike (Wholes given p.0) (whole_or_ranged given t) (spanned many.Whole (length p.0.lines) p.1)
whole-alike Without d none lines t p h =
    let q : PairsNone lines t p = subst (λ (a : Addresses). PairsOf a lines t p) none h in
    EndAlike-ok (Wholes Without p.0) t (span 1 (length p.0.lines)) (whole_or_ranged Without t)
    (spanned many.Whole (length p.0.lines) p.1) refl
    (ap (whole (length p.0.lines)) q.none) (3, pos 0, pos 0, pos 0, omega arith, q.sees, refl)
whole-alike (One a) d none lines t p h = given-whole lines t p (length p.0.lines) (given-pairs (One a) tt lines t p h)
whole-alike (Comma a b) d none lines t p h = given-whole lines t p (length p.0.lines) h
whole-alike (Semicolon a b) d none lines t p h = given-whole lines t p (length p.0.lines) h
