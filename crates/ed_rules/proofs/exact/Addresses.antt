-- The addresses of an exact command: the rule evaluates them just where the editor does, to the same numbers.
use Rattle.std.proofs.Common.{◌≡◌, ◌<◌, ◌≤◌, ℕ, ℤ, pos, negsuc, ◌+ℤ◌, ◌&&◌, true, List, [], ◌∷◌, length, Option, None, Some, Result, Ok, Err, arith, refl, ◌∙◌, ap, sym, subst, inl, inr}
use Rattle.std.proofs.lemmas.Int.{ints}
use Rattle.std.proofs.lemmas.Bool.{cases_lt, lt-leb, and_from, and_left, and_right, and_parts}
use Rattle.ed_base.specs.declared.fault.Fault.{Fault}
use Rattle.ed_base.specs.declared.fault.Fault.TheVariants as fault
use Rattle.ed_base.specs.Buffer.{Line}
use Rattle.zones.specs.Zone.{Bounds}
use Rattle.zones.specs.Known.{known}
use Rattle.zones.specs.Steps.{after_set}
use Rattle.ed_syntax.specs.Commands as ed
use Rattle.ed_syntax.specs.Commands.{Base, Address, Addresses, Without, One, Comma, Semicolon, Verb}
use Rattle.ed_syntax.specs.meaning.States as editor
use Rattle.ed_syntax.specs.meaning.Verbs.{takes, given_or, here}
use Rattle.ed_syntax.specs.meaning.Values as concrete
use Rattle.ed_syntax.specs.meaning.Values.{◌>>◌, within, base_number, value, values}
use Rattle.ed_syntax.specs.meaning.Ranges.{first_of_two, last_of_two}
use Rattle.ed_syntax.specs.meaning.Applied as applied
use Rattle.ed_rules.specs.declared.state.State.{State}
use Rattle.ed_rules.specs.Marks.{no_marks}
use Rattle.ed_rules.specs.Pieces.{with_zone}
use Rattle.ed_rules.specs.facts.Facts.{Facts}
use Rattle.ed_rules.specs.Following.{set_to}
use Rattle.ed_rules.specs.Addresses.{in_buffer, copied, set_number, evaluated_base, evaluated, addressed, standing}
use Rattle.ed_rules.specs.Exact.{is_by_number, are_by_number, is_exact_verb}
use Rattle.ed_rules.specs.LineBounds.{most_lines}
use Rattle.ed_rules.specs.ExactRules.{flag_of, EndAlike}
use Rattle.ed_rules.proofs.sound.Addressing.{within-inside, value-here, twice-is}
use Rattle.ed_rules.proofs.exact.EndAlike.{EndAlike-bind, EndAlike-map, EndAlike-ok, EndAlike-fault, needing-met, needing-failed}
use Rattle.ed_rules.proofs.exact.Zones.{numbers, At, At-set_current, At-set_first, At-set_second, At-set_target, set-above, set-below, set-not_above, set-not_below}
use Rattle.ed_rules.proofs.exact.Pieces.{small-line}

-- what a state knows of an editor while a command's addresses are evaluated: the numbers of the first k names among them
pub record Sees (k : ℕ) (a b t : ℤ) (s : State) (e : editor.State) : Type 0 where
  pub zone : At s.zone k (pos e.current) (pos (length e.lines)) a b t
  pub marks : s.marks ≡ no_marks
  pub names : s.names ≡ e.name ∷ []
  pub changed : s.changed ≡ flag_of e.changed
  pub inside : e.current ≤ length e.lines
  pub few : length e.lines ≤ most_lines

-- the same with another zone
pub Sees-zone : (k m : ℕ) (a b t i j u : ℤ) (s : State) (e : editor.State) (zone : Bounds) → Sees k a b t s e →
    At zone m (pos e.current) (pos (length e.lines)) i j u →
    Sees m i j u (with_zone zone s) e
Sees-zone k m a b t i j u s e zone h z =
    record { zone = z; marks = h.marks; names = h.names; changed = h.changed; inside = h.inside; few = h.few }

-- and with other facts
pub Sees-facts : (k : ℕ) (a b t : ℤ) (s : State) (e : editor.State) (facts : Facts) → Sees k a b t s e →
    Sees k a b t (record s { facts = facts }) e
Sees-facts k a b t s e facts h =
    record { zone = h.zone; marks = h.marks; names = h.names; changed = h.changed; inside = h.inside; few = h.few }

-- and another current line
pub Sees-current : (k m : ℕ) (a b t i j u : ℤ) (s : State) (e : editor.State) (zone : Bounds) (n : ℕ) → Sees k a b t s e →
    n ≤ length e.lines → At zone m (pos n) (pos (length e.lines)) i j u →
    Sees m i j u (with_zone zone s) (record e { current = n })
Sees-current k m a b t i j u s e zone n h le z =
    record { zone = z; marks = h.marks; names = h.names; changed = h.changed; inside = le; few = h.few }

within-outside : (n : ℕ) (e : editor.State) → length e.lines < n → within e (pos n) ≡ Err fault.Address
within-outside n e h = rw (lt-leb n (length e.lines) h, within) refl

-- x becomes y + n, which the editor has as d
module _ (R : State → ℕ →
    Type 0) (s : State) (e : editor.State) (k : ℕ) (a b t : ℤ) (h : Sees k a b t s e) (x y : ℕ) (n : ℤ) (hx : x < 32) (hy : y < 32)
    (ky : y < k) (k3 : 3 ≤ k) (x3 : 3 ≤ x) where
  -- with these facts
  abbrev put : Facts → State
  put facts = record s { zone = after_set s.zone x y n; facts = facts }

  from-alike : (facts : Facts) (d : ℤ) → d ≡ numbers (pos e.current) (pos (length e.lines)) a b t y +ℤ n →
      ((m : ℕ) → d ≡ pos m → m ≤ length e.lines → R (put facts) m) → EndAlike R (in_buffer x (put facts)) (within e d)
  from-alike facts (negsuc m) is make =
      let z : Bounds = after_set s.zone x y n in
      EndAlike-fault R fault.Address (in_buffer x (put facts)) (within e (negsuc m))
      (needing-failed (known z 0 x (pos 0) && known z x 2 (pos 0)) fault.Address (put facts)
      (and_left (known z 0 x (pos 0)) (known z x 2 (pos 0))
      (set-not_below s.zone k (pos e.current) (pos (length e.lines)) a b t h.zone x y n hx hy ky k3 x3 (omega (arith, ints)))))
      refl
  from-alike facts (pos m) is make = elim (cases_lt (length e.lines) m) [
    | inl lt ↦
        let z : Bounds = after_set s.zone x y n in
        EndAlike-fault R fault.Address (in_buffer x (put facts)) (within e (pos m))
        (needing-failed (known z 0 x (pos 0) && known z x 2 (pos 0)) fault.Address (put facts)
        (and_right (known z 0 x (pos 0)) (known z x 2 (pos 0))
        (set-not_above s.zone k (pos e.current) (pos (length e.lines)) a b t h.zone x y n hx hy ky k3 x3 (omega (arith, ints)))))
        (within-outside m e lt)
    | inr le ↦
        let z : Bounds = after_set s.zone x y n in
        EndAlike-ok R (put facts) m (in_buffer x (put facts)) (within e (pos m))
        (needing-met (known z 0 x (pos 0) && known z x 2 (pos 0)) fault.Address (put facts)
        (and_from (known z 0 x (pos 0)) (known z x 2 (pos 0))
        (set-below s.zone k (pos e.current) (pos (length e.lines)) a b t h.zone x y n hx hy ky k3 x3 (omega (arith, ints)))
        (set-above s.zone k (pos e.current) (pos (length e.lines)) a b t h.zone x y n hx hy ky k3 x3 (omega (arith, ints)))))
        (within-inside m e le) (make m refl le)
  ]

-- the three names of addresses
abbrev ValuedFirst : editor.State → ℤ → ℤ → State → ℕ → Type 0
ValuedFirst e b t u n = Sees 4 (pos n) b t u e × (n ≤ length e.lines)

abbrev ValuedSecond : editor.State → ℤ → ℤ → State → ℕ → Type 0
ValuedSecond e a t u n = Sees 5 a (pos n) t u e × (n ≤ length e.lines)

abbrev ValuedTarget : editor.State → ℤ → ℤ → State → ℕ → Type 0
ValuedTarget e a b u n = Sees 6 a b (pos n) u e × (n ≤ length e.lines)

-- an address by its base: zero, the current or the last line, and a number
based : (R : State → ℕ → Type 0) (x : ℕ) (base : Base) (offset : ℤ) (s : State) (e : editor.State) (k : ℕ) (a b t : ℤ) → Sees k a b t s e →
    x < 32 → 3 ≤ k → 3 ≤ x → is_by_number base ≡ true →
    ((y m : ℕ) (n : ℤ) (facts : Facts) → y < 3 → pos m ≡ numbers (pos e.current) (pos (length e.lines)) a b t y +ℤ n → m ≤ length e.lines →
    R (record s { zone = after_set s.zone x y n; facts = facts }) m) →
    EndAlike R (evaluated_base x base offset s) (base_number base e >> λ n. within e (pos n +ℤ offset))
based R x (ed.Number n) offset s e k a b t h hx k3 x3 numbered make =
    from-alike R s e k a b t h x 0 (pos n +ℤ offset) hx (omega arith) (omega arith) k3 x3 (set_number x (pos n +ℤ offset) s).facts (pos n +ℤ offset) (omega (arith, ints))
    (λ m is le. make 0 m (pos n +ℤ offset) (set_number x (pos n +ℤ offset) s).facts (omega arith) (sym is ∙ omega (arith, ints)) le)
based R x ed.Current offset s e k a b t h hx k3 x3 numbered make =
    from-alike R s e k a b t h x 1 offset hx (omega arith) (omega arith) k3 x3 (set_to x 1 offset s).facts (pos e.current +ℤ offset) refl
    (λ m is le. make 1 m offset (set_to x 1 offset s).facts (omega arith) (sym is) le)
based R x ed.Last offset s e k a b t h hx k3 x3 numbered make =
    from-alike R s e k a b t h x 2 offset hx (omega arith) (omega arith) k3 x3 (set_to x 2 offset s).facts (pos (length e.lines) +ℤ offset) refl
    (λ m is le. make 2 m offset (set_to x 2 offset s).facts (omega arith) (sym is) le)
based R x (ed.Marked letter) offset s e k a b t h hx k3 x3 numbered make = absurd cc
based R x (ed.Forward pattern) offset s e k a b t h hx k3 x3 numbered make = absurd cc
based R x (ed.Backward pattern) offset s e k a b t h hx k3 x3 numbered make = absurd cc

first-alike : (x : Address) (s : State) (e : editor.State) (k : ℕ) (a b t : ℤ) → Sees k a b t s e → 3 ≤ k → is_by_number x.base ≡ true →
    EndAlike (ValuedFirst e b t) (evaluated 3 x s) (value x e)
first-alike x s e k a b t h k3 numbered =
    based (ValuedFirst e b t) 3 x.base x.offset s e k a b t h (omega arith) k3 (omega arith) numbered
    (λ y m n facts hy is le. (
      Sees-facts 4 (pos m) b t (with_zone (after_set s.zone 3 y n) s) e facts (Sees-zone k 4 a b t (pos m) b t s e (after_set s.zone 3 y n) h
          (At-set_first s.zone k (pos e.current) (pos (length e.lines)) a b t h.zone 4 y n (pos m) (omega arith) (omega arith)
          (λ p ne lt. omega arith) is (small-line m (let f = h.few in omega arith)))),
      le,
    ))

second-alike : (x : Address) (s : State) (e : editor.State) (k : ℕ) (a b t : ℤ) → Sees k a b t s e → 4 ≤ k → is_by_number x.base ≡ true →
    EndAlike (ValuedSecond e a t) (evaluated 4 x s) (value x e)
second-alike x s e k a b t h k3 numbered =
    based (ValuedSecond e a t) 4 x.base x.offset s e k a b t h (omega arith) (omega arith) (omega arith) numbered
    (λ y m n facts hy is le. (
      Sees-facts 5 a (pos m) t (with_zone (after_set s.zone 4 y n) s) e facts (Sees-zone k 5 a b t a (pos m) t s e (after_set s.zone 4 y n) h
          (At-set_second s.zone k (pos e.current) (pos (length e.lines)) a b t h.zone 5 y n (pos m) (omega arith) (omega arith)
          (λ p ne lt. omega arith) is (small-line m (let f = h.few in omega arith)))),
      le,
    ))

target-alike : (x : Address) (s : State) (e : editor.State) (k : ℕ) (a b t : ℤ) → Sees k a b t s e → 5 ≤ k → is_by_number x.base ≡ true →
    EndAlike (ValuedTarget e a b) (evaluated 5 x s) (value x e)
target-alike x s e k a b t h k3 numbered =
    based (ValuedTarget e a b) 5 x.base x.offset s e k a b t h (omega arith) (omega arith) (omega arith) numbered
    (λ y m n facts hy is le. (
      Sees-facts 6 a b (pos m) (with_zone (after_set s.zone 5 y n) s) e facts (Sees-zone k 6 a b t a b (pos m) s e (after_set s.zone 5 y n) h
          (At-set_target s.zone k (pos e.current) (pos (length e.lines)) a b t h.zone 6 y n (pos m) (omega arith) (omega arith)
          (λ p ne lt. omega arith) is (small-line m (let f = h.few in omega arith)))),
      le,
    ))

-- no pattern is remembered anew
remembered-same : (base : Base) (e : editor.State) → is_by_number base ≡ true → concrete.remembered base e ≡ e.pattern
remembered-same (ed.Number n) e numbered = refl
remembered-same ed.Current e numbered = refl
remembered-same ed.Last e numbered = refl
remembered-same (ed.Marked letter) e numbered = absurd cc
remembered-same (ed.Forward pattern) e numbered = absurd cc
remembered-same (ed.Backward pattern) e numbered = absurd cc

evaluated-same : (x : Address) (e : editor.State) → is_by_number x.base ≡ true → concrete.evaluated x e ≡ e
evaluated-same x e numbered = ap (λ (p : Option (List ℕ)). record e { pattern = p }) (remembered-same x.base e numbered)

-- a list that isn't empty
pub record IsSome (vs : List ℕ) : Type 0 where
  pub head : ℕ
  pub tail : List ℕ
  pub is : vs ≡ head ∷ tail

-- the first and the second address have the values of two, or of one twice
pub record Pairs (one : Type 0) (lines : List Line) (t : State) (p : editor.State × List ℕ) : Type 0 where
  pub sees : Sees 5 (pos (first_of_two p.1)) (pos (last_of_two p.1)) (pos 0) t p.0
  pub first_in : first_of_two p.1 ≤ length lines
  pub last_in : last_of_two p.1 ≤ length lines
  pub same_lines : p.0.lines ≡ lines
  pub some : IsSome p.1
  pub same : one → first_of_two p.1 ≡ last_of_two p.1

pub record PairsNone (lines : List Line) (t : State) (p : editor.State × List ℕ) : Type 0 where
  pub sees : Sees 3 (pos 0) (pos 0) (pos 0) t p.0
  pub same_lines : p.0.lines ≡ lines
  pub none : p.1 ≡ []

abbrev pub PairsOf : Addresses → List Line → State → editor.State × List ℕ → Type 0
PairsOf Without lines t p = PairsNone lines t p
PairsOf (One a) lines t p = Pairs (Unit {0}) lines t p
PairsOf (Comma a b) lines t p = Pairs ⊥ lines t p
PairsOf (Semicolon a b) lines t p = Pairs ⊥ lines t p

-- the second is the first
copy-first : (s : State) (e : editor.State) (n : ℕ) → Sees 4 (pos n) (pos 0) (pos 0) s e → n ≤ length e.lines →
    Sees 5 (pos n) (pos n) (pos 0) (copied 4 3 s) e
copy-first s e n h le =
    Sees-facts 5 (pos n) (pos n) (pos 0) (with_zone (after_set s.zone 4 3 (pos 0)) s) e (copied 4 3 s).facts
    (Sees-zone 4 5 (pos n) (pos 0) (pos 0) (pos n) (pos n) (pos 0) s e (after_set s.zone 4 3 (pos 0)) h
    (At-set_second s.zone 4 (pos e.current) (pos (length e.lines)) (pos n) (pos 0) (pos 0) h.zone 5 3 (pos 0) (pos n) (omega arith)
    (omega arith) (λ p ne lt. omega arith) (omega (arith, ints)) (small-line n (let f = h.few in omega arith))))

-- and the current line too
move-first : (s : State) (e : editor.State) (n : ℕ) → Sees 4 (pos n) (pos 0) (pos 0) s e → n ≤ length e.lines →
    Sees 4 (pos n) (pos 0) (pos 0) (copied 1 3 s) (record e { current = n })
move-first s e n h le =
    Sees-facts 4 (pos n) (pos 0) (pos 0) (with_zone (after_set s.zone 1 3 (pos 0)) s) (record e { current = n }) (copied 1 3 s).facts
    (Sees-current 4 4 (pos n) (pos 0) (pos 0) (pos n) (pos 0) (pos 0) s e (after_set s.zone 1 3 (pos 0)) n h le
    (At-set_current s.zone 4 (pos e.current) (pos (length e.lines)) (pos n) (pos 0) (pos 0) h.zone 3 (pos 0) (pos n) (omega arith)
    (omega arith) (omega (arith, ints)) (small-line n (let f = h.few in omega arith))))

pub addressed-alike : (x : Addresses) (s : State) (e : editor.State) → are_by_number x ≡ true → Sees 3 (pos 0) (pos 0) (pos 0) s e →
    EndAlike (PairsOf x e.lines) (addressed x s) (values x e)
addressed-alike Without s e numbered h = record { sees = h; same_lines = refl; none = refl }
addressed-alike (One a) s e numbered h =
    EndAlike-bind (ValuedFirst e (pos 0) (pos 0)) (Pairs (Unit {0}) e.lines) (evaluated 3 a s) (value a e) _ _
    (first-alike a s e 3 (pos 0) (pos 0) (pos 0) h (omega arith) numbered)
    (λ t n r. record {
      sees = subst (λ (f : editor.State). Sees 5 (pos n) (pos n) (pos 0) (copied 4 3 t) f) (sym (evaluated-same a e numbered))
          (copy-first t e n r.0 r.1);
      first_in = r.1;
      last_in = r.1;
      same_lines = refl;
      some = record { head = n; tail = []; is = refl };
      same = λ _. refl;
    })
addressed-alike (Comma a b) s e numbered h =
    let both = and_parts (is_by_number a.base) (is_by_number b.base) numbered in
    EndAlike-bind (ValuedFirst e (pos 0) (pos 0)) (Pairs ⊥ e.lines) (evaluated 3 a s) (value a e) _ _
    (first-alike a s e 3 (pos 0) (pos 0) (pos 0) h (omega arith) both.0)
    (λ t n r.
    let f : editor.State = concrete.evaluated a e in
    let same : f ≡ e = evaluated-same a e both.0 in
    let seen : Sees 4 (pos n) (pos 0) (pos 0) t f = subst (λ (g : editor.State). Sees 4 (pos n) (pos 0) (pos 0) t g) (sym same) r.0 in
    EndAlike-map (ValuedSecond f (pos n) (pos 0)) (Pairs ⊥ e.lines) (evaluated 4 b t) (value b f) _
    (second-alike b t f 4 (pos n) (pos 0) (pos 0) seen (omega arith) both.1)
    (λ u m q. record {
      sees = subst (λ (g : editor.State). Sees 5 (pos n) (pos m) (pos 0) u g) (sym (evaluated-same b f both.1)) q.0;
      first_in = r.1;
      last_in = q.1;
      same_lines = refl;
      some = record { head = n; tail = m ∷ []; is = refl };
      same = λ z. absurd z;
    }))
addressed-alike (Semicolon a None) s e numbered h =
    EndAlike-bind (ValuedFirst e (pos 0) (pos 0)) (Pairs ⊥ e.lines) (evaluated 3 a s) (value a e) _ _
    (first-alike a s e 3 (pos 0) (pos 0) (pos 0) h (omega arith) numbered)
    (λ t n r. record {
      sees = subst (λ (f : editor.State). Sees 5 (pos n) (pos n) (pos 0) (copied 4 3 (copied 1 3 t)) (concrete.moved n f))
          (sym (evaluated-same a e numbered))
          (copy-first (copied 1 3 t) (record e { current = n }) n (move-first t e n r.0 r.1) r.1);
      first_in = r.1;
      last_in = r.1;
      same_lines = refl;
      some = record { head = n; tail = n ∷ []; is = refl };
      same = λ z. absurd z;
    })
addressed-alike (Semicolon a (Some b)) s e numbered h =
    let both = and_parts (is_by_number a.base) (is_by_number b.base) numbered in
    EndAlike-bind (ValuedFirst e (pos 0) (pos 0)) (Pairs ⊥ e.lines) (evaluated 3 a s) (value a e) _ _
    (first-alike a s e 3 (pos 0) (pos 0) (pos 0) h (omega arith) both.0)
    (λ t n r.
    let f : editor.State = concrete.moved n (concrete.evaluated a e) in
    let seen : Sees 4 (pos n) (pos 0) (pos 0) (copied 1 3 t) f =
    subst (λ (g : editor.State). Sees 4 (pos n) (pos 0) (pos 0) (copied 1 3 t) (concrete.moved n g)) (sym (evaluated-same a e both.0))
    (move-first t e n r.0 r.1) in
    EndAlike-map (ValuedSecond f (pos n) (pos 0)) (Pairs ⊥ e.lines) (evaluated 4 b (copied 1 3 t)) (value b f) _
    (second-alike b (copied 1 3 t) f 4 (pos n) (pos 0) (pos 0) seen (omega arith) both.1)
    (λ u m q. record {
      sees = subst (λ (g : editor.State). Sees 5 (pos n) (pos m) (pos 0) u g) (sym (evaluated-same b f both.1)) q.0;
      first_in = r.1;
      last_in = q.1;
      same_lines = refl;
      some = record { head = n; tail = m ∷ []; is = refl };
      same = λ z. absurd z;
    }))

-- a default `.,.` is evaluated once by the rule and twice by the editor
twice-alike : (s : State) (e : editor.State) → Sees 3 (pos 0) (pos 0) (pos 0) s e →
    EndAlike (PairsOf (One here) e.lines) (addressed (One here) s) (values (Comma here here) e)
twice-alike s e h =
    let S : State → editor.State × List ℕ → Type 0 = PairsOf (One here) e.lines in
    let once : EndAlike (ValuedFirst e (pos 0) (pos 0)) (evaluated 3 here s) (Ok e.current) =
    subst (λ (y : Result ℕ Fault). EndAlike (ValuedFirst e (pos 0) (pos 0)) (evaluated 3 here s) y) (value-here e h.inside)
    (first-alike here s e 3 (pos 0) (pos 0) (pos 0) h (omega arith) refl) in
    subst (λ (y : Result (editor.State × List ℕ) Fault). EndAlike S (addressed (One here) s) y) (sym (twice-is e h.inside))
    (EndAlike-bind (ValuedFirst e (pos 0) (pos 0)) S (evaluated 3 here s) (Ok e.current) (λ t. Ok (copied 4 3 t))
    (λ n. Ok (e, n ∷ n ∷ [])) once
    (λ t n r. record {
      sees = copy-first t e n r.0 r.1;
      first_in = r.1;
      last_in = r.1;
      same_lines = refl;
      some = record { head = n; tail = n ∷ []; is = refl };
      same = λ _. refl;
    }))

-- the addresses of a command, given or not
pub command-addressed : (x : Addresses) (verb : Verb) (s : State) (e : editor.State) → are_by_number x ≡ true → is_exact_verb verb ≡ true →
    Sees 3 (pos 0) (pos 0) (pos 0) s e →
    EndAlike (PairsOf (given_or x (standing (takes verb).default)) e.lines) (addressed (given_or x (standing (takes verb).default)) s)
    (values (given_or x (takes verb).default) e)
command-addressed (One a) verb s e numbered exact h = addressed-alike (One a) s e numbered h
command-addressed (Comma a b) verb s e numbered exact h = addressed-alike (Comma a b) s e numbered h
command-addressed (Semicolon a b) verb s e numbered exact h = addressed-alike (Semicolon a b) s e numbered h
command-addressed Without (ed.Change text) s e numbered exact h = twice-alike s e h
command-addressed Without ed.Delete s e numbered exact h = twice-alike s e h
command-addressed Without (ed.Move to) s e numbered exact h = twice-alike s e h
command-addressed Without (ed.Copy to) s e numbered exact h = twice-alike s e h
command-addressed Without (ed.Write form) s e numbered exact h = twice-alike s e h
command-addressed Without (ed.Substitute pattern replacement which form) s e numbered exact h = twice-alike s e h
command-addressed Without verb s e numbered exact h = addressed-alike (takes verb).default s e refl h

-- the target of `m` and `t`
pub target-of : (to : Address) (t : State) (e : editor.State) (a b : ℤ) → Sees 5 a b (pos 0) t e → is_by_number to.base ≡ true →
    EndAlike (λ (u : State) (q : editor.State × ℕ). Sees 6 a b (pos q.1) u q.0 × (q.1 ≤ length e.lines) × (q.0 ≡ e)) (evaluated 5 to t)
    (applied.targeted (Some to) e)
target-of to t e a b h numbered =
    EndAlike-map (ValuedTarget e a b)
    (λ (u : State) (q : editor.State × ℕ). Sees 6 a b (pos q.1) u q.0 × (q.1 ≤ length e.lines) × (q.0 ≡ e))
    (evaluated 5 to t) (value to e) (λ n. (concrete.evaluated to e, n))
    (target-alike to t e 5 a b (pos 0) h (omega arith) numbered)
    (λ u n r. (
      subst (λ (g : editor.State). Sees 6 a b (pos n) u g) (sym (evaluated-same to e numbered)) r.0,
      r.1,
      evaluated-same to e numbered,
    ))
