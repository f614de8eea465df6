-- One command: addresses, what it takes, what it does, its end, one after another on both sides.
use Rattle.std.proofs.Common.{◌≡◌, ◌<◌, ◌≤◌, ◌+◌, ℕ, zero, suc, pos, negsuc, Bool, true, false, List, [], length, Option, Some, Result, Ok, IfOk, arith, refl, ◌∙◌, sym, ap, subst, ◌&&◌, nat_lt, max}
use Rattle.std.proofs.lemmas.Int.{ints}
use Rattle.std.proofs.lemmas.Bool.{le-leb, and_parts}
use Rattle.ed_base.specs.declared.fault.Fault.{Fault}
use Rattle.ed_base.specs.declared.fault.Fault.TheVariants as fault
use Rattle.ed_base.specs.Buffer.{Line, KnowLetters}
use Rattle.zones.specs.Zone.{Bounds, Numbers, updated}
use Rattle.zones.specs.Steps.{after_set, after_guard}
use Rattle.ed_syntax.specs.declared.verbs.Taking.{Taking}
use Rattle.ed_syntax.specs.declared.verbs.Taking.TheVariants as many
use Rattle.ed_syntax.specs.declared.request.Answer.{Answer}
use Rattle.ed_syntax.specs.Commands as ed
use Rattle.ed_syntax.specs.Commands.{Address, Addresses, Without, One, Comma, Semicolon, Verb, Form, Command}
use Rattle.ed_syntax.specs.meaning.States as editor
use Rattle.ed_syntax.specs.meaning.States.{kept}
use Rattle.ed_syntax.specs.meaning.Verbs.{takes, given_or}
use Rattle.ed_syntax.specs.meaning.Values.{◌>>◌, value, values}
use Rattle.ed_syntax.specs.meaning.Values as concrete
use Rattle.ed_syntax.specs.meaning.CommandLaws.{AreWhole, WellMarked, InOrder, SpansAreInOrder}
use Rattle.ed_syntax.specs.meaning.Ranges.{Span, span, first_of_two, last_of_two, spanned, ordered, single, from_first}
use Rattle.ed_syntax.specs.meaning.Effects as effects
use Rattle.ed_syntax.specs.meaning.Effects.{Effect, Makes, Asks}
use Rattle.ed_syntax.specs.meaning.Applied.{making, completed, targeted, effect_of, command}
use Rattle.ed_rules.specs.declared.state.State.{State}
use Rattle.ed_rules.specs.Lines.{lifted_range, joined, joined_given, marked, current_at, copied_lines}
use Rattle.ed_rules.specs.Addresses as addresses
use Rattle.ed_rules.specs.StandsFor.{StandsBy, AreLettered}
use Rattle.ed_rules.specs.Move.{moved_lines}
use Rattle.ed_rules.specs.Substituting.{pattern_used, substituted}
use Rattle.ed_rules.specs.Undoing.{undone}
use Rattle.ed_syntax.specs.meaning.Globals.{flagged}
use Rattle.ed_syntax.specs.meaning.SubstitutedLines.{substitute}
use Rattle.ed_rules.proofs.Basics.{Agrees}
use Rattle.ed_rules.proofs.sound.Standing.{StandsBy-temporary, StandsBy-current, StandsBy-guarded, Reads-temporary, Begins}
use Rattle.ed_rules.proofs.sound.Following.{FollowedHold, followed-set, FactsHold-lifted}
use Rattle.ed_rules.proofs.sound.Addressing.{StandsBy-set, Valued, valued-sound, Names, NamesOf, Addressed, AddressedIn, command_addressed}
use Rattle.ed_rules.proofs.sound.Spans.{Spans, Ranges, InRange}
use Rattle.ed_rules.proofs.sound.Effects.{append-follows, delete-follows, insert-follows, change-follows, join-follows, join-one, copy-follows, mark-follows, move-follows}
use Rattle.std.proofs.lemmas.Bool.{ltb-true}
use Rattle.ed_rules.proofs.sound.Lifting.{Holds-lifted}
use Rattle.ed_rules.proofs.sound.Finishing.{Final, Follows, finish-sound}
use Rattle.ed_rules.proofs.sound.SubstitutionEffects.{RangesKnown, substitute-follows}
use Rattle.ed_rules.proofs.sound.Lettered.{lettered-marked}
use Rattle.ed_rules.proofs.matches.Aside.{step_aside}
use Rattle.ed_rules.proofs.sound.GlobalEffects.{flag-follows, undo-follows}
use Rattle.ed_rules.proofs.sound.Answering.{Does, Comes, does-agreed, does-bind, finish-does}
use Rattle.ed_rules.proofs.sound.Filing.{Written, all-written, whole-range, ranges-written, read-does, write-does, edit-does, edit_anyway-does, name-does, quit-does}
use Rattle.ed_rules.specs.Files.{file_read, whole_or_ranged, changed_by_lines, changed_by_write, file_written, saved, edited, edited_anyway, file_named}
use Rattle.ed_syntax.specs.meaning.Files as file
use Rattle.zones.specs.Known.{known}
use Rattle.ed_rules.specs.Pieces.{ended, with_zone, modified, replaced, lifted}
use Rattle.ed_rules.specs.Addresses.{copied, addressed, standing, last_given, evaluated, ranged}
use Rattle.ed_rules.specs.Rules.{taken, effect, suffixed}
use Rattle.ed_rules.specs.Matched.{AreMatched}
use Rattle.ed_rules.specs.Lines.{appended, put_before}
use Rattle.zones.proofs.Known.{known-true}
use Rattle.ed_rules.proofs.Basics.{chain, Agrees-bind, Agrees-ok, Agrees-map, Agrees-needing, Agrees-need_then, Agrees-weaker, Agrees-also}

-- an address is there
abbrev pub IsGiven : Addresses → Type 0
IsGiven Without = ⊥
IsGiven (One a) = Unit {0}
IsGiven (Comma a b) = Unit {0}
IsGiven (Semicolon a b) = Unit {0}

pub names-given : (a : Addresses) → IsGiven a → (vs : List ℕ) (lines : List Line) (v : Numbers) → NamesOf a vs lines v → Names ⊥ vs lines v
names-given Without g vs lines v n = absurd g
names-given (One a) g vs lines v n = record { first_is = n.first_is; last_is = n.last_is; first_in = n.first_in; last_in = n.last_in; same = λ z. absurd z }
names-given (Comma a b) g vs lines v n = n
names-given (Semicolon a b) g vs lines v n = n

-- the lines of a span, if what is said of single lines is true of the same numbers
abbrev pub SpansKnown : State → editor.State → Span → Type 0
SpansKnown s e x = (r : Spans s e x) × FollowedHold s r.numbers e.lines

-- the last of two addresses in place of the first
last_for_both : (t : State) (p : editor.State × List ℕ) (v : Numbers) → StandsBy t p.0 v → Names ⊥ p.1 p.0.lines v → FollowedHold t v p.0.lines →
    SpansKnown (copied 3 4 t) p.0 (span (last_of_two p.1) (last_of_two p.1))
last_for_both t p v st n followed =
    let l = n.last_is in (
      record {
        numbers = updated v 3 (pos (last_of_two p.1));
        stands = StandsBy-set t p.0 v 3 4 (pos 0) (pos (last_of_two p.1)) (omega arith) (omega arith) (omega arith) (omega (arith, ints)) st;
        first_is = refl;
        last_is = n.last_is;
        first_in = n.last_in;
        last_in = n.last_in;
      },
      followed-set t p.0 v 3 4 (pos 0) (pos (last_of_two p.1)) (omega arith) (omega arith) (λ (q : 2 ≡ 3). omega arith) (omega (arith, ints)) st followed,
    )

-- what a command of one address takes
pub last_given-known : (a : Addresses) → IsGiven a → (t : State) (p : editor.State × List ℕ) → Addressed (NamesOf a) t p →
    SpansKnown (last_given a t) p.0 (span (last_of_two p.1) (last_of_two p.1))
last_given-known Without g t p h = absurd g
last_given-known (One a) g t p h = (
  record {
    numbers = h.numbers;
    stands = h.stands;
    first_is = h.names.first_is ∙ ap pos (h.names.same tt);
    last_is = h.names.last_is;
    first_in = h.names.last_in;
    last_in = h.names.last_in;
  },
  h.followed,
)
last_given-known (Comma a b) g t p h = last_for_both t p h.numbers h.stands h.names h.followed
last_given-known (Semicolon a b) g t p h = last_for_both t p h.numbers h.stands h.names h.followed

last_given-spans : (a : Addresses) → IsGiven a → (t : State) (p : editor.State × List ℕ) → Addressed (NamesOf a) t p →
    Spans (last_given a t) p.0 (span (last_of_two p.1) (last_of_two p.1))
last_given-spans a g t p h = (last_given-known a g t p h).0

pub ordered-is : (a b : ℕ) → 1 ≤ a → a ≤ b → ordered a b ≡ Ok (span a b)
ordered-is a b h k = rw (le-leb 1 a h, ordered) (rw (le-leb a b k) refl)

single-is : (n : ℕ) → 1 ≤ n → single n ≡ Ok (span n n)
single-is zero h = absurd (omega arith)
single-is (suc n) h = refl

-- a range, and what else is said of the same numbers
abbrev pub RangeAlso : (State → Numbers → Type 0) → editor.State → State → Span → Type 0
RangeAlso E e u x = (r : Ranges u e x) × E u r.spans.numbers

abbrev pub RangeWith : (Numbers → Type 0) → editor.State → State → Span → Type 0
RangeWith E e u x = (r : Ranges u e x) × E r.spans.numbers

pub range-also : (E : State → Numbers → Type 0) (t : State) (e : editor.State) (vs : List ℕ) (v : Numbers) (count : ℕ) → StandsBy t e v → Names ⊥ vs e.lines v → E t v →
    Agrees (RangeAlso E e) (ranged t) (spanned many.Range count vs)
range-also E t e vs v count st n extra =
    Agrees-needing (RangeAlso E e) _ fault.Address t (spanned many.Range count vs) (λ k.
    let three = and_parts (known t.zone 0 3 (negsuc 0) && known t.zone 3 4 (pos 0)) (known t.zone 4 2 (pos 0)) k in
    let two = and_parts (known t.zone 0 3 (negsuc 0)) (known t.zone 3 4 (pos 0)) three.0 in
    let k1 = known-true t.zone v 0 3 (negsuc 0) two.0 (omega arith) (omega arith) st.buffer.holds in
    let k2 = known-true t.zone v 3 4 (pos 0) two.1 (omega arith) (omega arith) st.buffer.holds in
    let f = n.first_is in
    let l = n.last_is in
    let z = st.buffer.reads.zero_is in
    let from : 1 ≤ first_of_two vs = omega (arith, ints) in
    let order : first_of_two vs ≤ last_of_two vs = omega (arith, ints) in
    Agrees-ok (RangeAlso E e) t (span (first_of_two vs) (last_of_two vs)) (spanned many.Range count vs) (ordered-is (first_of_two vs) (last_of_two vs) from order) (
      record {
        spans = record { numbers = v; stands = st; first_is = f; last_is = l; first_in = n.first_in; last_in = n.last_in };
        from = from;
        order = order;
      },
      extra,
    ))

pub range-with : (E : Numbers → Type 0) (t : State) (e : editor.State) (vs : List ℕ) (v : Numbers) (count : ℕ) → StandsBy t e v → Names ⊥ vs e.lines v → E v →
    Agrees (RangeWith E e) (ranged t) (spanned many.Range count vs)
range-with E t e vs v count st n extra = range-also (λ u. E) t e vs v count st n extra

-- a range, where what is said of matches and of single lines is true
pub range-known : (a : Addresses) → IsGiven a → (t : State) (p : editor.State × List ℕ) (count : ℕ) → Addressed (NamesOf a) t p →
    Agrees (λ u x. RangesKnown u p.0 x) (ranged t) (spanned many.Range count p.1)
range-known a g t p count h =
    range-also (λ u v. FollowedHold u v p.0.lines × AreMatched u.matches.has p.0.lines) t p.0 p.1 h.numbers count h.stands
    (names-given a g p.1 p.0.lines h.numbers h.names) (h.followed, h.matched)

-- a range, where what is said of single lines is
pub range-in : (a : Addresses) → IsGiven a → (t : State) (p : editor.State × List ℕ) (count : ℕ) → Addressed (NamesOf a) t p →
    Agrees (InRange p.0) (ranged t) (spanned many.Range count p.1)
range-in a g t p count h =
    range-also (λ u v. FollowedHold u v p.0.lines) t p.0 p.1 h.numbers count h.stands (names-given a g p.1 p.0.lines h.numbers h.names) h.followed

abbrev pub Nothing_more : Numbers → Type 0
Nothing_more v = Unit {0}

pub range-sound : (a : Addresses) → IsGiven a → (t : State) (p : editor.State × List ℕ) (count : ℕ) → Addressed (NamesOf a) t p →
    Agrees (RangeWith Nothing_more p.0) (ranged t) (spanned many.Range count p.1)
range-sound a g t p count h =
    range-with Nothing_more t p.0 p.1 h.numbers count h.stands (names-given a g p.1 p.0.lines h.numbers h.names) tt

abbrev pub AtLine : editor.State → State → Span → Type 0
AtLine e u x = (r : Ranges u e x) × (x.first ≡ x.last) × FollowedHold u r.spans.numbers e.lines

pub one_line-sound : (given a : Addresses) → IsGiven a → (t : State) (p : editor.State × List ℕ) (count : ℕ) → Addressed (NamesOf a) t p →
    Agrees (AtLine p.0) (taken many.OneLine given a t) (spanned many.OneLine count p.1)
one_line-sound given a g t p count h =
    let u : State = last_given a t in
    let n : ℕ = last_of_two p.1 in
    let both : SpansKnown u p.0 (span n n) = last_given-known a g t p h in
    let r : Spans u p.0 (span n n) = both.0 in
    Agrees-needing (AtLine p.0) (known u.zone 0 3 (negsuc 0)) fault.Address u (spanned many.OneLine count p.1) (λ k.
    let k1 = known-true u.zone r.numbers 0 3 (negsuc 0) k (omega arith) (omega arith) r.stands.buffer.holds in
    let f = r.first_is in
    let z = r.stands.buffer.reads.zero_is in
    let from : 1 ≤ n = omega (arith, ints) in
    Agrees-ok (AtLine p.0) u (span n n) (spanned many.OneLine count p.1) (single-is n from) (record { spans = r; from = from; order = omega arith }, refl, both.1))

-- which addresses a command's phases after them may meet
abbrev pub Suits : Taking → Addresses → Type 0
Suits many.NoAddress a = Unit {0}
Suits many.Place a = IsGiven a
Suits many.FirstPlace a = IsGiven a
Suits many.OneLine a = IsGiven a
Suits many.Lines a = IsGiven a
Suits many.Range a = IsGiven a
Suits many.Whole a = a ≡ Without

pub given_or-given : (a d : Addresses) → IsGiven d → IsGiven (given_or a d)
given_or-given Without d h = h
given_or-given (One a) d h = tt
given_or-given (Comma a b) d h = tt
given_or-given (Semicolon a b) d h = tt

pub suits : (verb : Verb) → Suits (takes verb).taking (standing (takes verb).default)
suits (ed.WriteFile path) = refl
suits (ed.Global sense pattern) = refl
suits _ = tt

-- 0 stands for 1, for `i`
abbrev pub FirstPlaces : editor.State → State → Span → Type 0
FirstPlaces e u x =
    (v : Numbers) × StandsBy u e v × (v 3 ≡ pos x.first) × (1 ≤ x.first) × (x.first ≤ length e.lines + 1) × FollowedHold u v e.lines ×
    ((m : ℕ) × (v 4 ≡ pos m) × (m ≤ length e.lines))

StandsBy-lifted : (s : State) (e : editor.State) (v : Numbers) (x n : ℕ) → 3 ≤ x → x < 6 → v x ≡ pos n → (1 ≤ length e.lines → n ≤ length e.lines) → StandsBy s e v →
    StandsBy (with_zone (lifted x s.zone) s) e (updated v x (pos (max 1 n)))
StandsBy-lifted s e v x n lo hi vx inside st = record {
  buffer = record {
    holds = Holds-lifted x n (length e.lines) s.zone v lo hi st.buffer.holds st.buffer.reads.zero_is st.buffer.reads.last_is vx inside;
    reads = Reads-temporary s.marks e.lines e.current v x (pos (max 1 n)) lo hi st.buffer.reads;
    inside = st.buffer.inside;
  };
  remembered = st.remembered;
  changed = st.changed;
  past = st.past;
}

pub first_place-sound : (given a : Addresses) → IsGiven a → (t : State) (p : editor.State × List ℕ) (count : ℕ) → Addressed (NamesOf a) t p →
    Agrees (FirstPlaces p.0) (taken many.FirstPlace given a t) (spanned many.FirstPlace count p.1)
first_place-sound given a g t p count h =
    let q = last_given-known a g t p h in
    let r : Spans (last_given a t) p.0 (span (last_of_two p.1) (last_of_two p.1)) = q.0 in
    let n : ℕ = last_of_two p.1 in
    let inside = r.first_in in (
      updated r.numbers 3 (pos (max 1 n)),
      StandsBy-lifted (last_given a t) p.0 r.numbers 3 n (omega arith) (omega arith) r.first_is (λ _. r.first_in) r.stands,
      refl,
      omega arith,
      omega arith,
      λ e. FactsHold-lifted 3 n (last_given a t).facts r.numbers p.0.lines (omega arith) (λ (z : 2 ≡ 3). omega arith) r.first_is (q.1 e),
      (n, r.last_is, r.last_in),
    )

-- both lifted, for `c`
abbrev pub from_zero : ℕ → ℕ → Span
from_zero a b = span (max 1 a) (max 1 b)

pub from_first-is : (a b count : ℕ) → a ≤ b → max 1 b ≤ count → from_first a b count ≡ Ok (from_zero a b)
from_first-is a b count h k = rw (le-leb a b h, le-leb (max 1 b) count k, from_first) refl

-- numbers for both lifted addresses
abbrev Lifted : editor.State → ℕ → ℕ → Bounds → State → Type 0
Lifted e a b zone s =
    (v : Numbers) × StandsBy (with_zone zone s) e v × (v 3 ≡ pos (max 1 a)) × (v 4 ≡ pos (max 1 b)) × FollowedHold s v e.lines

lifted-both : (s : State) (e : editor.State) (v : Numbers) (a b : ℕ) → v 3 ≡ pos a → v 4 ≡ pos b → a ≤ length e.lines → b ≤ length e.lines → a ≤ b → StandsBy s e v →
    FollowedHold s v e.lines → Lifted e a b (after_guard (lifted 4 (lifted 3 s.zone)) 3 4 (pos 0)) s
lifted-both s e v a b va vb ha hb h st followed =
    let v3 : Numbers = updated v 3 (pos (max 1 a)) in
    let s3 : State = with_zone (lifted 3 s.zone) s in
    let st3 : StandsBy s3 e v3 = StandsBy-lifted s e v 3 a (omega arith) (omega arith) va (λ _. ha) st in
    let v4 : Numbers = updated v3 4 (pos (max 1 b)) in
    let st4 : StandsBy (with_zone (lifted 4 s3.zone) s3) e v4 = StandsBy-lifted s3 e v3 4 b (omega arith) (omega arith) vb (λ _. hb) st3 in
    let le : max 1 a ≤ max 1 b = omega arith in (
      v4,
      StandsBy-guarded (with_zone (lifted 4 s3.zone) s3) e v4 3 4 (pos 0) (omega arith) (omega arith) (omega (arith, ints)) st4,
      refl,
      refl,
      λ q. FactsHold-lifted 4 b s.facts v3 e.lines (omega arith) (λ (z : 2 ≡ 4). omega arith) vb
          (FactsHold-lifted 3 a s.facts v e.lines (omega arith) (λ (z : 2 ≡ 3). omega arith) va (followed q)),
    )

lifted-one : (s : State) (e : editor.State) (v : Numbers) (a : ℕ) → v 3 ≡ pos a → v 4 ≡ pos a → a ≤ length e.lines → StandsBy s e v → FollowedHold s v e.lines →
    Lifted e a a (after_guard (lifted 4 (after_set (lifted 3 s.zone) 4 3 (pos 0))) 3 4 (pos 0)) s
lifted-one s e v a va vb ha st followed =
    let m : ℕ = max 1 a in
    let v3 : Numbers = updated v 3 (pos m) in
    let s3 : State = with_zone (lifted 3 s.zone) s in
    let st3 : StandsBy s3 e v3 = StandsBy-lifted s e v 3 a (omega arith) (omega arith) va (λ _. ha) st in
    let v4 : Numbers = updated v3 4 (pos m) in
    let s4 : State = with_zone (after_set s3.zone 4 3 (pos 0)) s3 in
    let st4 : StandsBy s4 e v4 = StandsBy-temporary s3 e v3 4 3 (pos 0) (pos m) (omega arith) (omega arith) (omega arith) (omega (arith, ints)) st3 in
    let v5 : Numbers = updated v4 4 (pos (max 1 m)) in
    let s5 : State = with_zone (lifted 4 s4.zone) s4 in
    let st5 : StandsBy s5 e v5 = StandsBy-lifted s4 e v4 4 m (omega arith) (omega arith) refl (λ (some : 1 ≤ length e.lines). omega arith) st4 in
    let same : max 1 m ≡ m = omega arith in (
      v5,
      StandsBy-guarded s5 e v5 3 4 (pos 0) (omega arith) (omega arith) (omega (arith, ints)) st5,
      refl,
      ap pos same,
      λ q. FactsHold-lifted 4 m s.facts v4 e.lines (omega arith) (λ (z : 2 ≡ 4). omega arith) refl
          (FactsHold-lifted 4 a s.facts v3 e.lines (omega arith) (λ (z : 2 ≡ 4). omega arith) vb
          (FactsHold-lifted 3 a s.facts v e.lines (omega arith) (λ (z : 2 ≡ 3). omega arith) va (followed q))),
    )

-- the range of lifted addresses
lifted-range : (e : editor.State) (u : State) (a b : ℕ) (v : Numbers) → StandsBy u e v → v 3 ≡ pos (max 1 a) → v 4 ≡ pos (max 1 b) → FollowedHold u v e.lines → a ≤ b →
    (vs : List ℕ) → first_of_two vs ≡ a → last_of_two vs ≡ b → Agrees (InRange e) (ranged u) (spanned many.Lines (length e.lines) vs)
lifted-range e u a b v st va vb followed le vs fa lb =
    Agrees-needing (InRange e) _ fault.Address u (spanned many.Lines (length e.lines) vs) (λ k.
    let three = and_parts (known u.zone 0 3 (negsuc 0) && known u.zone 3 4 (pos 0)) (known u.zone 4 2 (pos 0)) k in
    let k3 = known-true u.zone v 4 2 (pos 0) three.1 (omega arith) (omega arith) st.buffer.holds in
    let c = st.buffer.reads.last_is in
    let inside : max 1 b ≤ length e.lines = omega (arith, ints) in
    Agrees-ok (InRange e) u (from_zero a b) (spanned many.Lines (length e.lines) vs)
    (rw (fa, lb) (from_first-is a b (length e.lines) le inside)) (
      record {
        spans = record { numbers = v; stands = st; first_is = va; last_is = vb; first_in = omega arith; last_in = inside };
        from = omega arith;
        order = omega arith;
      },
      followed,
    ))

lifted-given : (given d : Addresses) → IsGiven d → (t : State) (p : editor.State × List ℕ) (h : Addressed (NamesOf (given_or given d)) t p) → first_of_two p.1 ≤ last_of_two p.1 →
    Lifted p.0 (first_of_two p.1) (last_of_two p.1) (lifted_range given t.zone) t
lifted-given Without d g t p h le =
    let n = names-given d g p.1 p.0.lines h.numbers h.names in
    lifted-both t p.0 h.numbers (first_of_two p.1) (last_of_two p.1) n.first_is n.last_is n.first_in n.last_in le h.stands h.followed
lifted-given (One b) d g t p h le =
    subst (λ (l : ℕ). Lifted p.0 (first_of_two p.1) l (lifted_range (One b) t.zone) t) (h.names.same tt)
    (lifted-one t p.0 h.numbers (first_of_two p.1) h.names.first_is (h.names.last_is ∙ ap pos (sym (h.names.same tt))) h.names.first_in h.stands h.followed)
lifted-given (Comma b c) d g t p h le = lifted-both t p.0 h.numbers (first_of_two p.1) (last_of_two p.1) h.names.first_is h.names.last_is h.names.first_in h.names.last_in le h.stands h.followed
lifted-given (Semicolon b c) d g t p h le = lifted-both t p.0 h.numbers (first_of_two p.1) (last_of_two p.1) h.names.first_is h.names.last_is h.names.first_in h.names.last_in le h.stands h.followed

names-order : (a b : ℕ) (s : State) (e : editor.State) (v : Numbers) → StandsBy s e v → v 3 ≡ pos a → v 4 ≡ pos b → known s.zone 3 4 (pos 0) ≡ true → a ≤ b
names-order a b s e v st va vb k =
    let d = known-true s.zone v 3 4 (pos 0) k (omega arith) (omega arith) st.buffer.holds in
    omega (arith, ints)

-- the lines of `c`
pub lines-sound : (given d : Addresses) → IsGiven d → (t : State) (p : editor.State × List ℕ) → Addressed (NamesOf (given_or given d)) t p →
    Agrees (InRange p.0) (taken many.Lines given (given_or given d) t) (spanned many.Lines (length p.0.lines) p.1)
lines-sound given d g t p h =
    let a : ℕ = first_of_two p.1 in
    let b : ℕ = last_of_two p.1 in
    let n = names-given (given_or given d) (given_or-given given d g) p.1 p.0.lines h.numbers h.names in
    let u : State = with_zone (lifted_range given t.zone) t in
    let both : known t.zone 3 4 (pos 0) ≡ true → Agrees (InRange p.0) (ranged u) (spanned many.Lines (length p.0.lines) p.1) = λ (k : known t.zone 3 4 (pos 0) ≡ true).
    let le = names-order a b t p.0 h.numbers h.stands n.first_is n.last_is k in
    let q = lifted-given given d g t p h le in
    lifted-range p.0 u a b q.0 q.1 q.2 q.3 q.4 le p.1 refl refl in
    Agrees-need_then (InRange p.0) (known t.zone 3 4 (pos 0)) fault.Address u ranged (spanned many.Lines (length p.0.lines) p.1) both

abbrev pub Equal : Numbers → Type 0
Equal v = v 3 ≡ v 4

-- `j`: with one address nothing happens
join-sound : (c : Command) (given d : Addresses) → IsGiven d → (s : State) (e : editor.State) (start : Begins s e) (t : State) (p : editor.State × List ℕ) → Addressed (NamesOf (given_or given d)) t p →
    Agrees Final (ranged t >> λ u. suffixed c.suffix (with_zone (ended (joined_given given c.listed s u).marks (joined_given given c.listed s u).zone) (joined_given given c.listed s u)))
    (spanned many.Range (length e.lines) p.1 >> λ x. completed c e (Makes (effects.join x p.0)))
join-sound c Without d g s e start t p h =
    Agrees-bind (InRange p.0) Final (ranged t) (spanned many.Range (length e.lines) p.1) _ _ (range-in d g t p (length e.lines) h)
    (λ u x r. finish-sound c e (joined c.listed s u) (Makes (effects.join x p.0)) (join-follows c.listed s e start u p.0 x r))
join-sound c (One b) d g s e start t p h =
    let same : h.numbers 3 ≡ h.numbers 4 = h.names.first_is ∙ ap pos (h.names.same tt) ∙ sym h.names.last_is in
    Agrees-bind (RangeWith Equal p.0) Final (ranged t) (spanned many.Range (length e.lines) p.1) _ _
    (range-with Equal t p.0 p.1 h.numbers (length e.lines) h.stands (names-given (One b) tt p.1 p.0.lines h.numbers h.names) same)
    (λ u x r. let f = r.0.spans.first_is in let l = r.0.spans.last_is in let q = r.1 in
    finish-sound c e u (Makes (effects.join x p.0)) (join-one c.listed e u p.0 x r.0 (omega (arith, ints))))
join-sound c (Comma a b) d g s e start t p h =
    Agrees-bind (InRange p.0) Final (ranged t) (spanned many.Range (length e.lines) p.1) _ _ (range-in (Comma a b) tt t p (length e.lines) h)
    (λ u x r. finish-sound c e (joined c.listed s u) (Makes (effects.join x p.0)) (join-follows c.listed s e start u p.0 x r))
join-sound c (Semicolon a b) d g s e start t p h =
    Agrees-bind (InRange p.0) Final (ranged t) (spanned many.Range (length e.lines) p.1) _ _ (range-in (Semicolon a b) tt t p (length e.lines) h)
    (λ u x r. finish-sound c e (joined c.listed s u) (Makes (effects.join x p.0)) (join-follows c.listed s e start u p.0 x r))

-- the target has its value in t3
pub record Targeted (p : editor.State) (vs : List ℕ) (t : State) (q : editor.State × ℕ) : Type 0 where
  pub numbers : Numbers
  pub stands : StandsBy t q.0 numbers
  pub names : Names ⊥ vs q.0.lines numbers
  pub target_is : numbers 5 ≡ pos q.1
  pub target_in : q.1 ≤ length q.0.lines
  pub same_lines : q.0.lines ≡ p.lines
  pub followed : FollowedHold t numbers q.0.lines

pub targeted-sound : (to : Address) (t : State) (p : editor.State) (vs : List ℕ) (v : Numbers) → StandsBy t p v → Names ⊥ vs p.lines v → AreMatched t.matches.has p.lines →
    FollowedHold t v p.lines → Agrees (Targeted p vs) (evaluated 5 to t) (targeted (Some to) p)
targeted-sound to t p vs v st n matched followed =
    Agrees-map (Valued 5 (concrete.evaluated to p) v) (Targeted p vs) (evaluated 5 to t) (value to p) (λ m. (concrete.evaluated to p, m)) (valued-sound 5 to t p v (omega arith) (omega arith) st matched followed)
    (λ u m r. record {
      numbers = updated v 5 (pos m);
      stands = r.0;
      names = record { first_is = n.first_is; last_is = n.last_is; first_in = n.first_in; last_in = n.last_in; same = n.same };
      target_is = refl;
      target_in = r.1;
      same_lines = refl;
      followed = r.3;
    })

-- what is said of single lines is true of the same numbers, and the target's is its own
abbrev pub TargetFollowed : editor.State × ℕ → State → Numbers → Type 0
TargetFollowed q u v = FollowedHold u v q.0.lines × (v 5 ≡ pos q.1)

abbrev pub At_target : ℕ → Numbers → Type 0
At_target n v = v 5 ≡ pos n

-- the range of `w`
given-whole : (a : Addresses) → IsGiven a → (t : State) (p : editor.State × List ℕ) → Addressed (NamesOf a) t p →
    ((u : State) (x : Span) → changed_by_write a u.zone u.changed ≡ changed_by_lines u.zone u.changed) → Agrees (Written a p.0) (ranged t) (spanned many.Whole (length p.0.lines) p.1)
given-whole a g t p h by =
    ranges-written a p.0 (ranged t) (spanned many.Whole (length p.0.lines) p.1) by
    (whole-range (λ u x. Ranges u p.0 x) (ranged t) (length p.0.lines) p.1
    (Agrees-weaker (RangeWith Nothing_more p.0) (λ u x. Ranges u p.0 x) (ranged t) (spanned many.Range (length p.0.lines) p.1) (λ u x r. r.0) (range-sound a g t p (length p.0.lines) h)))

-- `w`: given lines, or all
whole-sound : (given d : Addresses) → d ≡ Without → (t : State) (p : editor.State × List ℕ) → Addressed (NamesOf (given_or given d)) t p →
    Agrees (Written given p.0) (whole_or_ranged given t) (spanned many.Whole (length p.0.lines) p.1)
whole-sound Without d none t p h =
    all-written p.0 t p.1 (h.numbers, h.stands) (let N : Addresses → Type 0 = λ (a : Addresses). NamesOf a p.1 p.0.lines h.numbers in subst N none h.names)
whole-sound (One a) d none t p h = given-whole (One a) tt t p h (λ u x. refl)
whole-sound (Comma a b) d none t p h = given-whole (Comma a b) tt t p h (λ u x. refl)
whole-sound (Semicolon a b) d none t p h = given-whole (Semicolon a b) tt t p h (λ u x. refl)

-- a command on files, or one that ends the run where the buffer is saved
abbrev pub is_on_files : Verb → Bool
is_on_files (ed.ReadFile path) = true
is_on_files (ed.WriteFile path) = true
is_on_files (ed.Edit path) = true
is_on_files (ed.EditAnyway path) = true
is_on_files (ed.FileName path) = true
is_on_files ed.Quit = true
is_on_files _ = false

-- the phases after the addresses, a verb at a time
module _ (order : SpansAreInOrder) (c : Command) (answer : Option Answer) (given d : Addresses) (s : State) (e : editor.State)
    (start : Begins s e) (whole : AreWhole e.lines) (marked_well : WellMarked e.lines) (t : State) (p : editor.State × List ℕ)
    (same_lines : p.0.lines ≡ e.lines) (h : Addressed (NamesOf (given_or given d)) t p) where
  abbrev rule_after : Verb → Result State Fault
  rule_after verb =
      addresses.targeted (takes verb).target t >> λ q. taken (takes verb).taking given (given_or given d) q >> λ u. effect c.listed given verb s u >> λ r. suffixed c.suffix (with_zone (ended r.marks r.zone) r)

  abbrev command_after : Verb → Result Effect Fault
  command_after verb = targeted (takes verb).target p.0 >> λ q. spanned (takes verb).taking (length e.lines) p.1 >> λ x. effect_of verb c.listed x q.1 q.0 answer >> completed c e

  after_addresses : (verb : Verb) → is_on_files verb ≡ false → Suits (takes verb).taking d →
      Agrees Final (rule_after verb) (command_after verb)
  after_addresses (ed.Append text) f g =
      finish-sound c e (appended c.listed s (length text) (last_given (given_or given d) t)) (Makes (effects.append text (span (last_of_two p.1) (last_of_two p.1)) p.0))
      (append-follows c.listed text s e start (last_given (given_or given d) t) p.0 (span (last_of_two p.1) (last_of_two p.1)) (last_given-spans (given_or given d) (given_or-given given d g) t p h))
  after_addresses (ed.Insert text) f g =
      Agrees-bind (FirstPlaces p.0) Final (taken many.FirstPlace given (given_or given d) t) (spanned many.FirstPlace (length e.lines) p.1) _ _ (first_place-sound given (given_or given d) (given_or-given given d g) t p (length e.lines) h)
      (λ u x r. finish-sound c e (put_before c.listed s (length text) u) (Makes (effects.insert text x p.0)) (insert-follows c.listed text s e start u p.0 x r.0 r.1 r.2 r.3 r.4))
  after_addresses (ed.Change text) f g =
      Agrees-bind (InRange p.0) Final (taken many.Lines given (given_or given d) t) (spanned many.Lines (length e.lines) p.1) _ _
      (subst (λ (ls : List Line). Agrees (InRange p.0) (taken many.Lines given (given_or given d) t) (spanned many.Lines (length ls) p.1)) same_lines (lines-sound given d g t p h))
      (λ u x r. finish-sound c e (modified c.listed s (replaced (length text) u)) (Makes (effects.change text x p.0)) (change-follows c.listed text s e start u p.0 x r))
  after_addresses ed.Delete f g =
      Agrees-bind (InRange p.0) Final (ranged t) (spanned many.Range (length e.lines) p.1) _ _ (range-in (given_or given d) (given_or-given given d g) t p (length e.lines) h)
      (λ u x r. finish-sound c e (modified c.listed s (replaced 0 u)) (Makes (effects.delete x p.0)) (delete-follows c.listed s e start u p.0 x r))
  after_addresses ed.Join f g = join-sound c given d g s e start t p h
  after_addresses (ed.Mark letter) f g =
      Agrees-bind (AtLine p.0) Final (taken many.OneLine given (given_or given d) t) (spanned many.OneLine (length e.lines) p.1) _ _ (one_line-sound given (given_or given d) (given_or-given given d g) t p (length e.lines) h)
      (λ u x r. Agrees-need_then Final (nat_lt letter 26 && known u.zone 3 2 (pos 0)) fault.Address (marked letter u) (λ w. suffixed c.suffix (with_zone (ended w.marks w.zone) w)) (completed c e (Makes (effects.mark letter x p.0)))
      (λ k. finish-sound c e (marked letter u) (Makes (effects.mark letter x p.0))
      (mark-follows c.listed letter e u p.0 x r.0 r.1 (ltb-true letter 26 (and_parts (nat_lt letter 26) (known u.zone 3 2 (pos 0)) k).0)
      (subst (λ (ls : List Line). KnowLetters ls) (sym same_lines) marked_well.known))))
  after_addresses (ed.Move to) f g =
      let n = names-given (given_or given d) (given_or-given given d g) p.1 p.0.lines h.numbers h.names in
      Agrees-bind (Targeted p.0 p.1) Final (evaluated 5 to t) (targeted (Some to) p.0) _ _ (targeted-sound to t p.0 p.1 h.numbers h.stands n h.matched h.followed)
      (λ u q k. Agrees-bind (RangeAlso (TargetFollowed q) q.0) Final (ranged u) (spanned many.Range (length e.lines) p.1) _ _
      (range-also (TargetFollowed q) u q.0 p.1 k.numbers (length e.lines) k.stands k.names (k.followed, k.target_is))
      (λ w x r. Agrees-bind (Follows c.listed e) Final (moved_lines c.listed s w) (making (effects.move x q.1 q.0)) _ _
      (move-follows c.listed s e start w q.0 x q.1 r.0 (r.1).0 (r.1).1 k.target_in
      (subst (λ (ls : List Line). WellMarked ls) (sym (k.same_lines ∙ same_lines)) marked_well))
      (λ m f i. finish-sound c e m f i)))
  after_addresses (ed.Copy to) f g =
      let n = names-given (given_or given d) (given_or-given given d g) p.1 p.0.lines h.numbers h.names in
      Agrees-bind (Targeted p.0 p.1) Final (evaluated 5 to t) (targeted (Some to) p.0) _ _ (targeted-sound to t p.0 p.1 h.numbers h.stands n h.matched h.followed)
      (λ u q k. Agrees-bind (RangeWith (At_target q.1) q.0) Final (ranged u) (spanned many.Range (length e.lines) p.1) _ _
      (range-with (At_target q.1) u q.0 p.1 k.numbers (length e.lines) k.stands k.names k.target_is)
      (λ w x r. finish-sound c e (copied_lines c.listed s w) (Makes (effects.copy x q.1 q.0))
      (copy-follows c.listed s e start w q.0 x q.1 r.0 r.1 k.target_in)))
  after_addresses (ed.Substitute pattern replacement choice form) f g =
      Agrees-bind (λ u x. RangesKnown u p.0 x) Final (ranged t) (spanned many.Range (length e.lines) p.1) _ _ (range-known (given_or given d) (given_or-given given d g) t p (length e.lines) h)
      (λ u x r. Agrees-bind (Follows c.listed e) Final (substituted c.listed pattern replacement choice s u) (making (substitute c.listed pattern replacement choice form x p.0)) _ _
      (substitute-follows c.listed pattern replacement choice form s e start u p.0 x r (subst (λ (ls : List Line). AreWhole ls) (sym same_lines) whole))
      (λ m f i. finish-sound c e m f i))
  after_addresses ed.LineNumber f g =
      let r = last_given-spans (given_or given d) (given_or-given given d g) t p h in
      finish-sound c e (last_given (given_or given d) t) (Makes (effects.line_number (span (last_of_two p.1) (last_of_two p.1)) p.0)) (r.numbers, r.stands)
  after_addresses ed.Null f g =
      Agrees-bind (AtLine p.0) Final (taken many.OneLine given (given_or given d) t) (spanned many.OneLine (length e.lines) p.1) _ _ (one_line-sound given (given_or given d) (given_or-given given d g) t p (length e.lines) h)
      (λ u x r.
      let f = r.0.spans.first_is in
      let same = r.1 in
      finish-sound c e (current_at 3 u) (Makes (effects.write ed.Plain x p.0))
      (updated r.0.spans.numbers 1 (pos x.last), StandsBy-current u p.0 r.0.spans.numbers 3 (pos 0) x.last (omega arith) (omega (arith, ints)) r.0.spans.last_in r.0.spans.stands))
  after_addresses (ed.Write form) f g =
      Agrees-bind (RangeWith Nothing_more p.0) Final (ranged t) (spanned many.Range (length e.lines) p.1) _ _ (range-sound (given_or given d) (given_or-given given d g) t p (length e.lines) h)
      (λ u x r.
      let l = r.0.spans.last_is in
      finish-sound c e (current_at 4 u) (Makes (effects.write form x p.0))
      (updated r.0.spans.numbers 1 (pos x.last), StandsBy-current u p.0 r.0.spans.numbers 4 (pos 0) x.last (omega arith) (omega (arith, ints)) r.0.spans.last_in r.0.spans.stands))
  after_addresses (ed.ReadFile path) f g = absurd cc
  after_addresses (ed.WriteFile path) f g = absurd cc
  after_addresses (ed.Edit path) f g = absurd cc
  after_addresses (ed.EditAnyway path) f g = absurd cc
  after_addresses (ed.FileName path) f g = absurd cc
  after_addresses (ed.Global sense pattern) f g =
      Agrees-bind (λ u x. Written given p.0 u x × InOrder x) Final (whole_or_ranged given t) (spanned many.Whole (length e.lines) p.1) _ _
      (Agrees-also (Written given p.0) InOrder (whole_or_ranged given t) (spanned many.Whole (length e.lines) p.1)
      (subst (λ (ls : List Line). Agrees (Written given p.0) (whole_or_ranged given t) (spanned many.Whole (length ls) p.1)) same_lines (whole-sound given d g t p h))
      (λ x is. let o = order many.Whole (length e.lines) p.1 in subst (λ (y : Result Span Fault). IfOk y InOrder) is o))
      (λ u x r. Agrees-bind (Follows c.listed e) Final (pattern_used pattern u) (flagged sense pattern x p.0 >> λ q. Ok (Makes (effects.only q []))) _ _
      (flag-follows c.listed sense pattern e u p.0 x r.0.0 r.1)
      (λ m f i. finish-sound c e m f i))
  after_addresses ed.Undo f g =
      Agrees-bind (Follows c.listed e) Final (undone t) (making (effects.undo p.0.past p.0)) _ _ (undo-follows c.listed e t p.0 (h.numbers, h.stands, h.followed))
      (λ m f i. finish-sound c e m f i)
  after_addresses ed.Help f g = finish-sound c e t (Makes (effects.only p.0 [])) (h.numbers, h.stands)
  after_addresses ed.HelpMode f g = finish-sound c e t (Makes (effects.only p.0 [])) (h.numbers, h.stands)
  after_addresses ed.PromptMode f g = finish-sound c e t (Makes (effects.only p.0 [])) (h.numbers, h.stands)
  after_addresses ed.Quit f g = absurd cc
  after_addresses ed.QuitAnyway f g = finish-sound c e t (Makes (effects.only p.0 [])) (h.numbers, h.stands)

  after_addresses_on_files : (verb : Verb) → is_on_files verb ≡ true → Suits (takes verb).taking d → Does Comes answer (rule_after verb) (command_after verb)
  after_addresses_on_files (ed.ReadFile path) f g =
      let x : Span = span (last_of_two p.1) (last_of_two p.1) in
      let u : State = last_given (given_or given d) t in
      finish-does c answer e (file_read c.listed path s u) (file.read path answer x p.0)
      (read-does c.listed path answer s e start u p.0 x (last_given-spans (given_or given d) (given_or-given given d g) t p h))
  after_addresses_on_files (ed.WriteFile path) f g =
      does-bind (Written given p.0) Comes answer (whole_or_ranged given t) (spanned many.Whole (length e.lines) p.1) _ _
      (subst (λ (ls : List Line). Agrees (Written given p.0) (whole_or_ranged given t) (spanned many.Whole (length ls) p.1)) same_lines (whole-sound given d g t p h))
      (λ u x r. finish-does c answer e (file_written given path u) (file.write path answer x p.0) (write-does c.listed given path answer e u p.0 x r))
  after_addresses_on_files (ed.Edit path) f g =
      finish-does c answer e (edited path t) (file.edit path answer p.0) (edit-does c.listed path answer e t p.0 (h.numbers, h.stands))
  after_addresses_on_files (ed.EditAnyway path) f g =
      finish-does c answer e (edited_anyway path t) (file.edit_anyway path answer p.0) (edit_anyway-does c.listed path answer e t p.0 (h.numbers, h.stands))
  after_addresses_on_files (ed.FileName path) f g =
      finish-does c answer e (file_named path t) (making (file.file_name path p.0)) (name-does c.listed path answer e t p.0 (h.numbers, h.stands))
  after_addresses_on_files ed.Quit f g =
      finish-does c answer e (saved t) (making (file.quit p.0)) (quit-does c.listed answer e t p.0 (h.numbers, h.stands))
  after_addresses_on_files _ f g = absurd cc

  pub all_after_addresses : (verb : Verb) → Suits (takes verb).taking d → Does Comes answer (rule_after verb) (command_after verb)
  all_after_addresses verb g =
      (elim (is_on_files verb) as (λ b. is_on_files verb ≡ b → Does Comes answer (rule_after verb) (command_after verb)) [
        | true ↦ λ f. after_addresses_on_files verb f g
        | false ↦ λ f. does-agreed answer (rule_after verb) (command_after verb) (after_addresses verb f g)
      ]) refl

-- a command as one chain of phases
pub command-is : (c : Command) (e : editor.State) (answer : Option Answer) →
    command e c answer ≡ values (given_or c.addresses (takes c.verb).default) e >> λ v. targeted (takes c.verb).target v.0 >> λ q. spanned (takes c.verb).taking (length e.lines) v.1 >> λ x. effect_of c.verb c.listed x q.1 q.0 answer >> completed c e
command-is c e answer =
    chain (values (given_or c.addresses (takes c.verb).default) e) (λ v. targeted (takes c.verb).target v.0) (λ v q. spanned (takes c.verb).taking (length e.lines) v.1)
    (λ v q x. record { state = q.0; span = x; target = q.1 }) (λ r. effect_of c.verb c.listed r.span r.target r.state answer >> completed c e)

pub phases_sound : SpansAreInOrder → (c : Command) (s : State) (e : editor.State) (answer : Option Answer) → AreLettered e.lines →
    Begins s e → AreMatched s.matches.has e.lines →
    Does Comes answer (step_aside (given_or c.addresses (standing (takes c.verb).default)) c s) (command e c answer)
phases_sound order c s e answer letters st matched =
    let d : Addresses = standing (takes c.verb).default in
    let a : Addresses = given_or c.addresses d in
    subst (λ (y : Result Effect Fault). Does Comes answer (step_aside a c s) y) (sym (command-is c e answer))
    (does-bind (AddressedIn e.lines (NamesOf a)) Comes answer (addressed a s) (values (given_or c.addresses (takes c.verb).default) e) _ _ (command_addressed c.addresses c.verb s e st matched)
    (λ t p h. all_after_addresses order c answer c.addresses d s e st letters.whole (lettered-marked e.lines letters) t p h.1 h.0 c.verb
    (suits c.verb)))
