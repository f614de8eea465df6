-- A script has one answer over a start.
use Rattle.std.proofs.Common.{◌≡◌, ◌<◌, ◌+◌, ℕ, Bool, true, false, List, [], ◌∷◌, length, Option, None, Some, inl, inr, refl, sym, ap, subst, ◌∙◌, arith}
use Rattle.std.specs.List.{Contains}
use Rattle.std.proofs.lemmas.Bool.{cases_lt, true≢false}
use Rattle.ed_base.specs.declared.fault.Fault.{Fault}
use Rattle.zones.specs.Known.{least, greatest}
use Rattle.ed_syntax.specs.Commands.{Command, Step, Script}
use Rattle.ed_syntax.specs.meaning.Verbs.{is_global}
use Rattle.ed_rules.specs.declared.state.State.{State}
use Rattle.ed_rules.specs.Choices.{Choice}
use Rattle.cert_check.specs.declared.sight.Sight.{Sight}
use Rattle.cert_check.specs.declared.checker.verdict.Place.{Place}
use Rattle.cert_check.specs.Certificates.{Looped, Note, Certificate}
use Rattle.cert_check.specs.checker.Valid.{counted, has_quit, are_met, left_by, left_after, entry_of}
use Rattle.cert_check.proofs.texts.Unambiguous.{looped-by, note-by}
use Rattle.cert_check.proofs.texts.OneText.{certificate-by}
use Rattle.analyser.specs.declared.analysis.Start.{Start}
use Rattle.analyser.specs.Rounds.{round_invariant, ends, AreInner, InnerFail, IsSettled}
use Rattle.analyser.specs.Following.{IsKnownOfList, IsNote, ListFails, NeedFails, AreNotes, NotesFail, result_from, paths_from, sight_over, begun, end_fault}
use Rattle.analyser.specs.Analysis.{low_of, high_of, IsCertificate, IsFailure}
use Rattle.analyser.proofs.Listing.{rising-once}
use Rattle.analyser.proofs.Rounding.{unmet-some}

-- A LIST

-- a round that ends isn't before another one that is the first to end
not-before : (w : Sight) (x : Step) (first one other : State) (a : IsSettled w x first one) (b : IsSettled w x first other) →
    a.before < b.before → ⊥
not-before w x first one other a b l =
    true≢false (sym a.last ∙ subst (λ (s : State). ends w x s ≡ false) (sym a.is) (b.none_before a.before l))

settled-once : (w : Sight) (x : Step) (first one other : State) → IsSettled w x first one → IsSettled w x first other → one ≡ other
settled-once w x first one other a b = elim (cases_lt a.before b.before) [
  | inl l ↦ absurd (not-before w x first one other a b l)
  | inr l ↦ elim (cases_lt b.before a.before) [
    | inl m ↦ absurd (not-before w x first other one b a m)
    | inr m ↦ let same : a.before ≡ b.before = omega arith in a.is ∙ ap (λ (n : ℕ). round_invariant w x first n) same ∙ sym b.is
  ]
]

inner-once : (w : Sight) (cs : List Command) (s : State) (ts us : List State) → AreInner w cs s ts → AreInner w cs s us → ts ≡ us
inner-once w [] s [] [] h k = refl
inner-once w [] s [] (u ∷ us) h k = absurd k
inner-once w [] s (t ∷ ts) us h k = absurd h
inner-once w (c ∷ cs) s [] us h k = absurd h
inner-once w (c ∷ cs) s (t ∷ ts) [] h k = absurd k
inner-once w (c ∷ cs) s (t ∷ ts) (u ∷ us) h k =
    let here : t ≡ u = h.0 ∙ sym k.0 in
    let later : ts ≡ us = inner-once w cs (left_by w c s) ts us h.2 k.2 in
    cc

-- needs that hold don't fail
inner-holds_or_fails : (w : Sight) (why : Fault) (cs : List Command) (s : State) (ts us : List State) → AreInner w cs s ts →
    InnerFail w why cs s us → ⊥
inner-holds_or_fails w why [] s ts us h k = k
inner-holds_or_fails w why (c ∷ cs) s [] us h k = h
inner-holds_or_fails w why (c ∷ cs) s (t ∷ ts) [] h k = k
inner-holds_or_fails w why (c ∷ cs) s (t ∷ ts) (u ∷ []) h k = true≢false (sym h.1 ∙ unmet-some c s why k.1)
inner-holds_or_fails w why (c ∷ cs) s (t ∷ ts) (u ∷ v ∷ us) h k =
    inner-holds_or_fails w why cs (left_by w c s) ts (v ∷ us) h.2 k.2

-- the fault and the states of a list's first need that fails
abbrev pub Same : {A : Type 0} → (why other : Fault) → (a b : A) → Type 0
Same why other a b = (why ≡ other) × (a ≡ b)

inner-fails-once : (w : Sight) (why other : Fault) (cs : List Command) (s : State) (ts us : List State) → InnerFail w why cs s ts →
    InnerFail w other cs s us → Same why other ts us
inner-fails-once w why other [] s ts us h k = absurd h
inner-fails-once w why other (c ∷ cs) s [] us h k = absurd h
inner-fails-once w why other (c ∷ cs) s (t ∷ []) [] h k = absurd k
inner-fails-once w why other (c ∷ cs) s (t ∷ v ∷ ts) [] h k = absurd k
inner-fails-once w why other (c ∷ cs) s (t ∷ []) (u ∷ []) h k =
    let here : t ≡ u = h.0 ∙ sym k.0 in
    let faults : Some why ≡ Some other = sym h.1 ∙ k.1 in
    (cc, cc)
inner-fails-once w why other (c ∷ cs) s (t ∷ []) (u ∷ z ∷ us) h k = absurd (true≢false (sym k.1 ∙ unmet-some c s why h.1))
inner-fails-once w why other (c ∷ cs) s (t ∷ v ∷ ts) (u ∷ []) h k = absurd (true≢false (sym h.1 ∙ unmet-some c s other k.1))
inner-fails-once w why other (c ∷ cs) s (t ∷ v ∷ ts) (u ∷ z ∷ us) h k =
    let here : t ≡ u = h.0 ∙ sym k.0 in
    let later = inner-fails-once w why other cs (left_by w c s) (v ∷ ts) (z ∷ us) h.2 k.2 in
    let states : v ∷ ts ≡ z ∷ us = later.1 in
    (later.0, cc)

-- ONE COMMAND

known-once : (w : Sight) (global : Bool) (x : Step) (s : State) (l m : Option Looped) → IsKnownOfList w global x s l →
    IsKnownOfList w global x s m → l ≡ m
known-once w false x s None None h k = refl
known-once w false x s None (Some m) h k = absurd k
known-once w false x s (Some l) m h k = absurd h
known-once w true x s None m h k = absurd h
known-once w true x s (Some l) None h k = absurd k
known-once w true x s (Some l) (Some m) h k =
    let invariant : l.invariant ≡ m.invariant = settled-once w x (left_by w x.command s) l.invariant m.invariant h.0 k.0 in
    let inner : l.inner ≡ m.inner =
    inner-once w x.list (entry_of w x l.invariant) l.inner m.inner h.1
    (subst (λ (u : State). AreInner w x.list (entry_of w x u) m.inner) (sym invariant) k.1) in
    ap (λ (n : Looped). Some n) (looped-by l m invariant inner)

note-once : (w : Sight) (x : Step) (s : State) (n m : Note) → IsNote w x s n → IsNote w x s m → n ≡ m
note-once w x s n m h k =
    note-by n m (h.state ∙ sym k.state) (known-once w (is_global x.command.verb) x s n.looped m.looped h.list k.list)

list-holds_or_fails : (w : Sight) (inner : ℕ) (why : Fault) (x : Step) (s : State) (l m : Looped) →
    IsKnownOfList w true x s (Some l) → ListFails w inner why x s m → ⊥
list-holds_or_fails w inner why x s l m h k =
    let invariant : l.invariant ≡ m.invariant = settled-once w x (left_by w x.command s) l.invariant m.invariant h.0 k.settled in
    inner-holds_or_fails w why x.list (entry_of w x l.invariant) l.inner m.inner h.1
    (subst (λ (u : State). InnerFail w why x.list (entry_of w x u) m.inner) (sym invariant) k.states)

holds_or_fails-if : (w : Sight) (global : Bool) (inner : Option ℕ) (why : Fault) (x : Step) (s : State) (l m : Option Looped) →
    global ≡ is_global x.command.verb → are_met x.command s ≡ true → IsKnownOfList w global x s l →
    NeedFails w inner why x s m → ⊥
holds_or_fails-if w global None why x s l None e met h k = true≢false (sym met ∙ unmet-some x.command s why k)
holds_or_fails-if w global None why x s l (Some m) e met h k = k
holds_or_fails-if w global (Some inner) why x s l None e met h k = k
holds_or_fails-if w false (Some inner) why x s l (Some m) e met h k = true≢false (sym k.global ∙ sym e)
holds_or_fails-if w true (Some inner) why x s None (Some m) e met h k = h
holds_or_fails-if w true (Some inner) why x s (Some l) (Some m) e met h k = list-holds_or_fails w inner why x s l m h k

note-holds_or_fails : (w : Sight) (inner : Option ℕ) (why : Fault) (x : Step) (s : State) (n : Note) (m : Option Looped) →
    IsNote w x s n → NeedFails w inner why x s m → ⊥
note-holds_or_fails w inner why x s n m h k = holds_or_fails-if w (is_global x.command.verb) inner why x s n.looped m refl h.met h.list k

-- the place in a list, the fault and what is known of a list
pub record SameEnd {A : Type 0} (one other : Option ℕ) (fault another : Fault) (a b : A) : Type 0 where
  pub inner : one ≡ other
  pub why : fault ≡ another
  pub known : a ≡ b

need-once : (w : Sight) (inner place : Option ℕ) (why other : Fault) (x : Step) (s : State) (l m : Option Looped) →
    NeedFails w inner why x s l → NeedFails w place other x s m → SameEnd inner place why other l m
need-once w None None why other x s None None h k = let faults : Some why ≡ Some other = sym h ∙ k in
    record { inner = refl; why = cc; known = refl }
need-once w None None why other x s None (Some m) h k = absurd k
need-once w None None why other x s (Some l) m h k = absurd h
need-once w None (Some place) why other x s None None h k = absurd k
need-once w None (Some place) why other x s None (Some m) h k = absurd (true≢false (sym k.met ∙ unmet-some x.command s why h))
need-once w None (Some place) why other x s (Some l) m h k = absurd h
need-once w (Some inner) None why other x s None m h k = absurd h
need-once w (Some inner) None why other x s (Some l) None h k = absurd (true≢false (sym h.met ∙ unmet-some x.command s other k))
need-once w (Some inner) None why other x s (Some l) (Some m) h k = absurd k
need-once w (Some inner) (Some place) why other x s None m h k = absurd h
need-once w (Some inner) (Some place) why other x s (Some l) None h k = absurd k
need-once w (Some inner) (Some place) why other x s (Some l) (Some m) h k =
    let invariant : l.invariant ≡ m.invariant = settled-once w x (left_by w x.command s) l.invariant m.invariant h.settled k.settled in
    let same = inner-fails-once w why other x.list (entry_of w x l.invariant) l.inner m.inner h.states
    (subst (λ (u : State). InnerFail w other x.list (entry_of w x u) m.inner) (sym invariant) k.states) in
    let states : l.inner ≡ m.inner = same.1 in
    let number : inner ≡ place = h.number ∙ ap (λ (ts : List State). length ts) states ∙ sym k.number in
    record { inner = ap (λ (n : ℕ). Some n) number; why = same.0; known = ap (λ (n : Looped). Some n) (looped-by l m invariant states) }

-- COMMANDS ONE AFTER ANOTHER

pub notes-once : (w : Sight) (xs : List Step) (s : State) (ns ms : List Note) → AreNotes w xs s ns → AreNotes w xs s ms → ns ≡ ms
notes-once w [] s [] [] h k = refl
notes-once w [] s [] (m ∷ ms) h k = absurd k
notes-once w [] s (n ∷ ns) ms h k = absurd h
notes-once w (x ∷ xs) s [] ms h k = absurd h
notes-once w (x ∷ xs) s (n ∷ ns) [] h k = absurd k
notes-once w (x ∷ xs) s (n ∷ ns) (m ∷ ms) h k =
    let here : n ≡ m = note-once w x s n m h.0 k.0 in
    let later : ns ≡ ms =
    notes-once w xs (left_after w n.looped x s) ns ms h.1
    (subst (λ (u : State). AreNotes w xs u ms) (sym (ap (λ (o : Note). left_after w o.looped x s) here)) k.1) in
    cc

pub notes-hold_or_fail : (w : Sight) (inner : Option ℕ) (why : Fault) (xs : List Step) (s : State) (ns ms : List Note) →
    AreNotes w xs s ns → NotesFail w inner why xs s ms → ⊥
notes-hold_or_fail w inner why [] s ns ms h k = k
notes-hold_or_fail w inner why (x ∷ xs) s [] ms h k = h
notes-hold_or_fail w inner why (x ∷ xs) s (n ∷ ns) [] h k = k
notes-hold_or_fail w inner why (x ∷ xs) s (n ∷ ns) (m ∷ []) h k = note-holds_or_fails w inner why x s n m.looped h.0 k.1
notes-hold_or_fail w inner why (x ∷ xs) s (n ∷ ns) (m ∷ o ∷ ms) h k =
    let here : n ≡ m = note-once w x s n m h.0 k.0 in
    notes-hold_or_fail w inner why xs (left_after w n.looped x s) ns (o ∷ ms) h.1
    (subst (λ (u : State). NotesFail w inner why xs u (o ∷ ms)) (sym (ap (λ (p : Note). left_after w p.looped x s) here)) k.1)

pub notes-fail-once : (w : Sight) (inner place : Option ℕ) (why other : Fault) (xs : List Step) (s : State) (ns ms : List Note) →
    NotesFail w inner why xs s ns → NotesFail w place other xs s ms → SameEnd inner place why other ns ms
notes-fail-once w inner place why other [] s ns ms h k = absurd h
notes-fail-once w inner place why other (x ∷ xs) s [] ms h k = absurd h
notes-fail-once w inner place why other (x ∷ xs) s (n ∷ []) [] h k = absurd k
notes-fail-once w inner place why other (x ∷ xs) s (n ∷ o ∷ ns) [] h k = absurd k
notes-fail-once w inner place why other (x ∷ xs) s (n ∷ []) (m ∷ []) h k =
    let same = need-once w inner place why other x s n.looped m.looped h.1 k.1 in
    let note : n ≡ m = note-by n m (h.0 ∙ sym k.0) same.known in
    record { inner = same.inner; why = same.why; known = cc }
notes-fail-once w inner place why other (x ∷ xs) s (n ∷ []) (m ∷ p ∷ ms) h k =
    absurd (note-holds_or_fails w inner why x s m n.looped k.0 h.1)
notes-fail-once w inner place why other (x ∷ xs) s (n ∷ o ∷ ns) (m ∷ []) h k =
    absurd (note-holds_or_fails w place other x s n m.looped h.0 k.1)
notes-fail-once w inner place why other (x ∷ xs) s (n ∷ o ∷ ns) (m ∷ p ∷ ms) h k =
    let here : n ≡ m = note-once w x s n m h.0 k.0 in
    let same = notes-fail-once w inner place why other xs (left_after w n.looped x s) (o ∷ ns) (p ∷ ms) h.1
    (subst (λ (u : State). NotesFail w place other xs u (p ∷ ms)) (sym (ap (λ (q : Note). left_after w q.looped x s) here)) k.1) in
    let later : o ∷ ns ≡ p ∷ ms = same.known in
    record { inner = same.inner; why = same.why; known = cc }

-- ANSWERS

same-place : (one other : Place) → one.command ≡ other.command → one.inner ≡ other.inner → one ≡ other
same-place one other e f = ap (λ (n : ℕ). let p : Place = record { command = n; inner = one.inner } in p) e
    ∙ ap (λ (i : Option ℕ). let p : Place = record { command = other.command; inner = i } in p) f

pub either-comes : (script : Script) (start : Start) (c : Certificate) (place : Place) (why : Fault) (notes : List Note) →
    IsCertificate script start c → IsFailure script start place why notes → ⊥
either-comes script start c place why notes h (inl fails) =
    notes-hold_or_fail (sight_over script start) place.inner why (counted script.steps) (begun script start) c.notes notes h.notes fails.fails
either-comes script start c place why notes h (inr fails) =
    let w : Sight = sight_over script start in
    let same : c.notes ≡ notes = notes-once w (counted script.steps) (begun script start) c.notes notes h.notes fails.noted in
    let last : c.last ≡ result_from w (counted script.steps) (begun script start) notes = h.last
    ∙ ap (λ (ns : List Note). result_from w (counted script.steps) (begun script start) ns) same in
    let none : end_fault (has_quit script.steps) script.fault (result_from w (counted script.steps) (begun script start) notes) ≡ None =
    subst (λ (s : State). end_fault (has_quit script.steps) script.fault s ≡ None) last h.end in
    let faults : None ≡ Some why = sym none ∙ fails.fails in
    absurd cc

pub certificate-once : (script : Script) (start : Start) (one other : Certificate) → IsCertificate script start one →
    IsCertificate script start other → one ≡ other
certificate-once script start one other h k =
    let w : Sight = sight_over script start in
    let xs : List Step = counted script.steps in
    let notes : one.notes ≡ other.notes = notes-once w xs (begun script start) one.notes other.notes h.notes k.notes in
    let last : one.last ≡ other.last = h.last ∙ ap (λ (ns : List Note). result_from w xs (begun script start) ns) notes ∙ sym k.last in
    let paths : paths_from xs one.notes ≡ paths_from xs other.notes = ap (λ (ns : List Note). paths_from xs ns) notes in
    let writes : one.writes ≡ other.writes =
    rising-once one.writes other.writes h.writes.rising k.writes.rising
    (λ p m. (k.writes.just p).1 (subst (λ (cs : List Choice). Contains cs (Some p)) paths ((h.writes.just p).0 m)))
    (λ p m. (h.writes.just p).1 (subst (λ (cs : List Choice). Contains cs (Some p)) (sym paths) ((k.writes.just p).0 m))) in
    certificate-by one other (h.version ∙ sym k.version) (h.path ∙ sym k.path) (h.min ∙ sym k.min) (h.max ∙ sym k.max)
    (h.has ∙ sym k.has) (h.landmarks ∙ sym k.landmarks) notes last
    (h.low ∙ ap (λ (s : State). low_of (least s.zone 2 0)) last ∙ sym k.low)
    (h.high ∙ ap (λ (s : State). high_of (greatest s.zone 2 0)) last ∙ sym k.high) writes

pub failure-once : (script : Script) (start : Start) (place other_place : Place) (why other_why : Fault) (notes other_notes : List Note) →
    IsFailure script start place why notes → IsFailure script start other_place other_why other_notes →
    (place ≡ other_place) × (why ≡ other_why) × (notes ≡ other_notes)
failure-once script start place other_place why other_why notes other_notes (inl h) (inl k) =
    let same = notes-fail-once (sight_over script start) place.inner other_place.inner why other_why (counted script.steps) (begun script start)
    notes other_notes h.fails k.fails in
    let number : place.command ≡ other_place.command = h.number ∙ ap (λ (ns : List Note). length ns) same.known ∙ sym k.number in
    (same-place place other_place number same.inner, same.why, same.known)
failure-once script start place other_place why other_why notes other_notes (inl h) (inr k) =
    absurd (notes-hold_or_fail (sight_over script start) place.inner why (counted script.steps) (begun script start) other_notes notes k.noted
    h.fails)
failure-once script start place other_place why other_why notes other_notes (inr h) (inl k) =
    absurd (notes-hold_or_fail (sight_over script start) other_place.inner other_why (counted script.steps) (begun script start) notes other_notes
    h.noted k.fails)
failure-once script start place other_place why other_why notes other_notes (inr h) (inr k) =
    let w : Sight = sight_over script start in
    let same : notes ≡ other_notes = notes-once w (counted script.steps) (begun script start) notes other_notes h.noted k.noted in
    let places : place ≡ other_place = h.at_end
    ∙ ap (λ (ns : List Note). let p : Place = record { command = length ns + 1; inner = None } in p) same ∙ sym k.at_end in
    let faults : Some why ≡ Some other_why = sym h.fails
    ∙ ap (λ (ns : List Note). end_fault (has_quit script.steps) script.fault (result_from w (counted script.steps) (begun script start) ns))
    same ∙ k.fails in
    (places, cc, same)
