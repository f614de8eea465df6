-- The rules of exact commands one after another: what a certificate or a failure says of them.
use Rattle.std.proofs.Common.{◌≡◌, inl, inr, ℕ, zero, suc, Bool, true, false, ◌&&◌, ◌||◌, List, [], ◌∷◌, length, Option, None, Some, Result, Ok, Err, refl, sym, ap, ◌∙◌, subst, cond, arith}
use Rattle.std.proofs.lemmas.Bool.{and_parts}
use Rattle.ed_base.specs.declared.fault.Fault.{Fault}
use Rattle.ed_base.specs.declared.fault.Fault.TheVariants as fault
use Rattle.ed_syntax.specs.Commands as ed
use Rattle.ed_syntax.specs.Commands.{Verb, Command, Step, Script}
use Rattle.ed_syntax.specs.meaning.Values.{◌>>◌}
use Rattle.ed_rules.specs.declared.state.State.{State}
use Rattle.ed_rules.specs.Rules.{step, fault_of}
use Rattle.ed_rules.specs.Exact.{are_by_number, is_exact_verb, is_exact, are_exact}
use Rattle.ed_syntax.specs.spelling.Readable.{is_readable}
use Rattle.ed_syntax.specs.meaning.Verbs.{is_global, ends_run}
use Rattle.cert_check.specs.declared.sight.Sight.{Sight}
use Rattle.cert_check.specs.declared.checker.verdict.Place.{Place}
use Rattle.cert_check.specs.Certificates.{Looped, Note, Certificate}
use Rattle.cert_check.specs.checker.Valid.{counted, has_quit, told, left_by, left_after}
use Rattle.cert_check.proofs.verdicts.Checks.{NeedsAreTheSame, plainly_left, met-gives}
use Rattle.analyser.specs.declared.analysis.Start.{Start}
use Rattle.analyser.specs.Following.{IsKnownOfList, IsNote, NeedFails, AreNotes, NotesFail, result_from, sight_over, end_fault, begun}
use Rattle.analyser.specs.Analysis.{IsCertificate, IsFailure}

-- the end of a script that doesn't quit
abbrev pub ended : (bad : Option ℕ) → State → Result State Fault
ended (Some line) s = Err fault.Syntax
ended None s = elim s.changed.yes [ true ↦ Err fault.Unsaved | false ↦ Ok s ]

-- how the walk ends in a last state, by whether a step quits
abbrev closes : (quit : Bool) → (bad : Option ℕ) → State → Result State Fault
closes quit bad s = elim quit [ true ↦ Ok s | false ↦ ended bad s ]

-- the rules of commands without lists, up to the end; of each result as much comes in at the next one as is told
abbrev pub walked : Sight → List Step → (bad : Option ℕ) → State → Result State Fault
walked w [] bad s = ended bad s
walked w (x ∷ xs) bad s = step w.watch x.command s >> λ t. elim (ends_run x.command.verb) [ true ↦ Ok (told w t) | false ↦ walked w xs bad (told w t) ]

-- what comes after a step: the end where it quits, else the steps that are left
abbrev pub goes_on : Sight → (quit : Bool) → List Step → (bad : Option ℕ) → State → Result State Fault
goes_on w quit xs bad s = elim quit [ true ↦ Ok s | false ↦ walked w xs bad s ]

not-global : (verb : Verb) → is_exact_verb verb ≡ true → is_global verb ≡ false
not-global (ed.Global sense pattern) h = absurd cc
not-global _ h = refl

pub exact-verb : (c : Command) → is_exact c ≡ true → is_exact_verb c.verb ≡ true
exact-verb c h =
    let both = and_parts (are_by_number c.addresses && is_exact_verb c.verb) (is_readable c) h in
    (and_parts (are_by_number c.addresses) (is_exact_verb c.verb) both.0).1

no-list : (w : Sight) (x : Step) (s : State) (l : Option Looped) → is_global x.command.verb ≡ false → IsKnownOfList w (is_global x.command.verb) x s l →
    l ≡ None
no-list w x s None g h = refl
no-list w x s (Some l) g h = absurd (let P : Bool → Type 0 = λ (b : Bool). IsKnownOfList w b x s (Some l) in subst P g h)

note-leaves : NeedsAreTheSame → (w : Sight) (x : Step) (s : State) (n : Note) → is_exact x.command ≡ true → IsNote w x s n →
    (step w.watch x.command s ≡ Ok (plainly_left w x.command s)) × (told w (plainly_left w x.command s) ≡ left_after w n.looped x s)
unfolding left_by
note-leaves same w x s n e h =
    let none : n.looped ≡ None = no-list w x s n.looped (not-global x.command.verb (exact-verb x.command e)) h.list in
    (met-gives same w x.command s h.met, ap (λ (l : Option Looped). left_after w l x s) (sym none))

-- THE END

ended-none : (bad : Option ℕ) (s : State) → end_fault false bad s ≡ None → ended bad s ≡ Ok s
ended-none (Some line) s h = absurd cc
ended-none None s h =
    (elim s.changed.yes as (λ b. cond b (Some fault.Unsaved) None ≡ None →
    (elim b as (λ _. Result State Fault) [ true ↦ Err fault.Unsaved | false ↦ Ok s ]) ≡ Ok s) [
      | true ↦ λ e. absurd cc
      | false ↦ λ e. refl
    ]) h

fault-is : (f why : Fault) → Some f ≡ Some why → ◌≡◌ {A = Result State Fault} (Err f) (Err why)
fault-is f why h = ap (λ (g : Fault). Err g) (let i : f ≡ why = cc in i)

ended-some : (bad : Option ℕ) (s : State) (why : Fault) → end_fault false bad s ≡ Some why → ended bad s ≡ Err why
ended-some (Some line) s why h = fault-is fault.Syntax why h
ended-some None s why h =
    (elim s.changed.yes as (λ b. cond b (Some fault.Unsaved) None ≡ Some why →
    (elim b as (λ _. Result State Fault) [ true ↦ Err fault.Unsaved | false ↦ Ok s ]) ≡ Err why) [
      | true ↦ λ e. fault-is fault.Unsaved why e
      | false ↦ λ e. absurd cc
    ]) h

-- one step of the walk
walked-step : (w : Sight) (x : Step) (xs : List Step) (bad : Option ℕ) (s t : State) → step w.watch x.command s ≡ Ok t →
    walked w (x ∷ xs) bad s ≡ goes_on w (ends_run x.command.verb) xs bad (told w t)
walked-step w x xs bad s t is =
    ap (λ (r : Result State Fault). r >> λ u. goes_on w (ends_run x.command.verb) xs bad (told w u)) is

pub walked-fails : (w : Sight) (x : Step) (xs : List Step) (bad : Option ℕ) (s : State) (f : Fault) →
    step w.watch x.command s ≡ Err f →
    walked w (x ∷ xs) bad s ≡ Err f
walked-fails w x xs bad s f is =
    ap (λ (r : Result State Fault). r >> λ u. goes_on w (ends_run x.command.verb) xs bad (told w u)) is

pub exact-both : (x : Step) (xs : List Step) → are_exact (x ∷ xs) ≡ true → (is_exact x.command ≡ true) × (are_exact xs ≡ true)
exact-both x xs h = and_parts (is_exact x.command) (are_exact xs) h

-- the counted commands after a first one, by whether it quits
abbrev counted_by : Bool → List Step → List Step
counted_by quit xs = elim quit [ true ↦ [] | false ↦ counted xs ]

-- NOTES OF ALL COMMANDS

-- what an exact command that is noted leaves comes in at the next one
note-walked : NeedsAreTheSame → (w : Sight) (x : Step) (xs : List Step) (bad : Option ℕ) (s : State) (n : Note) → is_exact x.command ≡ true → IsNote w x s n →
    walked w (x ∷ xs) bad s ≡ goes_on w (ends_run x.command.verb) xs bad (left_after w n.looped x s)
note-walked same w x xs bad s n e h =
    let leaves = note-leaves same w x s n e h in
    walked-step w x xs bad s (plainly_left w x.command s) leaves.0 ∙ ap (λ (t : State). goes_on w (ends_run x.command.verb) xs bad t) leaves.1

noted-comes : NeedsAreTheSame → (w : Sight) (xs : List Step) (bad : Option ℕ) (s : State) (ns : List Note) → are_exact xs ≡ true → AreNotes w (counted xs) s ns →
    walked w xs bad s ≡ closes (has_quit xs) bad (result_from w (counted xs) s ns)
noted-comes same w [] bad s [] e h = refl
noted-comes same w [] bad s (n ∷ ns) e h = absurd h
noted-comes same w (x ∷ xs) bad s [] e h = absurd h
noted-comes same w (x ∷ xs) bad s (n ∷ ns) e h =
    let both = exact-both x xs e in
    let t : State = left_after w n.looped x s in
    note-walked same w x xs bad s n both.0 h.0
    ∙ (elim (ends_run x.command.verb) as (λ q. AreNotes w (counted_by q xs) t ns →
    goes_on w q xs bad t ≡ closes (q || has_quit xs) bad (result_from w (counted_by q xs) t ns)) [
      | true ↦ λ k. refl
      | false ↦ λ k. noted-comes same w xs bad t ns both.1 k
    ]) h.1

-- A CERTIFICATE

pub certified-walk : NeedsAreTheSame → (script : Script) (start : Start) (c : Certificate) → are_exact script.steps ≡ true → IsCertificate script start c →
    walked (sight_over script start) script.steps script.fault (begun script start) ≡ Ok c.last
certified-walk same script start c e h =
    noted-comes same (sight_over script start) script.steps script.fault (begun script start) c.notes e h.notes
    ∙ ap (λ (t : State). closes (has_quit script.steps) script.fault t)
    (sym h.last)
    ∙ (elim (has_quit script.steps) as (λ q. end_fault q script.fault c.last ≡ None →
    closes q script.fault c.last ≡ Ok c.last) [
      | true ↦ λ k. refl
      | false ↦ λ k. ended-none script.fault c.last k
    ]) h.end

-- A FAILURE

-- a step has no list, so the need is one of its own
need-fails : NeedsAreTheSame → (w : Sight) (inner : Option ℕ) (why : Fault) (x : Step) (s : State) (l : Option Looped) → is_exact x.command ≡ true →
    NeedFails w inner why x s l → (inner ≡ None) × (step w.watch x.command s ≡ Err why)
need-fails same w None why x s None e h = (refl, fails (step w.watch x.command s) (same w.watch [] x.command s ∙ h))
  where
    fails : (r : Result State Fault) → fault_of r ≡ Some why → r ≡ Err why
    fails (Ok t) h = absurd cc
    fails (Err f) h = fault-is f why h
need-fails same w None why x s (Some l) e h = absurd h
need-fails same w (Some inner) why x s None e h = absurd h
need-fails same w (Some inner) why x s (Some l) e h =
    let g : is_global x.command.verb ≡ false = not-global x.command.verb (exact-verb x.command e) in
    let k : is_global x.command.verb ≡ true = h.global in
    let bad : false ≡ true = sym g ∙ k in
    absurd cc

-- where the walk fails: so many steps go on, and the next one fails by this fault; or all do, and the end fails
abbrev pub Falls : Sight → List Step → (bad : Option ℕ) → State → (before : ℕ) → Fault → Type 0
Falls w [] bad s zero why = ended bad s ≡ Err why
Falls w [] bad s (suc n) why = ⊥
Falls w (x ∷ xs) bad s zero why = step w.watch x.command s ≡ Err why
Falls w (x ∷ xs) bad s (suc n) why =
    (t : State) × (ends_run x.command.verb ≡ false) × (step w.watch x.command s ≡ Ok t) × Falls w xs bad (told w t) n why

pub falls-walk : (w : Sight) (xs : List Step) (bad : Option ℕ) (s : State) (before : ℕ) (why : Fault) →
    Falls w xs bad s before why → walked w xs bad s ≡ Err why
falls-walk w [] bad s zero why h = h
falls-walk w [] bad s (suc n) why h = absurd h
falls-walk w (x ∷ xs) bad s zero why h = walked-fails w x xs bad s why h
falls-walk w (x ∷ xs) bad s (suc n) why (t, q, is, rest) =
    walked-step w x xs bad s t is ∙ ap (λ (b : Bool). goes_on w b xs bad (told w t)) q ∙ falls-walk w xs bad (told w t) n why rest

-- a step that is noted goes on, and so does what comes after it
note-falls : NeedsAreTheSame → (w : Sight) (x : Step) (xs : List Step) (bad : Option ℕ) (s : State) (n : Note) (before : ℕ)
    (why : Fault) →
    is_exact x.command ≡ true → IsNote w x s n → ends_run x.command.verb ≡ false → Falls w xs bad (left_after w n.looped x s) before why →
    Falls w (x ∷ xs) bad s (suc before) why
note-falls same w x xs bad s n before why e h q rest =
    let leaves = note-leaves same w x s n e h in
    (plainly_left w x.command s, q, leaves.0, subst (λ (t : State). Falls w xs bad t before why) (sym leaves.1) rest)

-- where a need of a step fails, by the notes
fails-falls : NeedsAreTheSame → (w : Sight) (inner : Option ℕ) (why : Fault) (xs : List Step) (bad : Option ℕ) (s : State) (ns : List Note) →
    are_exact xs ≡ true → NotesFail w inner why (counted xs) s ns →
    (before : ℕ) × (length ns ≡ suc before) × (inner ≡ None) × Falls w xs bad s before why
fails-falls same w inner why [] bad s ns e h = absurd h
fails-falls same w inner why (x ∷ xs) bad s [] e h = absurd h
fails-falls same w inner why (x ∷ xs) bad s (n ∷ []) e h =
    let fails = need-fails same w inner why x s n.looped (exact-both x xs e).0 h.1 in
    (zero, refl, fails.0, fails.1)
fails-falls same w inner why (x ∷ xs) bad s (n ∷ m ∷ ns) e h =
    let both = exact-both x xs e in
    let t : State = left_after w n.looped x s in
    (elim (ends_run x.command.verb) as (λ q. ends_run x.command.verb ≡ q → NotesFail w inner why (counted_by q xs) t (m ∷ ns) →
    (before : ℕ) × (suc (length (m ∷ ns)) ≡ suc before) × (inner ≡ None) × Falls w (x ∷ xs) bad s before why) [
      | true ↦ λ q k. absurd k
      | false ↦ λ q k.
          let rest = fails-falls same w inner why xs bad t (m ∷ ns) both.1 k in
          (suc rest.0, ap (λ (i : ℕ). suc i) rest.1, rest.2, note-falls same w x xs bad s n rest.0 why both.0 h.0 q rest.3)
    ]) refl h.1

-- where the end fails, by the notes
end-falls : NeedsAreTheSame → (w : Sight) (why : Fault) (xs : List Step) (bad : Option ℕ) (s : State) (ns : List Note) → are_exact xs ≡ true →
    AreNotes w (counted xs) s ns → end_fault (has_quit xs) bad (result_from w (counted xs) s ns) ≡ Some why →
    Falls w xs bad s (length ns) why
end-falls same w why [] bad s [] e h k = ended-some bad s why k
end-falls same w why [] bad s (n ∷ ns) e h k = absurd h
end-falls same w why (x ∷ xs) bad s [] e h k = absurd h
end-falls same w why (x ∷ xs) bad s (n ∷ ns) e h k =
    let both = exact-both x xs e in
    let t : State = left_after w n.looped x s in
    (elim (ends_run x.command.verb) as (λ q. ends_run x.command.verb ≡ q → AreNotes w (counted_by q xs) t ns →
    end_fault (q || has_quit xs) bad (result_from w (counted_by q xs) t ns) ≡ Some why → Falls w (x ∷ xs) bad s (suc (length ns)) why) [
      | true ↦ λ q i j. absurd cc
      | false ↦ λ q i j. note-falls same w x xs bad s n (length ns) why both.0 h.0 q (end-falls same w why xs bad t ns both.1 i j)
    ]) refl h.1 k

-- the place of a failure is where the walk fails
pub failed-walk : NeedsAreTheSame → (script : Script) (start : Start) (place : Place) (why : Fault) (notes : List Note) → are_exact script.steps ≡ true →
    IsFailure script start place why notes →
    (before : ℕ) × (place ≡ record { command = suc before; inner = None })
    × Falls (sight_over script start) script.steps script.fault (begun script start) before why
failed-walk same script start place why notes e (inl h) =
    let falls = fails-falls same (sight_over script start) place.inner why script.steps script.fault (begun script start) notes e h.fails in (
      falls.0,
      ap (λ (n : ℕ). record { command = n; inner = place.inner }) (h.number ∙ falls.1)
          ∙ ap (λ (i : Option ℕ). record { command = suc falls.0; inner = i }) falls.2,
      falls.3,
    )
failed-walk same script start place why notes e (inr h) = (
  length notes,
  h.at_end ∙ ap (λ (n : ℕ). record { command = n; inner = None }) (omega arith),
  end-falls same (sight_over script start) why script.steps script.fault (begun script start) notes e h.noted h.fails,
)
