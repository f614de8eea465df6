-- The order of places, and what gets past one of them.
use Rattle.std.proofs.Common.{◌≡◌, ◌+◌, ◌^◌, ◌<◌, ◌≤◌, ◌↔◌, refl, ℕ, Bool, true, false, IsTrue, List, Option, Some, None, inl, inr, arith, subst, sym}
use Rattle.std.proofs.Math.Nat.{eq-or-lt_of_le}
use Rattle.std.specs.Option.{unwrap_or}
use Rattle.std.specs.declared.alloc.AllocError.{AllocError}
use Rattle.std.specs.Prelude.{Result, Ok, Err, IfOk}
use Rattle.ed_base.specs.declared.fault.Fault.{Fault}
use Rattle.ed_syntax.specs.Commands.{Script}
use Rattle.ed_syntax.specs.reading.Reading.{script_of}
use Rattle.cert_check.specs.declared.checker.verdict.Place.{Place}
use Rattle.cert_check.specs.Certificates.{Note, Certificate}
use Rattle.analyser.specs.declared.analysis.Start.{Start}
use Rattle.analyser.specs.Analysis.{IsCertificate, IsFailure}
use Rattle.hints.specs.Passing.{IsVouched, IsLaterInside, IsAfter, GetsPast, GetsPastWhole, vouched, later}
use Rattle.hints.specs.Sought.{GetsPastAll}

-- what the law of answers says
pub record Laws : Type 0 where
  pub either : (script : Script) (start : Start) (c : Certificate) (place : Place) (why : Fault) (notes : List Note) →
      IsCertificate script start c → IsFailure script start place why notes → ⊥
  pub failure : (script : Script) (start : Start) (place other_place : Place) (why other_why : Fault) (notes other_notes : List Note) →
      IsFailure script start place why notes → IsFailure script start other_place other_why other_notes →
      (place ≡ other_place) × (why ≡ other_why) × (notes ≡ other_notes)

-- where a need fails at a place, a script gets past no place that doesn't come before it
after-of : Laws → (script : Script) (start : Start) (place next : Place) (why : Fault) (notes : List Note) →
    IsFailure script start next why notes → GetsPast script start place → IsAfter next place
after-of laws script start place next why notes fails (vouched (c, is)) = absurd (laws.either script start c next why notes is fails)
after-of laws script start place next why notes fails (later other other_why other_notes other_fails after) =
    subst (λ (p : Place). IsAfter p place) (laws.failure script start other next other_why why other_notes notes other_fails fails).0 after

-- so the place where a need fails decides
pub past-decided : Laws → (script : Script) (start : Start) (place next : Place) (why : Fault) (notes : List Note) (past : Bool) →
    IsFailure script start next why notes → IsTrue past ↔ IsAfter next place → IsTrue past ↔ GetsPast script start place
past-decided laws script start place next why notes past fails is =
    (λ t. later next why notes fails (is.0 t), λ g. is.1 (after-of laws script start place next why notes fails g))

-- a place inside that comes after the greatest one comes after each
inside-back : (next inner : Option ℕ) (most last n : ℕ) → last ≡ unwrap_or inner most → n ≤ most → IsLaterInside next (Some last) →
    IsLaterInside next (Some (unwrap_or inner n))
inside-back None inner most last n is le after = absurd after
inside-back (Some next) None most last n is le after = omega (arith, is, le, after)
inside-back (Some next) (Some inner) most last n is le after = subst (λ m. m < next) is after

-- what comes after the last place of a command comes after each one there
after-back : (next place last : Place) (most inner n : ℕ) → place.command ≤ last.command → last.inner ≡ Some inner → inner ≡ unwrap_or place.inner most → n ≤ most →
    IsAfter next last → IsAfter next (record { command = place.command; inner = Some (unwrap_or place.inner n) })
after-back next place last most inner n le some is low (inl lt) = inl (omega (arith, le, lt))
after-back next place last most inner n le some is low (inr (same, inside)) =
    elim (eq-or-lt_of_le le) [
      | inr lt ↦ inl (omega (arith, lt, same))
      | inl eq ↦
          inr (omega (arith, eq, same), inside-back next.inner place.inner most inner n is low (subst (λ (o : Option ℕ). IsLaterInside next.inner o) some inside))
    ]

-- a script that gets past the last place of a command gets past all of it
past-back : (script : Script) (start : Start) (place last : Place) (most inner : ℕ) → place.command ≤ last.command → last.inner ≡ Some inner →
    inner ≡ unwrap_or place.inner most → most + 1 ≡ 2 ^ 64 → GetsPast script start last → GetsPastWhole script start place
past-back script start place last most inner le some is all (vouched v) = λ n low. vouched v
past-back script start place last most inner le some is all (later next why notes fails after) =
    λ n low. later next why notes fails (after-back next place last most inner n le some is (omega (arith, low, all)) after)

-- the same of an answer
pub all-back : (script : Script) (start : Start) (place last : Place) (most inner : ℕ) (r : Result Bool AllocError) → place.command ≤ last.command →
    last.inner ≡ Some inner → inner ≡ unwrap_or place.inner most → most + 1 ≡ 2 ^ 64 → IfOk r (λ b. IsTrue b ↔ GetsPast script start last) →
    IfOk r (λ b. b ≡ true → GetsPastWhole script start place)
all-back script start place last most inner (Ok true) le some is all past = λ e. past-back script start place last most inner le some is all (past.0 refl)
all-back script start place last most inner (Ok false) le some is all past = λ e. cc
all-back script start place last most inner (Err e) le some is all past = tt

-- a script that gets past all of a command gets past any place there
pub all-past : (script : Script) (start : Start) (place : Place) (command most inner count : ℕ) (r : Result Bool AllocError) → (count ≡ 1 → command ≡ place.command) →
    inner ≡ unwrap_or place.inner most → IfOk r (λ b. IsTrue b ↔ GetsPast script start (record { command = command; inner = Some inner })) →
    IfOk r (λ b. count ≡ 1 → GetsPastAll script start place → b ≡ true)
all-past script start place command most inner count (Ok b) same is past =
    λ none all. past.1 (
    subst (λ (i : ℕ). GetsPast script start (record { command = command; inner = Some i })) (sym is)
    (subst (λ (n : ℕ). GetsPast script start (record { command = n; inner = Some (unwrap_or place.inner most) })) (sym (same none)) (all most))
    )
all-past script start place command most inner count (Err e) same is past = tt

-- so it doesn't get past all of the command where it doesn't get past such a place, also by another name of the script
pub not-past : (start : Start) (place : Place) (given : Option (List ℕ)) (own read script : List ℕ) (count : ℕ) (past : Bool) → given ≡ Some own → given ≡ Some script →
    read ≡ own → past ≡ false → (count ≡ 1 → GetsPastAll (script_of read) start place → past ≡ true) → count ≡ 1 → GetsPastAll (script_of script) start place → ⊥
not-past start place given own read script count past is also reads refused is-past none all =
    let same : script ≡ read = cc in
    let passed : past ≡ true = is-past none (subst (λ (s : List ℕ). GetsPastAll (script_of s) start place) same all) in
    absurd cc

-- where a need fails, a script isn't vouched for
pub not-vouched : Laws → (script : Script) (start : Start) (place : Place) (why : Fault) (notes : List Note) → IsFailure script start place why notes →
    IsTrue false ↔ IsVouched script start
not-vouched laws script start place why notes fails = (λ e. cc, λ v. absurd (laws.either script start v.0 place why notes v.1 fails))

-- a script is vouched for by whatever names it and its start have
pub vouched-as : (script other : Script) (start bounded : Start) (c : Certificate) → script ≡ other → start ≡ bounded → IsCertificate script start c → IsVouched other bounded
vouched-as script other start bounded c same also is =
    (c, subst (λ (s : Start). IsCertificate other s c) also (subst (λ (s : Script). IsCertificate s start c) same is))
