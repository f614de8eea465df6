-- Hints that state patterns, where that helps.
use Rattle.std.proofs.Common.{◌≡◌, ◌⊎◌, ℕ, false, List, Option, Some, None, Result, Ok, Err, IfOk, IsSomeAnd, inl, inr, ap, subst, sym}
use Rattle.std.specs.Prelude.{MatchOption}
use Rattle.std.specs.Option.{is_some}
use Rattle.std.specs.List.{All, Any}
use Rattle.std.specs.declared.alloc.AllocError.{AllocError}
use Rattle.std.proofs.lemmas.List.Quantifiers.{Any-push}
use Rattle.ed_syntax.specs.reading.Reading.{script_of}
use Rattle.cert_check.specs.declared.checker.verdict.Place.{Place}
use Rattle.analyser.specs.declared.analysis.Start.{Start}
use Rattle.hints.specs.declared.hint.Hint.{Hint}
use Rattle.hints.specs.Passing.{MoreLinesHelp}
use Rattle.hints.specs.Sought.{IsTypable, GetsPastAll, stating}
use Rattle.hints.specs.Hints.{AsksForMore, States}
use Rattle.hints.proofs.Asking.{IsPushed}

over-start : (script : List ℕ) (opened : Start) (past : Option Hint) → IsSomeAnd past (λ h. (h.script ≡ script) × (h.start ≡ opened)) →
    IsSomeAnd past (λ h. (h.script ≡ script) × (h.start.has ≡ opened.has))
over-start script opened None is = absurd is
over-start script opened (Some h) is = (is.0, ap (λ (s : Start). s.has) is.1)

-- where more lines don't help, the script gets past the place as it is
pub past-as-it-is : (script : List ℕ) (opened : Start) (place : Place) (fewest past : Option Hint) → is_some fewest ≡ false →
    MatchOption fewest (MoreLinesHelp (script_of script) opened → ⊥) (AsksForMore script opened) →
    (GetsPastAll (script_of script) opened place → IsSomeAnd past (λ h. (h.script ≡ script) × (h.start ≡ opened))) →
    GetsPastAll (script_of script) opened place ⊎ MoreLinesHelp (script_of script) opened → IsSomeAnd past (λ h. (h.script ≡ script) × (h.start.has ≡ opened.has))
past-as-it-is script opened place (Some h) past none asks given helps = absurd cc
past-as-it-is script opened place None past none not given (inl all) = over-start script opened past (given all)
past-as-it-is script opened place None past none not given (inr more) = absurd (not more)

-- so nothing is left to look for where it doesn't
pub nothing-left : (P : Type 0) (Q : Hint → Type 0) (past : Option Hint) (r : Result (Option Hint) AllocError) → is_some past ≡ false → (P → IsSomeAnd past Q) →
    IfOk r (λ found. P → IsSomeAnd found Q)
nothing-left P Q (Some h) r none is = absurd cc
nothing-left P Q None (Ok found) none is = λ p. absurd (is p)
nothing-left P Q None (Err e) none is = tt

-- a hint that there is was put in
pub any-some : (P : Hint → Type 0) (xs ys : List Hint) (o : Option Hint) → IsPushed xs o ys → IsSomeAnd o P → Any P ys
any-some P xs ys None pushed is = absurd is
any-some P xs ys (Some x) pushed is = subst (Any P) (sym pushed) (Any-push P xs x is)

stated-over : (script : List ℕ) (start : Start) (patterns : List (List ℕ)) (found : Option Hint) →
    IsSomeAnd found (λ h. (h.script ≡ script) × (h.start.has ≡ (stating start patterns).has)) → IsSomeAnd found (States script start patterns)
stated-over script start patterns None is = absurd is
stated-over script start patterns (Some h) is = record { same = is.0; has = is.1 }

-- a hint over the start that states them too
pub stated-by : (script : List ℕ) (start opened : Start) (place : Place) (patterns : List (List ℕ)) (r : Result (Option Hint) AllocError) → opened ≡ stating start patterns →
    IfOk r (λ found. GetsPastAll (script_of script) opened place ⊎ MoreLinesHelp (script_of script) opened → IsSomeAnd found (λ h. (h.script ≡ script) × (h.start.has ≡ opened.has))) →
    IfOk r (λ found. All IsTypable patterns → GetsPastAll (script_of script) (stating start patterns) place ⊎ MoreLinesHelp (script_of script) (stating start patterns) →
    IsSomeAnd found (States script start patterns))
stated-by script start opened place patterns (Ok found) opens is =
    λ typable helps. stated-over script start patterns found (
    subst (λ (s : Start). GetsPastAll (script_of script) s place ⊎ MoreLinesHelp (script_of script) s →
    IsSomeAnd found (λ h. (h.script ≡ script) × (h.start.has ≡ s.has))) opens is helps
    )
stated-by script start opened place patterns (Err e) opens is = tt
