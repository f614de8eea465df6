-- Runs of exact scripts over a file of three lines, so that what is said of such runs isn't said of none. `1d`, `w` and `q` leave two
-- lines, so no answer foretells that run but a certificate of two lines. `1d`, `9d` and `w` fail at the second command, and `1d` alone
-- fails at its end.
use Rattle.std.proofs.Common.{◌≡◌, ◌⊎◌, inl, inr, ◌≤◌, ℕ, zero, suc, List, [], ◌∷◌, None, Some, Ok, Err, codes, refl, sym, ap, subst, arith, false}
use Rattle.std.specs.Prelude.{pred}
use Rattle.std.specs.List.{All}
use Rattle.std.proofs.lemmas.List.Elements.{All-nil, All-cons}
use Rattle.ed_base.specs.declared.fault.Fault.{Fault}
use Rattle.ed_base.specs.declared.fault.Fault.TheVariants as fault
use Rattle.ed_syntax.specs.declared.options.Options.{Options}
use Rattle.ed_syntax.specs.declared.options.Ending.{Ending}
use Rattle.ed_syntax.specs.declared.request.Answer.{Answer}
use Rattle.ed_syntax.specs.declared.request.Answer.TheVariants as answer
use Rattle.ed_syntax.specs.Commands as ed
use Rattle.ed_syntax.specs.Commands.{Without, One, Verb, Step, Script, alone, at_base}
use Rattle.ed_syntax.specs.meaning.Progress.{Ends, stop_of}
use Rattle.ed_syntax.specs.meaning.Runs.{run}
use Rattle.cert_check.specs.declared.certificate.Certificate.{Certificate}
use Rattle.cert_check.specs.declared.checker.verdict.Place.{Place}
use Rattle.analyser.specs.declared.analysis.Start.{Start}
use Rattle.analyser.specs.declared.analysis.Analysis.TheVariants.{Vouched, Cannot}
use Rattle.analyser.specs.Following.{do_count, chains_of_start}
use Rattle.analyser.specs.Analysis.{most_lines}
use Rattle.analyser.specs.Exactness.{up_to, IsExactRun, FailsAt, IsExactAnswer}

abbrev delete : (number : ℕ) → Step
delete number = alone (record { addresses = One (at_base (ed.Number number)); verb = ed.Delete; suffix = None; listed = false })

abbrev bare : Verb → Step
bare verb = alone (record { addresses = Without; verb = verb; suffix = None; listed = false })

abbrev script_of : List Step → Script
script_of steps = record { steps = steps; fault = None }

abbrev script : Script
script = script_of (delete 1 ∷ bare (ed.WriteFile None) ∷ bare ed.Quit ∷ [])

abbrev start : Start
start = record { path = Some (codes "F"); min = 3; max = Some 3; has = None; landmarks = None }

abbrev options : Options
options = record { silent = false; prompt = None; path = Some (codes "F") }

abbrev answers : List Answer
answers = answer.Bytes (codes "a\nb\nc\n") ∷ answer.Done ∷ answer.Done ∷ answer.Done ∷ []

abbrev IsDone : Answer → Type 0
IsDone a = a ≡ answer.Done

done-and : (more : List Answer) → All IsDone more → All IsDone (answer.Done ∷ more)
done-and more h = All-cons IsDone answer.Done more refl h

few-by : (n : ℕ) (e : Ending) → n ≤ most_lines → Ends (Ok (record { lines = n })) ≡ Ends (Ok e) → e.lines ≤ most_lines
few-by n e h is = let same : n ≡ e.lines = cc in omega arith

no_landmarks : chains_of_start script start ≡ []
unfolding do_count
no_landmarks = refl

pub exact_run : IsExactRun script start options answers
exact_run = record {
  exact = refl;
  path = refl;
  lines = refl;
  one = refl;
  unmarked = no_landmarks;
  done = done-and (answer.Done ∷ answer.Done ∷ []) (done-and (answer.Done ∷ []) (done-and [] (All-nil IsDone)));
  enough = omega arith;
  few = few;
}
  where
    few : (k : ℕ) (e : Ending) → stop_of (run (up_to k script) options answers) ≡ Ends (Ok e) → e.lines ≤ most_lines
    few zero e h = few-by 3 e (omega arith) h
    few (suc zero) e h = few-by 2 e (omega arith) h
    few (suc (suc zero)) e h = few-by 2 e (omega arith) h
    few (suc (suc (suc k))) e h = few-by 2 e (omega arith) h

-- it ends with two lines
pub exact_end : stop_of (run script options answers) ≡ Ends (Ok (record { lines = 2 }))
exact_end = refl

-- So an answer that doesn't vouch for the script foretells it not,
pub refusal_is_no_foretelling : (place : Place) (why : Fault) (notes : _) → IsExactAnswer script start (Cannot place why notes) → ⊥
refusal_is_no_foretelling place why notes h = h options answers exact_run

-- and a certificate that foretells it has just these two lines.
pub certificate_has_its_lines : (c : Certificate) → IsExactAnswer script start (Vouched c) → (c.low ≡ 2) × (c.high ≡ Some 2)
certificate_has_its_lines c h = h options answers exact_run

-- A FAULT, and its place

-- line 9 isn't there after `1d`
abbrev failing : Script
failing = script_of (delete 1 ∷ delete 9 ∷ bare (ed.WriteFile None) ∷ [])

pub failing_end : stop_of (run failing options answers) ≡ Ends (Err fault.Address)
failing_end = refl

pub second_fails : FailsAt failing options answers (record { command = 2; inner = None }) fault.Address
second_fails = record { before = 1; number = refl; left = record { lines = 2 }; well = refl; fails = inl refl }

-- a place has one number,
number-is : (n before : ℕ) → ◌≡◌ {A = Place} (record { command = suc n; inner = None }) (record { command = suc before; inner = None }) →
    before ≡ n
number-is n before h = sym (ap (λ (p : Place). pred p.command) h)

-- and a run one end
ends-apart : (e : Ending) (f : Fault) → Ends (Ok e) ≡ Ends (Err f) → ⊥
ends-apart e f h = cc

-- so no earlier place is foretold,
pub first_is_no_place : (why : Fault) → FailsAt failing options answers (record { command = 1; inner = None }) why → ⊥
first_is_no_place why h = by h.before (number-is 0 h.before h.number) h.fails
  where
    by : (n : ℕ) → n ≡ 0 → (stop_of (run (up_to (suc n) failing) options answers) ≡ Ends (Err why)) ⊎ (n ≡ 3) → ⊥
    by zero is (inl stops) = ends-apart (record { lines = 2 }) why stops
    by zero is (inr all) = absurd (omega arith)
    by (suc n) is fails = absurd (omega arith)

-- and no later one, the end neither
pub later_is_no_place : (n : ℕ) (why : Fault) →
    FailsAt failing options answers (record { command = suc (suc (suc n)); inner = None }) why → ⊥
later_is_no_place n why h =
    ends-apart h.left fault.Address (sym (subst (λ (i : ℕ). stop_of (run (up_to i failing) options answers) ≡ Ends (Ok h.left))
    (number-is (suc (suc n)) h.before h.number) h.well))

-- a change that isn't saved is met after all commands
abbrev unsaved : Script
unsaved = script_of (delete 1 ∷ [])

pub unsaved_end : stop_of (run unsaved options answers) ≡ Ends (Err fault.Unsaved)
unsaved_end = refl

pub end_fails : FailsAt unsaved options answers (record { command = 2; inner = None }) fault.Unsaved
end_fails = record { before = 1; number = refl; left = record { lines = 2 }; well = refl; fails = inr refl }
