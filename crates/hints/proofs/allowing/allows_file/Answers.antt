-- A file is allowed just where it has the landmarks too.
use Rattle.std.proofs.Common.{◌≡◌, ◌↔◌, ◌∙◌, ℕ, List, [], length, Bool, refl, sym, subst}
use Rattle.std.specs.Prelude.{IsTrue, unwrap_or}
use Rattle.std.proofs.lemmas.Result.{IfOk-weaker}
use Rattle.ed_base.specs.Lines.{lines_of}
use Rattle.ed_rules.specs.LineBounds.{IsWithin}
use Rattle.landmarks.specs.ChainValues.{ChainValue}
use Rattle.cert_check.specs.checker.Beginning.{landmarks_of}
use Rattle.cert_check.specs.checker.Opening.{Match}
use Rattle.cert_check.specs.checker.Sound.{HaveLandmarks}
use Rattle.analyser.specs.declared.analysis.Start.{Start}
use Rattle.analyser.specs.Following.{stated_of}
use Rattle.hints.specs.Allowing.{AllowsFile}
use Rattle.hints.proofs.allowing.allows_file.Goals as goal

all-of : (start : Start) (lines patterns : List (List ℕ)) (chains : List ChainValue) (is : Bool) → patterns ≡ stated_of start.has →
    chains ≡ unwrap_or start.landmarks [] → IsWithin start.min start.max (length lines) → Match patterns lines →
    (IsTrue is ↔ HaveLandmarks lines (landmarks_of chains)) → IsTrue is ↔ AllowsFile start lines
all-of start lines patterns chains is stated given within matched placed = (
  λ t. (
    record { within = within; matched = subst (λ (these : List (List ℕ)). Match these lines) stated matched },
    subst (λ (these : List ChainValue). HaveLandmarks lines (landmarks_of these)) given (placed.0 t),
  ),
  λ all. placed.1 (subst (λ (these : List ChainValue). HaveLandmarks lines (landmarks_of these)) (sym given) all.1),
)

pub returns : goal.returns
returns c =
    let within = c.if-not-has_size.ensures.exact.0 refl in
    let matched = sym c.in_ok-matches_each.ensures.value ∙ c.if-not-branch.false in
    record {
      exact = IfOk-weaker c.has_landmarks.result _ _ (λ is placed.
          all-of c.args.start.now (lines_of c.args.file.now) c.patterns_in.result.now c.chains_in.result.now is c.patterns_in.ensures.value
          c.chains_in.ensures.value within matched placed) c.has_landmarks.ensures.exact;
    }
