use Rattle.std.proofs.Common.{◌≡◌, ℕ, List, Some, None, length, refl, ◌∙◌, sym, subst, arith}
use Rattle.ed_base.specs.Lines.{lines_of}
use Rattle.landmarks.specs.declared.which.Which.{Which}
use Rattle.landmarks.specs.Places.{NoneMatches}
use Rattle.landmarks.specs.Misplaced.{IsNowhere, IsBeyond, IsWrong}
use Rattle.landmarks.proofs.Firsts.{if-none}
use Rattle.landmarks.proofs.places.sought.Goals as goal
use Rattle.landmarks.proofs.places.sought.Goals.{in-First+in_ok-found-in-First, in-Only+in_ok-found-in-Only, in-Numbered+else-number-last}

pub returns-then-number-last-clause-value : goal.returns-then-number-last-clause-value
returns-then-number-last-clause-value c =
    let lines = lines_of c.args.file.now in
    let number = c.in-Numbered.number in
    IsWrong.beyond number (subst (λ (w : Which). IsBeyond lines w number) (sym c.in-Numbered.is) (refl, omega (arith, c.requires.last, c.if-number-last.true)))

at_end : (lines : List (List ℕ)) (before last : ℕ) (text pattern : List ℕ) → last ≡ length lines → text ≡ pattern → NoneMatches lines before last text → NoneMatches lines before (length lines) pattern
at_end lines before last text pattern e same none =
    subst (λ (p : List ℕ). NoneMatches lines before (length lines) p) same (subst (λ (n : ℕ). NoneMatches lines before n text) e none)

pub returns-in-None-clause-value : goal.returns-in-None-clause-value
returns-in-None-clause-value c =
    let lines = lines_of c.args.file.now in
    elim c.match-landmark.branch [
      | in-First+in_ok-found-in-First w ↦ IsWrong.missing (subst (λ (w : Which). IsNowhere lines w c.args.before) (sym w.in-First.is)
          (at_end lines c.args.before c.args.last w.as_slice.result.now w.in-First.pattern c.requires.last w.as_slice.ensures.value
          (if-none _ _ _ (sym w.found-is ∙ c.in-None.is) w.in_ok-found-in-First.ensures.value)))
      | in-Only+in_ok-found-in-Only w ↦ IsWrong.missing (subst (λ (w : Which). IsNowhere lines w c.args.before) (sym w.in-Only.is)
          (at_end lines c.args.before c.args.last w.as_slice-in-Only.result.now w.in-Only.pattern c.requires.last w.as_slice-in-Only.ensures.value
          (if-none _ _ _ (sym w.found-is ∙ c.in-None.is) w.in_ok-found-in-Only.ensures.value)))
      | in-Numbered+else-number-last w ↦ absurd (clash (sym w.found-is ∙ c.in-None.is))
    ]
  where
    clash : {n : ℕ} → Some n ≡ None → ⊥
    clash e = cc
