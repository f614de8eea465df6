-- The counted commands, one command further.
use Rattle.std.proofs.Common.{◌≡◌, ◌<◌, ◌≤◌, ℕ, zero, suc, ◌+◌, Bool, true, false, ◌||◌, List, [], ◌∷◌, length, get_or, drop, arith, refl, ◌∙◌, sym, ap}
use Rattle.std.proofs.lemmas.List.{drop_all, drop_more}
use Rattle.ed_syntax.specs.declared.command.Command.{Command}
use Rattle.ed_syntax.specs.Commands.{Step}
use Rattle.ed_syntax.specs.meaning.Verbs.{ends_run}
use Rattle.ed_syntax.specs.PublicTypes.{verb_value, step_value, steps_value}
use Rattle.cert_check.specs.checker.Valid.{has_quit, counted}

-- what is counted of a command and those after it
abbrev more_counted : Bool → List Step → List Step
more_counted ends later = elim ends as (λ _. List Step) [ true ↦ [] | false ↦ counted later ]

pub counted-bounded : (commands : List Command) → length (counted (steps_value commands)) ≤ length commands
counted-bounded [] = omega arith
counted-bounded (c ∷ cs) =
    let later = counted-bounded cs in
    elim (ends_run (verb_value c.verb)) as (λ b. length (step_value c ∷ more_counted b (steps_value cs)) ≤ length (c ∷ cs))
    [ true ↦ omega arith | false ↦ omega arith ]

pub counted-next : (commands : List Command) (i : ℕ) (d : Command) → i < length (counted (steps_value commands)) →
    drop i (counted (steps_value commands)) ≡ step_value (get_or commands i d) ∷ drop (suc i) (counted (steps_value commands))
counted-next [] i d h = absurd (omega arith)
counted-next (c ∷ cs) zero d h = refl
counted-next (c ∷ cs) (suc i) d h =
    (elim (ends_run (verb_value c.verb)) as (λ b. suc i < length (step_value c ∷ more_counted b (steps_value cs)) →
    drop i (more_counted b (steps_value cs)) ≡ step_value (get_or cs i d) ∷ drop (suc i) (more_counted b (steps_value cs))) [
      | true ↦ λ l. absurd (omega arith)
      | false ↦ λ l. counted-next cs i d (omega arith)
    ]) h

more-on : (ends : Bool) (x : Step) (xs : List Step) → ends ≡ false → length (x ∷ more_counted ends xs) ≡ 1 + length (counted xs)
more-on true x xs e = absurd cc
more-on false x xs e = omega arith

more-off : (ends : Bool) (x : Step) (xs : List Step) → ends ≡ true → length (x ∷ more_counted ends xs) ≡ 1
more-off true x xs e = refl
more-off false x xs e = absurd cc

or-on : (ends : Bool) (b : Bool) → ends ≡ false → ends || b ≡ b
or-on true b e = absurd cc
or-on false b e = refl

or-off : (ends : Bool) (b : Bool) → ends ≡ true → ends || b ≡ true
or-off true b e = refl
or-off false b e = absurd cc

on-length : (c : Command) (cs : List Command) → ends_run (verb_value c.verb) ≡ false →
    length (counted (steps_value (c ∷ cs))) ≡ 1 + length (counted (steps_value cs))
on-length c cs e = more-on (ends_run (verb_value c.verb)) (step_value c) (steps_value cs) e

off-length : (c : Command) (cs : List Command) → ends_run (verb_value c.verb) ≡ true → length (counted (steps_value (c ∷ cs))) ≡ 1
off-length c cs e = more-off (ends_run (verb_value c.verb)) (step_value c) (steps_value cs) e

on-quit : (c : Command) (cs : List Command) → ends_run (verb_value c.verb) ≡ false →
    has_quit (steps_value (c ∷ cs)) ≡ has_quit (steps_value cs)
on-quit c cs e = or-on (ends_run (verb_value c.verb)) (has_quit (steps_value cs)) e

off-quit : (c : Command) (cs : List Command) → ends_run (verb_value c.verb) ≡ true → has_quit (steps_value (c ∷ cs)) ≡ true
off-quit c cs e = or-off (ends_run (verb_value c.verb)) (has_quit (steps_value cs)) e

-- the number of the counted commands, and whether one ends the run, by what is known before a command
pub record CountedTo (commands : List Command) (i : ℕ) : Type 0 where
  pub number : length (counted (steps_value commands)) ≡ i + length (counted (steps_value (drop i commands)))
  pub quit : has_quit (steps_value commands) ≡ has_quit (steps_value (drop i commands))

-- from the element at a place on
pub at-place : {A : Type 0} (xs : List A) (i : ℕ) (x : A) → i < length xs → x ≡ get_or xs i x →
    drop i xs ≡ x ∷ drop (i + 1) xs
at-place {A} xs i x h is = drop_more xs i x h ∙ ap (λ (y : A). y ∷ drop (i + 1) xs) (sym is)

pub count-on : (commands : List Command) (i : ℕ) (d : Command) → i < length commands → d ≡ get_or commands i d →
    ends_run (verb_value d.verb) ≡ false → CountedTo commands i → CountedTo commands (i + 1)
count-on commands i d h is e before =
    let at = at-place commands i d h is in
    let number = ap (λ (l : List Command). length (counted (steps_value l))) at ∙ on-length d (drop (i + 1) commands) e in
    let was = before.number in
    record {
      number = omega arith;
      quit = before.quit ∙ ap (λ (l : List Command). has_quit (steps_value l)) at
          ∙ on-quit d (drop (i + 1) commands) e;
    }

-- a command that ends the run is the last that is counted
pub count-off : (commands : List Command) (i : ℕ) (d : Command) → i < length commands → d ≡ get_or commands i d →
    ends_run (verb_value d.verb) ≡ true → CountedTo commands i →
    (i + 1 ≡ length (counted (steps_value commands))) × (true ≡ has_quit (steps_value commands))
count-off commands i d h is e before =
    let at = at-place commands i d h is in
    let number = ap (λ (l : List Command). length (counted (steps_value l))) at ∙ off-length d (drop (i + 1) commands) e in
    let was = before.number in
    let quit = before.quit ∙ ap (λ (l : List Command). has_quit (steps_value l)) at ∙ off-quit d (drop (i + 1) commands) e in
    (omega arith, sym quit)

-- no command ends the run
pub count-end : (commands : List Command) (i : ℕ) → i ≡ length commands → CountedTo commands i →
    (length commands ≡ length (counted (steps_value commands))) × (false ≡ has_quit (steps_value commands))
count-end commands i here before =
    let left : drop i commands ≡ [] = drop_all i commands (omega arith) in
    let number = ap (λ (l : List Command). length (counted (steps_value l))) left in
    let was = before.number in
    (omega arith, sym (before.quit ∙ ap (λ (l : List Command). has_quit (steps_value l)) left))
