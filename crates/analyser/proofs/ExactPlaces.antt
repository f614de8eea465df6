-- Where the run of an exact script fails: at the place at which the walk by the rules does.
use Rattle.std.proofs.Common.{◌≡◌, ◌⊎◌, inl, inr, ◌≤◌, ℕ, zero, suc, true, false, List, [], ◌∷◌, length, Option, None, Result, Ok, Err, refl, sym, ap, ◌∙◌, subst, arith}
use Rattle.ed_base.specs.declared.fault.Fault.{Fault}
use Rattle.ed_syntax.specs.declared.options.Ending.{Ending}
use Rattle.ed_syntax.specs.declared.request.Answer.{Answer}
use Rattle.ed_syntax.specs.Commands.{Step}
use Rattle.ed_syntax.specs.meaning.Progress.{Present, Ends, stop_of, ending}
use Rattle.ed_syntax.specs.meaning.Runs.{steps}
use Rattle.ed_syntax.specs.meaning.Verbs.{ends_run}
use Rattle.ed_rules.specs.declared.state.State.{State}
use Rattle.ed_rules.specs.Rules.{step}
use Rattle.ed_rules.specs.Exact.{are_exact, is_exact}
use Rattle.ed_rules.specs.ExactRules.{Tells}
use Rattle.cert_check.specs.declared.sight.Sight.{Sight}
use Rattle.cert_check.specs.checker.Valid.{told}
use Rattle.analyser.proofs.ExactWalks.{Falls, walked-fails, exact-both}
use Rattle.analyser.proofs.ExactRuns.{Laws, AreDone, prompted-stop, Decided, decided-fails, front_of, StaysFew, step-decided, few-after, ends-decided}

-- where the steps that are left fail: so many go well, and up to the next one the run ends by this fault, or there is no next one
pub record Stumbles (xs : List Step) (m : Present) (answers : List Answer) (before : ℕ) (why : Fault) : Type 0 where
  pub left : Ending
  pub well : stop_of (steps (front_of before xs) None m answers) ≡ Ends (Ok left)
  pub fails : (stop_of (steps (front_of (suc before) xs) None m answers) ≡ Ends (Err why)) ⊎ (before ≡ length xs)

-- a run that is ended where it stands goes well
none-gone : (xs : List Step) (m : Present) (answers : List Answer) →
    stop_of (steps (front_of zero xs) None m answers) ≡ Ends (Ok (record { lines = length m.state.lines }))
none-gone xs m answers = prompted-stop m (ending m)

same-fault : {f why : Fault} {r : Result State Fault} → r ≡ Err f → r ≡ Err why → f ≡ why
same-fault is h = let both = sym is ∙ h in cc

module _ (k : Laws) (w : Sight) where
  step-fails : (x : Step) (xs ys : List Step) (s : State) (m : Present) (answers : List Answer) (why : Fault) →
      is_exact x.command ≡ true → Tells s m.state → AreDone answers → 1 ≤ length answers → StaysFew (x ∷ xs) m answers →
      step w.watch x.command s ≡ Err why →
      stop_of (steps (x ∷ ys) None m answers) ≡ Ends (Err why)
  step-fails x xs ys s m answers why e h done enough few rule =
      (elim (ends_run x.command.verb) as (λ q. ends_run x.command.verb ≡ q →
      stop_of (steps (x ∷ ys) None m answers) ≡ Ends (Err why)) [
        | true ↦ λ q. decided-fails why (stop_of (steps (x ∷ ys) None m answers))
            (subst (λ (r : Result State Fault). Decided r (stop_of (steps (x ∷ ys) None m answers)))
            (walked-fails w x ys None s why rule) (ends-decided k w x ys None s m answers e h q))
        | false ↦ λ q. elim (step-decided k w x xs s m answers e h done enough few q) [
          | inl f ↦ f.stops ys None ∙ ap (λ (g : Fault). Ends (Err g)) (same-fault f.rule rule)
          | inr g ↦ absurd (let both = sym g.rule ∙ rule in cc)
        ]
      ]) refl

  pub stumbles : (xs : List Step) (bad : Option ℕ) (s : State) (m : Present) (answers : List Answer) (before : ℕ) (why : Fault) →
      are_exact xs ≡ true → Tells s m.state → AreDone answers → length xs ≤ length answers → StaysFew xs m answers →
      Falls w xs bad s before why → Stumbles xs m answers before why
  stumbles [] bad s m answers zero why e h done enough few falls = record { left = _; well = none-gone [] m answers; fails = inr refl }
  stumbles [] bad s m answers (suc n) why e h done enough few falls = absurd falls
  stumbles (x ∷ xs) bad s m answers zero why e h done enough few falls =
      record {
        left = _;
        well = none-gone (x ∷ xs) m answers;
        fails = inl (step-fails x xs (front_of zero xs) s m answers why (exact-both x xs e).0 h done (omega arith) few falls);
      }
  stumbles (x ∷ xs) bad s m answers (suc n) why e h done enough few (t, q, rule, rest) =
      let both = exact-both x xs e in
      elim (step-decided k w x xs s m answers both.0 h done (omega arith) few q) [
        | inl f ↦ absurd (let no = sym f.rule ∙ rule in cc)
        | inr g ↦
            let same : t ≡ g.next = let is = sym rule ∙ g.rule in cc in
            let later = stumbles xs bad (told w g.next) g.reached g.later n why both.1 g.tells g.done
            (let some = g.enough in omega arith) (few-after k w x xs s m answers few g)
            (subst (λ (u : State). Falls w xs bad (told w u) n why) same rest) in
            record {
              left = later.left;
              well = g.goes (front_of n xs) None ∙ later.well;
              fails = elim later.fails [
                | inl stops ↦ inl (◌∙◌ {c = Ends (Err why)} (g.goes (front_of (suc n) xs) None) stops)
                | inr all ↦ inr (ap (λ (i : ℕ). suc i) all)
              ];
            }
      ]
