use Rattle.std.proofs.Common.{◌≡◌, true, refl, inl, sym, subst, arith}
use Rattle.analyser.specs.declared.analysis.Start.{Start}
use Rattle.hints.specs.Nowhere.{IsNowhere}
use Rattle.hints.specs.Passing.{with_max}
use Rattle.hints.proofs.Keeping.{keeps-bounds, within-below}
use Rattle.hints.proofs.Chains.{tried-vouched}
use Rattle.hints.proofs.advising.at_most.Goals as goal

pub returns : goal.returns
returns c =
    let below = rw c.in-Some.is at c.in_ok-most.ensures.below in
    let within = rw c.in-Some.is at c.in_ok-most.ensures.within in
    let then = with_max c.args.start.now c.in-Some.most in
    let somewhere : IsNowhere then → ⊥ =
    λ nowhere. let yes : c.in_ok-is_nowhere.field-0 ≡ true = c.in_ok-is_nowhere.ensures.exact.1 (subst IsNowhere (sym c.in_ok-fewer.ensures.value) nowhere) in cc in
    record {
      tried =
          tried-vouched c.args.start.now c.args.place _ c.args.script.now then
          (keeps-bounds c.args.start.now then refl refl refl (omega arith) (within-below c.args.start.now.max c.in-Some.most below))
          (inl refl) (λ nowhere. absurd (somewhere nowhere)) (record { ordered = within.0; low = omega (arith, within.0, within.1); high = within.1 }) (rw c.in-Some.is at c.in_ok-most.ensures.vouched)
          c.in_ok-same.ensures.value c.in_ok-fewer.ensures.value c.unchanged_at.ensures.unchanged;
    }
