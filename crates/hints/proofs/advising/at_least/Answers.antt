use Rattle.std.proofs.Common.{refl, inl, arith}
use Rattle.hints.specs.Passing.{with_min}
use Rattle.hints.proofs.Keeping.{keeps-bounds, within-itself}
use Rattle.hints.proofs.Chains.{tried-vouched}
use Rattle.hints.proofs.advising.at_least.Goals as goal

pub returns-clause-tried : goal.returns-clause-tried
returns-clause-tried c =
    let above = rw c.in-Some.is at c.in_ok-min.ensures.above in
    let within = rw c.in-Some.is at c.in_ok-min.ensures.within in
    tried-vouched c.args.start.now c.args.place _ c.args.script.now (with_min c.args.start.now c.in-Some.min)
    (keeps-bounds c.args.start.now (with_min c.args.start.now c.in-Some.min) refl refl refl (omega (arith, above)) (within-itself c.args.start.now.max))
    (inl refl) (λ nowhere. nowhere) (record { ordered = within.1; low = within.0; high = c.requires.high }) (rw c.in-Some.is at c.in_ok-min.ensures.vouched) c.in_ok-from_slice.ensures.value
    c.in_ok-with_bounds.ensures.value c.unchanged_at.ensures.unchanged
