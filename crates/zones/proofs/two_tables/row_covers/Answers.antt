use Rattle.std.proofs.Common.{◌≡◌, ◌+◌, ◌*◌, None, get_or, true, false, arith, ◌∙◌, ap, sym, below_more, rules}
use Rattle.std.proofs.lemmas.List.{get_or_default}
use Rattle.zones.specs.Bound.{covers_bound}
use Rattle.zones.specs.Zone.{bound}
use Rattle.zones.proofs.two_tables.row_covers.Goals as goal

pub loop-q-preserved : goal.loop-q-preserved
unfolding bound
loop-q-preserved c =
    let weak = c.args.weak.now in
    let strong = c.args.strong.now in
    let p = c.args.p in
    let q = c.loop-q.q in
    below_more (λ b. covers_bound (bound weak p b) (bound strong p b) ≡ true) q c.loop-q.invariant
    (ap (λ b. covers_bound b (bound strong p q)) (get_or_default weak _ None c.index-weak-p.result (omega arith))
    ∙ ap (covers_bound (get_or weak (32 * p + q) c.index-weak-p.result)) (get_or_default strong _ None c.index-strong-p.result (omega arith))
    ∙ sym c.covers_bound.ensures.value ∙ c.if-not-covers_bound.false)

pub returns-then-not-covers_bound : goal.returns-then-not-covers_bound
unfolding bound
returns-then-not-covers_bound c =
    let weak = c.args.weak.now in
    let strong = c.args.strong.now in
    let p = c.args.p in
    let q = c.loop-q.q in
    let not : covers_bound (bound weak p q) (bound strong p q) ≡ false =
    ap (λ b. covers_bound b (bound strong p q)) (get_or_default weak _ None c.index-weak-p.result (omega arith))
    ∙ ap (covers_bound (get_or weak (32 * p + q) c.index-weak-p.result)) (get_or_default strong _ None c.index-strong-p.result (omega arith))
    ∙ sym c.covers_bound.ensures.value ∙ c.if-not-covers_bound.true in
    record { exact = (λ t. search rules, λ covers. let bad = covers q (omega arith) in absurd cc) }
