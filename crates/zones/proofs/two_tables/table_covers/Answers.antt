use Rattle.std.proofs.Common.{◌≡◌, ◌<◌, ℕ, true, false, arith, inl, inr, below_more, rules}
use Rattle.std.proofs.lemmas.Bool.{cases_lt}
use Rattle.zones.specs.Bound.{covers_bound}
use Rattle.zones.specs.Zone.{bound, Covers}
use Rattle.zones.proofs.ReachLemmas.{covers-unknown}
use Rattle.zones.proofs.two_tables.table_covers.Goals as goal

pub loop-p-preserved : goal.loop-p-preserved
loop-p-preserved c =
    below_more (λ p. (q : ℕ) → q < c.args.most → covers_bound (bound c.args.weak.now p q) (bound c.args.strong.now p q) ≡ true) c.loop-p.p c.loop-p.invariant
    (c.row_covers.ensures.exact.0 c.if-not-row_covers.false)

pub returns-then-not-row_covers : goal.returns-then-not-row_covers
unfolding Covers
returns-then-not-row_covers c = record {
  exact = (
    λ t. search rules,
    λ covers.
        let bad = c.row_covers.ensures.exact.1 (λ q hq. covers c.loop-p.p q (omega arith) (omega arith)) in
        let not : c.row_covers.result ≡ false = c.if-not-row_covers.true in
        absurd cc,
  );
}

pub returns : goal.returns
unfolding Covers
returns c =
    let weak = c.args.weak.now in
    let strong = c.args.strong.now in
    record {
      exact = (
        λ t p q hp hq. elim (cases_lt p c.args.most) [
          | inl low ↦ elim (cases_lt q c.args.most) [
            | inl near ↦ c.loop-p.invariant p (omega (arith, low)) q near
            | inr far ↦ covers-unknown weak strong p q (c.requires.weak_unknown.column p q far hp hq) (c.requires.strong_unknown.column p q far hp hq)
          ]
          | inr high ↦ covers-unknown weak strong p q (c.requires.weak_unknown.row p q high hp hq) (c.requires.strong_unknown.row p q high hp hq)
        ],
        λ covers. search rules,
      );
    }
