use Rattle.std.proofs.Common.{◌≡◌, ◌∙◌, false, None, arith, sym}
use Rattle.std.proofs.lemmas.List.{get_or_default}
use Rattle.zones.specs.Zone.{bound}
use Rattle.zones.proofs.ReachLemmas.{known_with-none, known_with-unknown, known_with-known, any_bound-symmetric}
use Rattle.zones.proofs.reach.is_known_with.Goals as goal
use Rattle.zones.proofs.reach.is_known_with.Goals.{then-not-is-via-then-not-is, then-not-is-via-else-not-is+then-not-is-2}

pub loop-q-init : goal.loop-q-init
loop-q-init c = known_with-none c.args.table.now c.args.p

pub loop-q-preserved : goal.loop-q-preserved
unfolding bound
loop-q-preserved c =
    let table = c.args.table.now in
    known_with-unknown table c.args.p c.loop-q.q c.loop-q.invariant
    (get_or_default table _ None c.index-table-p.result (omega arith) ∙ c.is.ensures.exact.0 c.if-not-is.false ∙ c.any_of-itself.ensures.value)
    (get_or_default table _ None c.index-table-q.result (omega arith) ∙ c.is-else-not-is.ensures.exact.0 c.if-not-is-2.false ∙ c.any_of-itself.ensures.value
    ∙ any_bound-symmetric c.args.p c.loop-q.q)

pub returns-then-not-is : goal.returns-then-not-is
unfolding bound
returns-then-not-is c =
    let table = c.args.table.now in
    record {
      value = sym (known_with-known table c.args.p c.loop-q.q c.args.names c.loop-q-test.true
          (λ e f. elim c.then-not-is.branch [
            | then-not-is-via-then-not-is w ↦
                let is = c.is.ensures.exact.1 (get_or_default table _ c.index-table-p.result None (omega arith) ∙ e ∙ sym c.any_of-itself.ensures.value) in
                let not : c.is.result ≡ false = w.if-not-is.true in
                cc
            | then-not-is-via-else-not-is+then-not-is-2 w ↦
                let is = w.is-else-not-is.ensures.exact.1
                (get_or_default table _ w.index-table-q.result None (omega arith) ∙ f ∙ sym (any_bound-symmetric c.args.p c.loop-q.q) ∙ sym c.any_of-itself.ensures.value) in
                let not : w.is-else-not-is.result ≡ false = w.if-not-is-2.true in
                cc
          ]));
    }
