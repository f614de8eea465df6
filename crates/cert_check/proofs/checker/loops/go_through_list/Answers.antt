use Rattle.std.proofs.Common.{arith, refl, ◌∙◌, sym}
use Rattle.cert_check.proofs.verdicts.Judging.{list-on, list-off, list-over, left-on, left-over}
use Rattle.cert_check.proofs.checker.loops.go_through_list.Goals as goal

pub loop-index-init : goal.loop-index-init
loop-index-init c = (refl, λ turned. refl)

pub loop-index-preserved : goal.loop-index-preserved
loop-index-preserved c = (
  c.loop-index.invariant.0
      ∙ left-on c.args.sight.now c.args.writes.now c.args.list.now c.args.states.now c.loop-index.index c.index-list-index.result c.index-states-index.result c.loop-index.coming c.passes.new.coming
      (omega arith) c.requires.shape c.index-list-index.is c.index-states-index.is (rw c.if-not-holds.false at c.in_ok-holds.ensures.value),
  λ turned.
      c.loop-index.invariant.1 turned
      ∙ list-on c.args.sight.now c.args.number c.args.writes.now c.args.list.now c.args.states.now turned c.loop-index.index c.index-list-index.result c.index-states-index.result c.loop-index.coming c.passes.new.coming
      (omega arith) c.requires.shape c.index-list-index.is c.index-states-index.is (rw c.if-not-holds.false at c.in_ok-holds.ensures.value),
)

pub returns-then-not-holds : goal.returns-then-not-holds
returns-then-not-holds c = record {
  value = λ turned.
      c.loop-index.invariant.1 turned
      ∙ list-off c.args.sight.now c.args.number c.args.writes.now c.args.list.now c.args.states.now turned c.loop-index.index c.index-list-index.result c.index-states-index.result c.loop-index.coming
      (omega arith) c.requires.shape c.index-list-index.is c.index-states-index.is (rw c.if-not-holds.true at c.in_ok-holds.ensures.value);
}

pub returns : goal.returns
returns c = record {
  value = (
    sym (c.loop-index.invariant.0 ∙ left-over c.args.sight.now c.args.writes.now c.args.list.now c.args.states.now c.loop-index.index c.loop-index.coming (omega arith) c.requires.shape),
    λ turned.
        c.loop-index.invariant.1 turned
        ∙ list-over c.args.sight.now c.args.number c.args.writes.now c.args.list.now c.args.states.now turned c.loop-index.index c.loop-index.coming (omega arith) c.requires.shape,
  );
}
