use Rattle.std.proofs.Common.{◌+◌, ◌*◌, refl, arith}
use Rattle.bre_parse.specs.Tree.{sequence_of}
use Rattle.bre_match.specs.Parts.{part_of}
use Rattle.bre_match.proofs.AutomatonRuns.{run_begins, run_finds, run_goes_on, run_passes, run_ends}
use Rattle.bre_match.proofs.scan.scan.Goals as goal

pub loop-place-init : goal.loop-place-init
loop-place-init c =
    run_begins (sequence_of c.args.items.now) c.args.text.now c.args.from c.args.from c.begin.new.states.items c.begin.new.table.items
    c.first_state-state.result (omega arith) c.requires.place refl c.in_ok-begin.ensures.begun c.first_state-state.ensures.low
    c.first_state-state.ensures.start
    (c.begin.ensures.serves (part_of (sequence_of c.args.items.now)) c.requires.serves)

pub returns-in_err-begin-clause-serves : goal.returns-in_err-begin-clause-serves
returns-in_err-begin-clause-serves c = c.begin.ensures.serves (part_of (sequence_of c.args.items.now)) c.requires.serves

pub returns-then-entry-ge-FOUND-clause-told : goal.returns-then-entry-ge-FOUND-clause-told
returns-then-entry-ge-FOUND-clause-told c =
    run_finds (sequence_of c.args.items.now) c.args.text.now c.args.from c.entry_at.new.states.items c.loop-place.states.items
    c.loop-place.table.items c.loop-place-2.place c.loop-place-2.clean c.loop-place-2.state c.in-Some.entry c.requires.free
    c.requires.in_order c.loop-place-2.invariant.run (rw c.in-Some.is at c.in_ok-known.ensures.value) c.if-entry-ge-FOUND.true

pub loop-place-preserved : goal.loop-place-preserved
loop-place-preserved c =
    run_goes_on (sequence_of c.args.items.now) c.args.text.now c.args.from c.entry_at.new.states.items c.loop-place.states.items
    c.entry_at.new.table.items c.loop-place.table.items c.loop-place-2.place c.loop-place-2.clean c.loop-place-2.state c.in-Some.entry
    c.next_place-place.result c.clean_place-clean-in-loop-place.result c.requires.free c.requires.in_order c.loop-place-2.invariant.inside
    c.loop-place-2.invariant.run c.entry_at.ensures.begun c.in_ok-known.ensures.serves (rw c.in-Some.is at c.in_ok-known.ensures.entry)
    (rw c.in-Some.is at c.in_ok-known.ensures.value) c.if-entry-ge-FOUND.false
    c.next_place-place.ensures.after c.next_place-place.ensures.within c.next_place-place.ensures.stays
    c.next_place-place.ensures.same c.clean_place-clean-in-loop-place.ensures.value

pub returns-then-entry-ge-FOUND-2-clause-told : goal.returns-then-entry-ge-FOUND-2-clause-told
returns-then-entry-ge-FOUND-2-clause-told c =
    run_finds (sequence_of c.args.items.now) c.args.text.now c.args.from c.entry_at-2.new.states.items c.loop-place.states.items
    c.loop-place.table.items c.loop-place.place c.loop-place.clean c.loop-place.state c.in-Some-known.entry c.requires.free
    c.requires.in_order c.loop-place.invariant (rw c.in-Some-known.is at c.in_ok-known-2.ensures.value) c.if-entry-ge-FOUND-2.true

pub returns-clause-told : goal.returns-clause-told
returns-clause-told c =
    run_ends (sequence_of c.args.items.now) c.args.text.now c.args.from c.entry_at-2.new.states.items c.loop-place.states.items
    c.loop-place.table.items c.loop-place.place c.loop-place.clean c.loop-place.state c.in-Some-known.entry c.requires.free
    c.requires.in_order c.loop-place-test.false c.loop-place.invariant (rw c.in-Some-known.is at c.in_ok-known-2.ensures.value)
    c.if-entry-ge-FOUND-2.false

pub loop-place-2-init : goal.loop-place-2-init
loop-place-2-init c = record {
  run = c.loop-place.invariant;
  onward = omega arith;
  inside = c.loop-place-test.true;
}

pub loop-place-2-preserved : goal.loop-place-2-preserved
loop-place-2-preserved c = record {
  run =
      run_passes (sequence_of c.args.items.now) c.args.text.now c.args.from c.loop-place.states.items c.loop-place.table.items
      c.loop-place-2.place c.loop-place-2.clean c.loop-place-2.state c.symbol_of.result
      (512 * c.loop-place-2.state + c.symbol_of.result) c.index-seen.result.now (c.loop-place-2.place + 1) c.clean_place-clean.result
      c.requires.free c.requires.in_order c.loop-place-2.invariant.inside c.loop-place-2.invariant.run c.symbol_of.ensures.low
      c.symbol_of.ensures.value refl c.index-seen.ensures c.if-seen-ge-FOUND.false refl c.clean_place-clean.ensures.value;
  onward = let before = c.loop-place-2.invariant.onward in omega arith;
  inside = omega arith;
}
