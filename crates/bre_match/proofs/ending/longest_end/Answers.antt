use Rattle.std.proofs.Common.{◌+◌, refl, arith}
use Rattle.bre_parse.specs.Tree.{sequence_of}
use Rattle.bre_match.specs.Parts.{part_of}
use Rattle.bre_match.proofs.EndRuns.{end_run_begins, end_run_goes_on, end_run_dies, end_run_ends}
use Rattle.bre_match.proofs.ending.longest_end.Goals as goal

pub returns-in_err-begin-clause-serves : goal.returns-in_err-begin-clause-serves
returns-in_err-begin-clause-serves c = c.begin.ensures.serves (part_of (sequence_of c.args.items.now)) c.requires.serves

pub loop-place-init : goal.loop-place-init
loop-place-init c =
    end_run_begins (sequence_of c.args.items.now) c.args.text.now c.args.start c.begin.new.states.items c.begin.new.table.items
    c.first_state-state.result c.requires.place c.in_ok-begin.ensures.begun c.first_state-state.ensures.low
    c.first_state-state.ensures.start (c.begin.ensures.serves (part_of (sequence_of c.args.items.now)) c.requires.serves)

pub returns-then-is_dead-clause-told : goal.returns-then-is_dead-clause-told
returns-then-is_dead-clause-told c =
    let low = c.loop-place.invariant.low in
    rw c.told.ensures.value
    (end_run_dies (sequence_of c.args.items.now) c.args.text.now c.args.start c.entry_at.new.states.items c.entry_at.new.table.items
    (c.loop-place.place + 1) c.state_in-state.result c.end_at-end.result (omega arith)
    (end_run_goes_on (sequence_of c.args.items.now) c.args.text.now c.args.start c.entry_at.new.states.items c.loop-place.states.items
    c.entry_at.new.table.items c.loop-place.table.items c.loop-place.place c.loop-place.state c.in-Some.entry c.state_in-state.result
    c.loop-place.end c.end_at-end.result c.loop-place-test.true c.loop-place.invariant c.entry_at.ensures.begun
    c.in_ok-known.ensures.serves (rw c.in-Some.is at c.in_ok-known.ensures.entry)
    (rw c.in-Some.is at c.in_ok-known.ensures.value) c.state_in-state.ensures.value c.end_at-end.ensures.value)
    (rw c.deref.ensures.value at (c.if-is_dead.ensures.sound refl)))

pub loop-place-preserved : goal.loop-place-preserved
loop-place-preserved c =
    end_run_goes_on (sequence_of c.args.items.now) c.args.text.now c.args.start c.entry_at.new.states.items c.loop-place.states.items
    c.entry_at.new.table.items c.loop-place.table.items c.loop-place.place c.loop-place.state c.in-Some.entry c.state_in-state.result
    c.loop-place.end c.end_at-end.result c.loop-place-test.true c.loop-place.invariant c.entry_at.ensures.begun
    c.in_ok-known.ensures.serves (rw c.in-Some.is at c.in_ok-known.ensures.entry)
    (rw c.in-Some.is at c.in_ok-known.ensures.value) c.state_in-state.ensures.value c.end_at-end.ensures.value

pub returns-clause-told : goal.returns-clause-told
returns-clause-told c =
    rw c.told-2.ensures.value
    (end_run_ends (sequence_of c.args.items.now) c.args.text.now c.args.start c.loop-place.states.items c.loop-place.table.items
    c.loop-place.place c.loop-place.state c.loop-place.end c.requires.place c.loop-place-test.false c.loop-place.invariant)
