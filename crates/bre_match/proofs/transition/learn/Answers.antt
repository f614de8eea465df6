use Rattle.std.proofs.Common.{◌+◌, ◌*◌, refl, sym, ◌∙◌, arith}
use Rattle.bre_parse.specs.Tree.{sequence_of}
use Rattle.bre_match.specs.Parts.{part_of}
use Rattle.bre_match.proofs.AutomatonTables.{entry_put, grown, step_learned}
use Rattle.bre_match.proofs.transition.learn.Goals as goal

pub returns-in_err-passed-clause-serves : goal.returns-in_err-passed-clause-serves
returns-in_err-passed-clause-serves c = c.make_room-state.ensures.serves c.args.starts (part_of (sequence_of c.args.items.now)) c.requires.serves

pub returns-in_err-entry-clause-serves : goal.returns-in_err-entry-clause-serves
returns-in_err-entry-clause-serves c =
    let part = part_of (sequence_of c.args.items.now) in
    grown c.args.starts part c.make_room-state.new.states.items c.entry_for.new.states.items
    c.make_room-state.new.table.items c.entry_for.new.table.items
    (c.make_room-state.ensures.begun c.requires.begun) (c.make_room-state.ensures.room c.requires.serves.few)
    c.entry_for.ensures.grows c.entry_for.ensures.same c.entry_for.ensures.room
    (c.make_room-state.ensures.serves c.args.starts part c.requires.serves)

pub index_mut-requires : goal.index_mut-requires
index_mut-requires c =
    let grows = c.entry_for.ensures.grows.0 in
    let room = c.entry_for.ensures.room in
    let state = c.make_room-state.ensures.state.0 in
    let low = c.symbol_at-symbol.ensures.low in
    omega arith

pub returns-clause-serves : goal.returns-clause-serves
returns-clause-serves c =
    let part = part_of (sequence_of c.args.items.now) in
    let grows = c.entry_for.ensures.grows in
    let made = c.make_room-state.ensures.state.0 in
    let more = grows.0 in
    let states = c.entry_for.new.states.items in
    let state = c.make_room-state.result in
    let symbol = c.symbol_at-symbol.result in
    let entry = c.in_ok-entry.entry in
    let text = c.args.text.now in
    entry_put c.args.starts part states c.entry_for.new.table.items _ state symbol (512 * state + symbol) entry text c.args.place
    (grown c.args.starts part c.make_room-state.new.states.items states c.make_room-state.new.table.items c.entry_for.new.table.items
    (c.make_room-state.ensures.begun c.requires.begun) (c.make_room-state.ensures.room c.requires.serves.few)
    grows c.entry_for.ensures.same c.entry_for.ensures.room (c.make_room-state.ensures.serves c.args.starts part c.requires.serves))
    (omega arith) c.symbol_at-symbol.ensures.low refl c.in_ok-entry.ensures.entry
    (step_learned c.args.starts part states c.make_room-state.new.states.items c.index.result.now c.marks-marks.result.now _
    c.new-next.result.items c.entered.new.out.items c.step_all.new.out.items text c.args.place state entry
    c.in_ok-before.before.weight c.in_ok-passed.passed.weight made grows c.index.ensures c.marks-marks.ensures.value
    c.new-next.ensures.items c.in_ok-before.ensures.out c.in_ok-before.ensures.weight c.in_ok-before.ensures.at
    c.in_ok-passed.ensures.weight c.in_ok-passed.ensures.marks c.in_ok-entry.ensures.value)
    c.symbol_at-symbol.ensures.value c.requires.place (c.requires.start ∙ sym c.make_room-state.ensures.start) refl

pub entry_for-requires-clause-room : goal.entry_for-requires-clause-room
entry_for-requires-clause-room c =
    let serves = c.make_room-state.ensures.serves c.args.starts (part_of (sequence_of c.args.items.now)) c.requires.serves in
    serves.room

pub returns-in_err-before-clause-serves : goal.returns-in_err-before-clause-serves
returns-in_err-before-clause-serves c =
    c.make_room-state.ensures.serves c.args.starts (part_of (sequence_of c.args.items.now)) c.requires.serves
