-- The sink and the room are as the text left them, and the text is the certificate's.
use Rattle.std.proofs.Common.{rules}
use Rattle.cert_check.specs.Certificates.{certificate_value}
use Rattle.cert_check.specs.text.Text.{text_of}
use Rattle.ed_calls.proofs.Gathering.{gathered-low, gathered-all, gathered-part, gathered-stopped, written-after}
use Rattle.ed_calls.proofs.gathered.give_through.Goals as goal

pub give-requires : goal.give-requires
give-requires g c =
    let new = c.new-gathered.result in
    let end = c.write_to.new.out in
    let text = text_of (certificate_value c.args.certificate.now) in
    let told = written-after end.sink.ghost_name end.room.ghost_name new.sink.ghost_name new.room.ghost_name end.text.bytes new.text.bytes text
    c.write_to.ensures.appended c.new-gathered.ensures.text in
    let sink = told.0 in
    record {
      count = gathered-low g.W.Sink.state g.B.Before.state end.sink.now end.room.now.items end.is_refused end.text.bytes text end.gathered told.2
          _ c.if-not-is_refused.true (search rules);
    }

pub returns-then-not-is_refused-clause-all : goal.returns-then-not-is_refused-clause-all
returns-then-not-is_refused-clause-all g c = λ yes.
    let new = c.new-gathered.result in
    let end = c.write_to.new.out in
    let text = text_of (certificate_value c.args.certificate.now) in
    let told = written-after end.sink.ghost_name end.room.ghost_name new.sink.ghost_name new.room.ghost_name end.text.bytes new.text.bytes text
    c.write_to.ensures.appended c.new-gathered.ensures.text in
    let sink = told.0 in
    let room = told.1 in
    gathered-all g.W.Sink.state g.B.Before.state end.sink.now end.room.now.items end.is_refused end.text.bytes text end.gathered told.2
    _ _ c.as_slice.result.now (g.W.Sink.state c.give.new.sink) c.if-not-is_refused.true (c.give.ensures.all yes) c.as_slice.ensures.value (search rules) (search rules)

pub returns-then-not-is_refused-clause-part : goal.returns-then-not-is_refused-clause-part
returns-then-not-is_refused-clause-part g c = λ no.
    let new = c.new-gathered.result in
    let end = c.write_to.new.out in
    let text = text_of (certificate_value c.args.certificate.now) in
    let told = written-after end.sink.ghost_name end.room.ghost_name new.sink.ghost_name new.room.ghost_name end.text.bytes new.text.bytes text
    c.write_to.ensures.appended c.new-gathered.ensures.text in
    let sink = told.0 in
    let room = told.1 in
    gathered-part g.W.Sink.state g.B.Before.state end.sink.now end.room.now.items end.is_refused end.text.bytes text end.gathered told.2
    _ _ c.as_slice.result.now (g.W.Sink.state c.give.new.sink) c.if-not-is_refused.true (c.give.ensures.part no) c.as_slice.ensures.value (search rules) (search rules)

pub returns-else-not-is_refused-clause-part : goal.returns-else-not-is_refused-clause-part
returns-else-not-is_refused-clause-part g c = λ _.
    let new = c.new-gathered.result in
    let end = c.write_to.new.out in
    let text = text_of (certificate_value c.args.certificate.now) in
    let told = written-after end.sink.ghost_name end.room.ghost_name new.sink.ghost_name new.room.ghost_name end.text.bytes new.text.bytes text
    c.write_to.ensures.appended c.new-gathered.ensures.text in
    let sink = told.0 in
    gathered-stopped g.W.Sink.state g.B.Before.state end.sink.now end.room.now.items end.is_refused end.text.bytes text end.gathered told.2
    _ c.if-not-is_refused.false (search rules)
