use Rattle.std.proofs.Common.{◌≤◌, length, arith}
use Rattle.ed_session.proofs.Overwritten.{longer-refused, longer-then-done, longer-then-refused}
use Rattle.ed_session.proofs.overwriting.lengthen.Goals as goal

pub returns-in-Err-clause-refused : goal.returns-in-Err-clause-refused
returns-in-Err-clause-refused g c =
    longer-refused c.cut.result _ _ _ _ _ _ _ c.requires.size c.len.ensures.value c.after-beyond.ensures.value c.in-Err.ensures.front
    c.cut.ensures.cut c.cut.ensures.uncut

pub returns-clause-done : goal.returns-clause-done
returns-clause-done g c =
    let longer = c.requires.longer in
    let within : c.args.end ≤ length c.args.bytes.now = omega arith in
    longer-then-done c.write_synced-2.result _ _ _ _ _ _ _ _ c.requires.size within c.len.ensures.value c.after-beyond.ensures.value
    c.new-front.ensures.value c.in_default.ensures.written c.write_synced-2.ensures.written

pub returns-clause-refused : goal.returns-clause-refused
returns-clause-refused g c =
    let longer = c.requires.longer in
    let within : c.args.end ≤ length c.args.bytes.now = omega arith in
    longer-then-refused c.write_synced-2.result _ _ _ _ _ _ _ _ c.requires.size within c.len.ensures.value c.after-beyond.ensures.value
    c.new-front.ensures.value c.in_default.ensures.written c.write_synced-2.ensures.front
