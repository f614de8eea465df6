-- One more line is written.
use Rattle.std.proofs.Common.{◌+◌, ◌<◌, arith, length}
use Rattle.line_store.proofs.Written.{Written, written-line, written-none, written-on}
use Rattle.line_store.proofs.chunk.Chunk.push_each.Goals as goal

pub loop-i-init : goal.loop-i-init
loop-i-init c =
    let none = written-none c.args.from (c.args.self.now) c.args.output.now in
    record { bytes = none.bytes; are = none.are }

pub loop-i-preserved : goal.loop-i-preserved
loop-i-preserved c =
    let lines = c.args.self.now in
    let i = c.loop-i.i in
    let within : i < length lines = omega (arith, c.requires.last) in
    let line =
    written-line i lines c.line.result.now _ c.push_to.new.output within c.line.ensures.value c.push_to.ensures.line c.in_ok-push_to.ensures.appended in
    let before : Written c.args.from i lines c.args.output.now c.loop-i.output =
    record { bytes = c.loop-i.invariant.bytes; are = c.loop-i.invariant.are } in
    let more = written-on c.args.from i (i + 1) lines _ _ _ (omega arith) (omega arith) (omega arith) before line in
    record { bytes = more.bytes; are = more.are }
