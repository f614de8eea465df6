-- One more line is written.
use Rattle.std.proofs.Common.{◌+◌, ◌<◌, [], arith, get_or, length}
use Rattle.std.proofs.lemmas.List.{get_or_default}
use Rattle.ed_base.specs.Buffer.{plain_line}
use Rattle.line_store.proofs.Written.{Written, written-line, written-none, written-on}
use Rattle.line_store.proofs.bare_lines.BareLines.push_lines.Goals as goal

pub loop-i-init : goal.loop-i-init
loop-i-init g c =
    let none = written-none c.args.from (g.Self.BareLines.items c.args.self.now) c.args.output.now in
    record { bytes = none.bytes; are = none.are }

pub loop-i-preserved : goal.loop-i-preserved
loop-i-preserved g c =
    let lines = g.Self.BareLines.items c.args.self.now in
    let i = c.loop-i.i in
    let within : i < length lines = omega (arith, c.requires.last) in
    let own = get_or lines i (plain_line []) in
    let line =
    written-line i lines own _ c.push_line.new.output within (get_or_default lines i (plain_line []) own within) c.in_ok-push_line.ensures.line
    c.in_ok-push_line.ensures.appended in
    let before : Written c.args.from i lines c.args.output.now c.loop-i.output =
    record { bytes = c.loop-i.invariant.bytes; are = c.loop-i.invariant.are } in
    let more = written-on c.args.from i (i + 1) lines _ _ _ (omega arith) (omega arith) (omega arith) before line in
    record { bytes = more.bytes; are = more.are }
