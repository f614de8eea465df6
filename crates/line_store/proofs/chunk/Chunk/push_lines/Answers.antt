-- All lines of a run are lines.
use Rattle.std.proofs.Common.{◌≡◌, ap, subst, length, arith}
use Rattle.std.proofs.lemmas.Result.{on_ok_weaker}
use Rattle.line_store.specs.Runs.{IsRun}
use Rattle.line_store.proofs.Runs.{run-lines}
use Rattle.line_store.proofs.chunk.Chunk.push_lines.Goals as goal

pub returns-in-Some-clause-lines : goal.returns-in-Some-clause-lines
returns-in-Some-clause-lines c =
    let view : c.self.inside.ring.items ≡ c.args.self.now = c.self.view_is in
    let last : c.args.to ≡ length c.args.self.now = omega (arith, c.if-to-len.true, c.len.ensures, ap length view) in
    let is = subst (λ lines. IsRun c.self.inside.run lines) view c.self.invariant.3 in
    let lines = run-lines c.self.inside.run _ c.args.self.now c.args.from c.args.to c.in-Some.is c.if-from-eq0.true last is in
    on_ok_weaker c.push_to.result (λ put. lines) c.push_to.ensures.appended
