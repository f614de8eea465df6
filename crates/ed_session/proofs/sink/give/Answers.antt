use Rattle.std.proofs.Common.{◌+◌, ◌-◌, ◌≤◌, length, arith, ℕ, length-take, length-drop, take}
use Rattle.ed_session.specs.Sinks.{change, Took}
use Rattle.ed_session.proofs.Taken.{Appends-more, Appends-keeps, front-taken, take-next}
use Rattle.ed_session.proofs.sink.give.Goals as goal

pub pieces-preserved : goal.pieces-preserved
pieces-preserved g c =
    let bs = c.args.bytes.now in
    let i = c.pieces.done in
    let n = c.in-Ok.n in
    let fits : n ≤ length bs - i = omega (arith, c.in-Ok.ensures.within, length-take {A = ℕ}, length-drop {A = ℕ}) in
    record {
      within = omega arith;
      taken = rw (take-next bs i n (omega arith) fits) (Appends-more _ _ _ _ _ c.pieces.invariant.taken c.in-Ok.ensures.appended);
      failures = grind (arith, c.in-Ok.ensures.rises);
    }

pub returns-then-n-eq0-clause-part : goal.returns-then-n-eq0-clause-part
returns-then-n-eq0-clause-part g c =
    let bs = c.args.bytes.now in
    let i = c.pieces.done in
    let n = c.in-Ok.n in
    let fits : n ≤ length bs - i = omega (arith, c.in-Ok.ensures.within, length-take {A = ℕ}, length-drop {A = ℕ}) in
    let taken : Took (change (g.W.Sink.state c.args.sink.now) (g.W.Sink.state c.write.new.self)) (take (i + n) bs) =
    rw (take-next bs i n (omega arith) fits) (Appends-more _ _ _ _ _ c.pieces.invariant.taken c.in-Ok.ensures.appended) in
    λ _. (front-taken _ _ bs (i + n) (omega (arith, c.if-n-eq0.true)) taken, grind (arith, c.in-Ok.ensures.rises))

pub returns-in-Err-clause-part : goal.returns-in-Err-clause-part
returns-in-Err-clause-part g c =
    λ _. (front-taken _ _ _ _ (omega arith) (Appends-keeps _ _ _ _ c.pieces.invariant.taken c.in-Err.ensures.appended), grind (arith, c.in-Err.ensures.rises))
