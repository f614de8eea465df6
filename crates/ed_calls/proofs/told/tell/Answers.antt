use Rattle.std.proofs.Common.{List, ℕ, refl, subst}
use Rattle.ed_session.specs.Sinks.{Took, TookFront, change}
use Rattle.ed_calls.specs.Told as meaning
use Rattle.ed_calls.proofs.told.tell.Goals as goal

pub returns-then-give : goal.returns-then-give
returns-then-give g c =
    let took = subst (λ (l : List ℕ). Took (change (g.W.Sink.state c.args.sink.now) (g.W.Sink.state c.give.new.sink)) l) c.as_slice.ensures.value (c.if-give.ensures.all refl).0 in
    record { says = meaning.tells c.in-Ok.told c.in-Ok.is (meaning.all took refl) }

pub returns-in-Ok : goal.returns-in-Ok
returns-in-Ok g c =
    let took = subst (λ (l : List ℕ). TookFront (change (g.W.Sink.state c.args.sink.now) (g.W.Sink.state c.give.new.sink)) l) c.as_slice.ensures.value (c.if-give.ensures.part refl).0 in
    record { says = meaning.tells c.in-Ok.told c.in-Ok.is (meaning.front took (c.if-give.ensures.part refl).1 c.status.ensures.value) }
