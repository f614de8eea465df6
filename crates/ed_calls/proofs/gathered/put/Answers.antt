-- What waits was refused, or it was taken and then the piece was.
use Rattle.std.proofs.Common.{◌∙◌, refl}
use Rattle.ed_calls.proofs.Gathering.{both-given, stopped}
use Rattle.ed_calls.proofs.gathered.put.Goals as goal

pub returns-then-not-give-clause-part : goal.returns-then-not-give-clause-part
returns-then-not-give-clause-part g c = λ _.
    stopped (g.W.Sink.state c.args.sink.now) (g.W.Sink.state c.give.new.sink) c.as_slice.result.now c.args.room.now.items c.args.piece.now
    (c.if-not-give.ensures.part refl) (c.as_slice.ensures.value ∙ c.if-keep.ensures.left refl)

pub returns-else-keep-2-clause-all : goal.returns-else-keep-2-clause-all
returns-else-keep-2-clause-all g c = λ yes.
    both-given (g.W.Sink.state c.args.sink.now) (g.W.Sink.state c.give.new.sink) (g.W.Sink.state c.give-else-keep-2.new.sink) c.as_slice.result.now c.args.room.now.items
    c.args.piece.now c.keep-2.new.room.items (c.if-not-give.ensures.all refl) (c.as_slice.ensures.value ∙ c.if-keep.ensures.left refl)
    (c.give-else-keep-2.ensures.all yes) (c.if-keep-2.ensures.left refl ∙ c.clear.ensures.items)
