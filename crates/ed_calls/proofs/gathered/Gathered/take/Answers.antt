-- One more piece was put after the text so far.
use Rattle.std.proofs.Math.Logic.{∥∥₁_map}
use Rattle.ed_calls.proofs.Gathering.{gathered-more}
use Rattle.ed_calls.proofs.gathered.Gathered.take.Goals as goal

pub invariant_of-self : goal.invariant_of-self
invariant_of-self g c =
    let self = c.args.self.now in
    let new = c.note_and_put.new in
    let told = c.note_and_put.ensures in
    record {
      gathered = ∥∥₁_map self.gathered (λ so. gathered-more g.B.Before.state (g.W.Sink.state self.sink.now) (g.W.Sink.state new.sink)
          self.room.now.items new.room.items self.text.bytes c.args.piece.now new.text.bytes self.is_refused new.is_refused so
          told.noted told.refused told.put told.stopped);
    }
