use Rattle.std.proofs.Common.{◌≡◌, ◌∙◌, ap}
use Rattle.whole.specs.Paths.{is_in}
use Rattle.whole.proofs.Keeping.{goes-on-read}
use Rattle.whole.proofs.whole.WholeOutside.read.Goals as goal

pub invariant_of-self-2 : goal.invariant_of-self-2
invariant_of-self-2 g c =
    let s = c.args.self.now in
    let known : c.contains-written.result ≡ is_in c.args.path.now s.paths.items =
    c.contains-written.ensures.value ∙ ap (is_in c.args.path.now) c.as_slice.ensures.value in
    record {
      sound = goes-on-read _ _ _ _ s.paths.items s.refused _ c.contains-written.result c.in_ok-name.name c.args.path.now
          c.in_ok-answer.answer s.sound c.in_ok-name.ensures.value known c.in_ok-answer.ensures.read c.read_held.ensures.keeps_room
          c.is_refused-self.ensures.value;
    }
