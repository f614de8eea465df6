use Rattle.std.proofs.Common.{◌≡◌, ◌∙◌, ap}
use Rattle.whole.specs.Paths.{is_in, more_paths}
use Rattle.whole.proofs.Keeping.{goes-on-write}
use Rattle.whole.proofs.whole.WholeOutside.write.Goals as goal

pub invariant_of-self-2 : goal.invariant_of-self-2
invariant_of-self-2 g c =
    let s = c.args.self.now in
    let name = c.in_ok-name.name in
    let noted : c.note.new.paths.items ≡ more_paths (is_in name s.paths.items) s.paths.items name =
    c.note.ensures.added ∙ ap (λ l. more_paths (is_in name l) l name) c.reserve.ensures.items in
    record {
      sound = goes-on-write _ _ _ _ s.paths.items c.note.new.paths.items s.refused _ name c.args.path.now c.args.bytes.now
          c.in_ok-answer.answer s.sound c.in_ok-name.ensures.value c.in_ok-answer.ensures.logged c.in_ok-answer.ensures.makes_room
          noted c.is_refused-self.ensures.value;
    }
