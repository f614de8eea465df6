use Rattle.std.proofs.Common.{refl, [], true, None}
use Rattle.bre_parse.specs.Tree.{Repeat, tree_of}
use Rattle.bre_match.specs.Parts.{Star, part_of}
use Rattle.bre_match.proofs.Mirror.{mirror_turns}
use Rattle.bre_match.proofs.Pieces.{ends_made}
use Rattle.bre_match.proofs.table.ends_of_turns.Goals as goal

pub returns : goal.returns
returns c = record {
  value = λ order.
      ends_made (Star (part_of (tree_of c.args.content.now))) (Repeat 0 None (tree_of c.in_ok-new.field-0.value)) c.args.text.now c.in_ok-piece.piece.items c.deref.result.now c.args.low c.args.high _ _ true [] c.in_ok-table.table.items
      (rw c.in_ok-new.ensures.ok (mirror_turns _ _ (part_of (tree_of c.args.content.now)) (part_of (tree_of c.in_ok-turn.turn)) (c.in_ok-turn.ensures.value order)))
      c.deref.ensures.value c.requires.order c.requires.within c.in_ok-piece.ensures.size c.in_ok-piece.ensures.bytes refl refl c.in_ok-table.ensures.value;
}
