use Rattle.std.proofs.Common.{refl}
use Rattle.bre_parse.specs.Tree.{tree_of}
use Rattle.bre_match.specs.Parts.{part_of}
use Rattle.bre_match.proofs.Pieces.{ends_made}
use Rattle.bre_match.proofs.table.ends_of.Goals as goal

pub returns : goal.returns
returns c = record {
  value = λ order.
      ends_made (part_of (tree_of c.args.part.now)) (tree_of c.in_ok-back.back) c.args.text.now c.in_ok-piece.piece.items c.deref.result.now c.args.low c.args.high _ _ c.args.stops c.args.next.now c.in_ok-table.table.items
      (c.in_ok-back.ensures.value order) c.deref.ensures.value c.requires.order c.requires.within c.in_ok-piece.ensures.size c.in_ok-piece.ensures.bytes refl refl c.in_ok-table.ensures.value;
}
