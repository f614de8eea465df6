-- The first line has the flag or not.
use Rattle.std.proofs.Common.{◌≡◌, ◌∙◌, List, [], ◌∷◌, refl, ap, sym, length, insert, arith}
use Rattle.line_store.specs.Kept.{flag_count}
use Rattle.line_store.proofs.chunk.Chunk.push_first.Goals as goal

insert-first : {X : Type 0} (list : List X) (x : X) → insert list 0 x ≡ x ∷ list
insert-first [] x = refl
insert-first (first ∷ list) x = refl

pub invariant_of-self : goal.invariant_of-self
invariant_of-self c =
    let lines = c.self.inside.ring.items in
    let line = c.args.line in
    let is = c.push_front_reserved.ensures.items in (
      omega (arith, c.self.invariant.0, c.push_front_reserved.ensures.capacity),
      omega (arith, ap length is, c.requires.room, ap length c.self.view_is),
      c.flags_with-self-inside.ensures lines 0 line (sym c.flag.ensures.value) c.self.invariant.2 ∙ ap flag_count (insert-first lines line ∙ sym is),
      tt,
    )
