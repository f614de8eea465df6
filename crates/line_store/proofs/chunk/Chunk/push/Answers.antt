-- The last line has the flag or not.
use Rattle.std.proofs.Common.{◌≡◌, ◌∙◌, List, [], ◌∷◌, ◌++◌, refl, ap, sym, length, length-append, insert, arith}
use Rattle.line_store.specs.Kept.{flag_count}
use Rattle.line_store.proofs.chunk.Chunk.push.Goals as goal

insert-last : {X : Type 0} (list : List X) (x : X) → insert list (length list) x ≡ list ++ x ∷ []
insert-last [] x = refl
insert-last (first ∷ list) x = ap (λ t. first ∷ t) (insert-last list x)

pub invariant_of-self : goal.invariant_of-self
invariant_of-self c =
    let lines = c.self.inside.ring.items in
    let line = c.args.line in
    let is = c.push_back_reserved.ensures.items in (
      omega (arith, c.self.invariant.0, c.push_back_reserved.ensures.capacity),
      omega (arith, ap length is, length-append lines (line ∷ []), c.requires.room, ap length c.self.view_is),
      c.flags_with-self-inside.ensures lines (length lines) line (sym c.flag.ensures.value) c.self.invariant.2 ∙ ap flag_count (insert-last lines line ∙ sym is),
      tt,
    )
