-- The part and the bytes that follow it.
use Rattle.std.proofs.Common.{◌≡◌, ◌++◌, ◌∙◌, ap, sym, length, nat_eq, true, arith}
use Rattle.std.specs.List.{slice_range, starts_with}
use Rattle.ed_base.proofs.PieceLemmas.{part-grown}
use Rattle.ed_base.proofs.part.Part.grow.Goals as goal

pub returns-clause-grown : goal.returns-clause-grown
returns-clause-grown c _ =
    let e = c.self.inside in
    let file : c.as_slice.result.now ≡ e.block.value = c.as_slice.ensures.value ∙ c.deref.ensures in
    let follows : true ≡ starts_with nat_eq (slice_range e.block.value c.args.place (length e.block.value)) c.args.bytes.now =
    sym c.if-not-starts_with.false ∙ c.starts_with.ensures.value ∙ ap (λ f. starts_with nat_eq (slice_range f c.args.place (length f)) c.args.bytes.now) file in
    part-grown e.block.value c.args.bytes.now e.start e.end c.args.place (omega (arith, c.self.invariant)) c.if-self-place.false follows
    ∙ ap (λ t. t ++ c.args.bytes.now) c.self.view_is
