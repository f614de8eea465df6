use Rattle.std.proofs.Common.{◌≡◌, sym, ◌∙◌, subst}
use Rattle.landmarks.specs.Spelled.{SpellsChain}
use Rattle.landmarks.proofs.writing.write_chain.Goals as goal

pub returns-then-are_same : goal.returns-then-are_same
returns-then-are_same c =
    let same : c.in-Ok.read.items ≡ c.args.chain.now = sym c.as_slice-in-Ok.ensures.value ∙ c.are_same.ensures.exact.0 c.if-are_same.true in
    record { spelled = subst (λ text. SpellsChain text c.args.chain.now) c.as_slice.ensures.value (subst (SpellsChain c.as_slice.result.now) same c.in-Ok.ensures.exact) }
