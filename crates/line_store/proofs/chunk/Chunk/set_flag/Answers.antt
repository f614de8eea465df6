-- The line has the flag or not, and the same bytes.
use Rattle.std.proofs.Common.{◌≡◌, ◌<◌, ◌∙◌, [], ap, sym, length, get_or, arith}
use Rattle.std.proofs.lemmas.List.{get_or_default, length-set}
use Rattle.ed_base.specs.Buffer.{Line, plain_line, with_flag}
use Rattle.line_store.proofs.Runs.{run-same}
use Rattle.line_store.proofs.chunk.Chunk.set_flag.Goals as goal

pub invariant_of-self : goal.invariant_of-self
invariant_of-self c =
    let lines = c.self.inside.ring.items in
    let i = c.args.i in
    let new = c.set_flag.new.self in
    let within : i < length lines = omega (arith, c.requires.place, ap length c.self.view_is) in
    let seen : c.index.result.now ≡ get_or lines i (plain_line []) =
    c.index.ensures ∙ get_or_default lines i c.index.result.now (plain_line []) within in
    let old : c.index_mut.result.now ≡ get_or lines i (plain_line []) =
    c.index_mut.ensures.value ∙ get_or_default lines i c.index_mut.result.now (plain_line []) within in (
      c.self.invariant.0,
      omega (arith, length-set lines i new, c.self.invariant.1),
      c.flags_exchanged-self-inside.ensures lines i new within (omega (arith, c.self.invariant.1))
          (sym (c.flag-before.ensures.value ∙ ap (λ (l : Line). l.flag) seen)) (ap (λ (l : Line). l.flag) c.set_flag.ensures.value)
          c.self.invariant.2,
      run-same c.self.inside.run lines i new (ap (λ (l : Line). l.bytes) (c.set_flag.ensures.value ∙ ap (with_flag c.args.flag) old))
          c.self.invariant.3,
    )
