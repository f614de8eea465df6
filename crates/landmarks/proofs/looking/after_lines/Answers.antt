use Rattle.std.proofs.Common.{◌≡◌, [], refl, ◌∙◌, ap, sym, arith}
use Rattle.ed_base.specs.Lines.{lines_of}
use Rattle.landmarks.proofs.Lines.{rest-next, rest-over}
use Rattle.landmarks.proofs.looking.after_lines.Goals as goal

pub loop-passed-preserved : goal.loop-passed-preserved
loop-passed-preserved c = rest-next (lines_of c.args.file.now) (lines_of c.in-Some.rest.now) _ _ (sym c.in-Some.ensures.first ∙ c.loop-passed.invariant)

pub returns-in-None : goal.returns-in-None
returns-in-None c =
    let none : c.loop-passed.left.now ≡ [] = c.in-None.ensures.ended.0 refl in
    record { value = ap lines_of none ∙ rest-over (lines_of c.args.file.now) _ c.args.count (sym (ap lines_of none) ∙ c.loop-passed.invariant) (omega arith) }
