use Rattle.std.proofs.Common.{arith, refl, sym}
use Rattle.ed_rules.specs.Substituting.{mark_substituted}
use Rattle.ed_rules.proofs.Folds.{for_each_sure-no_marks}
use Rattle.ed_rules.proofs.state.State.substitute_marks.Goals as goal

pub returns-then-are_none : goal.returns-then-are_none
returns-then-are_none c = record {
  exact = sym (for_each_sure-no_marks (mark_substituted c.args.self.now.zone c.args.splits) c.args.self.now.marks 26 c.args.self.now (omega arith)
      (c.if-are_none.ensures.exact.0 refl));
}
