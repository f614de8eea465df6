use Rattle.std.proofs.Common.{rules}
use Rattle.ed_syntax.proofs.Alike.{begin_alike}
use Rattle.ed_syntax.proofs.script.Script.begins_as.Goals as goal

-- so many commands of each are the same
pub returns-then-before-len-2 : goal.returns-then-before-len-2
returns-then-before-len-2 c = record {
  exact = begin_alike c.args.before c.args.self.now c.args.new.now _ _ c.same_steps.result (search rules) (search rules) (search rules) (search rules) c.same_steps.ensures.exact;
}
