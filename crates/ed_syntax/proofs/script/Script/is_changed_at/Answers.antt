use Rattle.std.proofs.Common.{rules, ◌+◌}
use Rattle.ed_syntax.proofs.Alike.{what_follows, changed_at}
use Rattle.ed_syntax.proofs.script.Script.is_changed_at.Goals as goal

-- the commands after the place are the same
pub returns-then-added-len : goal.returns-then-added-len
returns-then-added-len c = record {
  exact = changed_at c.args.before c.args.removed c.args.added c.args.self.now c.args.new.now _ _ c.same_steps.result (what_follows (c.args.before + c.args.removed) _ _ (search rules)) (what_follows (c.args.before + c.args.added) _ _ (search rules)) (search rules) (search rules) (search rules) (search rules) c.same_steps.ensures.exact;
}
