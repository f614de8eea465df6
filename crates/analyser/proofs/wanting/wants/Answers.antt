use Rattle.std.proofs.Common.{◌∙◌, sym, arith}
use Rattle.ed_syntax.specs.PublicScript.{script_value}
use Rattle.analyser.proofs.Unwanted.{wanted, seeks-here}
use Rattle.analyser.proofs.wanting.wants.Goals as goal

pub returns-then-seeks_first : goal.returns-then-seeks_first
returns-then-seeks_first c = record {
  sound = λ yes start unmarked none v.
      wanted c.args.pattern.now (script_value c.args.script.now) start c.commands.invariant.never
      (c.commands.invariant.left
      ∙ seeks-here c.args.pattern.now c.as_slice-command-items.result.now c.commands.command-index c.command-item.result (omega arith) c.command-item.is
      (sym c.seeks_first.ensures.value ∙ c.if-seeks_first.true))
      unmarked none v;
}
