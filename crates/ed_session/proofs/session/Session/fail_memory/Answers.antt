use Rattle.std.proofs.Common.{◌∙◌, [], ap}
use Rattle.ed_base.specs.declared.fault.Fault.TheVariants.{Memory}
use Rattle.ed_syntax.specs.meaning.Progress.{report}
use Rattle.ed_session.proofs.Advancing.{breaks_here, ends_by_memory}
use Rattle.ed_session.proofs.session.Session.fail_memory.Goals as goal

pub returns-clause-broke : goal.returns-clause-broke
returns-clause-broke g c =
    let ends = ends_by_memory _ _ _ c.end.ensures.ended in
    breaks_here c.args.self.now _ [] c.requires.running c.requires.handed_out ends.0 (ends.1 ∙ ap (λ u. report u.present.help Memory) c.self.view_is)
