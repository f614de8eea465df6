use Rattle.std.proofs.Common.{refl}
use Rattle.ed_main.specs.declared.writing.Writing.TheVariants as writing
use Rattle.ed_main.proofs.Made.{made}
use Rattle.ed_main.proofs.task.do_task.Goals as goal

pub returns-in-AtOnce-clause-came : goal.returns-in-AtOnce-clause-came
returns-in-AtOnce-clause-came g c = rw c.in-AtOnce.is (made c.args.task _ _ _ (writing.AtOnce c.in-AtOnce.spares) c.do_over.ensures.came refl)

pub returns-in-AtTheEnd-clause-came : goal.returns-in-AtTheEnd-clause-came
returns-in-AtTheEnd-clause-came g c = rw c.in-AtTheEnd.is c.replace_whole.ensures.came

pub returns-in-Never-clause-came : goal.returns-in-Never-clause-came
returns-in-Never-clause-came g c = rw c.in-Never.is c.rehearse.ensures.came
