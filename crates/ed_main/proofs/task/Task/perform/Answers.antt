use Rattle.ed_main.proofs.task.Task.perform.Goals as goal

pub returns-in-Unchecked-clause-came : goal.returns-in-Unchecked-clause-came
returns-in-Unchecked-clause-came g c = rw c.in-Unchecked.is c.edit.ensures.correct

pub returns-in-Certified-clause-came : goal.returns-in-Certified-clause-came
returns-in-Certified-clause-came g c = rw c.in-Certified.is c.run.ensures.came

pub returns-in-Vouched-clause-came : goal.returns-in-Vouched-clause-came
returns-in-Vouched-clause-came g c = rw c.in-Vouched.is c.edit_vouched.ensures.came

pub edit_vouched-requires-clause-allowed : goal.edit_vouched-requires-clause-allowed
edit_vouched-requires-clause-allowed g c = rw c.in-Vouched.is at c.requires.trusted
