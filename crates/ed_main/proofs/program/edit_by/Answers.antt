use Rattle.ed_main.proofs.program.edit_by.Goals as goal

pub edit_wanted-requires : goal.edit_wanted-requires
edit_wanted-requires g c = record { given = rw c.in-Some.is at c.requires.given }

pub returns-in-Some-clause-did : goal.returns-in-Some-clause-did
returns-in-Some-clause-did g c = λ named. rw c.in-Some.is c.edit_wanted.ensures.came

pub returns-in-None-clause-did : goal.returns-in-None-clause-did
returns-in-None-clause-did g c = λ named. rw c.in-None.is c.edit_file.ensures.came
