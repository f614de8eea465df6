-- A line begins after a newline, or with the text.
use Rattle.ed_commands.proofs.Courses.{cut-after-newline}
use Rattle.ed_commands.proofs.editor.first_line.line_start.Goals as goal

pub returns-in-Some-clause-cut : goal.returns-in-Some-clause-cut
returns-in-Some-clause-cut c = (cut-after-newline c.args.text.now c.args.place c.in-Some.at c.in-Some.ensures.0.high c.requires.place c.in-Some.ensures.1).cut

pub returns-in-Some-clause-written : goal.returns-in-Some-clause-written
returns-in-Some-clause-written c = (cut-after-newline c.args.text.now c.args.place c.in-Some.at c.in-Some.ensures.0.high c.requires.place c.in-Some.ensures.1).written
