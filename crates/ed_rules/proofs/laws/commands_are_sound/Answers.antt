use Rattle.ed_rules.proofs.sound.Asking as asking
use Rattle.ed_rules.proofs.sound.Sound.{Laws, command_sound}
use Rattle.ed_rules.proofs.laws.commands_are_sound.Goals as goal

pub returns : goal.returns
returns c =
    let answers : asking.Laws = record {
      unasked = c.answers_are_asked_for.ensures.unasked;
      once = c.answers_are_asked_for.ensures.once;
      served = c.answers_are_asked_for.ensures.served;
      written = c.answers_are_asked_for.ensures.written;
    } in
    let laws : Laws = record {
      answers = answers;
      order = c.commands_are_placed.ensures.order;
      marks = c.commands_keep_marks.ensures.marks;
      lines = c.commands_keep_lines.ensures.lines;
    } in
    record { sound = command_sound laws }
