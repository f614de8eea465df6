use Rattle.ed_rules.proofs.sound.FlagsKept.{flags-kept, no-flags-kept, taken-have-flags, none-taken}
use Rattle.ed_rules.proofs.sound.Looping.{Laws, start-sound, turn-sound, end-sound}
use Rattle.ed_rules.proofs.sound.OneTaken.{once-sound}
use Rattle.ed_rules.proofs.laws.globals_are_sound.Goals as goal

pub returns : goal.returns
returns c =
    let flags : Laws = record { marks = c.flags_change_no_line.ensures.marks; bytes = c.flags_change_no_line.ensures.lines } in
    record {
      start = start-sound c.commands_are_sound.ensures.sound;
      turn = turn-sound flags;
      once = once-sound flags;
      flags = flags-kept;
      no_flags = no-flags-kept;
      taken = taken-have-flags;
      none = none-taken;
      end = end-sound flags;
    }
