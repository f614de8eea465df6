use Rattle.cert_check.proofs.verdicts.Running.{Laws}
use Rattle.cert_check.proofs.verdicts.Turning.{ListLaws, global-goes-well}
use Rattle.cert_check.proofs.laws.checked_globals_go_well.Goals as goal

pub returns : goal.returns
returns c =
    let single : Laws = record {
      command = c.commands_are_sound.ensures.sound;
      needs = c.needs_are_the_same_whatever_is_watched.ensures.needs;
      decided = c.covering_is_decided.ensures.exact;
      weaker = c.weaker_states_stand_for_more.ensures.covers;
    } in
    let laws : ListLaws = record {
      single = single;
      changes = c.lists_note_changes.ensures.notes;
      counts = c.lists_add_no_flags.ensures.flags;
      begun = c.globals_are_sound.ensures.start;
      flags = c.globals_are_sound.ensures.flags;
      taken = c.globals_are_sound.ensures.taken;
      none = c.globals_are_sound.ensures.none;
      turn = c.globals_are_sound.ensures.turn;
      once = c.globals_are_sound.ensures.once;
      over = c.globals_are_sound.ensures.end;
    } in
    record { sound = global-goes-well laws }
