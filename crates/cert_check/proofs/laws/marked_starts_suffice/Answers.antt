use Rattle.cert_check.proofs.verdicts.Running.{Laws, RunLaws}
use Rattle.cert_check.proofs.verdicts.Starting.{marked-safe}
use Rattle.cert_check.proofs.laws.marked_starts_suffice.Goals as goal

pub returns : goal.returns
returns c =
    let single : Laws = record {
      command = c.commands_are_sound.ensures.sound;
      needs = c.needs_are_the_same_whatever_is_watched.ensures.needs;
      decided = c.covering_is_decided.ensures.exact;
      weaker = c.weaker_states_stand_for_more.ensures.covers;
    } in
    let laws : RunLaws = record {
      single = single;
      global = c.checked_globals_go_well.ensures.sound;
      placed = c.commands_are_placed.ensures.placed;
      no_flags = c.globals_are_sound.ensures.no_flags;
      known = c.known_bounds_are_true.ensures.known;
    } in
    record { sound = marked-safe laws c.unnamed_letters_change_nothing.ensures.start c.unnamed_letters_change_nothing.ensures.lines }
