use Rattle.analyser.proofs.ExactRuns.{Laws}
use Rattle.analyser.proofs.ExactAnswers.{foretold}
use Rattle.analyser.proofs.laws.exact_scripts_are_foretold.Goals as goal

pub returns : goal.returns
returns c =
    let laws : Laws = record {
      command = c.exact_commands_are_exact.ensures.command;
      needs = c.needs_are_the_same_whatever_is_watched.ensures.needs;
      unasked = c.answers_are_asked_for.ensures.unasked;
      once = c.answers_are_asked_for.ensures.once;
    } in
    record { exact = foretold laws c.exact_commands_are_exact.ensures.start }
