use Rattle.std.proofs.Common.{subst}
use Rattle.ed_syntax.specs.PublicScript.{script_value}
use Rattle.ed_syntax.specs.PublicTypes.{steps_value}
use Rattle.analyser.specs.Following.{sight_over, begun}
use Rattle.analyser.specs.Passing.{IsPassed}
use Rattle.analyser.proofs.PassedOn.{vouched-by, fails-by, fails-at_end}
use Rattle.analyser.proofs.judging.judgement.Goals as goal

pub returns-in-Fails : goal.returns-in-Fails
returns-in-Fails c =
    let w = sight_over (script_value c.args.script.now) c.args.start.now in
    let stops = subst (λ o. IsPassed w (steps_value c.args.script.now.commands.items) (begun (script_value c.args.script.now) c.args.start.now) c.args.passage.count c.args.passage.quit o)
    c.in-Fails.is c.requires.passed in
    record { exact = fails-by (script_value c.args.script.now) c.args.start.now c.in-Fails.place c.in-Fails.why stops }

pub returns-in-Some : goal.returns-in-Some
returns-in-Some c =
    let w = sight_over (script_value c.args.script.now) c.args.start.now in
    let passes = subst (λ o. IsPassed w (steps_value c.args.script.now.commands.items) (begun (script_value c.args.script.now) c.args.start.now) c.args.passage.count c.args.passage.quit o)
    c.in-Left.is c.requires.passed in
    record {
      exact = fails-at_end (script_value c.args.script.now) c.args.start.now c.args.passage.count c.args.passage.quit c.in-Left.last c.end_fault.result
          c.place_of.result c.in-Some.why passes c.end_fault.ensures.value c.in-Some.is c.place_of.ensures.value;
    }

pub returns : goal.returns
returns c =
    let w = sight_over (script_value c.args.script.now) c.args.start.now in
    let passes = subst (λ o. IsPassed w (steps_value c.args.script.now.commands.items) (begun (script_value c.args.script.now) c.args.start.now) c.args.passage.count c.args.passage.quit o)
    c.in-Left.is c.requires.passed in
    record {
      exact = vouched-by (script_value c.args.script.now) c.args.start.now c.args.passage.count c.args.passage.quit c.in-Left.last c.end_fault.result
          passes c.end_fault.ensures.value c.in-None.is;
    }
