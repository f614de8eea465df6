-- The analyser's answer is for the start that the script is judged over, of which a copy is kept.
use Rattle.std.proofs.Common.{◌≡◌, Some, sym, subst}
use Rattle.ed_syntax.specs.Commands.{Script}
use Rattle.analyser.specs.declared.analysis.Start.{Start}
use Rattle.ed_calls.specs.Names.{first_unusable}
use Rattle.ed_calls.specs.Starts.{IsJudgedFor}
use Rattle.ed_calls.specs.Vouch.{IsAnswerFor}
use Rattle.ed_calls.proofs.judging.judge.Goals as goal

pub returns-in-Some : goal.returns-in-Some
returns-in-Some c =
    let same = c.in_ok-kept.ensures.value in
    record {
      found = record {
        start = c.in_ok-kept.kept;
        answer = c.in_ok-analysis.analysis;
        over = subst (IsJudgedFor c.args.script.now c.args.starts.now) (sym same) c.in_ok-start.ensures.judged;
        exact = subst (λ (s : Start). IsAnswerFor c.args.script.now s c.in_ok-analysis.analysis) (sym same)
            (c.in_ok-analysis.ensures.answers c.args.script.now c.in_ok-read.ensures.value);
        named = subst (λ (s : Script). first_unusable s c.in_ok-kept.kept c.in_ok-analysis.analysis ≡ Some c.in-Some.place) c.in_ok-read.ensures.value
            (sym c.in-Some.ensures.value);
      };
    }
