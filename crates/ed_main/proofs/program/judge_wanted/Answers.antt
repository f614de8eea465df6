use Rattle.std.specs.Prelude.{ℕ}
use Rattle.ed_calls.specs.declared.starts.Starts.{Starts}
use Rattle.ed_main.specs.Several.{Judges}
use Rattle.ed_main.proofs.StartLemmas.{unused, used}
use Rattle.ed_main.proofs.program.judge_wanted.Goals as goal

pub returns-in-Ok-clause-came : goal.returns-in-Ok-clause-came
returns-in-Ok-clause-came g c =
    let Used : Starts → ℕ → Type 0 = λ starts. Judges c.args.script.now starts c.args.scripts.now in
    used Used _ _ _ c.args.wanted c.in-Ok.starts c.in-Ok.ensures.found c.judge_scripts.ensures.judged

pub returns-clause-came : goal.returns-clause-came
returns-clause-came g c =
    let Used : Starts → ℕ → Type 0 = λ starts. Judges c.args.script.now starts c.args.scripts.now in
    unused Used _ _ _ c.args.wanted c.in-Err.no_start c.in-Err.ensures.only_if_unfit c.refuse.ensures.value
