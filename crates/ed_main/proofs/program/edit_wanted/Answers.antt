use Rattle.std.specs.Prelude.{ℕ}
use Rattle.ed_calls.specs.declared.starts.Starts.{Starts}
use Rattle.ed_main.specs.Letters.{WithLetters}
use Rattle.ed_main.specs.Program.{EditsVouched, Somehow, Writes}
use Rattle.ed_main.proofs.StartLemmas.{unused, used}
use Rattle.ed_main.proofs.program.edit_wanted.Goals as goal

pub returns-in-Ok-clause-came : goal.returns-in-Ok-clause-came
returns-in-Ok-clause-came g c =
    let Used : Starts → ℕ → Type 0 = λ starts. WithLetters c.args.script.now starts (Somehow (Writes c.args.writing (EditsVouched starts c.args.script.now c.args.options))) in
    used Used _ _ _ c.args.wanted c.in-Ok.starts c.in-Ok.ensures.found c.edit_if_lettered.ensures.came

pub returns-in-Err-clause-came : goal.returns-in-Err-clause-came
returns-in-Err-clause-came g c =
    let Used : Starts → ℕ → Type 0 = λ starts. WithLetters c.args.script.now starts (Somehow (Writes c.args.writing (EditsVouched starts c.args.script.now c.args.options))) in
    unused Used _ _ _ c.args.wanted c.in-Err.no_start c.in-Err.ensures.only_if_unfit c.refuse.ensures.value
