-- What a task comes to, by its run and by how the writes of that were made.
use Rattle.std.proofs.Common.{◌≡◌, ℕ, sym, subst}
use Rattle.ed_session.specs.Drives.{Log}
use Rattle.ed_main.specs.Program.{AreMade, Comes, Ran, Somehow}
use Rattle.ed_main.specs.declared.task.Task.{Task}
use Rattle.ed_main.specs.declared.writing.Writing.{Writing}

module _ (task : Task) (log : Log) (ran status : ℕ) where
  pub made : (writes : Writing) → Ran task log ran → AreMade writes log ran status → Somehow (Comes writes task) status
  made writes came are =
      let so : AreMade writes came.0.log ran status = subst (λ l. AreMade writes l ran status) (sym came.1.0) are in
      (came.0, (ran, (came.1.1, so)))
