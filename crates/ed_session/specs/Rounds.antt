-- What a round of driving leaves: how far the run has come, and what is written of it.
use Rattle.std.specs.Prelude.{ℕ, ◌≡◌, ◌<◌, ◌≤◌, ◌++◌, ◌⊎◌, List, [], true, false}
use Rattle.ed_session.specs.Sessions.{SessionValue, is_waiting, is_started}
use Rattle.ed_session.specs.Calls.{Leads}
use Rattle.ed_session.specs.Drives.{Log, added, requests, answers, AllFit}
use Rattle.ed_session.specs.Sinks.{SinkChange, Took}

-- an answer that doesn't fit has raised the outside's count
abbrev pub Raises : Log → ℕ → ℕ → Type 0
Raises log before now = AllFit log ⊎ (before < now)

-- a session was led on by the answers that a log has more, and can be stepped
pub record Performs (old new : SessionValue) (old_log new_log : Log) (before now : ℕ) : Type 0 where
  pub log : new_log ≡ old_log ++ added old_log new_log
  pub leads : Leads old (answers (added old_log new_log)) [] (requests (added old_log new_log)) new
  pub raises : Raises (added old_log new_log) before now
  pub rises : before ≤ now
  pub idle : is_waiting new.phase ≡ false
  pub started : is_started new.phase ≡ true

-- a session that was driven so far, and whose output was written
pub record Driven (from : SessionValue) (log : Log) (sink : SinkChange) (now : SessionValue) : Type 0 where
  pub output : List ℕ
  pub wrote : Took sink output
  pub leads : Leads from (answers log) output (requests log) now
