use Rattle.std.proofs.Common.{◌≡◌, ℕ, List, Option, sym, subst}
use Rattle.ed_syntax.specs.declared.options.Options.{Options}
use Rattle.ed_main.specs.declared.job.Job.{Job}
use Rattle.ed_main.specs.declared.job.Job.TheVariants as jobs
use Rattle.ed_main.specs.declared.writing.Writing.{Writing}
use Rattle.ed_main.specs.declared.wanted.Wanted.{Wanted}
use Rattle.ed_main.specs.Program.{Does}
use Rattle.ed_main.specs.Wanted as meaning
use Rattle.ed_main.proofs.program.do_job.Goals as goal

-- what an edit comes to, whatever its script's file is called
edit-did : (script : List ℕ) (job : Job) (options : Options) (named : Option (List ℕ)) (writes : Writing) (judged : Option Wanted) (status : ℕ) →
    job ≡ jobs.Edit options named writes judged → ((other : Option (List ℕ)) → Does script (jobs.Edit options other writes judged) status) →
    Does script job status
edit-did script job options named writes judged status is did = subst (λ (j : Job). Does script j status) (sym is) (did named)

pub returns-in-Edit-clause-did : goal.returns-in-Edit-clause-did
returns-in-Edit-clause-did g c = edit-did _ _ _ _ _ _ _ c.in-Edit.is c.edit_by.ensures.did

pub returns-in-Vouch-clause-did : goal.returns-in-Vouch-clause-did
returns-in-Vouch-clause-did g c = rw c.in-Vouch.is c.vouch_wanted.ensures.came

pub returns-in-Judge-clause-did : goal.returns-in-Judge-clause-did
returns-in-Judge-clause-did g c = rw c.in-Judge.is c.judge_wanted.ensures.came

pub returns-in-Explain-clause-did : goal.returns-in-Explain-clause-did
returns-in-Explain-clause-did g c = rw c.in-Explain.is c.explain_wanted.ensures.came

pub returns-in-ExplainBy-clause-did : goal.returns-in-ExplainBy-clause-did
returns-in-ExplainBy-clause-did g c = rw c.in-ExplainBy.is c.explain_at.ensures.came

pub returns-in-Ok-clause-did : goal.returns-in-Ok-clause-did
returns-in-Ok-clause-did g c = rw c.in-Check.is (meaning.read c.as_slice.result.now c.check_file.ensures.came)

pub returns-in-Check-clause-did : goal.returns-in-Check-clause-did
returns-in-Check-clause-did g c = rw c.in-Check.is (meaning.unread _ c.status_of_read.ensures.value)

pub returns-in-Run-clause-did : goal.returns-in-Run-clause-did
returns-in-Run-clause-did g c = rw c.in-Run.is c.run_file.ensures.came

pub returns-in-Ok-bytes_at-clause-did : goal.returns-in-Ok-bytes_at-clause-did
returns-in-Ok-bytes_at-clause-did g c = rw c.in-Fits.is (meaning.read c.as_slice-in-Ok-bytes_at.result.now c.fit_file.ensures.came)

pub returns-clause-did : goal.returns-clause-did
returns-clause-did g c = rw c.in-Fits.is (meaning.unread _ c.status_of_read-in-Err-bytes_at.ensures.value)
