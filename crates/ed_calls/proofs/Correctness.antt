-- A session that was driven has done what the run of its script says.
use Rattle.std.proofs.Common.{◌≡◌, ◌∙◌, ℕ, List, [], ◌++◌, Option, Some, None, Result, Err, inl, inr, refl, ap, sym, subst, append_assoc}
use Rattle.ed_base.specs.declared.fault.Fault.{Fault}
use Rattle.ed_base.specs.declared.fault.Fault.TheVariants.{Memory, File, Output}
use Rattle.ed_syntax.specs.declared.options.Ending.{Ending}
use Rattle.ed_syntax.specs.declared.options.Options.{Options}
use Rattle.ed_syntax.specs.declared.request.Answer.{Answer}
use Rattle.ed_syntax.specs.meaning.Progress.{Progress, Event, after, asked_of, output_of, stop_of, RunsOut, CutsAfter}
use Rattle.ed_syntax.specs.reading.Reading.{script_of}
use Rattle.ed_syntax.specs.meaning.Runs.{run}
use Rattle.ed_syntax.specs.spelling.Spellings.{SpellsWhatIsRead}
use Rattle.ed_session.specs.declared.phase.Phase.{Phase}
use Rattle.ed_session.specs.declared.phase.Phase.TheVariants as phases
use Rattle.ed_session.specs.Calls.{written, heard}
use Rattle.ed_session.specs.Drives.{Log, answers, requests, Drove, EndsMissing, FileRefused, Finished, CutOff, of_commands}
use Rattle.ed_session.specs.Sessions.{SessionValue, rest}
use Rattle.ed_session.specs.Sinks.{SinkChange, SinkState, Took, Failed, change}
use Rattle.ed_calls.specs.Edit as edit
use Rattle.ed_calls.specs.Edit.{ComesTo, Correct, FileIsLost, after_start, status_at}
use Rattle.ed_session.proofs.Leading.{asked_after, output_after, stop_after}
use Rattle.ed_session.proofs.Taken.{some-more}
use Rattle.ed_calls.proofs.Steps.{runs_out_after}

-- A session was driven after some steps of the run, whose output was pending.
module _ (cuts : CutsAfter) (from : SessionValue) (events : List Event) (whole : Progress) (log : Log) (sink : SinkChange) (result : Result Ending Fault)
    (is : whole ≡ after events (rest from (answers log))) (pending : from.pending ≡ written events) where
  -- what was written of the steps and after them
  on : (output : List ℕ) → Took sink (from.pending ++ output) → Took sink (written events ++ output)
  on output wrote = subst (λ p. Took sink (p ++ output)) pending wrote

  cut_after : (output : List ℕ) → RunsOut (rest from (answers log)) output (requests log) → RunsOut whole (written events ++ output) (heard events ++ requests log)
  cut_after output r =
      subst (λ p. RunsOut p (written events ++ output) (heard events ++ requests log)) (sym is) (runs_out_after cuts events (rest from (answers log)) output (requests log) r)

  asked : asked_of (rest from (answers log)) ≡ requests log → asked_of whole ≡ heard events ++ requests log
  asked e = ap asked_of is ∙ asked_after events (rest from (answers log)) ∙ ap (λ r. heard events ++ r) e

  finished : Finished from log sink result → ComesTo whole (heard events ++ requests log) sink result
  finished x =
      edit.ended (ap stop_of is ∙ stop_after events (rest from (answers log)) ∙ x.ended) (asked x.asked)
      (subst (λ o. Took sink o) (sym (ap output_of is ∙ output_after events (rest from (answers log)))) (on (output_of (rest from (answers log))) x.wrote))

  cut_off : Failed sink → CutOff from log sink → result ≡ Err Output → ComesTo whole (heard events ++ requests log) sink result
  cut_off risen c lost =
      let front : written events ++ c.output ≡ c.part ++ c.front.0 = ap (λ p. p ++ c.output) (sym pending) ∙ c.front.1 in
      elim c.run [
        | inl b ↦
            let at : output_of whole ≡ written events ++ (written b.events ++ output_of b.left) =
            ap output_of is ∙ output_after events (rest from (answers log)) ∙ ap (λ o. written events ++ o) (ap output_of b.whole ∙ output_after b.events b.left) in
            edit.refused c.part (c.front.0 ++ output_of b.left)
            (inl (
              asked b.answered,
              at ∙ ap (λ w. written events ++ (w ++ output_of b.left)) b.wrote ∙ sym (append_assoc (written events) c.output (output_of b.left))
                  ∙ ap (λ w. w ++ output_of b.left) front ∙ append_assoc c.part c.front.0 (output_of b.left),
            ))
            (some-more c.front.0 (output_of b.left) c.front.2) c.took risen lost
        | inr r ↦
            edit.refused c.part c.front.0 (inr (subst (λ o. RunsOut whole o (heard events ++ requests log)) front (cut_after c.output r))) c.front.2 c.took risen lost
      ]

  pub comes_after : Drove from log sink result → ComesTo whole (heard events ++ requests log) sink result
  comes_after (inl x) = finished x.1
  comes_after (inr (inl x)) = let r = x.2 in edit.cut (written events ++ r.output) (cut_after r.output r.cut) (on r.output r.wrote) x.0
  comes_after (inr (inr x)) = cut_off x.1 x.2 x.0

-- what a session just made is asked by commands is asked after its start
asked_after_start : (path : Option (List ℕ)) (log : Log) → of_commands (phases.Fresh path) log ≡ after_start path log
asked_after_start None log = refl
asked_after_start (Some path) log = refl

-- so a file was lost where its run ends by one
lost_file : (path : Option (List ℕ)) (from : SessionValue) (log : Log) (before failed : ℕ) → from.phase ≡ phases.Fresh path → FileRefused from log before failed → FileIsLost path log before failed
lost_file path from log before failed fresh (inl x) = inl x
lost_file path from log before failed fresh (inr (inl x)) = inr (subst EndsMissing (ap (λ (at : Phase). of_commands at log) fresh ∙ asked_after_start path log) x)
lost_file path from log before failed fresh (inr (inr over)) = absurd cc

-- so it is correct
pub driven_correct : SpellsWhatIsRead script_of → CutsAfter → (from : SessionValue) (bytes : List ℕ) (options : Options) (log : Log) (before failed : ℕ) (sink : SinkChange) (result : Result Ending Fault)
    → from.phase ≡ phases.Fresh options.path → (result ≡ Err File → FileRefused from log before failed) → ((given : List Answer) → rest from given ≡ run (script_of bytes) options given) → from.pending ≡ [] → Drove from log sink result
    → Correct bytes options log before failed sink (status_at result)
driven_correct spells cuts from bytes options log before failed sink result fresh refused is none d = record {
  script = script_of bytes;
  spelled = spells bytes;
  result = result;
  comes = inl (comes_after cuts from [] (run (script_of bytes) options (answers log)) log sink result (sym (is (answers log))) none d);
  file_refused = λ e. lost_file options.path from log before failed fresh (refused e);
  status_is = refl;
}

-- there was no memory to begin
pub unbegun_correct : SpellsWhatIsRead script_of → (bytes : List ℕ) (options : Options) (log : Log) (before failed : ℕ) (state : SinkState) (status : ℕ) → log ≡ [] → status ≡ status_at (Err Memory) →
    Correct bytes options log before failed (change state state) status
unbegun_correct spells bytes options log before failed state status none is = record {
  script = script_of bytes;
  spelled = spells bytes;
  result = Err Memory;
  comes = inr (rw none refl, refl, refl);
  file_refused = λ e. absurd cc;
  status_is = is;
}
