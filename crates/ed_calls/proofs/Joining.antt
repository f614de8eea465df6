-- A session that was started with an answer and then driven has done what the run of its script says.
use Rattle.std.proofs.Common.{◌≡◌, ◌≢◌, ◌<◌, ◌⊎◌, ◌∙◌, ℕ, List, [], ◌++◌, Bool, true, Option, Some, None, Result, Err, inl, inr, refl, ap, sym, subst, append-nil}
use Rattle.std.specs.Prelude.{IsFalse}
use Rattle.std.proofs.lemmas.List.{map-append}
use Rattle.ed_base.specs.declared.fault.Fault.{Fault}
use Rattle.ed_base.specs.declared.fault.Fault.TheVariants.{Memory, File, Output}
use Rattle.ed_syntax.specs.declared.options.Ending.{Ending}
use Rattle.ed_syntax.specs.declared.options.Options.{Options}
use Rattle.ed_syntax.specs.declared.request.Answer.{Answer}
use Rattle.ed_syntax.specs.declared.request.Request.{Request}
use Rattle.ed_syntax.specs.Commands.{Script}
use Rattle.ed_syntax.specs.meaning.Laws.{starts, LastUnserved, last, next, FileCause, at_start, at_command, after_start, FilesHaveACause, NeverEndsBy}
use Rattle.ed_syntax.specs.meaning.Progress.{Stops, Ends, asked_of, output_of, stop_of, RunsOut, CutsAfter}
use Rattle.ed_syntax.specs.meaning.Runs.{run}
use Rattle.ed_session.specs.declared.phase.Phase.{Phase}
use Rattle.ed_session.specs.declared.phase.Phase.TheVariants as phases
use Rattle.ed_session.specs.Calls.{written, GoesOn, BreaksOff, Leads, Starts}
use Rattle.ed_session.specs.Drives.{Log, answers, requests, Drove, Begun, CutOff, Finished, EndsMissing, FileRefused, of_commands}
use Rattle.ed_session.specs.Sessions.{SessionValue, made, path_of, rest, is_started}
use Rattle.ed_session.specs.Sinks.{SinkChange, Took, Failed}
use Rattle.ed_calls.specs.Edit as edit
use Rattle.ed_calls.specs.Edit.{ComesTo}
use Rattle.ed_calls.specs.Run.{reading}
use Rattle.ed_calls.specs.RunOver as parts
use Rattle.ed_calls.specs.RunOver.{RunsOver}
use Rattle.ed_calls.proofs.Correctness.{comes_after}
use Rattle.ed_session.proofs.Leading.{over_is, rest_over, stop_after}
use Rattle.ed_calls.proofs.Steps.{no_steps}

-- what a start leads a session to
starts_lead : (path : Option (List ℕ)) (from : SessionValue) (a : Answer) (now : SessionValue) → Starts path from a now →
    Leads from (answers (reading path a)) [] (requests (reading path a)) now
starts_lead None from a now s = inl s
starts_lead (Some path) from a now s = s

-- after memory ran out nothing is written or asked
silent : (help : Bool) (asked : List Request) (output : List ℕ) → Begun (Stops help (Ends (Err Memory))) asked output ⊎ RunsOut (Stops help (Ends (Err Memory))) output asked
    → (output ≡ []) × (asked ≡ [])
silent help asked output (inl b) = (sym b.wrote ∙ ap written (no_steps help _ b.events b.left b.whole), sym b.answered)
silent help asked output (inr r) = (r.written, r.answered)

module _ (cuts : CutsAfter) (from now : SessionValue) (given : List Answer) (asked : List Request) (log : Log) (sink : SinkChange) (result : Result Ending Fault) (none : from.pending ≡ []) where
  went_on : Drove now log sink result → GoesOn from given [] asked now
      → ComesTo (rest from (given ++ answers log)) (asked ++ requests log) sink result
  went_on drove x =
      let pending : now.pending ≡ written x.events = sym x.handed_out ∙ ap (λ p. p ++ written x.events) none in
      subst (λ r. ComesTo (rest from (given ++ answers log)) (r ++ requests log) sink result) x.answered
      (comes_after cuts now x.events (rest from (given ++ answers log)) log sink result (x.same (answers log)) pending drove)

  -- what was pending when memory ran out is all that is written
  cut_there : (b : BreaksOff from given [] asked now) (output : List ℕ) → b.written ≡ output → requests log ≡ [] →
      RunsOut (rest from (given ++ answers log)) output (asked ++ requests log)
  cut_there b output wrote silence =
      subst (λ o. RunsOut (rest from (given ++ answers log)) o (asked ++ requests log)) wrote
      (subst (λ r. RunsOut (rest from (given ++ answers log)) b.written r) (sym (ap (λ r. asked ++ r) silence ∙ append-nil asked)) (b.cut (answers log)))

  pending_is : (b : BreaksOff from given [] asked now) → now.pending ≡ b.written
  pending_is b = sym b.handed_out ∙ ap (λ p. p ++ b.written) none

  lost_finished : (b : BreaksOff from given [] asked now) → Finished now log sink result → ComesTo (rest from (given ++ answers log)) (asked ++ requests log) sink result
  lost_finished b x =
      let over = rest_over now (Err Memory) (answers log) b.over in
      let all : now.pending ++ output_of (rest now (answers log)) ≡ b.written = ap (λ p. now.pending ++ output_of p) over ∙ append-nil now.pending ∙ pending_is b in
      let ends : Ends (Err Memory) ≡ Ends result = sym (ap stop_of over) ∙ x.ended in
      let silence : requests log ≡ [] = sym x.asked ∙ ap asked_of over in
      edit.cut b.written (cut_there b b.written refl silence) (subst (λ o. Took sink o) all x.wrote) cc

  lost_refused : (b : BreaksOff from given [] asked now) → Failed sink → CutOff now log sink → result ≡ Err Output
      → ComesTo (rest from (given ++ answers log)) (asked ++ requests log) sink result
  lost_refused b risen c lost =
      let over = rest_over now (Err Memory) (answers log) b.over in
      let none_after = silent now.present.help (requests log) c.output
      (subst (λ p. Begun p (requests log) c.output ⊎ RunsOut p c.output (requests log)) over c.run) in
      let front : b.written ≡ c.part ++ c.front.0 =
      sym (ap (λ p. now.pending ++ p) none_after.0 ∙ append-nil now.pending ∙ pending_is b) ∙ c.front.1 in
      edit.refused c.part c.front.0 (inr (cut_there b (c.part ++ c.front.0) front none_after.1)) c.front.2 c.took risen lost

  broke_off : Drove now log sink result → BreaksOff from given [] asked now
      → ComesTo (rest from (given ++ answers log)) (asked ++ requests log) sink result
  broke_off (inl x) b = lost_finished b x.1
  broke_off (inr (inl x)) b = absurd (let e = over_is now.phase (Err Memory) b.over in let f = (x.2).running in cc)
  broke_off (inr (inr x)) b = lost_refused b x.1 x.2 x.0

  joined : Drove now log sink result → Leads from given [] asked now
      → ComesTo (rest from (given ++ answers log)) (asked ++ requests log) sink result
  joined drove (inl x) = went_on drove x
  joined drove (inr b) = broke_off drove b

-- a session just made starts at the path of its options
pub starts_at : (script : Script) (o : Options) (from now : SessionValue) (a : Answer) → from ≡ made script o → Starts (path_of from.phase) from a now → Starts o.path from a now
starts_at script o from now a e started = subst (λ p. Starts p from a now) (ap (λ v. path_of v.phase) e) started

-- so a script was run over its start
pub runs_over : CutsAfter → (script : Script) (o : Options) (start : Answer) (from now : SessionValue) (later : Log) (sink : SinkChange) (result : Result Ending Fault)
    → ((given : List Answer) → rest from given ≡ run script o given) → from ≡ made script o → Starts o.path from start now → Drove now later sink result
    → RunsOver script o start later sink result
runs_over cuts script o start from now later sink result is new_one started drove =
    let none : from.pending ≡ [] = ap (λ v. v.pending) new_one in
    let begun : Log = reading o.path start in
    let told : answers (begun ++ later) ≡ answers begun ++ answers later = map-append (λ (entry : Request × Answer). entry.1) begun later in
    let asked : requests (begun ++ later) ≡ requests begun ++ requests later = map-append (λ (entry : Request × Answer). entry.0) begun later in
    parts.driven
    (subst (λ p. ComesTo p (requests (begun ++ later)) sink result) (is (answers begun ++ answers later) ∙ ap (run script o) (sym told))
    (subst (λ r. ComesTo (rest from (answers begun ++ answers later)) r sink result) (sym asked)
    (joined cuts from now (answers begun) (requests begun) later sink result none drove (starts_lead o.path from start now started))))

-- a session that is over by a fault other than memory has come to the end of its run
ended_by : (f : Fault) (from now : SessionValue) (given : List Answer) (asked : List Request) → f ≢ Memory → Leads from given [] asked now → now.phase ≡ phases.Over (Err f)
    → stop_of (rest from (given ++ [])) ≡ Ends (Err f)
ended_by f from now given asked other (inl x) over = ap stop_of (x.same []) ∙ stop_after x.events (rest now []) ∙ ap stop_of (rest_over now (Err f) [] over)
ended_by f from now given asked other (inr b) over = absurd (other (let e = b.over in cc))

unanswered : {asked : List Request} {given : List Answer} → LastUnserved asked given → given ≡ [] → ⊥
unanswered (last r a more is) e = cc
unanswered (next r a asked given is) e = cc

-- one that ends by a file before any command had a start that was refused
refused_start : (path : Option (List ℕ)) (a : Answer) {start : Option (List ℕ)} {asked : List Request} {given : List Answer} → FileCause start asked given → start ≡ path →
    given ≡ answers (reading path a) ++ [] → IsFalse (starts a)
refused_start None a (at_start p b more is) e f = cc
refused_start None a (at_command asked given is) e f = absurd (unanswered is f)
refused_start None a (after_start p b asked given is) e f = cc
refused_start (Some path) a (at_start p b more is) e f = let same : b ≡ a = cc in subst (λ x. IsFalse (starts x)) same is
refused_start (Some path) a (at_command asked given is) e f = cc
refused_start (Some path) a (after_start p b asked given is) e f = let none : given ≡ [] = cc in absurd (unanswered is none)

-- what a session that has started is asked is asked by commands
of_started : (p : Phase) (log : Log) → is_started p ≡ true → of_commands p log ≡ log
of_started (phases.Fresh path) log h = cc
of_started phases.Between log h = refl
of_started phases.Prompted log h = refl
of_started phases.Waiting log h = refl
of_started (phases.Over result) log h = refl

module _ (script : Script) (o : Options) (start : Answer) (from now : SessionValue) (is : (given : List Answer) → rest from given ≡ run script o given) (started : Starts o.path from start now) where
  -- the end of the run where the start has ended it
  ends_run : (f : Fault) → f ≢ Memory → now.phase ≡ phases.Over (Err f) → stop_of (run script o (answers (reading o.path start) ++ [])) ≡ Ends (Err f)
  ends_run f other over =
      sym (ap stop_of (is (answers (reading o.path start) ++ [])))
      ∙ ended_by f from now (answers (reading o.path start)) (requests (reading o.path start)) other (starts_lead o.path from start now started) over

  pub file_refused : FilesHaveACause → (log : Log) (before failed : ℕ) → is_started now.phase ≡ true → FileRefused now log before failed
      → IsFalse (starts start) ⊎ ((before < failed) ⊎ EndsMissing log)
  file_refused caused log before failed begun (inl x) = inr (inl x)
  file_refused caused log before failed begun (inr (inl x)) = inr (inr (subst EndsMissing (of_started now.phase log begun) x))
  file_refused caused log before failed begun (inr (inr over)) =
      inl (refused_start o.path start (caused script o (answers (reading o.path start) ++ []) (ends_run File (λ e. cc) over)) refl refl)

  pub output_there : NeverEndsBy Output → now.phase ≢ phases.Over (Err Output)
  output_there never over = never script o (answers (reading o.path start) ++ []) (ends_run Output (λ e. cc) over)
