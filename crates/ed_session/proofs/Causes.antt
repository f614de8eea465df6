-- By which faults what is left of a session's run can end.
use Rattle.std.proofs.Common.{◌≡◌, ◌∙◌, ◌⊎◌, inl, inr, ℕ, List, [], ◌∷◌, true, false, Option, Some, None, Result, Err, arith, refl, sym, ap, subst}
use Rattle.std.specs.Prelude.{◌≢◌}
use Rattle.std.proofs.lemmas.Bool.{false≢true}
use Rattle.std.proofs.lemmas.List.Elements.{All-tail}
use Rattle.ed_base.specs.declared.fault.Fault.{Fault}
use Rattle.ed_base.specs.declared.fault.Fault.TheVariants as fault
use Rattle.ed_syntax.specs.declared.options.Ending.{Ending}
use Rattle.ed_syntax.specs.declared.request.Answer.{Answer}
use Rattle.ed_syntax.specs.declared.request.Answer.TheVariants as answer
use Rattle.ed_syntax.specs.declared.request.Request.{Request}
use Rattle.ed_syntax.specs.declared.request.Request.TheVariants as request
use Rattle.ed_syntax.specs.Commands.{Step}
use Rattle.ed_syntax.specs.meaning.Laws.{LastUnserved, last, next, serves}
use Rattle.ed_syntax.specs.meaning.Progress.{Present, Progress, Writes, Ends, asked_of, stop_of}
use Rattle.ed_syntax.specs.meaning.Files.{loaded}
use Rattle.ed_syntax.specs.meaning.Runs.{Further, turns, steps, started, unprompted, with_state}
use Rattle.ed_syntax.proofs.meaning.RunLemmas.{Caused, own, refused, EndsWell, GoesWell, listed-well, turns-well, steps-well}
use Rattle.ed_session.specs.declared.phase.Phase.{Phase}
use Rattle.ed_session.specs.declared.phase.Phase.TheVariants as phases
use Rattle.ed_session.specs.Sessions.{SessionValue, RunningList, rest, rest_at, go_on, go_on_prompted, go_on_unprompted}
use Rattle.ed_session.specs.Drives.{Log, requests, answers, fits, AllFit, EndsMissing, here, later, of_commands}
use Rattle.ed_session.proofs.Stepping.{steps_prompted}

-- an answer that fits and doesn't serve is that there is no such file
missing_here : (r : Request) (a : Answer) → fits r a ≡ true → serves r a ≡ false → EndsMissing ((r, a) ∷ [])
missing_here (request.Read path) (answer.Bytes bytes) h k = cc
missing_here (request.Read path) answer.Missing h k = here path
missing_here (request.Read path) answer.Refused h k = cc
missing_here (request.Read path) answer.Done h k = cc
missing_here (request.Write path bytes) (answer.Bytes b) h k = cc
missing_here (request.Write path bytes) answer.Missing h k = cc
missing_here (request.Write path bytes) answer.Refused h k = cc
missing_here (request.Write path bytes) answer.Done h k = cc

abbrev Fits : Request × Answer → Type 0
Fits entry = fits entry.0 entry.1 ≡ true

-- where all fit, the last one was so
missing : {asked : List Request} {given : List Answer} (log : Log) → LastUnserved asked given → asked ≡ requests log → given ≡ answers log → AllFit log → EndsMissing log
missing [] (last r a more is) e f fit = cc
missing [] (next r a asked given is) e f fit = cc
missing (entry ∷ []) (last r a more is) e f fit =
    let same : r ≡ entry.0 = cc in
    let told : a ≡ entry.1 = cc in
    missing_here entry.0 entry.1 (fit 0 entry (omega arith)) (ap (λ q. serves q entry.1) (sym same) ∙ ap (serves r) (sym told) ∙ is)
missing (entry ∷ other ∷ log) (last r a more is) e f fit = cc
missing (entry ∷ log) (next r a asked given is) e f fit =
    let rest_asked : asked ≡ requests log = cc in
    let rest_given : given ≡ answers log = cc in
    later entry log (missing log is rest_asked rest_given (All-tail Fits entry log fit))

by_answer : {asked : List Request} {given : List Answer} → Caused fault.File asked given → LastUnserved asked given
by_answer (own f asked given is) = absurd (false≢true is)
by_answer (refused asked given is) = is

by_output : {asked : List Request} {given : List Answer} → Caused fault.Output asked given → ⊥
by_output (own f asked given is) = false≢true is

-- what is left without the prompt
unprompted_well : (xs : List Step) (bad : Option ℕ) → GoesWell (unprompted xs bad)
unprompted_well xs bad m given =
    let p : Progress = unprompted xs bad m given in
    (elim m.prompting as (λ b. EndsWell (elim b [ true ↦ Writes m.help m.prompt p | false ↦ p ]) given → EndsWell p given) [ true ↦ λ h. h | false ↦ λ h. h ])
    (subst (λ q. EndsWell q given) (steps_prompted xs bad m given) (steps-well xs bad m given))

-- what is left of a global command, and then of the script
go_on_well : (t : Option RunningList) (outside script : Further) → GoesWell outside → GoesWell script → GoesWell (go_on t outside script)
go_on_well None outside script h k m given = h m given
go_on_well (Some t) outside script h k m given =
    listed-well t.left m (λ n. turns t.lines t.list n script) (λ n later. turns-well t.lines t.list n script k later) given

prompted_left_well : (t : Option RunningList) (xs : List Step) (bad : Option ℕ) → GoesWell (go_on_prompted t xs bad)
prompted_left_well t xs bad = go_on_well t (steps xs bad) (steps xs bad) (steps-well xs bad) (steps-well xs bad)

unprompted_left_well : (t : Option RunningList) (xs : List Step) (bad : Option ℕ) → GoesWell (go_on_unprompted t xs bad)
unprompted_left_well t xs bad = go_on_well t (unprompted xs bad) (steps xs bad) (unprompted_well xs bad) (steps-well xs bad)

-- a run whose answers fit, and that ends by the fault of a file, read one that isn't there
by_file : (p : Progress) (log : Log) → EndsWell p (answers log) → asked_of p ≡ requests log → AllFit log → stop_of p ≡ Ends (Err fault.File) → EndsMissing log
by_file p log well asked fit ends = missing log (by_answer (well fault.File ends)) asked refl fit

started_by_file : (path : List ℕ) (a : Answer) (m : Present) (go : Further) (log : Log) → GoesWell go → fits (request.Read path) a ≡ true →
    asked_of (started path a m go (answers log)) ≡ requests log → AllFit log → stop_of (started path a m go (answers log)) ≡ Ends (Err fault.File) → EndsMissing log
started_by_file path (answer.Bytes bytes) m go log well h asked fit ends =
    let n : Present = with_state (loaded bytes path m.state) m in by_file (go n (answers log)) log (well n (answers log)) asked fit ends
started_by_file path answer.Missing m go log well h asked fit ends =
    let n : Present = with_state (loaded [] path m.state) m in by_file (go n (answers log)) log (well n (answers log)) asked fit ends
started_by_file path answer.Refused m go log well h asked fit ends = cc
started_by_file path answer.Done m go log well h asked fit ends = cc

ends_same : {a b : Result Ending Fault} → Ends a ≡ Ends b → a ≡ b
ends_same e = cc

-- what is left of a session's run, whose answers fit, ends by the fault of a file only where a command read one that isn't there, or
-- where it had ended so before
at_by_file : (p : Phase) (v : SessionValue) (log : Log) → asked_of (rest_at p v (answers log)) ≡ requests log → AllFit log
    → stop_of (rest_at p v (answers log)) ≡ Ends (Err fault.File) → EndsMissing (of_commands p log) ⊎ (p ≡ phases.Over (Err fault.File))
at_by_file (phases.Fresh None) v log asked fit e = inl (by_file (go_on_prompted v.running_list v.steps v.fault v.present (answers log)) log (prompted_left_well v.running_list v.steps v.fault v.present (answers log)) asked fit e)
at_by_file (phases.Fresh (Some path)) v [] asked fit e = cc
at_by_file (phases.Fresh (Some path)) v (entry ∷ log) asked fit e =
    let go : Further = go_on_prompted v.running_list v.steps v.fault in
    let same : request.Read path ≡ entry.0 = cc in
    let later_asked : asked_of (started path entry.1 v.present go (answers log)) ≡ requests log = cc in
    inl (started_by_file path entry.1 v.present go log (prompted_left_well v.running_list v.steps v.fault) (rw same (fit 0 entry (omega arith))) later_asked (All-tail Fits entry log fit) e)
at_by_file phases.Between v log asked fit e = inl (by_file (go_on_prompted v.running_list v.steps v.fault v.present (answers log)) log (prompted_left_well v.running_list v.steps v.fault v.present (answers log)) asked fit e)
at_by_file phases.Prompted v log asked fit e = inl (by_file (go_on_unprompted v.running_list v.steps v.fault v.present (answers log)) log (unprompted_left_well v.running_list v.steps v.fault v.present (answers log)) asked fit e)
at_by_file phases.Waiting v log asked fit e = inl (by_file (go_on_unprompted v.running_list v.steps v.fault v.present (answers log)) log (unprompted_left_well v.running_list v.steps v.fault v.present (answers log)) asked fit e)
at_by_file (phases.Over result) v log asked fit e = inr (ap (λ r. phases.Over r) (ends_same e))

pub rest_by_file : (v : SessionValue) (log : Log) → asked_of (rest v (answers log)) ≡ requests log → AllFit log
    → stop_of (rest v (answers log)) ≡ Ends (Err fault.File) → EndsMissing (of_commands v.phase log) ⊎ (v.phase ≡ phases.Over (Err fault.File))
rest_by_file v log asked fit e = at_by_file v.phase v log asked fit e

-- it ends by refused output only where it had ended so before
no_output : (p : Progress) (given : List Answer) → EndsWell p given → stop_of p ≢ Ends (Err fault.Output)
no_output p given well ends = by_output (well fault.Output ends)

started_no_output : (path : List ℕ) (a : Answer) (m : Present) (go : Further) (given : List Answer) → GoesWell go → stop_of (started path a m go given) ≢ Ends (Err fault.Output)
started_no_output path (answer.Bytes bytes) m go given well = let n : Present = with_state (loaded bytes path m.state) m in no_output (go n given) given (well n given)
started_no_output path answer.Missing m go given well = let n : Present = with_state (loaded [] path m.state) m in no_output (go n given) given (well n given)
started_no_output path answer.Refused m go given well = λ e. cc
started_no_output path answer.Done m go given well = λ e. cc

at_no_output : (p : Phase) (v : SessionValue) (given : List Answer) → stop_of (rest_at p v given) ≡ Ends (Err fault.Output) → p ≡ phases.Over (Err fault.Output)
at_no_output (phases.Fresh None) v given e = absurd (no_output (go_on_prompted v.running_list v.steps v.fault v.present given) given (prompted_left_well v.running_list v.steps v.fault v.present given) e)
at_no_output (phases.Fresh (Some path)) v [] e = cc
at_no_output (phases.Fresh (Some path)) v (a ∷ given) e =
    absurd (started_no_output path a v.present (go_on_prompted v.running_list v.steps v.fault) given (prompted_left_well v.running_list v.steps v.fault) e)
at_no_output phases.Between v given e = absurd (no_output (go_on_prompted v.running_list v.steps v.fault v.present given) given (prompted_left_well v.running_list v.steps v.fault v.present given) e)
at_no_output phases.Prompted v given e = absurd (no_output (go_on_unprompted v.running_list v.steps v.fault v.present given) given (unprompted_left_well v.running_list v.steps v.fault v.present given) e)
at_no_output phases.Waiting v given e = absurd (no_output (go_on_unprompted v.running_list v.steps v.fault v.present given) given (unprompted_left_well v.running_list v.steps v.fault v.present given) e)
at_no_output (phases.Over result) v given e = ap (λ r. phases.Over r) (ends_same e)

pub rest_no_output : (v : SessionValue) (given : List Answer) → stop_of (rest v given) ≡ Ends (Err fault.Output) → v.phase ≡ phases.Over (Err fault.Output)
rest_no_output v given e = at_no_output v.phase v given e
