-- What holds of a run that was checked, by the checker's soundness.
use Rattle.std.proofs.Common.{◌≡◌, ◌≢◌, ◌<◌, ◌⊎◌, ◌∙◌, ℕ, zero, suc, ◌≤◌, length, List, [], ◌++◌, Option, Some, None, Result, Ok, Err, inl, inr, refl, ap, sym, subst, arith, append-nil, append_assoc}
use Rattle.std.specs.Prelude.{IsFalse, IsTrue, IfSome, All}
use Rattle.std.specs.List.{list_all}
use Rattle.std.proofs.Math.Seq.{drop-length}
use Rattle.std.proofs.lemmas.List.{drop-append-le}
use Rattle.std.proofs.lemmas.List.Elements.{All-nil, All-cons, All-head, All-tail}
use Rattle.ed_base.specs.declared.fault.Fault.{Fault}
use Rattle.ed_base.specs.declared.fault.Fault.TheVariants.{Memory, File, Output}
use Rattle.ed_syntax.specs.declared.options.Ending.{Ending}
use Rattle.ed_syntax.specs.declared.options.Options.{Options}
use Rattle.ed_syntax.specs.declared.request.Answer.{Answer}
use Rattle.ed_syntax.specs.declared.request.Answer.TheVariants as answer
use Rattle.ed_syntax.specs.declared.request.Request.{Request}
use Rattle.ed_syntax.specs.declared.request.Request.TheVariants as request
use Rattle.ed_syntax.specs.Commands.{Script}
use Rattle.ed_syntax.specs.meaning.Laws.{starts}
use Rattle.ed_syntax.specs.meaning.Progress.{Progress, Stops, Writes, Hears, Waits, Ends, asked_of, stop_of, cut, CutsAfter}
use Rattle.ed_syntax.specs.meaning.Runs.{run}
use Rattle.ed_syntax.specs.meaning.Verbs.{is_step}
use Rattle.ed_session.specs.Drives.{Log, answers, requests, added, EndsMissing}
use Rattle.ed_session.specs.Sinks.{SinkChange, SinkState, Failed, change}
use Rattle.cert_check.specs.Certificates.{Certificate}
use Rattle.cert_check.specs.declared.checker.verdict.Verdict.TheVariants.{Accepted}
use Rattle.cert_check.specs.checker.Valid.{judged}
use Rattle.cert_check.specs.checker.Sound.{CannotFail, IsAllowed, MayAsk, StopsWell, start_lines}
use Rattle.ed_calls.specs.declared.running.Ran.{Ran}
use Rattle.ed_calls.specs.declared.running.Ran.TheVariants as ran
use Rattle.ed_calls.specs.Edit as edit
use Rattle.ed_calls.specs.Edit.{ComesTo}
use Rattle.ed_calls.specs.Run as checked
use Rattle.ed_calls.specs.Run.{CheckedRun, LiesOutside, StartsInside, reading, told_of}
use Rattle.ed_calls.specs.Headline.{EndsWell, Headline, MayFail, EndsAsCertified, AcceptedRunsEndWell}
use Rattle.ed_calls.specs.RunOver as parts
use Rattle.ed_calls.specs.RunOver.{RunsOver, lines_told}
use Rattle.ed_calls.proofs.Correctness.{comes_after}

-- what a longer log has more
pub added_is : (old new more : Log) → new ≡ old ++ more → added old new ≡ more
added_is old new more e = rw e (drop-append-le (length old) old more (omega arith) ∙ ap (λ l. l ++ more) (drop-length old))

-- where it has none
pub none_added : (old new : Log) → new ≡ old → added old new ≡ []
none_added old new e = added_is old new [] (e ∙ sym (append-nil old))

-- what was asked in two parts
pub added_twice : (old mid new first later : Log) → mid ≡ old ++ first → new ≡ mid ++ later → added old new ≡ first ++ later
added_twice old mid new first later e f = added_is old new (first ++ later) (f ∙ ap (λ l. l ++ later) e ∙ append_assoc old first later)

-- the lines of the start by the answer to its read
pub start_is : (path : Option (List ℕ)) (a : Answer) (later : Log) → (path ≡ None → a ≡ answer.Missing) → start_lines path (answers (reading path a ++ later)) ≡ lines_told a
start_is None a later missing = let e = missing refl in rw e refl
start_is (Some path) (answer.Bytes bytes) later missing = refl
start_is (Some path) answer.Missing later missing = refl
start_is (Some path) answer.Refused later missing = refl
start_is (Some path) answer.Done later missing = refl

-- nothing was read but the start, which lies outside
pub came_outside : (script : Script) (c : Certificate) (o : Options) (start : Answer) (log : Log) (state : SinkState) → judged script c ≡ Accepted → o.path ≡ c.path
    → (o.path ≡ None → start ≡ answer.Missing) → LiesOutside c (lines_told start) → log ≡ reading o.path start → CheckedRun script c o log (change state state) (Ok ran.StartOutside)
came_outside script c o start log state accepted named missing outside is =
    let lines : start_lines o.path (answers (reading o.path start)) ≡ lines_told start =
    subst (λ l. start_lines o.path (answers l) ≡ lines_told start) (append-nil (reading o.path start)) (start_is o.path start [] missing) in
    checked.outside accepted
    (checked.not_allowed start named is (subst (λ l. LiesOutside c (start_lines o.path (answers l))) (sym is) (subst (LiesOutside c) (sym lines) outside))) refl refl

-- a read with which no run starts was refused, so it was counted
counted_refusal : (a : Answer) (before failed : ℕ) → (a ≡ answer.Refused → before < failed) → a ≢ answer.Done → IsFalse (starts a) → before < failed
counted_refusal (answer.Bytes bytes) before failed counted other h = absurd (let e = h in cc)
counted_refusal answer.Missing before failed counted other h = absurd (let e = h in cc)
counted_refusal answer.Refused before failed counted other h = counted refl
counted_refusal answer.Done before failed counted other h = absurd (other refl)

module _ (P : Request → Type 0) where
  -- what was asked before memory ran out was asked in the whole run
  asked_of_cut : (steps bytes : ℕ) (p : Progress) → All P (asked_of p) → All P (asked_of (cut steps bytes p))
  asked_of_cut steps bytes (Stops help (Waits r)) all = All-nil P
  asked_of_cut steps bytes (Stops help (Ends (Ok ending))) all = All-nil P
  asked_of_cut steps bytes (Stops help (Ends (Err f))) all = All-nil P
  asked_of_cut zero bytes (Writes help output p) all = All-nil P
  asked_of_cut (suc steps) bytes (Writes help output p) all = asked_of_cut steps bytes p all
  asked_of_cut zero bytes (Hears help r p) all = All-nil P
  asked_of_cut (suc steps) bytes (Hears help r p) all = All-cons P r (asked_of (cut steps bytes p)) (All-head P r (asked_of p) all) (asked_of_cut steps bytes p (All-tail P r (asked_of p) all))

  -- so it is in all that a run comes to
  pub asks_no_more : (whole : Progress) (asked : List Request) (sink : SinkChange) (result : Result Ending Fault) → ComesTo whole asked sink result → All P (asked_of whole) → All P asked
  asks_no_more whole asked sink result (edit.ended stops is wrote) all = subst (All P) is all
  asks_no_more whole asked sink result (edit.cut output r wrote is) all = subst (All P) (sym r.answered) (asked_of_cut r.steps r.bytes whole all)
  asks_no_more whole asked sink result (edit.refused front more (inl x) some wrote risen is) all = subst (All P) x.0 all
  asks_no_more whole asked sink result (edit.refused front more (inr r) some wrote risen is) all = subst (All P) (sym r.answered) (asked_of_cut r.steps r.bytes whole all)

-- the ends that a sound run comes to
stopped : (c : Certificate) (result : Result Ending Fault) → StopsWell c (Ends result) → EndsAsCertified c result
stopped c (Ok ending) well = well
stopped c (Err f) well = inr (inl well)

ends_well : (c : Certificate) (whole : Progress) (asked : List Request) (sink : SinkChange) (result : Result Ending Fault) → ComesTo whole asked sink result → StopsWell c (stop_of whole) → EndsAsCertified c result
ends_well c whole asked sink result (edit.ended stops is wrote) well = stopped c result (subst (StopsWell c) stops well)
ends_well c whole asked sink result (edit.cut output r wrote is) well = subst (EndsAsCertified c) (sym is) (inl refl)
ends_well c whole asked sink result (edit.refused front more begun some wrote risen is) well = subst (EndsAsCertified c) (sym is) (inr (inr refl))

-- so does a session just made, when it is driven
pub runs_end_well : CutsAfter → ((script : Script) (c : Certificate) → IsTrue (list_all is_step script.steps) → judged script c ≡ Accepted → CannotFail script c) → AcceptedRunsEndWell
runs_end_well cuts safe script c o from log sink result steps accepted named is none allowed drove =
    let whole : Progress = run script o (answers log) in
    let well = safe script c steps accepted o (answers log) named (subst (λ p. IfSome (start_lines p (answers log)) (IsAllowed c)) named allowed) in
    let comes : ComesTo whole (requests log) sink result = comes_after cuts from [] whole log sink result (sym (is (answers log))) none drove in
    (ends_well c whole (requests log) sink result comes well.1, asks_no_more (MayAsk c) whole (requests log) sink result comes well.0)

-- and what is told of them
told_well : (c : Certificate) (may_fail : Fault → Type 0) (result : Result Ending Fault) → EndsAsCertified c result → may_fail Memory → (result ≡ Err File → may_fail File) → (result ≡ Err Output → may_fail Output)
    → EndsWell c may_fail (told_of result)
told_well c may_fail (Ok ending) well memory file output = well
told_well c may_fail (Err f) (inl e) memory file output = subst may_fail (sym e) memory
told_well c may_fail (Err f) (inr (inl e)) memory file output = subst may_fail (sym e) (file (ap Err e))
told_well c may_fail (Err f) (inr (inr e)) memory file output = subst may_fail (sym e) (output (ap Err e))

-- the answer to the start's read leaves what was asked later
later_is : (path : Option (List ℕ)) (a : Answer) (later : Log) → edit.after_start path (reading path a ++ later) ≡ later
later_is None a later = refl
later_is (Some path) a later = refl

only_read : (c : Certificate) (path : Option (List ℕ)) (a : Answer) → All (MayAsk c) (requests (reading path a))
only_read c None a = All-nil (MayAsk c)
only_read c (Some path) a = All-cons (MayAsk c) (request.Read path) [] tt (All-nil (MayAsk c))

-- there was no memory to test a start that was read
pub came_untested : (script : Script) (c : Certificate) (o : Options) (start : Answer) (log : Log) (state : SinkState) → judged script c ≡ Accepted → o.path ≡ c.path
    → log ≡ reading o.path start → CheckedRun script c o log (change state state) (Err Memory)
came_untested script c o start log state accepted named is = checked.no_memory (inr (accepted, (named, (start, is)))) refl refl

pub headline_untested : (script : Script) (c : Certificate) (o : Options) (start : Answer) (log : Log) (files_before files : ℕ) (sink : SinkChange) → log ≡ reading o.path start
    → Headline script c o log (MayFail o.path log files_before files sink) (Err Memory)
headline_untested script c o start log files_before files sink is = λ accepted named allowed.
    (tt, subst (λ l. All (MayAsk c) (requests l)) (sym is) (only_read c o.path start))

module _ (script : Script) (c : Certificate) (o : Options) (start : Answer) (later : Log) (sink : SinkChange) (ended : Result Ending Fault)
    (accepted : judged script c ≡ Accepted) (named : o.path ≡ c.path) (missing : o.path ≡ None → start ≡ answer.Missing) (allowed : IfSome (lines_told start) (IsAllowed c)) where
  inside : (more : Log) → StartsInside c o.path (reading o.path start ++ more)
  inside more = record { named = named; given = start; later = more; read = refl; allowed = subst (λ l. IfSome l (IsAllowed c)) (sym (start_is o.path start more missing)) allowed }

  -- where nothing was asked later
  only_start : later ≡ [] → reading o.path start ++ later ≡ reading o.path start
  only_start none = ap (λ l. reading o.path start ++ l) none ∙ append-nil (reading o.path start)

  came_over : RunsOver script o start later sink ended → CheckedRun script c o (reading o.path start ++ later) sink (told_of ended)
  unfolding inside
  came_over (parts.driven comes) = checked.driven ended accepted (inside later) comes refl
  came_over (parts.no_memory none unwritten is) = checked.no_memory (inr (accepted, (named, (start, only_start none)))) unwritten (ap told_of is)

  pub came_of : (log : Log) (result : Result Ran Fault) → log ≡ reading o.path start ++ later → result ≡ told_of ended → RunsOver script o start later sink ended → CheckedRun script c o log sink result
  came_of log result logged told ran =
      subst (λ l. CheckedRun script c o l sink result) (sym logged) (subst (λ r. CheckedRun script c o (reading o.path start ++ later) sink r) (sym told) (came_over ran))

  sound : CannotFail script c → All (MayAsk c) (asked_of (run script o (answers (reading o.path start ++ later)))) × StopsWell c (stop_of (run script o (answers (reading o.path start ++ later))))
  sound cannot =
      cannot o (answers (reading o.path start ++ later)) named
      (subst (λ p. IfSome (start_lines p (answers (reading o.path start ++ later))) (IsAllowed c)) named (inside later).allowed)

  asks_well : CannotFail script c → RunsOver script o start later sink ended → All (MayAsk c) (requests (reading o.path start ++ later))
  asks_well cannot (parts.driven comes) =
      asks_no_more (MayAsk c) (run script o (answers (reading o.path start ++ later))) (requests (reading o.path start ++ later)) sink ended comes (sound cannot).0
  asks_well cannot (parts.no_memory none unwritten is) =
      subst (λ l. All (MayAsk c) (requests l)) (sym (only_start none)) (only_read c o.path start)

  ended_well : CannotFail script c → RunsOver script o start later sink ended → EndsAsCertified c ended
  ended_well cannot (parts.driven comes) =
      ends_well c (run script o (answers (reading o.path start ++ later))) (requests (reading o.path start ++ later)) sink ended comes (sound cannot).1
  ended_well cannot (parts.no_memory none unwritten is) = subst (EndsAsCertified c) (sym is) (inl refl)

  module _ (files_before files_read files : ℕ) (rises : files_before ≤ files_read) (counted : start ≡ answer.Refused → files_before < files_read)
      (other : start ≢ answer.Done) (rises_on : files_read ≤ files) where
    file_cause : IsFalse (starts start) ⊎ ((files_read < files) ⊎ EndsMissing later) → MayFail o.path (reading o.path start ++ later) files_before files sink File
    file_cause (inl refused) = inl (let read = counted_refusal start files_before files_read counted other refused in omega arith)
    file_cause (inr (inl more)) = inl (omega arith)
    file_cause (inr (inr gone)) = inr (subst EndsMissing (sym (later_is o.path start later)) gone)

    headline_over : CannotFail script c → RunsOver script o start later sink ended
        → (ended ≡ Err File → IsFalse (starts start) ⊎ ((files_read < files) ⊎ EndsMissing later)) → (ended ≡ Err Output → Failed sink)
        → Headline script c o (reading o.path start ++ later) (MayFail o.path (reading o.path start ++ later) files_before files sink) (told_of ended)
    headline_over cannot ran file output = λ accepted named within. (
      told_well c (MayFail o.path (reading o.path start ++ later) files_before files sink) ended (ended_well cannot ran) tt (λ e. file_cause (file e)) output,
      asks_well cannot ran,
    )

    pub headline_of : (log : Log) (result : Result Ran Fault) → log ≡ reading o.path start ++ later → result ≡ told_of ended → CannotFail script c → RunsOver script o start later sink ended
        → (ended ≡ Err File → IsFalse (starts start) ⊎ ((files_read < files) ⊎ EndsMissing later)) → (ended ≡ Err Output → Failed sink)
        → Headline script c o log (MayFail o.path log files_before files sink) result
    headline_of log result logged told cannot ran file output =
        subst (λ l. Headline script c o l (MayFail o.path l files_before files sink) result) (sym logged)
        (subst (λ r. Headline script c o (reading o.path start ++ later) (MayFail o.path (reading o.path start ++ later) files_before files sink) r) (sym told)
        (headline_over cannot ran file output))
