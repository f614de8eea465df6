-- How a run is driven on by one round.
use Rattle.std.proofs.Common.{◌≡◌, ℕ, ◌≤◌, ◌<◌, List, [], ◌∷◌, ◌++◌, true, false, Some, Result, Ok, Err, refl, sym, ap, ◌∙◌, subst, ◌⊎◌, inl, inr, append_assoc, append-nil, arith}
use Rattle.std.specs.Prelude.{◌≢◌, IfOk, IfSome, OnErr}
use Rattle.std.proofs.lemmas.List.{map-append}
use Rattle.std.proofs.lemmas.List.Elements.{All-append, All-nil}
use Rattle.ed_base.specs.declared.fault.Fault.{Fault}
use Rattle.ed_base.specs.declared.fault.Fault.TheVariants.{Memory}
use Rattle.ed_syntax.specs.declared.options.Ending.{Ending}
use Rattle.ed_syntax.specs.declared.request.Answer.{Answer}
use Rattle.ed_syntax.specs.declared.request.Answer.TheVariants as answer
use Rattle.ed_syntax.specs.declared.request.Request.{Request}
use Rattle.ed_syntax.specs.declared.request.Request.TheVariants as request
use Rattle.ed_syntax.specs.meaning.Progress.{Stops, Ends, after, output_of, asked_of, stop_of, RunsOut}
use Rattle.ed_session.specs.declared.phase.Phase.TheVariants as phases
use Rattle.ed_session.specs.Sessions.{SessionValue, rest, awaited, request_of, is_waiting, is_started, path_of}
use Rattle.ed_session.specs.Sinks.{SinkState, SinkChange, change, Took, TookFront}
use Rattle.ed_session.specs.Calls.{written, heard, GoesOn, BreaksOff, Leads, Answers, Starts, Awaits, HandsOut, TellsEnd}
use Rattle.ed_session.specs.Drives.{Log, added, requests, answers, fits, AllFit, Finished, RanOut, CutOff}
use Rattle.ed_session.specs.Rounds.{Raises, Performs, Driven}
use Rattle.ed_session.proofs.Leading.{leads_more, leads_on, output_after, asked_after, stop_after}
use Rattle.ed_session.proofs.Logs.{added_is, added_none, added_more, log_none, log_more, raises_more, read_raises, write_raises}
use Rattle.ed_session.proofs.Stepping.{rest_quiet}
use Rattle.ed_session.proofs.Taken.{Appends-more, some-more}

requests_more : (a b : Log) → requests (a ++ b) ≡ requests a ++ requests b
requests_more a b = map-append (λ (entry : Request × Answer). entry.0) a b

answers_more : (a b : Log) → answers (a ++ b) ≡ answers a ++ answers b
answers_more a b = map-append (λ (entry : Request × Answer). entry.1) a b

-- a request was answered
pub performs_answered : (old new : SessionValue) (r : Request) (a : Answer) (l1 l2 : Log) (before now : ℕ) → l2 ≡ l1 ++ (r, a) ∷ [] → Answers old r a new
    → (fits r a ≡ false → before < now) → before ≤ now → is_waiting new.phase ≡ false → is_started new.phase ≡ true → Performs old new l1 l2 before now
performs_answered old new r a l1 l2 before now logged given raises rises idle begun =
    let is : added l1 l2 ≡ (r, a) ∷ [] = added_is l1 l2 ((r, a) ∷ []) logged in
    record {
      log = logged ∙ ap (λ x. l1 ++ x) (sym is);
      leads = subst (λ x. Leads old (answers x) [] (requests x) new) (sym is) given;
      raises = subst (λ x. Raises x before now) (sym is) (raises_more [] r a before before now (omega arith) (inl (All-nil (λ (entry : Request × Answer). fits entry.0 entry.1 ≡ true))) raises rises);
      rises = rises;
      idle = idle;
      started = begun;
    }

-- nothing was answered
pub performs_alone : (old new : SessionValue) (l1 l2 : Log) (before now : ℕ) → l2 ≡ l1 → before ≤ now → Leads old [] [] [] new
    → is_waiting new.phase ≡ false → is_started new.phase ≡ true → Performs old new l1 l2 before now
performs_alone old new l1 l2 before now same rises leads idle begun =
    let is : added l1 l2 ≡ [] = rw same (added_none l1) in
    record {
      log = log_none l1 l2 same;
      leads = subst (λ x. Leads old (answers x) [] (requests x) new) (sym is) leads;
      raises = subst (λ x. Raises x before now) (sym is) (inl (All-nil (λ (entry : Request × Answer). fits entry.0 entry.1 ≡ true)));
      rises = rises;
      idle = idle;
      started = begun;
    }

-- the answer to what is awaited was heard, or that there was no memory for one
performs_heard : {E : Type 0} (u old new : SessionValue) (r : Request) (heard : Result Answer E) (l1 l2 : Log) (before now : ℕ) → Awaits u r old
    → IfOk heard (λ a. l2 ≡ l1 ++ (r, a) ∷ []) → OnErr heard ((l2 ≡ l1) × (now ≡ before)) → before ≤ now → IfOk heard (λ a. fits r a ≡ false → before < now)
    → IfOk heard (λ a. IfSome (awaited old) (λ q. Answers old q a new)) → OnErr heard (BreaksOff old [] [] [] new)
    → is_waiting new.phase ≡ false → is_started new.phase ≡ true → Performs old new l1 l2 before now
performs_heard u old new r (Ok a) l1 l2 before now awaits logged unchanged rises raises given broke idle begun =
    let is : awaited old ≡ Some r = ap (λ p. request_of (stop_of p)) awaits.asks in
    performs_answered old new r a l1 l2 before now logged (rw is at given) raises rises idle begun
performs_heard u old new r (Err e) l1 l2 before now awaits logged unchanged rises raises given broke idle begun =
    performs_alone old new l1 l2 before now unchanged.0 rises (inr broke) idle begun

-- a read was answered so
read_answers : {E : Type 0} (path : List ℕ) (heard : Result Answer E) (before now : ℕ) → IfOk heard (λ a. a ≡ answer.Refused → before < now) → IfOk heard (λ a. a ≢ answer.Done)
    → IfOk heard (λ a. fits (request.Read path) a ≡ false → before < now)
read_answers path (Ok a) before now refused done = read_raises path a before now refused done
read_answers path (Err e) before now refused done = tt

pub performs_read : {E : Type 0} (u old new : SessionValue) (path asked : List ℕ) (heard : Result Answer E) (l1 l2 : Log) (before now : ℕ) → Awaits u (request.Read path) old → asked ≡ path
    → IfOk heard (λ a. l2 ≡ l1 ++ (request.Read asked, a) ∷ []) → OnErr heard ((l2 ≡ l1) × (now ≡ before)) → before ≤ now
    → IfOk heard (λ a. a ≡ answer.Refused → before < now) → IfOk heard (λ a. a ≢ answer.Done)
    → IfOk heard (λ a. IfSome (awaited old) (λ q. Answers old q a new)) → OnErr heard (BreaksOff old [] [] [] new)
    → is_waiting new.phase ≡ false → is_started new.phase ≡ true → Performs old new l1 l2 before now
performs_read u old new path asked heard l1 l2 before now awaits same logged unchanged rises refused done given broke idle begun =
    performs_heard u old new (request.Read path) heard l1 l2 before now awaits
    (subst (λ p. IfOk heard (λ a. l2 ≡ l1 ++ (request.Read p, a) ∷ [])) same logged) unchanged rises (read_answers path heard before now refused done) given broke idle begun

-- a write was answered so
write_answers : {E : Type 0} (path bytes : List ℕ) (heard : Result Answer E) (before now : ℕ) → IfOk heard (λ a. a ≡ answer.Refused → before < now)
    → IfOk heard (λ a. (a ≡ answer.Done) ⊎ (a ≡ answer.Refused)) → IfOk heard (λ a. fits (request.Write path bytes) a ≡ false → before < now)
write_answers path bytes (Ok a) before now refused done = write_raises path bytes a before now refused done
write_answers path bytes (Err e) before now refused done = tt

pub performs_write : {E : Type 0} (u old new : SessionValue) (path asked bytes : List ℕ) (heard : Result Answer E) (l1 l2 : Log) (before now : ℕ) → Awaits u (request.Write path bytes) old → asked ≡ path
    → IfOk heard (λ a. l2 ≡ l1 ++ (request.Write asked bytes, a) ∷ []) → OnErr heard ((l2 ≡ l1) × (now ≡ before)) → before ≤ now
    → IfOk heard (λ a. a ≡ answer.Refused → before < now) → IfOk heard (λ a. (a ≡ answer.Done) ⊎ (a ≡ answer.Refused))
    → IfOk heard (λ a. IfSome (awaited old) (λ q. Answers old q a new)) → OnErr heard (BreaksOff old [] [] [] new)
    → is_waiting new.phase ≡ false → is_started new.phase ≡ true → Performs old new l1 l2 before now
performs_write u old new path asked bytes heard l1 l2 before now awaits same logged unchanged rises refused done given broke idle begun =
    performs_heard u old new (request.Write path bytes) heard l1 l2 before now awaits
    (subst (λ p. IfOk heard (λ a. l2 ≡ l1 ++ (request.Write p bytes, a) ∷ [])) same logged) unchanged rises (write_answers path bytes heard before now refused done) given broke idle begun

pub starts_at : (path : List ℕ) (old : SessionValue) (a : Answer) (new : SessionValue) → path_of old.phase ≡ Some path → Starts (path_of old.phase) old a new → Answers old (request.Read path) a new
starts_at path old a new e x = subst (λ p. Starts p old a new) e x

-- some output was written
pub driven_output : (from s t : SessionValue) (log : Log) (bytes : List ℕ) (old mid new : SinkState) → Driven from log (change old mid) s → HandsOut s bytes t → Took (change mid new) bytes
    → Driven from log (change old new) t
driven_output from s t log bytes old mid new d h more = record {
  output = d.output ++ bytes;
  wrote = Appends-more old.taken mid.taken new.taken d.output bytes d.wrote more;
  leads = leads_on from s t (answers log) d.output bytes (requests log) d.leads h.leads;
}

module _ (from s u t : SessionValue) (l0 l1 l2 : Log) (now after_it : ℕ) (e : l1 ≡ l0 ++ added l0 l1) (p : Performs u t l1 l2 now after_it) where
  all : added l0 l2 ≡ added l0 l1 ++ added l1 l2
  all = added_more l0 l1 l2 (added l1 l2) e p.log

  pub performed_log : l2 ≡ l0 ++ added l0 l2
  performed_log = log_more l0 l1 l2 (added l1 l2) e p.log

  -- what was asked for was done
  pub driven_performs : (sink : SinkChange) → Driven from (added l0 l1) sink s → GoesOn s [] [] [] u → Driven from (added l0 l2) sink t
  driven_performs sink d goes =
      let here : Leads from (answers (added l0 l1)) (d.output ++ []) (requests (added l0 l1)) u = leads_on from s u (answers (added l0 l1)) d.output [] (requests (added l0 l1)) d.leads (inl goes) in
      let there = leads_more from u t (answers (added l0 l1)) (answers (added l1 l2)) (d.output ++ []) [] (requests (added l0 l1)) (requests (added l1 l2)) here p.leads in
      record {
        output = d.output;
        wrote = d.wrote;
        leads =
            subst (λ x. Leads from (answers x) d.output (requests x) t) (sym all)
            (subst (λ x. Leads from x d.output (requests (added l0 l1 ++ added l1 l2)) t) (sym (answers_more (added l0 l1) (added l1 l2)))
            (subst (λ x. Leads from (answers (added l0 l1) ++ answers (added l1 l2)) d.output x t) (sym (requests_more (added l0 l1) (added l1 l2)))
            (subst (λ x. Leads from (answers (added l0 l1) ++ answers (added l1 l2)) x (requests (added l0 l1) ++ requests (added l1 l2)) t) (append-nil (d.output ++ []) ∙ append-nil d.output) there)));
      }

  pub performed_raises : (before : ℕ) → before ≤ now → Raises (added l0 l1) before now → Raises (added l0 l2) before after_it
  performed_raises before below (inr rise) = let h = p.rises in inr (omega arith)
  performed_raises before below (inl fit) =
      elim p.raises [
        | inl more ↦ inl (subst (λ x. AllFit x) (sym all) (All-append (λ (entry : Request × Answer). fits entry.0 entry.1 ≡ true) (added l0 l1) (added l1 l2) fit more))
        | inr rise ↦ inr (omega arith)
      ]

rest_over : (v : SessionValue) (result : Result Ending Fault) → v.phase ≡ phases.Over result → rest v [] ≡ Stops v.present.help (Ends result)
rest_over v result e = rw e refl

-- all answers are those of the log
none_left : (from : SessionValue) (log : Log) → rest from (answers log ++ []) ≡ rest from (answers log)
none_left from log = ap (rest from) (append-nil (answers log))

ended : (from t : SessionValue) (log : Log) (output : List ℕ) (sink : SinkChange) (result : Result Ending Fault) → GoesOn from (answers log) output (requests log) t
    → Took sink output → t.phase ≡ phases.Over result → t.pending ≡ [] → Finished from log sink result
ended from t log output sink result x wrote over none =
    let at : rest from (answers log) ≡ after x.events (Stops t.present.help (Ends result)) = sym (none_left from log) ∙ x.same [] ∙ ap (after x.events) (rest_over t result over) in
    record {
      asked = ap asked_of at ∙ asked_after x.events (Stops t.present.help (Ends result)) ∙ append-nil (heard x.events) ∙ x.answered;
      ended = ap stop_of at ∙ stop_after x.events (Stops t.present.help (Ends result));
      wrote = subst (Took sink)
          (sym (append-nil output) ∙ ap (λ p. output ++ p) (sym none) ∙ sym x.handed_out
          ∙ ap (λ o. from.pending ++ o) (sym (ap output_of at ∙ output_after x.events (Stops t.present.help (Ends result)) ∙ append-nil (written x.events)))) wrote;
    }

cut_there : (from t : SessionValue) (log : Log) (output : List ℕ) (sink : SinkChange) → BreaksOff from (answers log) output (requests log) t
    → Took sink output → t.pending ≡ [] → RanOut from log sink
cut_there from t log output sink x wrote none = record {
  running = x.running;
  output = x.written;
  cut = subst (λ p. RunsOut p x.written (requests log)) (none_left from log) (x.cut []);
  wrote = subst (Took sink) (sym (append-nil output) ∙ ap (λ p. output ++ p) (sym none) ∙ sym x.handed_out) wrote;
}

over_same : (v : SessionValue) (result : Result Ending Fault) (f : Fault) → v.phase ≡ phases.Over result → v.phase ≡ phases.Over (Err f) → result ≡ Err f
over_same v result f a b = let e : phases.Over result ≡ phases.Over (Err f) = sym a ∙ b in cc

-- the run has ended, or memory ran out
pub driven_ends : (from s t : SessionValue) (log : Log) (sink : SinkChange) (result : Result Ending Fault) → Driven from log sink s → TellsEnd s result t
    → Finished from log sink result ⊎ ((result ≡ Err Memory) × RanOut from log sink)
driven_ends from s t log sink result d h =
    elim (leads_on from s t (answers log) d.output [] (requests log) d.leads (inl h.same)) [
      | inl x ↦ inl (ended from t log (d.output ++ []) sink result x (subst (Took sink) (sym (append-nil d.output)) d.wrote) h.over h.handed_out)
      | inr x ↦ inr (over_same t result Memory h.over x.over, cut_there from t log (d.output ++ []) sink x (subst (Took sink) (sym (append-nil d.output)) d.wrote) h.handed_out)
    ]

-- a part of what was to be written
cut_part : (output bytes part more whole pending : List ℕ) → bytes ≡ part ++ more → whole ≡ (output ++ bytes) ++ pending → whole ≡ (output ++ part) ++ (more ++ pending)
cut_part output bytes part more whole pending e f =
    f ∙ ap (λ x. (output ++ x) ++ pending) e ∙ ap (λ x. x ++ pending) (sym (append_assoc output part more)) ∙ append_assoc (output ++ part) more pending

-- the sink failed at some of these bytes
pub driven_cut_off : (from s t : SessionValue) (log : Log) (bytes : List ℕ) (old mid new : SinkState) → Driven from log (change old mid) s → HandsOut s bytes t → TookFront (change mid new) bytes
    → CutOff from log (change old new)
driven_cut_off from s t log bytes old mid new d h part =
    let took : Took (change old new) (d.output ++ part.0) = Appends-more old.taken mid.taken new.taken d.output part.0 d.wrote part.2 in
    elim (leads_on from s t (answers log) d.output bytes (requests log) d.leads h.leads) [
      | inl x ↦
          let at : rest from (answers log) ≡ after x.events (rest t []) = sym (none_left from log) ∙ x.same [] in
          record {
            output = written x.events;
            run = inl (record {
              events = x.events;
              left = rest t [];
              whole = at;
              answered = ap asked_of at ∙ asked_after x.events (rest t []) ∙ ap (λ r. heard x.events ++ r) (rest_quiet t) ∙ append-nil (heard x.events) ∙ x.answered;
              wrote = refl;
            });
            part = d.output ++ part.0;
            front = (part.1.0 ++ t.pending, cut_part d.output bytes part.0 part.1.0 (from.pending ++ written x.events) t.pending part.1.1 x.handed_out, some-more part.1.0 t.pending part.1.2);
            took = took;
          }
      | inr x ↦ record {
        output = x.written;
        run = inr (subst (λ p. RunsOut p x.written (requests log)) (none_left from log) (x.cut []));
        part = d.output ++ part.0;
        front = (part.1.0 ++ t.pending, cut_part d.output bytes part.0 part.1.0 (from.pending ++ x.written) t.pending part.1.1 x.handed_out, some-more part.1.0 t.pending part.1.2);
        took = took;
      }
    ]
