-- How a run has ended, by the calls that end it.
use Rattle.std.proofs.Common.{◌≡◌, ◌<◌, ◌+◌, ℕ, List, [], ◌∷◌, ◌++◌, Bool, true, false, ◌||◌, nat_eq, length, map, take, drop, get_or, refl, sym, ap, ◌∙◌, append-nil, append_assoc, inl, inr, Option, Some, None, flat_map}
use Rattle.std.specs.Cmp.Lexicographic.{pointwise, bytes_decides}
use Rattle.std.proofs.lemmas.List.{take_more}
use Rattle.std.proofs.lemmas.List.Concat.{flat_map-append}
use Rattle.ed_session.specs.KeptAnswers.{Files}
use Rattle.ed_session.specs.MemFiles.{file_at}
use Rattle.rehearsal.specs.Rehearsals.{files_at_end, written}
use Rattle.whole.specs.Deeds.{Deed, NothingPut, entry_of, holds_back, discarded_path, discarded_paths, put_path, put_paths, ready_path, readying_path, run_log, settled_path, tried_path, tried_paths}
use Rattle.whole.specs.Paths.{each_once, is_in, write_paths, written_paths}
use Rattle.whole.specs.LeftFiles.{LeavesAsRun, OldOrNew, left_files, with_file}
use Rattle.whole.specs.Endings.{AllDiscarded, AllReadyFirst, EachPutOnce, EndsSo, IsPlace, IsUnreadyAt, SettledLast, StopsAt}
use Rattle.whole.specs.Insides.{discard_deeds, last_deeds, put_deeds, ready_deeds, settle_deeds}
use Rattle.whole.specs.declared.outcome.Outcome.{Outcome}
use Rattle.whole.specs.declared.outcome.Outcome.TheVariants as outcome
use Rattle.whole.proofs.PathLemmas.{at-true, found-written, in-each_once}
use Rattle.whole.proofs.DeedLemmas.{held-discarded, held-put, held-ready, held-readying, held-tried, last-asked, map-each, none-discarded, none-held, none-put, none-ready, none-settled, not-so, of-parts, one-more, same-asked}
use Rattle.whole.proofs.FileLemmas.{all-moments, drafts-written, drafts_left, end-files, held-first, ready-first, run-none, run-some, unput-same}

-- the paths that were written, after the end of the run
pub same-written : (deeds : List Deed) (o : Outcome) (ps : List (List ℕ)) →
    written_paths (deeds ++ last_deeds o ps) ≡ written_paths deeds
same-written deeds o ps = ap (λ log. each_once (write_paths log)) (same-asked deeds o ps)

now-written : (deeds : List Deed) (o : Outcome) (ps : List (List ℕ)) → ps ≡ written_paths deeds →
    ps ≡ written_paths (deeds ++ last_deeds o ps)
now-written deeds o ps is = is ∙ sym (same-written deeds o ps)

-- which paths were put and discarded, by the calls of the end
tried-of : (deeds : List Deed) (o : Outcome) (ps tried : List (List ℕ)) → NothingPut deeds →
    flat_map tried_path (put_deeds o ps) ≡ tried →
    tried_paths (deeds ++ last_deeds o ps) ≡ tried
tried-of deeds o ps tried unput e =
    of-parts tried_path deeds o ps [] [] tried [] [] (none-held tried_path held-tried deeds unput)
    (none-ready tried_path (λ p done. refl) o ps) e
    (none-settled tried_path (λ p. refl) o ps) (none-discarded tried_path (λ p. refl) o ps) ∙ append-nil tried

put-of : (deeds : List Deed) (o : Outcome) (ps put : List (List ℕ)) → NothingPut deeds →
    flat_map put_path (put_deeds o ps) ≡ put →
    put_paths (deeds ++ last_deeds o ps) ≡ put
put-of deeds o ps put unput e =
    of-parts put_path deeds o ps [] [] put [] [] (none-held put_path held-put deeds unput) (none-ready put_path (λ p done. refl) o ps) e
    (none-settled put_path (λ p. refl) o ps) (none-discarded put_path (λ p. refl) o ps) ∙ append-nil put

discarded-of : (deeds : List Deed) (o : Outcome) (ps discarded : List (List ℕ)) → NothingPut deeds →
    flat_map discarded_path (discard_deeds o ps) ≡ discarded → discarded_paths (deeds ++ last_deeds o ps) ≡ discarded
discarded-of deeds o ps discarded unput e =
    of-parts discarded_path deeds o ps [] [] [] [] discarded (none-held discarded_path held-discarded deeds unput)
    (none-ready discarded_path (λ p done. refl) o ps) (none-put discarded_path (λ p done. refl) o ps)
    (none-settled discarded_path (λ p. refl) o ps) e

ready-of : (f : Deed → List (List ℕ)) (deeds : List Deed) (o : Outcome) (ps ready : List (List ℕ)) →
    ((deed : Deed) → holds_back deed ≡ true → f deed ≡ []) → ((p : List ℕ) (done : Bool) → f (Deed.Put p done) ≡ []) →
    ((p : List ℕ) → f (Deed.Settle p) ≡ []) → ((p : List ℕ) → f (Deed.Discard p) ≡ []) → NothingPut deeds →
    flat_map f (ready_deeds o ps) ≡ ready →
    flat_map f (deeds ++ last_deeds o ps) ≡ ready
ready-of f deeds o ps ready held put settled discarded unput e =
    of-parts f deeds o ps [] ready [] [] [] (none-held f held deeds unput) e (none-put f put o ps) (none-settled f settled o ps)
    (none-discarded f discarded o ps) ∙ append-nil ready

-- the moment when all drafts were ready
readied : (deeds : List Deed) (o : Outcome) (ps : List (List ℕ)) → NothingPut deeds → ps ≡ written_paths deeds →
    flat_map ready_path (ready_deeds o ps) ≡ ps → AllReadyFirst (deeds ++ last_deeds o ps)
readied deeds o ps unput is e =
    let none_ready = none-held ready_path held-ready deeds unput in
    let none_tried = none-held tried_path held-tried deeds unput in
    record {
      before = deeds ++ ready_deeds o ps;
      after = put_deeds o ps ++ (settle_deeds o ps ++ discard_deeds o ps);
      whole = sym (append_assoc deeds (ready_deeds o ps) (put_deeds o ps ++ (settle_deeds o ps ++ discard_deeds o ps)));
      ready = flat_map-append ready_path deeds (ready_deeds o ps) ∙ ap (λ l. l ++ flat_map ready_path (ready_deeds o ps)) none_ready
          ∙ e
          ∙ now-written deeds o ps is;
      unput = flat_map-append tried_path deeds (ready_deeds o ps) ∙ ap (λ l. l ++ flat_map tried_path (ready_deeds o ps)) none_tried
          ∙ none-ready tried_path (λ p done. refl) o ps;
    }

-- the moment when all was put
settled : (deeds : List Deed) (o : Outcome) (ps put : List (List ℕ)) → NothingPut deeds →
    flat_map put_path (put_deeds o ps) ≡ put → flat_map settled_path (settle_deeds o ps) ≡ put →
    SettledLast (deeds ++ last_deeds o ps)
settled deeds o ps put unput is e =
    let all = put-of deeds o ps put unput is in
    let rest = settle_deeds o ps ++ discard_deeds o ps in
    let front = ready_deeds o ps ++ put_deeds o ps in
    let joined : ready_deeds o ps ++ (put_deeds o ps ++ rest) ≡ front ++ rest = sym (append_assoc (ready_deeds o ps) (put_deeds o ps)
    rest) in
    let none_held = none-held put_path held-put deeds unput in
    let none_made = none-ready put_path (λ p done. refl) o ps in
    let none_gone = none-discarded settled_path (λ p. refl) o ps in
    record {
      before = deeds ++ front;
      after = rest;
      whole = ap (λ l. deeds ++ l) joined ∙ sym (append_assoc deeds front rest);
      put = flat_map-append put_path deeds front ∙ ap (λ l. l ++ flat_map put_path front) none_held
          ∙ flat_map-append put_path (ready_deeds o ps) (put_deeds o ps)
          ∙ ap (λ l. l ++ flat_map put_path (put_deeds o ps)) none_made ∙ is ∙ sym all;
      settled = flat_map-append settled_path (settle_deeds o ps) (discard_deeds o ps)
          ∙ ap (λ l. flat_map settled_path (settle_deeds o ps) ++ l) none_gone
          ∙ append-nil (flat_map settled_path (settle_deeds o ps)) ∙ e ∙ sym all;
    }

-- a path that was put has what its draft has
asks-none : (ps : List (List ℕ)) (last : List Deed) → run_log last ≡ [] → run_log (map (λ p. Deed.Put p true) ps ++ last) ≡ []
asks-none [] last e = e
asks-none (p ∷ ps) last e = asks-none ps last e

put-there : (drafts files : Files) (p q bytes : List ℕ) (found : Bool) (last : List Deed) (same : Bool) → run_log last ≡ [] →
    file_at q drafts ≡ Some bytes → (same ≡ true → p ≡ q) → pointwise nat_eq p q ≡ same →
    ((these : Files) → found ≡ true → file_at q (left_files drafts these last) ≡ Some bytes) → (same || found) ≡ true →
    file_at q (left_files drafts (with_file p (file_at p drafts) files) last) ≡ Some bytes
put-there drafts files p q bytes found last true none has equal is later h =
    let now : Files = with_file p (file_at p drafts) files in
    let this : file_at p drafts ≡ Some bytes = ap (λ x. file_at x drafts) (equal refl) ∙ has in
    let first : file_at q now ≡ Some bytes =
    ap (λ o. file_at q (with_file p o files)) this ∙ at-true (pointwise nat_eq p q) (Some bytes) (file_at q files) is in
    elim (end-files drafts now last none q) [
      | inl e ↦ e ∙ first
      | inr w ↦ w.2 ∙ sym w.1 ∙ has
    ]
put-there drafts files p q bytes found last false none has equal is later h = later (with_file p (file_at p drafts) files) h

put-some : (drafts files : Files) (q bytes : List ℕ) (ps : List (List ℕ)) (last : List Deed) → run_log last ≡ [] →
    file_at q drafts ≡ Some bytes →
    is_in q ps ≡ true → file_at q (left_files drafts files (map (λ p. Deed.Put p true) ps ++ last)) ≡ Some bytes
put-some drafts files q bytes [] last none has found = not-so found
put-some drafts files q bytes (p ∷ ps) last none has found =
    put-there drafts files p q bytes (is_in q ps) (map (λ x. Deed.Put x true) ps ++ last) (pointwise nat_eq p q) (asks-none ps last none)
    has
    (bytes_decides p q).0 refl (λ these in_rest. put-some drafts these q bytes ps last none has in_rest) found

-- a path that has a draft is one of those that were written
drafted-in : (deeds : List Deed) (ps : List (List ℕ)) (q bytes : List ℕ) → ps ≡ written_paths deeds →
    file_at q (written (run_log deeds)) ≡ Some bytes → is_in q ps ≡ true
drafted-in deeds ps q bytes is has =
    let log = run_log deeds in
    let found : is_in q (write_paths log) ≡ true =
    elim (found-written q bytes log [] has) [
      | inl e ↦ e
      | inr e ↦ absurd cc
    ] in
    ap (is_in q) is ∙ in-each_once q (write_paths log) ∙ found

-- at a path where all drafts were put, by whether it has one; after that nothing is asked
left-at : (deeds last : List Deed) (ps : List (List ℕ)) (files : Files) (q : List ℕ) (o : Option (List ℕ)) →
    run_log last ≡ [] →
    ps ≡ written_paths deeds →
    file_at q (written (run_log deeds)) ≡ o →
    file_at q (left_files (drafts_left [] deeds) files (map (λ p. Deed.Put p true) ps ++ last))
    ≡ file_at q (files_at_end files (run_log deeds))
left-at deeds last ps files q None unasked is none =
    let here : file_at q (drafts_left [] deeds) ≡ None = ap (file_at q) (drafts-written [] deeds) ∙ none in
    elim (end-files (drafts_left [] deeds) files (map (λ p. Deed.Put p true) ps ++ last) (asks-none ps last unasked) q) [
      | inl e ↦ e ∙ sym (run-none q files (run_log deeds) none)
      | inr w ↦ let some = w.1 in absurd cc
    ]
left-at deeds last ps files q (Some bytes) unasked is has =
    let here : file_at q (drafts_left [] deeds) ≡ Some bytes = ap (file_at q) (drafts-written [] deeds) ∙ has in
    put-some (drafts_left [] deeds) files q bytes ps last unasked here (drafted-in deeds ps q bytes is has)
    ∙ sym (run-some q bytes files (run_log deeds) has)

as-run : (deeds : List Deed) (ps : List (List ℕ)) → NothingPut deeds → ps ≡ written_paths deeds →
    LeavesAsRun (deeds ++ last_deeds outcome.Put ps)
as-run deeds ps unput is files q =
    let held = held-first [] files deeds (last_deeds outcome.Put ps) unput in
    let last : List Deed = map (λ p. Deed.Settle p) ps ++ [] in
    let ready = ready-first (drafts_left [] deeds) files ps (map (λ p. Deed.Put p true) ps ++ last) in
    let unasked : run_log last ≡ [] =
    flat_map-append entry_of (map (λ p. Deed.Settle p) ps) [] ∙ ap (λ l. l ++ []) (none-settled entry_of (λ p. refl) outcome.Put ps) in
    let same = ap (λ log. file_at q (files_at_end files log)) (same-asked deeds outcome.Put ps) in
    ap (file_at q) (held ∙ ready) ∙ left-at deeds last ps files q (file_at q (written (run_log deeds))) unasked is refl ∙ sym same

-- at each moment of a run that has ended
pub ended-moments : (deeds : List Deed) (o : Outcome) (ps : List (List ℕ)) → NothingPut deeds → OldOrNew (deeds ++ last_deeds o ps)
ended-moments deeds o ps unput files count q =
    let same = ap (λ log. file_at q (files_at_end files log)) (same-asked deeds o ps) in
    elim (all-moments [] files deeds (last_deeds o ps) unput (last-asked o ps) count q) [
      | inl e ↦ inl e
      | inr w ↦
          let has : file_at q (written (run_log deeds)) ≡ Some w.0 = sym (ap (file_at q) (drafts-written [] deeds)) ∙ w.1 in
          inr (w.2 ∙ sym (same ∙ run-some q w.0 files (run_log deeds) has))
    ]

all-put : (deeds : List Deed) (ps : List (List ℕ)) → NothingPut deeds → ps ≡ written_paths deeds →
    EachPutOnce (deeds ++ last_deeds outcome.Put ps)
all-put deeds ps unput is =
    let now = now-written deeds outcome.Put ps is in
    record {
      ready_first = readied deeds outcome.Put ps unput is (map-each ready_path (λ p. Deed.Ready p true) (λ p. refl) ps);
      put = put-of deeds outcome.Put ps ps unput (map-each put_path (λ p. Deed.Put p true) (λ p. refl) ps) ∙ now;
      tried_once = tried-of deeds outcome.Put ps ps unput (map-each tried_path (λ p. Deed.Put p true) (λ p. refl) ps) ∙ now;
      kept = discarded-of deeds outcome.Put ps [] unput refl;
      settled = settled deeds outcome.Put ps ps unput (map-each put_path (λ p. Deed.Put p true) (λ p. refl) ps)
          (map-each settled_path (λ p. Deed.Settle p) (λ p. refl) ps);
      as_run = as-run deeds ps unput is;
    }

-- where all drafts are discarded, and none is put
all-gone : (deeds : List Deed) (o : Outcome) (ps : List (List ℕ)) → NothingPut deeds → ps ≡ written_paths deeds →
    put_deeds o ps ≡ [] → discard_deeds o ps ≡ map (λ p. Deed.Discard p) ps → AllDiscarded (deeds ++ last_deeds o ps)
all-gone deeds o ps unput is none all =
    let each = map-each discarded_path (λ p. Deed.Discard p) (λ p. refl) ps in
    record {
      discarded = discarded-of deeds o ps ps unput (ap (flat_map discarded_path) all ∙ each) ∙ now-written deeds o ps is;
      unput = tried-of deeds o ps [] unput (ap (flat_map tried_path) none);
      same_files = λ files. unput-same [] files (deeds ++ last_deeds o ps) (put-of deeds o ps [] unput (ap (flat_map put_path) none));
    }

stopped : (deeds : List Deed) (ps : List (List ℕ)) (k : ℕ) → NothingPut deeds → ps ≡ written_paths deeds → k < length ps →
    StopsAt k (deeds ++ last_deeds (outcome.Stopped k) ps)
stopped deeds ps k unput is below =
    let o = outcome.Stopped k in
    let now = now-written deeds o ps is in
    let some : List Deed = map (λ p. Deed.Put p true) (take k ps) in
    let put_some = map-each put_path (λ p. Deed.Put p true) (λ p. refl) (take k ps) in
    let tried_some = map-each tried_path (λ p. Deed.Put p true) (λ p. refl) (take k ps) in
    let put_now = one-more put_path some (Deed.Put (get_or ps k []) false) (take k ps) [] put_some refl in
    let tried = one-more tried_path some (Deed.Put (get_or ps k []) false) (take k ps) (get_or ps k [] ∷ []) tried_some refl in
    record {
      ready_first = readied deeds o ps unput is (map-each ready_path (λ p. Deed.Ready p true) (λ p. refl) ps);
      put = put-of deeds o ps _ unput put_now
          ∙ append-nil (take k ps) ∙ ap (take k) now;
      tried_once = tried-of deeds o ps _ unput tried ∙ sym (take_more ps k [] below) ∙ ap (take (k + 1)) now;
      discarded = discarded-of deeds o ps (drop k ps) unput (map-each discarded_path (λ p. Deed.Discard p) (λ p. refl) (drop k ps))
          ∙ ap (drop k) now;
      settled = settled deeds o ps (take k ps) unput (put_now ∙ append-nil (take k ps))
          (map-each settled_path (λ p. Deed.Settle p) (λ p. refl) (take k ps));
    }

unready : (deeds : List Deed) (ps : List (List ℕ)) (k : ℕ) → NothingPut deeds → ps ≡ written_paths deeds → k < length ps →
    IsUnreadyAt k (deeds ++ last_deeds (outcome.Unready k) ps)
unready deeds ps k unput is below =
    let o = outcome.Unready k in
    let now = now-written deeds o ps is in
    let some : List Deed = map (λ p. Deed.Ready p true) (take k ps) in
    let last : Deed = Deed.Ready (get_or ps k []) false in
    let ready_some = map-each ready_path (λ p. Deed.Ready p true) (λ p. refl) (take k ps) in
    let asked_some = map-each readying_path (λ p. Deed.Ready p true) (λ p. refl) (take k ps) in
    let ready = one-more ready_path some last (take k ps) [] ready_some refl in
    let asked = one-more readying_path some last (take k ps) (get_or ps k [] ∷ []) asked_some refl in
    record {
      discarded = all-gone deeds o ps unput is refl refl;
      ready = ready-of ready_path deeds o ps _ held-ready (λ p done. refl) (λ p. refl) (λ p. refl) unput ready ∙ append-nil (take k ps)
          ∙ ap (take k) now;
      asked_once = ready-of readying_path deeds o ps _ held-readying (λ p done. refl) (λ p. refl) (λ p. refl) unput asked
          ∙ sym (take_more ps k [] below) ∙ ap (take (k + 1)) now;
    }

-- a run has ended so
pub ends : (deeds : List Deed) (o : Outcome) (ps : List (List ℕ)) → NothingPut deeds → ps ≡ written_paths deeds →
    IsPlace o (length ps) →
    EndsSo o (deeds ++ last_deeds o ps)
ends deeds outcome.Put ps unput is within = all-put deeds ps unput is
ends deeds outcome.Discarded ps unput is within = all-gone deeds outcome.Discarded ps unput is refl refl
ends deeds (outcome.Unready k) ps unput is within = unready deeds ps k unput is within
ends deeds (outcome.Stopped k) ps unput is within = stopped deeds ps k unput is within
