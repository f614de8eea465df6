-- A rehearsal stays one with each call.
use Rattle.std.proofs.Common.{◌≡◌, ◌≤◌, ◌+◌, ℕ, List, [], ◌∷◌, ◌++◌, Bool, true, false, nat_eq, Option, Some, length, length-append, refl, sym, ap, ◌∙◌, subst, arith, append-nil}
use Rattle.std.proofs.lemmas.Bool.Decides.{nat_tests}
use Rattle.std.specs.Prelude.{IfSome}
use Rattle.ed_base.specs.Lines.{lines_of}
use Rattle.ed_syntax.specs.declared.request.Answer.{Answer}
use Rattle.ed_syntax.specs.declared.request.Answer.TheVariants as answer
use Rattle.ed_syntax.specs.declared.request.Request.{Request}
use Rattle.ed_syntax.specs.declared.request.Request.TheVariants as request
use Rattle.ed_session.specs.declared.mem_files.MemFiles.{MemFiles}
use Rattle.ed_session.specs.Drives.{Log}
use Rattle.ed_session.specs.KeptAnswers.{Files, found}
use Rattle.ed_session.specs.MemFiles.{ChangesFiles, ChangesRefused, file_at, files_of, files_written, log_of, read_answer, refused_call, refusals, refusals_after, refuses_now, write_answer}
use Rattle.rehearsal.specs.declared.held_write.HeldWrite.{HeldWrite}
use Rattle.rehearsal.specs.Rehearsals.{Answered, ReadsAtMost, Rehearses, Shown, written}
use Rattle.rehearsal.specs.Held.{told_of, writes_of}
use Rattle.rehearsal.specs.Insides.{Holds, IsRehearsal, call_if, refused_or}
use Rattle.rehearsal.proofs.Appending.{files-append, rehearses-append, writes-append}
use Rattle.rehearsal.proofs.Holding.{holds-write, same-path, these-hold}
use Rattle.rehearsal.proofs.Reading.{still-read, still-rehearses}

-- a call that is answered
pub goes-on : (real new : Log) (path : List ℕ) (files after : MemFiles) (calls more : ℕ) (held told : List HeldWrite) (asked : Request) (given : Answer) →
    IsRehearsal real files calls held → ReadsAtMost path real new → Holds new (files_of after) (written (log_of after)) →
    log_of after ≡ log_of files ++ (asked, given) ∷ [] → Answered new (written (log_of files)) asked given →
    refused_call after ≡ 0 → refusals after ≤ refusals files + 1 → more ≡ calls + 1 → told ≡ held ++ told_of asked →
    IsRehearsal new after more told
goes-on real new path files after calls more held told asked given r reads holds log fits none few counted tells =
    let longer : length (log_of after) ≡ length (log_of files) + 1 = ap length log ∙ length-append (log_of files) ((asked, given) ∷ []) in
    record {
      counted = omega (arith, longer, counted, r.counted);
      refuses_none = none;
      few = omega (arith, longer, few, r.few);
      holds = holds;
      rehearsed = subst (Rehearses new []) (sym log)
          (rehearses-append new [] (log_of files) asked given (still-rehearses path real new reads [] (log_of files) r.rehearsed) fits);
      only_read = still-read path real new reads r.only_read;
      told = tells ∙ ap (λ ws. ws ++ told_of asked) r.told ∙ sym (writes-append (log_of files) asked given) ∙ ap writes_of (sym log);
    }

-- a call that finds no memory
pub stays : (real new : Log) (path : List ℕ) (files after : MemFiles) (calls : ℕ) (held : List HeldWrite) →
    IsRehearsal real files calls held → ReadsAtMost path real new → Holds new (files_of after) (written (log_of after)) →
    log_of after ≡ log_of files → refused_call after ≡ 0 → refusals after ≡ refusals files → IsRehearsal new after calls held
stays real new path files after calls held r reads holds log none few =
    let same : length (log_of after) ≡ length (log_of files) = ap length log in
    record {
      counted = r.counted ∙ sym same;
      refuses_none = none;
      few = omega (arith, same, few, r.few);
      holds = holds;
      rehearsed = subst (Rehearses new []) (sym log) (still-rehearses path real new reads [] (log_of files) r.rehearsed);
      only_read = still-read path real new reads r.only_read;
      told = r.told ∙ ap writes_of (sym log);
    }

-- the next call is refused just where it was said so
pub refuses-said : (files : MemFiles) (refused : Bool) (call : ℕ) → refused_call files ≡ call_if refused call → call ≡ length (log_of files) + 1 →
    refuses_now files ≡ refused
refuses-said files true call said next =
    let same : refused_call files ≡ length (log_of files) + 1 = said ∙ next in grind (arith, nat_tests)
refuses-said files false call said next =
    let none : refused_call files ≡ 0 = said in grind (arith, nat_tests)

-- what a read is answered, where it is refused or not
answer-or : (now refused : Bool) (found answered : Answer) → now ≡ refused → found ≡ answered →
    (elim now [ true ↦ answer.Refused | false ↦ found ]) ≡ refused_or refused answered
answer-or true true found answered e same = refl
answer-or true false found answered e same = absurd cc
answer-or false true found answered e same = absurd cc
answer-or false false found answered e same = same

at-false : {A : Type 0} (test : Bool) (x y : A) → test ≡ false → (elim test [ true ↦ x | false ↦ y ]) ≡ y
at-false test x y e = subst (λ b. (elim b [ true ↦ x | false ↦ y ]) ≡ y) (sym e) refl

few-more : (files : MemFiles) (test : Bool) → (elim test [ true ↦ refusals files + 1 | false ↦ refusals files ]) ≤ refusals files + 1
few-more files true = omega arith
few-more files false = omega arith

-- a read that is answered, by files that were fetched, told to refuse it or not, read, and told to refuse none
pub goes-on-read : (real new : Log) (files fetched ready read after : MemFiles) (calls more call : ℕ) (held : List HeldWrite) (path : List ℕ) (refused : Bool) (given : Answer) →
    IsRehearsal real files calls held → ReadsAtMost path real new → Holds new (files_of fetched) (written (log_of fetched)) →
    Shown new (written (log_of fetched)) path (refused_or refused (found (file_at path (files_of fetched)))) →
    log_of fetched ≡ log_of files → refusals fetched ≡ refusals files →
    call ≡ call_if refused more → ChangesRefused fetched ready call →
    log_of read ≡ log_of ready ++ (request.Read path, given) ∷ [] → given ≡ read_answer ready path → refusals read ≡ refusals_after ready →
    files_of read ≡ files_of ready → ChangesRefused read after 0 → more ≡ calls + 1 → IsRehearsal new after more held
goes-on-read real new files fetched ready read after calls more call held path refused given r reads holds shown same_log same_refusals said first log value count same second counted =
    let before : log_of ready ≡ log_of files = first.same_log ∙ same_log in
    let now : refuses_now ready ≡ refused =
    refuses-said ready refused more (first.now ∙ said) (counted ∙ ap (λ n. n + 1) (r.counted ∙ ap length (sym before))) in
    let told : given ≡ refused_or refused (found (file_at path (files_of fetched))) =
    value ∙ answer-or (refuses_now ready) refused _ _ now (ap (λ fs. found (file_at path fs)) first.same_files) in
    let fits : Shown new (written (log_of files)) path given = rw (told, ← same_log) shown in
    let longer : log_of after ≡ log_of files ++ (request.Read path, given) ∷ [] = second.same_log ∙ log ∙ ap (λ l. l ++ (request.Read path, given) ∷ []) before in
    let made : written (log_of after) ≡ written (log_of fetched) = ap written longer ∙ files-append [] (log_of files) (request.Read path) given ∙ ap written (sym same_log) in
    let kept : files_of after ≡ files_of fetched = second.same_files ∙ same ∙ first.same_files in
    let few : refusals_after ready ≤ refusals ready + 1 = few-more ready (refuses_now ready) in
    let few_after : refusals after ≤ refusals files + 1 = omega (arith, few, count, second.same_refusals, first.same_refusals, same_refusals) in
    goes-on real new path files after calls more held held (request.Read path) given r reads (these-hold new _ _ _ _ holds kept made) longer fits
    second.now few_after counted (sym (append-nil held))

-- a read of files that were fetched, which finds no memory
pub stays-read : (real new : Log) (files fetched ready read after : MemFiles) (calls call : ℕ) (held : List HeldWrite) (path : List ℕ) →
    IsRehearsal real files calls held → ReadsAtMost path real new → Holds new (files_of fetched) (written (log_of fetched)) →
    log_of fetched ≡ log_of files → refusals fetched ≡ refusals files → ChangesRefused fetched ready call →
    log_of read ≡ log_of ready → refusals read ≡ refusals ready → files_of read ≡ files_of ready → ChangesRefused read after 0 →
    IsRehearsal new after calls held
stays-read real new files fetched ready read after calls call held path r reads holds same_log same_refusals first log count same second =
    let until : log_of after ≡ log_of fetched = second.same_log ∙ log ∙ first.same_log in
    let kept : files_of after ≡ files_of fetched = second.same_files ∙ same ∙ first.same_files in
    stays real new path files after calls held r reads (these-hold new _ _ _ _ holds kept (ap written until)) (until ∙ same_log) second.now
    (second.same_refusals ∙ count ∙ first.same_refusals ∙ same_refusals)

-- where no call is refused, none is now
pub unrefused : (real : Log) (files : MemFiles) (calls : ℕ) (held : List HeldWrite) → IsRehearsal real files calls held → refuses_now files ≡ false
unrefused real files calls held r = refuses-said files false (length (log_of files) + 1) r.refuses_none refl

-- a write that is answered
pub goes-on-write : (real : Log) (files after : MemFiles) (calls more : ℕ) (held told : List HeldWrite) (path bytes : List ℕ) (given : Answer) →
    IsRehearsal real files calls held → log_of after ≡ log_of files ++ (request.Write path bytes, given) ∷ [] → given ≡ write_answer files →
    files_of after ≡ files_written files path bytes → refused_call after ≡ refused_call files → refusals after ≡ refusals_after files →
    more ≡ calls + 1 → told ≡ held ++ told_of (request.Write path bytes) → IsRehearsal real after more told
goes-on-write real files after calls more held told path bytes given r log value files_are none count counted tells =
    let now : refuses_now files ≡ false = unrefused real files calls held r in
    let fits : given ≡ answer.Done = value ∙ at-false (refuses_now files) answer.Refused answer.Done now in
    let kept : files_of after ≡ (path, bytes) ∷ files_of files = files_are ∙ at-false (refuses_now files) (files_of files) ((path, bytes) ∷ files_of files) now in
    let made : written (log_of after) ≡ (path, bytes) ∷ written (log_of files) = ap written log ∙ files-append [] (log_of files) (request.Write path bytes) given in
    let few : refusals_after files ≤ refusals files + 1 = few-more files (refuses_now files) in
    let few_after : refusals after ≤ refusals files + 1 = omega (arith, few, count) in
    goes-on real real path files after calls more held told (request.Write path bytes) given r (ReadsAtMost.none refl)
    (these-hold real _ _ _ _ (holds-write real _ _ path bytes r.holds) kept made) log fits (none ∙ r.refuses_none) few_after counted tells

if-some : (o : Option (List ℕ)) (P : List ℕ → Type 0) (bytes : List ℕ) → o ≡ Some bytes → IfSome o P → P bytes
if-some o P bytes e h = let p : IfSome (Some bytes) P = subst (λ x. IfSome x P) e h in p

-- what is told of a write that was made
pub tells-write : (real : Log) (files after : MemFiles) (calls : ℕ) (held : List HeldWrite) (path bytes name : List ℕ) (lines count : ℕ) →
    IsRehearsal real files calls held → files_of after ≡ files_written files path bytes →
    name ≡ path → IfSome (file_at path (files_of after)) (λ found. lines ≡ length (lines_of found)) → count ≡ length bytes →
    (let told : List HeldWrite = record { path = name; lines = lines; bytes = count } ∷ [] in told ≡ told_of (request.Write path bytes))
tells-write real files after calls held path bytes name lines count r files_are named counted size =
    let now : refuses_now files ≡ false = unrefused real files calls held r in
    let kept : files_of after ≡ (path, bytes) ∷ files_of files = files_are ∙ at-false (refuses_now files) (files_of files) ((path, bytes) ∷ files_of files) now in
    let at : file_at path (files_of after) ≡ Some bytes = ap (file_at path) kept ∙ same-path path bytes (files_of files) in
    let lines_are : lines ≡ length (lines_of bytes) = if-some (file_at path (files_of after)) (λ found. lines ≡ length (lines_of found)) bytes at counted in
    rw (named, lines_are, size) refl
