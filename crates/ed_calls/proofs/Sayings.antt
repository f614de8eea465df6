-- What is told of a script with its certificate is what the program says.
use Rattle.std.proofs.Common.{◌≡◌, ◌≢◌, ◌≤◌, ℕ, List, [], Option, Some, None, Result, Ok, Err, refl, sym, subst, arith, append-nil}
use Rattle.std.specs.Prelude.{IfOk}
use Rattle.std.specs.declared.alloc.AllocError.{AllocError}
use Rattle.std.specs.Io.KnownBytes.{Appends}
use Rattle.ed_base.specs.Fault.{status_of}
use Rattle.ed_base.specs.declared.fault.Fault.{Fault}
use Rattle.ed_base.specs.declared.fault.Fault.TheVariants as fault
use Rattle.ed_syntax.specs.declared.options.Options.{Options}
use Rattle.ed_syntax.specs.Commands.{Script}
use Rattle.ed_syntax.specs.reading.Reading.{script_of}
use Rattle.ed_syntax.specs.spelling.Spellings.{SpellsWhatIsRead}
use Rattle.ed_session.specs.Drives.{Log}
use Rattle.ed_session.specs.Sinks.{SinkChange, SinkState, Took, TookFront, Failed, change}
use Rattle.cert_check.specs.declared.certificate.Certificate as public
use Rattle.cert_check.specs.declared.checker.verdict.Place.{Place}
use Rattle.cert_check.specs.Certificates.{Certificate, certificate_value}
use Rattle.cert_check.specs.text.Text.{text_of}
use Rattle.cert_check.specs.text.HasText.{HasText, IsText}
use Rattle.analyser.specs.Analysis.{HasTextIfVouched}
use Rattle.cert_check.specs.declared.checker.verdict.Verdict.{Verdict}
use Rattle.cert_check.specs.declared.checker.verdict.Verdict.TheVariants.{Accepted, Refused}
use Rattle.analyser.specs.declared.analysis.Start.{Start}
use Rattle.analyser.specs.declared.analysis.Analysis.{Analysis}
use Rattle.analyser.specs.declared.analysis.Analysis.TheVariants.{Vouched, Cannot}
use Rattle.ed_calls.specs.declared.running.Ran.{Ran}
use Rattle.ed_calls.specs.declared.running.Ran.TheVariants as ran
use Rattle.ed_calls.specs.declared.told.Origin.{Origin}
use Rattle.ed_calls.specs.declared.told.Origin.TheVariants.{Given, Made}
use Rattle.ed_calls.specs.declared.told.Told.{Told}
use Rattle.ed_calls.specs.Check as check
use Rattle.ed_calls.specs.Check.{Checks}
use Rattle.ed_calls.specs.Headline.{Headline}
use Rattle.ed_calls.specs.Run as run
use Rattle.ed_calls.specs.Run.{CheckedRun, Runs, RunsBy, ran_told}
use Rattle.ed_calls.specs.Told as telling
use Rattle.ed_calls.specs.Told.{IsUnread, Says, Tells, verdict_told, cannot_told, outside_of}
use Rattle.ed_calls.specs.Names.{first_unusable}
use Rattle.ed_calls.specs.Finding.{IsJudged, IsUnusable}
use Rattle.ed_calls.specs.Starts.{IsJudgedFor}
use Rattle.ed_calls.specs.Vouch.{IsAnswerFor, IsToldOf, Vouches, answered, unusable}
use Rattle.ed_calls.specs.Vouched.{IsRefused}
use Rattle.ed_calls.specs.declared.judging.Judged.{Judged}
use Rattle.ed_calls.specs.declared.starts.Starts.{Starts}

-- what is said of some telling is said of each that it implies
pub says_more : (P Q : Told → Type 0) (sink : SinkChange) (status : ℕ) → ((t : Told) → P t → Q t) → Says P sink status → Says Q sink status
says_more P Q sink status f (telling.tells t p told) = telling.tells t (f t p) told
says_more P Q sink status f (telling.nothing same is) = telling.nothing same is

-- what one call made was told
pub says_of : (P : Told → Type 0) (made : Result Told AllocError) (sink : SinkChange) (status : ℕ) → IfOk made P → Says (λ one. made ≡ Ok one) sink status
    → Says P sink status
says_of P made sink status is says = says_more (λ one. made ≡ Ok one) P sink status (λ t e. subst (λ r. IfOk r P) e is) says

-- where only one thing may have been made, that was told, or there was no memory for it
pub tells_only : (told : Told) (made : Result Told AllocError) (sink : SinkChange) (status : ℕ) → told.output ≢ [] → IfOk made (λ t. t ≡ told)
    → Says (λ one. made ≡ Ok one) sink status → Tells told sink status
tells_only told made sink status some is (telling.tells t p x) = subst (λ o. Tells o sink status) (subst (λ r. IfOk r (λ o. o ≡ told)) p is) x
tells_only told made sink status some is (telling.nothing same ends) = telling.untold some same ends

-- nothing more was taken
pub none_taken : (a : Option (List ℕ)) → Appends a a []
none_taken None = tt
none_taken (Some a) = sym (append-nil a)

-- STATUSES

tells_few : (told : Told) (sink : SinkChange) (status : ℕ) → told.status ≤ 4 → Tells told sink status → status ≤ 4
tells_few told sink status few (telling.all took is) = subst (λ n. n ≤ 4) (sym is) few
tells_few told sink status few (telling.front took risen is) = rw is (omega arith)
tells_few told sink status few (telling.untold some same is) = rw is (omega arith)

pub says_few : (P : Told → Type 0) (sink : SinkChange) (status : ℕ) → ((t : Told) → P t → t.status ≤ 4) → Says P sink status → status ≤ 4
says_few P sink status few (telling.tells t p told) = tells_few t sink status (few t p) told
says_few P sink status few (telling.nothing same is) = rw is (omega arith)

pub verdict_few : (verdict : Verdict) → (verdict_told verdict).status ≤ 4
verdict_few Accepted = omega arith
verdict_few (Refused place) = omega arith

pub told_few : (told other : Told) → told ≡ other → other.status ≤ 4 → told.status ≤ 4
told_few told other is few = subst (λ t. t.status ≤ 4) (sym is) few

pub unread_few : (bytes : List ℕ) (told : Told) → IsUnread bytes told → told.status ≤ 4
unread_few bytes told (telling.version h is) = told_few told _ is (omega arith)
unread_few bytes told (telling.line number h is) = told_few told _ is (omega arith)
unread_few bytes told (telling.size h is) = told_few told _ is (omega arith)

checks_few : (script certificate : List ℕ) (told : Told) → Checks script certificate told → told.status ≤ 4
checks_few script certificate told (check.verdict s c spelled text is) = told_few told _ is (verdict_few _)
checks_few script certificate told (check.no_certificate h) = unread_few certificate told h

-- the status of what is told of a certificate
pub check_status : (script certificate : List ℕ) (sink : SinkChange) (status : ℕ) → Says (Checks script certificate) sink status → status ≤ 4
check_status script certificate sink status says = says_few (Checks script certificate) sink status (checks_few script certificate) says

pub unread_status : (bytes : List ℕ) (sink : SinkChange) (status : ℕ) → Says (IsUnread bytes) sink status → status ≤ 4
unread_status bytes sink status says = says_few (IsUnread bytes) sink status (unread_few bytes) says

-- A RUN THAT IS CHECKED FIRST

-- a run without a fault doesn't depend on what may fail
pub headline_ok : (s : Script) (c : Certificate) (o : Options) (log : Log) (one other : Fault → Type 0) (r : Ran) → Headline s c o log one (Ok r) → Headline s c o log other (Ok r)
headline_ok s c o log one other (ran.Refused place) h = h
headline_ok s c o log one other ran.StartOutside h = h
headline_ok s c o log one other (ran.Done ending) h = h

module _ (origin : Origin) (s : Script) (c : Certificate) (o : Options) (log : Log) (before between : SinkState) (result : Result Ran Fault)
    (came : CheckedRun s c o log (change before between) result) where
  by_of : (may_fail : Fault → Type 0) (after : SinkState) (status : ℕ) → Headline s c o log may_fail result → Tells (ran_told origin result) (change between after) status
      → RunsBy origin s c o log may_fail (change before after) status
  by_of may_fail after status headline told = record { result = result; between = between; came = came; headline = headline; told = told }

  -- what came of it was told
  pub runs_told : (one other : Fault → Type 0) (r : Ran) (made : Result Told AllocError) (after : SinkState) (status : ℕ) → result ≡ Ok r → Headline s c o log one result
      → (ran_told origin (Ok r)).output ≢ [] → IfOk made (λ told. told ≡ ran_told origin (Ok r)) → Says (λ t. made ≡ Ok t) (change between after) status
      → RunsBy origin s c o log other (change before after) status
  runs_told one other r made after status is headline some told says =
      by_of other after status
      (subst (λ x. Headline s c o log other x) (sym is) (headline_ok s c o log one other r (subst (λ x. Headline s c o log one x) is headline)))
      (subst (λ x. Tells (ran_told origin x) (change between after) status) (sym is) (tells_only (ran_told origin (Ok r)) made (change between after) status some told says))

  -- it was run to its end, of which no more is told
  pub runs_ended : (may_fail : Fault → Type 0) (status : ℕ) (end : Result Ran Fault) → result ≡ end → Headline s c o log may_fail result → (ran_told origin end).output ≡ [] → status ≡ (ran_told origin end).status
      → RunsBy origin s c o log may_fail (change before between) status
  runs_ended may_fail status end is headline none ends =
      by_of may_fail between status headline
      (subst (λ x. Tells (ran_told origin x) (change between between) status) (sym is) (telling.all (subst (Took (change between between)) (sym none) (none_taken between.taken)) ends))

-- the script that was run is the one that the bytes spell
pub runs_of : (spells : SpellsWhatIsRead script_of) (bytes certificate : List ℕ) (s : Script) (c : Certificate) (o : Options) (log : Log)
    (may_fail : Fault → Type 0) (sink : SinkChange) (status : ℕ) → s ≡ script_of bytes → IsText certificate c → RunsBy Given s c o log may_fail sink status
    → Runs bytes certificate o log may_fail sink status
runs_of spells bytes certificate s c o log may_fail sink status read text by =
    run.checked (script_of bytes) c (spells bytes) text (subst (λ s. RunsBy Given s c o log may_fail sink status) read by)

-- the text of the certificate that vouches was taken
pub says_vouched : (answer : Analysis) (c : public.Certificate) (sink : SinkChange) → answer ≡ Vouched c → HasTextIfVouched answer
    → Took sink (text_of (certificate_value c)) → Says (IsToldOf answer) sink 0
says_vouched answer c sink is has took =
    let told : Told = record { output = text_of (certificate_value c); status = 0 } in
    let text : HasText (certificate_value c) = rw is at has in
    rw is (telling.tells told ((text, refl), refl) (telling.all took refl))

-- or a front of it
pub says_refused : (answer : Analysis) (c : public.Certificate) (sink : SinkChange) (status : ℕ) → answer ≡ Vouched c → HasTextIfVouched answer
    → TookFront sink (text_of (certificate_value c)) → Failed sink → status ≡ status_of fault.Output → Says (IsToldOf answer) sink status
says_refused answer c sink status is has front failed ends =
    let told : Told = record { output = text_of (certificate_value c); status = 0 } in
    let text : HasText (certificate_value c) = rw is at has in
    rw is (telling.tells told ((text, refl), refl) (telling.front front failed ends))

-- the need that fails was told
pub says_cannot : (answer : Analysis) (place : Place) (why : Fault) (notes : _) (made : Result Told AllocError) (sink : SinkChange) (status : ℕ)
    → answer ≡ Cannot place why notes → IfOk made (λ told. told ≡ cannot_told place why) → Says (λ one. made ≡ Ok one) sink status → Says (IsToldOf answer) sink status
says_cannot answer place why notes made sink status is told says = rw is (says_of (λ t. t ≡ cannot_told place why) made sink status told says)

-- the analyser's answer was told
pub vouches_of : (script : List ℕ) (starts : Starts) (start : Start) (answer : Analysis) (sink : SinkChange) (status : ℕ) →
    IsJudgedFor script starts start → IsAnswerFor script start answer → first_unusable (script_of script) start answer ≡ None →
    Says (IsToldOf answer) sink status → Says (Vouches script starts) sink status
vouches_of script starts start answer sink status judged is usable says =
    says_more (IsToldOf answer) (Vouches script starts) sink status (λ t told_so. answered start answer judged is usable told_so) says

-- what tells that it isn't vouched for is what `vouch` tells
refusal_vouches : (script : List ℕ) (starts : Starts) (told : Told) → IsRefused script starts told → Vouches script starts told
refusal_vouches script starts told refused = refused.vouches

pub refusal_told : (script : List ℕ) (starts : Starts) (sink : SinkChange) (status : ℕ) → Says (IsRefused script starts) sink status →
    Says (Vouches script starts) sink status
refusal_told script starts sink status says =
    says_more (IsRefused script starts) (Vouches script starts) sink status (refusal_vouches script starts) says

-- the need that fails was told, and nothing is run
pub refused_of : (script : List ℕ) (starts : Starts) (one : Judged) → IsJudged script starts one → (place : Place) (why : Fault) (notes : _)
    (made : Result Told AllocError) (sink : SinkChange) (status : ℕ) → one.analysis ≡ Cannot place why notes →
    IfOk made (λ told. told ≡ cannot_told place why) → Says (λ t. made ≡ Ok t) sink status → Says (IsRefused script starts) sink status
refused_of script starts one found place why notes made sink status cannot told says =
    says_more (λ t. t ≡ cannot_told place why) (IsRefused script starts) sink status (λ t told_so.
    let so : IsToldOf one.analysis t = rw cannot told_so in
    record { vouches = answered one.start one.analysis found.start found.answer found.usable so; status = rw told_so refl })
    (says_of (λ t. t ≡ cannot_told place why) made sink status told says)

-- or the command that asks for a file by what isn't UTF-8
pub names_told : (script : List ℕ) (starts : Starts) (place : Place) (made : Result Told AllocError) (sink : SinkChange) (status : ℕ) →
    IsUnusable script starts place → IfOk made (λ told. told ≡ cannot_told place fault.File) →
    Says (λ one. made ≡ Ok one) sink status → Says (IsRefused script starts) sink status
names_told script starts place made sink status found told says =
    says_more (λ t. t ≡ cannot_told place fault.File) (IsRefused script starts) sink status
    (λ t is. record { vouches = unusable found.start found.answer place found.over found.exact found.named is; status = rw is refl })
    (says_of (λ t. t ≡ cannot_told place fault.File) made sink status told says)
