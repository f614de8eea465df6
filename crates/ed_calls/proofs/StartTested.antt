-- What a test of a start comes to.
use Rattle.std.proofs.Common.{◌≡◌, ◌∙◌, ℕ, List, [], Option, None, Result, Ok, Err, inl, inr, refl, ap, sym, subst, append-nil}
use Rattle.std.specs.Prelude.{IfSome, IfOk, OnErr}
use Rattle.std.specs.declared.alloc.AllocError.{AllocError}
use Rattle.ed_syntax.specs.declared.request.Answer.{Answer}
use Rattle.ed_syntax.specs.declared.request.Answer.TheVariants as answer
use Rattle.ed_base.specs.Fault.{status_of}
use Rattle.ed_base.specs.declared.fault.Fault.TheVariants as fault
use Rattle.ed_session.specs.Drives.{Log, answers}
use Rattle.ed_session.specs.Sinks.{SinkChange, SinkState, change}
use Rattle.cert_check.specs.Certificates.{Certificate}
use Rattle.cert_check.specs.text.HasText.{IsText}
use Rattle.cert_check.specs.checker.Sound.{IsAllowed, start_lines}
use Rattle.ed_calls.specs.declared.told.Told.{Told}
use Rattle.ed_calls.specs.Run as checked
use Rattle.ed_calls.specs.Run.{LiesOutside, StartsOutside, reading}
use Rattle.ed_calls.specs.RunOver.{lines_told}
use Rattle.ed_calls.specs.Told.{Says, outside_told}
use Rattle.ed_calls.specs.Fits as meaning
use Rattle.ed_calls.specs.Fits.{Fits, status_of_lines}
use Rattle.ed_calls.specs.StartTest.{IsTheStart, IsUntested}
use Rattle.ed_calls.proofs.Checks.{start_is}
use Rattle.ed_calls.proofs.Sayings.{tells_only}

-- what holds anyway holds of an error
pub on_err : {T E : Type 0} {P : Type 0} (r : Result T E) → P → OnErr r P
on_err (Ok x) p = tt
on_err (Err e) p = p

-- the lines of a start, of which nothing but its one read was asked
start_only : (path : Option (List ℕ)) (given : Answer) → (path ≡ None → given ≡ answer.Missing) → start_lines path (answers (reading path given)) ≡ lines_told given
start_only path given missing = subst (λ l. start_lines path (answers l) ≡ lines_told given) (append-nil (reading path given)) (start_is path given [] missing)

module _ (c : Certificate) (path : Option (List ℕ)) (given : Answer) (log : Log) (read : log ≡ reading path given) (missing : path ≡ None → given ≡ answer.Missing) where
  lines_are : start_lines path (answers log) ≡ lines_told given
  lines_are = ap (λ l. start_lines path (answers l)) read ∙ start_only path given missing

  pub read_outside : path ≡ c.path → LiesOutside c (lines_told given) → StartsOutside c path log
  read_outside named outside = checked.not_allowed given named read (subst (LiesOutside c) (sym lines_are) outside)

  pub read_inside : path ≡ c.path → IfSome (lines_told given) (IsAllowed c) → IsTheStart c path given log
  read_inside named allowed = record { named = named; read = read; missing = missing; allowed = allowed }

-- a start that is allowed
pub fits_inside : (certificate : List ℕ) (c : Certificate) (path : Option (List ℕ)) (given : Answer) (log : Log) (state : SinkState) (status : ℕ) → IsText certificate c → IsTheStart c path given log
    → status ≡ status_of_lines (lines_told given) → Fits certificate path log (change state state) status
fits_inside certificate c path given log state status text a is =
    let lines = lines_are c path given log a.read a.missing in
    meaning.inside c text
    (record {
      named = a.named;
      given = given;
      later = [];
      read = a.read ∙ sym (append-nil (reading path given));
      allowed = subst (λ l. IfSome l (IsAllowed c)) (sym lines) a.allowed;
    }) refl refl (is ∙ ap status_of_lines (sym lines))

-- one that isn't was told so
pub fits_outside : (certificate : List ℕ) (c : Certificate) (path : Option (List ℕ)) (log : Log) (made : Result Told AllocError) (sink : SinkChange) (status : ℕ) → IsText certificate c → StartsOutside c path log
    → IfOk made (λ told. told ≡ outside_told) → Says (λ one. made ≡ Ok one) sink status → Fits certificate path log sink status
fits_outside certificate c path log made sink status text starts is says = meaning.outside c text starts (tells_only outside_told made sink status (λ e. cc) is says)

-- there was no memory for the test
pub fits_untested : (certificate : List ℕ) (c : Certificate) (path : Option (List ℕ)) (log : Log) (state : SinkState) (status : ℕ) → IsText certificate c → IsUntested c path log
    → status ≡ status_of fault.Memory → Fits certificate path log (change state state) status
fits_untested certificate c path log state status text (inl none) is = meaning.no_memory none refl is
fits_untested certificate c path log state status text (inr read) is = meaning.untested c text read refl is
