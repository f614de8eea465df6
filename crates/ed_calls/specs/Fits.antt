-- What comes of a test whether a start is one that a certificate allows, by the words in which that is said of `run` (our choice).
use Rattle.std.specs.Prelude.{◌≡◌, ℕ, List, [], Option, Some, None}
use Rattle.ed_base.specs.Fault.{status_of}
use Rattle.ed_base.specs.declared.fault.Fault.TheVariants as fault
use Rattle.ed_session.specs.Drives.{Log, answers}
use Rattle.ed_session.specs.Sinks.{SinkChange}
use Rattle.cert_check.specs.Certificates.{Certificate}
use Rattle.cert_check.specs.text.HasText.{IsText}
use Rattle.cert_check.specs.checker.Sound.{start_lines}
use Rattle.ed_calls.specs.Run.{OnlyReads, StartsInside, StartsOutside, Untouched}
use Rattle.ed_calls.specs.Told.{IsUnread, Says, Tells, outside_told}

-- the status of a start that doesn't lie outside: where its lines aren't known, its file was refused
abbrev pub status_of_lines : Option (List (List ℕ)) → ℕ
status_of_lines None = status_of fault.File
status_of_lines (Some lines) = 0

-- The start at a path came to this by the certificate whose text the bytes are. There is no certificate; or the start is another; or it is
-- the certificate's, unless its file was refused; or there was no memory to find out, for the certificate or for the test.
pub data Fits (certificate : List ℕ) (path : Option (List ℕ)) (log : Log) (sink : SinkChange) (status : ℕ) : Type 0 where
  no_certificate : log ≡ [] → Says (IsUnread certificate) sink status → Fits certificate path log sink status
  outside : (c : Certificate) → IsText certificate c → StartsOutside c path log → Tells outside_told sink status → Fits certificate path log sink status
  inside : (c : Certificate) → IsText certificate c → (start : StartsInside c path log) → start.later ≡ [] → Untouched sink →
      status ≡ status_of_lines (start_lines path (answers log)) → Fits certificate path log sink status
  no_memory : log ≡ [] → Untouched sink → status ≡ status_of fault.Memory → Fits certificate path log sink status
  untested : (c : Certificate) → IsText certificate c → OnlyReads c path log → Untouched sink → status ≡ status_of fault.Memory → Fits certificate path log sink status
