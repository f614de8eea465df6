-- What `check` tells of a script and a certificate.
use Rattle.std.specs.Prelude.{◌≡◌, ℕ, List}
use Rattle.ed_syntax.specs.Commands.{Script}
use Rattle.ed_syntax.specs.spelling.Spellings.{SpellsScript}
use Rattle.cert_check.specs.Certificates.{Certificate}
use Rattle.cert_check.specs.text.HasText.{IsText}
use Rattle.cert_check.specs.checker.Valid.{judged}
use Rattle.ed_calls.specs.declared.told.Told.{Told}
use Rattle.ed_calls.specs.Told.{IsUnread, verdict_told}

-- the verdict on the certificate for the script that these bytes spell, or why there is no certificate
pub data Checks (script certificate : List ℕ) (told : Told) : Type 0 where
  verdict : (s : Script) (c : Certificate) → SpellsScript script s → IsText certificate c → told ≡ verdict_told (judged s c) → Checks script certificate told
  no_certificate : IsUnread certificate told → Checks script certificate told
