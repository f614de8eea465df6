-- Why bytes are not the text of a certificate, and what they are read as.
use Rattle.std.specs.Prelude.{◌≡◌, ◌≢◌, ℕ, suc, List, [], ◌∷◌, ◌++◌, length, Result, Ok, Err}
use Rattle.ed_base.specs.Lines.{newline, IsLine, AreLines, bytes_of}
use Rattle.cert_check.specs.declared.certificate.Version as versions
use Rattle.cert_check.specs.declared.certificate.Certificate as public
use Rattle.cert_check.specs.declared.text.fault.CertFault.{CertFault}
use Rattle.cert_check.specs.declared.text.fault.CertFault.TheVariants.{Version, Line, Size, Memory}
use Rattle.cert_check.specs.Certificates.{Certificate, certificate_value}
use Rattle.cert_check.specs.text.Text.{line_text, version_line}
use Rattle.cert_check.specs.text.HasText.{IsText}

-- lines that begin the text of some certificate
pub record Begins (lines : List (List ℕ)) : Type 0 where
  pub certificate : Certificate
  pub more : List (List ℕ)
  pub is : IsText (bytes_of (lines ++ more)) certificate

-- lines that are all of the text of some certificate
pub record IsWhole (lines : List (List ℕ)) : Type 0 where
  pub certificate : Certificate
  pub is : IsText (bytes_of lines) certificate

-- Version: the bytes begin with the first line of no version and its newline.
abbrev pub IsVersionFault : (bytes : List ℕ) → Type 0
IsVersionFault bytes = (version : versions.Version) (rest : List ℕ) → bytes ≢ line_text (version_line version) ++ newline ∷ rest

-- Line(number): the whole lines above that one, at least one, begin a text that goes on after them, and none begins with that line too.
pub record IsLineFault (number : ℕ) (bytes : List ℕ) : Type 0 where
  pub above : List (List ℕ)
  pub line : List ℕ
  pub after : List ℕ
  pub parted : bytes ≡ bytes_of (above ++ line ∷ []) ++ after
  pub are_lines : AreLines above
  pub is_line : IsLine line
  pub some : above ≢ []
  pub number_is : suc (length above) ≡ number
  pub begun : Begins above
  pub unfinished : IsWhole above → ⊥
  pub refused : Begins (above ++ line ∷ []) → ⊥

-- Size: the text of a certificate stands before more bytes, or whole lines that begin a text which goes on are all there is but for
-- bytes without a newline.
pub data IsSizeFault : (bytes : List ℕ) → Type 0 where
  more : (lines : List (List ℕ)) (later : List ℕ) → IsWhole lines → later ≢ [] → IsSizeFault (bytes_of lines ++ later)
  less : (lines : List (List ℕ)) (last : List ℕ) → AreLines lines → lines ≢ [] → Begins lines → (IsWhole lines → ⊥) → IsLine last →
      IsSizeFault (bytes_of lines ++ last)

-- what the bytes are read as: the certificate whose text they are, or why there is none
abbrev pub IsReading : (bytes : List ℕ) → Result public.Certificate CertFault → Type 0
IsReading bytes (Ok c) = IsText bytes (certificate_value c)
IsReading bytes (Err Version) = IsVersionFault bytes
IsReading bytes (Err (Line number)) = IsLineFault number bytes
IsReading bytes (Err Size) = IsSizeFault bytes
IsReading bytes (Err Memory) = Unit {0}
