-- Lines that are taken from others, and their bytes.
use Rattle.std.proofs.Common.{◌≡◌, ℕ, ◌+◌, List, ◌++◌, length, sym, ap, ◌∙◌}
use Rattle.std.proofs.lemmas.List.{length-append}
use Rattle.ed_base.specs.Lines.{AreLines, lines_of, bytes_of}
use Rattle.ed_base.proofs.LineLemmas.{lines_of-written, lines_of-bytes_of}
use Rattle.ed_syntax.specs.reading.ReadParameters.{Place}

-- what was read of a line and of the lines after it: the lines that were taken for it, and how these bytes spell it
pub record ReadsOver {A : Type 0} (Spells : (own more text : List ℕ) → A → Type 0) (own : List ℕ) (lines : List (List ℕ)) (r : A × Place) : Type 0 where
  pub taken : List (List ℕ)
  pub split : lines ≡ taken ++ r.1.later
  pub taken_are : AreLines taken
  pub are : AreLines r.1.later
  pub spells : Spells own r.1.line (bytes_of taken) r.0

-- lines with the same bytes are the same
pub same_lines : (xs ys : List (List ℕ)) → AreLines xs → AreLines ys → bytes_of xs ≡ bytes_of ys → xs ≡ ys
same_lines xs ys are also same = sym (lines_of-bytes_of xs are) ∙ ap lines_of same ∙ lines_of-bytes_of ys also

-- as many lines as were taken, and those of more bytes
pub taken-length : (taken : List (List ℕ)) (bytes : List ℕ) → AreLines taken → length (lines_of (bytes_of taken ++ bytes)) ≡ length taken + length (lines_of bytes)
taken-length taken bytes are = ap length (lines_of-written taken bytes are) ∙ length-append taken (lines_of bytes)
