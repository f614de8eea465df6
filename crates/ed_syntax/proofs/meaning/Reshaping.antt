-- What an effect makes of the lines of the buffer: one of six shapes, each of which keeps marks and the number of flags.
use Rattle.std.proofs.Common.{◌≡◌, ℕ, ◌≤◌, true, List, map, Option, Some, None, arith, refl, sym, ap, ◌∙◌}
use Rattle.std.proofs.lemmas.Bool.{false≢true}
use Rattle.ed_base.specs.Buffer.{Line, plain_line, marked_at}
use Rattle.ed_base.specs.Lines.{AreLines}
use Rattle.ed_base.specs.Parts.{block, exchanged, carried}
use Rattle.ed_syntax.specs.declared.command.Sense.{Sense}
use Rattle.ed_syntax.specs.declared.replacement.Part.{Part}
use Rattle.ed_syntax.specs.declared.replacement.Which.{Which}
use Rattle.ed_syntax.specs.Commands as ed
use Rattle.ed_syntax.specs.Commands.{Verb}
use Rattle.ed_syntax.specs.meaning.Verbs.{may_be_listed}
use Rattle.ed_syntax.specs.spelling.Readable.{enters_lines}
use Rattle.ed_syntax.specs.meaning.SubstitutedLines.{made_of, each}
use Rattle.ed_syntax.specs.meaning.Globals.{flagged_line}
use Rattle.ed_syntax.specs.meaning.CommandLaws.{WellMarked, AreWhole}
use Rattle.ed_syntax.proofs.meaning.MarkLemmas.{well-exchanged, well-carried, well-substituted, well-marked_at, well-mapped_block}
use Rattle.ed_syntax.proofs.meaning.GlobalLemmas.{flagged_of, fewer-exchanged, fewer-carried, fewer-substituted, same-marked_at}

-- the pattern that is used where a command has one of its own, or not
abbrev pub Uses : Option (List ℕ) → List ℕ → Type 0
Uses None text = Unit {0}
Uses (Some own) text = own ≡ text

-- The lines stay; plain lines come in place of a block; a block is carried elsewhere, or what a substitution makes of it comes in its
-- place; a letter marks a line; or the lines of a block have the flag where they are taken. The texts of plain lines are lines, if what
-- the command enters are lines and there was no newline in any.
pub data Reshaped (verb : Verb) (xs : List Line) : List Line → Type 0 where
  stay : Reshaped verb xs xs
  exchange : (a b : ℕ) (texts : List (List ℕ)) → a ≤ b → (enters_lines verb ≡ true → AreWhole xs → AreLines texts) →
      Reshaped verb xs (exchanged a b (map plain_line texts) xs)
  carry : (a b place : ℕ) → a ≤ b → Reshaped verb xs (carried a b place xs)
  substitute : (a b : ℕ) (text : List ℕ) (parts : List Part) (which : Which) → a ≤ b →
      Reshaped verb xs (exchanged a b (each (made_of text parts which) (block a b xs)).0 xs)
  mark : (place letter : ℕ) → Reshaped verb xs (marked_at place letter xs)
  flag : (a b : ℕ) (which : Sense) (own : Option (List ℕ)) (text : List ℕ) → a ≤ b → verb ≡ ed.Global which own → Uses own text →
      Reshaped verb xs (exchanged a b (map (flagged_line which text) (block a b xs)) xs)

module _ (verb : Verb) (xs : List Line) where
  pub well-reshaped : (ys : List Line) → Reshaped verb xs ys → WellMarked xs → WellMarked ys
  well-reshaped _ stay marked = marked
  well-reshaped _ (exchange a b texts h lines) marked = well-exchanged a b texts xs h marked
  well-reshaped _ (carry a b place h) marked = well-carried a b place xs h marked
  well-reshaped _ (substitute a b text parts which h) marked = well-substituted a b (made_of text parts which) xs h marked
  well-reshaped _ (mark place letter) marked = well-marked_at place letter xs marked
  well-reshaped _ (flag a b which own text h is uses) marked =
      well-mapped_block a b (flagged_line which text) (λ line. refl) xs h marked

  -- no more lines have the flag, where a command of a list does it
  pub fewer-reshaped : may_be_listed verb ≡ true → (ys : List Line) → Reshaped verb xs ys → flagged_of ys ≤ flagged_of xs
  fewer-reshaped may _ stay = omega arith
  fewer-reshaped may _ (exchange a b texts h lines) = fewer-exchanged a b texts xs h
  fewer-reshaped may _ (carry a b place h) = fewer-carried a b place xs h
  fewer-reshaped may _ (substitute a b text parts which h) = fewer-substituted a b (made_of text parts which) xs h
  fewer-reshaped may _ (mark place letter) = omega (arith, same-marked_at place letter xs)
  fewer-reshaped may _ (flag a b which own text h is uses) = absurd (false≢true (sym (ap may_be_listed is) ∙ may))
