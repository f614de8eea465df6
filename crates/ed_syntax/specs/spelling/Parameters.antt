-- Which bytes spell a command's text, its path, the parameters of `s` and the letters of forms and global commands (XCU ed, "Commands
-- in ed", "Substitute Command").
-- Each names a text, what stands after the part at its head, and what that part means. A text ends with its line.
use Rattle.std.specs.Prelude.{ℕ, suc, ◌+◌, ◌<◌, ◌≡◌, ◌≢◌, List, [], ◌∷◌, ◌++◌, Option, Some, None, IsTrue, IsFalse}
use Rattle.ed_base.specs.Lines.{newline, IsLine}
use Rattle.ed_syntax.specs.declared.command.Sense.{Sense}
use Rattle.ed_syntax.specs.declared.command.Sense.TheVariants as sense
use Rattle.ed_syntax.specs.declared.replacement.Part.{Part}
use Rattle.ed_syntax.specs.declared.replacement.Part.TheVariants as part
use Rattle.ed_syntax.specs.declared.replacement.Which.{Which}
use Rattle.ed_syntax.specs.declared.replacement.Which.TheVariants as which
use Rattle.ed_syntax.specs.spelling.Characters.{exclamation_mark, percent_sign, ampersand, full_stop, backslash, is_blank, is_digit, is_letter, after_blanks}
use Rattle.ed_syntax.specs.spelling.Letters.{letter_g, letter_l, letter_n, letter_p, letter_v}
use Rattle.ed_syntax.specs.Commands as ed
use Rattle.ed_syntax.specs.Commands.{Form}
use Rattle.ed_syntax.specs.spelling.Addressing.{Blanks, SpellsNumber}

-- Whole lines that are a text, up to a line that is `.` or to the end of the script or list, and what follows.
pub data SpellsText : List ℕ → List ℕ → List (List ℕ) → Type 0 where
  over : SpellsText [] [] []
  dot : (rest : List ℕ) → SpellsText (full_stop ∷ newline ∷ []) rest []
  line : (line bytes rest : List ℕ) (lines : List (List ℕ)) → IsLine line → line ≢ full_stop ∷ [] → SpellsText bytes rest lines →
      SpellsText (line ++ newline ∷ bytes) rest (line ∷ lines)

-- the letter of a form
pub data SpellsForm : ℕ → Form → Type 0 where
  plain : SpellsForm letter_p ed.Plain
  numbered : SpellsForm letter_n ed.Numbered
  unambiguous : SpellsForm letter_l ed.Unambiguous

-- A path, up to the line's end: blanks and a name that doesn't begin with `!`, to which blanks at its end belong (our choice); none
-- where nothing stands there but blanks.
pub data SpellsPath : List ℕ → Option (List ℕ) → Type 0 where
  none : (blanks : List ℕ) → Blanks blanks → SpellsPath blanks None
  given : (blank byte : ℕ) (text name : List ℕ) → IsTrue (is_blank blank) → after_blanks text ≡ byte ∷ name → byte ≢ exclamation_mark →
      SpellsPath (blank ∷ text) (Some (byte ∷ name))

-- a backslash and this byte in a replacement: a group, or the byte itself; by our choice nothing after letters and `0`
pub data SpellsEscape (delimiter : ℕ) : (byte : ℕ) → Part → Type 0 where
  delimiter_itself : SpellsEscape delimiter delimiter (part.Literal delimiter)
  group : (digit : ℕ) → (49 + digit) ≢ delimiter → digit < 9 → SpellsEscape delimiter (49 + digit) (part.Group digit)
  byte : (byte : ℕ) → byte ≢ delimiter → IsFalse (is_digit byte) → IsFalse (is_letter byte) → SpellsEscape delimiter byte (part.Literal byte)

-- The parts of a replacement up to the delimiter, with which the rest of the line begins, or up to the line's end. A backslash at
-- a line's end is a split, and the parts go on in the next of the whole lines that belong to the command.
pub data SpellsParts (delimiter : ℕ) : (own more text : List ℕ) → List Part → Type 0 where
  closed : (more : List ℕ) → SpellsParts delimiter (delimiter ∷ more) (delimiter ∷ more) [] []
  left_open : SpellsParts delimiter [] [] [] []
  literal : (byte : ℕ) (own more text : List ℕ) (parts : List Part) → byte ≢ delimiter → byte ≢ backslash → byte ≢ ampersand →
      SpellsParts delimiter own more text parts → SpellsParts delimiter (byte ∷ own) more text (part.Literal byte ∷ parts)
  match : (own more text : List ℕ) (parts : List Part) → ampersand ≢ delimiter → SpellsParts delimiter own more text parts →
      SpellsParts delimiter (ampersand ∷ own) more text (part.Match ∷ parts)
  escape : (byte : ℕ) (own more text : List ℕ) (first : Part) (parts : List Part) → SpellsEscape delimiter byte first →
      SpellsParts delimiter own more text parts → SpellsParts delimiter (backslash ∷ byte ∷ own) more text (first ∷ parts)
  split : (own more text : List ℕ) (parts : List Part) → IsLine own → SpellsParts delimiter own more text parts →
      SpellsParts delimiter (backslash ∷ []) more (own ++ newline ∷ text) (part.Split ∷ parts)

-- what may stand after a replacement: its delimiter, or the line's end
pub data IsClosed (delimiter : ℕ) : List ℕ → Type 0 where
  closed : (more : List ℕ) → IsClosed delimiter (delimiter ∷ more)
  left_open : IsClosed delimiter []

-- A replacement; `%` alone is the remembered one.
pub data SpellsReplacement (delimiter : ℕ) : (own more text : List ℕ) → Option (List Part) → Type 0 where
  remembered : (more : List ℕ) → percent_sign ≢ delimiter → IsClosed delimiter more → SpellsReplacement delimiter (percent_sign ∷ more) more [] None
  given : (own more text : List ℕ) (parts : List Part) → own ≢ percent_sign ∷ more → SpellsParts delimiter own more text parts →
      SpellsReplacement delimiter own more text (Some parts)

-- a count, from 1 on, by how many matches stand before the one that it counts; or `g`
pub data SpellsWhich : (text rest : List ℕ) → Which → Type 0 where
  all : (rest : List ℕ) → SpellsWhich (letter_g ∷ rest) rest which.All
  nth : (text rest : List ℕ) (before : ℕ) → SpellsNumber text rest (suc before) → SpellsWhich text rest (which.Nth before)

-- at most one of each, in any order
pub data SpellsFlags : (text rest : List ℕ) → Which → Option Form → Type 0 where
  none : (rest : List ℕ) → SpellsFlags rest rest which.First None
  choice : (text rest : List ℕ) (w : Which) → SpellsWhich text rest w → SpellsFlags text rest w None
  form : (letter : ℕ) (rest : List ℕ) (form : Form) → SpellsForm letter form → SpellsFlags (letter ∷ rest) rest which.First (Some form)
  choice_form : (letter : ℕ) (text rest : List ℕ) (w : Which) (form : Form) → SpellsWhich text (letter ∷ rest) w → SpellsForm letter form →
      SpellsFlags text rest w (Some form)
  form_choice : (letter : ℕ) (text rest : List ℕ) (w : Which) (form : Form) → SpellsForm letter form → SpellsWhich text rest w →
      SpellsFlags (letter ∷ text) rest w (Some form)

-- The end of `s`: its delimiter and flags, or the line's end, which writes as `p` does.
pub data SpellsEnd (delimiter : ℕ) : (text rest : List ℕ) → Which → Option Form → Type 0 where
  closed : (text rest : List ℕ) (w : Which) (form : Option Form) → SpellsFlags text rest w form → SpellsEnd delimiter (delimiter ∷ text) rest w form
  left_open : SpellsEnd delimiter [] [] which.First (Some ed.Plain)

-- the letter of a global command
pub data SpellsSense : ℕ → Sense → Type 0 where
  matching : SpellsSense letter_g sense.Matching
  others : SpellsSense letter_v sense.Others
