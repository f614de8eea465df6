-- Which bytes spell a command, and which a script (XCU ed, "Commands in ed", "Global Command").
use Rattle.std.specs.Prelude.{ℕ, ◌+◌, ◌-◌, ◌<◌, ◌≡◌, ◌≢◌, Bool, true, false, List, [], ◌∷◌, ◌++◌, length, Option, Some, None, IsTrue, IsFalse, Contains}
use Rattle.ed_base.specs.Lines.{newline, IsLine, lines_of, bytes_of}
use Rattle.ed_syntax.specs.declared.command.Sense.{Sense}
use Rattle.ed_syntax.specs.declared.replacement.Part.{Part}
use Rattle.ed_syntax.specs.declared.replacement.Which.{Which}
use Rattle.ed_syntax.specs.spelling.Characters.{backslash, is_delimiter, goes_on, after_blanks}
use Rattle.ed_syntax.specs.spelling.Letters.{letter_a, letter_k, letter_m, letter_s, letter_t}
use Rattle.ed_syntax.specs.Commands as ed
use Rattle.ed_syntax.specs.Commands.{Address, Addresses, Without, Form, Verb, Command, Step, Script, alone}
use Rattle.ed_syntax.specs.meaning.Verbs.{may_have, may_stand, takes}
use Rattle.ed_syntax.specs.spelling.CommandLetters.{plain_verbs, file_verbs, entering}
use Rattle.ed_syntax.specs.spelling.Quoting.{SpellsPattern, SpellsClosing}
use Rattle.ed_syntax.specs.spelling.Addressing.{Blanks, SpellsAddress, SpellsAddresses}
use Rattle.ed_syntax.specs.spelling.Parameters.{SpellsText, SpellsForm, SpellsPath, SpellsReplacement, SpellsEnd, SpellsSense}

-- The end of a command's own line: a suffix, if the command takes one, and blanks.
pub data SpellsSuffix (verb : Verb) : List ℕ → Option Form → Type 0 where
  none : (blanks : List ℕ) → Blanks blanks → SpellsSuffix verb blanks None
  given : (letter : ℕ) (blanks : List ℕ) (form : Form) → IsTrue (takes verb).suffix → SpellsForm letter form → Blanks blanks →
      SpellsSuffix verb (letter ∷ blanks) (Some form)

-- What stands after the addresses on a command's own line, a letter with its parameters or nothing, and what stands after that;
-- then the whole lines after the command's own that belong to it, and what follows them. Where the replacement of `s` is split, what
-- stands after the parameters is the end of the last of these lines.
pub data SpellsVerb : (own more text rest : List ℕ) → Verb → Type 0 where
  null : (rest : List ℕ) → SpellsVerb [] [] [] rest ed.Null
  plain : (letter : ℕ) (more rest : List ℕ) (verb : Verb) → Contains plain_verbs (letter, verb) → IsFalse (takes verb).text →
      SpellsVerb (letter ∷ more) more [] rest verb
  entered : (letter : ℕ) (more text rest : List ℕ) (verb : Verb) (lines : List (List ℕ)) → Contains plain_verbs (letter, verb) →
      IsTrue (takes verb).text → SpellsText text rest lines → SpellsVerb (letter ∷ more) more text rest (entering lines verb)
  on_file : (letter : ℕ) (own rest : List ℕ) (path : Option (List ℕ)) (verb : Verb) → Contains (file_verbs path) (letter, verb) →
      SpellsPath own path → SpellsVerb (letter ∷ own) [] [] rest verb
  mark : (letter : ℕ) (more rest : List ℕ) → letter < 26 → SpellsVerb (letter_k ∷ (letter_a + letter) ∷ more) more [] rest (ed.Mark letter)
  move : (own more rest : List ℕ) (target : Address) → SpellsAddress (after_blanks own) more (Some target) →
      SpellsVerb (letter_m ∷ own) more [] rest (ed.Move target)
  copy : (own more rest : List ℕ) (target : Address) → SpellsAddress (after_blanks own) more (Some target) →
      SpellsVerb (letter_t ∷ own) more [] rest (ed.Copy target)
  substitute : (delimiter : ℕ) (own after_pattern after_replacement more text rest : List ℕ) (pattern : Option (List ℕ))
      (replacement : Option (List Part)) (which : Which) (form : Option Form) → IsTrue (is_delimiter delimiter) →
      SpellsPattern delimiter own (delimiter ∷ after_pattern) pattern →
      SpellsReplacement delimiter after_pattern after_replacement text replacement → SpellsEnd delimiter after_replacement more which form →
      SpellsVerb (letter_s ∷ delimiter ∷ own) more text rest (ed.Substitute pattern replacement which form)

-- Whole lines that spell a command without a list, in a list or outside, and the lines that follow: a line with addresses, a letter
-- and a suffix, and the lines that belong to it.
pub data SpellsCommand (listed : Bool) : List ℕ → List ℕ → Command → Type 0 where
  command : (line own more text rest : List ℕ) (given : Addresses) (verb : Verb) (suffix : Option Form) → IsLine line →
      SpellsAddresses line own given → SpellsVerb own more text rest verb → IsTrue (may_have given verb) → IsTrue (may_stand listed verb) →
      SpellsSuffix verb more suffix →
      SpellsCommand listed (line ++ newline ∷ text) rest (record { addresses = given; verb = verb; suffix = suffix; listed = listed })

-- Whole lines that begin with things of a kind, one after another, each with all that follows for its rest; and what follows the last.
pub data SpellsEach {A : Type 0} (Spells : List ℕ → List ℕ → A → Type 0) : (text rest : List ℕ) → List A → Type 0 where
  over : (rest : List ℕ) → SpellsEach Spells rest rest []
  next : (bytes more rest : List ℕ) (x : A) (xs : List A) → Spells bytes more x → SpellsEach Spells more rest xs →
      SpellsEach Spells (bytes ++ more) rest (x ∷ xs)

-- A list on the rest of a global command's line and on the whole lines that a backslash at a line's end joins to it, and what follows;
-- the list is whole lines without these backslashes. At the end of the script the list ends.
pub data SpellsJoined : (own text rest list : List ℕ) → Type 0 where
  last : (own rest : List ℕ) → IsFalse (goes_on own) → SpellsJoined own [] rest (own ++ newline ∷ [])
  cut_off : (own : List ℕ) → IsTrue (goes_on (own ++ backslash ∷ [])) → SpellsJoined (own ++ backslash ∷ []) [] [] (own ++ newline ∷ [])
  further : (own line text rest list : List ℕ) → IsTrue (goes_on (own ++ backslash ∷ [])) → IsLine line → SpellsJoined line text rest list →
      SpellsJoined (own ++ backslash ∷ []) (line ++ newline ∷ text) rest (own ++ newline ∷ list)

-- `p` in a list
abbrev pub print : Command
print = record { addresses = Without; verb = ed.Write ed.Plain; suffix = None; listed = true }

-- The commands of a list; one line with nothing but blanks is `p`.
pub data SpellsList : List ℕ → List Command → Type 0 where
  print_alone : (list : List ℕ) → after_blanks list ≡ newline ∷ [] → SpellsList list (print ∷ [])
  commands : (list : List ℕ) (cs : List Command) → after_blanks list ≢ newline ∷ [] → SpellsEach (SpellsCommand true) list [] cs → SpellsList list cs

-- a global command that has these addresses
abbrev pub global_of : Addresses → Sense → Option (List ℕ) → Command
global_of addresses sense pattern = record { addresses = addresses; verb = ed.Global sense pattern; suffix = None; listed = false }

-- Whole lines that spell a step of a script, and the lines that follow.
pub data Spells : List ℕ → List ℕ → Step → Type 0 where
  single : (bytes rest : List ℕ) (c : Command) → SpellsCommand false bytes rest c → Spells bytes rest (alone c)
  global : (line own more first text rest list : List ℕ) (letter delimiter : ℕ) (given : Addresses) (sense : Sense) (pattern : Option (List ℕ))
      (cs : List Command) → IsLine line → SpellsAddresses line (letter ∷ delimiter ∷ own) given → SpellsSense letter sense →
      IsTrue (is_delimiter delimiter) → SpellsPattern delimiter own more pattern → SpellsClosing delimiter more first →
      SpellsJoined first text rest list → SpellsList list cs →
      Spells (line ++ newline ∷ text) rest (record { command = global_of given sense pattern; list = cs })

-- the number of the line with which the rest of a text begins
abbrev pub line_at_rest : (text rest : List ℕ) → ℕ
line_at_rest text rest = length (lines_of text) - length (lines_of rest) + 1

-- Whole lines: steps to the end, or to a rest no front of which spells a step.
pub data SpellsSteps : List ℕ → Script → Type 0 where
  whole : (text : List ℕ) (xs : List Step) → SpellsEach Spells text [] xs → SpellsSteps text (record { steps = xs; fault = None })
  stuck : (text rest : List ℕ) (xs : List Step) → SpellsEach Spells text rest xs → rest ≢ [] →
      ((bytes more : List ℕ) (x : Step) → rest ≡ bytes ++ more → Spells bytes more x → ⊥) →
      SpellsSteps text (record { steps = xs; fault = Some (line_at_rest text rest) })

-- bytes spell a script; a last line without its newline is read as if it had one
abbrev pub SpellsScript : List ℕ → Script → Type 0
SpellsScript bytes script = SpellsSteps (bytes_of (lines_of bytes)) script

-- what is read is spelled so
abbrev pub SpellsWhatIsRead : (List ℕ → Script) → Type 0
SpellsWhatIsRead read = (bytes : List ℕ) → SpellsScript bytes (read bytes)

-- what is spelled so is read, and only as that script
abbrev pub ReadsWhatIsSpelled : (List ℕ → Script) → Type 0
ReadsWhatIsSpelled read = (bytes : List ℕ) (script : Script) → SpellsScript bytes script → read bytes ≡ script
