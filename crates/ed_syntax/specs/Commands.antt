-- The commands of a script (XCU ed, "Addresses in ed", "Commands in ed").
use Rattle.std.specs.Prelude.{ℕ, ℤ, pos, Bool, List, [], Option}
use Rattle.ed_syntax.specs.declared.replacement.Part.{Part}
use Rattle.ed_syntax.specs.declared.replacement.Which.{Which}
use Rattle.ed_syntax.specs.declared.command.Sense.{Sense}

-- Where an address begins: a line's number, the current line, the last line, a line with a mark, or the next line forward or
-- backward that a pattern matches. Letters count from 0, which is `a`; a pattern is its text, and none is the remembered one.
pub data Base : Type 0 where
  Number : (number : ℕ) → Base
  Current : Base
  Last : Base
  Marked : (letter : ℕ) → Base
  Forward : (pattern : Option (List ℕ)) → Base
  Backward : (pattern : Option (List ℕ)) → Base

-- an address: its base and the sum of its offsets
pub record Address : Type 0 where
  pub base : Base
  pub offset : ℤ

-- an address without offsets
abbrev pub at_base : Base → Address
at_base base = record { base = base; offset = pos 0 }

-- The addresses before a command, omitted parts filled in. A second one that is omitted after `;` has the first one's value.
pub data Addresses : Type 0 where
  Without : Addresses
  One : (only : Address) → Addresses
  Comma : (first second : Address) → Addresses
  Semicolon : (first : Address) → (second : Option Address) → Addresses

-- how a line is written: as it is, after its number, or so that each byte can be told
pub data Form : Type 0 where
  Plain : Form
  Numbered : Form
  Unambiguous : Form

-- A command's letter with its parameters: `a`, `c` and `i` with their text, `d`, `j`, `k` with the letter that marks, `m` and `t`
-- with their target, `s` with its pattern and its replacement, where none is the remembered one, which matches it takes and the form
-- in which it writes; `=`, the null command, `l`, `n` and `p` by the form that they write in; `r`, `w`, `e`, `E` and `f` with their
-- path, where none is the remembered one; `g` and `v` with their pattern, without their list; `u`, `h`, `H`, `P`, `q`, `Q`.
pub data Verb : Type 0 where
  Append : (text : List (List ℕ)) → Verb
  Change : (text : List (List ℕ)) → Verb
  Delete : Verb
  Insert : (text : List (List ℕ)) → Verb
  Join : Verb
  Mark : (letter : ℕ) → Verb
  Move : (target : Address) → Verb
  Copy : (target : Address) → Verb
  Substitute : (pattern : Option (List ℕ)) → (replacement : Option (List Part)) → (which : Which) → (form : Option Form) → Verb
  LineNumber : Verb
  Null : Verb
  Write : (form : Form) → Verb
  ReadFile : (path : Option (List ℕ)) → Verb
  WriteFile : (path : Option (List ℕ)) → Verb
  Edit : (path : Option (List ℕ)) → Verb
  EditAnyway : (path : Option (List ℕ)) → Verb
  FileName : (path : Option (List ℕ)) → Verb
  Global : (sense : Sense) → (pattern : Option (List ℕ)) → Verb
  Undo : Verb
  Help : Verb
  HelpMode : Verb
  PromptMode : Verb
  Quit : Verb
  QuitAnyway : Verb

-- a command; `listed` where it stands in the list of a global command
pub record Command : Type 0 where
  pub addresses : Addresses
  pub verb : Verb
  pub suffix : Option Form
  pub listed : Bool

-- a step of a script: a command, and the list that `g` and `v` have; all others have none
pub record Step : Type 0 where
  pub command : Command
  pub list : List Command

-- a command without a list
abbrev pub alone : Command → Step
alone c = record { command = c; list = [] }

-- a script: its steps up to the first that can't be read, and the line on which that one begins, counted from 1
pub record Script : Type 0 where
  pub steps : List Step
  pub fault : Option ℕ
