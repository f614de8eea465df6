-- What is wrong with a text that spells no chain of landmarks, and where (our own). Places are counted in bytes from 0.
use Rattle.std.specs.Prelude.{◌≡◌, ◌≢◌, ◌⊎◌, ℕ, ◌≤◌, List, [], ◌∷◌, length, drop, Err, nat_eq, IsTrue, IsFalse, Contains}
use Rattle.bre_parse.specs.Always.{text_is_always}
use Rattle.bre_parse.specs.Grammar.{pattern}
use Rattle.bre_parse.specs.declared.fault.BreFault.{BreFault}
use Rattle.ed_base.specs.Lines.{newline}
use Rattle.ed_syntax.specs.spelling.Characters.{semicolon_byte, begins}
use Rattle.ed_syntax.specs.spelling.Addressing.{SpellsNumber}
use Rattle.ed_syntax.specs.spelling.Quoting.{SpellsQuoted}
use Rattle.ed_syntax.specs.Ends.{NoQuoted}
use Rattle.landmarks.specs.declared.landmark.Landmark.{Landmark}
use Rattle.landmarks.specs.declared.chain_fault.Never.{Never}
use Rattle.landmarks.specs.declared.chain_fault.Never.TheVariants.{Both, Always, RightBelow}
use Rattle.landmarks.specs.declared.chain_fault.ChainWrong.{ChainWrong}
use Rattle.landmarks.specs.declared.chain_fault.ChainWrong.TheVariants as wrong
use Rattle.landmarks.specs.declared.chain_fault.ChainFault.{ChainFault}
use Rattle.landmarks.specs.declared.chain_fault.ChainFault.TheVariants as fault
use Rattle.ed_base.specs.Texts.{is_member}
use Rattle.landmarks.specs.Words.{is_key_delimiter}
use Rattle.landmarks.specs.Spelled.{SpellsParts, matched_by, missing_between}

-- A pattern begins here that isn't closed.
pub record IsUnclosed (here : List ℕ) : Type 0 where
  pub delimiter : ℕ
  pub more : List ℕ
  pub opened : here ≡ delimiter ∷ more
  pub delimits : IsTrue (is_key_delimiter delimiter)
  pub unclosed : (rest bytes : List ℕ) → SpellsQuoted delimiter more (delimiter ∷ rest) bytes → ⊥

-- Nothing stands here between two delimiters.
pub record IsEmptyKey (here : List ℕ) : Type 0 where
  pub delimiter : ℕ
  pub more : List ℕ
  pub rest : List ℕ
  pub opened : here ≡ delimiter ∷ more
  pub delimits : IsTrue (is_key_delimiter delimiter)
  pub closed : SpellsQuoted delimiter more (delimiter ∷ rest) []

-- What stands here between two delimiters is no basic regular expression, for this reason.
pub record IsNoPattern (here : List ℕ) (reason : BreFault) : Type 0 where
  pub delimiter : ℕ
  pub more : List ℕ
  pub rest : List ℕ
  pub bytes : List ℕ
  pub opened : here ≡ delimiter ∷ more
  pub delimits : IsTrue (is_key_delimiter delimiter)
  pub closed : SpellsQuoted delimiter more (delimiter ∷ rest) bytes
  pub refused : pattern bytes ≡ Err reason

-- A bracket expression or an escape isn't whole after the delimiter here, and the bytes from there on are no basic regular expression, for
-- this reason, which comes first.
pub record IsBroken (here : List ℕ) (reason : BreFault) : Type 0 where
  pub delimiter : ℕ
  pub more : List ℕ
  pub opened : here ≡ delimiter ∷ more
  pub delimits : IsTrue (is_key_delimiter delimiter)
  pub broken : NoQuoted delimiter more
  pub refused : pattern more ≡ Err reason

-- each line is seen to match a pattern, which is one of some
abbrev pub IsAlwaysIn : (patterns : List (List ℕ)) → (pattern : List ℕ) → Type 0
IsAlwaysIn patterns pattern = Contains patterns pattern × IsTrue (text_is_always pattern)

-- why no line can be a landmark: one pattern is matched and not matched, or each line matches one that it doesn't match, or one that the lines
-- between don't match
abbrev pub IsNever : Landmark → Never → Type 0
IsNever landmark (Both pattern) = Contains landmark.lacks pattern × IsTrue (is_member (matched_by landmark) pattern)
IsNever landmark (Always pattern) = IsAlwaysIn landmark.lacks pattern
IsNever landmark (RightBelow pattern) = (2 ≤ landmark.gap) × IsAlwaysIn (missing_between landmark) pattern

-- The parts of a landmark stand here that no line can be, for this reason.
pub record IsNoLine (here : List ℕ) (why : Never) : Type 0 where
  pub rest : List ℕ
  pub landmark : Landmark
  pub parts : SpellsParts here rest landmark
  pub never : IsNever landmark why

-- what is wrong with the bytes from a place on
abbrev pub IsWrongHere : (here : List ℕ) → ChainWrong → Type 0
IsWrongHere here wrong.Newline = IsTrue (begins (nat_eq newline) here)
IsWrongHere here wrong.Unclosed = IsUnclosed here
IsWrongHere here wrong.Empty = IsEmptyKey here
IsWrongHere here (wrong.Pattern reason) = IsNoPattern here reason ⊎ IsBroken here reason
IsWrongHere here wrong.Number = (rest : List ℕ) (n : ℕ) → SpellsNumber here rest n → 1 ≤ n → ⊥
IsWrongHere here wrong.Key = IsFalse (begins is_key_delimiter here)
IsWrongHere here wrong.End = (here ≢ []) × IsFalse (begins (nat_eq semicolon_byte) here)
IsWrongHere here (wrong.Never why) = IsNoLine here why

-- the fault of a text: what is wrong from its place on; for want of memory nothing is said
abbrev pub IsFaultIn : (text : List ℕ) → ChainFault → Type 0
IsFaultIn text (fault.Wrong place what) = (place ≤ length text) × IsWrongHere (drop place text) what
IsFaultIn text fault.Memory = Unit {0}
