-- Which bytes spell an address (XCU ed, "Addresses in ed").
-- Each names a text, what stands after the part at its head, and what that part means. A text ends with its line.
use Rattle.std.specs.Prelude.{ℕ, ◌+◌, ◌<◌, ◌≤◌, ◌≡◌, ℤ, pos, ◌+ℤ◌, neg_ℤ, List, ◌∷◌, ◌++◌, length, All, Option, Some, None, IsTrue, IsFalse}
use Rattle.ed_syntax.specs.spelling.Characters.{dollar_sign, apostrophe, plus_sign, comma_byte, hyphen, full_stop, slash, semicolon_byte, question_mark, is_blank, is_digit, is_sign, is_separator, begins_address, begins, after_blanks, value_of}
use Rattle.ed_syntax.specs.spelling.Letters.{letter_a}
use Rattle.ed_syntax.specs.Commands.{Base, Number, Current, Last, Marked, Forward, Backward, Address, Addresses, Without, One, Comma, Semicolon, at_base}
use Rattle.ed_syntax.specs.spelling.Quoting.{SpellsPattern, SpellsClosing}

-- spaces and tabs
abbrev pub Blanks : List ℕ → Type 0
Blanks bytes = All (λ b. IsTrue (is_blank b)) bytes

-- one to nine digits, up to a byte that is none
pub data SpellsNumber : (text rest : List ℕ) → ℕ → Type 0 where
  digits : (bytes rest : List ℕ) → All (λ b. IsTrue (is_digit b)) bytes → 0 < length bytes → length bytes ≤ 9 → IsFalse (begins is_digit rest) →
      SpellsNumber (bytes ++ rest) rest (value_of bytes)

-- the base of an address: a number, `.`, `$`, `'x`, `/RE/` or `?RE?`
pub data SpellsBase : (text rest : List ℕ) → Base → Type 0 where
  number : (text rest : List ℕ) (n : ℕ) → SpellsNumber text rest n → SpellsBase text rest (Number n)
  current : (rest : List ℕ) → SpellsBase (full_stop ∷ rest) rest Current
  last : (rest : List ℕ) → SpellsBase (dollar_sign ∷ rest) rest Last
  marked : (letter : ℕ) (rest : List ℕ) → letter < 26 → SpellsBase (apostrophe ∷ (letter_a + letter) ∷ rest) rest (Marked letter)
  forward : (text more rest : List ℕ) (pattern : Option (List ℕ)) → SpellsPattern slash text more pattern → SpellsClosing slash more rest →
      SpellsBase (slash ∷ text) rest (Forward pattern)
  backward : (text more rest : List ℕ) (pattern : Option (List ℕ)) → SpellsPattern question_mark text more pattern →
      SpellsClosing question_mark more rest → SpellsBase (question_mark ∷ text) rest (Backward pattern)

-- how many lines an offset goes after its sign: a number that follows directly, or 1
pub data SpellsDistance : (text rest : List ℕ) → ℕ → Type 0 where
  one : (rest : List ℕ) → IsFalse (begins is_digit rest) → SpellsDistance rest rest 1
  number : (text rest : List ℕ) (n : ℕ) → SpellsNumber text rest n → SpellsDistance text rest n

-- the sum of any number of offsets with blanks before and between them
pub data SpellsOffsets : (text rest : List ℕ) → ℤ → Type 0 where
  none : (rest : List ℕ) → IsFalse (begins is_sign (after_blanks rest)) → SpellsOffsets rest rest (pos 0)
  plus : (text number more rest : List ℕ) (n : ℕ) (sum : ℤ) → after_blanks text ≡ plus_sign ∷ number → SpellsDistance number more n →
      SpellsOffsets more rest sum → SpellsOffsets text rest (pos n +ℤ sum)
  minus : (text number more rest : List ℕ) (n : ℕ) (sum : ℤ) → after_blanks text ≡ hyphen ∷ number → SpellsDistance number more n →
      SpellsOffsets more rest sum → SpellsOffsets text rest (neg_ℤ (pos n) +ℤ sum)

-- an address, or none; one that begins with an offset is relative to the current line
pub data SpellsAddress : (text rest : List ℕ) → Option Address → Type 0 where
  none : (rest : List ℕ) → IsFalse (begins begins_address rest) → SpellsAddress rest rest None
  based : (text more rest : List ℕ) (base : Base) (offset : ℤ) → SpellsBase text more base → SpellsOffsets more rest offset →
      SpellsAddress text rest (Some (record { base = base; offset = offset }))
  relative : (text rest : List ℕ) (offset : ℤ) → IsTrue (begins is_sign text) → SpellsOffsets text rest offset →
      SpellsAddress text rest (Some (record { base = Current; offset = offset }))

-- no pair: one address, or none
abbrev pub alone : Option Address → Addresses
alone None = Without
alone (Some a) = One a

-- `,` is `1,$`; `,b` is `1,b`; `a,` is `a,a`
abbrev pub comma : Option Address → Option Address → Addresses
comma None None = Comma (at_base (Number 1)) (at_base Last)
comma None (Some b) = Comma (at_base (Number 1)) b
comma (Some a) None = Comma a a
comma (Some a) (Some b) = Comma a b

-- `;` is `.;$`; `;b` is `.;b`; `a;` is `a;a`, where the second has the first one's value (our choice)
abbrev pub semicolon : Option Address → Option Address → Addresses
semicolon None None = Semicolon (at_base Current) (Some (at_base Last))
semicolon None (Some b) = Semicolon (at_base Current) (Some b)
semicolon (Some a) b = Semicolon a b

-- the addresses before a command, with the blanks around them
pub data SpellsAddresses : (text rest : List ℕ) → Addresses → Type 0 where
  single : (text rest : List ℕ) (a : Option Address) → SpellsAddress (after_blanks text) rest a →
      IsFalse (begins is_separator (after_blanks rest)) → SpellsAddresses text (after_blanks rest) (alone a)
  comma_pair : (text more others rest : List ℕ) (a b : Option Address) → SpellsAddress (after_blanks text) more a →
      after_blanks more ≡ comma_byte ∷ others → SpellsAddress (after_blanks others) rest b →
      SpellsAddresses text (after_blanks rest) (comma a b)
  semicolon_pair : (text more others rest : List ℕ) (a b : Option Address) → SpellsAddress (after_blanks text) more a →
      after_blanks more ≡ semicolon_byte ∷ others → SpellsAddress (after_blanks others) rest b →
      SpellsAddresses text (after_blanks rest) (semicolon a b)
