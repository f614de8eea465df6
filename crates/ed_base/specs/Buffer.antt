-- The buffer's lines (XCU ed, "Extended Description"; XBD 3, "Line").
use Rattle.std.specs.Prelude.{ℕ, ◌-◌, List, [], Bool, true, false, ◌&&◌, map, replicate, position, Option, Some, None, nat_le, slice_index_or, slice_set, ◌≡◌, length, All}

-- a line of the buffer: its bytes, whether each of the letters a to z marks it, and a global command's flag
pub record Line : Type 0 where
  pub bytes : List ℕ
  pub letters : List Bool
  pub flag : Bool

-- no letter marks the line
abbrev pub no_letters : List Bool
no_letters = replicate 26 false

-- the line of these bytes, without a mark and without the flag
abbrev pub plain_line : List ℕ → Line
plain_line text = record { bytes = text; letters = no_letters; flag = false }

-- the bytes of each line
abbrev pub texts : List Line → List (List ℕ)
texts lines = map (λ line. line.bytes) lines

-- the letter of a byte: a lower-case one, counted from 0, which is `a`
abbrev pub letter_of : (byte : ℕ) → Option ℕ
letter_of byte = elim (nat_le 97 byte && nat_le byte 122) [ true ↦ Some (byte - 97) | false ↦ None ]

-- whether a letter marks the line
abbrev pub has_letter : (letter : ℕ) → Line → Bool
has_letter letter line = slice_index_or line.letters letter false

-- the line with a letter or without it
abbrev pub with_letter : (letter : ℕ) → Bool → Line → Line
with_letter letter marks line = record line { letters = slice_set line.letters letter marks }

-- the place of the line that a letter marks, counted from 0
abbrev pub marked_place : (letter : ℕ) → List Line → Option ℕ
marked_place letter lines = position (has_letter letter) lines

-- the letter marks the line at this place, and no other
abbrev pub marked_at : (place letter : ℕ) → List Line → List Line
marked_at place letter lines =
    let others = map (with_letter letter false) lines in
    slice_set others place (with_letter letter true (slice_index_or others place (plain_line [])))

-- the line with the flag or without it
abbrev pub with_flag : Bool → Line → Line
with_flag flag line = record line { flag = flag }

-- the line at this place with the flag or without it, and the others as they were
abbrev pub flagged_at : (place : ℕ) → Bool → List Line → List Line
flagged_at place flag lines = slice_set lines place (with_flag flag (slice_index_or lines place (plain_line [])))

-- the place of the first line that has the flag, counted from 0
abbrev pub flagged_place : List Line → Option ℕ
flagged_place lines = position (λ line. line.flag) lines

-- a letter marks one line at most
abbrev pub AtMostOnce : List Line → Type 0
AtMostOnce lines = (letter i j : ℕ) → has_letter letter (slice_index_or lines i (plain_line [])) ≡ true →
    has_letter letter (slice_index_or lines j (plain_line [])) ≡ true → i ≡ j

-- of each line it is known whether each of the letters marks it
abbrev pub KnowLetters : List Line → Type 0
KnowLetters lines = All (λ line. length line.letters ≡ 26) lines

-- no letter that marks this line marks one of these
abbrev pub SharesNoLetter : Line → List Line → Type 0
SharesNoLetter line lines = (letter : ℕ) → has_letter letter line ≡ true → marked_place letter lines ≡ None
