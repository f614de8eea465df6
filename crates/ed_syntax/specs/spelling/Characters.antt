-- The signs that have a meaning in scripts, blanks, digits, and the numbers that digits spell (XBD 6.1, "Portable Character Set"; XCU ed).
use Rattle.std.specs.Prelude.{ℕ, ◌+◌, ◌-◌, ◌*◌, Bool, true, false, not, ◌&&◌, ◌||◌, List, [], ◌∷◌, nat_eq, nat_le}
use Rattle.std.specs.List.{fold}

-- `!`
abbrev pub exclamation_mark : ℕ
exclamation_mark = 33

-- `$`
abbrev pub dollar_sign : ℕ
dollar_sign = 36

-- `%`
abbrev pub percent_sign : ℕ
percent_sign = 37

-- `&`
abbrev pub ampersand : ℕ
ampersand = 38

-- `'`
abbrev pub apostrophe : ℕ
apostrophe = 39

-- `+`
abbrev pub plus_sign : ℕ
plus_sign = 43

-- `,`
abbrev pub comma_byte : ℕ
comma_byte = 44

-- `-`
abbrev pub hyphen : ℕ
hyphen = 45

-- `.`
abbrev pub full_stop : ℕ
full_stop = 46

-- `/`
abbrev pub slash : ℕ
slash = 47

-- `;`
abbrev pub semicolon_byte : ℕ
semicolon_byte = 59

-- `=`
abbrev pub equals_sign : ℕ
equals_sign = 61

-- `?`
abbrev pub question_mark : ℕ
question_mark = 63

-- `[`
abbrev pub left_square_bracket : ℕ
left_square_bracket = 91

-- `\`
abbrev pub backslash : ℕ
backslash = 92

-- a blank is a space or a tab
abbrev pub is_blank : ℕ → Bool
is_blank b = nat_eq b 32 || nat_eq b 9

-- a decimal digit
abbrev pub is_digit : ℕ → Bool
is_digit b = nat_le 48 b && nat_le b 57

-- a letter
abbrev pub is_letter : ℕ → Bool
is_letter b = (nat_le 65 b && nat_le b 90) || (nat_le 97 b && nat_le b 122)

-- the delimiter of a pattern after a command's letter: punctuation, but no backslash (our choice)
abbrev pub is_delimiter : ℕ → Bool
is_delimiter b = nat_le 33 b && nat_le b 126 && not (is_letter b) && not (is_digit b) && not (nat_eq b backslash)

-- the line ends in an odd number of backslashes, so that the next one goes on with it
abbrev pub goes_on : List ℕ → Bool
goes_on = fold (λ odd b. nat_eq b backslash && not odd) false

-- the sign of an offset
abbrev pub is_sign : ℕ → Bool
is_sign b = nat_eq b plus_sign || nat_eq b hyphen

-- the sign between the addresses of a pair
abbrev pub is_separator : ℕ → Bool
is_separator b = nat_eq b comma_byte || nat_eq b semicolon_byte

-- the first byte of an address
abbrev pub begins_address : ℕ → Bool
begins_address b =
    is_digit b || nat_eq b full_stop || nat_eq b dollar_sign || nat_eq b apostrophe || nat_eq b slash || nat_eq b question_mark || is_sign b

-- the text's first byte passes the test
abbrev pub begins : (ℕ → Bool) → List ℕ → Bool
begins test [] = false
begins test (b ∷ bytes) = test b

-- the bytes after the blanks in front
abbrev pub after_blanks : List ℕ → List ℕ
after_blanks [] = []
after_blanks (b ∷ bytes) = elim (is_blank b) [ true ↦ after_blanks bytes | false ↦ b ∷ bytes ]

-- the number that digits spell
abbrev pub value_of : List ℕ → ℕ
value_of = fold (λ n b. 10 * n + (b - 48)) 0
