-- What the text of a pattern shows: bytes of longer characters, and the signs of extended expressions (XBD 9.3 and 9.4; what is meant is our guess).
use Rattle.std.specs.Prelude.{ℕ, Bool, true, false, not, ◌&&◌, ◌||◌, List, [], ◌∷◌, nat_eq}
use Rattle.ed_syntax.specs.spelling.Characters.{dollar_sign, full_stop, plus_sign, question_mark, comma_byte, is_blank, is_digit}
use Rattle.remarks.specs.declared.parts.Part.{Part}
use Rattle.remarks.specs.declared.parts.Part.TheVariants as part
use Rattle.remarks.specs.declared.slip.Slip.{Slip}
use Rattle.remarks.specs.declared.slip.Slip.TheVariants as slip

-- `(`
abbrev pub left_parenthesis : ℕ
left_parenthesis = 40

-- `)`
abbrev pub right_parenthesis : ℕ
right_parenthesis = 41

-- `*`
abbrev pub asterisk : ℕ
asterisk = 42

-- `^`
abbrev pub circumflex : ℕ
circumflex = 94

-- `{`
abbrev pub left_curly_bracket : ℕ
left_curly_bracket = 123

-- `|`
abbrev pub vertical_line : ℕ
vertical_line = 124

-- `}`
abbrev pub right_curly_bracket : ℕ
right_curly_bracket = 125

-- a byte that passes the test, after no backslash
abbrev pub is_plain_by : (ℕ → Bool) → Part → Bool
is_plain_by test (part.Plain b) = test b
is_plain_by test (part.Escaped b) = false
is_plain_by test (part.Bracket high) = false

-- this byte, after no backslash
abbrev pub is_plain : ℕ → Part → Bool
is_plain byte p = is_plain_by (λ b. nat_eq b byte) p

-- what an extended expression repeats: a bracket expression, `.`, or what ends a group. A single byte may well stand before an ordinary sign.
abbrev pub is_repeatable : Part → Bool
is_repeatable (part.Plain b) = nat_eq b full_stop || nat_eq b right_parenthesis
is_repeatable (part.Escaped b) = nat_eq b right_parenthesis
is_repeatable (part.Bracket high) = true

-- what repeats in an extended expression
abbrev pub is_repetition : Part → Bool
is_repetition p = is_plain_by (λ b. nat_eq b asterisk || nat_eq b plus_sign || nat_eq b question_mark || nat_eq b left_curly_bracket) p

-- what may end an alternative: no blank, no other `|` and no `^`
abbrev pub ends_alternative : Part → Bool
ends_alternative p = not (is_plain_by is_blank p || is_plain vertical_line p || is_plain circumflex p)

-- what may begin one: no blank, no other `|` and no `$`
abbrev pub begins_alternative : Part → Bool
begins_alternative p = not (is_plain_by is_blank p || is_plain vertical_line p || is_plain dollar_sign p)

-- a `.` that ends a run of them, and isn't repeated by `*`
abbrev pub begins_with_lone_dot : List Part → Bool
begins_with_lone_dot [] = false
begins_with_lone_dot (dot ∷ []) = is_plain full_stop dot
begins_with_lone_dot (dot ∷ next ∷ rest) = is_plain full_stop dot && not (is_plain full_stop next) && not (is_plain asterisk next)

-- what may be repeated, and then this sign
abbrev pub begins_with_repeated : (sign : ℕ) → List Part → Bool
begins_with_repeated sign [] = false
begins_with_repeated sign (repeated ∷ []) = false
begins_with_repeated sign (repeated ∷ next ∷ rest) = is_repeatable repeated && is_plain sign next

-- a `|` between two alternatives
abbrev pub begins_with_alternatives : List Part → Bool
begins_with_alternatives (before ∷ bar ∷ after ∷ rest) = ends_alternative before && is_plain vertical_line bar && begins_alternative after
begins_with_alternatives _ = false

-- a `)` and what repeats
abbrev pub begins_with_repeated_group : List Part → Bool
begins_with_repeated_group (closing ∷ next ∷ rest) = is_plain right_parenthesis closing && is_repetition next
begins_with_repeated_group _ = false

-- digits and commas up to a `}`
abbrev pub closes_count : List Part → Bool
closes_count [] = false
closes_count (p ∷ rest) =
    is_plain right_curly_bracket p || ((is_plain_by is_digit p || is_plain comma_byte p) && closes_count rest)

-- `{`, a number or two of them, and `}`, after what is repeated so many times. The shell's `${1}` is none.
abbrev pub begins_with_count : List Part → Bool
begins_with_count (repeated ∷ opening ∷ digit ∷ rest) =
    not (is_plain dollar_sign repeated) && is_plain left_curly_bracket opening && is_plain_by is_digit digit && closes_count rest
begins_with_count _ = false

-- nothing, or a `$`
abbrev pub is_end : List Part → Bool
is_end [] = true
is_end (p ∷ []) = is_plain dollar_sign p
is_end (p ∷ q ∷ rest) = false

-- the first `)` is the end, or stands before a `$` there
abbrev pub closes_at_end : List Part → Bool
closes_at_end [] = false
closes_at_end (p ∷ rest) = elim (is_plain right_parenthesis p) [ true ↦ is_end rest | false ↦ closes_at_end rest ]

-- a `(`, something, and the first `)` at the end
abbrev pub opens_whole : List Part → Bool
opens_whole (opening ∷ inside ∷ rest) = is_plain left_parenthesis opening && not (is_plain right_parenthesis inside) && closes_at_end rest
opens_whole _ = false

-- the parts after a `^` in front
abbrev pub after_anchor : List Part → List Part
after_anchor [] = []
after_anchor (p ∷ rest) = elim (is_plain circumflex p) [ true ↦ rest | false ↦ p ∷ rest ]

-- parentheses about all of a pattern, or all between its anchors
abbrev pub is_enclosed : List Part → Bool
is_enclosed parts = opens_whole (after_anchor parts)

-- a bracket expression with bytes above 127
abbrev pub begins_with_high : List Part → Bool
begins_with_high (part.Bracket high ∷ rest) = high
begins_with_high _ = false

-- the first parts show it
abbrev pub begins_with : Slip → List Part → Bool
begins_with slip.BracketOfBytes = begins_with_high
begins_with slip.DotOfBytes = begins_with_lone_dot
begins_with slip.Plus = begins_with_repeated plus_sign
begins_with slip.QuestionMark = begins_with_repeated question_mark
begins_with slip.Bar = begins_with_alternatives
begins_with slip.Parentheses = begins_with_repeated_group
begins_with slip.Braces = begins_with_count
begins_with _ = λ parts. false

-- the parts from some place on pass the test
abbrev pub somewhere : (List Part → Bool) → List Part → Bool
somewhere test [] = false
somewhere test (p ∷ rest) = test (p ∷ rest) || somewhere test rest

-- A pattern of these parts shows it, in a script that has bytes above 127 or none.
abbrev pub pattern_shows : Slip → (high : Bool) → List Part → Bool
pattern_shows slip.DotOfBytes high parts = high && somewhere (begins_with slip.DotOfBytes) parts
pattern_shows slip.Parentheses high parts = is_enclosed parts || somewhere (begins_with slip.Parentheses) parts
pattern_shows kind high parts = somewhere (begins_with kind) parts
