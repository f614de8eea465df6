-- How the reader takes addresses apart: functions on the bytes of a line (XCU ed, "Addresses in ed").
use Rattle.std.specs.Prelude.{ℕ, zero, suc, ◌-◌, ℤ, pos, ◌+ℤ◌, neg_ℤ, true, false, ◌&&◌, List, [], ◌∷◌, ◌++◌, length, take, drop, Option, Some, None, Ok, Err, nat_eq, nat_le}
use Rattle.std.specs.List.{prefix_len}
use Rattle.bre_parse.specs.Brackets.{after_bracket}
use Rattle.bre_parse.specs.Grammar.{pattern}
use Rattle.ed_base.specs.Buffer.{letter_of}
use Rattle.ed_syntax.specs.spelling.Characters.{dollar_sign, apostrophe, plus_sign, comma_byte, hyphen, full_stop, slash, semicolon_byte, question_mark, left_square_bracket, backslash, is_digit, is_sign, begins, after_blanks, value_of}
use Rattle.ed_syntax.specs.Commands.{Base, Number, Current, Last, Marked, Forward, Backward, Address, Addresses}
use Rattle.ed_syntax.specs.spelling.Quoting.{as_itself}
use Rattle.ed_syntax.specs.spelling.Addressing.{alone, comma, semicolon}

-- what was read from the front of a line, and the bytes after it; none where it can't be read
abbrev pub Parsed : Type 0 → Type 0
Parsed A = Option (A × List ℕ)

infixl 10 ◌>>=◌
-- one step and then the next, unless it fails
abbrev pub ◌>>=◌ : {A B : Type 0} → Option A → (A → Option B) → Option B
(Some x) >>= f = f x
None >>= f = None

-- one to nine digits
abbrev pub number : List ℕ → Parsed ℕ
number bs =
    let len = prefix_len is_digit bs in
    elim (nat_le 1 len && nat_le len 9) [ true ↦ Some (value_of (take len bs), drop len bs) | false ↦ None ]

-- a lower-case letter, counted from `a`
abbrev pub letter : List ℕ → Parsed ℕ
letter [] = None
letter (b ∷ bs) = letter_of b >>= λ l. Some (l, bs)

-- these bytes before those that were read
abbrev pub after_bytes : List ℕ → Parsed (List ℕ) → Parsed (List ℕ)
after_bytes front read = read >>= λ r. Some (front ++ r.0, r.1)

-- what stands after a backslash in a pattern: the delimiter, or a byte that keeps its backslash
abbrev pub unescaped : (delimiter byte : ℕ) → List ℕ
unescaped delimiter byte = elim (nat_eq byte delimiter) [ true ↦ as_itself delimiter | false ↦ backslash ∷ byte ∷ [] ]

-- The bytes of a pattern up to its delimiter, with which the rest begins, or to the line's end. At most so many steps, which no text
-- reaches.
abbrev pub quoted : (most : ℕ) → (delimiter : ℕ) → List ℕ → Parsed (List ℕ)
quoted most delimiter [] = Some ([], [])
quoted zero delimiter (b ∷ bs) = None
quoted (suc most) delimiter (b ∷ bs) =
    elim (nat_eq b delimiter) [
      | true ↦ Some ([], b ∷ bs)
      | false ↦ elim (nat_eq b backslash) [
        | true ↦ elim bs [ [] ↦ None | c ∷ cs ↦ after_bytes (unescaped delimiter c) (quoted most delimiter cs) ]
        | false ↦ elim (nat_eq b left_square_bracket) [
          | true ↦ after_bracket bs >>= λ rest. after_bytes (b ∷ take (length bs - length rest) bs) (quoted most delimiter rest)
          | false ↦ after_bytes (b ∷ []) (quoted most delimiter bs)
        ]
      ]
    ]

-- a basic regular expression, or nothing, which is the remembered pattern
abbrev pub pattern_of : List ℕ → Option (Option (List ℕ))
pattern_of [] = Some None
pattern_of (b ∷ bs) = elim (pattern (b ∷ bs)) [ Ok tree ↦ Some (Some (b ∷ bs)) | Err fault ↦ None ]

-- a pattern after its delimiter, and the rest from its closing delimiter on
abbrev pub pattern_at : (delimiter : ℕ) → List ℕ → Parsed (Option (List ℕ))
pattern_at delimiter bs = quoted (length bs) delimiter bs >>= λ q. pattern_of q.0 >>= λ p. Some (p, q.1)

-- how many lines an offset goes after its sign
abbrev pub distance : List ℕ → Parsed ℕ
distance bs = elim (begins is_digit bs) [ true ↦ number bs | false ↦ Some (1, bs) ]

-- an offset before a sum of others
abbrev pub summed : ℤ → Parsed ℤ → Parsed ℤ
summed offset read = read >>= λ r. Some (offset +ℤ r.0, r.1)

-- the sum of the offsets in front, with blanks before and between them; at most so many, which no text reaches
abbrev pub offsets : (most : ℕ) → List ℕ → Parsed ℤ
offsets zero bs = Some (pos 0, bs)
offsets (suc most) bs =
    elim (after_blanks bs) [
      | [] ↦ Some (pos 0, bs)
      | b ∷ more ↦ elim (nat_eq b plus_sign) [
        | true ↦ distance more >>= λ n. summed (pos n.0) (offsets most n.1)
        | false ↦ elim (nat_eq b hyphen) [
          | true ↦ distance more >>= λ n. summed (neg_ℤ (pos n.0)) (offsets most n.1)
          | false ↦ Some (pos 0, bs)
        ]
      ]
    ]

-- the base of an address, or none; one that begins with an offset has the current line for its base
abbrev pub base : List ℕ → Parsed (Option Base)
base [] = Some (None, [])
base (b ∷ bs) =
    elim (is_digit b) [
      | true ↦ number (b ∷ bs) >>= λ r. Some (Some (Number r.0), r.1)
      | false ↦ elim (nat_eq b full_stop) [
        | true ↦ Some (Some Current, bs)
        | false ↦ elim (nat_eq b dollar_sign) [
          | true ↦ Some (Some Last, bs)
          | false ↦ elim (nat_eq b apostrophe) [
            | true ↦ letter bs >>= λ r. Some (Some (Marked r.0), r.1)
            | false ↦ elim (nat_eq b slash) [
              | true ↦ pattern_at slash bs >>= λ r. Some (Some (Forward r.0), drop 1 r.1)
              | false ↦ elim (nat_eq b question_mark) [
                | true ↦ pattern_at question_mark bs >>= λ r. Some (Some (Backward r.0), drop 1 r.1)
                | false ↦ elim (is_sign b) [ true ↦ Some (Some Current, b ∷ bs) | false ↦ Some (None, b ∷ bs) ]
              ]
            ]
          ]
        ]
      ]
    ]

-- the offsets after a base
abbrev pub with_offsets : Option Base → List ℕ → Parsed (Option Address)
with_offsets None bs = Some (None, bs)
with_offsets (Some base) bs = offsets (length bs) bs >>= λ r. Some (Some (record { base = base; offset = r.0 }), r.1)

-- an address in front, or none
abbrev pub address : List ℕ → Parsed (Option Address)
address bs = base bs >>= λ r. with_offsets r.0 r.1

-- what stands after the first address, blanks before it aside: a `,` or a `;` with the second, or nothing
abbrev pub pair : Option Address → List ℕ → Parsed Addresses
pair a [] = Some (alone a, [])
pair a (b ∷ bs) =
    elim (nat_eq b comma_byte) [
      | true ↦ address (after_blanks bs) >>= λ r. Some (comma a r.0, after_blanks r.1)
      | false ↦ elim (nat_eq b semicolon_byte) [
        | true ↦ address (after_blanks bs) >>= λ r. Some (semicolon a r.0, after_blanks r.1)
        | false ↦ Some (alone a, b ∷ bs)
      ]
    ]

-- the addresses before a command, with the blanks around them
abbrev pub addresses : List ℕ → Parsed Addresses
addresses bs = address (after_blanks bs) >>= λ a. pair a.0 (after_blanks a.1)
