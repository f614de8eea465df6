-- Bytes of a script, a pattern or a name as a person reads them (our own).
use Rattle.std.specs.Prelude.{ℕ, ◌+◌, ◌-◌, Bool, ◌&&◌, nat_lt, List, [], ◌∷◌, ◌++◌, take, codes, encode_utf8, if◌then◌else◌}
use Rattle.std.specs.List.{flat_map, list_all}
use Rattle.std.specs.Char.{len_utf8}
use Rattle.std.specs.Char.Escape.{escape_ascii}
use Rattle.std.specs.Str.{is_utf8, chars}
use Rattle.hints.specs.Sought.{is_shown}

-- whole characters of a text, of so many bytes at most, and two periods where more come
abbrev pub front_of : (most : ℕ) → (characters : List ℕ) → List ℕ
front_of most [] = []
front_of most (c ∷ cs) =
    if nat_lt most (len_utf8 c) then codes ".." else encode_utf8 c ++ front_of (most - len_utf8 c) cs

-- a text that a line shows as it is
abbrev pub is_plain : List ℕ → Bool
is_plain bytes = is_utf8 bytes && list_all is_shown (chars bytes)

-- so many bytes are shown at most
abbrev pub most_shown : ℕ
most_shown = 100

-- the characters of a text as it is, and of other bytes those of an escape for each, so far as they may be shown
abbrev pub shown_characters : List ℕ → List ℕ
shown_characters bytes = if is_plain bytes then chars bytes else flat_map escape_ascii (take (most_shown + 1) bytes)

-- bytes as a line shows them
abbrev pub shown_text : List ℕ → List ℕ
shown_text bytes = front_of most_shown (shown_characters bytes)

-- the same between backquotes
abbrev pub quoted_text : List ℕ → List ℕ
quoted_text bytes = codes "`" ++ shown_text bytes ++ codes "`"

-- texts one after another, with another one between each two
abbrev pub joined : (between : List ℕ) → (texts : List (List ℕ)) → List ℕ
joined between [] = []
joined between (text ∷ texts) = text ++ flat_map (λ next. between ++ next) texts
