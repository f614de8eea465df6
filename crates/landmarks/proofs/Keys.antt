-- Words of a chain are spelled in one way.
use Rattle.std.proofs.Common.{◌≡◌, ◌≢◌, ℕ, true, false, nat_eq, List, [], ◌∷◌, length, Some, Ok, sym, ap, ◌∙◌, subst, ⊎_elim, inl, inr, ◌⊎◌, arith}
use Rattle.std.specs.Prelude.{IsTrue}
use Rattle.std.proofs.lemmas.Bool.{eqb-true, or_cases}
use Rattle.std.proofs.lemmas.List.{append_cancel_left}
use Rattle.std.proofs.lemmas.Option.{same_Some as Some-same}
use Rattle.bre_parse.specs.Tree.{Tree}
use Rattle.bre_parse.specs.Grammar.{pattern}
use Rattle.bre_parse.proofs.ReadItems.{pattern_read}
use Rattle.ed_syntax.specs.spelling.Characters.{slash, backslash, is_digit, begins, after_blanks}
use Rattle.ed_syntax.specs.spelling.Quoting.{SpellsPattern}
use Rattle.ed_syntax.specs.reading.Tokens.{quoted}
use Rattle.ed_syntax.proofs.reader.QuotingLemmas.{quoted-complete}
use Rattle.ed_syntax.proofs.reader.NumberLemmas.{number-complete, number-first}
use Rattle.landmarks.specs.Words.{vertical_line, is_key_delimiter, SpellsKey, SpellsWord, SpellsCount}

false_true : {A : Type 0} → false ≡ true → A
false_true e = cc

-- the delimiter is one of two bytes
pub delimiter-cases : (d : ℕ) → IsTrue (is_key_delimiter d) → (d ≡ slash) ⊎ (d ≡ vertical_line)
delimiter-cases d h =
    ⊎_elim (λ e. inl (eqb-true d slash e)) (λ e. inr (eqb-true d vertical_line e)) (or_cases (nat_eq d slash) (nat_eq d vertical_line) h)

pub delimiter-plain : (d : ℕ) → IsTrue (is_key_delimiter d) → d ≢ backslash
delimiter-plain d h e = false_true (subst (λ d. is_key_delimiter d ≡ true) e h)

delimiter-no_digit : (d : ℕ) → IsTrue (is_key_delimiter d) → IsTrue (is_digit d) → ⊥
delimiter-no_digit d h digit =
    ⊎_elim (λ e. false_true (subst (λ d. is_digit d ≡ true) e digit)) (λ e. false_true (subst (λ d. is_digit d ≡ true) e digit)) (delimiter-cases d h)

-- what is read of a pattern between delimiters
pub record IsReadKey (delimiter : ℕ) (more rest bytes : List ℕ) : Type 0 where
  pub read : quoted (length more) delimiter more ≡ Some (bytes, delimiter ∷ rest)
  pub some : bytes ≢ []
  pub tree : Tree
  pub is : pattern bytes ≡ Ok tree

pattern-quoted : (d : ℕ) (more rest bytes : List ℕ) → d ≢ backslash → SpellsPattern d more (d ∷ rest) (Some bytes) → IsReadKey d more rest bytes
pattern-quoted d more rest bytes plain (SpellsPattern.given text after found tree some is spells) =
    record { read = quoted-complete d is plain (length more) (omega arith); some = some; tree = tree; is = pattern_read bytes tree spells }

pub key-quoted : {text rest bytes : List ℕ} (key : SpellsKey text rest bytes) → IsReadKey key.delimiter key.more rest bytes
key-quoted {text} {rest} {bytes} key = pattern-quoted key.delimiter key.more rest bytes (delimiter-plain key.delimiter key.delimits) key.closed

pub key-read : {text rest bytes : List ℕ} (d : ℕ) (more : List ℕ) → after_blanks text ≡ d ∷ more → SpellsKey text rest bytes → IsReadKey d more rest bytes
key-read {text} {rest} {bytes} d more opened key =
    let r = key-quoted key in
    let first : key.delimiter ≡ d = cc (key.opened, opened) in
    let others : key.more ≡ more = cc (key.opened, opened) in
    subst (λ d. IsReadKey d more rest bytes) first (subst (λ more. IsReadKey key.delimiter more rest bytes) others r)

pub key-one : {text r1 r2 p1 p2 : List ℕ} → SpellsKey text r1 p1 → SpellsKey text r2 p2 → (p1 ≡ p2) × (r1 ≡ r2)
key-one {text} {r1} {r2} {p1} {p2} one other =
    let a = (key-quoted one).read in
    let b = (key-read one.delimiter one.more one.opened other).read in
    let same : Some (p1, one.delimiter ∷ r1) ≡ Some (p2, one.delimiter ∷ r2) = sym a ∙ b in
    let pair = Some-same (p1, one.delimiter ∷ r1) (p2, one.delimiter ∷ r2) same in
    let rests : one.delimiter ∷ r1 ≡ one.delimiter ∷ r2 = ap (λ (x : List ℕ × List ℕ). x.1) pair in
    (ap (λ (x : List ℕ × List ℕ). x.0) pair, append_cancel_left (one.delimiter ∷ []) r1 r2 rests)

pub count-one : {text r1 r2 : List ℕ} {n1 n2 : ℕ} → SpellsCount text r1 n1 → SpellsCount text r2 n2 → (n1 ≡ n2) × (r1 ≡ r2)
count-one {text} {r1} {r2} {n1} {n2} one other =
    let same : Some (n1, r1) ≡ Some (n2, r2) = sym (number-complete one.number) ∙ number-complete other.number in
    let pair = Some-same (n1, r1) (n2, r2) same in
    (ap (λ (x : ℕ × List ℕ). x.0) pair, ap (λ (x : ℕ × List ℕ). x.1) pair)

pub word-one : {word text r1 r2 : List ℕ} → SpellsWord word text r1 → SpellsWord word text r2 → r1 ≡ r2
word-one {word} {text} {r1} {r2} one other = append_cancel_left word r1 r2 (sym one.stands ∙ other.stands)

-- a pattern or a number isn't a word
pub key-no_word : {text rest bytes after : List ℕ} (letter : ℕ) (letters : List ℕ) → is_key_delimiter letter ≡ false → SpellsKey text rest bytes →
    SpellsWord (letter ∷ letters) text after → ⊥
key-no_word {text} {rest} {bytes} {after} letter letters lacking key word =
    let same : key.delimiter ≡ letter = cc (key.opened, word.stands) in
    false_true (sym lacking ∙ subst (λ d. is_key_delimiter d ≡ true) same key.delimits)

first-digit : {text rest : List ℕ} {n : ℕ} → SpellsCount text rest n → (bytes : List ℕ) → after_blanks text ≡ bytes → IsTrue (begins is_digit bytes)
first-digit count bytes same = subst (λ bytes. begins is_digit bytes ≡ true) same (number-first count.number)

pub count-no_word : {text rest after : List ℕ} {n : ℕ} (letter : ℕ) (letters : List ℕ) → is_digit letter ≡ false → SpellsCount text rest n →
    SpellsWord (letter ∷ letters) text after → ⊥
count-no_word letter letters lacking count word = false_true (sym lacking ∙ first-digit count _ word.stands)

pub key-no_count : {text r1 r2 bytes : List ℕ} {n : ℕ} → SpellsKey text r1 bytes → SpellsCount text r2 n → ⊥
key-no_count key count = delimiter-no_digit key.delimiter key.delimits (first-digit count _ key.opened)

pub key-no_digit : {text rest bytes : List ℕ} → SpellsKey text rest bytes → IsTrue (begins is_digit (after_blanks text)) → ⊥
key-no_digit {text} key digit = delimiter-no_digit key.delimiter key.delimits (subst (λ bytes. begins is_digit bytes ≡ true) key.opened digit)

pub count-digit : {text rest : List ℕ} {n : ℕ} → SpellsCount text rest n → IsTrue (begins is_digit (after_blanks text))
count-digit count = number-first count.number
