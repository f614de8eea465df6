-- Words that are read, and why none is.
use Rattle.std.proofs.Common.{◌≡◌, ◌≢◌, ℕ, ◌<◌, ◌≤◌, true, false, nat_eq, List, [], ◌∷◌, ◌++◌, length, get_or, take, drop, Some, None, Ok, Err, Result, refl, sym, ap, ◌∙◌, subst, inl, inr, arith}
use Rattle.std.specs.Prelude.{IsTrue}
use Rattle.std.specs.Cmp.Lexicographic.{pointwise, bytes_decides}
use Rattle.std.proofs.lemmas.Bool.{ne_eqb}
use Rattle.std.proofs.lemmas.List.{take-append-drop, take_at}
use Rattle.std.proofs.lemmas.Option.{same_Some as Some-same}
use Rattle.bre_parse.specs.Tree.{Tree}
use Rattle.bre_parse.specs.Grammar.{pattern}
use Rattle.bre_parse.specs.declared.fault.BreFault.{BreFault}
use Rattle.bre_parse.proofs.SpelledItems.{pattern_spelled}
use Rattle.ed_syntax.specs.spelling.Characters.{backslash, is_letter, begins, after_blanks}
use Rattle.ed_syntax.specs.spelling.Absence.{NoNumber}
use Rattle.ed_syntax.specs.spelling.Addressing.{SpellsNumber}
use Rattle.ed_syntax.specs.spelling.Quoting.{SpellsQuoted, SpellsPattern}
use Rattle.ed_syntax.specs.reading.Tokens.{quoted}
use Rattle.ed_syntax.proofs.meaning.StepLemmas.{none_some}
use Rattle.ed_syntax.proofs.reader.EndLemmas.{quoted-end}
use Rattle.ed_syntax.proofs.reader.Fronts.{after_first, first_and_others}
use Rattle.ed_syntax.proofs.reader.NumberLemmas.{number-complete}
use Rattle.ed_syntax.proofs.reader.QuotingLemmas.{quoted-sound, quoted-complete}
use Rattle.landmarks.specs.declared.chain_fault.ChainWrong.{ChainWrong}
use Rattle.landmarks.specs.declared.chain_fault.ChainWrong.TheVariants as wrong
use Rattle.landmarks.specs.Words.{is_key_delimiter, SpellsKey, SpellsWord, NoKey, NoWord, NoCount}
use Rattle.landmarks.specs.ChainFaults.{IsWrongHere}
use Rattle.landmarks.specs.Stops.{IsEnd, IsWrongAt, IsWrongIn}
use Rattle.landmarks.proofs.Ends.{end_all, end_after, end_later, end_is, end_blanks, end_shorter}
use Rattle.landmarks.proofs.Keys.{delimiter-plain, key-read}

-- what is wrong after blanks
pub wrong_here : (text : List ℕ) (what : ChainWrong) (left : ℕ) → left ≡ length (after_blanks text) → IsWrongHere (after_blanks text) what →
    IsWrongAt text what left
wrong_here text what left is h = record { here = after_blanks text; end = end_blanks text; left_is = sym is; wrong = h }

-- numbers
number-end : {text rest : List ℕ} {n : ℕ} → SpellsNumber text rest n → IsEnd text rest
number-end (SpellsNumber.digits bytes rest digits some few over) = record { front = bytes; cut = refl }

pub end_number : (text rest : List ℕ) (n : ℕ) → SpellsNumber (after_blanks text) rest n → IsEnd text rest
end_number text rest n is = end_later (end_blanks text) (number-end is)

-- no number that is at least 1 stands here
abbrev pub NoSome : List ℕ → Type 0
NoSome here = (rest : List ℕ) (n : ℕ) → SpellsNumber here rest n → 1 ≤ n → ⊥

pub no_some : (here : List ℕ) → NoNumber here → NoSome here
no_some here none = λ rest n is some. none rest n is

pub zero_only : (here rest : List ℕ) (n : ℕ) → SpellsNumber here rest n → n ≡ 0 → NoSome here
zero_only here rest n is zero = λ other m is' some.
    let same : Some (n, rest) ≡ Some (m, other) = sym (number-complete is) ∙ number-complete is' in
    let number : n ≡ m = ap (λ (x : ℕ × List ℕ). x.0) (Some-same (n, rest) (m, other) same) in
    omega (arith, number, zero, some)

pub no_count : (text : List ℕ) → NoSome (after_blanks text) → NoCount text
no_count text none = λ rest n is. none rest n is.number is.some

-- words
pub word_front : (text word rest : List ℕ) → pointwise nat_eq (take (length word) text) word ≡ true → rest ≡ drop (length word) text → text ≡ word ++ rest
word_front text word rest same after =
    sym (take-append-drop (length word) text) ∙ ap (λ front. front ++ drop (length word) text) ((bytes_decides (take (length word) text) word).0 same)
    ∙ ap (λ end. word ++ end) (sym after)

pub word_read : (text word rest here : List ℕ) → here ≡ after_blanks text → pointwise nat_eq (take (length word) here) word ≡ true → rest ≡ drop (length word) here →
    begins is_letter rest ≡ false → SpellsWord word text rest
word_read text word rest here is same after over = record { stands = sym is ∙ word_front here word rest same after; over = over }

pub word_end : (text word rest : List ℕ) → SpellsWord word text rest → IsEnd text rest
word_end text word rest is = end_later (end_blanks text) (record { front = word; cut = is.stands })

pub no_word_front : (text word here : List ℕ) → here ≡ after_blanks text → pointwise nat_eq (take (length word) here) word ≡ false → NoWord word text
no_word_front text word here same other = λ rest is.
    let front : take (length word) here ≡ word = ap (take (length word)) (same ∙ is.stands) ∙ take_at word rest (length word) refl in
    let e : false ≡ true = sym other ∙ (bytes_decides (take (length word) here) word).1 front in
    cc

-- patterns: with which delimiter the rest begins
quoted-closes : (d : ℕ) {text closing bytes : List ℕ} → SpellsQuoted d text closing bytes → (b : ℕ) (rest : List ℕ) → closing ≡ b ∷ rest → b ≡ d
quoted-closes d (SpellsQuoted.closed r) b rest same = cc
quoted-closes d SpellsQuoted.left_open b rest same = absurd (cc)
quoted-closes d (SpellsQuoted.ordinary byte t r bs a e f is) b rest same = quoted-closes d is b rest same
quoted-closes d (SpellsQuoted.delimiter_itself t r bs is) b rest same = quoted-closes d is b rest same
quoted-closes d (SpellsQuoted.escaped byte t r bs a is) b rest same = quoted-closes d is b rest same
quoted-closes d (SpellsQuoted.bracket i t r bs set a e is) b rest same = quoted-closes d is b rest same

quoted_end : (d : ℕ) {text closing bytes : List ℕ} → SpellsQuoted d text closing bytes → IsEnd text closing
quoted_end d is = let e = quoted-end d is in record { front = e.0; cut = e.1 }

module _ (text : List ℕ) (d : ℕ) (more : List ℕ) (opened : after_blanks text ≡ d ∷ more) (delimits : IsTrue (is_key_delimiter d)) where
  plain : d ≢ backslash
  plain = delimiter-plain d delimits

  -- what isn't whole
  pub unread : quoted (length more) d more ≡ None → NoKey text
  unread lacking = λ rest bytes key. none_some (sym lacking ∙ (key-read d more opened key).read)

  none_quoted : quoted (length more) d more ≡ None → (rest bytes : List ℕ) → SpellsQuoted d more rest bytes → ⊥
  none_quoted lacking rest bytes is = none_some (sym lacking ∙ quoted-complete d is plain (length more) (omega arith))

  pub unread-unclosed : quoted (length more) d more ≡ None → IsWrongHere (after_blanks text) wrong.Unclosed
  unread-unclosed lacking = record { delimiter = d; more = more; opened = opened; delimits = delimits; unclosed = λ rest bytes is. none_quoted lacking (d ∷ rest) bytes is }

  pub unread-broken : (reason : BreFault) → quoted (length more) d more ≡ None → pattern more ≡ Err reason → IsWrongHere (after_blanks text) (wrong.Pattern reason)
  unread-broken reason lacking refused =
      inr (record { delimiter = d; more = more; opened = opened; delimits = delimits; broken = none_quoted lacking; refused = refused })

  module _ (p closing : List ℕ) (q : quoted (length more) d more ≡ Some (p, closing)) where
    spelled : SpellsQuoted d more closing p
    spelled = quoted-sound (length more) d more (omega arith) (p, closing) q

    same_rest : (rest bytes : List ℕ) → quoted (length more) d more ≡ Some (bytes, rest) → closing ≡ rest
    same_rest rest bytes read = ap (λ (x : List ℕ × List ℕ). x.1) (Some-same (p, closing) (bytes, rest) (sym q ∙ read))

    same_bytes : (rest bytes : List ℕ) → quoted (length more) d more ≡ Some (bytes, rest) → p ≡ bytes
    same_bytes rest bytes read = ap (λ (x : List ℕ × List ℕ). x.0) (Some-same (p, closing) (bytes, rest) (sym q ∙ read))

    -- the text ends in the pattern
    pub left_open : closing ≡ [] → NoKey text
    left_open over = λ rest bytes key.
        let e : [] ≡ d ∷ rest = sym over ∙ same_rest (d ∷ rest) bytes (key-read d more opened key).read in cc

    pub left_open-unclosed : closing ≡ [] → IsWrongHere (after_blanks text) wrong.Unclosed
    left_open-unclosed over = record {
      delimiter = d;
      more = more;
      opened = opened;
      delimits = delimits;
      unclosed = λ rest bytes is.
          let e : [] ≡ d ∷ rest = sym over ∙ same_rest (d ∷ rest) bytes (quoted-complete d is plain (length more) (omega arith)) in cc;
    }

    -- nothing stands between, or no pattern
    pub empty : p ≡ [] → NoKey text
    empty nothing = λ rest bytes key.
        let r = key-read d more opened key in
        r.some (sym (same_bytes (d ∷ rest) bytes r.read) ∙ nothing)

    pub refused : (reason : BreFault) → pattern p ≡ Err reason → NoKey text
    refused reason is = λ rest bytes key.
        let r = key-read d more opened key in
        let e : ◌≡◌ {A = Result Tree BreFault} (Err reason) (Ok r.tree) = sym is ∙ ap pattern (same_bytes (d ∷ rest) bytes r.read) ∙ r.is in cc

    module _ (b : ℕ) (rest : List ℕ) (closes : closing ≡ b ∷ rest) where
      whole : SpellsQuoted d more (d ∷ rest) p
      whole = subst (λ end. SpellsQuoted d more end p) (closes ∙ ap (λ b. b ∷ rest) (quoted-closes d spelled b rest closes)) spelled

      pub empty-told : p ≡ [] → IsWrongHere (after_blanks text) wrong.Empty
      empty-told nothing =
          record { delimiter = d; more = more; rest = rest; opened = opened; delimits = delimits; closed = subst (λ p. SpellsQuoted d more (d ∷ rest) p) nothing whole }

      pub refused-told : (reason : BreFault) → pattern p ≡ Err reason → IsWrongHere (after_blanks text) (wrong.Pattern reason)
      refused-told reason is =
          inl (record { delimiter = d; more = more; rest = rest; bytes = p; opened = opened; delimits = delimits; closed = whole; refused = is })

      pub key_read : (tree : Tree) → p ≢ [] → pattern p ≡ Ok tree → SpellsKey text rest p
      key_read tree some is =
          record { delimiter = d; more = more; opened = opened; delimits = delimits; closed = SpellsPattern.given more (d ∷ rest) p tree some whole (pattern_spelled p tree is) }

      pub key_end : IsEnd text rest
      key_end = end_later (end_is (end_blanks text) opened) (end_after d (end_later (quoted_end d whole) (end_after d (end_all rest))))

      pub key_shorter : length rest < length text
      key_shorter =
          omega (arith, end_shorter (end_blanks text), ap length opened, end_shorter (quoted_end d whole))

pub no_bytes : (bytes : List ℕ) → length bytes < 1 → bytes ≡ []
no_bytes [] h = refl
no_bytes (b ∷ bytes) h = absurd (omega (arith, h))

-- what is wrong with a pattern in which something isn't whole
pub wrong_in_here : (text : List ℕ) (d : ℕ) (more : List ℕ) → after_blanks text ≡ d ∷ more → IsTrue (is_key_delimiter d) → quoted (length more) d more ≡ None →
    (what : ChainWrong) (left : ℕ) → left ≡ length (after_blanks text) → IsWrongIn more what → IsWrongAt text what left
wrong_in_here text d more opened delimits lacking wrong.Unclosed left is h =
    wrong_here text wrong.Unclosed left is (unread-unclosed text d more opened delimits lacking)
wrong_in_here text d more opened delimits lacking (wrong.Pattern reason) left is h =
    wrong_here text (wrong.Pattern reason) left is (unread-broken text d more opened delimits reason lacking h)
wrong_in_here text d more opened delimits lacking wrong.Newline left is h = absurd h
wrong_in_here text d more opened delimits lacking wrong.Empty left is h = absurd h
wrong_in_here text d more opened delimits lacking wrong.Number left is h = absurd h
wrong_in_here text d more opened delimits lacking wrong.Key left is h = absurd h
wrong_in_here text d more opened delimits lacking wrong.End left is h = absurd h
wrong_in_here text d more opened delimits lacking (wrong.Never why) left is h = absurd h

-- a text that begins with no delimiter
pub wrong_key : (text here : List ℕ) → here ≡ after_blanks text → begins is_key_delimiter here ≡ false → IsWrongAt text wrong.Key (length here)
wrong_key text here is other = wrong_here text wrong.Key (length here) (ap length is) (subst (λ h. begins is_key_delimiter h ≡ false) is other)

-- signs
pub sign_read : (text here : List ℕ) (sign : ℕ) → here ≡ after_blanks text → 1 ≤ length here → get_or here 0 0 ≡ sign → after_blanks text ≡ sign ∷ after_first here
sign_read text here sign is some same = sym is ∙ first_and_others here some ∙ ap (λ b. b ∷ after_first here) same

pub no_sign : (text here : List ℕ) (sign : ℕ) → here ≡ after_blanks text → 1 ≤ length here → get_or here 0 0 ≢ sign → begins (nat_eq sign) (after_blanks text) ≡ false
no_sign text here sign is some other =
    ap (begins (nat_eq sign)) (sym is ∙ first_and_others here some) ∙ ne_eqb sign (get_or here 0 0) (λ same. other (sym same))

pub no_sign_over : (text here : List ℕ) (sign : ℕ) → here ≡ after_blanks text → length here < 1 → begins (nat_eq sign) (after_blanks text) ≡ false
no_sign_over text here sign is none = ap (begins (nat_eq sign)) (sym is ∙ no_bytes here none)
