-- Patterns between delimiters: what is read is spelled so, and what is spelled so is read.
use Rattle.std.proofs.Common.{◌≡◌, ◌≢◌, ℕ, zero, suc, ◌-◌, ◌≤◌, nat_eq, List, [], ◌∷◌, ◌++◌, length, take, drop, Option, Some, None, Result, Ok, Err, refl, sym, ap, ◌∙◌, subst, arith}
use Rattle.std.proofs.lemmas.Bool.{eqb-true, eqb-false, eq-eqb, ne_eqb}
use Rattle.std.proofs.lemmas.List.{length-append}
use Rattle.bre_parse.specs.Tree.{Tree}
use Rattle.bre_parse.specs.Brackets.{after_bracket}
use Rattle.bre_parse.specs.SpelledBrackets.{SpellsBracket}
use Rattle.bre_parse.specs.Grammar.{pattern}
use Rattle.bre_parse.specs.declared.fault.BreFault.{BreFault}
use Rattle.bre_parse.proofs.SpelledItems.{pattern_spelled}
use Rattle.bre_parse.proofs.ReadItems.{pattern_read}
use Rattle.ed_syntax.specs.spelling.Characters.{backslash, left_square_bracket}
use Rattle.ed_syntax.specs.spelling.Quoting.{as_itself, SpellsQuoted, SpellsPattern, SpellsClosing}
use Rattle.ed_syntax.specs.reading.Tokens.{Parsed, ◌>>=◌, after_bytes, unescaped, quoted, pattern_of, pattern_at}
use Rattle.ed_syntax.proofs.meaning.StepLemmas.{Some-same, none_some, bind-some, chosen, either}
use Rattle.ed_syntax.proofs.reader.BracketLemmas.{bracket_front, take_front, bracket-sound, bracket-complete}

-- bytes of a pattern that are read are spelled so
abbrev QuotedSpelled : (delimiter : ℕ) → List ℕ → Parsed (List ℕ) → Type 0
QuotedSpelled delimiter text read = (r : List ℕ × List ℕ) → read ≡ Some r → SpellsQuoted delimiter text r.1 r.0

-- one part, and the bytes after it
one_part : (delimiter : ℕ) (text front : List ℕ) (later : Parsed (List ℕ)) →
    ((rest bytes : List ℕ) → later ≡ Some (bytes, rest) → SpellsQuoted delimiter text rest (front ++ bytes)) → QuotedSpelled delimiter text (after_bytes front later)
one_part delimiter text front later spells r is =
    let more = bind-some later (λ r. Some (front ++ r.0, r.1)) r is in
    subst (λ (r : List ℕ × List ℕ). SpellsQuoted delimiter text r.1 r.0) (Some-same (front ++ more.0.0, more.0.1) r more.2) (spells more.0.1 more.0.0 more.1)

-- what is read after a backslash
abbrev after_backslash : (most delimiter : ℕ) → List ℕ → Parsed (List ℕ)
after_backslash most delimiter [] = None
after_backslash most delimiter (c ∷ cs) = after_bytes (unescaped delimiter c) (quoted most delimiter cs)

backslash-sound : (most delimiter : ℕ) (bs : List ℕ) → ((more : List ℕ) → length more ≤ length bs → QuotedSpelled delimiter more (quoted most delimiter more)) →
    QuotedSpelled delimiter (backslash ∷ bs) (after_backslash most delimiter bs)
backslash-sound most delimiter [] later = λ r is. absurd (none_some is)
backslash-sound most delimiter (c ∷ cs) later =
    let shorter : length cs ≤ length (c ∷ cs) = omega arith in
    let text = backslash ∷ c ∷ cs in
    let after = quoted most delimiter cs in
    one_part delimiter text (unescaped delimiter c) after (λ rest bytes is.
    let spells = later cs shorter (bytes, rest) is in
    either (λ (front : List ℕ). SpellsQuoted delimiter text rest (front ++ bytes)) (nat_eq c delimiter) (as_itself delimiter) (backslash ∷ c ∷ [])
    (λ same. subst (λ c. SpellsQuoted delimiter (backslash ∷ c ∷ cs) rest (as_itself delimiter ++ bytes)) (sym (eqb-true c delimiter same)) (SpellsQuoted.delimiter_itself cs rest bytes spells))
    (λ other. SpellsQuoted.escaped c cs rest bytes (eqb-false c delimiter other) spells))

-- what is read of a bracket expression and the bytes after it
abbrev bracketed : (most delimiter b : ℕ) → List ℕ → Parsed (List ℕ)
bracketed most delimiter b bs = after_bracket bs >>= λ rest. after_bytes (b ∷ take (length bs - length rest) bs) (quoted most delimiter rest)

bracketed-sound : (most delimiter b : ℕ) (bs : List ℕ) → b ≡ left_square_bracket → b ≢ delimiter → ((more : List ℕ) → length more ≤ length bs → QuotedSpelled delimiter more (quoted most delimiter more)) →
    QuotedSpelled delimiter (b ∷ bs) (bracketed most delimiter b bs)
bracketed-sound most delimiter b bs opens other later r is =
    let found = bind-some (after_bracket bs) (λ rest. after_bytes (b ∷ take (length bs - length rest) bs) (quoted most delimiter rest)) r is in
    let set = bracket-sound bs found.0 found.1 in
    let front = bracket_front set.1 in
    let inside = front.0 in
    let text = found.0 in
    let shorter : length text ≤ length bs = omega (arith, ap length front.1, length-append inside text) in
    let taken : take (length bs - length text) bs ≡ inside = ap (λ bs. take (length bs - length text) bs) front.1 ∙ take_front inside text in
    let read : after_bytes (b ∷ inside) (quoted most delimiter text) ≡ Some r = ap (λ inside. after_bytes (b ∷ inside) (quoted most delimiter text)) (sym taken) ∙ found.2 in
    let whole : SpellsQuoted delimiter (b ∷ (inside ++ text)) r.1 r.0 =
    one_part delimiter (b ∷ (inside ++ text)) (b ∷ inside) (quoted most delimiter text) (λ rest bytes is.
    let spells = later text shorter (bytes, rest) is in
    let expression = subst (λ bs. SpellsBracket bs text set.0) front.1 set.1 in
    subst (λ b. SpellsQuoted delimiter (b ∷ (inside ++ text)) rest (b ∷ (inside ++ bytes))) (sym opens)
    (SpellsQuoted.bracket inside text rest bytes set.0 (λ same. other (opens ∙ same)) expression spells)) r read in
    subst (λ bs. SpellsQuoted delimiter (b ∷ bs) r.1 r.0) (sym front.1) whole

-- the bytes of a pattern that are read are spelled so
pub quoted-sound : (most delimiter : ℕ) (text : List ℕ) → length text ≤ most → QuotedSpelled delimiter text (quoted most delimiter text)
quoted-sound most delimiter [] short = λ r is. subst (λ (r : List ℕ × List ℕ). SpellsQuoted delimiter [] r.1 r.0) (Some-same ([], []) r is) SpellsQuoted.left_open
quoted-sound zero delimiter (b ∷ bs) short = absurd (omega (arith, short))
quoted-sound (suc most) delimiter (b ∷ bs) short =
    let later : (more : List ℕ) → length more ≤ length bs → QuotedSpelled delimiter more (quoted most delimiter more) =
    λ more shorter. quoted-sound most delimiter more (omega (arith, short, shorter)) in
    let Q = QuotedSpelled delimiter (b ∷ bs) in
    let ordinary = after_bytes (b ∷ []) (quoted most delimiter bs) in
    let opened = chosen (nat_eq b left_square_bracket) (bracketed most delimiter b bs) ordinary in
    either Q (nat_eq b delimiter) (Some ([], b ∷ bs)) (chosen (nat_eq b backslash) (after_backslash most delimiter bs) opened)
    (λ closes r is. subst (λ (r : List ℕ × List ℕ). SpellsQuoted delimiter (b ∷ bs) r.1 r.0) (Some-same ([], b ∷ bs) r is)
    (subst (λ b. SpellsQuoted delimiter (b ∷ bs) (b ∷ bs) []) (sym (eqb-true b delimiter closes)) (SpellsQuoted.closed bs)))
    (λ no_end. either Q (nat_eq b backslash) (after_backslash most delimiter bs) opened
    (λ escapes. subst (λ b. QuotedSpelled delimiter (b ∷ bs) (after_backslash most delimiter bs)) (sym (eqb-true b backslash escapes)) (backslash-sound most delimiter bs later))
    (λ no_escape. either Q (nat_eq b left_square_bracket) (bracketed most delimiter b bs) ordinary
    (λ opens. bracketed-sound most delimiter b bs (eqb-true b left_square_bracket opens) (eqb-false b delimiter no_end) later)
    (λ no_bracket. one_part delimiter (b ∷ bs) (b ∷ []) (quoted most delimiter bs) (λ rest bytes is.
    SpellsQuoted.ordinary b bs rest bytes (eqb-false b delimiter no_end) (eqb-false b backslash no_escape) (eqb-false b left_square_bracket no_bracket) (later bs (omega arith) (bytes, rest) is)))))

-- a part that is read before what is after it
part_read : (front bytes rest : List ℕ) (later : Parsed (List ℕ)) → later ≡ Some (bytes, rest) → after_bytes front later ≡ Some (front ++ bytes, rest)
part_read front bytes rest later is = ap (after_bytes front) is

-- a backslash and the byte after it
escape_read : (most delimiter byte : ℕ) (text : List ℕ) → delimiter ≢ backslash → quoted (suc most) delimiter (backslash ∷ byte ∷ text) ≡ after_bytes (unescaped delimiter byte) (quoted most delimiter text)
escape_read most delimiter byte text plain = rw (ne_eqb backslash delimiter (λ same. plain (sym same)), quoted) refl

-- the bytes of a pattern that are spelled so are read
pub quoted-complete : (delimiter : ℕ) {text rest bytes : List ℕ} → SpellsQuoted delimiter text rest bytes → delimiter ≢ backslash → (most : ℕ) → length text ≤ most → quoted most delimiter text ≡ Some (bytes, rest)
quoted-complete delimiter SpellsQuoted.left_open plain most short = refl
quoted-complete delimiter (SpellsQuoted.closed rest) plain zero short = absurd (omega (arith, short))
quoted-complete delimiter (SpellsQuoted.closed rest) plain (suc most) short = rw (eq-eqb delimiter delimiter refl, quoted) refl
quoted-complete delimiter (SpellsQuoted.ordinary byte text rest bytes no_end no_escape no_bracket is) plain zero short = absurd (omega (arith, short))
quoted-complete delimiter (SpellsQuoted.ordinary byte text rest bytes no_end no_escape no_bracket is) plain (suc most) short =
    rw (ne_eqb byte delimiter no_end, ne_eqb byte backslash no_escape, ne_eqb byte left_square_bracket no_bracket, quoted)
    (part_read (byte ∷ []) bytes rest (quoted most delimiter text) (quoted-complete delimiter is plain most (omega (arith, short))))
quoted-complete delimiter (SpellsQuoted.delimiter_itself text rest bytes is) plain zero short = absurd (omega (arith, short))
quoted-complete delimiter (SpellsQuoted.delimiter_itself text rest bytes is) plain (suc most) short =
    escape_read most delimiter delimiter text plain
    ∙ ap (λ t. after_bytes (chosen t (as_itself delimiter) (backslash ∷ delimiter ∷ [])) (quoted most delimiter text)) (eq-eqb delimiter delimiter refl)
    ∙ part_read (as_itself delimiter) bytes rest (quoted most delimiter text) (quoted-complete delimiter is plain most (omega (arith, short)))
quoted-complete delimiter (SpellsQuoted.escaped byte text rest bytes other is) plain zero short = absurd (omega (arith, short))
quoted-complete delimiter (SpellsQuoted.escaped byte text rest bytes other is) plain (suc most) short =
    escape_read most delimiter byte text plain
    ∙ ap (λ t. after_bytes (chosen t (as_itself delimiter) (backslash ∷ byte ∷ [])) (quoted most delimiter text)) (ne_eqb byte delimiter other)
    ∙ part_read (backslash ∷ byte ∷ []) bytes rest (quoted most delimiter text) (quoted-complete delimiter is plain most (omega (arith, short)))
quoted-complete delimiter (SpellsQuoted.bracket inside text rest bytes set other expression is) plain zero short = absurd (omega (arith, short))
quoted-complete delimiter (SpellsQuoted.bracket inside text rest bytes set other expression is) plain (suc most) short =
    let shorter : length text ≤ most = omega (arith, short, length-append inside text) in
    rw (ne_eqb left_square_bracket delimiter other, quoted)
    (ap (λ (o : Option (List ℕ)). o >>= λ rest. after_bytes (left_square_bracket ∷ take (length (inside ++ text) - length rest) (inside ++ text)) (quoted most delimiter rest)) (bracket-complete (inside ++ text) text set expression)
    ∙ ap (λ front. after_bytes (left_square_bracket ∷ front) (quoted most delimiter text)) (take_front inside text)
    ∙ part_read (left_square_bracket ∷ inside) bytes rest (quoted most delimiter text) (quoted-complete delimiter is plain most shorter))

-- what is read of bytes that are some
abbrev pattern_read_as : List ℕ → Result Tree BreFault → Option (Option (List ℕ))
pattern_read_as bytes read = elim read [ Ok tree ↦ Some (Some bytes) | Err fault ↦ None ]

-- a pattern that is read is spelled so
pattern_of-sound : (delimiter : ℕ) (text rest bytes : List ℕ) (found : Option (List ℕ)) → SpellsQuoted delimiter text rest bytes → pattern_of bytes ≡ Some found → SpellsPattern delimiter text rest found
pattern_of-sound delimiter text rest [] found spells is = subst (SpellsPattern delimiter text rest) (Some-same None found is) (SpellsPattern.remembered text rest spells)
pattern_of-sound delimiter text rest (b ∷ bytes) found spells is = by (pattern (b ∷ bytes)) refl is
  where
    by : (read : Result Tree BreFault) → pattern (b ∷ bytes) ≡ read → pattern_read_as (b ∷ bytes) read ≡ Some found → SpellsPattern delimiter text rest found
    by (Ok tree) read is =
        subst (SpellsPattern delimiter text rest) (Some-same (Some (b ∷ bytes)) found is)
        (SpellsPattern.given text rest (b ∷ bytes) tree (λ same. cc) spells (pattern_spelled (b ∷ bytes) tree read))
    by (Err fault) read is = absurd (none_some is)

pub pattern_at-sound : (delimiter : ℕ) (text : List ℕ) (r : Option (List ℕ) × List ℕ) → pattern_at delimiter text ≡ Some r → SpellsPattern delimiter text r.1 r.0
pattern_at-sound delimiter text r is =
    let q = bind-some (quoted (length text) delimiter text) (λ q. pattern_of q.0 >>= λ p. Some (p, q.1)) r is in
    let p = bind-some (pattern_of q.0.0) (λ p. Some (p, q.0.1)) r q.2 in
    let spells = quoted-sound (length text) delimiter text (omega arith) q.0 q.1 in
    subst (λ (r : Option (List ℕ) × List ℕ). SpellsPattern delimiter text r.1 r.0) (Some-same (p.0, q.0.1) r p.2) (pattern_of-sound delimiter text q.0.1 q.0.0 p.0 spells p.1)

given_read : (bytes : List ℕ) (tree : Tree) → bytes ≢ [] → pattern bytes ≡ Ok tree → pattern_of bytes ≡ Some (Some bytes)
given_read [] tree some is = absurd (some refl)
given_read (b ∷ bytes) tree some is = ap (pattern_read_as (b ∷ bytes)) is

-- a pattern that is spelled so is read
pub pattern_at-complete : (delimiter : ℕ) {text rest : List ℕ} {found : Option (List ℕ)} → SpellsPattern delimiter text rest found → delimiter ≢ backslash → pattern_at delimiter text ≡ Some (found, rest)
pattern_at-complete delimiter (SpellsPattern.remembered text rest is) plain =
    ap (λ (o : Parsed (List ℕ)). o >>= λ q. pattern_of q.0 >>= λ p. Some (p, q.1)) (quoted-complete delimiter is plain (length text) (omega arith))
pattern_at-complete delimiter (SpellsPattern.given text rest bytes tree some is spells) plain =
    ap (λ (o : Parsed (List ℕ)). o >>= λ q. pattern_of q.0 >>= λ p. Some (p, q.1)) (quoted-complete delimiter is plain (length text) (omega arith))
    ∙ ap (λ (o : Option (Option (List ℕ))). o >>= λ p. Some (p, rest)) (given_read bytes tree some (pattern_read bytes tree spells))

-- after a pattern stands its closing delimiter or the line's end
quoted-closing : (delimiter : ℕ) {text rest bytes : List ℕ} → SpellsQuoted delimiter text rest bytes → SpellsClosing delimiter rest (drop 1 rest)
quoted-closing delimiter (SpellsQuoted.closed rest) = SpellsClosing.closed rest
quoted-closing delimiter SpellsQuoted.left_open = SpellsClosing.left_open
quoted-closing delimiter (SpellsQuoted.ordinary byte text rest bytes no_end no_escape no_bracket is) = quoted-closing delimiter is
quoted-closing delimiter (SpellsQuoted.delimiter_itself text rest bytes is) = quoted-closing delimiter is
quoted-closing delimiter (SpellsQuoted.escaped byte text rest bytes other is) = quoted-closing delimiter is
quoted-closing delimiter (SpellsQuoted.bracket inside text rest bytes set other expression is) = quoted-closing delimiter is

pub pattern-closing : (delimiter : ℕ) {text rest : List ℕ} {found : Option (List ℕ)} → SpellsPattern delimiter text rest found → SpellsClosing delimiter rest (drop 1 rest)
pattern-closing delimiter (SpellsPattern.remembered text rest is) = quoted-closing delimiter is
pattern-closing delimiter (SpellsPattern.given text rest bytes tree some is spells) = quoted-closing delimiter is

-- what stands after that
pub closing-complete : (delimiter : ℕ) {text rest : List ℕ} → SpellsClosing delimiter text rest → drop 1 text ≡ rest
closing-complete delimiter (SpellsClosing.closed rest) = refl
closing-complete delimiter SpellsClosing.left_open = refl
