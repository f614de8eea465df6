-- Lines of which no part of their text matches, and lines that are passed over.
use Rattle.std.proofs.Common.{◌≡◌, ℕ, ◌+◌, ◌-◌, ◌<◌, ◌≤◌, List, [], ◌∷◌, ◌++◌, Option, Some, None, length, take, drop, get_or, sym, ap, ◌∙◌, subst, arith, append-nil, append_assoc}
use Rattle.std.specs.List.{slice_range}
use Rattle.std.specs.Option.{IfNone}
use Rattle.std.proofs.lemmas.List.{drop-drop, drop-take, drop_at, get_or-drop, get_or-take, length-append, length-drop, length-take-le, take-take, take_all, take_at, take_more}
use Rattle.std.proofs.lemmas.Bool.{eq-eqb, eqb-true}
use Rattle.std.proofs.lemmas.List.Elements.{All-nil, All-cons, All-get_or}
use Rattle.bre_parse.specs.Tree.{Tree}
use Rattle.bre_parse.specs.Match.{match_from}
use Rattle.bre_match.specs.Passing.{NoneEndsBefore}
use Rattle.ed_base.specs.Lines.{newline, HoldsLines, empty, incomplete, whole, bytes_of, lines_of}
use Rattle.ed_base.specs.Parts.{block}
use Rattle.ed_base.proofs.LineLemmas.{HoldsLines-lines_of, at_newline, bytes_of-ended, lines_of-cut}
use Rattle.memchr.specs.Find.{is_byte, Passes}
use Rattle.ed_commands.specs.Courses.{NoneFrom, NoneMatches, StopsAt}
use Rattle.ed_commands.specs.declared.editor.first_line.LineFound.{LineFound}

-- where there is none, what is said of that is so
pub where-none : {A : Type 0} (o : Option A) (P : Type 0) → o ≡ None → IfNone o P → P
where-none None P is h = h
where-none (Some x) P is h = absurd cc

-- a line has no match
abbrev Fails : Tree → List ℕ → Type 0
Fails tree line = match_from tree line 0 ≡ None

-- a part of what follows some bytes
part-after : (front rest : List ℕ) (n start end : ℕ) → length front ≡ n → slice_range (front ++ rest) (n + start) (n + end) ≡ slice_range rest start end
part-after front rest n start end long =
    let size : n + end - (n + start) ≡ end - start = omega arith in
    ap (λ k. take k (drop (n + start) (front ++ rest))) size
    ∙ ap (take (end - start)) (sym (drop-drop start n (front ++ rest)) ∙ ap (drop start) (drop_at front rest n long))

-- a part of the first bytes
part-of-front : (text : List ℕ) (n start end : ℕ) → start ≤ end → end ≤ n → slice_range (take n text) start end ≡ slice_range text start end
part-of-front text n start end order within =
    let left : n ≡ start + (n - start) = omega arith in
    ap (λ k. take (end - start) (drop start (take k text))) left
    ∙ ap (take (end - start)) (drop-take start (n - start) text)
    ∙ take-take (end - start) (n - start) (drop start text) (omega arith)

-- the first line is a part
first-part : (line rest : List ℕ) → slice_range (line ++ rest) 0 (length line) ≡ line
first-part line rest = take_at line rest (length line - 0) (omega arith)

whole-part : (line : List ℕ) → slice_range line 0 (length line) ≡ line
whole-part line = take_all (length line - 0) line (omega arith)

-- where no part matches that ends before a place, no line does that ends before it
none-among : (tree : Tree) {bytes : List ℕ} {lines : List (List ℕ)} → HoldsLines bytes lines → (place : ℕ) → length (bytes_of lines) ≤ place →
    NoneEndsBefore tree bytes place → NoneMatches tree lines
none-among tree empty place le none = All-nil (Fails tree)
none-among tree (incomplete line is_line some) place le none =
    let long = length-append line (newline ∷ []) in
    All-cons (Fails tree) line [] (subst (Fails tree) (whole-part line) (none 0 (length line) (omega arith) (omega arith) (omega (arith, le, long)))) (All-nil (Fails tree))
none-among tree (whole line rest lines is_line later) place le none =
    let front : List ℕ = line ++ newline ∷ [] in
    let all : front ++ rest ≡ line ++ newline ∷ rest = append_assoc line (newline ∷ []) rest in
    let n : ℕ = length line + 1 in
    let long : length front ≡ n = length-append line (newline ∷ []) in
    let size : length (line ++ newline ∷ rest) ≡ n + length rest = omega (arith, length-append line (newline ∷ rest)) in
    let written : length (line ++ newline ∷ bytes_of lines) ≡ n + length (bytes_of lines) = omega (arith, length-append line (newline ∷ bytes_of lines)) in
    All-cons (Fails tree) line lines
    (subst (Fails tree) (first-part line (newline ∷ rest)) (none 0 (length line) (omega arith) (omega arith) (omega (arith, le, written))))
    (none-among tree later (place - n) (omega (arith, le, written)) (λ start end order within before.
    subst (Fails tree) (ap (λ t. slice_range t (n + start) (n + end)) (sym all) ∙ part-after front rest n start end long)
    (none (n + start) (n + end) (omega (arith, order)) (omega (arith, within, size)) (omega (arith, before)))))

-- none of the lines up to the one in which the place lies
pub none-before : (tree : Tree) (text : List ℕ) (start place : ℕ) → start ≤ place → place ≤ length text → bytes_of (lines_of (take start text)) ≡ take start text →
    NoneEndsBefore tree text place → NoneMatches tree (lines_of (take start text))
none-before tree text start place low high written none =
    let long : length (take start text) ≡ start = length-take-le start text (omega arith) in
    none-among tree (HoldsLines-lines_of (take start text)) start (omega (arith, ap length written, long)) (λ from to order within before.
    subst (Fails tree) (sym (part-of-front text start from to order (omega (arith, before))))
    (none from to order (omega (arith, before, low, high)) (omega (arith, before, low))))

-- none of all lines
pub none-at-all : (tree : Tree) (text : List ℕ) → NoneEndsBefore tree text (length text + 1) → NoneMatches tree (lines_of text)
none-at-all tree text none =
    none-among tree (HoldsLines-lines_of text) (length (bytes_of (lines_of text))) (omega arith) (λ from to order within before.
    none from to order within (omega (arith, within)))

-- a line of a part
line-in-block : (a b i : ℕ) (texts : List (List ℕ)) → a ≤ i → i < b → get_or texts i [] ≡ get_or (block a b texts) (i - a) []
line-in-block a b i texts low high =
    let same : a + (i - a) ≡ i = omega arith in
    sym (get_or-drop a (take b texts) (i - a) []
    ∙ ap (λ k. get_or (take b texts) k []) same
    ∙ get_or-take b texts i [] high)

-- how many lines there are, where so many stand before one
pub counted-left : (n : ℕ) (lines more : List (List ℕ)) (line : List ℕ) → drop n lines ≡ line ∷ more → length lines ≡ n + (1 + length more)
counted-left n lines more line stops = omega (arith, length-drop n lines, ap length stops)

-- the lines that were passed are those from one place up to another
pub none-passed : (tree : Tree) (a b n : ℕ) (lines more texts : List (List ℕ)) (line : List ℕ) → block a b texts ≡ lines → drop n lines ≡ line ∷ more → a + n ≤ b →
    NoneMatches tree (take n lines) → NoneFrom tree texts a (a + n)
none-passed tree a b n lines more texts line is stops within none = λ i low high.
    let long : length (take n lines) ≡ n = length-take-le n lines (omega (arith, counted-left n lines more line stops)) in
    let before : i - a < n = omega (arith, low, high) in
    subst (Fails tree)
    (sym (line-in-block a b i texts low (omega (arith, high, within))
    ∙ ap (λ t. get_or t (i - a) []) is
    ∙ sym (get_or-take n lines (i - a) [] before)))
    (All-get_or (Fails tree) (take n lines) (i - a) [] (omega (arith, before, long)) none)

-- all lines of a part
pub none-of-block : (tree : Tree) (a b : ℕ) (lines texts : List (List ℕ)) → block a b texts ≡ lines → b ≡ a + length lines →
    NoneMatches tree lines → NoneFrom tree texts a b
none-of-block tree a b lines texts is end none = λ i low high.
    subst (Fails tree)
    (sym (line-in-block a b i texts low high ∙ ap (λ t. get_or t (i - a) []) is))
    (All-get_or (Fails tree) lines (i - a) [] (omega (arith, low, high, end)) none)

-- the line at which it stopped
pub line-stopped-at : (a b n : ℕ) (lines more texts : List (List ℕ)) (line : List ℕ) → block a b texts ≡ lines → drop n lines ≡ line ∷ more → a + n < b →
    line ≡ get_or texts (a + n) []
line-stopped-at a b n lines more texts line is stops within =
    let at : a + n - a ≡ n + 0 = omega arith in
    sym (line-in-block a b (a + n) texts (omega arith) within
    ∙ ap (λ k. get_or (block a b texts) k []) at
    ∙ ap (λ t. get_or t (n + 0) []) is
    ∙ sym (get_or-drop n lines 0 [])
    ∙ ap (λ t. get_or t 0 []) stops)

-- and those after it
pub lines-after : (a b c n : ℕ) (lines more texts : List (List ℕ)) (line : List ℕ) → block a b texts ≡ lines → drop n lines ≡ line ∷ more →
    c ≡ a + n + 1 → block c b texts ≡ more
lines-after a b c n lines more texts line is stops next =
    let at : c ≡ a + (n + 1) = omega (arith, next) in
    ap (λ k. drop k (take b texts)) at
    ∙ sym (drop-drop (n + 1) a (take b texts))
    ∙ ap (drop (n + 1)) is
    ∙ sym (drop-drop 1 n lines)
    ∙ ap (drop 1) stops

-- the lines up to a newline, and those after it
pub record CutAt (text : List ℕ) (start : ℕ) : Type 0 where
  pub cut : lines_of text ≡ lines_of (take start text) ++ lines_of (drop start text)
  pub written : bytes_of (lines_of (take start text)) ≡ take start text

pub cut-after-newline : (text : List ℕ) (n at : ℕ) → at < length (take n text) → n ≤ length text → Passes (is_byte newline) (take n text) at → CutAt text (at + 1)
cut-after-newline text n at low high is =
    let long : length (take n text) ≡ n = length-take-le n text (omega arith) in
    let lt : at < length text = omega arith in
    let before : at < n = omega arith in
    let byte : get_or text at 0 ≡ newline = sym (get_or-take n text at 0 before) ∙ eqb-true (get_or (take n text) at 0) newline is in
    let there : Passes (is_byte newline) text at = eq-eqb (get_or text at 0) newline byte in
    let front : take (at + 1) text ≡ take at text ++ newline ∷ [] = take_more text at 0 lt ∙ ap (λ b. take at text ++ b ∷ []) byte in
    record {
      cut = ap lines_of (at_newline text at lt there)
          ∙ lines_of-cut (take at text) (drop (at + 1) text)
          ∙ ap (λ t. lines_of t ++ lines_of (drop (at + 1) text)) (sym front);
      written = ap (λ t. bytes_of (lines_of t)) front ∙ bytes_of-ended (take at text) ∙ sym front;
    }

-- the bytes from a place on, taken whole
whole-rest : (text : List ℕ) (start : ℕ) → take (length text - start) (drop start text) ≡ drop start text
whole-rest text start = take_all (length text - start) (drop start text) (omega (arith, length-drop start text))

-- a line was found after others
pub stops-at : (text : List ℕ) (found : LineFound) (start : ℕ) → lines_of text ≡ lines_of (take start text) ++ lines_of (drop start text) →
    lines_of (take (length text - start) (drop start text)) ≡ found.line.now ∷ lines_of found.rest.now →
    found.before ≡ length (lines_of (take start text)) → StopsAt text found
stops-at text found start cut first counted =
    ap (drop found.before) cut
    ∙ drop_at (lines_of (take start text)) (lines_of (drop start text)) found.before (sym counted)
    ∙ ap lines_of (sym (whole-rest text start))
    ∙ first

-- which don't match
pub none-in-front : (tree : Tree) (text : List ℕ) (before start : ℕ) → lines_of text ≡ lines_of (take start text) ++ lines_of (drop start text) →
    before ≡ length (lines_of (take start text)) → NoneMatches tree (lines_of (take start text)) → NoneMatches tree (take before (lines_of text))
none-in-front tree text before start cut counted none =
    subst (NoneMatches tree) (sym (ap (take before) cut ∙ take_at (lines_of (take start text)) (lines_of (drop start text)) before (sym counted))) none

-- or none is left after them
pub none-left : (tree : Tree) (text : List ℕ) (start : ℕ) → lines_of text ≡ lines_of (take start text) ++ lines_of (drop start text) →
    NoneMatches tree (lines_of (take start text)) → take (length text - start) (drop start text) ≡ [] → NoneMatches tree (lines_of text)
none-left tree text start cut none ended =
    let passed = lines_of (take start text) in
    subst (NoneMatches tree)
    (sym (cut ∙ ap (λ t. passed ++ lines_of t) (sym (whole-rest text start) ∙ ended) ∙ append-nil passed))
    none
