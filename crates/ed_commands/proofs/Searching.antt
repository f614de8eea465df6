-- Searches through lines one after another.
use Rattle.std.proofs.Common.{◌≡◌, ℕ, zero, suc, ◌+◌, ◌-◌, ◌<◌, ◌≤◌, max, Bool, true, false, cond, List, [], ◌∷◌, ◌++◌, reverse, get_or, Option, Some, None, Result, Ok, refl, sym, ap, ◌∙◌, arith}
use Rattle.std.specs.Prelude.{find, is_some, nat_le, ok_or, IfSome, MatchOption}
use Rattle.std.specs.Option.{option_or}
use Rattle.std.proofs.Math.Nat.{suc-add, zero-add}
use Rattle.std.proofs.lemmas.Bool.Decides.{leb_tells}
use Rattle.std.proofs.lemmas.List.{append-nil, reverse-append}
use Rattle.std.proofs.lemmas.List.Folds.{find-append}
use Rattle.bre_parse.specs.Tree.{Tree}
use Rattle.bre_parse.specs.Grammar.{pattern}
use Rattle.bre_parse.specs.Match.{match_from}
use Rattle.ed_base.specs.Buffer.{Line, plain_line, texts}
use Rattle.ed_base.specs.declared.fault.Fault.{Fault}
use Rattle.ed_base.specs.declared.fault.Fault.TheVariants as fault
use Rattle.ed_syntax.specs.meaning.States.{State, last}
use Rattle.ed_syntax.specs.meaning.Values.{count_from, upwards, matches, matches_line, searched, sought}
use Rattle.ed_commands.specs.Courses.{NoneFrom}
use Rattle.ed_commands.specs.Editors.{TellsLine, with_pattern}
use Rattle.ed_commands.specs.Searches.{around, line_after, lines_in}
use Rattle.ed_commands.specs.declared.editor.searching.Direction.{Direction}
use Rattle.ed_commands.specs.declared.editor.searching.Direction.TheVariants as to

pub matched-by : (text line : List ℕ) (tree : Tree) → pattern text ≡ Ok tree → matches text line ≡ is_some (match_from tree line 0)
matched-by text line tree h = rw (h, matches) refl

-- what the matcher tells of a line's text
pub told : (text : List ℕ) (tree : Tree) (lines : List Line) (i : ℕ) (line : List ℕ) (answer : Bool) → pattern text ≡ Ok tree →
    line ≡ (get_or lines i (plain_line [])).bytes → answer ≡ is_some (match_from tree line 0) → matches text (get_or lines i (plain_line [])).bytes ≡ answer
told text tree lines i line answer h e k = ap (matches text) (sym e) ∙ matched-by text line tree h ∙ sym k

-- a search that has come to a line that doesn't match
pub passed : (p : ℕ → Bool) (next : ℕ → ℕ) (line now k last : ℕ) → k < last → now ≡ next line → p now ≡ false →
    find p (around next line (last - k)) ≡ find p (around next now (last - (k + 1)))
passed p next line now k last h is fails =
    ap (λ n. find p (around next line n)) (let e : last - k ≡ suc (last - (k + 1)) = omega arith in e)
    ∙ ap (λ l. find p (l ∷ around next l (last - (k + 1)))) (sym is)
    ∙ ap (λ t. cond t (Some now) (find p (around next now (last - (k + 1))))) fails

-- to one that does
pub found : (p : ℕ → Bool) (next : ℕ → ℕ) (line now k last : ℕ) → k < last → now ≡ next line → p now ≡ true → find p (around next line (last - k)) ≡ Some now
found p next line now k last h is passes =
    ap (λ n. find p (around next line n)) (let e : last - k ≡ suc (last - (k + 1)) = omega arith in e)
    ∙ ap (λ l. find p (l ∷ around next l (last - (k + 1)))) (sym is)
    ∙ ap (λ t. cond t (Some now) (find p (around next now (last - (k + 1))))) passes

-- the text of a line
pub text-at : (lines : List Line) (i : ℕ) → (get_or lines i (plain_line [])).bytes ≡ get_or (texts lines) i []
text-at [] i = refl
text-at (line ∷ lines) zero = refl
text-at (line ∷ lines) (suc i) = text-at lines i

-- a line of these texts has no match, and so the pattern doesn't match it
pub fails-at : (text : List ℕ) (tree : Tree) (lines : List Line) (i : ℕ) → pattern text ≡ Ok tree → match_from tree (get_or (texts lines) i []) 0 ≡ None →
    matches text (get_or lines i (plain_line [])).bytes ≡ false
fails-at text tree lines i h none = ap (matches text) (text-at lines i) ∙ matched-by text (get_or (texts lines) i []) tree h ∙ ap is_some none

-- nor the line of its number
pub fails-line : (text : List ℕ) (tree : Tree) (lines : List Line) (a b : ℕ) → pattern text ≡ Ok tree → NoneFrom tree (texts lines) a b →
    (i : ℕ) → a ≤ i → i < b → matches_line text lines (i + 1) ≡ false
fails-line text tree lines a b h none = λ i low high.
    let e : i + 1 - 1 ≡ i = omega arith in
    ap (λ k. matches text (get_or lines k (plain_line [])).bytes) e ∙ fails-at text tree lines i h (none i low high)

-- what the matcher tells of a text is so of the line of a number
pub told-line : (text : List ℕ) (tree : Tree) (lines : List Line) (i : ℕ) (line : List ℕ) (answer : Bool) → pattern text ≡ Ok tree →
    line ≡ get_or (texts lines) i [] → answer ≡ is_some (match_from tree line 0) → matches_line text lines (i + 1) ≡ answer
told-line text tree lines i line answer h e k =
    let at : i + 1 - 1 ≡ i = omega arith in
    ap (λ n. matches text (get_or lines n (plain_line [])).bytes) at ∙ told text tree lines i line answer h (e ∙ sym (text-at lines i)) k

-- the text of a line, which stands in the store or was handed out
pub handed : {A : Type 0} (now : A → List ℕ) (at : Option A) (text stored line : List ℕ) →
    MatchOption at (text ≡ stored) (λ t. text ≡ now t) → IfSome at (λ t. now t ≡ line) → stored ≡ line → text ≡ line
handed now None text stored line same is there = same ∙ there
handed now (Some t) text stored line same is there = same ∙ is

-- numbers that fail are passed over
find-further : (p : ℕ → Bool) (a m n : ℕ) → ((i : ℕ) → a ≤ i → i < a + m → p (i + 1) ≡ false) → find p (count_from (a + 1) (m + n)) ≡ find p (count_from (a + m + 1) n)
find-further p a zero n fails = rw zero-add (ap (λ k. find p (count_from (k + 1) n)) (let e : a ≡ a + 0 = omega arith in e))
find-further p a (suc m) n fails =
    rw suc-add (ap (λ t. cond t (Some (a + 1)) (find p (count_from (a + 1 + 1) (m + n)))) (fails a (omega arith) (omega arith))
    ∙ find-further p (a + 1) m n (λ i low high. fails i (omega (arith, low)) (omega (arith, high)))
    ∙ ap (λ k. find p (count_from (k + 1) n)) (let e : a + 1 + m ≡ a + suc m = omega arith in e))

find-to : (p : ℕ → Bool) (a k b : ℕ) → a ≤ k → k ≤ b → ((i : ℕ) → a ≤ i → i < k → p (i + 1) ≡ false) →
    find p (count_from (a + 1) (b - a)) ≡ find p (count_from (k + 1) (b - k))
find-to p a k b low high fails =
    let size : b - a ≡ (k - a) + (b - k) = omega arith in
    let at : a + (k - a) ≡ k = omega arith in
    ap (λ n. find p (count_from (a + 1) n)) size
    ∙ find-further p a (k - a) (b - k) (λ i l h. fails i l (omega (arith, h)))
    ∙ ap (λ j. find p (count_from (j + 1) (b - k))) at

-- to one that is found
pub find-here : (p : ℕ → Bool) (a k b : ℕ) → a ≤ k → k < b → ((i : ℕ) → a ≤ i → i < k → p (i + 1) ≡ false) → p (k + 1) ≡ true →
    find p (count_from (a + 1) (b - a)) ≡ Some (k + 1)
find-here p a k b low high fails here =
    find-to p a k b low (omega arith) fails
    ∙ ap (λ n. find p (count_from (k + 1) n)) (let e : b - k ≡ suc (b - (k + 1)) = omega arith in e)
    ∙ ap (λ t. cond t (Some (k + 1)) (find p (count_from (k + 1 + 1) (b - (k + 1))))) here

-- beyond one that fails too
pub find-past : (p : ℕ → Bool) (a k b : ℕ) → a ≤ k → k < b → ((i : ℕ) → a ≤ i → i < k → p (i + 1) ≡ false) → p (k + 1) ≡ false →
    find p (count_from (a + 1) (b - a)) ≡ find p (count_from (k + 1 + 1) (b - (k + 1)))
find-past p a k b low high fails here =
    find-to p a k b low (omega arith) fails
    ∙ ap (λ n. find p (count_from (k + 1) n)) (let e : b - k ≡ suc (b - (k + 1)) = omega arith in e)
    ∙ ap (λ t. cond t (Some (k + 1)) (find p (count_from (k + 1 + 1) (b - (k + 1))))) here

-- or to the end
pub find-none : (p : ℕ → Bool) (a b : ℕ) → a ≤ b → ((i : ℕ) → a ≤ i → i < b → p (i + 1) ≡ false) → find p (count_from (a + 1) (b - a)) ≡ None
find-none p a b order fails =
    find-to p a b b order (omega arith) fails ∙ ap (λ n. find p (count_from (b + 1) n)) (let e : b - b ≡ 0 = omega arith in e)

-- the line after one that isn't the last, and after the last; before one that isn't the first
next-up : (last line : ℕ) → line < last → line_after to.Forward last line ≡ line + 1
next-up last line h = let before : nat_le last line ≡ false = grind (arith, leb_tells) in ap (λ b. elim b [ true ↦ 1 | false ↦ line + 1 ]) before

next-round : (last line : ℕ) → last ≤ line → line_after to.Forward last line ≡ 1
next-round last line h = let past : nat_le last line ≡ true = grind (arith, leb_tells) in ap (λ b. elim b [ true ↦ 1 | false ↦ line + 1 ]) past

next-down : (last line : ℕ) → 1 < line → line_after to.Backward last line ≡ line - 1
next-down last line h = let after : nat_le line 1 ≡ false = grind (arith, leb_tells) in ap (λ b. elim b [ true ↦ last | false ↦ line - 1 ]) after

next-last : (last line : ℕ) → line ≤ 1 → line_after to.Backward last line ≡ last
next-last last line h = let first : nat_le line 1 ≡ true = grind (arith, leb_tells) in ap (λ b. elim b [ true ↦ last | false ↦ line - 1 ]) first

-- so many lines upwards, and the others
up : (last line n m : ℕ) → line + n ≤ last →
    around (line_after to.Forward last) line (n + m) ≡ count_from (line + 1) n ++ around (line_after to.Forward last) (line + n) m
up last line zero m h = rw zero-add (ap (λ l. around (line_after to.Forward last) l m) (let e : line ≡ line + 0 = omega arith in e))
up last line (suc n) m h =
    rw suc-add (ap (λ l. l ∷ around (line_after to.Forward last) l (n + m)) (next-up last line (omega arith))
    ∙ ap (λ t. (line + 1) ∷ t) (up last (line + 1) n m (omega (arith, h)))
    ∙ ap (λ l. (line + 1) ∷ (count_from (line + 1 + 1) n ++ around (line_after to.Forward last) l m)) (let e : line + 1 + n ≡ line + suc n = omega arith in e))

-- from the last line on so many are those from the first one on
round-up : (last n : ℕ) → n ≤ last → around (line_after to.Forward last) last n ≡ count_from 1 n
round-up last zero h = refl
round-up last (suc n) h =
    ap (λ l. l ∷ around (line_after to.Forward last) l n) (next-round last last (omega arith))
    ∙ ap (λ t. 1 ∷ t) (ap (around (line_after to.Forward last) 1) (let e : n ≡ n + 0 = omega arith in e) ∙ up last 1 n 0 (omega (arith, h)) ∙ append-nil (count_from 2 n))

-- once round upwards
pub round-forward : (last line : ℕ) → line ≤ last →
    around (line_after to.Forward last) line last ≡ count_from (line + 1) (last - line) ++ count_from 1 line
round-forward last line h =
    let next = line_after to.Forward last in
    let n = last - line in
    ap (around next line) (let e : last ≡ n + line = omega arith in e)
    ∙ up last line n line (omega arith)
    ∙ ap (λ l. count_from (line + 1) n ++ around next l line) (let e : line + n ≡ last = omega arith in e)
    ∙ ap (λ t. count_from (line + 1) n ++ t) (round-up last line h)

-- what is found after a line, or else up to it, is found once round
pub found-after : (p : ℕ → Bool) (last line : ℕ) (found : ℕ) → line ≤ last → Some found ≡ find p (count_from (line + 1) (last - line)) →
    Some found ≡ find p (around (line_after to.Forward last) line last)
found-after p last line found h is =
    ap (λ o. option_or o (find p (count_from 1 line))) is
    ∙ sym (find-append p (count_from (line + 1) (last - line)) (count_from 1 line))
    ∙ sym (ap (find p) (round-forward last line h))

pub found-up-to : (p : ℕ → Bool) (last line : ℕ) (found : Option ℕ) → line ≤ last → None ≡ find p (count_from (line + 1) (last - line)) →
    found ≡ find p (count_from (0 + 1) (line - 0)) → found ≡ find p (around (line_after to.Forward last) line last)
found-up-to p last line found h none is =
    is
    ∙ ap (λ n. find p (count_from 1 n)) (let e : line - 0 ≡ line = omega arith in e)
    ∙ ap (λ o. option_or o (find p (count_from 1 line))) none
    ∙ sym (find-append p (count_from (line + 1) (last - line)) (count_from 1 line))
    ∙ sym (ap (find p) (round-forward last line h))

-- the last of some numbers
last-of : (a n : ℕ) → count_from a (suc n) ≡ count_from a n ++ (a + n) ∷ []
last-of a zero = ap (λ t. t ∷ []) (let e : a ≡ a + 0 = omega arith in e)
last-of a (suc n) = ap (λ t. a ∷ t) (last-of (a + 1) n ∙ ap (λ t. count_from (a + 1) n ++ t ∷ []) (let e : a + 1 + n ≡ a + suc n = omega arith in e))

last-first : (a n : ℕ) → reverse (count_from a (suc n)) ≡ (a + n) ∷ reverse (count_from a n)
last-first a n = ap reverse (last-of a n) ∙ reverse-append (count_from a n) ((a + n) ∷ [])

-- so many lines downwards, and the others
down : (last line a n m : ℕ) → n ≤ line - 1 → line ≡ a + n →
    around (line_after to.Backward last) line (n + m) ≡ reverse (count_from a n) ++ around (line_after to.Backward last) a m
down last line a zero m h e = rw zero-add (ap (λ l. around (line_after to.Backward last) l m) (let f : line ≡ a = omega (arith, e) in f))
down last line a (suc n) m h e =
    let next : line_after to.Backward last line ≡ a + n = next-down last line (omega (arith, h)) ∙ (let f : line - 1 ≡ a + n = omega (arith, e) in f) in
    rw suc-add (ap (λ l. l ∷ around (line_after to.Backward last) l (n + m)) next
    ∙ ap (λ t. (a + n) ∷ t) (down last (a + n) a n m (omega (arith, h, e)) refl)
    ∙ ap (λ t. t ++ around (line_after to.Backward last) a m) (sym (last-first a n)))

-- from a line that has none before it so many are those from the last one down
round-down : (last line n : ℕ) → line ≤ 1 → n ≤ last → around (line_after to.Backward last) line n ≡ reverse (count_from (last + 1 - n) n)
round-down last line zero h k = refl
round-down last line (suc n) h k =
    let at : last + 1 - suc n ≡ last - n = omega arith in
    ap (λ l. l ∷ around (line_after to.Backward last) l n) (next-last last line h)
    ∙ ap (λ t. last ∷ t) (ap (around (line_after to.Backward last) last) (let e : n ≡ n + 0 = omega arith in e) ∙ down last last (last - n) n 0 (omega (arith, k)) (omega (arith, k)) ∙ append-nil (reverse (count_from (last - n) n)))
    ∙ ap (λ l. l ∷ reverse (count_from (last - n) n)) (let e : last ≡ last - n + n = omega (arith, k) in e)
    ∙ sym (last-first (last - n) n)
    ∙ ap (λ a. reverse (count_from a (suc n))) (sym at)

-- the lines before the current one
below-first : (line : ℕ) → count_from (line - (line - 1)) (line - 1) ≡ upwards 1 (line - 1)
below-first zero = refl
below-first (suc line) =
    ap (λ a. count_from a (suc line - 1)) (let e : suc line - (suc line - 1) ≡ 1 = omega arith in e)
    ∙ ap (count_from 1) (let e : suc line - 1 ≡ suc line - 1 + 1 - 1 = omega arith in e)

-- a search looks at each line once, from the current one on
pub once-around : (d : Direction) (s : State) → s.current ≤ last s → around (line_after d (last s)) s.current (last s) ≡ lines_in d s
once-around to.Forward s h =
    let n = last s - s.current in
    round-forward (last s) s.current h
    ∙ ap (λ k. count_from (s.current + 1) k ++ count_from 1 s.current) (let e : n ≡ last s + 1 - (s.current + 1) = omega arith in e)
    ∙ ap (λ k. upwards (s.current + 1) (last s) ++ count_from 1 k) (let e : s.current ≡ s.current + 1 - 1 = omega arith in e)
once-around to.Backward s h =
    let next = line_after to.Backward (last s) in
    let b = s.current - 1 in
    ap (around next s.current) (let e : last s ≡ b + (last s - b) = omega arith in e)
    ∙ down (last s) s.current (s.current - b) b (last s - b) (omega arith) (omega arith)
    ∙ ap (λ t. reverse (count_from (s.current - b) b) ++ t) (round-down (last s) (s.current - b) (last s - b) (omega arith) (omega arith))
    ∙ ap (λ t. reverse t ++ reverse (count_from (last s + 1 - (last s - b)) (last s - b))) (below-first s.current)
    ∙ ap (λ a. reverse (upwards 1 b) ++ reverse (count_from a (last s - b))) (let e : last s + 1 - (last s - b) ≡ max 1 s.current = omega arith in e)
    ∙ ap (λ k. reverse (upwards 1 b) ++ reverse (count_from (max 1 s.current) k)) (let e : last s - b ≡ last s + 1 - max 1 s.current = omega arith in e)

-- the state that remembers what is looked for, and is else as before
pub leaves : (s new : State) (own : Option (List ℕ)) → new ≡ with_pattern new.pattern s → new.pattern ≡ sought own s → new ≡ with_pattern (sought own s) s
leaves s new own h e = h ∙ ap (λ p. with_pattern p s) e

-- whatever is remembered, a search looks at the same lines
same-lines : (d : Direction) (pattern : Option (List ℕ)) (s : State) → lines_in d s ≡ lines_in d (with_pattern pattern s)
same-lines to.Forward pattern s = refl
same-lines to.Backward pattern s = refl

-- a search in the state that remembers what is looked for tells what it tells in the state before
pub as-sought : (d : Direction) (s now : State) (own : Option (List ℕ)) (text : List ℕ) (result : Result ℕ Fault) →
    now ≡ with_pattern (sought own s) s → now.pattern ≡ Some text → searched (Some text) (lines_in d now) now ≡ result → searched (sought own s) (lines_in d s) s ≡ result
as-sought d s now own text result is some r =
    ap (λ o. searched o (lines_in d s) s) (sym (ap (λ t. t.pattern) is) ∙ some)
    ∙ ap (λ o. searched (Some text) o s) (same-lines d (sought own s) s)
    ∙ sym (ap (λ t. searched (Some text) (lines_in d t) t) is)
    ∙ r

-- what came of a search that has looked at all lines
pub looked : (expected result : Result ℕ Fault) (found : Option ℕ) (after new : State) → expected ≡ ok_or found fault.NoMatch → result ≡ ok_or found fault.NoMatch → new ≡ after →
    TellsLine expected after result new
looked expected result None after new e r n = rw r (λ other. (e, n))
looked expected result (Some line) after new e r n = rw r (e, n)
