-- Where a letter is in lists of lines.
use Rattle.std.proofs.Common.{◌≡◌, ◌≢◌, inl, inr, set, get_or-set_same, get_or-set_other, length-set, ◌<◌, ◌≤◌, ℕ, zero, suc, ◌+◌, ◌-◌, Bool, true, false, cond, get_or, replicate, map, List, [], ◌∷◌, ◌++◌, take, drop, length, Option, None, Some, arith, ◌∙◌, ap, refl, sym, length-append, length-drop}
use Rattle.std.proofs.lemmas.List.{length-take-le, length-map, get_or_past}
use Rattle.std.proofs.lemmas.Bool.{cases_lt}
use Rattle.std.proofs.lemmas.List.Elements.{All-map, All-get_or, All-weaker}
use Rattle.std.proofs.lemmas.Iterator.Adapters.{position_from-zero}
use Rattle.std.specs.List.{position_from}
use Rattle.ed_base.specs.Buffer.{Line, plain_line, has_letter, with_letter, marked_place, marked_at, KnowLetters}
use Rattle.ed_base.specs.Parts.{replaced, inserted}

-- the line that has the letter, counted from 1
abbrev pub one_more : Option ℕ → Option ℕ
one_more None = None
one_more (Some n) = Some (n + 1)

abbrev pub line_with : ℕ → List Line → Option ℕ
line_with x [] = None
line_with x (l ∷ ls) = cond (has_letter x l) (Some 1) (one_more (line_with x ls))

pub one_more-some : (o : Option ℕ) (i : ℕ) → one_more o ≡ Some i → (j : ℕ) × (o ≡ Some j) × (i ≡ j + 1)
one_more-some None i e = cc
one_more-some (Some j) i e = (j, refl, cc)

pub one_more-none : (o : Option ℕ) → one_more o ≡ None → o ≡ None
one_more-none None e = refl
one_more-none (Some j) e = cc

-- a line that has the letter is one of the lines
pub line_with-range : (x : ℕ) (ls : List Line) (i : ℕ) → line_with x ls ≡ Some i → (1 ≤ i) × (i ≤ length ls)
line_with-range x [] i e = cc
line_with-range x (l ∷ ls) i e =
    (elim (has_letter x l) as (λ b. cond b (Some 1) (one_more (line_with x ls)) ≡ Some i → (1 ≤ i) × (i ≤ suc (length ls))) [
      | true ↦ λ e. let f : i ≡ 1 = cc in (omega arith, omega arith)
      | false ↦ λ e. let o = one_more-some _ i e in let r = line_with-range x ls o.0 o.1 in (omega arith, omega arith)
    ]) e

pub line_with-take : (x : ℕ) (ls : List Line) (k i : ℕ) → line_with x ls ≡ Some i → i ≤ k → line_with x (take k ls) ≡ Some i
line_with-take x ls zero i e h = let r = line_with-range x ls i e in absurd (omega arith)
line_with-take x [] (suc k) i e h = e
line_with-take x (l ∷ ls) (suc k) i e h =
    (elim (has_letter x l) as (λ b. cond b (Some 1) (one_more (line_with x ls)) ≡ Some i → i ≤ suc k → cond b (Some 1) (one_more (line_with x (take k ls))) ≡ Some i) [
      | true ↦ λ e h. e
      | false ↦ λ e h. let o = one_more-some _ i e in rw (line_with-take x ls k o.0 o.1 (omega arith)) (ap Some (sym o.2))
    ]) e h

pub line_with-take_before : (x : ℕ) (ls : List Line) (k i : ℕ) → line_with x ls ≡ Some i → k < i → line_with x (take k ls) ≡ None
line_with-take_before x ls zero i e h = refl
line_with-take_before x [] (suc k) i e h = refl
line_with-take_before x (l ∷ ls) (suc k) i e h =
    (elim (has_letter x l) as (λ b. cond b (Some 1) (one_more (line_with x ls)) ≡ Some i → suc k < i → cond b (Some 1) (one_more (line_with x (take k ls))) ≡ None) [
      | true ↦ λ e h. let f : i ≡ 1 = cc in absurd (omega arith)
      | false ↦ λ e h. let o = one_more-some _ i e in rw (line_with-take_before x ls k o.0 o.1 (omega arith)) refl
    ]) e h

pub line_with-drop : (x : ℕ) (ls : List Line) (k i : ℕ) → line_with x ls ≡ Some i → k < i → line_with x (drop k ls) ≡ Some (i - k)
line_with-drop x ls zero i e h = e ∙ ap Some (omega arith)
line_with-drop x [] (suc k) i e h = cc
line_with-drop x (l ∷ ls) (suc k) i e h =
    (elim (has_letter x l) as (λ b. cond b (Some 1) (one_more (line_with x ls)) ≡ Some i → suc k < i → line_with x (drop k ls) ≡ Some (i - suc k)) [
      | true ↦ λ e h. let f : i ≡ 1 = cc in absurd (omega arith)
      | false ↦ λ e h. let o = one_more-some _ i e in line_with-drop x ls k o.0 o.1 (omega arith) ∙ ap Some (omega arith)
    ]) e h

pub line_with-append_left : (x : ℕ) (s t : List Line) (i : ℕ) → line_with x s ≡ Some i → line_with x (s ++ t) ≡ Some i
line_with-append_left x [] t i e = cc
line_with-append_left x (l ∷ s) t i e =
    (elim (has_letter x l) as (λ b. cond b (Some 1) (one_more (line_with x s)) ≡ Some i → cond b (Some 1) (one_more (line_with x (s ++ t))) ≡ Some i) [
      | true ↦ λ e. e
      | false ↦ λ e. let o = one_more-some _ i e in rw (line_with-append_left x s t o.0 o.1) (ap Some (sym o.2))
    ]) e

pub line_with-append_right : (x : ℕ) (s t : List Line) (i : ℕ) → line_with x s ≡ None → line_with x t ≡ Some i → line_with x (s ++ t) ≡ Some (length s + i)
line_with-append_right x [] t i e h = h ∙ ap Some (omega arith)
line_with-append_right x (l ∷ s) t i e h =
    (elim (has_letter x l) as (λ b. cond b (Some 1) (one_more (line_with x s)) ≡ None → line_with x t ≡ Some i → cond b (Some 1) (one_more (line_with x (s ++ t))) ≡ Some (suc (length s) + i)) [
      | true ↦ λ e h. cc
      | false ↦ λ e h. rw (line_with-append_right x s t i (one_more-none _ e) h) (ap Some (omega arith))
    ]) e h

-- a letter before the replaced lines stays where it is
pub line_with-replaced_before : (x : ℕ) (ls new : List Line) (a b i : ℕ) → line_with x ls ≡ Some i → i < a → line_with x (replaced a b new ls) ≡ Some i
line_with-replaced_before x ls new a b i e h = line_with-append_left x (take (a - 1) ls) _ i (line_with-take x ls (a - 1) i e (omega arith))

-- a letter after them moves by the difference
pub line_with-replaced_after : (x : ℕ) (ls new : List Line) (a b i : ℕ) → line_with x ls ≡ Some i → line_with x new ≡ None → 1 ≤ a → a ≤ b → b < i → line_with x (replaced a b new ls) ≡ Some (i + length new - (b + 1 - a))
line_with-replaced_after x ls new a b i e n ha hab hb =
    let r = line_with-range x ls i e in
    let t : length (take (a - 1) ls) ≡ a - 1 = length-take-le (a - 1) ls (omega arith) in
    line_with-append_right x (take (a - 1) ls) _ _ (line_with-take_before x ls (a - 1) i e (omega arith))
    (line_with-append_right x new _ _ n (line_with-drop x ls b i e hb))
    ∙ ap Some (omega arith)

pub length-replaced : (ls new : List Line) (a b : ℕ) → 1 ≤ a → a ≤ b → b ≤ length ls → length (replaced a b new ls) ≡ length ls + length new - (b + 1 - a)
length-replaced ls new a b ha hab hb = grind (arith, length-take-le, length-append, length-drop)

-- the same as the landed place, counted from 1
from-shifted : (p : Line → Bool) (i : ℕ) (ls : List Line) → position_from p (i + 1) ls ≡ one_more (position_from p i ls)
from-shifted p i [] = refl
from-shifted p i (l ∷ ls) =
    elim (p l) as (λ b. cond b (Some (i + 1)) (position_from p (i + 1 + 1) ls) ≡ one_more (cond b (Some i) (position_from p (i + 1) ls))) [
      | true ↦ refl
      | false ↦ from-shifted p (i + 1) ls
    ]

from-line : (x : ℕ) (ls : List Line) → one_more (position_from (has_letter x) 0 ls) ≡ line_with x ls
from-line x [] = refl
from-line x (l ∷ ls) =
    elim (has_letter x l) as (λ b. one_more (cond b (Some 0) (position_from (has_letter x) (0 + 1) ls)) ≡ cond b (Some 1) (one_more (line_with x ls))) [
      | true ↦ refl
      | false ↦ ap one_more (from-shifted (has_letter x) 0 ls ∙ from-line x ls)
    ]

place-from : (x : ℕ) (ls : List Line) → marked_place x ls ≡ position_from (has_letter x) 0 ls
place-from x ls = position_from-zero (has_letter x) ls

pub line_with-place : (x : ℕ) (ls : List Line) (i : ℕ) → marked_place x ls ≡ Some i → line_with x ls ≡ Some (i + 1)
line_with-place x ls i e = sym (from-line x ls) ∙ ap one_more (sym (place-from x ls) ∙ e)

pub place-line_with : (x : ℕ) (ls : List Line) (i : ℕ) → line_with x ls ≡ Some i → marked_place x ls ≡ Some (i - 1)
place-line_with x ls i e =
    let o = one_more-some (position_from (has_letter x) 0 ls) i (from-line x ls ∙ e) in
    place-from x ls ∙ o.1 ∙ ap Some (omega arith)

-- plain lines have no letters
pub no_letter : (n x : ℕ) → get_or (replicate n false) x false ≡ false
no_letter zero x = refl
no_letter (suc n) zero = refl
no_letter (suc n) (suc x) = no_letter n x

pub line_with-plain : (x : ℕ) (texts : List (List ℕ)) → line_with x (map plain_line texts) ≡ None
line_with-plain x [] = refl
line_with-plain x (t ∷ texts) = rw (no_letter 26 x) (ap one_more (line_with-plain x texts))

-- lines after line a
pub line_with-inserted_before : (x : ℕ) (ls new : List Line) (a i : ℕ) → line_with x ls ≡ Some i → i ≤ a → line_with x (inserted a new ls) ≡ Some i
line_with-inserted_before x ls new a i e h = line_with-append_left x (take a ls) _ i (line_with-take x ls a i e h)

pub line_with-inserted_after : (x : ℕ) (ls new : List Line) (a i : ℕ) → line_with x ls ≡ Some i → line_with x new ≡ None → a < i →
    line_with x (inserted a new ls) ≡ Some (i + length new)
line_with-inserted_after x ls new a i e n h =
    let r = line_with-range x ls i e in
    let t : length (take a ls) ≡ a = length-take-le a ls (omega arith) in
    line_with-append_right x (take a ls) _ _ (line_with-take_before x ls a i e h)
    (line_with-append_right x new _ _ n (line_with-drop x ls a i e h))
    ∙ ap Some (omega arith)

pub length-inserted : (ls new : List Line) (a : ℕ) → a ≤ length ls → length (inserted a new ls) ≡ length ls + length new
length-inserted ls new a h = grind (arith, length-take-le, length-append, length-drop)

-- a letter that is taken from all lines, and the others
pub set-off : (letters : List Bool) (x : ℕ) → get_or (set letters x false) x false ≡ false
set-off letters x = elim (cases_lt x (length letters)) [
  | inl h ↦ get_or-set_same letters x false false h
  | inr h ↦ get_or_past (set letters x false) x false (omega (arith, length-set letters x false))
]

line_with-taken : (x : ℕ) (ls : List Line) → line_with x (map (with_letter x false) ls) ≡ None
line_with-taken x [] = refl
line_with-taken x (l ∷ ls) = rw (set-off l.letters x) (ap one_more (line_with-taken x ls))

line_with-others : (x y : ℕ) (ls : List Line) → y ≢ x → line_with y (map (with_letter x false) ls) ≡ line_with y ls
line_with-others x y [] n = refl
line_with-others x y (l ∷ ls) n = rw (get_or-set_other l.letters x y false false n, line_with-others x y ls n) refl

line_with-set : (x : ℕ) (ls : List Line) (place : ℕ) (l : Line) → line_with x ls ≡ None → place < length ls → has_letter x l ≡ true → line_with x (set ls place l) ≡ Some (place + 1)
line_with-set x [] place l n h e = absurd (omega arith)
line_with-set x (k ∷ ls) zero l n h e = rw e refl
line_with-set x (k ∷ ls) (suc place) l n h e =
    (elim (has_letter x k) as (λ b. cond b (Some 1) (one_more (line_with x ls)) ≡ None → cond b (Some 1) (one_more (line_with x (set ls place l))) ≡ Some (suc place + 1)) [
      | true ↦ λ n. cc
      | false ↦ λ n. rw (line_with-set x ls place l (one_more-none (line_with x ls) n) (omega arith) e) (ap Some (omega arith))
    ]) n

line_with-set_other : (y : ℕ) (ls : List Line) (place : ℕ) (l d : Line) → has_letter y l ≡ has_letter y (get_or ls place d) → line_with y (set ls place l) ≡ line_with y ls
line_with-set_other y [] place l d e = refl
line_with-set_other y (k ∷ ls) zero l d e = rw e refl
line_with-set_other y (k ∷ ls) (suc place) l d e = rw (line_with-set_other y ls place l d e) refl

pub line_with-marked : (x : ℕ) (ls : List Line) (place : ℕ) → x < 26 → place < length ls → KnowLetters ls → line_with x (marked_at place x ls) ≡ Some (place + 1)
line_with-marked x ls place hx inside h =
    let P = λ (line : Line). length line.letters ≡ 26 in
    let others : List Line = map (with_letter x false) ls in
    let o : KnowLetters others = All-map P (with_letter x false) ls (All-weaker P (λ (line : Line). P (with_letter x false line)) (λ (line : Line) (q : P line). length-set line.letters x false ∙ q) ls h) in
    let size : length others ≡ length ls = length-map ls (with_letter x false) in
    let one : P (get_or others place (plain_line [])) = All-get_or P others place (plain_line []) (omega arith) o in
    line_with-set x others place (with_letter x true (get_or others place (plain_line []))) (line_with-taken x ls) (omega arith)
    (get_or-set_same (get_or others place (plain_line [])).letters x true false (omega arith))

pub line_with-marked_other : (x y : ℕ) (ls : List Line) (place : ℕ) → y ≢ x → line_with y (marked_at place x ls) ≡ line_with y ls
line_with-marked_other x y ls place n =
    let others : List Line = map (with_letter x false) ls in
    line_with-set_other y others place (with_letter x true (get_or others place (plain_line []))) (plain_line []) (get_or-set_other (get_or others place (plain_line [])).letters x y true false n)
    ∙ line_with-others x y ls n

pub length-marked : (x : ℕ) (ls : List Line) (place : ℕ) → length (marked_at place x ls) ≡ length ls
length-marked x ls place = length-set (map (with_letter x false) ls) place _ ∙ length-map ls (with_letter x false)
