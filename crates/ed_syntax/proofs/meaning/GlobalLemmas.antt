-- What the commands leave of the flags of lines.
use Rattle.std.proofs.Common.{◌≡◌, ℕ, ◌+◌, ◌≤◌, true, false, List, [], ◌∷◌, map, get_or, Option, refl, ◌∙◌, arith}
use Rattle.std.specs.Prelude.{count_by}
use Rattle.ed_base.specs.Buffer.{Line, plain_line, with_letter, marked_at}
use Rattle.ed_base.specs.Parts.{block, exchanged, carried}
use Rattle.ed_syntax.specs.meaning.SubstitutedLines.{each}
use Rattle.ed_syntax.proofs.meaning.CountLemmas.{counts, counted-cons, counted-exchanged, counted-each, counted-mapped, counted-set}

-- how many of these lines have the flag
abbrev pub flagged_of : List Line → ℕ
flagged_of lines = count_by (λ line. line.flag) lines

-- a plain line has none
plain-unflagged : (texts : List (List ℕ)) → flagged_of (map plain_line texts) ≡ 0
plain-unflagged [] = refl
plain-unflagged (text ∷ texts) =
    let here : counts (λ line. line.flag) (plain_line text) ≡ 0 = refl in
    omega (arith, here, counted-cons (λ line. line.flag) (plain_line text) (map plain_line texts), plain-unflagged texts)

flags-exchanged : (a b : ℕ) (new xs : List Line) → a ≤ b → flagged_of (exchanged a b new xs) + flagged_of (block a b xs) ≡ flagged_of xs + flagged_of new
flags-exchanged = counted-exchanged (λ line. line.flag)

pub fewer-exchanged : (a b : ℕ) (texts : List (List ℕ)) (xs : List Line) → a ≤ b → flagged_of (exchanged a b (map plain_line texts) xs) ≤ flagged_of xs
fewer-exchanged a b texts xs h = omega (arith, flags-exchanged a b (map plain_line texts) xs h, plain-unflagged texts)

pub fewer-carried : (a b place : ℕ) (xs : List Line) → a ≤ b → flagged_of (carried a b place xs) ≤ flagged_of xs
fewer-carried a b place xs h =
    let left = exchanged a b [] xs in
    let none : flagged_of [] ≡ 0 = refl in
    omega (arith, flags-exchanged place place (block a b xs) left (omega arith), flags-exchanged a b [] xs h, none)

pub fewer-substituted : (a b : ℕ) (f : List ℕ → Option (List (List ℕ))) (xs : List Line) → a ≤ b → flagged_of (exchanged a b (each f (block a b xs)).0 xs) ≤ flagged_of xs
fewer-substituted a b f xs h =
    omega (arith, flags-exchanged a b (each f (block a b xs)).0 xs h, counted-each (λ line. line.flag) plain-unflagged f (block a b xs))

pub same-marked_at : (place letter : ℕ) (xs : List Line) → flagged_of (marked_at place letter xs) ≡ flagged_of xs
same-marked_at place letter xs =
    let others = map (with_letter letter false) xs in
    counted-set (λ line. line.flag) others place (with_letter letter true (get_or others place (plain_line []))) (plain_line []) refl
    ∙ counted-mapped (λ line. line.flag) (with_letter letter false) (λ line. refl) xs
