-- How many lines pass a test, where lines are exchanged, mapped or substituted.
use Rattle.std.proofs.Common.{◌≡◌, ℕ, zero, suc, ◌+◌, ◌≤◌, Bool, cond, List, [], ◌∷◌, ◌++◌, map, take, drop, get_or, set, Option, Some, None, refl, sym, ap, ◌∙◌, arith}
use Rattle.std.specs.Prelude.{count_by}
use Rattle.std.proofs.lemmas.List.Sums.{sum_by-append, sum_by-cons}
use Rattle.ed_base.specs.Buffer.{Line, plain_line}
use Rattle.ed_base.specs.Parts.{block, exchanged}
use Rattle.ed_base.proofs.PartLemmas.{whole}
use Rattle.ed_syntax.specs.meaning.SubstitutedLines.{Results, onto, each}

-- what a line counts
abbrev pub counts : (Line → Bool) → Line → ℕ
counts test line = cond (test line) 1 0

pub counted-cons : (test : Line → Bool) (line : Line) (lines : List Line) → count_by test (line ∷ lines) ≡ counts test line + count_by test lines
counted-cons test line lines = sum_by-cons (counts test) line lines

pub counted-append : (test : Line → Bool) (xs ys : List Line) → count_by test (xs ++ ys) ≡ count_by test xs + count_by test ys
counted-append test = sum_by-append (counts test)

counted-whole : (test : Line → Bool) (a b : ℕ) (xs : List Line) → a ≤ b → count_by test (take a xs) + (count_by test (block a b xs) + count_by test (drop b xs)) ≡ count_by test xs
counted-whole test a b xs h =
    ap (λ n. count_by test (take a xs) + n) (sym (counted-append test (block a b xs) (drop b xs)))
    ∙ sym (counted-append test (take a xs) (block a b xs ++ drop b xs))
    ∙ ap (count_by test) (whole a b xs h)

pub counted-exchanged : (test : Line → Bool) (a b : ℕ) (new xs : List Line) → a ≤ b →
    count_by test (exchanged a b new xs) + count_by test (block a b xs) ≡ count_by test xs + count_by test new
counted-exchanged test a b new xs h =
    omega (arith, counted-whole test a b xs h, counted-append test (take a xs) (new ++ drop b xs), counted-append test new (drop b xs))

-- lines that are changed in something else count as many
pub counted-mapped : (test : Line → Bool) (f : Line → Line) → ((line : Line) → test (f line) ≡ test line) → (xs : List Line) → count_by test (map f xs) ≡ count_by test xs
counted-mapped test f same [] = refl
counted-mapped test f same (line ∷ lines) =
    let here : counts test (f line) ≡ counts test line = ap (λ b. cond b 1 0) (same line) in
    omega (arith, here, counted-mapped test f same lines, counted-cons test (f line) (map f lines), counted-cons test line lines)

pub counted-set : (test : Line → Bool) (xs : List Line) (i : ℕ) (new d : Line) → test new ≡ test (get_or xs i d) → count_by test (set xs i new) ≡ count_by test xs
counted-set test [] i new d same = refl
counted-set test (line ∷ lines) zero new d same =
    let here : counts test new ≡ counts test line = ap (λ b. cond b 1 0) same in
    omega (arith, here, counted-cons test new lines, counted-cons test line lines)
counted-set test (line ∷ lines) (suc i) new d same =
    omega (arith, counted-set test lines i new d same, counted-cons test line (set lines i new), counted-cons test line lines)

-- no plain line passes the test
abbrev pub NonePlain : (Line → Bool) → Type 0
NonePlain test = (texts : List (List ℕ)) → count_by test (map plain_line texts) ≡ 0

-- then no more lines pass it where plain ones come in place of some
counted-onto : (test : Line → Bool) → NonePlain test → (line : Line) (made : Option (List (List ℕ))) (later : Results) (lines : List Line) → count_by test later.0 ≤ count_by test lines →
    count_by test (onto line made later).0 ≤ count_by test (line ∷ lines)
counted-onto test none line None later lines fewer = omega (arith, fewer, counted-cons test line later.0, counted-cons test line lines)
counted-onto test none line (Some texts) later lines fewer =
    omega (arith, fewer, counted-append test (map plain_line texts) later.0, none texts, counted-cons test line lines)

pub counted-each : (test : Line → Bool) → NonePlain test → (f : List ℕ → Option (List (List ℕ))) (lines : List Line) → count_by test (each f lines).0 ≤ count_by test lines
counted-each test none f [] = omega arith
counted-each test none f (line ∷ lines) = counted-onto test none line (f line.bytes) (each f lines) lines (counted-each test none f lines)
