-- Lines that have just the letters whose places are given: a letter marks one of them at most.
use Rattle.std.proofs.Common.{◌≡◌, ℕ, zero, suc, ◌+◌, ◌<◌, ◌≤◌, List, [], ◌∷◌, true, false, replicate, get_or, Option, Some, None, refl, ap, ◌∙◌, sym, arith, eqb-true, ⊎_elim}
use Rattle.std.proofs.lemmas.Bool.{cases_lt}
use Rattle.std.proofs.lemmas.List.{get_or_past}
use Rattle.std.proofs.lemmas.List.FromFn.{length-map-range_with_len, get_or-map-range_with_len}
use Rattle.ed_base.specs.Buffer.{Line, plain_line, has_letter, AtMostOnce, KnowLetters}
use Rattle.line_store.specs.Marks.{is_at, letters_at, lettered}

-- a place is the one where it is
pub at_some : (place : ℕ) (o : Option ℕ) → is_at place o ≡ true → o ≡ Some place
at_some place None h = cc
at_some place (Some other) h = ap (λ n. Some n) (eqb-true other place h)

-- one of the letters at a place
pub letter-there : (place letter : ℕ) (marks : List (Option ℕ)) → letter < 26 →
    get_or (letters_at place marks) letter false ≡ is_at place (get_or marks letter None)
letter-there place letter marks h =
    get_or-map-range_with_len (λ k. is_at place (get_or marks k None)) 0 26 letter letter false h (omega arith)

-- what is no letter marks no place
pub no_letter-there : (place letter : ℕ) (marks : List (Option ℕ)) → 26 ≤ letter → get_or (letters_at place marks) letter false ≡ false
no_letter-there place letter marks h =
    get_or_past (letters_at place marks) letter false
    (omega (arith, length-map-range_with_len (λ k. is_at place (get_or marks k None)) 0 26))

-- a letter that marks a place is there
pub marks-there : (place letter : ℕ) (marks : List (Option ℕ)) → get_or (letters_at place marks) letter false ≡ true →
    get_or marks letter None ≡ Some place
marks-there place letter marks h = ⊎_elim
    (λ l. at_some place (get_or marks letter None) (sym (letter-there place letter marks l) ∙ h))
    (λ l. let e : false ≡ true = sym (no_letter-there place letter marks l) ∙ h in cc)
    (cases_lt letter 26)

-- no letter marks a line without letters
pub none_marked : (n letter : ℕ) → get_or (replicate n false) letter false ≡ false
none_marked zero letter = refl
none_marked (suc n) zero = refl
none_marked (suc n) (suc letter) = none_marked n letter

-- the place of a line that a letter marks
pub marked-there : (marks : List (Option ℕ)) (place letter i j : ℕ) (lines : List Line) → place + i ≡ j →
    has_letter letter (get_or (lettered marks place lines) i (plain_line [])) ≡ true → get_or marks letter None ≡ Some j
marked-there marks place letter i j [] e h = let f : false ≡ true = sym (none_marked 26 letter) ∙ h in cc
marked-there marks place letter zero j (line ∷ lines) e h = marks-there place letter marks h ∙ ap (λ n. Some n) (let f : place ≡ j = omega arith in f)
marked-there marks place letter (suc i) j (line ∷ lines) e h = marked-there marks (suc place) letter i j lines (omega arith) h

pub some_same : (i j : ℕ) → ◌≡◌ {A = Option ℕ} (Some i) (Some j) → i ≡ j
some_same i j h = cc

-- a letter marks one of the lines at most
pub lettered-once : (marks : List (Option ℕ)) (lines : List Line) → AtMostOnce (lettered marks 0 lines)
lettered-once marks lines letter i j h k =
    some_same i j (sym (marked-there marks 0 letter i i lines (omega arith) h) ∙ marked-there marks 0 letter j j lines (omega arith) k)

-- and of each it is known whether it marks it
pub lettered-known : (marks : List (Option ℕ)) (place : ℕ) (lines : List Line) → KnowLetters (lettered marks place lines)
lettered-known marks place [] k d h = absurd (omega arith)
lettered-known marks place (line ∷ lines) zero d h = length-map-range_with_len (λ l. is_at place (get_or marks l None)) 0 26
lettered-known marks place (line ∷ lines) (suc k) d h = lettered-known marks (suc place) lines k d (omega arith)
