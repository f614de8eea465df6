-- A line that a substitution leaves as it is keeps its letters: it goes down by the lines that splits make above it.
use Rattle.std.proofs.Common.{◌≡◌, ◌<◌, ◌≤◌, ℕ, zero, suc, ◌+◌, ◌-◌, Bool, true, false, cond, List, [], ◌∷◌, ◌++◌, map, take, drop, length, get_or, All, Option, None, Some, arith, refl, sym, ap, subst, ◌∙◌}
use Rattle.std.proofs.lemmas.List.{length-map, length-take-le, get_or-take, get_or-drop}
use Rattle.std.proofs.lemmas.List.Elements.{All-head, All-tail}
use Rattle.ed_base.specs.Buffer.{Line, plain_line, has_letter}
use Rattle.ed_base.specs.Parts.{between, replaced}
use Rattle.ed_syntax.specs.meaning.SubstitutedLines.{onto, each}
use Rattle.ed_rules.proofs.sound.LettersInLines.{line_with, one_more, one_more-some, line_with-range, line_with-take, line_with-take_before, line_with-drop, line_with-append_left, line_with-append_right, line_with-plain}
use Rattle.ed_rules.proofs.sound.Results.{Maker}

-- the line with a letter, which is as it was: at least as far down, and in its place where one line comes of each
module _ (f : Maker) (some : (line : List ℕ) (ts : List (List ℕ)) → f line ≡ Some ts → 1 ≤ length ts) where
  abbrev pub MakesOne : Line → Type 0
  MakesOne line = (ts : List (List ℕ)) → f line.bytes ≡ Some ts → length ts ≡ 1

  pub record Spared (x i : ℕ) (ls made : List Line) : Type 0 where
    pub place : ℕ
    pub there : line_with x made ≡ Some place
    pub low : i ≤ place
    pub same : All MakesOne ls → place ≡ i

  first-spared : (x i : ℕ) (l : Line) (ls : List Line) → has_letter x l ≡ true → i ≡ 1 → f l.bytes ≡ None → Spared x i (l ∷ ls) (each f (l ∷ ls)).0
  first-spared x i l ls h one none =
      subst (λ (o : Option (List (List ℕ))). Spared x i (l ∷ ls) (onto l o (each f ls)).0) (sym none)
      (record { place = 1; there = rw h refl; low = omega arith; same = λ _. sym one })

  later-spared : (x j : ℕ) (l : Line) (ls : List Line) → has_letter x l ≡ false → Spared x j ls (each f ls).0 → (o : Option (List (List ℕ))) → f l.bytes ≡ o →
      Spared x (j + 1) (l ∷ ls) (onto l o (each f ls)).0
  later-spared x j l ls h later None is = record {
    place = later.place + 1;
    there = rw (h, later.there) refl;
    low = let low = later.low in omega arith;
    same = λ all. let same = later.same (All-tail MakesOne l ls all) in omega arith;
  }
  later-spared x j l ls h later (Some ts) is =
      let size : length (map plain_line ts) ≡ length ts = length-map ts plain_line in
      let least = some l.bytes ts is in
      record {
        place = length (map plain_line ts) + later.place;
        there = line_with-append_right x (map plain_line ts) (each f ls).0 later.place (line_with-plain x ts) later.there;
        low = let low = later.low in omega arith;
        same = λ all.
            let one : length ts ≡ 1 = All-head MakesOne l ls all ts is in
            let same = later.same (All-tail MakesOne l ls all) in omega arith;
      }

  pub results-spared : (x i : ℕ) (ls : List Line) → line_with x ls ≡ Some i → f (get_or ls (i - 1) (plain_line [])).bytes ≡ None → Spared x i ls (each f ls).0
  results-spared x i [] e none = absurd cc
  results-spared x i (l ∷ ls) e none =
      (elim (has_letter x l) as (λ b. has_letter x l ≡ b → cond b (Some 1) (one_more (line_with x ls)) ≡ Some i → Spared x i (l ∷ ls) (each f (l ∷ ls)).0) [
        | true ↦ λ h k.
            let one : i ≡ 1 = cc in
            let at : i - 1 ≡ 0 = omega arith in
            first-spared x i l ls h one (subst (λ (n : ℕ). f (get_or (l ∷ ls) n (plain_line [])).bytes ≡ None) at none)
        | false ↦ λ h k.
            let o = one_more-some (line_with x ls) i k in
            let range = line_with-range x ls o.0 o.1 in
            let is = o.2 in
            let at : i - 1 ≡ suc (o.0 - 1) = omega arith in
            let later = results-spared x o.0 ls o.1 (subst (λ (n : ℕ). f (get_or (l ∷ ls) n (plain_line [])).bytes ≡ None) at none) in
            subst (λ (n : ℕ). Spared x n (l ∷ ls) (each f (l ∷ ls)).0) (sym is) (later-spared x o.0 l ls h later (f l.bytes) refl)
      ]) refl e

-- A LINE AMONG OTHERS

pub line_with-between : (x : ℕ) (ls : List Line) (a b i : ℕ) → line_with x ls ≡ Some i → 1 ≤ a → a ≤ i → i ≤ b → line_with x (between a b ls) ≡ Some (i - (a - 1))
line_with-between x ls a b i e from low high = line_with-drop x (take b ls) (a - 1) i (line_with-take x ls b i e high) (omega arith)

pub at-between : (ls : List Line) (a b i : ℕ) → 1 ≤ a → a ≤ i → i ≤ b →
    get_or (between a b ls) (i - (a - 1) - 1) (plain_line []) ≡ get_or ls (i - 1) (plain_line [])
at-between ls a b i from low high =
    get_or-drop (a - 1) (take b ls) (i - (a - 1) - 1) (plain_line []) ∙ get_or-take b ls (a - 1 + (i - (a - 1) - 1)) (plain_line []) (omega arith)
    ∙ ap (λ (n : ℕ). get_or ls n (plain_line [])) (omega arith)

pub line_with-replaced_within : (x : ℕ) (ls new : List Line) (a b i j : ℕ) → line_with x ls ≡ Some i → 1 ≤ a → a ≤ i → line_with x new ≡ Some j →
    line_with x (replaced a b new ls) ≡ Some (a - 1 + j)
line_with-replaced_within x ls new a b i j e from low there =
    let range = line_with-range x ls i e in
    let size : length (take (a - 1) ls) ≡ a - 1 = length-take-le (a - 1) ls (omega arith) in
    line_with-append_right x (take (a - 1) ls) (new ++ drop b ls) j (line_with-take_before x ls (a - 1) i e (omega arith)) (line_with-append_left x new (drop b ls) j there)
    ∙ ap Some (omega arith)
