-- What the commands make of lines in which each letter marks at most one line.
use Rattle.std.proofs.Common.{◌≡◌, ℕ, ◌+◌, ◌≤◌, List, [], ◌∷◌, ◌++◌, map, take, drop, length, Option, Some, None, sym, ap, ◌∙◌, arith}
use Rattle.std.specs.Prelude.{false, count_by, slice_index_or}
use Rattle.std.proofs.lemmas.List.Elements.{All-nil, All-cons, All-head, All-tail, All-append, All-take, All-drop}
use Rattle.ed_base.specs.Buffer.{Line, plain_line, has_letter, marked_at, KnowLetters}
use Rattle.ed_base.specs.Parts.{block, exchanged, carried}
use Rattle.ed_base.proofs.Letters.{once-counts, counts-once, plain-known, plain-uncounted, marked_at-once, marked_at-known}
use Rattle.ed_syntax.specs.meaning.CommandLaws.{WellMarked}
use Rattle.ed_syntax.specs.meaning.SubstitutedLines.{Results, onto, each}
use Rattle.ed_syntax.proofs.meaning.CountLemmas.{counted-exchanged, counted-each, counted-mapped}

-- how many of these lines a letter marks
abbrev marked_by : ℕ → List Line → ℕ
marked_by letter lines = count_by (has_letter letter) lines

marked_by-exchanged : (letter a b : ℕ) (new xs : List Line) → a ≤ b → marked_by letter (exchanged a b new xs) + marked_by letter (block a b xs) ≡ marked_by letter xs + marked_by letter new
marked_by-exchanged letter = counted-exchanged (has_letter letter)

-- of a line it is known of each letter whether it marks it
abbrev Knows : Line → Type 0
Knows line = length line.letters ≡ 26

known-exchanged : (a b : ℕ) (new xs : List Line) → KnowLetters new → KnowLetters xs → KnowLetters (exchanged a b new xs)
known-exchanged a b new xs n h = All-append Knows (take a xs) (new ++ drop b xs) (All-take Knows a xs h) (All-append Knows new (drop b xs) n (All-drop Knows b xs h))

few : {lines : List Line} → WellMarked lines → (letter : ℕ) → marked_by letter lines ≤ 1
few {lines} marked = once-counts lines marked.once

pub well-exchanged : (a b : ℕ) (texts : List (List ℕ)) (xs : List Line) → a ≤ b → WellMarked xs → WellMarked (exchanged a b (map plain_line texts) xs)
well-exchanged a b texts xs h marked = record {
  known = known-exchanged a b (map plain_line texts) xs (plain-known texts) marked.known;
  once = counts-once (exchanged a b (map plain_line texts) xs) (λ letter. omega (arith, marked_by-exchanged letter a b (map plain_line texts) xs h, plain-uncounted texts letter, few marked letter));
}

pub well-plain : (texts : List (List ℕ)) → WellMarked (map plain_line texts)
well-plain texts = record { known = plain-known texts; once = counts-once (map plain_line texts) (λ letter. omega (arith, plain-uncounted texts letter)) }

pub well-carried : (a b place : ℕ) (xs : List Line) → a ≤ b → WellMarked xs → WellMarked (carried a b place xs)
well-carried a b place xs h marked =
    let left = exchanged a b [] xs in
    let none : (letter : ℕ) → ◌≡◌ {A = ℕ} (marked_by letter []) 0 = plain-uncounted [] in
    record {
      known = known-exchanged place place (block a b xs) left (All-drop Knows a (take b xs) (All-take Knows b xs marked.known)) (known-exchanged a b [] xs (plain-known []) marked.known);
      once = counts-once (carried a b place xs) (λ letter. omega (arith, marked_by-exchanged letter place place (block a b xs) left (omega arith), marked_by-exchanged letter a b [] xs h, none letter, few marked letter));
    }

pub well-marked_at : (place letter : ℕ) (xs : List Line) → WellMarked xs → WellMarked (marked_at place letter xs)
well-marked_at place letter xs marked = record { known = marked_at-known place letter xs marked.known; once = marked_at-once place letter xs marked.once }

-- what results of lines by a substitution: no letter marks more of them, and all letters are known
marked_by-each : (letter : ℕ) (f : List ℕ → Option (List (List ℕ))) (lines : List Line) → marked_by letter (each f lines).0 ≤ marked_by letter lines
marked_by-each letter = counted-each (has_letter letter) (λ texts. plain-uncounted texts letter)

known-onto : (line : Line) (made : Option (List (List ℕ))) (later : Results) → Knows line → KnowLetters later.0 → KnowLetters (onto line made later).0
known-onto line None later one others = All-cons Knows line later.0 one others
known-onto line (Some texts) later one others = All-append Knows (map plain_line texts) later.0 (plain-known texts) others

known-each : (f : List ℕ → Option (List (List ℕ))) (lines : List Line) → KnowLetters lines → KnowLetters (each f lines).0
known-each f [] all = All-nil Knows
known-each f (line ∷ lines) all = known-onto line (f line.bytes) (each f lines) (All-head Knows line lines all) (known-each f lines (All-tail Knows line lines all))

pub well-substituted : (a b : ℕ) (f : List ℕ → Option (List (List ℕ))) (xs : List Line) → a ≤ b → WellMarked xs → WellMarked (exchanged a b (each f (block a b xs)).0 xs)
well-substituted a b f xs h marked =
    let new = (each f (block a b xs)).0 in
    record {
      known = known-exchanged a b new xs (known-each f (block a b xs) (All-drop Knows a (take b xs) (All-take Knows b xs marked.known))) marked.known;
      once = counts-once (exchanged a b new xs) (λ letter. omega (arith, marked_by-exchanged letter a b new xs h, marked_by-each letter f (block a b xs), few marked letter));
    }

-- lines that are changed, but not in their letters
abbrev pub KeepsLetters : (Line → Line) → Type 0
KeepsLetters f = (line : Line) → (f line).letters ≡ line.letters

known-mapped : (f : Line → Line) → KeepsLetters f → (xs : List Line) → KnowLetters xs → KnowLetters (map f xs)
known-mapped f same [] all = All-nil Knows
known-mapped f same (line ∷ lines) all =
    All-cons Knows (f line) (map f lines) (ap length (same line) ∙ All-head Knows line lines all) (known-mapped f same lines (All-tail Knows line lines all))

marked_by-mapped : (letter : ℕ) (f : Line → Line) → KeepsLetters f → (xs : List Line) → marked_by letter (map f xs) ≡ marked_by letter xs
marked_by-mapped letter f same = counted-mapped (has_letter letter) f (λ line. ap (λ letters. slice_index_or letters letter false) (same line))

pub well-mapped : (f : Line → Line) → KeepsLetters f → (xs : List Line) → WellMarked xs → WellMarked (map f xs)
well-mapped f same xs marked = record {
  known = known-mapped f same xs marked.known;
  once = counts-once (map f xs) (λ letter. omega (arith, marked_by-mapped letter f same xs, few marked letter));
}

-- and they are as well marked where the changed ones are
known-unmapped : (f : Line → Line) → KeepsLetters f → (xs : List Line) → KnowLetters (map f xs) → KnowLetters xs
known-unmapped f same [] all = All-nil Knows
known-unmapped f same (line ∷ lines) all =
    All-cons Knows line lines (sym (ap length (same line)) ∙ All-head Knows (f line) (map f lines) all)
    (known-unmapped f same lines (All-tail Knows (f line) (map f lines) all))

pub well-unmapped : (f : Line → Line) → KeepsLetters f → (xs : List Line) → WellMarked (map f xs) → WellMarked xs
well-unmapped f same xs marked = record {
  known = known-unmapped f same xs marked.known;
  once = counts-once xs (λ letter. omega (arith, marked_by-mapped letter f same xs, few marked letter));
}

pub well-mapped_block : (a b : ℕ) (f : Line → Line) → KeepsLetters f → (xs : List Line) → a ≤ b → WellMarked xs → WellMarked (exchanged a b (map f (block a b xs)) xs)
well-mapped_block a b f same xs h marked =
    let new = map f (block a b xs) in
    record {
      known = known-exchanged a b new xs (known-mapped f same (block a b xs) (All-drop Knows a (take b xs) (All-take Knows b xs marked.known))) marked.known;
      once = counts-once (exchanged a b new xs) (λ letter. omega (arith, marked_by-exchanged letter a b new xs h, marked_by-mapped letter f same (block a b xs), few marked letter));
    }
