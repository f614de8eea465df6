-- What a substitution makes of lines: how many there are, which letters mark none, and where the last one that was made is.
use Rattle.std.proofs.Common.{◌≡◌, ◌≢◌, ◌≤◌, inl, inr, ℕ, suc, ◌+◌, ◌-◌, Bool, true, false, cond, ◌||◌, List, [], ◌∷◌, ◌++◌, map, take, drop, length, length-append, Option, None, Some, option_map, Ok, Err, arith, refl, sym, ◌∙◌, ap, subst, nat_le, All, IsSome, IsTrue}
use Rattle.std.specs.Prelude.{unwrap_or, slice_index_or}
use Rattle.std.specs.List.{list_any, flat_map}
use Rattle.std.proofs.lemmas.Bool.{eqb-true, eqb-false, le-leb, or_cases}
use Rattle.std.proofs.lemmas.List.{length-map}
use Rattle.std.proofs.lemmas.List.Concat.{flat_map-cons}
use Rattle.std.proofs.lemmas.List.Elements.{All-nil, All-cons, All-head, All-tail, All-append, All-take, All-drop}
use Rattle.bre_parse.specs.Tree.{Tree}
use Rattle.bre_parse.specs.Ways.{bytes_of}
use Rattle.bre_parse.specs.Match.{match_from}
use Rattle.bre_parse.specs.Grammar.{pattern}
use Rattle.bre_parse.specs.Always.{always}
use Rattle.bre_parse.proofs.AlwaysLaw.{pattern_matches}
use Rattle.ed_base.specs.Buffer.{Line, plain_line, has_letter}
use Rattle.ed_base.specs.Lines.{newline, IsLine}
use Rattle.ed_base.proofs.LineLemmas.{lines_of-whole, length-lines_of}
use Rattle.ed_syntax.specs.declared.replacement.Part.{Part}
use Rattle.ed_syntax.specs.declared.replacement.Part.TheVariants as part
use Rattle.ed_syntax.specs.declared.replacement.Which.{Which}
use Rattle.ed_syntax.specs.declared.replacement.Which.TheVariants as which
use Rattle.ed_syntax.specs.meaning.Substitution.{Found, is_empty, taken_first, taken_from, taken, picked, group_bytes, expanded, rewritten, replaced_in, split_at_newlines, substituted}
use Rattle.ed_syntax.specs.meaning.Values.{matches}
use Rattle.std.specs.Option.{is_some}
use Rattle.ed_syntax.specs.meaning.SubstitutedLines.{made_of, Results, onto, each}
use Rattle.ed_rules.specs.Addresses.{is_always}
use Rattle.ed_syntax.specs.meaning.CommandLaws.{AreWhole}
use Rattle.ed_rules.specs.StandsFor.{ends_line}
use Rattle.ed_rules.specs.Substituting.{takes_first}
use Rattle.ed_rules.proofs.sound.LettersInLines.{line_with, one_more, one_more-none, line_with-plain}

-- a byte that is no newline
abbrev IsOther : ℕ → Type 0
IsOther byte = byte ≢ newline

-- a line whose bytes are a line's
abbrev IsWhole : Line → Type 0
IsWhole line = IsLine line.bytes

-- what comes of a line, if anything does
abbrev pub Maker : Type 0
Maker = List ℕ → Option (List (List ℕ))

-- ANY WAY TO MAKE LINES OF A LINE

module _ (f : Maker) where
  -- a letter that marks none marks none of what comes of them
  none-after : (x : ℕ) (s t : List Line) → line_with x s ≡ None → line_with x t ≡ None → line_with x (s ++ t) ≡ None
  none-after x [] t e h = h
  none-after x (l ∷ s) t e h =
      (elim (has_letter x l) as (λ b. cond b (Some 1) (one_more (line_with x s)) ≡ None → cond b (Some 1) (one_more (line_with x (s ++ t))) ≡ None) [
        | true ↦ λ e. cc
        | false ↦ λ e. rw (none-after x s t (one_more-none _ e) h) refl
      ]) e

  none-onto : (x : ℕ) (line : Line) (o : Option (List (List ℕ))) (later : Results) → has_letter x line ≡ false → line_with x later.0 ≡ None → line_with x (onto line o later).0 ≡ None
  none-onto x line None later e h = rw (e, h) refl
  none-onto x line (Some texts) later e h = none-after x (map plain_line texts) later.0 (line_with-plain x texts) h

  not-first : (x : ℕ) (l : Line) (ls : List Line) → line_with x (l ∷ ls) ≡ None → (has_letter x l ≡ false) × (line_with x ls ≡ None)
  not-first x l ls e =
      (elim (has_letter x l) as (λ b. cond b (Some 1) (one_more (line_with x ls)) ≡ None → (b ≡ false) × (line_with x ls ≡ None)) [
        | true ↦ λ e. cc
        | false ↦ λ e. (refl, one_more-none _ e)
      ]) e

  pub results-none : (x : ℕ) (ls : List Line) → line_with x ls ≡ None → line_with x (each f ls).0 ≡ None
  results-none x [] h = h
  results-none x (line ∷ ls) h = let q = not-first x line ls h in none-onto x line (f line.bytes) (each f ls) q.0 (results-none x ls q.1)

  -- the last one that was made is one of them
  within-onto : (line : Line) (o : Option (List (List ℕ))) (later : Results) → ((ts : List (List ℕ)) → o ≡ Some ts → 1 ≤ length ts) →
      ((n : ℕ) → later.1 ≡ Some n → (1 ≤ n) × (n ≤ length later.0)) → (n : ℕ) → (onto line o later).1 ≡ Some n → (1 ≤ n) × (n ≤ length (onto line o later).0)
  within-onto line None (ls, None) some h n e = cc
  within-onto line None (ls, Some m) some h n e = let q = h m refl in let k : 1 + m ≡ n = cc in (omega arith, omega arith)
  within-onto line (Some ts) (ls, None) some h n e =
      let q = some ts refl in
      let k : length ts + 0 ≡ n = cc in
      let s : length (map plain_line ts) ≡ length ts = length-map ts plain_line in
      (omega arith, omega (arith, length-append (map plain_line ts) ls))
  within-onto line (Some ts) (ls, Some m) some h n e =
      let q = some ts refl in
      let r = h m refl in
      let k : length ts + m ≡ n = cc in
      let s : length (map plain_line ts) ≡ length ts = length-map ts plain_line in
      (omega arith, omega (arith, length-append (map plain_line ts) ls))

  module _ (some : (line : List ℕ) (ts : List (List ℕ)) → f line ≡ Some ts → 1 ≤ length ts) where
    pub results-within : (ls : List Line) (n : ℕ) → (each f ls).1 ≡ Some n → (1 ≤ n) × (n ≤ length (each f ls).0)
    results-within [] n e = cc
    results-within (line ∷ ls) n e = within-onto line (f line.bytes) (each f ls) (some line.bytes) (results-within ls) n e

    -- there are no fewer lines
    least-onto : (line : Line) (o : Option (List (List ℕ))) (later : Results) (count : ℕ) → ((ts : List (List ℕ)) → o ≡ Some ts → 1 ≤ length ts) → count ≤ length later.0 → suc count ≤ length (onto line o later).0
    least-onto line None later count h k = omega arith
    least-onto line (Some ts) later count h k =
        let q = h ts refl in
        let s : length (map plain_line ts) ≡ length ts = length-map ts plain_line in
        omega (arith, length-append (map plain_line ts) later.0)

    pub results-least : (ls : List Line) → length ls ≤ length (each f ls).0
    results-least [] = omega arith
    results-least (line ∷ ls) = least-onto line (f line.bytes) (each f ls) (length ls) (some line.bytes) (results-least ls)

  -- where one line comes of each, there are as many as before
  same-onto : (line : Line) (o : Option (List (List ℕ))) (later : Results) (count : ℕ) → ((ts : List (List ℕ)) → o ≡ Some ts → length ts ≡ 1) → length later.0 ≡ count → length (onto line o later).0 ≡ suc count
  same-onto line None later count h k = ap suc k
  same-onto line (Some ts) later count h k =
      let q = h ts refl in
      let s : length (map plain_line ts) ≡ length ts = length-map ts plain_line in
      omega (arith, length-append (map plain_line ts) later.0)

  pub results-same : ((line : List ℕ) (ts : List (List ℕ)) → IsLine line → f line ≡ Some ts → length ts ≡ 1) → (ls : List Line) → AreWhole ls → length (each f ls).0 ≡ length ls
  results-same one [] h = refl
  results-same one (line ∷ ls) h =
      same-onto line (f line.bytes) (each f ls) (length ls) (λ ts e. one line.bytes ts (All-head IsWhole line ls h) e) (results-same one ls (All-tail IsWhole line ls h))

  -- where something comes of each, the last of them all was made
  all-onto : (line : Line) (ts : List (List ℕ)) (later : Results) → unwrap_or later.1 0 ≡ length later.0 → (onto line (Some ts) later).1 ≡ Some (length (onto line (Some ts) later).0)
  all-onto line ts later h =
      let s : length (map plain_line ts) ≡ length ts = length-map ts plain_line in
      ap Some (omega (arith, length-append (map plain_line ts) later.0))

  -- something comes of a line
  abbrev pub IsMade : Line → Type 0
  IsMade line = (ts : List (List ℕ)) × (f line.bytes ≡ Some ts)

  results-unwrapped : (ls : List Line) → All IsMade ls → unwrap_or (each f ls).1 0 ≡ length (each f ls).0
  results-unwrapped [] makes = refl
  results-unwrapped (line ∷ ls) makes =
      let q : IsMade line = All-head IsMade line ls makes in
      subst (λ (o : Option (List (List ℕ))). unwrap_or (onto line o (each f ls)).1 0 ≡ length (onto line o (each f ls)).0) (sym q.1)
      (ap (λ (o : Option ℕ). unwrap_or o 0) (all-onto line q.0 (each f ls) (results-unwrapped ls (All-tail IsMade line ls makes))))

  pub results-all : (ls : List Line) → All IsMade ls → 1 ≤ length ls → (each f ls).1 ≡ Some (length (each f ls).0)
  results-all [] makes h = absurd (omega arith)
  results-all (line ∷ ls) makes h =
      let q : IsMade line = All-head IsMade line ls makes in
      subst (λ (o : Option (List (List ℕ))). (onto line o (each f ls)).1 ≡ Some (length (onto line o (each f ls)).0)) (sym q.1)
      (all-onto line q.0 (each f ls) (results-unwrapped ls (All-tail IsMade line ls makes)))

  -- where something comes of one line, some line was made
  some-onto : (line : Line) (o : Option (List (List ℕ))) (later : Results) (n : ℕ) → later.1 ≡ Some n →
      (m : ℕ) × ((onto line o later).1 ≡ Some m)
  some-onto line None (ls, Some n) n' e = (1 + n, refl)
  some-onto line None (ls, None) n e = absurd cc
  some-onto line (Some ts) later n e = (length ts + unwrap_or later.1 0, refl)

  made-onto : (line : Line) (o : Option (List (List ℕ))) (later : Results) (ts : List (List ℕ)) → o ≡ Some ts →
      (m : ℕ) × ((onto line o later).1 ≡ Some m)
  made-onto line None later ts e = absurd cc
  made-onto line (Some us) later ts e = (length us + unwrap_or later.1 0, refl)

  pub results-some : (p : List ℕ → Bool) → ((line : List ℕ) → p line ≡ true → (ts : List (List ℕ)) × (f line ≡ Some ts)) →
      (ls : List Line) → list_any (λ line. p line.bytes) ls ≡ true → (m : ℕ) × ((each f ls).1 ≡ Some m)
  results-some p makes [] h = absurd cc
  results-some p makes (line ∷ ls) h = elim (or_cases (p line.bytes) (list_any (λ line. p line.bytes) ls) h) [
    | inl e ↦ let q = makes line.bytes e in made-onto line (f line.bytes) (each f ls) q.0 q.1
    | inr e ↦ let q = results-some p makes ls e in some-onto line (f line.bytes) (each f ls) q.0 q.1
  ]

  pub made-each : ((line : List ℕ) → (ts : List (List ℕ)) × (f line ≡ Some ts)) → (ls : List Line) → All IsMade ls
  made-each makes [] = All-nil IsMade
  made-each makes (line ∷ ls) = All-cons IsMade line ls (makes line.bytes) (made-each makes ls)

-- SUBSTITUTION ON ONE LINE

-- what comes of a line is cut from a text in which some matches were replaced
from-replaced : (parts : List Part) (line : List ℕ) (ms : List Found) (ts : List (List ℕ)) → option_map split_at_newlines (replaced_in parts line ms) ≡ Some ts →
    (ns : List Found) × (split_at_newlines (rewritten parts line 0 ns) ≡ ts)
from-replaced parts line [] ts e = cc
from-replaced parts line (m ∷ ms) ts e = (m ∷ ms, cc)

-- and they are those that were picked
split-replaced : (parts : List Part) (line : List ℕ) (ms : List Found) (ts : List (List ℕ)) → option_map split_at_newlines (replaced_in parts line ms) ≡ Some ts →
    split_at_newlines (rewritten parts line 0 ms) ≡ ts
split-replaced parts line [] ts e = absurd cc
split-replaced parts line (m ∷ ms) ts e = cc

module _ (text : List ℕ) (parts : List Part) (choice : Which) where
  made-from : (line : List ℕ) (ts : List (List ℕ)) → made_of text parts choice line ≡ Some ts → (ns : List Found) × (split_at_newlines (rewritten parts line 0 ns) ≡ ts)
  made-from line ts =
      elim (pattern text) as (λ r. (elim r as (λ _. Option (List (List ℕ))) [ Ok tree ↦ substituted tree parts choice line | Err f ↦ None ]) ≡ Some ts → (ns : List Found) × (split_at_newlines (rewritten parts line 0 ns) ≡ ts)) [
        | Ok tree ↦ λ e. from-replaced parts line (picked choice (taken tree line)) ts e
        | Err f ↦ λ e. cc
      ]

  pub made-some : (line : List ℕ) (ts : List (List ℕ)) → made_of text parts choice line ≡ Some ts → 1 ≤ length ts
  made-some line ts e =
      let q = made-from line ts e in
      let l = length-lines_of (rewritten parts line 0 q.0) newline in
      subst (λ (l : List (List ℕ)). 1 ≤ length l) q.1 (omega arith)

  -- without a split
  module _ (still : list_any ends_line parts ≡ false) where
    bytes-line : (line : List ℕ) (span : ℕ × ℕ) → IsLine line → IsLine (bytes_of line span)
    bytes-line line span h = All-take IsOther (span.1 - span.0) (drop span.0 line) (All-drop IsOther span.0 line h)

    group-line : (line : List ℕ) (o : Option (ℕ × ℕ)) → IsLine line → IsLine (group_bytes line o)
    group-line line None h = All-nil IsOther
    group-line line (Some span) h = bytes-line line span h

    expanded-line : (line : List ℕ) (m : Found) (p : Part) → ends_line p ≡ false → IsLine line → IsLine (expanded line m p)
    expanded-line line m (part.Literal byte) e h = All-cons IsOther byte [] (eqb-false byte newline e) (All-nil IsOther)
    expanded-line line m part.Match e h = bytes-line line (m.0, m.1.0) h
    expanded-line line m (part.Group group) e h = group-line line (slice_index_or m.1.1 group None) h
    expanded-line line m part.Split e h = absurd cc

    none-of : (a b : Bool) → a || b ≡ false → (a ≡ false) × (b ≡ false)
    none-of true b e = absurd cc
    none-of false b e = (refl, e)

    parts-line : (line : List ℕ) (m : Found) (ps : List Part) → list_any ends_line ps ≡ false → IsLine line → IsLine (flat_map (expanded line m) ps)
    parts-line line m [] e h = All-nil IsOther
    parts-line line m (p ∷ ps) e h =
        let q = none-of (ends_line p) (list_any ends_line ps) e in
        subst (λ (l : List ℕ). IsLine l) (sym (flat_map-cons (expanded line m) p ps))
        (All-append IsOther (expanded line m p) (flat_map (expanded line m) ps) (expanded-line line m p q.0 h) (parts-line line m ps q.1 h))

    rewritten-line : (line : List ℕ) (from : ℕ) (ms : List Found) → IsLine line → IsLine (rewritten parts line from ms)
    rewritten-line line from [] h = All-drop IsOther from line h
    rewritten-line line from (m ∷ ms) h =
        All-append IsOther (bytes_of line (from, m.0)) (flat_map (expanded line m) parts ++ rewritten parts line m.1.0 ms) (bytes-line line (from, m.0) h)
        (All-append IsOther (flat_map (expanded line m) parts) (rewritten parts line m.1.0 ms) (parts-line line m parts still h) (rewritten-line line m.1.0 ms h))

    -- one line, in which the matches that are picked are replaced
    pub made-text : (line : List ℕ) (ts : List (List ℕ)) → IsLine line → made_of text parts choice line ≡ Some ts →
        (tree : Tree) × (pattern text ≡ Ok tree) × (ts ≡ rewritten parts line 0 (picked choice (taken tree line)) ∷ [])
    made-text line ts h =
        (elim (pattern text) as (λ r. pattern text ≡ r → (elim r as (λ _. Option (List (List ℕ))) [ Ok tree ↦ substituted tree parts choice line | Err f ↦ None ]) ≡ Some ts →
        (tree : Tree) × (pattern text ≡ Ok tree) × (ts ≡ rewritten parts line 0 (picked choice (taken tree line)) ∷ [])) [
          | Ok tree ↦ λ is e.
              let ms : List Found = picked choice (taken tree line) in
              (tree, is, sym (split-replaced parts line ms ts e) ∙ lines_of-whole (rewritten parts line 0 ms) [] (rewritten-line line 0 ms h))
          | Err f ↦ λ _ e. absurd cc
        ]) refl

    pub made-one : (line : List ℕ) (ts : List (List ℕ)) → IsLine line → made_of text parts choice line ≡ Some ts → length ts ≡ 1
    made-one line ts h e = ap length (made-text line ts h e).2

-- a pattern that always matches
first-taken : (again : ℕ → Bool → List Found) (o : Option Found) → IsSome o → (m : Found) × (ms : List Found) × (taken_first again 0 false o ≡ m ∷ ms)
first-taken again None h = absurd cc
first-taken again (Some m) h =
    elim (is_empty m) as (λ b. (k : Found) × (ks : List Found) × ((elim b as (λ _. List Found) [ false ↦ m ∷ again m.1.0 true | true ↦ m ∷ again (m.1.0 + 1) false ]) ≡ k ∷ ks)) [
      | false ↦ (m, again m.1.0 true, refl)
      | true ↦ (m, again (m.1.0 + 1) false, refl)
    ]

taken-is : (tree : Tree) (line : List ℕ) → taken tree line ≡ taken_first (λ place full. taken_from (length line) tree line place full) 0 false (match_from tree line 0)
taken-is tree line =
    let all : List Found = taken_first (λ place full. taken_from (length line) tree line place full) 0 false (match_from tree line 0) in
    (elim (nat_le 0 (length line)) as (λ b. nat_le 0 (length line) ≡ b → (elim b as (λ _. List Found) [ true ↦ all | false ↦ [] ]) ≡ all) [
      | true ↦ λ e. refl
      | false ↦ λ e. let k : true ≡ false = sym (le-leb 0 (length line) (omega arith)) ∙ e in absurd cc
    ]) refl

picked-some : (choice : Which) (m : Found) (ms : List Found) → takes_first choice ≡ true → (k : Found) × (ks : List Found) × (picked choice (m ∷ ms) ≡ k ∷ ks)
picked-some which.First m ms h = (m, take 0 ms, refl)
picked-some (which.Nth before) m ms h = (m, take 0 ms, ap (λ (i : ℕ). take 1 (drop i (m ∷ ms))) (eqb-true before 0 h))
picked-some which.All m ms h = (m, ms, refl)

replaced-some : (parts : List Part) (line : List ℕ) (all : List Found) (m : Found) (ms : List Found) → all ≡ m ∷ ms → (ts : List (List ℕ)) × (option_map split_at_newlines (replaced_in parts line all) ≡ Some ts)
replaced-some parts line all m ms e =
    (split_at_newlines (rewritten parts line 0 (m ∷ ms)), ap (λ (l : List Found). option_map split_at_newlines (replaced_in parts line l)) e)

tree-makes : (tree : Tree) (parts : List Part) (choice : Which) (line : List ℕ) → takes_first choice ≡ true → IsSome (match_from tree line 0) → (ts : List (List ℕ)) × (substituted tree parts choice line ≡ Some ts)
tree-makes tree parts choice line h some =
    let q = first-taken (λ place full. taken_from (length line) tree line place full) (match_from tree line 0) some in
    let p = picked-some choice q.0 q.1 h in
    replaced-some parts line (picked choice (taken tree line)) p.0 p.1 (ap (picked choice) (taken-is tree line ∙ q.2) ∙ p.2)

IsTrue-from : (b : Bool) → b ≡ true → IsTrue b
IsTrue-from b h = h

pub always-makes : (text : List ℕ) (parts : List Part) (choice : Which) → is_always (Some text) ≡ true → takes_first choice ≡ true → (line : List ℕ) → (ts : List (List ℕ)) × (made_of text parts choice line ≡ Some ts)
always-makes text parts choice sure first line =
    (elim (pattern text) as (λ r. pattern text ≡ r → (elim r as (λ _. Bool) [ Ok tree ↦ always tree | Err f ↦ false ]) ≡ true →
    (ts : List (List ℕ)) × ((elim r as (λ _. Option (List (List ℕ))) [ Ok tree ↦ substituted tree parts choice line | Err f ↦ None ]) ≡ Some ts)) [
      | Ok tree ↦ λ e h. tree-makes tree parts choice line first (pattern_matches text line tree e (IsTrue-from (always tree) h))
      | Err f ↦ λ e h. absurd cc
    ]) refl sure

some-matched : (o : Option Found) → is_some o ≡ true → IsSome o
some-matched None h = absurd cc
some-matched (Some m) h = refl

-- a line that the pattern matches
pub matching-makes : (text : List ℕ) (parts : List Part) (choice : Which) (line : List ℕ) → matches text line ≡ true →
    takes_first choice ≡ true → (ts : List (List ℕ)) × (made_of text parts choice line ≡ Some ts)
matching-makes text parts choice line matched first =
    (elim (pattern text) as (λ r. (elim r as (λ _. Bool) [ Ok tree ↦ is_some (match_from tree line 0) | Err f ↦ false ]) ≡ true →
    (ts : List (List ℕ)) × ((elim r as (λ _. Option (List (List ℕ))) [ Ok tree ↦ substituted tree parts choice line | Err f ↦ None ]) ≡ Some ts)) [
      | Ok tree ↦ λ h. tree-makes tree parts choice line first (some-matched (match_from tree line 0) h)
      | Err f ↦ λ h. absurd cc
    ]) matched
