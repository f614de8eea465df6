-- `s` that makes one line of each: what its rule says of lines is true of what it leaves.
use Rattle.std.proofs.Common.{◌≡◌, ◌<◌, ◌≤◌, ℕ, zero, suc, ◌+◌, ◌-◌, pos, Bool, true, false, not, List, [], ◌∷◌, ◌++◌, map, take, drop, length, get_or, All, Option, None, Some, sym, ap, refl, ◌∙◌, subst, arith}
use Rattle.std.specs.List.{list_any, list_all}
use Rattle.std.specs.Option.{option_map}
use Rattle.std.proofs.lemmas.Bool.{not-true}
use Rattle.std.proofs.lemmas.List.{take-append-drop}
use Rattle.std.proofs.lemmas.List.Elements.{All-nil, All-map, All-weaker, All-head, All-tail}
use Rattle.zones.specs.Name.{mark}
use Rattle.zones.specs.Zone.{Bounds, Numbers}
use Rattle.ed_base.specs.Buffer.{Line, plain_line}
use Rattle.ed_base.specs.Lines.{IsLine}
use Rattle.ed_base.specs.Parts.{between, replaced}
use Rattle.ed_syntax.specs.declared.replacement.Part.{Part}
use Rattle.ed_syntax.specs.declared.replacement.Which.{Which}
use Rattle.ed_syntax.specs.meaning.CommandLaws.{AreWhole, WellMarked}
use Rattle.ed_syntax.specs.meaning.States as editor
use Rattle.ed_syntax.specs.meaning.Ranges.{Span}
use Rattle.ed_syntax.specs.meaning.Values.{matches}
use Rattle.ed_syntax.specs.meaning.SubstitutedLines.{Results, onto, each, made_of}
use Rattle.ed_rules.specs.Choices.{Choice, texts_of, has_choice}
use Rattle.ed_rules.specs.StandsFor.{Reads, ends_line}
use Rattle.ed_rules.specs.facts.Facts.{Facts, FactsHold}
use Rattle.ed_rules.specs.facts.EditedFacts.{reading}
use Rattle.ed_rules.specs.facts.EditHolds.{LetterStays, Takes}
use Rattle.ed_rules.specs.facts.SubstitutedFacts.{Makes, MakesOfEach, IsSubstituted, substituted_facts}
use Rattle.ed_rules.proofs.Choosing.{texts-pass}
use Rattle.ed_rules.proofs.facts.SubstitutedFacts.{made-unmatched, substituted-hold, substituted-letters, substituted-size}
use Rattle.ed_rules.proofs.sound.LettersInLines.{line_with-place}
use Rattle.ed_rules.proofs.sound.Moving.{line_with-has}
use Rattle.ed_rules.proofs.sound.Results.{made-one}

-- ONE LINE OF EACH

-- a result of one line alone
only_line : Option (List (List ℕ)) → Option (List (List ℕ))
only_line (Some (t ∷ [])) = Some (t ∷ [])
only_line _ = None

only-length : (o : Option (List (List ℕ))) (ts : List (List ℕ)) → only_line o ≡ Some ts → length ts ≡ 1
unfolding only_line
only-length None ts e = cc
only-length (Some []) ts e = cc
only-length (Some (t ∷ [])) ts e = let same : t ∷ [] ≡ ts = cc in ap length (sym same)
only-length (Some (t ∷ u ∷ more)) ts e = cc

only-same : (o : Option (List (List ℕ))) → ((ts : List (List ℕ)) → o ≡ Some ts → length ts ≡ 1) → only_line o ≡ o
unfolding only_line
only-same None h = refl
only-same (Some []) h = let size = h [] refl in absurd (omega arith)
only-same (Some (t ∷ [])) h = refl
only-same (Some (t ∷ u ∷ more)) h = let size = h (t ∷ u ∷ more) refl in absurd (omega arith)

each-alike : (f g : Makes) (ls : List Line) → All (λ (line : Line). f line.bytes ≡ g line.bytes) ls → each f ls ≡ each g ls
each-alike f g [] h = refl
each-alike f g (l ∷ ls) h =
    let Same : Line → Type 0 = λ (line : Line). f line.bytes ≡ g line.bytes in
    λ i. onto l (All-head Same l ls h i) (each-alike f g ls (All-tail Same l ls h) i)

module _ (text : List ℕ) (parts : List Part) (choice : Which) where
  pub one_made : Makes
  one_made bytes = only_line (made_of text parts choice bytes)

  pub made-each-one : (patterns : List Choice) → has_choice patterns (Some text) ≡ true → MakesOfEach one_made (texts_of patterns) []
  unfolding one_made only_line
  made-each-one patterns possible = record {
    one = λ bytes ts e. only-length (made_of text parts choice bytes) ts e;
    unmatched = λ bytes e.
        ap only_line (made-unmatched text parts choice bytes
        (not-true (matches text bytes) (texts-pass (λ q. not (matches q bytes)) patterns text e possible)));
    spares = λ pattern bytes ts e. let never : false ≡ true = e in absurd cc;
  }

  pub made-alike : list_any ends_line parts ≡ false → (ls : List Line) → AreWhole ls → each one_made ls ≡ each (made_of text parts choice) ls
  unfolding one_made
  made-alike plain ls whole =
      each-alike one_made (made_of text parts choice) ls
      (All-weaker (λ (line : Line). IsLine line.bytes) (λ (line : Line). one_made line.bytes ≡ made_of text parts choice line.bytes)
      (λ line is. only-same (made_of text parts choice line.bytes) (λ ts e. made-one text parts choice plain line.bytes ts is e)) ls whole)

-- NOTHING IS CHANGED

no-more : (o : Option ℕ) → option_map (λ n. 1 + n) o ≡ None → o ≡ None
no-more None e = refl
no-more (Some n) e = cc

none-onto : (l : Line) (o : Option (List (List ℕ))) (later : Results) (ls : List Line) → (later.1 ≡ None → later.0 ≡ ls) → (onto l o later).1 ≡ None → (onto l o later).0 ≡ l ∷ ls
none-onto l None later ls h e = ap (λ (made : List Line). l ∷ made) (h (no-more later.1 e))
none-onto l (Some ts) later ls h e = cc

pub none-made : (f : Makes) (ls : List Line) → (each f ls).1 ≡ None → (each f ls).0 ≡ ls
none-made f [] e = refl
none-made f (l ∷ ls) e = none-onto l (f l.bytes) (each f ls) ls (none-made f ls) e

parts-same : (n b : ℕ) (ls : List Line) → n ≤ b → take n ls ++ (drop n (take b ls) ++ drop b ls) ≡ ls
parts-same zero b ls h = take-append-drop b ls
parts-same (suc n) zero ls h = absurd (omega arith)
parts-same (suc n) (suc b) [] h = refl
parts-same (suc n) (suc b) (l ∷ ls) h = ap (λ (made : List Line). l ∷ made) (parts-same n b ls (omega arith))

pub replaced-same : (a b : ℕ) (ls : List Line) → a ≤ b → replaced a b (between a b ls) ls ≡ ls
replaced-same a b ls h = parts-same (a - 1) b ls (omega arith)

-- LETTERS AND FACTS

module _ (f : Makes) (possible : List (List ℕ)) (made : MakesOfEach f possible []) (zone : Bounds) (facts : Facts) (marks after_marks : List Bool) (number after : Numbers)
    (e : editor.State) (x : Span) (current : ℕ) (k : Takes zone facts marks number e x) (from : 1 ≤ x.first) (order : x.first ≤ x.last) (marked : WellMarked e.lines)
    (r : Reads after_marks (replaced x.first x.last (each f (between x.first x.last e.lines)).0 e.lines) current after) where
  abbrev changed : List Line
  changed = replaced x.first x.last (each f (between x.first x.last e.lines)).0 e.lines

  -- by the numbers before, of no letter
  still : IsSubstituted zone facts [] number number e.lines x.first x.last
  still = record {
    holds = k.holds;
    facts_hold = k.facts_hold;
    first_is = k.first_is;
    second_is = k.last_is;
    from = from;
    order = order;
    inside = k.inside;
    last_same = refl;
    zero_same = refl;
    stay = All-nil (λ (y : ℕ). (y < 32) × (number y ≡ number y));
  }

  letter-stays : (y : ℕ) → LetterStays zone facts reading marks after_marks y → (mark y < 32) × (after (mark y) ≡ number (mark y))
  letter-stays y l =
      let i = k.reads.marks_are y l.0 l.1 in
      let j = r.marks_are y l.0 l.2 in
      let small = l.0 in
      let there = line_with-has y e.lines (i.0 + 1) (line_with-place y e.lines i.0 i.1) in
      let to = line_with-has y changed (j.0 + 1) (line_with-place y changed j.0 j.1) in
      let back = substituted-letters f possible [] made zone facts [] number number e.lines x.first x.last still y (j.0 + 1) (omega arith) to in
      let same : j.0 + 1 - 1 ≡ i.0 + 1 - 1 = marked.once y (j.0 + 1 - 1) (i.0 + 1 - 1) back there in
      (omega arith, j.2 ∙ ap pos (let n : j.0 + 1 ≡ i.0 + 1 = omega arith in n) ∙ sym i.2)

  pub spare-left : (letters : List ℕ) (patterns : List (List ℕ)) → All (LetterStays zone facts reading marks after_marks) letters →
      FactsHold (substituted_facts zone facts possible [] (map mark letters) patterns) after changed
  spare-left letters patterns all =
      let Same : ℕ → Type 0 = λ (y : ℕ). (y < 32) × (after y ≡ number y) in
      substituted-hold f possible [] made zone facts (map mark letters) number after e.lines x.first x.last
      (record {
        holds = k.holds;
        facts_hold = k.facts_hold;
        first_is = k.first_is;
        second_is = k.last_is;
        from = from;
        order = order;
        inside = k.inside;
        last_same = r.last_is ∙ ap pos (substituted-size f possible [] made zone facts [] number number e.lines x.first x.last still) ∙ sym k.reads.last_is;
        zero_same = r.zero_is ∙ sym k.reads.zero_is;
        stay = All-map Same (λ (y : ℕ). mark y) letters
            (All-weaker (LetterStays zone facts reading marks after_marks) (λ (y : ℕ). Same (mark y)) letter-stays letters all);
      }) patterns
