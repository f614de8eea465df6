-- `m`: what its rule says of lines is true of what it leaves.
use Rattle.std.proofs.Common.{◌≡◌, ◌<◌, ◌≤◌, inl, inr, ℕ, ◌+◌, ◌-◌, pos, Bool, List, map, length, All, Some, sym, ap, ◌∙◌, arith}
use Rattle.std.specs.Prelude.{◌⊎◌}
use Rattle.std.proofs.lemmas.Bool.{cases_lt}
use Rattle.std.proofs.lemmas.List.Elements.{All-map, All-weaker}
use Rattle.zones.specs.Name.{mark}
use Rattle.zones.specs.Zone.{Bounds, Numbers}
use Rattle.ed_base.specs.Buffer.{Line}
use Rattle.ed_base.specs.Parts.{carried}
use Rattle.ed_syntax.specs.meaning.CommandLaws.{WellMarked}
use Rattle.ed_syntax.specs.meaning.States as editor
use Rattle.ed_syntax.specs.meaning.Ranges.{Span}
use Rattle.ed_rules.specs.StandsFor.{Reads}
use Rattle.ed_rules.specs.facts.Facts.{Facts, FactsHold}
use Rattle.ed_rules.specs.facts.EditedFacts.{reading}
use Rattle.ed_rules.specs.facts.EditHolds.{LetterStays, Takes}
use Rattle.ed_rules.specs.facts.CarriedFacts.{carried_to, carried_facts}
use Rattle.ed_rules.specs.facts.CarriedHolds.{GoesWith}
use Rattle.ed_rules.proofs.facts.CarriedFacts.{to-low, to-block, to-passed_up, to-passed_down, to-high, carry-holds}
use Rattle.ed_rules.proofs.sound.LettersInLines.{line_with, line_with-range, line_with-place}
use Rattle.ed_rules.proofs.sound.Moving.{length-carried, up-above, up-passed, up-below, moved-lines, down-above, down-passed, down-below}

-- the line of a letter goes where each line does
module _ (ls : List Line) (a b place : ℕ) (ab : a < b) (inside : b ≤ length ls) (room : place + (b - a) ≤ length ls) (marked : WellMarked ls) where
  le : a ≤ b
  le = omega arith

  letter-carried : (x i : ℕ) → line_with x ls ≡ Some i → line_with x (carried a b place ls) ≡ Some (carried_to a b place i)
  letter-carried x i e =
      let there : (j : ℕ) → carried_to a b place i ≡ j → line_with x (carried a b place ls) ≡ Some j → line_with x (carried a b place ls) ≡ Some (carried_to a b place i) =
      λ (j : ℕ) same h. h ∙ ap Some (sym same) in
      elim (cases_lt a i) [
        | inl past ↦ elim (cases_lt b i) [
          | inr block ↦ there (place + (i - a)) (to-block a b place i ab past block) (moved-lines ls a b place le inside room marked x i e past block)
          | inl high ↦ elim (cases_lt (place + (b - a)) i) [
            | inl beyond ↦ there i (to-high a b place i ab high beyond) (elim (cases_lt a place) [
              | inl down ↦ down-below ls a b place le inside room marked x i e (omega arith) beyond
              | inr up ↦ up-below ls a b place le inside room marked x i e up high
            ])
            | inr within ↦
                there (i - (b - a)) (to-passed_down a b place i ab (omega arith) high within)
                (down-passed ls a b place le inside room marked x i e (omega arith) high within)
          ]
        ]
        | inr low ↦ elim (cases_lt place i) [
          | inl passed ↦
              there (i + (b - a)) (to-passed_up a b place i (omega arith) passed low)
              (up-passed ls a b place le inside room marked x i e (omega arith) passed low)
          | inr still ↦ there i (to-low a b place i low still) (elim (cases_lt a place) [
            | inl down ↦ down-above ls a b place le inside room marked x i e (omega arith) low
            | inr up ↦ up-above ls a b place le inside room marked x i e up still
          ])
        ]
      ]

some-same : (i j : ℕ) → Some i ≡ Some j → i ≡ j
some-same i j e = cc

-- the lines of a span are carried to a place among the others: up, to the target t, or down, where t counts them too
module _ (zone : Bounds) (facts : Facts) (marks after_marks : List Bool) (number after : Numbers) (e : editor.State) (x : Span) (t place : ℕ)
    (k : Takes zone facts marks number e x) (from : 1 ≤ x.first) (order : x.first ≤ x.last) (target_is : number 5 ≡ pos t) (fits : t ≤ length e.lines) (marked : WellMarked e.lines)
    (way : ((t ≤ x.first - 1) × (place ≡ t)) ⊎ ((x.last ≤ t) × (place + (x.last - (x.first - 1)) ≡ t)))
    (r : Reads after_marks (carried (x.first - 1) x.last place e.lines) (place + (x.last - (x.first - 1))) after) where
  room : place + (x.last - (x.first - 1)) ≤ length e.lines
  room = let h = k.inside in elim way [ inl w ↦ let u = w.0 in let v = w.1 in omega arith | inr w ↦ let v = w.1 in omega arith ]

  letter-goes : (y : ℕ) → LetterStays zone facts reading marks after_marks y →
      GoesWith (x.first - 1) x.last place (length e.lines) number after (mark y)
  letter-goes y l =
      let i = k.reads.marks_are y l.0 l.1 in
      let j = r.marks_are y l.0 l.2 in
      let there : line_with y e.lines ≡ Some (i.0 + 1) = line_with-place y e.lines i.0 i.1 in
      let to : line_with y (carried (x.first - 1) x.last place e.lines) ≡ Some (j.0 + 1) = line_with-place y _ j.0 j.1 in
      let range = line_with-range y e.lines (i.0 + 1) there in
      let same : j.0 + 1 ≡ carried_to (x.first - 1) x.last place (i.0 + 1) =
      some-same _ _ (sym to ∙ letter-carried e.lines (x.first - 1) x.last place (omega arith) k.inside room marked y (i.0 + 1) there) in
      let small = l.0 in
      record {
        named = omega arith;
        line = i.0 + 1;
        is = i.2;
        from = range.0;
        inside = range.1;
        after_is = j.2 ∙ ap pos same;
      }

  pub carry-left : (letters : List ℕ) (patterns : List (List ℕ)) → All (LetterStays zone facts reading marks after_marks) letters →
      FactsHold (carried_facts zone facts (map mark letters) patterns) after (carried (x.first - 1) x.last place e.lines)
  carry-left letters patterns all =
      let first = k.first_is in
      let size = length-carried e.lines (x.first - 1) x.last place (omega arith) k.inside room in
      carry-holds zone facts (map mark letters) number after e.lines (x.first - 1) x.last t place
      (record {
        holds = k.holds;
        facts_hold = k.facts_hold;
        first_is = first ∙ ap pos (let n : x.first ≡ x.first - 1 + 1 = omega arith in n);
        second_is = k.last_is;
        target_is = target_is;
        some = omega arith;
        inside = k.inside;
        fits = fits;
        way = way;
        zero_is = k.reads.zero_is;
        zero_after = r.zero_is;
        last_is = k.reads.last_is;
        last_after = r.last_is ∙ ap pos size;
        current_after = r.current_is;
        stay = All-map (GoesWith (x.first - 1) x.last place (length e.lines) number after) (λ (y : ℕ). mark y) letters
            (All-weaker (LetterStays zone facts reading marks after_marks) (λ (y : ℕ). GoesWith (x.first - 1) x.last place (length e.lines) number after (mark y)) letter-goes letters all);
      }) patterns
