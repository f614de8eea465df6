-- The rule of a substitution: the marks and the current line that it leaves.
use Rattle.std.proofs.Common.{◌≡◌, ◌<◌, ◌≤◌, inl, inr, ℕ, suc, ◌+◌, ◌-◌, ℤ, pos, negsuc, ◌-ℤ◌, ◌&&◌, Bool, true, false, cond, List, length, get_or, None, Some, arith, ◌∙◌, ap, refl, sym, subst}
use Rattle.std.proofs.lemmas.Int.{ints}
use Rattle.std.proofs.lemmas.Bool.{cases_eq}
use Rattle.ed_base.specs.Buffer.{Line}
use Rattle.ed_base.specs.Parts as parts
use Rattle.zones.specs.Name.{mark}
use Rattle.zones.specs.Bound.{Obeys}
use Rattle.zones.specs.Zone.{Bounds, Numbers, Holds, bound, updated}
use Rattle.zones.specs.Steps.{after_shift, after_set, after_guard, after_forget}
use Rattle.zones.specs.Known.{known}
use Rattle.zones.proofs.Soundness.{Obeys-bound, Holds-after_shift, Holds-after_set, Holds-after_guard, Holds-after_forget}
use Rattle.zones.proofs.Known.{updated-same, updated-other, known-true}
use Rattle.ed_syntax.specs.meaning.Ranges.{Span}
use Rattle.ed_syntax.specs.meaning.States as editor
use Rattle.ed_rules.specs.declared.state.State.{State}
use Rattle.ed_rules.specs.Pieces.{with_zone, is_told_apart, mark_lost}
use Rattle.ed_rules.specs.Choices.{has_choice}
use Rattle.ed_syntax.specs.meaning.Values.{matches_line}
use Rattle.ed_rules.specs.facts.Facts.{tells}
use Rattle.std.specs.List.{list_all}
use Rattle.std.proofs.lemmas.Bool.{cases_lt, and_parts, or_cases}
use Rattle.ed_rules.proofs.Choosing.{has_choice-all}
use Rattle.ed_rules.proofs.facts.FactsTold.{tells-true}
use Rattle.ed_rules.specs.Substituting.{is_told_not_to_match, is_left_alone, mark_kept, mark_substituted, marks_substituted, current_split, current_within}
use Rattle.ed_rules.proofs.sound.LettersInLines.{line_with, line_with-range, line_with-replaced_before, line_with-replaced_after, length-replaced}
use Rattle.ed_rules.proofs.sound.Finishing.{for_each_sure-by}
use Rattle.ed_rules.proofs.sound.Lifting.{Holds-same}
use Rattle.ed_rules.proofs.sound.Inserting.{OnLine, OnLine-reads, reads-OnLine}
use Rattle.ed_rules.proofs.sound.Replacing.{Passed, Passed-more, Passed-lost, Passed-shifted, Replaced, Holds-guarded_by}
use Rattle.ed_rules.proofs.sound.Following.{FollowedHold}
use Rattle.ed_rules.proofs.sound.ToldApart.{apart-sides}
use Rattle.ed_rules.proofs.sound.Spans.{Ranges}

-- lines come in place of those from a to b: no fewer, and just as many where none is split; no mark of a later line is on them
pub record Exchanges (text : List ℕ) (splits : Bool) (a b : ℕ) (ls new : List Line) : Type 0 where
  pub least : b + 1 - a ≤ length new
  pub same : splits ≡ false → length new ≡ b + 1 - a
  pub none : (letter line : ℕ) → line_with letter ls ≡ Some line → b < line → line_with letter new ≡ None
  -- one of those that the pattern doesn't match is as it was, as far down or further
  pub spared : (letter line : ℕ) → line_with letter ls ≡ Some line → a ≤ line → line ≤ b → matches_line text ls line ≡ false →
      (to : ℕ) × (line_with letter (parts.replaced a b new ls) ≡ Some to) × (line ≤ to) × (splits ≡ false → to ≡ line)

-- the marks

module _ (text : List ℕ) (splits : Bool) (a b : ℕ) (ls new : List Line) (s : State) (v : Numbers) (ha : 1 ≤ a) (hab : a ≤ b) (va : v 3 ≡ pos a) (vb : v 4 ≡ pos b)
    (inside : b ≤ length ls) (holds : Holds s.zone v) (followed : FollowedHold s v ls)
    (possible : has_choice s.patterns (Some text) ≡ true) (on : (x : ℕ) → x < 26 → get_or s.marks x false ≡ true → OnLine x ls v)
    (by : Exchanges text splits a b ls new) where
  -- a mark after the lines, where there may be more of them
  done-down : (k : ℕ) (t : State) → k < 26 → (m : Passed s (parts.replaced a b new ls) v k t) → (o : OnLine k ls v) → b < o.0 →
      Passed s (parts.replaced a b new ls) v (suc k) (with_zone (after_shift t.zone (mark k) (Some (pos 0)) None) t)
  done-down k t h m o after =
      let w : Numbers = m.numbers in
      let mk : w (6 + k) ≡ pos o.0 = m.rest (6 + k) (omega arith) ∙ o.2 in
      let more = by.least in
      let to : ℕ = o.0 + length new - (b + 1 - a) in
      let w' : Numbers = updated w (6 + k) (pos to) in
      let q : w' (6 + k) ≡ pos to = updated-same w (6 + k) (pos to) in
      let u : State = with_zone (after_shift t.zone (mark k) (Some (pos 0)) None) t in
      Passed-more k t u m w'
      (Holds-after_shift t.zone (6 + k) (Some (pos 0)) None w w' (omega arith) m.holds (updated-other w (6 + k) (pos to)) tt (omega (arith, ints)))
      (updated-other w (6 + k) (pos to)) (λ y g. refl) (ap (λ (q : State). record q { zone = u.zone }) m.aside)
      (λ _. (to, line_with-replaced_after k ls new a b o.0 o.1 (by.none k o.0 o.1 after) ha hab after, q))

  -- the same where there are as many as before
  done-still : splits ≡ false → (k : ℕ) (t : State) → k < 26 → (m : Passed s (parts.replaced a b new ls) v k t) → (o : OnLine k ls v) → b < o.0 →
      Passed s (parts.replaced a b new ls) v (suc k) t
  done-still whole k t h m o after =
      let w : Numbers = m.numbers in
      let mk : w (6 + k) ≡ pos o.0 = m.rest (6 + k) (omega arith) ∙ o.2 in
      let size = by.same whole in
      Passed-more k t t m w m.holds (λ p g. refl) (λ y g. refl) m.aside
      (λ _. (o.0, line_with-replaced_after k ls new a b o.0 o.1 (by.none k o.0 o.1 after) ha hab after ∙ ap Some (omega arith), mk))

  done-after : (k : ℕ) (t : State) → k < 26 → (m : Passed s (parts.replaced a b new ls) v k t) → (o : OnLine k ls v) → b < o.0 →
      Passed s (parts.replaced a b new ls) v (suc k) (mark_kept splits k t)
  done-after k t h m o after =
      let G : State → Type 0 = Passed s (parts.replaced a b new ls) v (suc k) in
      (elim splits as (λ r. splits ≡ r → G (mark_kept r k t)) [
        | true ↦ λ _. done-down k t h m o after
        | false ↦ λ whole. done-still whole k t h m o after
      ]) refl

  -- a mark before the lines stays
  done-before : (k : ℕ) (t : State) → k < 26 → (m : Passed s (parts.replaced a b new ls) v k t) → (o : OnLine k ls v) → o.0 < a →
      Passed s (parts.replaced a b new ls) v (suc k) t
  done-before k t h m o before =
      Passed-more k t t m m.numbers m.holds (λ p g. refl) (λ y g. refl) m.aside
      (λ _. (o.0, line_with-replaced_before k ls new a b o.0 o.1 before, m.rest (6 + k) (omega arith) ∙ o.2))

  -- before them it may go down too
  done-raised : (k : ℕ) (t : State) → k < 26 → (m : Passed s (parts.replaced a b new ls) v k t) → (o : OnLine k ls v) → o.0 < a →
      Passed s (parts.replaced a b new ls) v (suc k) (mark_kept splits k t)
  done-raised k t h m o before =
      let G : State → Type 0 = Passed s (parts.replaced a b new ls) v (suc k) in
      elim splits as (λ r. G (mark_kept r k t)) [
        | true ↦
            Passed-shifted k t m (Some (pos 0)) None o.0 o.0 h (m.rest (6 + k) (omega arith) ∙ o.2) tt (omega (arith, ints))
            (line_with-replaced_before k ls new a b o.0 o.1 before)
        | false ↦ done-before k t h m o before
      ]

  -- its line is told from the one that is addressed
  done-beside : (k : ℕ) (t : State) → k < 26 → (m : Passed s (parts.replaced a b new ls) v k t) → (o : OnLine k ls v) → is_told_apart s.zone k s ≡ true →
      Passed s (parts.replaced a b new ls) v (suc k) (mark_kept splits k t)
  done-beside k t h m o e =
      let q = apart-sides s k a b ls v h e holds followed va vb ha hab inside o in
      elim q.1 [ inl before ↦ done-raised k t h m o before | inr after ↦ done-after k t h m o after ]

  -- its line isn't matched
  done-spared : (k : ℕ) (t : State) → k < 26 → (m : Passed s (parts.replaced a b new ls) v k t) → (o : OnLine k ls v) → a ≤ o.0 → o.0 ≤ b →
      matches_line text ls o.0 ≡ false → Passed s (parts.replaced a b new ls) v (suc k) (mark_kept splits k t)
  done-spared k t h m o low high unmatched =
      let G : State → Type 0 = Passed s (parts.replaced a b new ls) v (suc k) in
      let q = by.spared k o.0 o.1 low high unmatched in
      let further = q.2 in
      let at : m.numbers (6 + k) ≡ pos o.0 = m.rest (6 + k) (omega arith) ∙ o.2 in
      (elim splits as (λ r. splits ≡ r → G (mark_kept r k t)) [
        | true ↦ λ _. Passed-shifted k t m (Some (pos 0)) None o.0 q.0 h at tt (omega (arith, ints)) q.1
        | false ↦ λ still.
            Passed-more k t t m m.numbers m.holds (λ p g. refl) (λ y g. refl) m.aside (λ _. (o.0, q.1 ∙ ap Some (q.3 still), at))
      ]) refl

  done-unmatched : (k : ℕ) (t : State) → k < 26 → (m : Passed s (parts.replaced a b new ls) v k t) → (o : OnLine k ls v) →
      s.follows && list_all (is_told_not_to_match s.zone s.facts k) s.patterns ≡ true → Passed s (parts.replaced a b new ls) v (suc k) (mark_kept splits k t)
  done-unmatched k t h m o e =
      let p = and_parts s.follows (list_all (is_told_not_to_match s.zone s.facts k) s.patterns) e in
      let told : tells s.zone s.facts (mark k) text false ≡ true = has_choice-all (is_told_not_to_match s.zone s.facts k) s.patterns (Some text) p.1 possible in
      let r = line_with-range k ls o.0 o.1 in
      elim (cases_lt o.0 a) [
        | inl before ↦ done-raised k t h m o before
        | inr low ↦ elim (cases_lt b o.0) [
          | inl after ↦ done-after k t h m o after
          | inr high ↦
              done-spared k t h m o low high
              (tells-true s.zone s.facts v ls (6 + k) o.0 text false told (omega arith) holds (followed p.0) o.2 r.0 r.1)
        ]
      ]

  done-alone : (k : ℕ) (t : State) → k < 26 → (m : Passed s (parts.replaced a b new ls) v k t) → (o : OnLine k ls v) → is_left_alone s.zone k t ≡ true →
      Passed s (parts.replaced a b new ls) v (suc k) (mark_kept splits k t)
  done-alone k t h m o e =
      let own : is_left_alone s.zone k s ≡ true = ap (is_left_alone s.zone k) (sym m.aside) ∙ e in
      elim (or_cases (is_told_apart s.zone k s) (s.follows && list_all (is_told_not_to_match s.zone s.facts k) s.patterns) own) [
        | inl apart ↦ done-beside k t h m o apart
        | inr unmatched ↦ done-unmatched k t h m o unmatched
      ]

  done-step : (k : ℕ) (t : State) → k < 26 → get_or s.marks k false ≡ true → Passed s (parts.replaced a b new ls) v k t →
      Passed s (parts.replaced a b new ls) v (suc k) (mark_substituted s.zone splits k t)
  unfolding mark_substituted
  done-step k t h e m =
      let o = on k h e in
      let w : Numbers = m.numbers in
      let m3 : w 3 ≡ pos a = m.low 3 (omega arith) ∙ va in
      let m4 : w 4 ≡ pos b = m.low 4 (omega arith) ∙ vb in
      let mk : w (6 + k) ≡ pos o.0 = m.rest (6 + k) (omega arith) ∙ o.2 in
      let G : State → Type 0 = Passed s (parts.replaced a b new ls) v (suc k) in
      let rest : State = cond (is_left_alone s.zone k t) (mark_kept splits k t) (mark_lost k t) in
      (elim (known t.zone 4 (mark k) (negsuc 0)) as (λ r. known t.zone 4 (mark k) (negsuc 0) ≡ r → G (cond r (mark_kept splits k t) (cond (known t.zone (mark k) 3 (negsuc 0)) t rest))) [
        | true ↦ λ q.
            let d = known-true t.zone w 4 (6 + k) (negsuc 0) q (omega arith) (omega arith) m.holds in
            done-after k t h m o (omega (arith, ints))
        | false ↦ λ _.
            (elim (known t.zone (mark k) 3 (negsuc 0)) as (λ r. known t.zone (mark k) 3 (negsuc 0) ≡ r → G (cond r t rest)) [
              | true ↦ λ q.
                  let d = known-true t.zone w (6 + k) 3 (negsuc 0) q (omega arith) (omega arith) m.holds in
                  done-before k t h m o (omega (arith, ints))
              | false ↦ λ _.
                  (elim (is_left_alone s.zone k t) as (λ r. is_left_alone s.zone k t ≡ r → G (cond r (mark_kept splits k t) (mark_lost k t))) [
                    | true ↦ λ q. done-alone k t h m o q
                    | false ↦ λ _. Passed-lost k t h m
                  ]) refl
            ]) refl
      ]) refl

  pub marks-done : Passed s (parts.replaced a b new ls) v 26 (marks_substituted splits s)
  marks-done =
      for_each_sure-by (Passed s (parts.replaced a b new ls) v) (mark_substituted s.zone splits) s.marks s
      (record { numbers = v; holds = holds; low = λ p h. refl; on_line = λ x h e. absurd (omega arith); rest = λ p h. refl; same_letters = λ y h. refl; aside = refl })
      (λ k t h e m. done-step k t h e m)
      (λ k t h e m. Passed-more k t t m m.numbers m.holds (λ p g. refl) (λ y g. refl) m.aside
      (λ g. let f : false ≡ true = sym e ∙ sym (m.same_letters k (omega arith)) ∙ g in absurd cc))
      26 (omega arith)

-- the current line and the last one

module _ (text : List ℕ) (splits : Bool) (s : State) (e : editor.State) (x : Span) (r : Ranges s e x) (followed : FollowedHold s r.spans.numbers e.lines)
    (possible : has_choice s.patterns (Some text) ≡ true) (new : List Line) (by : Exchanges text splits x.first x.last e.lines new) where
  pub passed : Passed s (parts.replaced x.first x.last new e.lines) r.spans.numbers 26 (marks_substituted splits s)
  passed =
      let b = r.spans.stands.buffer in
      marks-done text splits x.first x.last e.lines new s r.spans.numbers r.from r.order r.spans.first_is r.spans.last_is
      r.spans.last_in b.holds followed possible (λ y h q. OnLine-reads y e.lines r.spans.numbers (b.reads.marks_are y h q)) by

  -- with a zone that holds of a current line and a last one
  HoldsBy-exchanged : (zone : Bounds) (current : ℕ) → current ≤ length (parts.replaced x.first x.last new e.lines) →
      Holds zone (updated (updated passed.numbers 2 (pos (length (parts.replaced x.first x.last new e.lines)))) 1 (pos current)) →
      Replaced s (with_zone zone (marks_substituted splits s)) (parts.replaced x.first x.last new e.lines) current
  HoldsBy-exchanged zone current inside holds =
      let lines : List Line = parts.replaced x.first x.last new e.lines in
      let count : ℕ = length lines in
      let t : State = marks_substituted splits s in
      let m = passed in
      let v2 : Numbers = updated m.numbers 2 (pos count) in
      let v1 : Numbers = updated v2 1 (pos current) in
      record {
        numbers = v1;
        aside = ap (λ (q : State). record q { zone = zone }) m.aside;
        buffer = record {
          holds = holds;
          reads = record {
            zero_is = m.low 0 (omega arith) ∙ r.spans.stands.buffer.reads.zero_is;
            current_is = refl;
            last_is = refl;
            marks_are = λ y h q. let o = m.on_line y h q in
                reads-OnLine y lines v1 (o.0, o.1, updated-other v2 1 (pos current) (6 + y) (omega arith) ∙ updated-other m.numbers 2 (pos count) (6 + y) (omega arith) ∙ o.2);
          };
          inside = inside;
        };
      }

  size : length (parts.replaced x.first x.last new e.lines) ≡ length e.lines + length new - (x.last + 1 - x.first)
  size = length-replaced e.lines new x.first x.last r.from r.order r.spans.last_in

  -- as many lines as before: the last one keeps its number
  Holds-still : splits ≡ false → (zone : Bounds) (current : ℕ) → Holds zone (updated passed.numbers 1 (pos current)) →
      Holds zone (updated (updated passed.numbers 2 (pos (length (parts.replaced x.first x.last new e.lines)))) 1 (pos current))
  Holds-still whole zone current holds =
      let lines : List Line = parts.replaced x.first x.last new e.lines in
      let m = passed in
      let same = by.same whole in
      let count : length lines ≡ length e.lines = let z = size in let from = r.from in let order = r.order in let last = r.spans.last_in in omega arith in
      let v2 : Numbers = updated m.numbers 2 (pos (length lines)) in
      let v1 : Numbers = updated v2 1 (pos current) in
      let w : Numbers = updated m.numbers 1 (pos current) in
      let m2 : m.numbers 2 ≡ pos (length lines) = m.low 2 (omega arith) ∙ r.spans.stands.buffer.reads.last_is ∙ ap pos (sym count) in
      let still : (p : ℕ) → v2 p ≡ m.numbers p = λ p. elim (cases_eq p 2) [
        | inl q ↦ subst (λ (y : ℕ). v2 y ≡ m.numbers y) (sym q) (updated-same m.numbers 2 (pos (length lines)) ∙ sym m2)
        | inr n ↦ updated-other m.numbers 2 (pos (length lines)) p n
      ] in
      let equal : (p : ℕ) → v1 p ≡ w p = λ p. elim (cases_eq p 1) [
        | inl q ↦ subst (λ (y : ℕ). v1 y ≡ w y) (sym q) refl
        | inr n ↦ updated-other v2 1 (pos current) p n ∙ still p ∙ sym (updated-other m.numbers 1 (pos current) p n)
      ] in
      Holds-same zone w v1 equal holds

  -- the current line is the last of them
  pub exchanged-last : splits ≡ false → (current : ℕ) → current ≡ x.last →
      Replaced s (with_zone (after_set (marks_substituted splits s).zone 1 4 (pos 0)) (marks_substituted splits s)) (parts.replaced x.first x.last new e.lines) current
  exchanged-last whole current is =
      let m = passed in
      let z = size in
      let same = by.same whole in
      let from = r.from in
      let order = r.order in
      let last = r.spans.last_in in
      let m4 : m.numbers 4 ≡ pos x.last = m.low 4 (omega arith) ∙ r.spans.last_is in
      HoldsBy-exchanged (after_set (marks_substituted splits s).zone 1 4 (pos 0)) current (omega arith)
      (Holds-still whole (after_set (marks_substituted splits s).zone 1 4 (pos 0)) current
      (Holds-after_set (marks_substituted splits s).zone 1 4 (pos 0) m.numbers (updated m.numbers 1 (pos current)) (omega arith) (omega arith) m.holds (updated-other m.numbers 1 (pos current)) (omega (arith, ints))))

  -- the current line is one of them
  exchanged-some : splits ≡ false → (current : ℕ) → x.first ≤ current → current ≤ x.last →
      Replaced s (with_zone (current_within false (marks_substituted splits s).zone) (marks_substituted splits s))
      (parts.replaced x.first x.last new e.lines) current
  unfolding current_within
  exchanged-some whole current low high =
      let m = passed in
      let z = size in
      let same = by.same whole in
      let from = r.from in
      let order = r.order in
      let last = r.spans.last_in in
      let t : State = marks_substituted splits s in
      let m3 : m.numbers 3 ≡ pos x.first = m.low 3 (omega arith) ∙ r.spans.first_is in
      let m4 : m.numbers 4 ≡ pos x.last = m.low 4 (omega arith) ∙ r.spans.last_is in
      let w : Numbers = updated m.numbers 1 (pos current) in
      HoldsBy-exchanged (current_within false t.zone) current (omega arith)
      (Holds-still whole (current_within false t.zone) current
      (Holds-after_guard _ 1 4 (pos 0) w (omega arith) (omega arith)
      (Holds-after_guard _ 3 1 (pos 0) w (omega arith) (omega arith) (Holds-after_forget t.zone 1 m.numbers w m.holds (updated-other m.numbers 1 (pos current))) (omega (arith, ints))) (omega (arith, ints))))

  -- where lines may be split, it is one of those that are then in their place
  exchanged-among : (current : ℕ) → x.first ≤ current → current + 1 ≤ x.first + length new →
      Replaced s (with_zone (current_within true (marks_substituted splits s).zone) (marks_substituted splits s))
      (parts.replaced x.first x.last new e.lines) current
  unfolding current_within
  exchanged-among current low high =
      let m = passed in
      let z = size in
      let more = by.least in
      let from = r.from in
      let order = r.order in
      let last = r.spans.last_in in
      let t : State = marks_substituted splits s in
      let count : ℕ = length (parts.replaced x.first x.last new e.lines) in
      let m3 : m.numbers 3 ≡ pos x.first = m.low 3 (omega arith) ∙ r.spans.first_is in
      let m2 : m.numbers 2 ≡ pos (length e.lines) = m.low 2 (omega arith) ∙ r.spans.stands.buffer.reads.last_is in
      let v2 : Numbers = updated m.numbers 2 (pos count) in
      let v1 : Numbers = updated v2 1 (pos current) in
      let within : current ≤ count = omega arith in
      let h2 : Holds (after_shift t.zone 2 (Some (pos 0)) None) v2 =
      Holds-after_shift t.zone 2 (Some (pos 0)) None m.numbers v2 (omega arith) m.holds (updated-other m.numbers 2 (pos count)) tt (omega (arith, ints)) in
      let h1 : Holds (after_guard (after_forget (after_shift t.zone 2 (Some (pos 0)) None) 1) 3 1 (pos 0)) v1 =
      Holds-after_guard _ 3 1 (pos 0) v1 (omega arith) (omega arith) (Holds-after_forget _ 1 v2 v1 h2 (updated-other v2 1 (pos current))) (omega (arith, ints)) in
      HoldsBy-exchanged (current_within true t.zone) current within
      (Holds-after_guard _ 1 2 (pos 0) v1 (omega arith) (omega arith) h1 (omega (arith, ints)))

  pub exchanged-within : (current : ℕ) → x.first ≤ current → current + 1 ≤ x.first + length new →
      Replaced s (with_zone (current_within splits (marks_substituted splits s).zone) (marks_substituted splits s))
      (parts.replaced x.first x.last new e.lines) current
  exchanged-within current low high =
      let from = r.from in
      let order = r.order in
      let G : Bool → Type 0 = λ (b : Bool).
      Replaced s (with_zone (current_within b (marks_substituted splits s).zone) (marks_substituted splits s))
      (parts.replaced x.first x.last new e.lines) current in
      (elim splits as (λ b. splits ≡ b → G b) [
        | true ↦ λ k. exchanged-among current low high
        | false ↦ λ k. let same = by.same k in exchanged-some k current low (omega arith)
      ]) refl

  -- where lines may be split, the current line is as far from the last one as the second address was
  pub exchanged-split : (current : ℕ) → current + 1 ≡ x.first + length new →
      Replaced s (with_zone (current_split (bound s.zone 4 2) (bound s.zone 2 4) (marks_substituted splits s).zone) (marks_substituted splits s)) (parts.replaced x.first x.last new e.lines) current
  unfolding current_split
  exchanged-split current is =
      let v₀ : Numbers = r.spans.numbers in
      let b₀ = r.spans.stands.buffer in
      let m = passed in
      let z = size in
      let more = by.least in
      let from = r.from in
      let order = r.order in
      let last = r.spans.last_in in
      let t : State = marks_substituted splits s in
      let count : ℕ = length (parts.replaced x.first x.last new e.lines) in
      let l₀ : v₀ 4 ≡ pos x.last = r.spans.last_is in
      let c₀ : v₀ 2 ≡ pos (length e.lines) = b₀.reads.last_is in
      let m4 : m.numbers 4 ≡ pos x.last = m.low 4 (omega arith) ∙ r.spans.last_is in
      let m2 : m.numbers 2 ≡ pos (length e.lines) = m.low 2 (omega arith) ∙ b₀.reads.last_is in
      let v2 : Numbers = updated m.numbers 2 (pos count) in
      let v1 : Numbers = updated v2 1 (pos current) in
      let far : count + x.last ≡ length e.lines + current = omega arith in
      let h2 : Holds (after_shift t.zone 2 (Some (pos 0)) None) v2 =
      Holds-after_shift t.zone 2 (Some (pos 0)) None m.numbers v2 (omega arith) m.holds (updated-other m.numbers 2 (pos count)) tt (omega (arith, ints)) in
      let h1 : Holds (after_guard (after_forget (after_shift t.zone 2 (Some (pos 0)) None) 1) 4 1 (pos 0)) v1 =
      Holds-after_guard _ 4 1 (pos 0) v1 (omega arith) (omega arith) (Holds-after_forget _ 1 v2 v1 h2 (updated-other v2 1 (pos current))) (omega (arith, ints)) in
      let below : v₀ 4 -ℤ v₀ 2 ≡ v1 1 -ℤ v1 2 = omega (arith, ints) in
      let above : v₀ 2 -ℤ v₀ 4 ≡ v1 2 -ℤ v1 1 = omega (arith, ints) in
      HoldsBy-exchanged (current_split (bound s.zone 4 2) (bound s.zone 2 4) t.zone) current (omega arith)
      (Holds-guarded_by _ 2 1 (bound s.zone 2 4) v1 (omega arith) (omega arith)
      (Holds-guarded_by _ 1 2 (bound s.zone 4 2) v1 (omega arith) (omega arith) h1 (subst (λ (d : ℤ). Obeys d (bound s.zone 4 2)) below (Obeys-bound s.zone 4 2 v₀ (omega arith) (omega arith) b₀.holds)))
      (subst (λ (d : ℤ). Obeys d (bound s.zone 2 4)) above (Obeys-bound s.zone 2 4 v₀ (omega arith) (omega arith) b₀.holds)))
