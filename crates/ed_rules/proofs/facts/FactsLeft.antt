-- Commands as edits: what their rules say of lines is true of what they leave.
use Rattle.std.proofs.Common.{◌≡◌, ◌<◌, ◌≤◌, inl, inr, ℕ, ◌+◌, ◌-◌, min, pos, Bool, true, false, cond, List, [], ◌∷◌, map, length, take, All, Option, Some, None, refl, sym, ap, subst, ◌∙◌, arith}
use Rattle.std.proofs.lemmas.Int.{ints}
use Rattle.std.proofs.lemmas.Bool.{cases_lt}
use Rattle.std.proofs.lemmas.List.{length-take-le, length-map}
use Rattle.std.proofs.lemmas.List.Elements.{All-map, All-weaker}
use Rattle.zones.specs.Name.{mark}
use Rattle.zones.specs.Zone.{Bounds, Numbers, Holds}
use Rattle.zones.specs.Known.{known}
use Rattle.zones.proofs.Known.{known-true}
use Rattle.ed_base.specs.Buffer.{Line, plain_line, texts}
use Rattle.ed_base.specs.Parts.{exchanged, replaced, inserted, between}
use Rattle.ed_syntax.specs.meaning.Values.{matches}
use Rattle.ed_syntax.specs.meaning.States as editor
use Rattle.ed_syntax.specs.meaning.Ranges.{Span}
use Rattle.ed_syntax.specs.meaning.Effects as effects
use Rattle.ed_rules.specs.StandsFor.{Reads}
use Rattle.ed_rules.specs.facts.Facts.{Facts, FactsHold, value_of, at, told}
use Rattle.ed_rules.specs.facts.EditedFacts.{Fresh, Edit, IsLeft, edited, entered_line, deletion, changing, joining, rewriting, adding, appending, copying, inserting}
use Rattle.ed_rules.specs.facts.EditHolds.{AreFresh, AreFreshIf, Stays, LetterStays, Takes, FactsAreLeft}
use Rattle.ed_rules.proofs.sound.LettersInLines.{line_with, line_with-range, line_with-take_before, line_with-append_right, line_with-drop, line_with-replaced_before, line_with-place, line_with-plain}
use Rattle.ed_rules.proofs.sound.Reading.{inserted-none}
use Rattle.ed_rules.proofs.sound.SubstitutionEffects.{one-between}
use Rattle.ed_rules.proofs.facts.FactsTold.{told-true}
use Rattle.ed_rules.proofs.facts.EditedLines.{sizes-of}
use Rattle.ed_rules.proofs.facts.EditedFacts.{edit-holds, stays-true}

-- a letter after what gives way moves by the difference, where lines are only put in too
line_with-after : (x : ℕ) (ls new : List Line) (a b i : ℕ) → line_with x ls ≡ Some i → line_with x new ≡ None → 1 ≤ a → a ≤ b + 1 → b < i → line_with x (exchanged (a - 1) b new ls) ≡ Some (i + length new - (b + 1 - a))
line_with-after x ls new a b i e n ha hab hb =
    let r = line_with-range x ls i e in
    let t : length (take (a - 1) ls) ≡ a - 1 = length-take-le (a - 1) ls (omega arith) in
    line_with-append_right x (take (a - 1) ls) _ _ (line_with-take_before x ls (a - 1) i e (omega arith))
    (line_with-append_right x new _ _ n (line_with-drop x ls b i e hb))
    ∙ ap Some (omega arith)

some-same : (i j : ℕ) → Some i ≡ Some j → i ≡ j
some-same i j e = cc

-- the numbers of a letter that stays, before and after
letter-moves : (zone : Bounds) (facts : Facts) (e : Edit) (marks after_marks : List Bool) (number after : Numbers) (old new : List Line) (a b current current' y : ℕ) →
    Holds zone number → FactsHold facts number old → e.from.name < 32 → e.to.name < 32 → value_of number e.from ≡ pos a → value_of number e.to ≡ pos b → 1 ≤ a → a ≤ b + 1 → b ≤ length old →
    Reads marks old current number → Reads after_marks (exchanged (a - 1) b new old) current' after → line_with y new ≡ None → LetterStays zone facts e marks after_marks y → Stays a b (length new) number after (mark y)
letter-moves zone facts e marks after_marks number after old new a b current current' y holds f from_named to_named from_is to_is from order inside r q none l =
    let i = r.marks_are y l.0 l.1 in
    let j = q.marks_are y l.0 l.2 in
    let old_place : line_with y old ≡ Some (i.0 + 1) = line_with-place y old i.0 i.1 in
    let new_place : line_with y (exchanged (a - 1) b new old) ≡ Some (j.0 + 1) = line_with-place y _ j.0 j.1 in
    let small = l.0 in
    let range = line_with-range y old (i.0 + 1) old_place in
    let is = i.2 in
    let js = j.2 in (
      omega arith,
      elim (stays-true zone facts e number old a b (mark y) (i.0 + 1) l.3 holds f from_named to_named from_is to_is from inside (omega arith) i.2 range.0 range.1) [
        | inl k ↦
            let same : i.0 + 1 ≡ j.0 + 1 = some-same _ _ (sym (line_with-replaced_before y old new a b (i.0 + 1) old_place k) ∙ new_place) in
            inl (omega (arith, ints), omega (arith, ints))
        | inr k ↦
            let same : i.0 + 1 + length new - (b + 1 - a) ≡ j.0 + 1 = some-same _ _ (sym (line_with-after y old new a b (i.0 + 1) old_place none from order k) ∙ new_place) in
            inr (omega (arith, ints), omega (arith, ints))
      ],
    )

-- an edit of lines, by numbers that are read before and after it
pub facts-left : (zone : Bounds) (facts : Facts) (e : Edit) (marks after_marks : List Bool) (number after : Numbers) (old new : List Line) (a b current current' : ℕ) (letters : List ℕ) →
    Holds zone number → FactsHold facts number old → e.from.name < 32 → e.to.name < 32 → value_of number e.from ≡ pos a → value_of number e.to ≡ pos b → 1 ≤ a → a ≤ b + 1 → b ≤ length old →
    Reads marks old current number → Reads after_marks (exchanged (a - 1) b new old) current' after → IsLeft a (length new) (length (exchanged (a - 1) b new old)) current' →
    ((y : ℕ) → line_with y new ≡ None) → AreFreshIf e.fresh new → All (LetterStays zone facts e marks after_marks) letters → (patterns : List (List ℕ)) →
    FactsHold (edited zone facts e (map mark letters) patterns) after (exchanged (a - 1) b new old)
facts-left zone facts e marks after_marks number after old new a b current current' letters holds f from_named to_named from_is to_is from order inside r q left none fresh all patterns =
    edit-holds zone facts e (map mark letters) number after old new a b current'
    (record {
      holds = holds;
      facts_hold = f;
      from_named = from_named;
      to_named = to_named;
      from_is = from_is;
      to_is = to_is;
      from = from;
      order = order;
      inside = inside;
      zero_is = r.zero_is;
      zero_after = q.zero_is;
      last_is = r.last_is;
      last_after = q.last_is;
      current_after = q.current_is;
      left = left;
      stay = All-map (Stays a b (length new) number after) (λ (y : ℕ). mark y) letters
          (All-weaker (LetterStays zone facts e marks after_marks) (λ (y : ℕ). Stays a b (length new) number after (mark y))
          (λ y l. letter-moves zone facts e marks after_marks number after old new a b current current' y holds f from_named to_named from_is to_is from order inside r q (none y) l) letters all);
      fresh = fresh;
    }) patterns

-- entered lines
pub entered-fresh : (text : List (List ℕ)) → AreFresh (map entered_line text) (map plain_line text)
entered-fresh [] = tt
entered-fresh (t ∷ text) = ((λ p answer e. let k : matches p t ≡ answer = cc in k), entered-fresh text)

pub at-first : (number : Numbers) (x n : ℕ) → number x ≡ pos n → value_of number (at x) ≡ pos n
at-first number x n e = omega (arith, ints)

-- LINES THAT ARE PUT IN

entered-lines : (a : ℕ) (ts : List (List ℕ)) (e : editor.State) → (effects.entered a ts e).state.lines ≡ inserted a (map plain_line ts) e.lines
entered-lines a [] e = sym (inserted-none a e.lines)
entered-lines a (t ∷ ts) e = refl

entered-current : (a : ℕ) (ts : List (List ℕ)) (e : editor.State) → (effects.entered a ts e).state.current ≡ a + length ts
entered-current a [] e = omega arith
entered-current a (t ∷ ts) e = refl

-- after a line, if any are
pub add-left : (zone : Bounds) (facts : Facts) (marks : List Bool) (number : Numbers) (e : editor.State) (x a : ℕ) (fresh : Option (List Fresh)) (ts : List (List ℕ)) →
    Holds zone number → FactsHold facts number e.lines → Reads marks e.lines e.current number → x < 32 → number x ≡ pos a → a ≤ length e.lines → AreFreshIf fresh (map plain_line ts) →
    FactsAreLeft zone facts marks (adding x fresh) (effects.entered a ts e).state
add-left zone facts marks number e x a fresh ts holds f r hx is inside known letters patterns after_marks after q all =
    let new : List Line = map plain_line ts in
    let made : editor.State = (effects.entered a ts e).state in
    let n : length new ≡ length ts = length-map ts plain_line in
    let current : made.current ≡ a + length ts = entered-current a ts e in
    let lines : made.lines ≡ exchanged (a + 1 - 1) a new e.lines =
    entered-lines a ts e ∙ ap (λ (k : ℕ). exchanged k a new e.lines) (let same : a ≡ a + 1 - 1 = omega arith in same) in
    subst (λ (ls : List Line). FactsHold (edited zone facts (adding x fresh) (map mark letters) patterns) after ls) (sym lines)
    (facts-left zone facts (adding x fresh) marks after_marks number after e.lines new (a + 1) a e.current made.current letters holds f hx hx (omega (arith, ints)) (at-first number x a is)
    (omega arith) (omega arith) inside r (subst (λ (ls : List Line). Reads after_marks ls made.current after) lines q) (inl (omega arith)) (λ y. line_with-plain y ts) known all patterns)

-- the copy of a line
copied-fresh : (zone : Bounds) (facts : Facts) (number : Numbers) (ls : List Line) (a b : ℕ) → Holds zone number → FactsHold facts number ls → number 3 ≡ pos a → number 4 ≡ pos b →
    1 ≤ a → a ≤ b → b ≤ length ls → AreFreshIf (copying zone facts).fresh (map plain_line (texts (between a b ls)))
copied-fresh zone facts number ls a b holds f first last from order inside =
    let new : List Line = map plain_line (texts (between a b ls)) in
    (elim (known zone 4 3 (pos 0)) as (λ c. known zone 4 3 (pos 0) ≡ c → AreFreshIf (cond c (Some (told zone facts 4 ∷ [])) None) new) [
      | true ↦ λ k.
          let d = known-true zone number 4 3 (pos 0) k (omega arith) (omega arith) holds in
          let same : b ≡ a = omega (arith, ints) in
          subst (λ (block : List Line). AreFreshIf (Some (told zone facts 4 ∷ [])) (map plain_line (texts block))) (sym (one-between ls a b from same (omega arith)))
          ((λ p answer e. told-true zone facts number ls 4 a p answer e (omega arith) holds f (last ∙ ap pos same) from (omega arith)), tt)
      | false ↦ λ k. tt
    ]) refl

-- `d`
pub delete-left : (zone : Bounds) (facts : Facts) (marks : List Bool) (number : Numbers) (e : editor.State) (x : Span) → Takes zone facts marks number e x → 1 ≤ x.first → x.first ≤ x.last → FactsAreLeft zone facts marks deletion (effects.delete x e).state
delete-left zone facts marks number e x t from order letters patterns after_marks after q all =
    let s = sizes-of e.lines [] x.first x.last from (omega arith) t.inside in
    let count : ℕ = length (exchanged (x.first - 1) x.last [] e.lines) in
    let size = s.left in
    let inside = t.inside in
    let left : IsLeft x.first 0 count (min x.first count) = inr (refl, elim (cases_lt count x.first) [ inl l ↦ inr (omega arith, omega arith) | inr l ↦ inl (omega arith) ]) in
    facts-left zone facts deletion marks after_marks number after e.lines [] x.first x.last e.current (min x.first count) letters t.holds t.facts_hold (omega arith) (omega arith)
    (at-first number 3 x.first t.first_is) (at-first number 4 x.last t.last_is) from (omega arith) t.inside t.reads q left (λ y. refl) tt all patterns

-- `c` with a text
pub change-left : (zone : Bounds) (facts : Facts) (marks : List Bool) (number : Numbers) (e : editor.State) (x : Span) (line : List ℕ) (more : List (List ℕ)) → Takes zone facts marks number e x → 1 ≤ x.first → x.first ≤ x.last →
    FactsAreLeft zone facts marks (changing (line ∷ more)) (effects.change (line ∷ more) x e).state
change-left zone facts marks number e x line more t from order letters patterns after_marks after q all =
    let new : List Line = map plain_line (line ∷ more) in
    let n : length new ≡ length (line ∷ more) = length-map (line ∷ more) plain_line in
    let left : IsLeft x.first (length new) (length (exchanged (x.first - 1) x.last new e.lines)) (x.first - 1 + length (line ∷ more)) = inl (omega arith) in
    facts-left zone facts (changing (line ∷ more)) marks after_marks number after e.lines new x.first x.last e.current (x.first - 1 + length (line ∷ more)) letters t.holds t.facts_hold (omega arith) (omega arith)
    (at-first number 3 x.first t.first_is) (at-first number 4 x.last t.last_is) from (omega arith) t.inside t.reads q left (λ y. line_with-plain y (line ∷ more)) (entered-fresh (line ∷ more)) all patterns

-- `a` with a text
pub append-left : (zone : Bounds) (facts : Facts) (marks : List Bool) (number : Numbers) (e : editor.State) (x : Span) (line : List ℕ) (more : List (List ℕ)) → Takes zone facts marks number e x → x.first ≤ length e.lines →
    FactsAreLeft zone facts marks (appending (line ∷ more)) (effects.append (line ∷ more) x e).state
append-left zone facts marks number e x line more t inside =
    add-left zone facts marks number e 3 x.first (Some (map entered_line (line ∷ more))) (line ∷ more) t.holds t.facts_hold t.reads (omega arith) t.first_is inside
    (entered-fresh (line ∷ more))

-- `i` with a text
pub insert-left : (zone : Bounds) (facts : Facts) (marks : List Bool) (number : Numbers) (e : editor.State) (x : Span) (line : List ℕ) (more : List (List ℕ)) → Takes zone facts marks number e x → 1 ≤ x.first → x.first ≤ length e.lines + 1 →
    FactsAreLeft zone facts marks (inserting (line ∷ more)) (effects.insert (line ∷ more) x e).state
insert-left zone facts marks number e x line more t from inside letters patterns after_marks after q all =
    let new : List Line = map plain_line (line ∷ more) in
    let n : length new ≡ length (line ∷ more) = length-map (line ∷ more) plain_line in
    let current : ℕ = x.first - 1 + length (line ∷ more) in
    let first = t.first_is in
    facts-left zone facts (inserting (line ∷ more)) marks after_marks number after e.lines new x.first (x.first - 1) e.current current letters t.holds t.facts_hold (omega arith) (omega arith)
    (at-first number 3 x.first t.first_is) (omega (arith, ints)) from (omega arith) (omega arith) t.reads q (inl (omega arith)) (λ y. line_with-plain y (line ∷ more)) (entered-fresh (line ∷ more)) all patterns

-- `j` of several lines
pub join-left : (zone : Bounds) (facts : Facts) (marks : List Bool) (number : Numbers) (e : editor.State) (x : Span) (joined : List ℕ) → Takes zone facts marks number e x → 1 ≤ x.first → x.first ≤ x.last →
    FactsAreLeft zone facts marks joining (effects.altered (replaced x.first x.last (plain_line joined ∷ []) e.lines) x.first e).state
join-left zone facts marks number e x joined t from order letters patterns after_marks after q all =
    facts-left zone facts joining marks after_marks number after e.lines (plain_line joined ∷ []) x.first x.last e.current x.first letters t.holds t.facts_hold (omega arith) (omega arith)
    (at-first number 3 x.first t.first_is) (at-first number 4 x.last t.last_is) from (omega arith) t.inside t.reads q (inl (omega arith)) (λ y. line_with-plain y (joined ∷ [])) ((λ p answer h. absurd cc), tt) all patterns

-- `s` of one line
pub rewrite-left : (zone : Bounds) (facts : Facts) (marks : List Bool) (number : Numbers) (e : editor.State) (x : Span) (fresh : Option (List Fresh)) (new : List Line) (made : editor.State) →
    Takes zone facts marks number e x → 1 ≤ x.first → x.first ≤ x.last → AreFreshIf fresh new → ((y : ℕ) → line_with y new ≡ None) →
    made.lines ≡ replaced x.first x.last new e.lines → made.current + 1 ≡ x.first + length new → FactsAreLeft zone facts marks (rewriting fresh) made
rewrite-left zone facts marks number e x fresh new made t from order known none is last letters patterns after_marks after q all =
    subst (λ (ls : List Line). FactsHold (edited zone facts (rewriting fresh) (map mark letters) patterns) after ls) (sym is)
    (facts-left zone facts (rewriting fresh) marks after_marks number after e.lines new x.first x.last e.current made.current letters t.holds t.facts_hold (omega arith) (omega arith)
    (at-first number 3 x.first t.first_is) (at-first number 4 x.last t.last_is) from (omega arith) t.inside t.reads
    (subst (λ (ls : List Line). Reads after_marks ls made.current after) is q) (inl last) none known all patterns)

-- `t`
pub copy-left : (zone : Bounds) (facts : Facts) (marks : List Bool) (number : Numbers) (e : editor.State) (x : Span) (target : ℕ) → Takes zone facts marks number e x → 1 ≤ x.first → x.first ≤ x.last →
    number 5 ≡ pos target → target ≤ length e.lines → FactsAreLeft zone facts marks (copying zone facts) (effects.copy x target e).state
copy-left zone facts marks number e x target t from order is inside =
    add-left zone facts marks number e 5 target (copying zone facts).fresh (texts (between x.first x.last e.lines)) t.holds t.facts_hold t.reads (omega arith) is inside
    (copied-fresh zone facts number e.lines x.first x.last t.holds t.facts_hold t.first_is t.last_is from order t.inside)
