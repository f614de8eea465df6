-- What commands do, side by side.
use Rattle.std.proofs.Common.{◌≡◌, ◌<◌, ◌≤◌, ℕ, suc, ◌+◌, ◌-◌, ℤ, pos, negsuc, ◌-ℤ◌, ◌≤ℤ◌, Bool, true, false, List, [], ◌∷◌, length, map, Option, Some, arith, ◌∙◌, ap, refl, sym, subst, min, cond, inl, inr, take, length-drop, get_or, set, get_or-set_other}
use Rattle.std.proofs.lemmas.Int.{ints}
use Rattle.std.proofs.lemmas.List.{length-map}
use Rattle.ed_base.specs.Buffer.{Line, plain_line, texts, marked_at, KnowLetters}
use Rattle.zones.specs.Zone.{Bounds, Numbers, Holds, bound, updated}
use Rattle.zones.proofs.Soundness.{Holds-after_set, Holds-after_shift, Holds-after_guard, Holds-join_of, Holds-join_of_other, Obeys-bound, Obeys-sum_of}
use Rattle.ed_syntax.specs.meaning.Ranges.{Span}
use Rattle.ed_syntax.specs.meaning.States as editor
use Rattle.ed_syntax.specs.meaning.Effects as effects
use Rattle.ed_syntax.specs.meaning.Applied.{settled, past_after}
use Rattle.ed_syntax.specs.meaning.Effects.{Effect, Makes}
use Rattle.ed_syntax.specs.meaning.Applied.{making}
use Rattle.ed_syntax.specs.meaning.Values.{◌>>◌}
use Rattle.ed_base.specs.declared.fault.Fault.{Fault}
use Rattle.ed_base.specs.declared.fault.Fault.TheVariants as fault
use Rattle.ed_rules.specs.Move.{moved_up, moved_down, moved_either, is_target_told_apart, moved_lines}
use Rattle.ed_rules.specs.facts.Facts.{same, differ}
use Rattle.ed_rules.proofs.facts.FactsTold.{differ-true}
use Rattle.ed_rules.proofs.sound.Following.{FollowedHold}
use Rattle.std.proofs.lemmas.Bool.{and_parts}
use Rattle.ed_rules.proofs.Basics.{Agrees}
use Rattle.ed_rules.proofs.Basics.{Agrees-ok}
use Rattle.ed_rules.proofs.sound.Moving.{up-all, down-all, length-carried}
use Rattle.ed_rules.proofs.sound.Inserting.{Pushed}
use Rattle.std.proofs.Common.{Result, Ok, Err, nat_le, ◌&&◌, not}
use Rattle.std.proofs.lemmas.Bool.{le-leb, lt-leb}
use Rattle.ed_rules.specs.declared.state.State.{State}
use Rattle.ed_rules.proofs.sound.Weaker.{Stands-join, Stands-join_other}
use Rattle.std.specs.List.{concat}
use Rattle.std.proofs.lemmas.Bool.{cases_lt, cases_eq, lt-ltb, le-ltb}
use Rattle.std.proofs.lemmas.List.{length-take-le}
use Rattle.zones.specs.Bound.{Obeys, sum_of, negative_of}
use Rattle.zones.specs.Steps.{after_set, after_guard, after_shift}
use Rattle.ed_rules.proofs.sound.Lifting.{Holds-current_inserted}
use Rattle.ed_rules.specs.StandsFor.{Reads, HoldsBy, StandsBy, Remembers, AllowsPast}
use Rattle.ed_rules.proofs.sound.Standing.{StandsBy-current, StandsBy-guarded, Reads-current, Begins}
use Rattle.ed_rules.proofs.sound.Spans.{Spans, Ranges, InRange, Spans-by, Ranges-by}
use Rattle.ed_rules.proofs.sound.Finishing.{Follows}
use Rattle.ed_rules.proofs.sound.Flags.{kept-allowed}
use Rattle.ed_rules.proofs.sound.LettersInLines.{line_with-plain, length-inserted, length-replaced, line_with-marked, line_with-marked_other, length-marked}
use Rattle.ed_rules.proofs.sound.Replacing.{HoldsBy-replaced}
use Rattle.ed_rules.proofs.sound.Inserting.{OnLine, OnLine-reads, reads-OnLine, HoldsBy-inserted}
use Rattle.ed_rules.specs.Pieces.{undo_after, with_zone, modified, inserted, replaced}
use Rattle.ed_rules.specs.Lines.{appended, put_before, joined, copied_after, marked}
use Rattle.zones.specs.Known.{known}
use Rattle.ed_rules.specs.Order.{join}
use Rattle.zones.proofs.Known.{updated-same, updated-other, known-true, Obeys-twice_negative}
use Rattle.ed_rules.proofs.Basics.{Obeys-lowered}
use Rattle.ed_base.specs.Parts as parts
use Rattle.ed_syntax.specs.meaning.CommandLaws.{WellMarked}

-- what undo keeps of a change
past-after : (listed : Bool) (s u : State) (start e : editor.State) → Begins s start → AllowsPast u.undo e.past →
    AllowsPast (undo_after listed s u.undo) (past_after listed (editor.kept start) e.past)
past-after true s u start e st past = past
past-after false s u start e st past = kept-allowed s start st

-- an altered buffer, settled
altered-follows : (listed : Bool) (s u : State) (start e : editor.State) → Begins s start → Remembers u e → AllowsPast u.undo e.past →
    (lines : List Line) (current : ℕ) (v : Numbers) → HoldsBy u.zone u.marks lines current v →
    Follows listed start (modified listed s u) (Makes (effects.altered lines current e))
altered-follows listed s u start e st remembered past lines current v b =
    (v, record { buffer = b; remembered = remembered; changed = refl; past = past-after listed s u start e st past })

-- the same of a state that differs in its zone and its marks alone
pub altered-aside : (listed : Bool) (s t u : State) (start e : editor.State) → Begins s start → Remembers t e → AllowsPast t.undo e.past → u ≡ record t { zone = u.zone; marks = u.marks } →
    (lines : List Line) (current : ℕ) (v : Numbers) → HoldsBy u.zone u.marks lines current v →
    Follows listed start (modified listed s u) (Makes (effects.altered lines current e))
altered-aside listed s t u start e st remembered past aside lines current v b =
    altered-follows listed s u start e st
    (let P : State → Type 0 = λ (q : State). Remembers q e in subst P (sym aside) remembered)
    (let P : State → Type 0 = λ (q : State). AllowsPast q.undo e.past in subst P (sym aside) past) lines current v b

-- `a` of at least one line
append-some : (listed : Bool) (line : List ℕ) (more : List (List ℕ)) (s : State) (start : editor.State) → Begins s start → (t : State) (e : editor.State) (x : Span) → Spans t e x →
    Follows listed start (appended listed s (suc (length more)) t) (Makes (effects.append (line ∷ more) x e))
append-some listed line more s start st t e x r =
    let text : List (List ℕ) = line ∷ more in
    let new : List Line = map plain_line text in
    let n : length new ≡ suc (length more) = length-map text plain_line in
    let v : Numbers = r.numbers in
    let f = r.first_is in
    let b = r.stands.buffer in
    let i = HoldsBy-inserted 3 (pos 0) (Some (pos (suc (length more)))) (Some (pos (suc (length more)))) t.marks e.lines new x.first v (omega arith) (omega (arith, ints))
    (λ y h q. OnLine-reads y e.lines v (b.reads.marks_are y h q)) (λ y. line_with-plain y text) (omega (arith, ints)) (omega (arith, ints)) t.zone e.current r.first_in b in
    let to : ℕ = x.first + length text in
    let w3 : i.numbers 3 ≡ pos x.first = i.others 3 (omega arith) (omega arith) ∙ f in (
      updated i.numbers 1 (pos to),
      record {
        buffer = record {
          holds = Holds-after_set _ 1 3 (pos (suc (length more))) i.numbers (updated i.numbers 1 (pos to)) (omega arith) (omega arith) i.buffer.holds (updated-other i.numbers 1 (pos to)) (omega (arith, ints));
          reads = Reads-current t.marks (parts.inserted x.first new e.lines) e.current i.numbers to i.buffer.reads;
          inside = let k = r.first_in in omega (arith, length-inserted e.lines new x.first k);
        };
        remembered = r.stands.remembered;
        changed = refl;
        past = past-after listed s t start e st r.stands.past;
      },
    )

pub append-follows : (listed : Bool) (text : List (List ℕ)) (s : State) (start : editor.State) → Begins s start → (t : State) (e : editor.State) (x : Span) → Spans t e x →
    Follows listed start (appended listed s (length text) t) (Makes (effects.append text x e))
append-follows listed [] s start st t e x r =
    let f = r.first_is in
    (updated r.numbers 1 (pos x.first), StandsBy-current t e r.numbers 3 (pos 0) x.first (omega arith) (omega (arith, ints)) r.first_in r.stands)
append-follows listed (line ∷ more) s start st t e x r = append-some listed line more s start st t e x r

pub delete-follows : (listed : Bool) (s : State) (start : editor.State) → Begins s start → (t : State) (e : editor.State) (x : Span) → InRange e t x →
    Follows listed start (modified listed s (replaced 0 t)) (Makes (effects.delete x e))
delete-follows listed s start st t e x k =
    let r : Ranges t e x = k.0 in
    let hf = r.from in
    let hfl = r.order in
    let hlc = r.spans.last_in in
    let size : length (parts.replaced x.first x.last [] e.lines) ≡ length e.lines + x.first - (x.last + 1) = length-replaced e.lines [] x.first x.last hf hfl hlc ∙ (omega arith) in
    let q = HoldsBy-replaced t e x [] k (λ y. refl) (min x.first (length (parts.replaced x.first x.last [] e.lines))) (ap (min x.first) size) in
    altered-aside listed s t (replaced 0 t) start e st r.spans.stands.remembered r.spans.stands.past q.aside
    (parts.replaced x.first x.last [] e.lines) (min x.first (length (parts.replaced x.first x.last [] e.lines))) q.numbers q.buffer

-- `i`: t1 is the line before which the text goes, or 1
insert-none : (listed : Bool) (s : State) (start : editor.State) (t : State) (e : editor.State) (first : ℕ) (v : Numbers) → StandsBy t e v → v 3 ≡ pos first → first ≤ length e.lines + 1 →
    Follows listed start (put_before listed s 0 t) (Makes (effects.only (effects.at_line (min first (length e.lines)) e) []))
insert-none listed s start t e first v st f h =
    let b = st.buffer in
    let m : ℕ = min first (length e.lines) in (
      updated v 1 (pos m),
      record {
        buffer = record {
          holds = Holds-current_inserted first (length e.lines) e.current t.zone v b.holds b.reads.last_is f h;
          reads = Reads-current t.marks e.lines e.current v m b.reads;
          inside = omega arith;
        };
        remembered = st.remembered;
        changed = st.changed;
        past = st.past;
      },
    )

insert-some : (listed : Bool) (line : List ℕ) (more : List (List ℕ)) (s : State) (start : editor.State) → Begins s start → (t : State) (e : editor.State) (first : ℕ) (v : Numbers) →
    StandsBy t e v → v 3 ≡ pos first → 1 ≤ first → first ≤ length e.lines + 1 →
    Follows listed start (put_before listed s (suc (length more)) t) (Makes (effects.entered (first - 1) (line ∷ more) e))
insert-some listed line more s start st t e first v stands f from h =
    let text : List (List ℕ) = line ∷ more in
    let new : List Line = map plain_line text in
    let n : length new ≡ suc (length more) = length-map text plain_line in
    let b = stands.buffer in
    let i = HoldsBy-inserted 3 (negsuc 0) (Some (pos (suc (length more)))) (Some (pos (suc (length more)))) t.marks e.lines new (first - 1) v (omega arith) (omega (arith, ints))
    (λ y h q. OnLine-reads y e.lines v (b.reads.marks_are y h q)) (λ y. line_with-plain y text) (omega (arith, ints)) (omega (arith, ints)) t.zone e.current (omega arith) b in
    let to : ℕ = first - 1 + length text in
    let w3 : i.numbers 3 ≡ pos first = i.others 3 (omega arith) (omega arith) ∙ f in
    let inside : first - 1 ≤ length e.lines = omega arith in
    altered-follows listed s (with_zone (after_set (inserted 3 (negsuc 0) (Some (pos (suc (length more)))) (Some (pos (suc (length more)))) t.marks t.zone) 1 3 (pos (length more))) t) start e st stands.remembered stands.past
    (parts.inserted (first - 1) new e.lines) to (updated i.numbers 1 (pos to))
    (record {
      holds = Holds-after_set _ 1 3 (pos (length more)) i.numbers (updated i.numbers 1 (pos to)) (omega arith) (omega arith) i.buffer.holds (updated-other i.numbers 1 (pos to)) (omega (arith, ints));
      reads = Reads-current t.marks (parts.inserted (first - 1) new e.lines) e.current i.numbers to i.buffer.reads;
      inside = omega (arith, length-inserted e.lines new (first - 1) inside);
    })

pub insert-follows : (listed : Bool) (text : List (List ℕ)) (s : State) (start : editor.State) → Begins s start → (t : State) (e : editor.State) (x : Span) (v : Numbers) → StandsBy t e v → v 3 ≡ pos x.first →
    1 ≤ x.first → x.first ≤ length e.lines + 1 → Follows listed start (put_before listed s (length text) t) (Makes (effects.insert text x e))
insert-follows listed [] s start st t e x v stands f from h = insert-none listed s start t e x.first v stands f h
insert-follows listed (line ∷ more) s start st t e x v stands f from h = insert-some listed line more s start st t e x.first v stands f from h

-- `c`
pub change-follows : (listed : Bool) (text : List (List ℕ)) (s : State) (start : editor.State) → Begins s start → (t : State) (e : editor.State) (x : Span) → InRange e t x →
    Follows listed start (modified listed s (replaced (length text) t)) (Makes (effects.change text x e))
change-follows listed [] s start st t e x k = delete-follows listed s start st t e x k
change-follows listed (line ∷ more) s start st t e x k =
    let r : Ranges t e x = k.0 in
    let text : List (List ℕ) = line ∷ more in
    let new : List Line = map plain_line text in
    let n : length new ≡ length text = length-map text plain_line in
    let from = r.from in
    let q = HoldsBy-replaced t e x new k (λ y. line_with-plain y text) (x.first - 1 + length text) (omega arith) in
    subst (λ (m : ℕ). Follows listed start (modified listed s (replaced m t)) (Makes (effects.change text x e))) n
    (altered-aside listed s t (replaced (length new) t) start e st r.spans.stands.remembered r.spans.stands.past q.aside (parts.replaced x.first x.last new e.lines) (x.first - 1 + length text) q.numbers q.buffer)

-- `j`
pub join-changes : (x : Span) (e : editor.State) → x.first < x.last →
    effects.join x e ≡ effects.altered (parts.replaced x.first x.last (plain_line (concat (texts (parts.between x.first x.last e.lines))) ∷ []) e.lines) x.first e
join-changes x e h = rw (lt-ltb x.first x.last h, effects.join) refl

pub join-stays : (x : Span) (e : editor.State) → x.last ≤ x.first → effects.join x e ≡ effects.only e []
join-stays x e h = rw (le-ltb x.first x.last h, effects.join) refl

join-many : (listed : Bool) (s : State) (start : editor.State) → Begins s start → (t : State) (e : editor.State) (x : Span) → InRange e t x → x.first < x.last →
    Follows listed start (modified listed s (replaced 1 t)) (Makes (effects.join x e))
join-many listed s start st t e x k h =
    let r : Ranges t e x = k.0 in
    let line : List ℕ = concat (texts (parts.between x.first x.last e.lines)) in
    let new : List Line = plain_line line ∷ [] in
    let q = HoldsBy-replaced t e x new k (λ y. line_with-plain y (line ∷ [])) x.first (omega arith) in
    subst (λ (o : effects.Outcome). Follows listed start (modified listed s (replaced 1 t)) (Makes o)) (sym (join-changes x e h))
    (altered-aside listed s t (replaced 1 t) start e st r.spans.stands.remembered r.spans.stands.past q.aside (parts.replaced x.first x.last new e.lines) x.first q.numbers q.buffer)

pub join-one : (listed : Bool) (start : editor.State) (t : State) (e : editor.State) (x : Span) → Ranges t e x → x.last ≤ x.first → Follows listed start t (Makes (effects.join x e))
join-one listed start t e x r h =
    subst (λ (o : effects.Outcome). Follows listed start t (Makes o)) (sym (join-stays x e h)) (r.spans.numbers, r.spans.stands)

Ranges-guarded : (t : State) (e : editor.State) (x : Span) (a b : ℕ) (c : ℤ) (r : Ranges t e x) → a < 32 → b < 32 → (r.spans.numbers a -ℤ r.spans.numbers b) ≤ℤ c → Ranges (with_zone (after_guard t.zone a b c) t) e x
Ranges-guarded t e x a b c r ha hb h = Ranges-by r refl (StandsBy-guarded t e r.spans.numbers a b c ha hb h r.spans.stands)

InRange-guarded : (t : State) (e : editor.State) (x : Span) (a b : ℕ) (c : ℤ) (k : InRange e t x) → a < 32 → b < 32 → (k.0.spans.numbers a -ℤ k.0.spans.numbers b) ≤ℤ c →
    InRange e (with_zone (after_guard t.zone a b c) t) x
unfolding Ranges-by Spans-by
InRange-guarded t e x a b c k ha hb h =
    (Ranges-by k.0 refl (StandsBy-guarded t e k.0.spans.numbers a b c ha hb h k.0.spans.stands), k.1)

pub join-follows : (listed : Bool) (s : State) (start : editor.State) → Begins s start → (t : State) (e : editor.State) (x : Span) → InRange e t x →
    Follows listed start (joined listed s t) (Makes (effects.join x e))
join-follows listed s start st t e x range =
    let r : Ranges t e x = range.0 in
    let v : Numbers = r.spans.numbers in
    let f = r.spans.first_is in
    let l = r.spans.last_is in
    let order = r.order in
    let F : State → Type 0 = λ (u : State). Follows listed start u (Makes (effects.join x e)) in
    let many : State = modified listed s (replaced 1 (with_zone (after_guard t.zone 3 4 (negsuc 0)) t)) in
    let one : State = with_zone (after_guard t.zone 4 3 (pos 0)) t in
    (elim (known t.zone 4 3 (pos 0)) as (λ b. known t.zone 4 3 (pos 0) ≡ b → F (cond b t (cond (known t.zone 3 4 (negsuc 0)) (modified listed s (replaced 1 t)) (join many one)))) [
      | true ↦ λ k.
          let d = known-true t.zone v 4 3 (pos 0) k (omega arith) (omega arith) r.spans.stands.buffer.holds in
          join-one listed start t e x r (omega (arith, ints))
      | false ↦ λ _.
          (elim (known t.zone 3 4 (negsuc 0)) as (λ b. known t.zone 3 4 (negsuc 0) ≡ b → F (cond b (modified listed s (replaced 1 t)) (join many one))) [
            | true ↦ λ k.
                let d = known-true t.zone v 3 4 (negsuc 0) k (omega arith) (omega arith) r.spans.stands.buffer.holds in
                join-many listed s start st t e x range (omega (arith, ints))
            | false ↦ λ _.
                elim (cases_lt x.first x.last) [
                  | inl h ↦
                      let q = join-many listed s start st (with_zone (after_guard t.zone 3 4 (negsuc 0)) t) e x (InRange-guarded t e x 3 4 (negsuc 0) range (omega arith) (omega arith) (omega (arith, ints))) h in
                      Stands-join many one (settled listed (editor.kept start) (effects.join x e)) q
                  | inr h ↦
                      let q = join-one listed start one e x (Ranges-guarded t e x 4 3 (pos 0) r (omega arith) (omega arith) (omega (arith, ints))) h in
                      Stands-join_other many one (settled listed (editor.kept start) (effects.join x e)) q
                ]
          ]) refl
    ]) refl

-- `t`
pub entered-some : (a : ℕ) (ts : List (List ℕ)) (e : editor.State) → 1 ≤ length ts →
    effects.entered a ts e ≡ effects.altered (parts.inserted a (map plain_line ts) e.lines) (a + length ts) e
entered-some a [] e h = absurd (omega arith)
entered-some a (t ∷ ts) e h = refl

pub length-texts : (a b : ℕ) (ls : List Line) → 1 ≤ a → a ≤ b → b ≤ length ls → length (texts (parts.between a b ls)) ≡ b + 1 - a
length-texts a b ls h k l = length-map (parts.between a b ls) (λ (line : Line). line.bytes) ∙ length-drop (a - 1) (take b ls) ∙ (let q = length-take-le b ls l in omega arith)

pub copy-follows : (listed : Bool) (s : State) (start : editor.State) → Begins s start → (t : State) (e : editor.State) (x : Span) (target : ℕ) (r : Ranges t e x) → r.spans.numbers 5 ≡ pos target → target ≤ length e.lines →
    Follows listed start (modified listed s (copied_after (negative_of (bound t.zone 3 4)) (bound t.zone 4 3) t)) (Makes (effects.copy x target e))
copy-follows listed s start st t e x target r v5 inside =
    let v : Numbers = r.spans.numbers in
    let b = r.spans.stands.buffer in
    let f = r.spans.first_is in
    let l = r.spans.last_is in
    let ts : List (List ℕ) = texts (parts.between x.first x.last e.lines) in
    let from = r.from in
    let order = r.order in
    let n : length ts ≡ x.last + 1 - x.first = length-texts x.first x.last e.lines r.from r.order r.spans.last_in in
    let new : List Line = map plain_line ts in
    let size : length new ≡ length ts = length-map ts plain_line in
    let some : 1 ≤ length ts = omega arith in
    let low : Option ℤ = negative_of (bound t.zone 3 4) in
    let high : Option ℤ = bound t.zone 4 3 in
    let f1 : Obeys (v 4 -ℤ v 3) high = Obeys-bound t.zone 4 3 v (omega arith) (omega arith) b.holds in
    let f2 : Obeys (v 3 -ℤ v 4) (bound t.zone 3 4) = Obeys-bound t.zone 3 4 v (omega arith) (omega arith) b.holds in
    let i = HoldsBy-inserted 5 (pos 0) (sum_of low (Some (pos 1))) (sum_of high (Some (pos 1))) t.marks e.lines new target v (omega arith) (omega (arith, ints))
    (λ y h q. OnLine-reads y e.lines v (b.reads.marks_are y h q)) (λ y. line_with-plain y ts)
    (Obeys-sum_of (v 4 -ℤ v 3) (pos 1) _ high (Some (pos 1)) f1 (omega (arith, ints)) (omega (arith, ints)))
    (Obeys-lowered (v 3 -ℤ v 4) (pos 1) _ (bound t.zone 3 4) f2 (omega (arith, ints))) t.zone e.current inside b in
    let w : Numbers = i.numbers in
    let to : ℕ = target + length ts in
    let w5 : w 5 ≡ pos target = i.others 5 (omega arith) (omega arith) ∙ v5 in
    let w1 : Numbers = updated w 1 (pos (target + 1)) in
    let w2 : Numbers = updated w 1 (pos to) in
    let up : w2 1 -ℤ w1 1 ≡ v 4 -ℤ v 3 = omega (arith, ints) in
    let down : w1 1 -ℤ w2 1 ≡ v 3 -ℤ v 4 = omega (arith, ints) in
    let z : Bounds = inserted 5 (pos 0) (sum_of low (Some (pos 1))) (sum_of high (Some (pos 1))) t.marks t.zone in
    let h1 : Holds (after_set z 1 5 (pos 1)) w1 = Holds-after_set z 1 5 (pos 1) w w1 (omega arith) (omega arith) i.buffer.holds (updated-other w 1 (pos (target + 1))) (omega (arith, ints)) in
    let h2 : Holds (after_shift (after_set z 1 5 (pos 1)) 1 low high) w2 =
    Holds-after_shift (after_set z 1 5 (pos 1)) 1 low high w1 w2 (omega arith) h1 (λ p h. updated-other w 1 (pos to) p h ∙ sym (updated-other w 1 (pos (target + 1)) p h))
    (subst (λ (d : ℤ). Obeys d high) (sym up) f1) (Obeys-twice_negative (v 3 -ℤ v 4) _ (bound t.zone 3 4) f2 down) in
    subst (λ (o : effects.Outcome). Follows listed start (modified listed s (copied_after low high t)) (Makes o)) (sym (entered-some target ts e some))
    (altered-follows listed s (copied_after low high t) start e st r.spans.stands.remembered r.spans.stands.past (parts.inserted target new e.lines) to w2
    (record {
      holds = h2;
      reads = Reads-current t.marks (parts.inserted target new e.lines) e.current w to i.buffer.reads;
      inside = omega (arith, length-inserted e.lines new target inside);
    }))

-- `k`
pub mark-line : (letter : ℕ) (x : Span) (e : editor.State) (v : Numbers) (sure : List Bool) → letter < 26 → 1 ≤ x.last → x.last ≤ length e.lines → KnowLetters e.lines → Reads sure e.lines e.current v →
    (y : ℕ) → y < 26 → get_or (set sure letter true) y false ≡ true → OnLine y (marked_at (x.last - 1) letter e.lines) (updated v (6 + letter) (pos x.last))
mark-line letter x e v sure h from inside known r y hy q = elim (cases_eq y letter) [
  | inl s ↦ subst (λ (z : ℕ). OnLine z (marked_at (x.last - 1) letter e.lines) (updated v (6 + letter) (pos x.last))) (sym s)
      (x.last, line_with-marked letter e.lines (x.last - 1) h (omega arith) known ∙ ap Some (omega arith), updated-same v (6 + letter) (pos x.last))
  | inr n ↦
      let o = OnLine-reads y e.lines v (r.marks_are y hy (sym (get_or-set_other sure letter y true false n) ∙ q)) in
      (o.0, line_with-marked_other letter y e.lines (x.last - 1) n ∙ o.1, updated-other v (6 + letter) (pos x.last) (6 + y) (omega arith) ∙ o.2)
]

unfoldable pub mark-follows : (listed : Bool) (letter : ℕ) (start : editor.State) (t : State) (e : editor.State) (x : Span) (r : Ranges t e x) → x.first ≡ x.last → letter < 26 → KnowLetters e.lines →
    Follows listed start (marked letter t) (Makes (effects.mark letter x e))
mark-follows listed letter start t e x r same h known =
    let v : Numbers = r.spans.numbers in
    let b = r.spans.stands.buffer in
    let f = r.spans.first_is in
    let from = r.from in
    let inside = r.spans.last_in in
    let w : Numbers = updated v (6 + letter) (pos x.last) in
    let lines : List Line = marked_at (x.last - 1) letter e.lines in
    let size : length lines ≡ length e.lines = length-marked letter e.lines (x.last - 1) in (
      w,
      record {
        buffer = record {
          holds = Holds-after_set t.zone (6 + letter) 3 (pos 0) v w (omega arith) (omega arith) b.holds (updated-other v (6 + letter) (pos x.last)) (updated-same v (6 + letter) (pos x.last) ∙ omega (arith, ints));
          reads = record {
            zero_is = updated-other v (6 + letter) (pos x.last) 0 (omega arith) ∙ b.reads.zero_is;
            current_is = updated-other v (6 + letter) (pos x.last) 1 (omega arith) ∙ b.reads.current_is;
            last_is = updated-other v (6 + letter) (pos x.last) 2 (omega arith) ∙ b.reads.last_is ∙ ap pos (sym size);
            marks_are = λ y hy q. reads-OnLine y lines w (mark-line letter x e v t.marks h (omega arith) inside known b.reads y hy q);
          };
          inside = let k = b.inside in omega arith;
        };
        remembered = r.spans.stands.remembered;
        changed = r.spans.stands.changed;
        past = r.spans.stands.past;
      },
    )

-- `m`
pub length-between : (a b : ℕ) (ls : List Line) → 1 ≤ a → a ≤ b → b ≤ length ls → length (parts.between a b ls) ≡ b + 1 - a
length-between a b ls h k l = length-drop (a - 1) (take b ls) ∙ (let q = length-take-le b ls l in omega arith)

pub move-up-is : (x : Span) (target : ℕ) (e : editor.State) → target < x.first → x.first ≤ x.last →
    effects.move x target e ≡ Ok (effects.altered (parts.carried (x.first - 1) x.last target e.lines) (target + length (parts.between x.first x.last e.lines)) e)
move-up-is x target e h k = rw (lt-leb x.first target h, le-leb target x.last (omega arith), effects.move, effects.place_left) refl

-- a move by the two tests of its target
abbrev moved-by : (p q : Bool) → Span → (target : ℕ) → editor.State → Result effects.Outcome Fault
moved-by p q x target e =
    let moved = parts.between x.first x.last e.lines in
    let place = elim q as (λ _. ℕ) [ true ↦ target | false ↦ target - (x.last + 1 - x.first) ] in
    elim (p && q) as (λ _. Result effects.Outcome Fault) [
      | true ↦ Err fault.Destination
      | false ↦ Ok (effects.altered (parts.inserted place moved (parts.replaced x.first x.last [] e.lines)) (place + length moved) e)
    ]

pub move-down-is : (x : Span) (target : ℕ) (e : editor.State) → x.first ≤ x.last → x.last < target →
    effects.move x target e ≡ Ok (effects.altered (parts.carried (x.first - 1) x.last (target - (x.last + 1 - x.first)) e.lines)
    (target - (x.last + 1 - x.first) + length (parts.between x.first x.last e.lines)) e)
move-down-is x target e k h =
    ap (λ (p : Bool). moved-by p (nat_le target x.last) x target e) (le-leb x.first target (omega arith)) ∙ ap (λ (q : Bool). moved-by true q x target e) (lt-leb target x.last h)

pub move-within-is : (x : Span) (target : ℕ) (e : editor.State) → x.first ≤ target → target ≤ x.last → effects.move x target e ≡ Err fault.Destination
move-within-is x target e h k =
    ap (λ (p : Bool). moved-by p (nat_le target x.last) x target e) (le-leb x.first target h) ∙ ap (λ (q : Bool). moved-by true q x target e) (le-leb target x.last k)

-- the buffer after a move, by the marks
HoldsBy-moved : (marks : List Bool) (lines : List Line) (v u : Numbers) (current : ℕ) (zone : Bounds) → Pushed marks lines u 26 zone → u 0 ≡ pos 0 → u 1 ≡ pos current → u 2 ≡ pos (length lines) → current ≤ length lines →
    (w : Numbers) × HoldsBy zone marks lines current w
HoldsBy-moved marks lines v u current zone q u0 u1 u2 inside = (
  q.numbers,
  record {
    holds = q.holds;
    reads = record {
      zero_is = q.low 0 (omega arith) ∙ u0;
      current_is = q.low 1 (omega arith) ∙ u1;
      last_is = q.low 2 (omega arith) ∙ u2;
      marks_are = λ y h s. reads-OnLine y lines q.numbers (q.on_line y h s);
    };
    inside = inside;
  },
)

module _ (listed : Bool) (s : State) (start : editor.State) (st : Begins s start) (t : State) (e : editor.State) (x : Span) (target : ℕ)
    (r : Ranges t e x) (followed : FollowedHold t r.spans.numbers e.lines) (v5 : r.spans.numbers 5 ≡ pos target) (target_in : target ≤ length e.lines)
    (marked : WellMarked e.lines) where
  -- what a move up leaves, with any zone that holds before it
  abbrev up_lines : List Line
  up_lines = parts.carried (x.first - 1) x.last target e.lines

  abbrev up_current : ℕ
  up_current = target + length (parts.between x.first x.last e.lines)

  up-holds : target < x.first → (zone : Bounds) → Holds zone r.spans.numbers → (w : Numbers) × HoldsBy (moved_up t.marks zone) t.marks up_lines up_current w
  up-holds h zone holds =
      let v : Numbers = r.spans.numbers in
      let b = r.spans.stands.buffer in
      let from = r.from in
      let order = r.order in
      let inside = r.spans.last_in in
      let a : ℕ = x.first - 1 in
      let f : v 3 ≡ pos (a + 1) = r.spans.first_is ∙ ap pos (omega arith) in
      let lines : List Line = parts.carried a x.last target e.lines in
      let current : ℕ = target + length (parts.between x.first x.last e.lines) in
      let many : length (parts.between x.first x.last e.lines) ≡ x.last + 1 - x.first = length-between x.first x.last e.lines from order inside in
      let same : current ≡ target + (x.last - a) = omega arith in
      let size : length lines ≡ length e.lines = length-carried e.lines a x.last target (omega arith) inside (omega arith) in
      let q = up-all e.lines a x.last target (omega arith) inside marked t.marks zone v holds f r.spans.last_is v5
      (λ y hy k. OnLine-reads y e.lines v (b.reads.marks_are y hy k)) (omega arith) in
      let u : Numbers = updated v 1 (pos (target + (x.last - a))) in
      HoldsBy-moved t.marks lines v u current (moved_up t.marks zone) q b.reads.zero_is (ap pos (sym same)) (b.reads.last_is ∙ ap pos (sym size)) (omega arith)

  up-follows : target < x.first → (zone : Bounds) (w : Numbers) → HoldsBy zone t.marks up_lines up_current w →
      Agrees (Follows listed start) (Ok (modified listed s (with_zone zone t))) (making (effects.move x target e))
  up-follows h zone w b =
      Agrees-ok (Follows listed start) _ (Makes (effects.altered up_lines up_current e)) (making (effects.move x target e))
      (ap (λ (y : Result effects.Outcome Fault). making y) (move-up-is x target e h r.order))
      (altered-follows listed s (with_zone zone t) start e st r.spans.stands.remembered r.spans.stands.past up_lines up_current w b)

  move-up : target < x.first → Agrees (Follows listed start) (Ok (modified listed s (with_zone (moved_up t.marks t.zone) t))) (making (effects.move x target e))
  move-up h = let o = up-holds h t.zone r.spans.stands.buffer.holds in up-follows h (moved_up t.marks t.zone) o.0 o.1

  -- the same of a move down
  abbrev down_lines : List Line
  down_lines = parts.carried (x.first - 1) x.last (target - (x.last + 1 - x.first)) e.lines

  abbrev down_current : ℕ
  down_current = target - (x.last + 1 - x.first) + length (parts.between x.first x.last e.lines)

  down-holds : x.last < target → (zone : Bounds) → Holds zone r.spans.numbers → (w : Numbers) × HoldsBy (moved_down t.marks zone) t.marks down_lines down_current w
  down-holds h zone holds =
      let v : Numbers = r.spans.numbers in
      let b = r.spans.stands.buffer in
      let from = r.from in
      let order = r.order in
      let inside = r.spans.last_in in
      let a : ℕ = x.first - 1 in
      let f : v 3 ≡ pos (a + 1) = r.spans.first_is ∙ ap pos (omega arith) in
      let away : x.last + 1 - x.first ≡ x.last - a = omega arith in
      let lines : List Line = parts.carried a x.last (target - (x.last + 1 - x.first)) e.lines in
      let current : ℕ = target - (x.last + 1 - x.first) + length (parts.between x.first x.last e.lines) in
      let many : length (parts.between x.first x.last e.lines) ≡ x.last + 1 - x.first = length-between x.first x.last e.lines from order inside in
      let same : current ≡ target = omega arith in
      let size : length lines ≡ length e.lines = length-carried e.lines a x.last (target - (x.last + 1 - x.first)) (omega arith) inside (omega arith) in
      let q = down-all e.lines a x.last target (omega arith) inside marked t.marks zone v holds f r.spans.last_is v5
      (λ y hy k. OnLine-reads y e.lines v (b.reads.marks_are y hy k)) h target_in in
      let u : Numbers = updated v 1 (pos target) in
      let at : Pushed t.marks lines u 26 (moved_down t.marks zone) = subst (λ (n : ℕ). Pushed t.marks (parts.carried a x.last (target - n) e.lines) u 26 (moved_down t.marks zone)) (sym away) q in
      HoldsBy-moved t.marks lines v u current (moved_down t.marks zone) at b.reads.zero_is (ap pos (sym same)) (b.reads.last_is ∙ ap pos (sym size)) (omega arith)

  down-follows : x.last < target → (zone : Bounds) (w : Numbers) → HoldsBy zone t.marks down_lines down_current w →
      Agrees (Follows listed start) (Ok (modified listed s (with_zone zone t))) (making (effects.move x target e))
  down-follows h zone w b =
      Agrees-ok (Follows listed start) _ (Makes (effects.altered down_lines down_current e)) (making (effects.move x target e))
      (ap (λ (y : Result effects.Outcome Fault). making y) (move-down-is x target e r.order h))
      (altered-follows listed s (with_zone zone t) start e st r.spans.stands.remembered r.spans.stands.past down_lines down_current w b)

  move-down : x.last < target → Agrees (Follows listed start) (Ok (modified listed s (with_zone (moved_down t.marks t.zone) t))) (making (effects.move x target e))
  move-down h = let o = down-holds h t.zone r.spans.stands.buffer.holds in down-follows h (moved_down t.marks t.zone) o.0 o.1

  -- the line is told from the target's, so that is above it or after it, where it is a line at all
  target-differs : is_target_told_apart t ≡ true → x.first ≤ target → target ≤ x.last → ⊥
  target-differs k low high =
      let v : Numbers = r.spans.numbers in
      let holds = r.spans.stands.buffer.holds in
      let p = and_parts t.follows _ k in
      let q = and_parts (known t.zone 4 3 (pos 0)) _ p.1 in
      let w = and_parts (not (same t.zone 5 3)) (differ t.zone t.facts 5 3) q.1 in
      let d = known-true t.zone v 4 3 (pos 0) q.0 (omega arith) (omega arith) holds in
      let f = r.spans.first_is in
      let l = r.spans.last_is in
      let from = r.from in
      let inside = r.spans.first_in in
      let one : target ≡ x.first = omega (arith, ints) in
      differ-true t.zone t.facts v e.lines 5 3 target x.first w.1 (omega arith) (omega arith) holds (followed p.0) v5 (omega arith) target_in f from inside one

  move-either : is_target_told_apart t ≡ true → Agrees (Follows listed start) (Ok (modified listed s (with_zone (moved_either t.marks t.zone) t))) (making (effects.move x target e))
  unfolding moved_either
  move-either k =
      let v : Numbers = r.spans.numbers in
      let holds = r.spans.stands.buffer.holds in
      let f = r.spans.first_is in
      let l = r.spans.last_is in
      let above : Bounds = after_guard t.zone 5 3 (negsuc 0) in
      let below : Bounds = after_guard t.zone 4 5 (negsuc 0) in
      elim (cases_lt target x.first) [
        | inl up ↦
            let o = up-holds up above (Holds-after_guard t.zone 5 3 (negsuc 0) v (omega arith) (omega arith) holds (omega (arith, ints))) in
            up-follows up (moved_either t.marks t.zone) o.0
            (record { holds = Holds-join_of (moved_up t.marks above) (moved_down t.marks below) o.0 (o.1).holds; reads = (o.1).reads; inside = (o.1).inside })
        | inr low ↦ elim (cases_lt x.last target) [
          | inl down ↦
              let o = down-holds down below (Holds-after_guard t.zone 4 5 (negsuc 0) v (omega arith) (omega arith) holds (omega (arith, ints))) in
              down-follows down (moved_either t.marks t.zone) o.0
              (record { holds = Holds-join_of_other (moved_up t.marks above) (moved_down t.marks below) o.0 (o.1).holds; reads = (o.1).reads; inside = (o.1).inside })
          | inr high ↦ absurd (target-differs k low high)
        ]
      ]

  pub move-follows : Agrees (Follows listed start) (moved_lines listed s t) (making (effects.move x target e))
  move-follows =
      let v : Numbers = r.spans.numbers in
      let f = r.spans.first_is in
      let l = r.spans.last_is in
      let y : Result Effect Fault = making (effects.move x target e) in
      let go : Bounds → Result State Fault = λ (z : Bounds). Ok (modified listed s (with_zone z t)) in
      let either : Result Bounds Fault = cond (is_target_told_apart t) (Ok (moved_either t.marks t.zone)) (Err fault.Destination) in
      (elim (known t.zone 5 3 (negsuc 0)) as (λ c. known t.zone 5 3 (negsuc 0) ≡ c →
      Agrees (Follows listed start) (cond c (Ok (moved_up t.marks t.zone)) (cond (known t.zone 4 5 (negsuc 0)) (Ok (moved_down t.marks t.zone)) either) >> go) y) [
        | true ↦ λ k.
            let d = known-true t.zone v 5 3 (negsuc 0) k (omega arith) (omega arith) r.spans.stands.buffer.holds in
            move-up (omega (arith, ints))
        | false ↦ λ _.
            (elim (known t.zone 4 5 (negsuc 0)) as (λ c. known t.zone 4 5 (negsuc 0) ≡ c → Agrees (Follows listed start) (cond c (Ok (moved_down t.marks t.zone)) either >> go) y) [
              | true ↦ λ k.
                  let d = known-true t.zone v 4 5 (negsuc 0) k (omega arith) (omega arith) r.spans.stands.buffer.holds in
                  move-down (omega (arith, ints))
              | false ↦ λ _.
                  (elim (is_target_told_apart t) as (λ c. is_target_told_apart t ≡ c → Agrees (Follows listed start) (cond c (Ok (moved_either t.marks t.zone)) (Err fault.Destination) >> go) y) [
                    | true ↦ λ k. move-either k
                    | false ↦ λ _. tt
                  ]) refl
            ]) refl
      ]) refl
