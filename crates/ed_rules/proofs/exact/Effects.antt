-- What exact commands do: the state after a rule tells all of what the command leaves.
use Rattle.std.proofs.Common.{◌≡◌, ◌<◌, ◌≤◌, ◌+◌, ◌-◌, ℕ, suc, min, ℤ, pos, negsuc, ◌+ℤ◌, Bool, true, false, List, [], ◌∷◌, length, map, Some, Result, Ok, Err, arith, refl, ◌∙◌, ap, sym, subst, inl, inr}
use Rattle.std.proofs.Common.{◌&&◌, not}
use Rattle.std.specs.Prelude.{◌⊎◌}
use Rattle.std.proofs.lemmas.Int.{ints}
use Rattle.std.proofs.lemmas.Bool.{cases_lt, le-leb}
use Rattle.std.proofs.lemmas.List.{length-map}
use Rattle.std.specs.List.{concat}
use Rattle.ed_base.specs.declared.fault.Fault.{Fault}
use Rattle.ed_base.specs.declared.fault.Fault.TheVariants as fault
use Rattle.ed_base.specs.Buffer.{Line, plain_line, texts}
use Rattle.ed_base.specs.Parts as parts
use Rattle.zones.specs.Zone.{Bounds}
use Rattle.zones.specs.Known.{known, least, greatest}
use Rattle.zones.specs.Steps.{after_set, after_shift}
use Rattle.zones.specs.Bound.{sum_of}
use Rattle.ed_syntax.specs.meaning.States as editor
use Rattle.ed_syntax.specs.meaning.States.{kept}
use Rattle.ed_syntax.specs.meaning.Effects as effects
use Rattle.ed_syntax.specs.meaning.Effects.{Outcome, Effect, Makes, Asks, only, at_line}
use Rattle.ed_syntax.specs.meaning.Applied.{making, settled}
use Rattle.ed_syntax.specs.meaning.Ranges.{Span, span}
use Rattle.ed_syntax.specs.meaning.Values.{◌>>◌}
use Rattle.ed_rules.specs.declared.state.State.{State}
use Rattle.ed_rules.specs.Marks.{no_marks, for_each_sure}
use Rattle.ed_rules.specs.Pieces.{with_zone, modified, inserted, left_over, current_replaced, replaced, mark_replaced}
use Rattle.ed_rules.specs.Lines.{appended, put_before, current_inserted, changed_to, deleted, joined, copied_lines, current_at}
use Rattle.ed_rules.specs.Move.{moved_up, moved_down, is_target_told_apart, moved_zone, moved_lines}
use Rattle.ed_rules.specs.facts.Facts.{differ}
use Rattle.ed_rules.specs.LineBounds.{most_lines}
use Rattle.ed_rules.specs.ExactRules.{EndAlike}
use Rattle.ed_rules.proofs.exact.EndAlike.{EndAlike-ok, EndAlike-fault}
use Rattle.ed_rules.proofs.sound.LettersInLines.{length-inserted, length-replaced}
use Rattle.ed_rules.proofs.sound.Moving.{length-carried}
use Rattle.ed_rules.proofs.sound.Effects.{length-between, length-texts, move-up-is, move-down-is, join-changes, join-stays, entered-some}
use Rattle.ed_rules.proofs.exact.Zones.{At, At-knows, At-denies, At-set_current}
use Rattle.ed_rules.proofs.exact.Pieces.{small-line, for_each_sure-no_marks, At-current_inserted, At-inserted, At-deleted, At-replaced, At-moved_up, At-moved_down, At-copied}
use Rattle.ed_rules.proofs.exact.Addresses.{Sees, Sees-current}
use Rattle.ed_rules.proofs.exact.Spans.{Spans, FirstPlaces}

-- what a state knows of an editor, whatever is left of a command's addresses
pub record Seen (r : State) (e : editor.State) : Type 0 where
  pub names : ℕ
  pub first : ℤ
  pub second : ℤ
  pub target : ℤ
  pub enough : 3 ≤ names
  pub sees : Sees names first second target r e

-- What a command leaves once it is settled, unless it has too many lines. Where the current line is 0 a suffix fails, and there aren't more
-- lines than before.
abbrev pub Leaves : (listed : Bool) → editor.State → State → Effect → Type 0
Leaves listed start r (Makes o) = (1 ≤ o.state.current → length o.state.lines ≤ most_lines) → Seen r (settled listed (kept start) o)
Leaves listed start r (Asks q) = ⊥

-- an altered buffer
altered-seen : (listed : Bool) (s t : State) (start e : editor.State) (k m : ℕ) (a b u i j v : ℤ) (zone : Bounds) (lines : List Line)
    (current : ℕ) → Sees k a b u t e → 3 ≤ m →
    At zone m (pos current) (pos (length lines)) i j v → current ≤ length lines → length lines ≤ most_lines →
    Seen (modified listed s (with_zone zone t)) (settled listed (kept start) (effects.altered lines current e))
altered-seen listed s t start e k m a b u i j v zone lines current h m3 z inside few = record {
  names = m;
  first = i;
  second = j;
  target = v;
  enough = m3;
  sees = record { zone = z; marks = h.marks; names = h.names; changed = refl; inside = inside; few = few };
}

-- the buffer stays, and a line is current
at_line-seen : (listed : Bool) (t : State) (start e : editor.State) (k m : ℕ) (a b u i j v : ℤ) (zone : Bounds) (n : ℕ) (output : List ℕ) →
    Sees k a b u t e → 3 ≤ m →
    At zone m (pos n) (pos (length e.lines)) i j v → n ≤ length e.lines → Seen (with_zone zone t)
    (settled listed (kept start) (only (at_line n e) output))
at_line-seen listed t start e k m a b u i j v zone n output h m3 z inside = record {
  names = m;
  first = i;
  second = j;
  target = v;
  enough = m3;
  sees = Sees-current k m a b u i j v t e zone n h inside z;
}

pub stays-seen : (t : State) (e : editor.State) (k : ℕ) (a b u : ℤ) → Sees k a b u t e → 3 ≤ k → Seen t e
stays-seen t e k a b u h k3 = record { names = k; first = a; second = b; target = u; enough = k3; sees = h }

-- lines are entered after line n, the last of them is current, and the rule says so by the first address
entered-seen : (listed : Bool) (s t : State) (start e : editor.State) (n a : ℕ) (b : ℤ) (line : List ℕ) (more : List (List ℕ))
    (from to : ℤ) → Sees 5 (pos a) b (pos 0) t e → n ≤ length e.lines → pos (n + suc (length more)) ≡ pos a +ℤ to →
    length (parts.inserted n (map plain_line (line ∷ more)) e.lines) ≤ most_lines →
    Seen (modified listed s (with_zone
    (after_set (inserted 3 from (Some (pos (suc (length more)))) (Some (pos (suc (length more)))) t.marks t.zone) 1 3 to) t))
    (settled listed (kept start)
    (effects.altered (parts.inserted n (map plain_line (line ∷ more)) e.lines) (n + suc (length more)) e))
entered-seen listed s t start e n a b line more from to h inside is much =
    let text : List (List ℕ) = line ∷ more in
    let new : List Line = map plain_line text in
    let m : ℕ = suc (length more) in
    let size : length new ≡ m = length-map text plain_line in
    let lines : List Line = parts.inserted n new e.lines in
    let all : length lines ≡ length e.lines + m =
    length-inserted e.lines new n inside ∙ ap (λ (k : ℕ). length e.lines + k) size in
    let c : ℤ = pos e.current in
    let l : ℤ = pos (length lines) in
    let zone : List Bool → Bounds = λ (ms : List Bool). after_set (inserted 3 from (Some (pos m)) (Some (pos m)) ms t.zone) 1 3 to in
    let z0 = At-inserted t.zone 5 3 from (pos m) l c (pos (length e.lines)) (pos a) b (pos 0) h.zone (omega (arith, ints))
    (small-line (length lines) (omega arith)) in
    let z1 : At (zone no_marks) 5 (pos (n + m)) l (pos a) b (pos 0) =
    At-set_current (inserted 3 from (Some (pos m)) (Some (pos m)) no_marks t.zone) 5 c l (pos a) b (pos 0) z0 3 to (pos (n + m))
    (omega arith) (omega arith) is (small-line (n + m) (omega arith)) in
    altered-seen listed s t start e 5 5 (pos a) b (pos 0) (pos a) b (pos 0) (zone t.marks) lines (n + m) h (omega arith)
    (subst (λ (ms : List Bool). At (zone ms) 5 (pos (n + m)) l (pos a) b (pos 0)) (sym h.marks) z1) (omega arith) much

-- `a`
pub append-leaves : (listed : Bool) (text : List (List ℕ)) (s : State) (start : editor.State) (t : State) (e : editor.State) (n : ℕ) →
    Sees 5 (pos n) (pos n) (pos 0) t e → n ≤ length e.lines →
    Leaves listed start (appended listed s (length text) t) (Makes (effects.append text (span n n) e))
append-leaves listed [] s start t e n h i few =
    let f = h.few in
    at_line-seen listed t start e 5 5 (pos n) (pos n) (pos 0) (pos n) (pos n) (pos 0) (after_set t.zone 1 3 (pos 0)) n [] h (omega arith)
    (At-set_current t.zone 5 (pos e.current) (pos (length e.lines)) (pos n) (pos n) (pos 0) h.zone 3 (pos 0) (pos n) (omega arith)
    (omega arith) (omega (arith, ints)) (small-line n (omega arith))) i
append-leaves listed (line ∷ more) s start t e n h i few =
    let f = h.few in
    entered-seen listed s t start e n n (pos n) line more (pos 0) (pos (suc (length more))) h i (omega (arith, ints)) (few (omega arith))

-- `i`
pub insert-leaves : (listed : Bool) (text : List (List ℕ)) (s : State) (start : editor.State) (t : State) (e : editor.State) (x : Span) →
    FirstPlaces e t x →
    Leaves listed start (put_before listed s (length text) t) (Makes (effects.insert text x e))
insert-leaves listed [] s start t e x r few =
    let h = r.1 in
    let f = h.few in
    let b = r.0 in
    let i = r.3 in
    at_line-seen listed t start e 5 5 (pos x.first) b (pos 0) (pos x.first) b (pos 0) (current_inserted t.zone)
    (min x.first (length e.lines)) [] h (omega arith)
    (At-current_inserted t.zone 5 x.first (length e.lines) (pos e.current) b (pos 0) h.zone (omega arith) (omega arith) (omega arith))
    (omega arith)
insert-leaves listed (line ∷ more) s start t e x r few =
    let from = r.2 in
    let inside = r.3 in
    entered-seen listed s t start e (x.first - 1) x.first r.0 line more (negsuc 0) (pos (length more)) r.1 (omega arith)
    (omega (arith, ints))
    (few (omega arith))

-- REPLACEMENT

replaced-is : (n : ℕ) (t : State) → t.marks ≡ no_marks →
    replaced n t ≡ with_zone (after_set (current_replaced n (left_over t.zone t.zone)) 2 5 (pos n)) t
unfolding replaced
replaced-is n t none =
    ap (λ (u : State). with_zone (after_set (current_replaced n (left_over t.zone u.zone)) 2 5 (pos n)) u)
    (ap (λ (ms : List Bool). for_each_sure (mark_replaced t.zone n) ms 26 t) none ∙ for_each_sure-no_marks (mark_replaced t.zone n) 26 t (omega arith))

-- `d`
pub delete-leaves : (listed : Bool) (s : State) (start : editor.State) (t : State) (e : editor.State) (x : Span) → Spans e 5 (pos 0) t x →
    Leaves listed start (deleted listed s t) (Makes (effects.delete x e))
delete-leaves listed s start t e x r few =
    let h = r.sees in
    let f = h.few in
    let from = r.from in
    let order = r.order in
    let inside = r.inside in
    let lines : List Line = parts.replaced x.first x.last [] e.lines in
    let size = length-replaced e.lines [] x.first x.last from order inside in
    let left : ℕ = length lines in
    subst (λ (u : State). Seen (modified listed s u) (settled listed (kept start) (effects.delete x e))) (sym (replaced-is 0 t h.marks))
    (altered-seen listed s t start e 5 6 (pos x.first) (pos x.last) (pos 0) (pos x.first) (pos x.last) (pos left)
    (after_set (current_replaced 0 (left_over t.zone t.zone)) 2 5 (pos 0)) lines (min x.first left) h (omega arith)
    (At-deleted t.zone 5 x.first x.last (length e.lines) left (pos e.current) (pos 0) h.zone (omega arith) from order inside f
    (omega arith))
    (omega arith) (omega arith))

-- lines of which the last but m is the first addressed one
replace-seen : (listed : Bool) (s : State) (start : editor.State) (t : State) (e : editor.State) (x : Span) (new : List Line)
    (m current : ℕ) → Spans e 5 (pos 0) t x → length new ≡ suc m → current ≡ x.first + m →
    length (parts.replaced x.first x.last new e.lines) ≤ most_lines →
    Seen (modified listed s (replaced (suc m) t))
    (settled listed (kept start) (effects.altered (parts.replaced x.first x.last new e.lines) current e))
replace-seen listed s start t e x new m current r size at much =
    let h = r.sees in
    let f = h.few in
    let from = r.from in
    let order = r.order in
    let inside = r.inside in
    let lines : List Line = parts.replaced x.first x.last new e.lines in
    let all = length-replaced e.lines new x.first x.last from order inside in
    let left : ℕ = length e.lines - (x.last + 1 - x.first) in
    let total : length lines ≡ left + suc m = omega arith in
    let z = At-replaced t.zone 5 x.first x.last (length e.lines) left (pos e.current) (pos 0) h.zone (omega arith) from order inside f
    (omega arith) m (omega arith) (omega arith) in
    let zone : Bounds = after_set (current_replaced (suc m) (left_over t.zone t.zone)) 2 5 (pos (suc m)) in
    let z1 : At zone 6 (pos current) (pos (left + suc m)) (pos x.first) (pos x.last) (pos left) =
    subst (λ (n : ℕ). At zone 6 (pos n) (pos (left + suc m)) (pos x.first) (pos x.last) (pos left)) (sym at) z in
    let z2 : At zone 6 (pos current) (pos (length lines)) (pos x.first) (pos x.last) (pos left) =
    subst (λ (n : ℕ). At zone 6 (pos current) (pos n) (pos x.first) (pos x.last) (pos left)) (sym total) z1 in
    subst (λ (u : State). Seen (modified listed s u) (settled listed (kept start) (effects.altered lines current e)))
    (sym (replaced-is (suc m) t h.marks))
    (altered-seen listed s t start e 5 6 (pos x.first) (pos x.last) (pos 0) (pos x.first) (pos x.last) (pos left) zone lines current h
    (omega arith) z2 (omega arith) much)

-- `c`
pub change-leaves : (listed : Bool) (text : List (List ℕ)) (s : State) (start : editor.State) (t : State) (e : editor.State) (x : Span) →
    Spans e 5 (pos 0) t x →
    Leaves listed start (changed_to listed s (length text) t) (Makes (effects.change text x e))
change-leaves listed [] s start t e x r few = delete-leaves listed s start t e x r few
change-leaves listed (line ∷ more) s start t e x r few =
    let from = r.from in
    replace-seen listed s start t e x (map plain_line (line ∷ more)) (length more) (x.first - 1 + suc (length more)) r
    (length-map (line ∷ more) plain_line) (omega arith) (few (omega arith))

-- `j`
join-many : (listed : Bool) (s : State) (start : editor.State) (t : State) (e : editor.State) (x : Span) → Spans e 5 (pos 0) t x →
    x.first < x.last →
    Leaves listed start (modified listed s (replaced 1 t)) (Makes (effects.join x e))
join-many listed s start t e x r lt =
    let f = r.sees.few in
    let inside = r.inside in
    let line : Line = plain_line (concat (texts (parts.between x.first x.last e.lines))) in
    let size = length-replaced e.lines (line ∷ []) x.first x.last r.from r.order r.inside in
    subst (λ (o : Outcome). Leaves listed start (modified listed s (replaced 1 t)) (Makes o)) (sym (join-changes x e lt))
    (λ few. replace-seen listed s start t e x (line ∷ []) 0 x.first r refl (omega arith) (omega arith))

pub join-one : (listed : Bool) (start : editor.State) (t : State) (e : editor.State) (x : Span) → Spans e 5 (pos 0) t x → x.last ≤ x.first →
    Leaves listed start t (Makes (effects.join x e))
join-one listed start t e x r le =
    subst (λ (o : Outcome). Leaves listed start t (Makes o)) (sym (join-stays x e le))
    (λ few. stays-seen t e 5 (pos x.first) (pos x.last) (pos 0) r.sees (omega arith))

pub join-leaves : (listed : Bool) (s : State) (start : editor.State) (t : State) (e : editor.State) (x : Span) → Spans e 5 (pos 0) t x →
    Leaves listed start (joined listed s t) (Makes (effects.join x e))
join-leaves listed s start t e x r =
    let c = pos e.current in
    let l = pos (length e.lines) in
    let z = r.sees.zone in
    elim (cases_lt x.first x.last) [
      | inl lt ↦
          rw (
            At-denies t.zone 5 c l (pos x.first) (pos x.last) (pos 0) 4 3 (pos 0) z (omega arith) (omega arith) (omega arith) (omega arith)
                (omega (arith, ints)),
            At-knows t.zone 5 c l (pos x.first) (pos x.last) (pos 0) 3 4 (negsuc 0) z (omega arith) (omega arith) (omega arith)
                (omega arith) (omega (arith, ints)),
          )
          (join-many listed s start t e x r lt)
      | inr le ↦
          rw (At-knows t.zone 5 c l (pos x.first) (pos x.last) (pos 0) 4 3 (pos 0) z (omega arith) (omega arith) (omega arith) (omega arith)
          (omega (arith, ints)))
          (join-one listed start t e x r le)
    ]

-- `l`, `n`, `p` and the null command
pub write-leaves : (listed : Bool) (start : editor.State) (t : State) (e : editor.State) (x : Span) (y : ℕ) (output : List ℕ) →
    Spans e 5 (pos 0) t x → (y ≡ 4) →
    Leaves listed start (current_at y t) (Makes (only (at_line x.last e) output))
write-leaves listed start t e x y output r four few =
    let f = r.sees.few in
    let i = r.inside in
    rw four
    (at_line-seen listed t start e 5 5 (pos x.first) (pos x.last) (pos 0) (pos x.first) (pos x.last) (pos 0)
    (after_set t.zone 1 4 (pos 0)) x.last output r.sees (omega arith)
    (At-set_current t.zone 5 (pos e.current) (pos (length e.lines)) (pos x.first) (pos x.last) (pos 0) r.sees.zone 4 (pos 0) (pos x.last)
    (omega arith) (omega arith) (omega (arith, ints)) (small-line x.last (omega arith))) r.inside)

pub null-leaves : (listed : Bool) (start : editor.State) (t : State) (e : editor.State) (x : Span) (output : List ℕ) →
    Spans e 5 (pos 0) t x → x.first ≡ x.last →
    Leaves listed start (current_at 3 t) (Makes (only (at_line x.last e) output))
null-leaves listed start t e x output r same few =
    let f = r.sees.few in
    let i = r.inside in
    at_line-seen listed t start e 5 5 (pos x.first) (pos x.last) (pos 0) (pos x.first) (pos x.last) (pos 0)
    (after_set t.zone 1 3 (pos 0)) x.last output r.sees (omega arith)
    (At-set_current t.zone 5 (pos e.current) (pos (length e.lines)) (pos x.first) (pos x.last) (pos 0) r.sees.zone 3 (pos 0) (pos x.last)
    (omega arith) (omega arith) (omega (arith, ints)) (small-line x.last (omega arith))) r.inside

-- `m`
moved_zone-up : (apart : Bool) (marks : List Bool) (zone : Bounds) → known zone 5 3 (negsuc 0) ≡ true →
    moved_zone apart marks zone ≡ Ok (moved_up marks zone)
moved_zone-up apart marks zone e = rw e refl

moved_zone-down : (apart : Bool) (marks : List Bool) (zone : Bounds) → known zone 5 3 (negsuc 0) ≡ false → known zone 4 5 (negsuc 0) ≡ true →
    moved_zone apart marks zone ≡ Ok (moved_down marks zone)
moved_zone-down apart marks zone e f = rw (e, f) refl

moved_zone-refused : (apart : Bool) (marks : List Bool) (zone : Bounds) → known zone 5 3 (negsuc 0) ≡ false →
    known zone 4 5 (negsuc 0) ≡ false → apart ≡ false → moved_zone apart marks zone ≡ Err fault.Destination
moved_zone-refused apart marks zone e f g = rw (e, f, g) refl

-- a target that is known to be the moved line isn't told apart, nor one among several
apart-no : (follows one up down told : Bool) → (one ≡ false) ⊎ ((up ≡ true) × (down ≡ true)) → follows && (one && (not (up && down) && told)) ≡ false
apart-no false one up down told why = refl
apart-no true false up down told why = refl
apart-no true true true true told why = refl
apart-no true true false down told (inl e) = cc
apart-no true true false down told (inr e) = let k = e.0 in cc
apart-no true true true false told (inl e) = cc
apart-no true true true false told (inr e) = let k = e.1 in cc

move-refused : (x : Span) (target : ℕ) (e : editor.State) → x.first ≤ target → target ≤ x.last →
    effects.move x target e ≡ Err fault.Destination
move-refused x target e h k = rw (le-leb x.first target h, le-leb target x.last k, effects.move, effects.place_left) refl

module _ (listed : Bool) (s : State) (start : editor.State) (t : State) (e : editor.State) (x : Span) (target : ℕ)
    (r : Spans e 6 (pos target) t x) (target_in : target ≤ length e.lines) where
  c : ℤ
  c = pos e.current

  l : ℤ
  l = pos (length e.lines)

  moved-by : (zone : Bounds) → moved_zone (is_target_told_apart t) t.marks t.zone ≡ Ok zone → moved_lines listed s t ≡ Ok (modified listed s (with_zone zone t))
  moved-by zone is = ap (λ (z : Result Bounds Fault). z >> λ y. Ok (modified listed s (with_zone y t))) is

  move-up : target < x.first → EndAlike (Leaves listed start) (moved_lines listed s t) (making (effects.move x target e))
  move-up h =
      let z = r.sees.zone in
      let f = r.sees.few in
      let from = r.from in
      let order = r.order in
      let inside = r.inside in
      let a : ℕ = x.first - 1 in
      let lines : List Line = parts.carried a x.last target e.lines in
      let current : ℕ = target + length (parts.between x.first x.last e.lines) in
      let many : length (parts.between x.first x.last e.lines) ≡ x.last + 1 - x.first =
      length-between x.first x.last e.lines from order inside in
      let size : length lines ≡ length e.lines = length-carried e.lines a x.last target (omega arith) inside (omega arith) in
      let up = At-moved_up t.zone x.first x.last (length e.lines) target (pos e.current) z order inside target_in f in
      let up1 : At (moved_up no_marks t.zone) 6 (pos current) (pos (length e.lines)) (pos x.first) (pos x.last) (pos target) =
      subst (λ (n : ℕ). At (moved_up no_marks t.zone) 6 (pos (target + n)) (pos (length e.lines)) (pos x.first) (pos x.last) (pos target))
      (sym many) up in
      let up2 : At (moved_up no_marks t.zone) 6 (pos current) (pos (length lines)) (pos x.first) (pos x.last) (pos target) =
      subst (λ (n : ℕ). At (moved_up no_marks t.zone) 6 (pos current) (pos n) (pos x.first) (pos x.last) (pos target)) (sym size) up1 in
      let up3 : At (moved_up t.marks t.zone) 6 (pos current) (pos (length lines)) (pos x.first) (pos x.last) (pos target) =
      subst (λ (ms : List Bool). At (moved_up ms t.zone) 6 (pos current) (pos (length lines)) (pos x.first) (pos x.last) (pos target))
      (sym r.sees.marks) up2 in
      EndAlike-ok (Leaves listed start) (modified listed s (with_zone (moved_up t.marks t.zone) t))
      (Makes (effects.altered lines current e))
      (moved_lines listed s t) (making (effects.move x target e))
      (moved-by (moved_up t.marks t.zone)
      (moved_zone-up (is_target_told_apart t) t.marks t.zone
      (At-knows t.zone 6 (pos e.current) (pos (length e.lines)) (pos x.first) (pos x.last) (pos target) 5 3 (negsuc 0) z (omega arith)
      (omega arith) (omega arith) (omega arith) (omega (arith, ints)))))
      (ap (λ (y : Result Outcome Fault). making y) (move-up-is x target e h order))
      (λ few. altered-seen listed s t start e 6 6 (pos x.first) (pos x.last) (pos target) (pos x.first) (pos x.last) (pos target)
      (moved_up t.marks t.zone) lines current r.sees (omega arith) up3 (omega arith) (omega arith))

  move-down : x.last < target → EndAlike (Leaves listed start) (moved_lines listed s t) (making (effects.move x target e))
  move-down h =
      let z = r.sees.zone in
      let f = r.sees.few in
      let from = r.from in
      let order = r.order in
      let inside = r.inside in
      let a : ℕ = x.first - 1 in
      let place : ℕ = target - (x.last + 1 - x.first) in
      let lines : List Line = parts.carried a x.last place e.lines in
      let current : ℕ = place + length (parts.between x.first x.last e.lines) in
      let many : length (parts.between x.first x.last e.lines) ≡ x.last + 1 - x.first =
      length-between x.first x.last e.lines from order inside in
      let same : current ≡ target = omega arith in
      let size : length lines ≡ length e.lines = length-carried e.lines a x.last place (omega arith) inside (omega arith) in
      let down = At-moved_down t.zone x.first x.last (length e.lines) target (pos e.current) z order inside target_in f in
      let down1 : At (moved_down no_marks t.zone) 6 (pos current) (pos (length e.lines)) (pos x.first) (pos x.last) (pos target) =
      subst (λ (n : ℕ). At (moved_down no_marks t.zone) 6 (pos n) (pos (length e.lines)) (pos x.first) (pos x.last) (pos target))
      (sym same) down in
      let down2 : At (moved_down no_marks t.zone) 6 (pos current) (pos (length lines)) (pos x.first) (pos x.last) (pos target) =
      subst (λ (n : ℕ). At (moved_down no_marks t.zone) 6 (pos current) (pos n) (pos x.first) (pos x.last) (pos target)) (sym size) down1 in
      let down3 : At (moved_down t.marks t.zone) 6 (pos current) (pos (length lines)) (pos x.first) (pos x.last) (pos target) =
      subst (λ (ms : List Bool). At (moved_down ms t.zone) 6 (pos current) (pos (length lines)) (pos x.first) (pos x.last) (pos target))
      (sym r.sees.marks) down2 in
      EndAlike-ok (Leaves listed start) (modified listed s (with_zone (moved_down t.marks t.zone) t))
      (Makes (effects.altered lines current e))
      (moved_lines listed s t) (making (effects.move x target e))
      (moved-by (moved_down t.marks t.zone) (moved_zone-down (is_target_told_apart t) t.marks t.zone
      (At-denies t.zone 6 (pos e.current) (pos (length e.lines)) (pos x.first) (pos x.last) (pos target) 5 3 (negsuc 0) z (omega arith)
      (omega arith) (omega arith) (omega arith) (omega (arith, ints)))
      (At-knows t.zone 6 (pos e.current) (pos (length e.lines)) (pos x.first) (pos x.last) (pos target) 4 5 (negsuc 0) z (omega arith)
      (omega arith) (omega arith) (omega arith) (omega (arith, ints)))))
      (ap (λ (y : Result Outcome Fault). making y) (move-down-is x target e order h))
      (λ few. altered-seen listed s t start e 6 6 (pos x.first) (pos x.last) (pos target) (pos x.first) (pos x.last) (pos target)
      (moved_down t.marks t.zone) lines current r.sees (omega arith) down3 (omega arith) (omega arith))

  not-apart : x.first ≤ target → target ≤ x.last → is_target_told_apart t ≡ false
  not-apart low high =
      let z = r.sees.zone in
      apart-no t.follows (known t.zone 4 3 (pos 0)) (known t.zone 5 3 (pos 0)) (known t.zone 3 5 (pos 0)) (differ t.zone t.facts 5 3)
      (elim (cases_lt x.first x.last) [
        | inl several ↦ inl (At-denies t.zone 6 (pos e.current) (pos (length e.lines)) (pos x.first) (pos x.last) (pos target) 4 3 (pos 0) z (omega arith)
            (omega arith) (omega arith) (omega arith) (omega (arith, ints)))
        | inr one ↦ inr (
          At-knows t.zone 6 (pos e.current) (pos (length e.lines)) (pos x.first) (pos x.last) (pos target) 5 3 (pos 0) z (omega arith)
              (omega arith) (omega arith) (omega arith) (omega (arith, ints)),
          At-knows t.zone 6 (pos e.current) (pos (length e.lines)) (pos x.first) (pos x.last) (pos target) 3 5 (pos 0) z (omega arith)
              (omega arith) (omega arith) (omega arith) (omega (arith, ints)),
        )
      ])

  pub move-leaves : EndAlike (Leaves listed start) (moved_lines listed s t) (making (effects.move x target e))
  move-leaves = elim (cases_lt target x.first) [
    | inl up ↦ move-up up
    | inr not_up ↦ elim (cases_lt x.last target) [
      | inl down ↦ move-down down
      | inr not_down ↦
          let z = r.sees.zone in
          EndAlike-fault (Leaves listed start) fault.Destination (moved_lines listed s t) (making (effects.move x target e))
          (ap (λ (y : Result Bounds Fault). y >> λ w. Ok (modified listed s (with_zone w t))) (moved_zone-refused (is_target_told_apart t) t.marks t.zone
          (At-denies t.zone 6 (pos e.current) (pos (length e.lines)) (pos x.first) (pos x.last) (pos target) 5 3 (negsuc 0) z (omega arith)
          (omega arith) (omega arith) (omega arith) (omega (arith, ints)))
          (At-denies t.zone 6 (pos e.current) (pos (length e.lines)) (pos x.first) (pos x.last) (pos target) 4 5 (negsuc 0) z (omega arith)
          (omega arith) (omega arith) (omega arith) (omega (arith, ints))) (not-apart not_up not_down)))
          (ap (λ (y : Result Outcome Fault). making y) (move-refused x target e not_up not_down))
    ]
  ]

  -- `t`
  pub copy-leaves : Leaves listed start (copied_lines listed s t) (Makes (effects.copy x target e))
  copy-leaves =
      let z = r.sees.zone in
      let f = r.sees.few in
      let from = r.from in
      let order = r.order in
      let inside = r.inside in
      let ts : List (List ℕ) = texts (parts.between x.first x.last e.lines) in
      let n : length ts ≡ x.last + 1 - x.first = length-texts x.first x.last e.lines from order inside in
      let new : List Line = map plain_line ts in
      let size : length new ≡ length ts = length-map ts plain_line in
      let lines : List Line = parts.inserted target new e.lines in
      let all : length lines ≡ length e.lines + length ts =
      length-inserted e.lines new target target_in ∙ ap (λ (k : ℕ). length e.lines + k) size in
      subst (λ (o : Outcome). Leaves listed start (copied_lines listed s t) (Makes o)) (sym (entered-some target ts e (omega arith)))
      (λ few.
      let much : length lines ≤ most_lines = few (omega arith) in
      let zone : List Bool → Bounds = λ (ms : List Bool).
      after_shift (after_set
      (inserted 5 (pos 0) (sum_of (least t.zone 4 3) (Some (pos 1))) (sum_of (greatest t.zone 4 3) (Some (pos 1))) ms t.zone) 1 5 (pos 1)) 1
      (least t.zone 4 3) (greatest t.zone 4 3) in
      let z1 = At-copied t.zone x.first x.last (length e.lines) target (pos e.current) z order inside target_in f (length ts) (omega arith)
      (omega arith) in
      let z2 : At (zone no_marks) 6 (pos (target + length ts)) (pos (length lines)) (pos x.first) (pos x.last) (pos target) =
      subst (λ (m : ℕ). At (zone no_marks) 6 (pos (target + length ts)) (pos m) (pos x.first) (pos x.last) (pos target)) (sym all) z1 in
      let z3 : At (zone t.marks) 6 (pos (target + length ts)) (pos (length lines)) (pos x.first) (pos x.last) (pos target) =
      subst (λ (ms : List Bool). At (zone ms) 6 (pos (target + length ts)) (pos (length lines)) (pos x.first) (pos x.last) (pos target))
      (sym r.sees.marks) z2 in
      altered-seen listed s t start e 6 6 (pos x.first) (pos x.last) (pos target) (pos x.first) (pos x.last) (pos target)
      (zone t.marks) lines (target + length ts) r.sees (omega arith) z3 (omega arith) much)
