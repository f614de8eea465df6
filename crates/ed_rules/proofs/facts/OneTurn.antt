-- The list of a `g` whose pattern one line alone matches is run once, for that line.
use Rattle.std.proofs.Common.{◌≡◌, ◌<◌, ◌≤◌, inl, inr, ℕ, ◌+◌, ◌-◌, pos, Bool, true, false, List, [], length, get_or, Option, Some, None, refl, sym, ap, subst, ◌∙◌, arith, get_or-set_same, get_or-set_other, length-set}
use Rattle.std.specs.Option.{option_map}
use Rattle.std.proofs.lemmas.Int.{ints}
use Rattle.std.proofs.lemmas.Bool.{cases_eq, cases_order, and_parts}
use Rattle.std.proofs.lemmas.List.{get_or_default}
use Rattle.std.proofs.lemmas.List.Quantifiers.{position-Some}
use Rattle.zones.specs.Zone.{Bounds, Numbers, Holds}
use Rattle.ed_base.specs.Buffer.{Line, plain_line, with_flag, flagged_at, flagged_place}
use Rattle.ed_syntax.specs.meaning.Values.{matches, matches_line}
use Rattle.ed_syntax.specs.meaning.States as editor
use Rattle.ed_syntax.specs.meaning.Globals.{taken_at, next_taken}
use Rattle.ed_rules.specs.facts.Facts.{ReadsEnds, Facts, FactsHold, IsTold, at, point, end, is_clear}
use Rattle.ed_rules.specs.facts.FoundLines.{is_only}
use Rattle.ed_rules.specs.GlobalSoundness.{FlaggedPass, passes_none}
use Rattle.ed_rules.specs.facts.OneTurn.{IsTakenOnce}
use Rattle.ed_rules.proofs.facts.FactsTold.{is_clear-true}

pub some-of : {A : Type 0} (o : Option ℕ) (g : ℕ → A) (f : A) → option_map g o ≡ Some f → (i : ℕ) × (o ≡ Some i) × (g i ≡ f)
some-of None g f e = absurd cc
some-of (Some i) g f e = let k : g i ≡ f = cc in (i, refl, k)

clash : (b : Bool) → b ≡ true → b ≡ false → ⊥
clash b e f = cc

-- a line that matches is the one that is known to match alone
alone : (zone : Bounds) (facts : Facts) (number : Numbers) (lines : List Line) (v : ℕ) (pattern : List ℕ) → Holds zone number → FactsHold facts number lines → ReadsEnds number lines → v < 32 →
    (t : IsTold (length lines) (matches_line pattern lines) (number v) true) → is_only zone facts pattern v ≡ true → (n : ℕ) → 1 ≤ n → n ≤ length lines → matches_line pattern lines n ≡ true → n ≡ t.line
alone zone facts number lines v pattern holds h r hv t only n from inside passes =
    let b = and_parts (is_clear zone facts (at 0) (at v) pattern) _ only in
    let before = is_clear-true zone facts number lines (at 0) (at v) pattern b.0 (omega arith) hv holds h in
    let after = is_clear-true zone facts number lines (at v) (point end) pattern b.1 hv (omega arith) holds h in
    let is = t.is in
    let z = r.zero_is in
    let l = r.last_is in
    elim (cases_order n t.line) [
      | inl same ↦ same
      | inr apart ↦ absurd (elim apart [
        | inl less ↦ clash (matches_line pattern lines n) passes (before n from inside (omega (arith, ints)) (omega (arith, ints)))
        | inr more ↦ clash (matches_line pattern lines n) passes (after n from inside (omega (arith, ints)) (omega (arith, ints)))
      ])
    ]

pub taken-once : (zone : Bounds) (facts : Facts) (number : Numbers) (e f : editor.State) (v : ℕ) (pattern : List ℕ) → Holds zone number → FactsHold facts number e.lines → ReadsEnds number e.lines → v < 32 →
    IsTold (length e.lines) (matches_line pattern e.lines) (number v) true → is_only zone facts pattern v ≡ true → FlaggedPass (matches pattern) e.lines → next_taken e ≡ Some f → IsTakenOnce number v f
taken-once zone facts number e f v pattern holds h r hv t only flagged taken =
    let none : Line = plain_line [] in
    let q = some-of (flagged_place e.lines) (taken_at e) f taken in
    let i : ℕ = q.0 in
    let p = position-Some (λ (l : Line). l.flag) e.lines i (plain_line []) q.1 in
    let here : i + 1 ≡ t.line = alone zone facts number e.lines v pattern holds h r hv t only (i + 1) (omega arith) (let k = p.0 in omega arith)
    (subst (λ (k : ℕ). matches pattern (get_or e.lines k (plain_line [])).bytes ≡ true) (let z : i ≡ i + 1 - 1 = omega arith in z) (flagged i (plain_line []) p.0 p.1)) in
    let line : Line = with_flag false (get_or e.lines i (plain_line [])) in
    let lines : List Line = flagged_at i false e.lines in
    let size : length lines ≡ length e.lines = length-set e.lines i line in
    let others : FlaggedPass passes_none lines = λ k d inside flag.
    let fits : k < length e.lines = omega arith in
    absurd (elim (cases_eq k i) [
      | inl same ↦
          let there : get_or lines i d ≡ line = get_or-set_same e.lines i line d p.0 in
          let off : (get_or lines k d).flag ≡ false = ap (λ (j : ℕ). (get_or lines j d).flag) same ∙ ap (λ (l : Line). l.flag) there in
          clash (get_or lines k d).flag flag off
      | inr other ↦
          let there : get_or lines k d ≡ get_or e.lines k d = get_or-set_other e.lines i k line d other in
          let on : (get_or e.lines k d).flag ≡ true = sym (ap (λ (l : Line). l.flag) there) ∙ flag in
          let passes : matches pattern (get_or e.lines k d).bytes ≡ true = flagged k d fits on in
          let default : get_or e.lines k d ≡ get_or e.lines k (plain_line []) = get_or_default e.lines k d (plain_line []) fits in
          let at_k : matches pattern (get_or e.lines (k + 1 - 1) (plain_line [])).bytes ≡ true =
          subst (λ (j : ℕ). matches pattern (get_or e.lines j (plain_line [])).bytes ≡ true) (let z : k ≡ k + 1 - 1 = omega arith in z) (subst (λ (l : Line). matches pattern l.bytes ≡ true) default passes) in
          let two : k + 1 ≡ t.line = alone zone facts number e.lines v pattern holds h r hv t only (k + 1) (omega arith) (omega arith) at_k in
          other (omega arith)
    ]) in
    let is = t.is in
    record {
      current_is = subst (λ (u : editor.State). number v ≡ pos u.current) q.2 (t.is ∙ ap pos (sym here));
      no_flags = subst (λ (u : editor.State). FlaggedPass passes_none u.lines) q.2 others;
    }
