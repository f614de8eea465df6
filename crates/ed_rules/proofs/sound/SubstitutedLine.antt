-- What `s` does to lines: one, outside of lists, gives way to the lines that come of it, and a range to what comes of each of its lines.
use Rattle.std.proofs.Common.{◌≡◌, ◌≤◌, ℕ, ◌+◌, ◌-◌, Bool, true, false, List, [], ◌∷◌, map, take, length, Option, None, Some, Result, Ok, Err, IfOk, refl, sym, ap, subst, ◌∙◌, arith, All}
use Rattle.std.specs.Prelude.{slice_index_or}
use Rattle.std.proofs.lemmas.List.{append-nil}
use Rattle.std.proofs.lemmas.List.Elements.{All-head, All-take, All-drop}
use Rattle.ed_base.specs.declared.fault.Fault.{Fault}
use Rattle.ed_base.specs.Buffer.{Line, plain_line}
use Rattle.ed_base.specs.Lines.{IsLine}
use Rattle.ed_base.specs.Parts.{between, replaced}
use Rattle.ed_syntax.specs.declared.replacement.Part.{Part}
use Rattle.ed_syntax.specs.declared.replacement.Which.{Which}
use Rattle.ed_syntax.specs.Commands.{Form}
use Rattle.ed_syntax.specs.meaning.States as editor
use Rattle.ed_syntax.specs.meaning.Ranges.{Span}
use Rattle.ed_syntax.specs.meaning.Values.{used_pattern}
use Rattle.ed_syntax.specs.meaning.CommandLaws.{AreWhole}
use Rattle.ed_syntax.specs.meaning.Effects.{Outcome}
use Rattle.ed_syntax.specs.meaning.Applied.{making}
use Rattle.ed_syntax.specs.meaning.SubstitutedLines.{made_of, Results, onto, each, used_replacement, made, substitute}
use Rattle.ed_syntax.proofs.meaning.ResultLemmas.{IfOk-bind}
use Rattle.ed_rules.proofs.sound.Outcomes.{always, OnMade}
use Rattle.ed_rules.proofs.sound.SubstitutionEffects.{one-between}
use Rattle.ed_rules.proofs.facts.FactsSpared.{none-made, replaced-same}
use Rattle.std.proofs.lemmas.Result.{IfOk-weaker}

-- the first line of a span
abbrev pub line_of : Span → editor.State → Line
line_of x e = slice_index_or e.lines (x.first - 1) (plain_line [])

-- the line of the span gave way to what the substitution made of it, the last of these lines current, by what is remembered then
pub record IsRewritten (choice : Which) (x : Span) (e : editor.State) (o : Outcome) : Type 0 where
  pub text : List ℕ
  pub parts : List Part
  pub new : List (List ℕ)
  pub looked_for : o.state.pattern ≡ Some text
  pub remembered : o.state.replacement ≡ Some parts
  pub whole : IsLine (line_of x e).bytes
  pub made : made_of text parts choice (line_of x e).bytes ≡ Some new
  pub lines : o.state.lines ≡ replaced x.first x.last (map plain_line new) e.lines
  pub current : o.state.current + 1 ≡ x.first + length new

module _ (text : List ℕ) (parts : List Part) (choice : Which) (form : Option Form) (x : Span) (e : editor.State) (from : 1 ≤ x.first) where
  abbrev begun : editor.State
  begun = record e { pattern = Some text; replacement = Some parts }

  -- one line
  line-rewritten : IsLine (line_of x e).bytes → (o : Option (List (List ℕ))) → made_of text parts choice (line_of x e).bytes ≡ o →
      IfOk (made false form x begun (onto (line_of x e) o ([], None))) (IsRewritten choice x e)
  line-rewritten h None is = tt
  line-rewritten h (Some texts) is = record {
    text = text;
    parts = parts;
    new = texts;
    looked_for = refl;
    remembered = refl;
    whole = h;
    made = is;
    lines = ap (λ (ls : List Line). replaced x.first x.last ls e.lines) (append-nil (map plain_line texts));
    current = omega arith;
  }

  pub range-rewritten : x.last ≡ x.first → x.first ≤ length e.lines → AreWhole e.lines →
      IfOk (made false form x begun (each (made_of text parts choice) (between x.first x.last e.lines))) (IsRewritten choice x e)
  range-rewritten one inside whole =
      let Whole : Line → Type 0 = λ (line : Line). IsLine line.bytes in
      let only : between x.first x.last e.lines ≡ line_of x e ∷ [] = one-between e.lines x.first x.last from one inside in
      let bytes : IsLine (line_of x e).bytes =
      All-head Whole (line_of x e) [] (subst (λ (ls : List Line). All Whole ls) only (All-drop Whole (x.first - 1) (take x.last e.lines) (All-take Whole x.last e.lines whole))) in
      subst (λ (ls : List Line). IfOk (made false form x begun (each (made_of text parts choice) ls)) (IsRewritten choice x e)) (sym only)
      (line-rewritten bytes (made_of text parts choice (line_of x e).bytes) refl)

making-made : (P : Outcome → Type 0) (r : Result Outcome Fault) → IfOk r P → OnMade P (making r)
making-made P (Ok o) h = h
making-made P (Err f) h = tt

-- `s` of one line
pub substitute-rewrites : (pattern : Option (List ℕ)) (replacement : Option (List Part)) (choice : Which) (form : Option Form) (x : Span) (e : editor.State) → 1 ≤ x.first →
    x.last ≡ x.first → x.first ≤ length e.lines → AreWhole e.lines → OnMade (IsRewritten choice x e) (making (substitute false pattern replacement choice form x e))
substitute-rewrites pattern replacement choice form x e from one inside whole =
    making-made (IsRewritten choice x e) (substitute false pattern replacement choice form x e)
    (IfOk-bind (λ (_ : List Part). Unit {0}) (IsRewritten choice x e) (used_replacement false replacement e) _ (always (used_replacement false replacement e))
    (λ parts _. IfOk-bind (λ (_ : List ℕ). Unit {0}) (IsRewritten choice x e) (used_pattern pattern e) _ (always (used_pattern pattern e))
    (λ text _. range-rewritten text parts choice form x e from one inside whole)))

-- A RANGE

-- what comes of each line of the span is in its place, by what is remembered then
pub record IsPut (choice : Which) (x : Span) (e : editor.State) (o : Outcome) : Type 0 where
  pub text : List ℕ
  pub parts : List Part
  pub looked_for : o.state.pattern ≡ Some text
  pub remembered : o.state.replacement ≡ Some parts
  pub lines : o.state.lines ≡ replaced x.first x.last (each (made_of text parts choice) (between x.first x.last e.lines)).0 e.lines

module _ (text : List ℕ) (parts : List Part) (form : Option Form) (x : Span) (e : editor.State) where
  abbrev used : editor.State
  used = record e { pattern = Some text; replacement = Some parts }

  abbrev IsOf : Results → Outcome → Type 0
  IsOf results o = (o.state.pattern ≡ Some text) × (o.state.replacement ≡ Some parts) × (o.state.lines ≡ replaced x.first x.last results.0 e.lines)

  range-made : (listed : Bool) (made_lines : Results) → (made_lines.1 ≡ None → replaced x.first x.last made_lines.0 e.lines ≡ e.lines) →
      IfOk (made listed form x used made_lines) (IsOf made_lines)
  range-made true (ls, None) same = (refl, refl, sym (same refl))
  range-made false (ls, None) same = tt
  range-made listed (ls, Some n) same = (refl, refl, refl)

  range-put : (choice : Which) (listed : Bool) → x.first ≤ x.last → IfOk (made listed form x used (each (made_of text parts choice) (between x.first x.last e.lines))) (IsPut choice x e)
  range-put choice listed order =
      let results : Results = each (made_of text parts choice) (between x.first x.last e.lines) in
      let same : results.1 ≡ None → replaced x.first x.last results.0 e.lines ≡ e.lines = λ (none : results.1 ≡ None).
      ap (λ (ls : List Line). replaced x.first x.last ls e.lines) (none-made (made_of text parts choice) (between x.first x.last e.lines) none)
      ∙ replaced-same x.first x.last e.lines order in
      IfOk-weaker (made listed form x used results) (IsOf results) (IsPut choice x e)
      (λ o h. record { text = text; parts = parts; looked_for = h.0; remembered = h.1; lines = h.2 }) (range-made listed results same)

-- `s`
pub substitute-puts : (listed : Bool) (pattern : Option (List ℕ)) (replacement : Option (List Part)) (choice : Which) (form : Option Form) (x : Span) (e : editor.State) →
    x.first ≤ x.last → OnMade (IsPut choice x e) (making (substitute listed pattern replacement choice form x e))
substitute-puts listed pattern replacement choice form x e order =
    making-made (IsPut choice x e) (substitute listed pattern replacement choice form x e)
    (IfOk-bind (λ (_ : List Part). Unit {0}) (IsPut choice x e) (used_replacement listed replacement e) _ (always (used_replacement listed replacement e))
    (λ parts _. IfOk-bind (λ (_ : List ℕ). Unit {0}) (IsPut choice x e) (used_pattern pattern e) _ (always (used_pattern pattern e))
    (λ text _. range-put text parts form x e choice listed order)))
