-- What is left of facts once others are left out is true.
use Rattle.std.proofs.Common.{Bool, true, false, cond, not, List, [], ◌∷◌, All}
use Rattle.std.proofs.lemmas.List.Elements.{All-nil, All-cons, All-head, All-tail, All-filter}
use Rattle.zones.specs.Zone.{Bounds, Numbers}
use Rattle.ed_base.specs.Buffer.{Line}
use Rattle.ed_rules.specs.facts.Facts.{LineFact, Stretch, Facts, LineFactHolds, StretchHolds, FactsHold}
use Rattle.ed_rules.specs.facts.PrunedFacts.{is_said, with_unsaid, unsaid, is_idle, with_clear, pruned}

unsaid-all : (Q : Stretch → Type 0) (zone : Bounds) (kept more : List Stretch) → All Q kept → All Q more → All Q (with_unsaid zone kept more)
unsaid-all Q zone kept [] k m = k
unsaid-all Q zone kept (s ∷ more) k m =
    unsaid-all Q zone (cond (is_said zone kept s) kept (s ∷ kept)) more
    (elim (is_said zone kept s) as (λ (b : Bool). All Q (cond b kept (s ∷ kept))) [ true ↦ k | false ↦ All-cons Q s kept (All-head Q s more m) k ])
    (All-tail Q s more m)

pub pruned-hold : (zone : Bounds) (facts : Facts) (number : Numbers) (lines : List Line) → FactsHold facts number lines →
    FactsHold (pruned zone facts) number lines
pruned-hold zone facts number lines h =
    let Q : Stretch → Type 0 = StretchHolds number lines in
    let left : Facts = with_clear (unsaid zone facts.clear) facts in
    record {
      of_lines = All-filter (λ (f : LineFact). not (is_idle zone left f)) (LineFactHolds number lines) facts.lines h.of_lines;
      of_clear = unsaid-all Q zone [] (with_unsaid zone [] facts.clear) (All-nil Q) (unsaid-all Q zone [] facts.clear (All-nil Q) h.of_clear);
    }
