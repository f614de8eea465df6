use Rattle.std.proofs.Common.{◌≡◌, ◌++◌, ℕ, List, nat_eq, flat_map, ap, ◌∙◌}
use Rattle.std.specs.List.{list_any, filter}
use Rattle.zones.specs.Zone.{Bounds}
use Rattle.ed_rules.specs.declared.line_facts.edited.Look.{Look}
use Rattle.ed_rules.specs.facts.Facts.{LineFact, Facts}
use Rattle.ed_rules.specs.facts.EditedFacts.{told_fact}
use Rattle.ed_rules.specs.facts.NewLines.{last_left}
use Rattle.ed_rules.proofs.state.Old.edited_by.Goals as goal

pub returns : goal.returns
returns c =
    let zone : Bounds = c.args.self.now.zone in
    let facts : Facts = c.args.self.now.facts in
    let looks : List Look = c.args.edited.now.looks.items in
    let of_kept : List ℕ → List LineFact = λ (names : List ℕ). filter (λ (f : LineFact). list_any (nat_eq f.name) names) facts.lines in
    let of_last : List LineFact = last_left zone facts c.args.edited.now.gap looks in
    let of_current : List Look → List LineFact = flat_map (λ (look : Look). told_fact 1 look.pattern look.tested.last) in
    let kept : c.add_kept.new.lines.items ≡ of_kept c.args.kept.items =
    c.in_ok-add_kept.ensures.value ∙ ap (λ (none : List LineFact). none ++ of_kept c.as_slice.result.now) c.new-lines.ensures.items ∙ ap of_kept c.as_slice.ensures.value in
    let last : c.add_last.new.lines.items ≡ of_kept c.args.kept.items ++ of_last =
    c.in_ok-add_last.ensures.value ∙ ap (λ (before : List LineFact). before ++ of_last) kept in
    let lines : c.add_told.new.lines.items ≡ (of_kept c.args.kept.items ++ of_last) ++ of_current looks =
    c.in_ok-add_told.ensures.value ∙ ap (λ (before : List LineFact). before ++ of_current c.as_slice-2.result.now) last
    ∙ ap (λ (seen : List Look). (of_kept c.args.kept.items ++ of_last) ++ of_current seen) c.as_slice-2.ensures.value in
    record { value = λ i. record { lines = lines i; clear = c.in_ok-clear.ensures.value i } }
