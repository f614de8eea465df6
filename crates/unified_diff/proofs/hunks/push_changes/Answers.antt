use Rattle.std.proofs.Common.{◌≡◌, ℕ, ◌+◌, List, ◌∷◌, ◌++◌, drop, get_or, sym, ap, subst, ◌∙◌, add-one, drop-cons}
use Rattle.unified_diff.specs.declared.change.Change.{Change}
use Rattle.unified_diff.specs.DiffText.{line_texts}
use Rattle.unified_diff.specs.Edits.{seen, Edits, shown_lines}
use Rattle.unified_diff.proofs.Texts.{change-told}
use Rattle.unified_diff.proofs.hunks.push_changes.Goals as goal

pub loop-change-preserved : goal.loop-change-preserved
loop-change-preserved c =
    let old : List (List ℕ) = seen c.args.old.now in
    let new : List (List ℕ) = seen c.args.new.now in
    let group : List Change = c.args.group.now in
    let k : ℕ = c.loop-change.change-index in
    let d : Change = record { old_start = 0; old_end = 0; new_start = 0; new_end = 0 } in
    let change : Change = get_or group k d in
    let rest : List Change = drop (k + 1) group in
    let next : drop k group ≡ change ∷ rest =
    drop-cons group k d c.loop-change-test.true ∙ ap (λ n. change ∷ drop n group) (sym (add-one k)) in
    let j : ℕ = c.loop-change.invariant.edits.0 in
    let P : List Change → Type 0 = λ ls. Edits c.loop-change.old_at j ls c.args.extent.old_end c.args.extent.new_end old new in
    let edits : P (change ∷ rest) = subst P next c.loop-change.invariant.edits.1 in
    record {
      edits = (change.new_end, edits.1);
      told =
          change-told c.args.colours c.loop-change.old_at c.args.extent.old_end change rest old new c.loop-change.text
          c.push_lines.new.text c.push_lines-in-loop-change.new.text c.push_lines-in-loop-change-2.new.text
          c.in_ok-push_lines.ensures.appended c.in_ok-push_lines-2.ensures.appended c.in_ok-push_lines-3.ensures.appended
          ∙ ap (λ ls. c.loop-change.text ++ line_texts c.args.colours (shown_lines c.loop-change.old_at ls c.args.extent.old_end old new)) (sym next)
          ∙ c.loop-change.invariant.told;
    }
