-- The line after the gap is gone.
use Rattle.std.proofs.Common.{◌≡◌, ◌≤◌, ◌-◌, ◌+◌, ◌∷◌, suc, length, remove, ◌∙◌, ap, sym, arith}
use Rattle.line_store.specs.Gaps.{turned}
use Rattle.line_store.proofs.Turns.{turned-pop, length-turned}
use Rattle.line_store.proofs.gap.GapLinesBareLines.remove.Goals as goal

pub returns-clause-removed : goal.returns-clause-removed
returns-clause-removed c =
    let e = c.self.inside in
    let list = e.ring.items in
    let line = c.in-Some.line in
    let rest = c.pop_front.new.self.items in
    let i = c.args.i in
    let items : turned e.after list ≡ c.args.self.now.items = ap (λ v. v.items) (c.self.view_is ∙ c.move_gap.ensures.value) in
    let gap : length list - e.after ≡ i = ap (λ v. v.gap) (c.self.view_is ∙ c.move_gap.ensures.value) in
    let is : list ≡ line ∷ rest = c.in-Some.ensures.items in
    let n : length list ≡ suc (length rest) = ap length is in
    let some : 1 ≤ e.after = omega (arith, c.requires.place, ap length items, length-turned e.after list c.self.invariant) in
    turned-pop (e.after - 1) line rest (omega (arith, c.self.invariant))
    ∙ ap (λ m. remove (turned m (line ∷ rest)) (length rest - (e.after - 1))) (let same : e.after - 1 + 1 ≡ e.after = omega arith in same)
    ∙ ap (λ t. remove (turned e.after t) (length rest - (e.after - 1))) (sym is)
    ∙ ap (remove (turned e.after list)) (let same : length rest - (e.after - 1) ≡ i = omega arith in same)
    ∙ ap (λ t. remove t i) items
