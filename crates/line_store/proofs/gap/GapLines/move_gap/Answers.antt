-- The ring has turned, and its lines are the same from the other gap on.
use Rattle.std.proofs.Common.{◌≡◌, ℕ, ◌+◌, ◌-◌, List, ◌++◌, take, drop, length, ◌∙◌, ap, sym, arith}
use Rattle.ed_base.specs.Buffer.{Line}
use Rattle.line_store.specs.Gaps.{GapValue, turned}
use Rattle.line_store.proofs.Turns.{gap-up, gap-down, length-turned}
use Rattle.line_store.proofs.gap.GapLines.move_gap.Goals as goal

same-value : (items lines : List Line) (gap place room rest : ℕ) → items ≡ lines → gap ≡ place → room ≡ rest →
    ◌≡◌ {A = GapValue} (record { items = items; gap = gap; room = room }) (record { items = lines; gap = place; room = rest })
same-value items lines gap place room rest a b c = cc

pub returns-then-at-gap : goal.returns-then-at-gap
returns-then-at-gap c =
    let e = c.self.inside in
    let list = e.ring.items in
    let by : ℕ = (c.len.result - e.after) - c.args.at in
    let n : length list ≡ c.len.result = omega arith in
    let n-new : length c.rotate_right.new.self.items ≡ length list = omega arith in
    let room : ℕ = c.args.self.now.room in
    let v : length list - e.after ≡ c.args.self.now.gap = ap (λ v. v.gap) c.self.view_is in
    record {
      value = same-value _ _ _ _ _ _
          (ap (turned (e.after + by)) (c.rotate_right.ensures.items ∙ ap (λ m. drop (m - by) list ++ take (m - by) list) (sym c.len.ensures ∙ sym n))
          ∙ gap-down e.after by list (omega arith) ∙ ap (λ v. v.items) c.self.view_is)
          (omega arith)
          (omega (arith, ap (λ v. v.room) c.self.view_is));
    }

pub returns-else-at-gap : goal.returns-else-at-gap
returns-else-at-gap c =
    let e = c.self.inside in
    let list = e.ring.items in
    let by : ℕ = c.args.at - (c.len.result - e.after) in
    let n : length list ≡ c.len.result = omega arith in
    let n-new : length c.rotate_left.new.self.items ≡ length list = omega arith in
    let long : length (turned e.after list) ≡ length c.args.self.now.items = ap (λ v. length v.items) c.self.view_is in
    record {
      value = same-value _ _ _ _ _ _
          (ap (turned (e.after - by)) c.rotate_left.ensures.items
          ∙ gap-up e.after by list c.self.invariant (omega (arith, length-turned e.after list c.self.invariant)) ∙ ap (λ v. v.items) c.self.view_is)
          (omega (arith, length-turned e.after list c.self.invariant))
          (omega (arith, ap (λ v. v.room) c.self.view_is));
    }
