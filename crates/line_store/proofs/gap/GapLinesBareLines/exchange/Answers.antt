-- One line of the ring is another.
use Rattle.std.proofs.Common.{◌≡◌, ◌<◌, ◌-◌, ◌+◌, if◌then◌else◌, nat_lt, length, set, ◌∙◌, ap, arith}
use Rattle.line_store.specs.Gaps.{turned}
use Rattle.line_store.proofs.Turns.{turned-set, length-turned}
use Rattle.line_store.proofs.gap.GapLinesBareLines.exchange.Goals as goal

pub returns-clause-exchanged : goal.returns-clause-exchanged
returns-clause-exchanged c =
    let e = c.self.inside in
    let list = e.ring.items in
    let n : c.len.result ≡ length list = omega arith in
    let inside : c.args.i < length list = omega (arith, c.requires.place, ap (λ v. length v.items) c.self.view_is, length-turned e.after list c.self.invariant) in
    ap (λ line. turned e.after (set list c.place_in_ring-place.result line)) c.replace.ensures.after
    ∙ turned-set e.after list c.args.i c.place_in_ring-place.result c.args.line c.self.invariant inside
    (c.place_in_ring-place.ensures.value ∙ ap (λ m. if nat_lt c.args.i (m - e.after) then c.args.i + e.after else c.args.i - (m - e.after)) n)
    ∙ ap (λ v. set v.items c.args.i c.args.line) c.self.view_is
