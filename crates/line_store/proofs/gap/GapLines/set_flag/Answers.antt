-- One line of the ring has another flag.
use Rattle.std.proofs.Common.{◌≡◌, ◌<◌, ◌-◌, ◌+◌, [], if◌then◌else◌, nat_lt, length, get_or, set, ◌∙◌, ap, sym, arith}
use Rattle.std.proofs.lemmas.List.{get_or_default}
use Rattle.ed_base.specs.Buffer.{plain_line, with_flag, flagged_at}
use Rattle.line_store.specs.Gaps.{turned}
use Rattle.line_store.proofs.Turns.{turned-set, get_or-turned, length-turned}
use Rattle.line_store.proofs.gap.GapLines.set_flag.Goals as goal

pub returns : goal.returns
returns c =
    let e = c.self.inside in
    let list = e.ring.items in
    let i = c.args.i in
    let place = c.place_in_ring-place.result in
    let n : c.len.result ≡ length list = omega arith in
    let inside : i < length list = omega (arith, c.requires.place, ap (λ v. length v.items) c.self.view_is, length-turned e.after list c.self.invariant) in
    let there = c.place_in_ring-place.ensures.value ∙ ap (λ m. if nat_lt i (m - e.after) then i + e.after else i - (m - e.after)) n in
    let line : c.index_mut.result.now ≡ get_or (turned e.after list) i (plain_line []) =
    c.index_mut.ensures.value ∙ get_or_default list place c.index_mut.result.now (plain_line []) (omega (arith, c.place_in_ring-place.ensures.within))
    ∙ sym (get_or-turned e.after list i place (plain_line []) c.self.invariant inside there) in
    record {
      flagged =
          ap (λ l. turned e.after (set list place l)) (c.set_flag.ensures.value ∙ ap (with_flag c.args.flag) line)
          ∙ turned-set e.after list i place (with_flag c.args.flag (get_or (turned e.after list) i (plain_line []))) c.self.invariant inside there
          ∙ ap (λ v. flagged_at i c.args.flag v.items) c.self.view_is;
    }
