use Rattle.std.proofs.Common.{◌≡◌, ◌-◌, ◌*◌, ◌+◌, ◌++◌, ℕ, List, arith, ◌∙◌, ap, sym, append-nil}
use Rattle.zones.specs.KnownBounds.{PlacedBound}
use Rattle.zones.specs.Written.{known_after}
use Rattle.zones.proofs.Listing.{known_after-end, known_after-start, known_after-pass}
use Rattle.zones.proofs.ReachLemmas.{unknown-rows}
use Rattle.zones.proofs.known_entries.known_entries.Goals as goal

pub loop-p-init : goal.loop-p-init
loop-p-init c = rw c.in_ok-entries.ensures.items (known_after-start c.args.table.now)

pub returns : goal.returns
returns c =
    let table = c.args.table.now in
    let p = c.loop-p.p in
    let entries = c.loop-p.entries.items in
    let rest : ℕ = 1024 - 32 * p in
    let last : 32 * p + rest ≡ 1024 = omega arith in
    record {
      value = c.shrink_to_fit.ensures.items
          ∙ sym (append-nil entries)
          ∙ ap (λ (back : List PlacedBound). entries ++ back) (sym (known_after-end table 1024 (omega arith)) ∙ ap (λ (k : ℕ). known_after k table) (sym last)
          ∙ known_after-pass table (32 * p) rest (omega arith) (unknown-rows table p rest (λ a b high ha hb. c.requires.unknown.row a b (omega (arith, high)) ha hb) last))
          ∙ c.loop-p.invariant;
    }
