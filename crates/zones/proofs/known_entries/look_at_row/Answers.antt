use Rattle.std.proofs.Common.{◌≡◌, ◌+◌, ◌-◌, ◌*◌, ◌++◌, ℕ, List, arith, ◌∙◌, ap, sym}
use Rattle.zones.specs.KnownBounds.{PlacedBound}
use Rattle.zones.specs.Written.{known_after}
use Rattle.zones.proofs.Listing.{known_after-pass}
use Rattle.zones.proofs.ReachLemmas.{unknown-back}
use Rattle.zones.proofs.known_entries.look_at_row.Goals as goal

pub returns : goal.returns
returns c =
    let table = c.args.table.now in
    let p = c.args.p in
    let reach = c.args.reach in
    let entries = c.loop-place-2.entries.items in
    let at : c.loop-place-2.place ≡ 32 * p + reach = omega arith in
    let end : 32 * p + 32 ≡ 32 * p + reach + (32 - reach) = omega arith in
    record {
      value = ap (λ (back : List PlacedBound). entries ++ back)
          (ap (λ (k : ℕ). known_after k table) end
          ∙ known_after-pass table (32 * p + reach) (32 - reach) (omega arith) (unknown-back table p reach c.requires.reach (λ q high hq. c.requires.unknown.column p q high (omega arith) hq))
          ∙ ap (λ (k : ℕ). known_after k table) (sym at))
          ∙ c.loop-place-2.invariant;
    }
