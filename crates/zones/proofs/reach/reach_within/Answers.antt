use Rattle.std.proofs.Common.{◌≡◌, ◌-◌, suc, ◌∙◌, true, false, arith, ap, sym}
use Rattle.zones.specs.Reach.{is_known_with, reach_below}
use Rattle.zones.proofs.ReachLemmas.{reach_of-within, reach_below-zero, reach_below-known, reach_below-unknown}
use Rattle.zones.proofs.reach.reach_within.Goals as goal

pub loop-reach-init : goal.loop-reach-init
loop-reach-init c = (omega arith, reach_of-within c.args.table.now c.args.most c.requires.in_range c.requires.unknown)

pub loop-reach-preserved : goal.loop-reach-preserved
loop-reach-preserved c =
    let table = c.args.table.now in
    let last = c.loop-reach.reach - 1 in
    let next : c.loop-reach.reach ≡ suc last = omega arith in
    let none : is_known_with table last (suc last) ≡ false = ap (is_known_with table last) (sym next) ∙ sym c.is_known_with.ensures.value ∙ c.if-not-is_known_with.true in
    (omega arith, c.loop-reach.invariant.1 ∙ ap (reach_below table) next ∙ reach_below-unknown table last none)

pub returns-else-not-is_known_with : goal.returns-else-not-is_known_with
returns-else-not-is_known_with c =
    let table = c.args.table.now in
    let last = c.loop-reach.reach - 1 in
    let next : c.loop-reach.reach ≡ suc last = omega arith in
    let known : is_known_with table last (suc last) ≡ true = ap (is_known_with table last) (sym next) ∙ sym c.is_known_with.ensures.value ∙ c.if-not-is_known_with.false in
    record { value = sym (c.loop-reach.invariant.1 ∙ ap (reach_below table) next ∙ reach_below-known table last known ∙ sym next) }

pub returns-after-loop-reach : goal.returns-after-loop-reach
returns-after-loop-reach c =
    let table = c.args.table.now in
    let none : c.loop-reach.reach ≡ 0 = omega arith in
    record { value = sym (c.loop-reach.invariant.1 ∙ ap (reach_below table) none ∙ reach_below-zero table ∙ sym none) }
