use Rattle.std.proofs.Common.{rules, ◌≡◌, ◌<◌, true, false, length, get_or, arith}
use Rattle.whole.specs.Deeds.{Deed}
use Rattle.whole.proofs.DeedLemmas.{map-all, map-more, map-stops}
use Rattle.whole.proofs.ending.put_in_order.Goals as goal

pub paths-preserved : goal.paths-preserved
paths-preserved g c =
    let paths = c.args.paths.now in
    let within : c.paths.path-index < length paths = search rules in
    let is : c.path-item.result ≡ get_or paths c.paths.path-index c.path-item.result = search rules in
    let i = c.paths.invariant in
    let e = c.if-not-put.ensures in
    record {
      count = omega (arith, i.count);
      log = map-more (λ p. Deed.Put p true) _ _ _ paths c.paths.path-index c.path-item.result within is i.log e.logged;
      room = omega (arith, i.room, e.takes_room);
    }

pub returns-then-not-put-clause-part : goal.returns-then-not-put-clause-part
returns-then-not-put-clause-part g c =
    let paths = c.args.paths.now in
    let within : c.paths.path-index < length paths = search rules in
    let is : c.path-item.result ≡ get_or paths c.paths.path-index c.path-item.result = search rules in
    let i = c.paths.invariant in
    λ below. map-stops (λ p. Deed.Put p true) (λ p. Deed.Put p false) _ _ _ paths c.paths.path-index c.paths.count c.path-item.result
    within is i.log
    c.if-not-put.ensures.logged i.count

pub returns-clause-all : goal.returns-clause-all
returns-clause-all g c =
    λ e. map-all (λ p. Deed.Put p true) _ _ c.args.paths.now c.paths.path-index (omega (arith, c.paths.invariant.count))
    c.paths.invariant.log
