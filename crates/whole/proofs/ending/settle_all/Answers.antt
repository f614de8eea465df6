use Rattle.std.proofs.Common.{rules, ◌≡◌, ◌<◌, length, get_or, arith}
use Rattle.whole.specs.Deeds.{Deed}
use Rattle.whole.proofs.DeedLemmas.{map-all, map-more}
use Rattle.whole.proofs.ending.settle_all.Goals as goal

pub paths-preserved : goal.paths-preserved
paths-preserved g c =
    let paths = c.args.paths.now in
    let within : c.paths.path-index < length paths = search rules in
    let is : c.path-item.result ≡ get_or paths c.paths.path-index c.path-item.result = search rules in
    let i = c.paths.invariant in
    record {
      log = map-more (λ p. Deed.Settle p) _ _ _ paths c.paths.path-index c.path-item.result within is i.log c.settle.ensures.logged;
      room = omega (arith, i.room, c.settle.ensures.takes_room);
    }

pub returns-clause-log : goal.returns-clause-log
returns-clause-log g c = map-all (λ p. Deed.Settle p) _ _ c.args.paths.now c.paths.path-index (omega arith) c.paths.invariant.log
