use Rattle.std.proofs.Common.{◌-◌, arith, map}
use Rattle.zones.specs.Name.{mark}
use Rattle.hints.specs.Nowhere.{letters_down}
use Rattle.hints.proofs.NoFile.{name_taken}
use Rattle.hints.proofs.nowhere.names_of.Goals as goal

pub loop-below-preserved : goal.loop-below-preserved
loop-below-preserved c =
    let inside = c.loop-below.invariant.inside in
    let some = c.loop-below-test.true in
    record {
      inside = omega arith;
      rest = name_taken c.loop-below.names.items c.push.new.self.items (map mark (letters_down c.args.count)) c.loop-below.below
          (c.loop-below.below - 1) c.at.result c.of.result (omega arith) c.at.ensures.value c.of.ensures.value c.in_ok-push.ensures.items
          c.loop-below.invariant.rest;
    }
