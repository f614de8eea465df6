use Rattle.std.proofs.Common.{refl, arith}
use Rattle.bre_parse.specs.Tree.{sequence_of}
use Rattle.bre_match.proofs.EndRuns.{end_found, start_passed}
use Rattle.bre_match.proofs.ending.start_and_end.Goals as goal

pub loop-tried-init : goal.loop-tried-init
loop-tried-init c = record {
  serves = c.requires.serves;
  low = omega arith;
  high = c.requires.place;
  same = refl;
}

pub returns-in-At-clause-found : goal.returns-in-At-clause-found
returns-in-At-clause-found c =
    let told = rw c.in-At.is at c.in_ok-end.ensures.told in
    end_found (sequence_of c.args.items.now) c.args.text.now c.args.from c.loop-tried.start c.in-At.end c.requires.free
    c.requires.in_order c.loop-tried.invariant.low c.loop-tried.invariant.high c.loop-tried.invariant.same told.0 told.1

pub returns-in-Untold-clause-found : goal.returns-in-Untold-clause-found
returns-in-Untold-clause-found c = (c.loop-tried.invariant.low, c.loop-tried.invariant.high, c.loop-tried.invariant.same)

pub returns-then-start-text-clause-found : goal.returns-then-start-text-clause-found
returns-then-start-text-clause-found c =
    (c.loop-tried.invariant.low, c.loop-tried.invariant.high, c.loop-tried.invariant.same)

pub loop-tried-preserved : goal.loop-tried-preserved
loop-tried-preserved c = record {
  serves = c.in_ok-end.ensures.serves;
  low =
      let low = c.loop-tried.invariant.low in
      let after = c.first_start-start.ensures.after in
      omega arith;
  high = c.first_start-start.ensures.within;
  same =
      start_passed (sequence_of c.args.items.now) c.args.text.now c.args.from c.loop-tried.start c.first_start-start.result
      c.requires.free c.requires.in_order c.if-start-text.false c.first_start-start.ensures.after c.first_start-start.ensures.within
      c.loop-tried.invariant.same (rw c.in-Nowhere.is at c.in_ok-end.ensures.told) c.first_start-start.ensures.sound;
}

pub returns-clause-found : goal.returns-clause-found
returns-clause-found c = (c.loop-tried.invariant.low, c.loop-tried.invariant.high, c.loop-tried.invariant.same)
