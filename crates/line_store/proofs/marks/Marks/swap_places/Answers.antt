-- Each letter is where it is to be.
use Rattle.std.proofs.Common.{ap, arith, get_or, None}
use Rattle.std.proofs.lemmas.List.FromFn.{fill_by_all}
use Rattle.line_store.specs.Shifts.{place_swapped}
use Rattle.line_store.proofs.marks.Marks.swap_places.Goals as goal

pub loop-letter-init : goal.loop-letter-init
loop-letter-init c = record {
  count = c.self.invariant.0;
  used = c.if-self.false;
  done = λ k h. absurd (omega arith);
  left = λ k h. ap (λ m. get_or m k None) c.self.view_is;
}

pub returns : goal.returns
returns c =
    let i = c.loop-letter.invariant in
    record {
      value = fill_by_all (λ k. place_swapped c.args.low c.args.middle c.args.high (get_or c.args.self.now k None)) c.loop-letter.self-inside.places 26 None i.count (λ k b. i.done k (omega arith));
    }
