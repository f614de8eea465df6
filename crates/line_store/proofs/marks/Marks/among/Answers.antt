-- Each letter is where it is to be.
use Rattle.std.proofs.Common.{arith, get_or, None}
use Rattle.std.proofs.lemmas.List.FromFn.{fill_by_all}
use Rattle.line_store.specs.Shifts.{below}
use Rattle.line_store.proofs.marks.Marks.among.Goals as goal

pub returns : goal.returns
returns c =
    let i = c.loop-letter.invariant in
    record {
      value = fill_by_all (λ k. below c.args.count (get_or c.args.self.now k None)) c.loop-letter.marks-inside.places 26 None i.count (λ k b. i.done k (omega arith));
    }
