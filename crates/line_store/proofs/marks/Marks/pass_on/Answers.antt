-- Each letter is where it is to be, and is told where the old line had it.
use Rattle.std.proofs.Common.{ap, arith, get_or, sym, ◌∙◌, None, false}
use Rattle.std.proofs.lemmas.List.FromFn.{fill_by_all}
use Rattle.line_store.specs.Marks.{is_at}
use Rattle.line_store.specs.Shifts.{opened, without_line}
use Rattle.line_store.proofs.Lettered.{get_or-without_line}
use Rattle.line_store.proofs.marks.Marks.pass_on.Goals as goal

pub returns-clause-letters : goal.returns-clause-letters
returns-clause-letters c =
    let i = c.loop-letter.invariant in
    fill_by_all (λ k. is_at c.args.at (get_or c.args.self.now k None)) c.loop-letter.before 26 false i.long (λ k b. i.told k (omega arith))

pub returns-clause-value : goal.returns-clause-value
returns-clause-value c =
    let i = c.loop-letter.invariant in
    let was = c.args.self.now in
    fill_by_all (λ k. opened c.args.at (get_or c.args.letters.now k false) (get_or (without_line c.args.at was) k None)) c.loop-letter.self-inside.places 26 None i.count
    (λ k b. i.done k (omega arith) ∙ ap (opened c.args.at (get_or c.args.letters.now k false)) (sym (get_or-without_line c.args.at k was (omega arith))))
