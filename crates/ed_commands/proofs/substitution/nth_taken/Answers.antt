-- After those that are passed over, the next match is the one.
use Rattle.std.proofs.Common.{◌≡◌, ◌∙◌, ℕ, List, drop, ap, sym, subst, arith}
use Rattle.std.specs.Prelude.{IfOk}
use Rattle.bre_parse.specs.Tree.{Tree}
use Rattle.bre_match.specs.Searchers.{searched}
use Rattle.ed_syntax.specs.meaning.Substitution.{Found}
use Rattle.ed_commands.specs.Scans.{left, Goes}
use Rattle.ed_commands.proofs.Scanning.{nth_told, taken_within}
use Rattle.ed_commands.proofs.substitution.nth_taken.Goals as goal

pub returns : goal.returns
returns c =
    let tree = searched c.args.searcher.now in
    let none_still : c.loop-still.still ≡ 0 = omega arith in
    let matches : List Found = left tree c.args.line.now c.loop-still.scan in
    let left_is = ap (λ (n : ℕ). drop n matches) (sym none_still) ∙ c.loop-still.invariant.left in
    let goes : IfOk c.next_taken-2.result (λ found. Goes tree c.args.line.now c.loop-still.scan found c.next_taken-2.new.scan) =
    subst (λ (t : Tree). IfOk c.next_taken-2.result (λ found. Goes t c.args.line.now c.loop-still.scan found c.next_taken-2.new.scan))
    c.loop-still.invariant.same c.next_taken-2.ensures.value in
    record {
      value =
          nth_told tree c.args.line.now c.loop-still.scan c.next_taken-2.new.scan c.next_taken-2.result _ c.args.passed_over goes left_is;
      within = taken_within tree c.args.line.now c.loop-still.scan c.next_taken-2.new.scan c.next_taken-2.result goes;
      pattern = c.next_taken-2.ensures.pattern ∙ c.loop-still.invariant.same;
    }
