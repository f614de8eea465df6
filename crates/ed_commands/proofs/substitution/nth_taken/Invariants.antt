-- The matches after those that are still passed over are those after all that are.
use Rattle.std.proofs.Common.{◌≡◌, drop}
use Rattle.bre_match.specs.Searchers.{searched}
use Rattle.ed_syntax.specs.meaning.Substitution.{taken}
use Rattle.ed_commands.specs.Scans.{left}
use Rattle.ed_commands.proofs.substitution.nth_taken.Given as goal

abbrev pub invariant-loop-still : goal.invariant-loop-still
invariant-loop-still l = record {
  left : drop l.still (left (searched l.fn.searcher) l.line l.scan) ≡ drop l.passed_over (taken (searched l.fn.searcher) l.line);
  same : searched l.searcher ≡ searched l.fn.searcher;
}

abbrev pub decreases-loop-still : goal.decreases-loop-still
decreases-loop-still l = l.still
