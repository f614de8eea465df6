-- What was made, and the rest with the matches that are left replaced, make the whole.
use Rattle.std.proofs.Common.{◌≡◌, ◌++◌, ◌+◌, ◌-◌, ◌≤◌, length}
use Rattle.bre_match.specs.Searchers.{searched}
use Rattle.ed_syntax.specs.meaning.Substitution.{rewritten, taken}
use Rattle.ed_commands.specs.Scans.{left}
use Rattle.ed_commands.proofs.substitution.replace_all.Given as goal

abbrev pub invariant-loop-text : goal.invariant-loop-text
invariant-loop-text l = record {
  whole :
      l.text ++ rewritten l.replacement l.line l.copied (left (searched l.fn.searcher) l.line l.scan)
      ≡ rewritten l.replacement l.line 0 (taken (searched l.fn.searcher) l.line);
  within : l.copied ≤ length l.line;
  passed : l.copied ≤ l.scan.place;
  same : searched l.searcher ≡ searched l.fn.searcher;
}

abbrev pub decreases-loop-text : goal.decreases-loop-text
decreases-loop-text l = length l.line + 1 - l.scan.place
