use Rattle.std.proofs.Common.{◌≡◌, drop}
use Rattle.bre_parse.specs.Bre.{bre_tree}
use Rattle.bre_match.specs.Searchers.{searched}
use Rattle.ed_base.specs.Lines.{lines_of}
use Rattle.landmarks.specs.Places.{NonePasses}
use Rattle.landmarks.specs.Looking.{finds}
use Rattle.landmarks.proofs.looking.first_found.Given as goal

-- no line up to here passes
abbrev pub invariant-loop-number : goal.invariant-loop-number
invariant-loop-number l = record {
  left : lines_of l.left ≡ drop l.number (lines_of l.file);
  searches : searched l.searcher ≡ bre_tree l.pattern;
  none : NonePasses (finds (bre_tree l.pattern)) (lines_of l.file) l.after l.number;
}
