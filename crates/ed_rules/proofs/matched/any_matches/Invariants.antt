-- No line that was passed matches.
use Rattle.std.proofs.Common.{◌≡◌, length}
use Rattle.std.specs.List.{list_any}
use Rattle.std.specs.Option.{is_some}
use Rattle.bre_parse.specs.Bre.{bre_tree}
use Rattle.bre_parse.specs.Match.{match_from}
use Rattle.bre_match.specs.Searchers.{searched}
use Rattle.ed_base.specs.Lines.{lines_of}
use Rattle.ed_rules.proofs.matched.any_matches.Given as goal

abbrev pub invariant-loop-line : goal.invariant-loop-line
invariant-loop-line l =
    record {
      left : list_any (λ line. is_some (match_from (bre_tree l.pattern) line 0)) (lines_of l.file)
          ≡ list_any (λ line. is_some (match_from (bre_tree l.pattern) line 0)) (lines_of l.left);
      searches : searched l.searcher ≡ bre_tree l.pattern;
    }

abbrev pub decreases-loop-line : goal.decreases-loop-line
decreases-loop-line l = length l.left
