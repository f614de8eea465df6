-- What is known of the lines that were passed, and of those that are left.
use Rattle.std.proofs.Common.{◌≡◌, length, map}
use Rattle.std.specs.Option.{is_some}
use Rattle.bre_parse.specs.Bre.{bre_tree}
use Rattle.bre_parse.specs.Match.{match_from}
use Rattle.bre_match.specs.Searchers.{searched}
use Rattle.ed_base.specs.Lines.{lines_of}
use Rattle.ed_rules.specs.facts.NewLines.{tested_by}
use Rattle.ed_rules.proofs.facts.EditCalls.{tested_more}
use Rattle.ed_rules.proofs.line_facts.new_lines.test_each.Given as goal

abbrev pub invariant-loop-line : goal.invariant-loop-line
invariant-loop-line l =
    record {
      left : tested_by (map (λ line. is_some (match_from (bre_tree l.pattern) line 0)) (lines_of l.text))
          ≡ tested_more l.before l.last (map (λ line. is_some (match_from (bre_tree l.pattern) line 0)) (lines_of l.left));
      searches : searched l.searcher ≡ bre_tree l.pattern;
    }

abbrev pub decreases-loop-line : goal.decreases-loop-line
decreases-loop-line l = length l.left
