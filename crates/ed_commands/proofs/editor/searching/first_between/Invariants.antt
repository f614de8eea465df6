-- What is found among the lines that are left is found among all.
use Rattle.std.proofs.Common.{◌≡◌, ℕ, List, ◌+◌, ◌-◌}
use Rattle.std.specs.Prelude.{find, Ok}
use Rattle.bre_parse.specs.Grammar.{pattern}
use Rattle.bre_match.specs.Passing.{NeedsWord}
use Rattle.bre_match.specs.Searchers.{searched}
use Rattle.ed_base.specs.Buffer.{texts}
use Rattle.ed_syntax.specs.meaning.Values.{count_from, matches_line}
use Rattle.ed_commands.specs.Courses.{GoesOver, end_of, word_of}
use Rattle.ed_commands.proofs.editor.searching.first_between.Given as goal

abbrev pub invariant-lines : goal.invariant-lines
invariant-lines g l =
    let lines = g.S.LineStore.lines l.store in
    record {
      left : (text : List ℕ) → pattern text ≡ Ok (searched l.fn.searcher) →
          find (matches_line text lines) (count_from (l.from + 1) (l.to - l.from))
          ≡ find (matches_line text lines) (count_from (l.course.at + 1) (l.to - l.course.at));
      end : end_of l.course ≡ l.to;
      over : GoesOver l.course (texts lines);
      needs : NeedsWord (searched l.fn.searcher) (word_of l.course);
      searches : searched l.searcher ≡ searched l.fn.searcher;
    }

abbrev pub decreases-lines : goal.decreases-lines
decreases-lines g l = l.to - l.course.at
