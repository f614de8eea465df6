-- The lines that were passed have the flag or not, and those that are left are as they were.
use Rattle.std.proofs.Common.{◌≡◌, ℕ, List, ◌-◌, ◌≤◌, length, map}
use Rattle.std.specs.Prelude.{Ok}
use Rattle.bre_parse.specs.Grammar.{pattern}
use Rattle.bre_match.specs.Passing.{NeedsWord}
use Rattle.bre_match.specs.Searchers.{searched}
use Rattle.ed_base.specs.Buffer.{texts}
use Rattle.ed_base.specs.Parts.{block, exchanged}
use Rattle.ed_syntax.specs.declared.command.Sense.TheVariants.{Matching}
use Rattle.ed_syntax.specs.meaning.Globals.{flagged_line}
use Rattle.ed_commands.specs.Courses.{GoesOver, end_of, word_of}
use Rattle.ed_commands.proofs.editor.globals.flag_matching.Given as goal

abbrev pub invariant-lines : goal.invariant-lines
invariant-lines g l =
    let now = g.S.LineStore.lines l.store in
    let old = g.S.LineStore.lines l.fn.store in
    record {
      flagged : (text : List ℕ) → pattern text ≡ Ok (searched l.fn.searcher) →
          now ≡ exchanged l.from l.course.at (map (flagged_line Matching text) (block l.from l.course.at old)) old;
      count : length now ≡ length old;
      same : texts now ≡ texts old;
      begun : l.from ≤ l.course.at;
      end : end_of l.course ≡ l.to;
      over : GoesOver l.course (texts old);
      needs : NeedsWord (searched l.fn.searcher) (word_of l.course);
      searches : searched l.searcher ≡ searched l.fn.searcher;
    }

abbrev pub decreases-lines : goal.decreases-lines
decreases-lines g l = l.to - l.course.at
