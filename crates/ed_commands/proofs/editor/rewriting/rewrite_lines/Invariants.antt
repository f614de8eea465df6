-- The lines that were passed are what results of them, and those that are left are as they were.
use Rattle.std.proofs.Common.{◌≡◌, ◌+◌, ◌-◌, ◌≤◌, length, option_map}
use Rattle.std.specs.Prelude.{IfNone, IfSome, Ok}
use Rattle.bre_parse.specs.Grammar.{pattern}
use Rattle.bre_match.specs.Passing.{NeedsWord}
use Rattle.bre_match.specs.Searchers.{searched}
use Rattle.ed_base.specs.Buffer.{texts}
use Rattle.ed_base.specs.Parts.{block, exchanged}
use Rattle.ed_syntax.specs.meaning.SubstitutedLines.{each, made_of}
use Rattle.ed_commands.specs.Courses.{GoesOver, end_of, word_of}
use Rattle.ed_commands.specs.Earlier.{earlier_of, kept_lines}
use Rattle.ed_commands.specs.Rewriting.{earlier_of_rewritten}
use Rattle.ed_commands.proofs.editor.rewriting.rewrite_lines.Given as goal

abbrev pub invariant-lines : goal.invariant-lines
invariant-lines g l =
    let lines = g.S.LineStore.lines in
    let old = lines l.fn.store in
    let from = l.fn.span.first - 1 in
    let i = l.course.at in
    let results = each (made_of l.fn.pattern l.fn.replacement l.fn.which) (block from i old) in
    record {
      put : lines l.store ≡ exchanged from i results.0 old;
      long : length (lines l.store) + i ≡ length old + (from + length results.0);
      made : l.made ≡ option_map (λ n. from + n) results.1;
      kept : earlier_of l.past (texts (lines l.store))
          ≡ earlier_of_rewritten l.made l.fn.before.listed (kept_lines l.fn.before.current old) (earlier_of l.fn.past (texts old));
      untouched : IfNone l.made (lines l.store ≡ old);
      within : IfSome l.made (λ line. (1 ≤ line) × (line ≤ length (lines l.store)));
      no_fewer : length old ≤ length (lines l.store);
      searches : pattern l.fn.pattern ≡ Ok (searched l.searcher);
      begun : from ≤ i;
      end : end_of l.course ≡ l.fn.span.last;
      over : GoesOver l.course (texts old);
      needs : NeedsWord (searched l.searcher) (word_of l.course);
    }

abbrev pub decreases-lines : goal.decreases-lines
decreases-lines g l = l.fn.span.last - l.course.at
