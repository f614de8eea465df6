-- What is found among the lines that are left is found among all.
use Rattle.std.proofs.Common.{◌≡◌, ℕ, List, ◌-◌, ◌≤◌}
use Rattle.std.specs.Prelude.{find, Ok}
use Rattle.bre_parse.specs.Grammar.{pattern}
use Rattle.bre_match.specs.Searchers.{searched}
use Rattle.ed_syntax.specs.meaning.Values.{matches_line}
use Rattle.ed_commands.specs.Searches.{around, line_after}
use Rattle.ed_commands.specs.declared.editor.searching.Direction.TheVariants as to
use Rattle.ed_commands.proofs.editor.searching.first_before.Given as goal

abbrev pub invariant-loop : goal.invariant-loop
invariant-loop g l =
    let next = line_after to.Backward l.last in
    record {
      left : (text : List ℕ) → pattern text ≡ Ok (searched l.fn.searcher) →
          find (matches_line text (g.S.LineStore.lines l.store)) (around next l.line (l.last - l.counter))
          ≡ find (matches_line text (g.S.LineStore.lines l.store)) (around next l.from l.last);
      within : l.line ≤ l.last;
      searches : searched l.searcher ≡ searched l.fn.searcher;
    }
