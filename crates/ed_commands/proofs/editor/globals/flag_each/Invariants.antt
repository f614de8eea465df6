-- The lines that were passed have the flag or not, and those that are left are as they were.
use Rattle.std.proofs.Common.{◌≡◌, ℕ, List, length, map}
use Rattle.std.specs.Prelude.{Ok}
use Rattle.bre_parse.specs.Grammar.{pattern}
use Rattle.bre_match.specs.Searchers.{searched}
use Rattle.ed_base.specs.Parts.{block, exchanged}
use Rattle.ed_syntax.specs.meaning.Globals.{flagged_line}
use Rattle.ed_commands.proofs.editor.globals.flag_each.Given as goal

abbrev pub invariant-loop-i : goal.invariant-loop-i
invariant-loop-i g l =
    let now = g.S.LineStore.lines l.store in
    let old = g.S.LineStore.lines l.fn.store in
    record {
      flagged : (text : List ℕ) → pattern text ≡ Ok (searched l.fn.searcher) →
          now ≡ exchanged l.from l.i (map (flagged_line l.sense text) (block l.from l.i old)) old;
      count : length now ≡ length old;
      searches : searched l.searcher ≡ searched l.fn.searcher;
    }
