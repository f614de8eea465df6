-- Each line that is passed doesn't match.
use Rattle.std.proofs.Common.{◌-◌, sym, ap, ◌∙◌, arith}
use Rattle.std.specs.Prelude.{find, Ok}
use Rattle.bre_match.specs.Searchers.{searched}
use Rattle.ed_syntax.specs.meaning.Values.{matches_line}
use Rattle.ed_commands.specs.Searches.{around, line_after}
use Rattle.ed_commands.proofs.Searching.{told, passed, found}
use Rattle.ed_commands.specs.declared.editor.searching.Direction.TheVariants as to
use Rattle.ed_commands.proofs.editor.searching.first_before.Goals as goal

pub returns-then-matched : goal.returns-then-matched
returns-then-matched g c =
    let lines = g.S.LineStore.lines c.args.store.now in
    let line = c.line_before-line.result in
    record {
      value = λ text is.
          sym (found (matches_line text lines) (line_after to.Backward c.len-last.result) c.loop.line line c.loop.counter c.len-last.result (omega arith)
          c.line_before-line.ensures.value
          (told text (searched c.loop.searcher) lines (line - 1) c.text.result.now c.in_ok-matched.matched (is ∙ ap Ok (sym c.loop.invariant.searches))
          c.text.ensures.value c.in_ok-matched.ensures.value ∙ c.if-matched.true))
          ∙ c.loop.invariant.left text is
          ∙ ap (λ last. find (matches_line text lines) (around (line_after to.Backward last) c.args.from last)) c.len-last.ensures.value;
      pattern = c.in_ok-matched.ensures.pattern ∙ c.loop.invariant.searches;
    }

pub loop-preserved : goal.loop-preserved
loop-preserved g c =
    let lines = g.S.LineStore.lines c.args.store.now in
    let line = c.line_before-line.result in
    record {
      left = λ text is.
          sym (passed (matches_line text lines) (line_after to.Backward c.len-last.result) c.loop.line line c.loop.counter c.len-last.result (omega arith)
          c.line_before-line.ensures.value
          (told text (searched c.loop.searcher) lines (line - 1) c.text.result.now c.in_ok-matched.matched (is ∙ ap Ok (sym c.loop.invariant.searches))
          c.text.ensures.value c.in_ok-matched.ensures.value ∙ c.if-matched.false))
          ∙ c.loop.invariant.left text is;
      within = c.line_before-line.ensures.within;
      searches = c.in_ok-matched.ensures.pattern ∙ c.loop.invariant.searches;
    }
