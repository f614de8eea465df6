-- What is found after the line, or else up to it, is found once round.
use Rattle.std.proofs.Common.{◌≡◌, ◌+◌, ◌-◌, ◌∙◌, ap, sym, length, Ok, None}
use Rattle.std.specs.Prelude.{find}
use Rattle.std.proofs.lemmas.Result.{IfOk-weaker}
use Rattle.ed_syntax.specs.meaning.Values.{count_from, matches_line}
use Rattle.ed_commands.specs.Searches.{around, line_after}
use Rattle.ed_commands.specs.declared.editor.searching.Direction.TheVariants as to
use Rattle.ed_commands.proofs.Searching.{found-after, found-up-to}
use Rattle.ed_commands.proofs.editor.searching.first_after.Goals as goal

pub returns-in-Some : goal.returns-in-Some
returns-in-Some g c =
    let lines = g.S.LineStore.lines c.args.store.now in
    let from = c.args.from in
    record {
      value = λ text is.
          found-after (matches_line text lines) (length lines) from c.in-Some.line c.requires.from
          (sym c.in-Some.is
          ∙ c.in_ok-line.ensures.value text is
          ∙ ap (λ n. find (matches_line text lines) (count_from (from + 1) (n - from))) c.len.ensures.value);
      pattern = c.first_between.ensures.pattern;
    }

pub returns-in-None : goal.returns-in-None
returns-in-None g c =
    let lines = g.S.LineStore.lines c.args.store.now in
    let from = c.args.from in
    let last = length lines in
    record {
      value = λ text is.
          let p = matches_line text lines in
          let none : None ≡ find p (count_from (from + 1) (last - from)) =
          sym c.in-None.is ∙ c.in_ok-line.ensures.value text is ∙ ap (λ n. find p (count_from (from + 1) (n - from))) c.len.ensures.value in
          IfOk-weaker c.first_between-in-None.result
          (λ found. found ≡ find p (count_from (0 + 1) (from - 0)))
          (λ found. found ≡ find p (around (line_after to.Forward last) from last))
          (λ found told. found-up-to p last from found c.requires.from none told)
          (c.first_between-in-None.ensures.value text (is ∙ ap Ok (sym c.first_between.ensures.pattern)));
      pattern = c.first_between-in-None.ensures.pattern ∙ c.first_between.ensures.pattern;
    }
