-- A line becomes the lines of the text in which its matches are replaced.
use Rattle.std.proofs.Common.{List, Some, option_map, map, ap, sym, ◌∙◌}
use Rattle.ed_base.specs.Buffer.{Line, plain_line}
use Rattle.bre_match.specs.Searchers.{searched}
use Rattle.ed_syntax.specs.meaning.Substitution.{split_at_newlines}
use Rattle.ed_commands.proofs.Rewritten.{made-by}
use Rattle.ed_commands.proofs.editor.rewriting.new_lines_of.Goals as goal

pub returns-clause-value : goal.returns-clause-value
returns-clause-value c = λ text is.
    ap (λ (l : List Line). Some l) c.in_ok-lines.ensures.value
    ∙ sym (ap (option_map (map plain_line)) (made-by text (searched c.args.searcher.now) c.args.replacement.now c.args.which.now c.args.line.now
    c.in_ok-made.made is c.in_ok-made.ensures.value ∙ ap (option_map split_at_newlines) c.in-Some.is))

pub returns-in_default-clause-value : goal.returns-in_default-clause-value
returns-in_default-clause-value c = λ text is.
    sym (ap (option_map (map plain_line)) (made-by text (searched c.args.searcher.now) c.args.replacement.now c.args.which.now c.args.line.now
    c.in_ok-made.made is c.in_ok-made.ensures.value ∙ ap (option_map split_at_newlines) c.in_default.is))
