-- Each pattern that was passed is matched by some line.
use Rattle.std.proofs.Common.{◌≡◌, drop}
use Rattle.std.specs.List.{list_all, list_any}
use Rattle.ed_base.specs.Lines.{lines_of}
use Rattle.ed_syntax.specs.meaning.Values.{matches}
use Rattle.hints.proofs.allowing.matches_each.Given as goal

abbrev pub invariant-patterns : goal.invariant-patterns
invariant-patterns l =
    list_all (λ text. list_any (matches text) (lines_of l.file)) l.patterns ≡ list_all (λ text. list_any (matches text) (lines_of l.file)) (drop l.pattern-index l.patterns)
