use Rattle.std.proofs.Common.{◌≡◌, take}
use Rattle.std.specs.List.{filter, list_any}
use Rattle.ed_base.specs.Lines.{lines_of}
use Rattle.ed_syntax.specs.meaning.Values.{matches}
use Rattle.hints.proofs.like.matched.Given as goal

abbrev pub invariant-patterns : goal.invariant-patterns
invariant-patterns l = l.matched.items ≡ filter (λ text. list_any (matches text) (lines_of l.file)) (take l.pattern-index l.patterns)
