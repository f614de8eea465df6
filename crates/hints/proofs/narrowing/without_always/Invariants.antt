use Rattle.std.proofs.Common.{◌≡◌, ◌++◌, take, not}
use Rattle.std.specs.List.{filter}
use Rattle.bre_parse.specs.Always.{text_is_always}
use Rattle.hints.proofs.narrowing.without_always.Given as goal

abbrev pub invariant-patterns : goal.invariant-patterns
invariant-patterns l = l.others.items ≡ filter (λ text. not (text_is_always text)) (take l.pattern-index l.patterns)
