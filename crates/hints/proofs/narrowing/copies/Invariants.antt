use Rattle.std.proofs.Common.{◌≡◌, take}
use Rattle.hints.proofs.narrowing.copies.Given as goal

abbrev pub invariant-patterns : goal.invariant-patterns
invariant-patterns l = l.copies.items ≡ take l.pattern-index l.patterns
