use Rattle.std.proofs.Common.{◌≡◌, drop}
use Rattle.ed_rules.specs.Texts.{with_texts}
use Rattle.analyser.specs.Following.{stated_of}
use Rattle.hints.proofs.stating.with_patterns.Given as goal

abbrev pub invariant-patterns : goal.invariant-patterns
invariant-patterns l = with_texts l.patterns (stated_of l.start.has) ≡ with_texts (drop l.pattern-index l.pattern-items) l.all
