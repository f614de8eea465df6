use Rattle.std.proofs.Common.{◌≡◌, drop}
use Rattle.ed_rules.specs.Texts.{with_texts}
use Rattle.analyser.specs.Following.{stated_of}
use Rattle.hints.proofs.narrowing.start_beside.Given as goal

abbrev pub invariant-added : goal.invariant-added
invariant-added l = with_texts l.added (stated_of l.given.has) ≡ with_texts (drop l.pattern-index l.added) l.all
