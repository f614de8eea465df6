use Rattle.std.proofs.Common.{◌≡◌, ◌++◌, drop}
use Rattle.ed_rules.specs.Matched.{gained}
use Rattle.ed_rules.proofs.watch.Watch.gained.Given as goal

abbrev pub invariant-loop-text : goal.invariant-loop-text
invariant-loop-text l = gained l.self l.entered ≡ l.some.items ++ gained (drop l.text-index l.text-items) l.entered
