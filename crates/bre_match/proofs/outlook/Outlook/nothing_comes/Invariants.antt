use Rattle.std.proofs.Common.{◌≡◌, reverse}
use Rattle.bre_match.specs.Outlooks.{LeftTells}
use Rattle.bre_match.specs.Runs.{tasks}
use Rattle.bre_match.proofs.outlook.Outlook.nothing_comes.Given as goal

abbrev pub invariant-loop-passed : goal.invariant-loop-passed
invariant-loop-passed l = record {
  same : l.self.at ≡ l.fn.self.at;
  tells : LeftTells l.items l.text l.start l.self (tasks l.self.left.items) (reverse l.self.turns.items);
}
