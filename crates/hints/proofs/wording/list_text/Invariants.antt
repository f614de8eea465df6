-- The patterns that are left come after those that were shown.
use Rattle.std.proofs.Common.{◌≡◌, [], length, string_bytes}
use Rattle.hints.specs.StartWords.{listed}
use Rattle.hints.proofs.wording.list_text.Given as goal

abbrev pub invariant-patterns : goal.invariant-patterns
invariant-patterns l = listed (string_bytes l.list) l.left ≡ listed [] l.patterns

abbrev pub decreases-patterns : goal.decreases-patterns
decreases-patterns l = length l.left
