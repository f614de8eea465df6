use Rattle.std.proofs.Common.{◌≡◌}
use Rattle.std.specs.Option.{option_to_list}
use Rattle.bre_parse.specs.Literal.{members_below}
use Rattle.bre_parse.proofs.literal.byte_of.Given as goal

abbrev pub invariant-loop-number : goal.invariant-loop-number
invariant-loop-number l = members_below l.number l.set.negated l.set.ranges.items ≡ option_to_list l.found
