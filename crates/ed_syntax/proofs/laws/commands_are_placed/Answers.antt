use Rattle.ed_syntax.proofs.meaning.PlaceLemmas as place
use Rattle.ed_syntax.proofs.laws.commands_are_placed.Goals as goal

pub returns : goal.returns
returns c = record { addresses = place.addresses_keep_the_rest; target = place.targets_keep_the_rest; order = place.spans_are_in_order; placed = place.commands_are_placed }
