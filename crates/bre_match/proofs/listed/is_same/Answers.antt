use Rattle.std.proofs.Common.{sym, ◌∙◌}
use Rattle.bre_match.proofs.WayLists.{same_way}
use Rattle.bre_match.proofs.listed.is_same.Goals as goal

pub returns : goal.returns
returns c = record { sound = λ same. same_way c.args.one.now c.args.other.now (sym c.alike.ensures.value ∙ same) }
