use Rattle.std.proofs.Common.{arith}
use Rattle.std.specs.List.{filter}
use Rattle.hints.specs.Sought.{is_unmatched}
use Rattle.hints.proofs.LookedFor.{texts-next}
use Rattle.hints.proofs.sought.unmatched_by.Goals as goal

pub searches-preserved : goal.searches-preserved
searches-preserved c =
    texts-next (filter (is_unmatched c.args.state.now)) c.as_slice-patterns-items.result.now c.searches.patterns-index c.patterns-item.result _ c.searches.unmatched c.add_unmatched.new.unmatched
    (omega arith) c.patterns-item.is c.searches.invariant c.in_ok-add_unmatched.ensures.value
