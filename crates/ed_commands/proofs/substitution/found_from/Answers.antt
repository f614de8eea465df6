-- What is left at a place is told by the match that is found there.
use Rattle.std.proofs.Common.{arith}
use Rattle.bre_match.specs.Searchers.{searched}
use Rattle.ed_commands.proofs.Scanning.{lie_after, told_left}
use Rattle.ed_commands.proofs.substitution.found_from.Goals as goal

pub returns-clause-value : goal.returns-clause-value
returns-clause-value c =
    let tree = searched c.args.searcher.now in
    told_left tree c.args.line.now (lie_after c.matches_lie_within.ensures.law tree c.args.line.now) c.args.scan.place c.args.scan.after_full (omega arith) c.find.result c.find.ensures.value
