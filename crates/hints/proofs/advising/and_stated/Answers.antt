use Rattle.hints.specs.Hints.{AsksForMore, States}
use Rattle.hints.proofs.Asking.{any-kept}
use Rattle.hints.proofs.Stated.{any-some}
use Rattle.hints.proofs.advising.and_stated.Goals as goal

pub returns-clause-kept : goal.returns-clause-kept
returns-clause-kept c =
    any-kept (AsksForMore c.args.script.now c.args.start.now) c.args.found.items c.push_hint.new.found.items c.in_ok-stated.stated c.in_ok-push_hint.ensures.pushed

pub returns-clause-states : goal.returns-clause-states
returns-clause-states c =
    λ helps. any-some (States c.args.script.now c.args.start.now c.args.patterns.now) c.args.found.items c.push_hint.new.found.items c.in_ok-stated.stated c.in_ok-push_hint.ensures.pushed
    (c.in_ok-stated.ensures.states helps.typable helps.past)
