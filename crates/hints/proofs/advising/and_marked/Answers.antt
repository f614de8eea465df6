use Rattle.hints.specs.Hints.{AsksForMore, States}
use Rattle.hints.proofs.Asking.{any-kept}
use Rattle.hints.proofs.advising.and_marked.Goals as goal

pub returns-clause-kept : goal.returns-clause-kept
returns-clause-kept c =
    any-kept (AsksForMore c.args.script.now c.args.start.now) c.args.found.items c.push_hint.new.found.items c.in_ok-marked.marked c.in_ok-push_hint.ensures.pushed

pub returns-clause-also : goal.returns-clause-also
returns-clause-also c = λ patterns.
    any-kept (States c.args.script.now c.args.start.now patterns) c.args.found.items c.push_hint.new.found.items c.in_ok-marked.marked c.in_ok-push_hint.ensures.pushed
