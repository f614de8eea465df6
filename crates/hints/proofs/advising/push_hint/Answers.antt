use Rattle.std.proofs.lemmas.List.Elements.{All-same, All-push}
use Rattle.hints.specs.Hints.{IsTried}
use Rattle.hints.proofs.advising.push_hint.Goals as goal

pub returns-in_ok-push-clause-tried : goal.returns-in_ok-push-clause-tried
returns-in_ok-push-clause-tried c =
    let tried : IsTried c.args.script.now c.args.start.now c.args.place c.in-Some.hint = rw c.in-Some.is at c.requires.hint in
    All-same (IsTried c.args.script.now c.args.start.now c.args.place) _ _ c.in_ok-push.ensures.items (All-push (IsTried c.args.script.now c.args.start.now c.args.place) c.args.found.now.items c.in-Some.hint c.requires.found tried)
