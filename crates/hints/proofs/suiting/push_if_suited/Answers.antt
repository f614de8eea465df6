use Rattle.std.proofs.lemmas.List.Elements.{All-same, All-push}
use Rattle.ed_base.specs.Lines.{lines_of}
use Rattle.hints.specs.declared.hint.Hint.{Hint}
use Rattle.hints.specs.Allowing.{AllowsFile}
use Rattle.hints.specs.Hints.{IsTried}
use Rattle.hints.proofs.suiting.push_if_suited.Goals as goal

pub returns-in_ok-push-clause-tried : goal.returns-in_ok-push-clause-tried
returns-in_ok-push-clause-tried c =
    let tried = IsTried c.args.script.now c.args.start.now c.args.place in
    All-same tried _ _ c.in_ok-push.ensures.items (All-push tried c.args.suited.now.items c.args.hint c.requires.tried c.requires.hint)

pub returns-in_ok-push-clause-suited : goal.returns-in_ok-push-clause-suited
returns-in_ok-push-clause-suited c =
    let suited = λ (one : Hint). AllowsFile one.start (lines_of c.args.file.now) in
    All-same suited _ _ c.in_ok-push.ensures.items
    (All-push suited c.args.suited.now.items c.args.hint c.requires.suited (c.in_ok-allows_file.ensures.exact.0 c.if-branch.true))
