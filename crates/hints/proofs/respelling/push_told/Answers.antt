use Rattle.std.specs.Prelude.{IfSome}
use Rattle.std.proofs.lemmas.List.Elements.{All-same, All-push}
use Rattle.hints.specs.declared.respelling.Respelling.{Respelling}
use Rattle.hints.specs.Hints.{ReadsOn}
use Rattle.hints.proofs.respelling.push_told.Goals as goal

pub returns : goal.returns
returns c =
    let further = λ (one : Respelling). IfSome one.script (ReadsOn c.args.script.now) in record {
      further = All-same further _ _ c.in_ok-push.ensures.items (All-push further c.args.found.now.items c.args.told c.requires.found c.requires.told);
    }
