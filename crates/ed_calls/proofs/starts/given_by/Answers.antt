-- What the file gives is part of a start.
use Rattle.std.proofs.lemmas.Result.{IfOk-weaker}
use Rattle.ed_syntax.specs.PublicScript.{script_value}
use Rattle.ed_calls.proofs.LikeStarts.{part-of}
use Rattle.ed_calls.proofs.starts.given_by.Goals as goal

pub returns-clause-part : goal.returns-clause-part
returns-clause-part c =
    IfOk-weaker c.given_like.result _ _ (λ given is. part-of (script_value c.in_ok-read.read) c.args.like.now given is c.requires.few) c.given_like.ensures.value
