-- Each hint that comes is one of those that were found.
use Rattle.std.proofs.Common.{length, sym, subst}
use Rattle.std.proofs.lemmas.Iterator.Adapters.{YieldsList-from_vec}
use Rattle.std.proofs.lemmas.Iterator.Consumers.{YieldsList-turn}
use Rattle.std.proofs.lemmas.List.Elements.{All-get_or}
use Rattle.hints.specs.Hints.{IsTried}
use Rattle.hints.proofs.suiting.suited_by.Goals as goal

pub push_if_suited-requires-clause-hint : goal.push_if_suited-requires-clause-hint
push_if_suited-requires-clause-hint c =
    let tried = IsTried c.args.script.now c.args.start.now c.args.place in
    let turn = YieldsList-turn (YieldsList-from_vec {s = c.into_iter-hint-iterator.result} c.args.found.items (cc) (cc))
    c.hints.yielded c.hints.hint-iterator c.hints.yielded_by c.next.result c.next.new.self c.in-Some.hint c.in-Some.is c.next.ensures.steps in
    subst tried (sym turn.1) (All-get_or tried c.args.found.items (length c.hints.yielded) c.in-Some.hint turn.0 c.requires.found)
