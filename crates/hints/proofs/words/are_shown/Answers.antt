use Rattle.std.proofs.Common.{sym, ap, ◌∙◌, map-id}
use Rattle.std.specs.List.{list_all}
use Rattle.std.proofs.lemmas.Iterator.{YieldsList-from_chars}
use Rattle.std.proofs.lemmas.Iterator.Consumers.{YieldsList-end}
use Rattle.hints.specs.Sought.{is_shown}
use Rattle.hints.proofs.words.are_shown.Goals as goal

pub returns : goal.returns
returns c =
    let end = YieldsList-end (YieldsList-from_chars c.args.text.now c.utf8.text cc) c.loop-character.yielded _ c.loop-character.yielded_by _ _ c.in-None.is c.next.ensures.steps in record {
      value = c.loop-character.invariant ∙ ap (list_all is_shown) (sym (map-id c.loop-character.yielded) ∙ end.0);
    }
