use Rattle.std.proofs.Common.{false, map, ap, ◌∙◌}
use Rattle.std.proofs.lemmas.Bool.{or_from}
use Rattle.ed_syntax.specs.Commands.{Script}
use Rattle.ed_syntax.specs.PublicTypes.{step_value}
use Rattle.ed_syntax.specs.PublicScript.{script_value}
use Rattle.remarks.specs.Parts.{has_high}
use Rattle.remarks.specs.Shown.{whole_shows, steps_show}
use Rattle.remarks.specs.Told.{tells}
use Rattle.remarks.proofs.KindLemmas.{unread_closed, whole_never, steps_never}
use Rattle.remarks.proofs.TellLemmas.{once_none}
use Rattle.remarks.proofs.remarking.remarks.Goals as goal

pub returns-clause-unread : goal.returns-clause-unread
returns-clause-unread c kind unread none =
    c.in_ok-tell_of_unread.ensures.read (ap (λ (s : Script). s.fault) c.in_ok-read.ensures.value ∙ none) kind
    ∙ c.in_ok-tell_of_whole.ensures.told kind
    ∙ or_from (whole_shows kind (script_value c.in_ok-read.read)) _ (whole_never kind (script_value c.in_ok-read.read) unread)
    (c.in_ok-tell_of_steps.ensures.told kind (unread_closed kind unread)
    ∙ or_from (steps_show (has_high c.args.script.now) false kind (map step_value c.as_slice.result.now)) _
    (steps_never (has_high c.args.script.now) false kind (map step_value c.as_slice.result.now) unread) (ap (tells kind) c.new-found.ensures.items))

pub returns-clause-once : goal.returns-clause-once
returns-clause-once c =
    c.in_ok-tell_of_unread.ensures.appended.once
    (c.in_ok-tell_of_whole.ensures.appended.once
    (c.in_ok-tell_of_steps.ensures.appended.once (once_none c.new-found.result.items c.new-found.ensures.items)))
