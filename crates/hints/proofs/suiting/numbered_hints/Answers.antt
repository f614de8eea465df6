-- Without a file at hand, all hints that were found are kept.
use Rattle.std.proofs.Common.{List, map, sym, subst}
use Rattle.std.specs.List.{Any}
use Rattle.std.proofs.lemmas.Result.{IfOk-weaker}
use Rattle.cert_check.specs.Certificates.{note_value}
use Rattle.hints.specs.declared.hint.Hint.{Hint}
use Rattle.hints.specs.Hints.{AsksForMore, IsStated}
use Rattle.hints.proofs.suiting.numbered_hints.Goals as goal

pub returns-clause-asks : goal.returns-clause-asks
returns-clause-asks c =
    IfOk-weaker c.suited.result _ _
    (λ kept all none help. subst (λ (hints : List Hint). Any (AsksForMore c.args.script.now c.args.start.now) hints) (sym (all none)) (c.in_ok-found.ensures.asks help))
    c.suited.ensures.all

pub returns-clause-states : goal.returns-clause-states
returns-clause-states c =
    IfOk-weaker c.suited.result _ _
    (λ kept all none. subst (λ (hints : List Hint). IsStated c.args.script.now c.args.start.now c.args.place c.args.why (map note_value c.args.notes.now) hints)
    (sym (all none)) c.in_ok-found.ensures.states)
    c.suited.ensures.all
