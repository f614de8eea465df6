use Rattle.std.proofs.Common.{IfOk}
use Rattle.std.specs.List.{Any}
use Rattle.std.proofs.lemmas.Result.{IfOk-weaker}
use Rattle.ed_syntax.specs.reading.Reading.{script_of}
use Rattle.hints.specs.Passing.{MoreLinesHelp}
use Rattle.hints.specs.Sought.{StatingHelps}
use Rattle.hints.specs.Hints.{AsksForMore, States}
use Rattle.hints.proofs.Asking.{any-kept, any-pushed}
use Rattle.hints.proofs.advising.all_hints.Goals as goal

pub returns-clause-asks : goal.returns-clause-asks
returns-clause-asks c =
    let asks = AsksForMore c.args.script.now c.args.start.now in
    let first = c.push_hint.new.found.items in
    let second = c.push_hint-2.new.found.items in
    IfOk-weaker c.or_both.result _ _
    (λ all kept help. kept (
    any-kept asks c.in_ok-found-3.found.items c.push_hint-3.new.found.items c.in_ok-written.written c.in_ok-push_hint-3.ensures.pushed (
    c.in_ok-found-3.ensures.kept (c.in_ok-found-2.ensures.kept (c.in_ok-found.ensures.kept (
    any-kept asks first second c.in_ok-most.most c.in_ok-push_hint-2.ensures.pushed (
    any-pushed asks (MoreLinesHelp (script_of c.args.script.now) c.args.start.now) c.new-found.result.items first c.in_ok-fewest.fewest c.in_ok-fewest.ensures.asks
    c.in_ok-push_hint.ensures.pushed help
    )
    )))
    )))
    c.or_both.ensures.kept

pub returns-clause-states : goal.returns-clause-states
returns-clause-states c =
    let patterns = c.in_ok-patterns.patterns in
    let states = States c.args.script.now c.args.start.now patterns in
    let stated : IfOk c.or_both.result (λ all. StatingHelps (script_of c.args.script.now) c.args.start.now c.args.place patterns → Any states all.items) =
    IfOk-weaker c.or_both.result _ _
    (λ all also help. also patterns (
    any-kept states c.in_ok-found-3.found.items c.push_hint-3.new.found.items c.in_ok-written.written c.in_ok-push_hint-3.ensures.pushed (
    c.in_ok-found-3.ensures.also patterns (c.in_ok-found-2.ensures.also patterns (c.in_ok-found.ensures.states help))
    )))
    c.or_both.ensures.also in
    rw c.in_ok-patterns.ensures.value at stated
