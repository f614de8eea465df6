use Rattle.std.proofs.Common.{◌≡◌, Some, List, ℕ, ap, sym, ◌∙◌}
use Rattle.hints.proofs.Stated.{past-as-it-is, nothing-left}
use Rattle.hints.proofs.stating.over_stated.Goals as goal

pub returns-then-is_some-2-clause-states : goal.returns-then-is_some-2-clause-states
returns-then-is_some-2-clause-states c =
    past-as-it-is c.args.script.now c.args.opened.now c.args.place c.in_ok-fewest.fewest c.in_ok-past.past (sym c.is_some.ensures ∙ c.if-is_some.false) c.in_ok-fewest.ensures.asks
    (c.in_ok-past.ensures.given (c.drafted-draft.ensures.script.0 ∙ ap (λ (s : List ℕ). Some s) c.in_ok-same.ensures.value) c.drafted-draft.ensures.script.1)

pub returns-clause-states : goal.returns-clause-states
returns-clause-states c =
    nothing-left _ (λ hint. (hint.script ≡ c.args.script.now) × (hint.start.has ≡ c.args.opened.now.has)) c.in_ok-past.past c.with_more_lines.result
    (sym c.is_some-2.ensures ∙ c.if-is_some-2.false)
    (past-as-it-is c.args.script.now c.args.opened.now c.args.place c.in_ok-fewest.fewest c.in_ok-past.past (sym c.is_some.ensures ∙ c.if-is_some.false) c.in_ok-fewest.ensures.asks
    (c.in_ok-past.ensures.given (c.drafted-draft.ensures.script.0 ∙ ap (λ (s : List ℕ). Some s) c.in_ok-same.ensures.value) c.drafted-draft.ensures.script.1))
