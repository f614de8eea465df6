use Rattle.std.proofs.Common.{◌∙◌, sym, refl, inl}
use Rattle.hints.proofs.Keeping.{keeps-itself}
use Rattle.hints.proofs.Chains.{tried-by}
use Rattle.hints.proofs.Places.{not-past}
use Rattle.hints.proofs.advising.past_by.Goals as goal

pub returns-then-not-branch-clause-given : goal.returns-then-not-branch-clause-given
returns-then-not-branch-clause-given c =
    λ is none all. not-past c.args.start.now c.args.place c.args.draft.script c.in-Some.new c.as_slice.result.now c.args.script.now c.args.draft.past c.in_ok-gets_past_all.field-0
    c.in-Some.is is c.as_slice.ensures.value c.if-not-branch.true c.in_ok-gets_past_all.ensures.all none all

pub returns-clause-tried : goal.returns-clause-tried
returns-clause-tried c =
    let is-from = rw c.in-Some-2.is at c.in_ok-change.ensures.from in
    tried-by c.args.script.now c.args.start.now c.args.place _ c.as_slice.result.now c.args.start.now c.args.draft.past (keeps-itself c.args.start.now) (inl refl) (λ nowhere. nowhere)
    (record { ordered = c.requires.ordered; low = c.requires.low; high = c.requires.high }) (c.in_ok-gets_past_all.ensures.sound c.if-not-branch.false)
    (c.new.view_is ∙ sym c.as_slice.ensures.value) c.in_ok-copy_of.ensures.value refl (rw (c.as_slice-2.ensures.value ∙ sym c.as_slice.ensures.value) at is-from)
