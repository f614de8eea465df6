use Rattle.std.proofs.Common.{◌≡◌, length, List, arith, refl, sym, ap, ◌∙◌, subst, ◌+◌, is_some}
use Rattle.std.specs.Global.{Box}
use Rattle.ed_syntax.specs.PublicTypes.{steps_value}
use Rattle.ed_syntax.specs.Commands.{Step}
use Rattle.ed_syntax.specs.meaning.Verbs.{Takes}
use Rattle.cert_check.specs.checker.Valid.{has_quit, counted}
use Rattle.ed_rules.specs.declared.state.State.{State}
use Rattle.analyser.specs.declared.passing.Passage.{Passage}
use Rattle.analyser.specs.declared.walk.Outcome.TheVariants.{Left}
use Rattle.analyser.proofs.Going.{counted_from, later-on, later-off, quit-on, quit-off, counted-none}
use Rattle.analyser.proofs.PassedOn.{Passing, passing-start, pass-on, pass-off, pass-end}
use Rattle.analyser.proofs.passing.pass_through.Goals as goal

pub loop-index-init : goal.loop-index-init
loop-index-init c = record {
  passing = passing-start c.args.sight.now (counted_from c.args.commands.now 0) c.args.start c.in_ok-coming.coming.value c.in_ok-coming.ensures.ok;
  quit = refl;
}

pub returns-in-Stops : goal.returns-in-Stops
returns-in-Stops c = record {
  value =
      pass-off c.args.sight.now c.args.commands.now c.args.start c.loop-index.index c.index-commands-index.result c.in_ok-inner.field-0.looped
      c.loop-index.coming.value c.take.new.left c.in_ok-inner.field-0.end c.in-Stops.inner c.in-Stops.why c.place_of-place.result c.of.result
      (omega arith) c.index-commands-index.is (rw c.deref-in-loop-index.ensures at c.in_ok-inner.ensures.value) c.in-Stops.is
      c.loop-index.invariant.passing c.place_of-place.ensures.value (ap (λ (p : Passage). p.outcome) c.of.ensures.value);
  within = let e = ap (λ (p : Passage). p.count) c.of.ensures.value in omega (arith, e);
}

pub returns-then-is_some : goal.returns-then-is_some
returns-then-is_some c =
    let on = pass-on c.args.sight.now c.args.commands.now c.args.start c.loop-index.index c.index-commands-index.result c.in_ok-inner.field-0.looped
    c.loop-index.coming.value c.take.new.left c.swap.new.x.value c.in_ok-inner.field-0.end (omega arith) c.index-commands-index.is
    (rw c.deref-in-loop-index.ensures at c.in_ok-inner.ensures.value) c.in-Leaves.is (ap (λ (b : Box State). b.value) c.swap.ensures.x_after)
    c.loop-index.invariant.passing in
    let ends = sym (ap (λ (t : Takes). is_some t.ends) c.takes.ensures.value) ∙ sym c.is_some.ensures ∙ c.if-is_some.true in
    let quit = quit-off c.args.commands.now c.loop-index.index c.index-commands-index.result (omega arith) c.index-commands-index.is ends
    c.loop-index.invariant.quit in
    record {
      value =
          pass-end c.args.sight.now c.args.commands.now c.args.start (c.loop-index.index + 1) c.swap.new.x.value _ c.of-then-is_some.result
          on (later-off c.args.commands.now c.loop-index.index c.index-commands-index.result ends)
          (ap (λ (p : Passage). p.outcome) c.of-then-is_some.ensures.value
          ∙ ap (λ (s : State). Left s) (c.in_ok-try_keep.ensures.value ∙ c.deref-then-is_some.ensures))
          (ap (λ (p : Passage). p.count) c.of-then-is_some.ensures.value) (ap (λ (p : Passage). p.quit) c.of-then-is_some.ensures.value ∙ sym quit);
      within = let e = ap (λ (p : Passage). p.count) c.of-then-is_some.ensures.value in omega (arith, e);
    }

pub loop-index-preserved : goal.loop-index-preserved
loop-index-preserved c =
    let on = pass-on c.args.sight.now c.args.commands.now c.args.start c.loop-index.index c.index-commands-index.result c.in_ok-inner.field-0.looped
    c.loop-index.coming.value c.take.new.left c.swap.new.x.value c.in_ok-inner.field-0.end (omega arith) c.index-commands-index.is
    (rw c.deref-in-loop-index.ensures at c.in_ok-inner.ensures.value) c.in-Leaves.is (ap (λ (b : Box State). b.value) c.swap.ensures.x_after)
    c.loop-index.invariant.passing in
    let stays = sym (ap (λ (t : Takes). is_some t.ends) c.takes.ensures.value) ∙ sym c.is_some.ensures ∙ c.if-is_some.false in
    record {
      passing =
          subst (λ (xs : List Step). Passing c.args.sight.now (counted_from c.args.commands.now 0) c.args.start (c.loop-index.index + 1) c.swap.new.x.value xs)
          (later-on c.args.commands.now c.loop-index.index c.index-commands-index.result stays) on;
      quit = quit-on c.args.commands.now c.loop-index.index c.index-commands-index.result (omega arith) c.index-commands-index.is stays
          c.loop-index.invariant.quit;
    }

pub returns : goal.returns
returns c =
    let at-end : c.loop-index.index ≡ length c.args.commands.now = omega arith in
    let none = counted-none c.args.commands.now c.loop-index.index at-end in
    record {
      value =
          pass-end c.args.sight.now c.args.commands.now c.args.start c.loop-index.index c.loop-index.coming.value _ c.of-2.result
          c.loop-index.invariant.passing (ap (λ l. counted (steps_value l)) none)
          (ap (λ (p : Passage). p.outcome) c.of-2.ensures.value ∙ ap (λ (s : State). Left s) (c.in_ok-try_keep-2.ensures.value ∙ c.deref-2.ensures))
          (ap (λ (p : Passage). p.count) c.of-2.ensures.value ∙ sym at-end)
          (ap (λ (p : Passage). p.quit) c.of-2.ensures.value ∙ sym (c.loop-index.invariant.quit ∙ ap (λ l. has_quit (steps_value l)) none));
      within = let e = ap (λ (p : Passage). p.count) c.of-2.ensures.value in omega (arith, e);
    }
