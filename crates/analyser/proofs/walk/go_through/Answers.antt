use Rattle.std.proofs.Common.{List, [], arith, refl, sym, ap, ◌∙◌, subst, ◌+◌, map, is_some}
use Rattle.std.specs.Global.{Box}
use Rattle.ed_syntax.specs.PublicTypes.{step_value, steps_value}
use Rattle.ed_syntax.specs.Commands.{Step}
use Rattle.ed_syntax.specs.meaning.Verbs.{Takes}
use Rattle.cert_check.specs.Certificates.{note_value}
use Rattle.cert_check.specs.checker.Valid.{has_quit, counted}
use Rattle.ed_rules.specs.declared.state.State.{State}
use Rattle.analyser.specs.declared.walk.Walk.{Walk}
use Rattle.analyser.specs.declared.walk.Outcome.TheVariants.{Left}
use Rattle.analyser.proofs.Going.{Going, going-start, counted_from, walk-on, walk-off, walk-end, later-on, later-off, quit-on, quit-off, counted-none}
use Rattle.analyser.proofs.Rounding.{taken-shape}
use Rattle.analyser.proofs.walk.go_through.Goals as goal

pub loop-index-init : goal.loop-index-init
loop-index-init c = record {
  going = subst (λ ns. Going c.args.sight.now (counted_from c.args.commands.now 0) c.args.start 0 (map note_value ns) c.none-writes.result c.in_ok-coming.coming.value (counted_from c.args.commands.now 0)) (sym c.new-notes.ensures.items)
      (subst (λ ws. Going c.args.sight.now (counted_from c.args.commands.now 0) c.args.start 0 _ ws c.in_ok-coming.coming.value (counted_from c.args.commands.now 0)) (sym c.none-writes.ensures.value) (subst (λ (s : State). Going c.args.sight.now (counted_from c.args.commands.now 0) c.args.start 0 [] [] s (counted_from c.args.commands.now 0)) (sym c.in_ok-coming.ensures.ok) (going-start c.args.sight.now (counted_from c.args.commands.now 0) c.args.start)));
  quit = refl;
}

pub returns-in-Stops : goal.returns-in-Stops
returns-in-Stops c = record {
  value =
      walk-off c.args.sight.now c.args.commands.now c.args.start c.loop-index.index c.index-commands-index.result c.loop-index.notes.items c.push.new.self.items c.in_ok-note-in-Stops.note c.in_ok-looped.field-0.looped c.loop-index.writes c.loop-index.coming.value c.take.new.left
      c.in_ok-looped.field-0.end c.in-Stops.inner c.in-Stops.why c.place_of-place.result c.of.result
      (omega arith) c.index-commands-index.is (rw (c.in_ok-known.ensures.value, c.deref-in-loop-index-2.ensures) at c.in_ok-note-in-Stops.ensures.value) c.in_ok-push-in-Stops.ensures.items (rw c.deref-in-loop-index.ensures at c.in_ok-looped.ensures.value) c.in-Stops.is c.loop-index.invariant.going
      c.place_of-place.ensures.value (ap (λ (w : Walk). w.outcome) c.of.ensures.value) (ap (λ (w : Walk). w.notes.items) c.of.ensures.value);
}

pub list_taken-requires : goal.list_taken-requires
list_taken-requires c = record {
  shape = taken-shape c.args.sight.now (step_value c.index-commands-index.result) c.loop-index.coming.value c.take.new.left c.in_ok-looped.field-0.looped c.in_ok-looped.field-0.end (rw c.deref-in-loop-index.ensures at c.in_ok-looped.ensures.value) c.in-Leaves.is;
}

pub returns-then-is_some : goal.returns-then-is_some
returns-then-is_some c =
    let on = walk-on c.args.sight.now c.args.commands.now c.args.start c.loop-index.index c.index-commands-index.result c.loop-index.notes.items c.push-in-Leaves.new.self.items c.in_ok-note-in-Leaves.note c.in_ok-looped.field-0.looped c.loop-index.writes c.list_taken.new.paths
    c.loop-index.coming.value c.take.new.left c.swap.new.x.value c.in_ok-looped.field-0.end
    (omega arith) c.index-commands-index.is (rw (c.in_ok-known.ensures.value, c.deref-in-loop-index-2.ensures) at c.in_ok-note-in-Leaves.ensures.value) c.in_ok-push-in-Leaves.ensures.items (rw (c.in_ok-known.ensures.value, c.deref-in-loop-index-2.ensures) at c.in_ok-list_taken-in-Leaves.ensures.value) (rw c.deref-in-loop-index.ensures at c.in_ok-looped.ensures.value) c.in-Leaves.is (ap (λ (b : Box State). b.value) c.swap.ensures.x_after) c.loop-index.invariant.going in
    let ends = sym (ap (λ (t : Takes). is_some t.ends) c.takes.ensures.value) ∙ sym c.is_some.ensures ∙ c.if-is_some.true in
    let quit = quit-off c.args.commands.now c.loop-index.index c.index-commands-index.result (omega arith) c.index-commands-index.is ends c.loop-index.invariant.quit in
    record {
      value =
          walk-end c.args.sight.now c.args.commands.now c.args.start (c.loop-index.index + 1) c.push-in-Leaves.new.self.items c.list_taken.new.paths c.swap.new.x.value _ c.of-then-is_some.result
          on (later-off c.args.commands.now c.loop-index.index c.index-commands-index.result ends)
          (ap (λ (w : Walk). w.outcome) c.of-then-is_some.ensures.value ∙ ap (λ (s : State). Left s) (c.in_ok-try_keep.ensures.value ∙ c.deref-then-is_some.ensures)) (ap (λ (w : Walk). w.notes.items) c.of-then-is_some.ensures.value) (ap (λ (w : Walk). w.writes.items) c.of-then-is_some.ensures.value ∙ c.into_members-then-is_some.ensures.value)
          (ap (λ (w : Walk). w.quit) c.of-then-is_some.ensures.value ∙ sym quit);
    }

pub loop-index-preserved : goal.loop-index-preserved
loop-index-preserved c =
    let on = walk-on c.args.sight.now c.args.commands.now c.args.start c.loop-index.index c.index-commands-index.result c.loop-index.notes.items c.push-in-Leaves.new.self.items c.in_ok-note-in-Leaves.note c.in_ok-looped.field-0.looped c.loop-index.writes c.list_taken.new.paths
    c.loop-index.coming.value c.take.new.left c.swap.new.x.value c.in_ok-looped.field-0.end
    (omega arith) c.index-commands-index.is (rw (c.in_ok-known.ensures.value, c.deref-in-loop-index-2.ensures) at c.in_ok-note-in-Leaves.ensures.value) c.in_ok-push-in-Leaves.ensures.items (rw (c.in_ok-known.ensures.value, c.deref-in-loop-index-2.ensures) at c.in_ok-list_taken-in-Leaves.ensures.value) (rw c.deref-in-loop-index.ensures at c.in_ok-looped.ensures.value) c.in-Leaves.is (ap (λ (b : Box State). b.value) c.swap.ensures.x_after) c.loop-index.invariant.going in
    let stays = sym (ap (λ (t : Takes). is_some t.ends) c.takes.ensures.value) ∙ sym c.is_some.ensures ∙ c.if-is_some.false in
    record {
      going = subst (λ (xs : List Step). Going c.args.sight.now (counted_from c.args.commands.now 0) c.args.start (c.loop-index.index + 1) (map note_value c.push-in-Leaves.new.self.items) c.list_taken.new.paths c.swap.new.x.value xs)
          (later-on c.args.commands.now c.loop-index.index c.index-commands-index.result stays) on;
      quit = quit-on c.args.commands.now c.loop-index.index c.index-commands-index.result (omega arith) c.index-commands-index.is stays c.loop-index.invariant.quit;
    }

pub returns : goal.returns
returns c =
    let none = counted-none c.args.commands.now c.loop-index.index (omega arith) in
    record {
      value =
          walk-end c.args.sight.now c.args.commands.now c.args.start c.loop-index.index c.loop-index.notes.items c.loop-index.writes c.loop-index.coming.value _ c.of-2.result
          c.loop-index.invariant.going (ap (λ l. counted (steps_value l)) none)
          (ap (λ (w : Walk). w.outcome) c.of-2.ensures.value ∙ ap (λ (s : State). Left s) (c.in_ok-try_keep-2.ensures.value ∙ c.deref-2.ensures)) (ap (λ (w : Walk). w.notes.items) c.of-2.ensures.value) (ap (λ (w : Walk). w.writes.items) c.of-2.ensures.value ∙ c.into_members-2.ensures.value)
          (ap (λ (w : Walk). w.quit) c.of-2.ensures.value ∙ sym (c.loop-index.invariant.quit ∙ ap (λ l. has_quit (steps_value l)) none));
    }
