use Rattle.std.proofs.Common.{map, ◌∙◌}
use Rattle.ed_syntax.specs.PublicTypes.{command_value, step_value}
use Rattle.analyser.proofs.Rooms.{Laws}
use Rattle.analyser.proofs.Rounding.{rounds-start, rounds-next, rounds-smaller, rounds-last}
use Rattle.analyser.proofs.rounds.settle.Goals as goal

pub settling-init : goal.settling-init
settling-init c = rounds-start c.args.sight.now (step_value c.args.command.now) c.args.known.now

pub settling-preserved : goal.settling-preserved
settling-preserved c =
    rounds-next c.args.sight.now (step_value c.args.command.now) (map command_value c.list-list.result.now) c.args.known.now c.settling.known c.in-Some.next c.in_ok-coming.coming.value c.settling.before c.one_more-before.result c.in_ok-entry.entry.once
    c.in_ok-round.round.inner.items c.in_ok-round.round.failed c.go_round.new.coming.value c.in_ok-invariant_after.field-0
    c.list-list.ensures.value (c.in_ok-coming.ensures.ok ∙ c.in_ok-entry.ensures.state) c.in_ok-entry.ensures.once c.in_ok-round.ensures.value (rw c.deref-in-settling.ensures at c.in_ok-invariant_after.ensures.value) c.in-Some.is c.one_more-before.ensures.value c.settling.invariant

pub settling-smaller : goal.settling-smaller
settling-smaller c =
    let laws : Laws = record {
      joined = c.joined_states_are_covered.ensures.join;
      joined_other = c.joined_states_are_covered.ensures.join_other;
      widened = c.joined_states_are_covered.ensures.widen;
      widened_other = c.joined_states_are_covered.ensures.widen_other;
    } in
    rounds-smaller laws c.args.sight.now (step_value c.args.command.now) (map command_value c.list-list.result.now) c.args.known.now c.settling.known c.in-Some.next c.in_ok-coming.coming.value c.settling.before c.in_ok-entry.entry.once
    c.in_ok-round.round.inner.items c.in_ok-round.round.failed c.go_round.new.coming.value c.in_ok-invariant_after.field-0
    c.list-list.ensures.value (c.in_ok-coming.ensures.ok ∙ c.in_ok-entry.ensures.state) c.in_ok-entry.ensures.once c.in_ok-round.ensures.value (rw c.deref-in-settling.ensures at c.in_ok-invariant_after.ensures.value) c.in-Some.is c.zones_are_kept.ensures.kept (rw c.deref.ensures at c.zones_are_kept-in-settling.ensures.kept) c.settling.invariant

pub returns-in-None : goal.returns-in-None
returns-in-None c = record {
  value =
      rounds-last c.args.sight.now (step_value c.args.command.now) (map command_value c.list-list.result.now) c.args.known.now c.settling.known c.end_rounds.new.known c.in_ok-coming.coming.value c.settling.before c.in_ok-entry.entry.once c.in_ok-round.round c.in_ok-last-in-None.last
      c.go_round.new.coming.value c.in_ok-invariant_after.field-0
      c.list-list.ensures.value (c.in_ok-coming.ensures.ok ∙ c.in_ok-entry.ensures.state) c.in_ok-entry.ensures.once c.in_ok-round.ensures.value (rw c.deref-in-settling.ensures at c.in_ok-invariant_after.ensures.value) c.in-None.is c.settling.invariant
      c.in_ok-last-in-None.ensures.invariant c.in_ok-last-in-None.ensures.round (rw c.deref-in-None.ensures at c.in_ok-last-in-None.ensures.after);
}
