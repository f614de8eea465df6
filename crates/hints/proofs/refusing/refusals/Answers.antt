use Rattle.std.specs.Option.{option_copied}
use Rattle.std.proofs.Common.{◌≡◌, length, arith, sym, ◌∙◌, subst}
use Rattle.hints.specs.Passing.{IsAllowed}
use Rattle.hints.specs.declared.refusing.Rest.TheVariants as rest
use Rattle.hints.specs.Refusals.{cut}
use Rattle.hints.proofs.Chains.{begins, begins-count, stops, ends, none-told, goes-on, goes-on-count, stays-allowed}
use Rattle.hints.proofs.refusing.refusals.Goals as goal

pub turns-init : goal.turns-init
turns-init c = record {
  in_turn = begins (option_copied c.args.file) c.args.script.now c.args.start.now c.new-found.result.items c.in_ok-current.current c.in_ok-opened.opened c.new-found.ensures.items c.in_ok-current.ensures.value c.in_ok-opened.ensures.value;
  allowed = subst IsAllowed (sym c.in_ok-opened.ensures.value) (record { ordered = c.requires.ordered; low = c.requires.low; high = c.requires.high });
  count = begins-count c.new-found.result.items c.new-found.ensures.items;
}

pub returns-in_default-clause-each : goal.returns-in_default-clause-each
returns-in_default-clause-each c =
    ends (option_copied c.args.file) c.args.script.now c.args.start.now c.turns.found.items c.turns.current c.as_slice.result.now c.turns.opened c.turns.invariant.in_turn c.as_slice.ensures.value
    (rw c.in_default.is at c.in_ok-refusal.ensures.exact)

pub returns-in_default-clause-none : goal.returns-in_default-clause-none
returns-in_default-clause-none c =
    none-told (option_copied c.args.file) c.args.script.now c.args.start.now c.turns.found.items rest.Vouched (returns-in_default-clause-each c)

pub returns-in-None-clause-each : goal.returns-in-None-clause-each
returns-in-None-clause-each c =
    let found = rw c.in-Some.is at c.in_ok-refusal.ensures.exact in
    stops (option_copied c.args.file) c.args.script.now c.args.start.now c.turns.found.items c.push.new.self.items c.turns.current c.turns.opened c.in-Some.refusal c.turns.invariant.in_turn
    found.0 (found.1 ∙ c.as_slice.ensures.value) found.2 (rw c.in-None.is at c.in_ok-mended.ensures.value) c.in_ok-push-in-None.ensures.items

pub turns-preserved : goal.turns-preserved
turns-preserved c =
    let found = rw c.in-Some.is at c.in_ok-refusal.ensures.exact in
    let goes = rw c.in-Some-2.is at c.in_ok-mended.ensures.value in
    record {
      in_turn =
          goes-on (option_copied c.args.file) c.args.script.now c.args.start.now c.turns.found.items c.push-in-Some-2.new.self.items c.turns.current c.in-Some-2.mended c.turns.opened c.in-Some-2.bounded c.in-Some.refusal
          c.turns.invariant.in_turn found.0 (found.1 ∙ c.as_slice.ensures.value) found.2 goes c.in_ok-push-in-Some-2.ensures.items;
      allowed = stays-allowed (option_copied c.args.file) c.in-Some.refusal c.in-Some-2.mended c.in-Some-2.bounded c.turns.opened found.0 goes found.2 c.turns.invariant.allowed;
      count = goes-on-count c.turns.found.items c.push-in-Some-2.new.self.items c.in-Some.refusal c.turns.turn c.in_ok-push-in-Some-2.ensures.items c.turns.invariant.count;
    }

pub returns-clause-each : goal.returns-clause-each
returns-clause-each c =
    let many : length c.turns.found.items ≡ 10 = omega (arith, c.turns.invariant.count) in
    cut c.turns.found.items c.turns.current c.turns.opened c.turns.invariant.in_turn many

pub returns-clause-none : goal.returns-clause-none
returns-clause-none c = none-told (option_copied c.args.file) c.args.script.now c.args.start.now c.turns.found.items rest.Cut (returns-clause-each c)
