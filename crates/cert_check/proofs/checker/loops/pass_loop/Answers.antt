use Rattle.std.proofs.Common.{◌≡◌, ◌+◌, ℕ, true, false, None, Some, length, ◌∙◌, sym, ap, subst, rules}
use Rattle.std.proofs.lemmas.List.{length-map}
use Rattle.ed_syntax.specs.PublicTypes.{command_value, step_value}
use Rattle.cert_check.specs.checker.Covering.{covers}
use Rattle.cert_check.specs.checker.Valid.{inner_at, runs_once, entry_of}
use Rattle.cert_check.specs.Certificates.{looped_value}
use Rattle.cert_check.specs.checker.Passing.{ListGoesTo, after_turn, LoopGoesTo}
use Rattle.cert_check.proofs.verdicts.Judging.{loop-off, loop-on}
use Rattle.cert_check.proofs.checker.loops.pass_loop.Goals as goal

pub returns-then-not-holds_again : goal.returns-then-not-holds_again
returns-then-not-holds_again c =
    let x = step_value c.args.command.now in
    let invariant = c.args.looped.now.invariant in
    let first : covers invariant c.args.coming.now ≡ true = search rules in
    let goes : ListGoesTo c.args.sight.now c.args.number c.args.writes.now x.list (looped_value c.args.looped.now).inner (entry_of c.args.sight.now x invariant) None c.go_through_list.new.coming = search rules in
    let again : after_turn (runs_once c.args.sight.now x invariant) invariant c.go_through_list.new.coming ≡ None = search rules in
    let size : length c.list-list.result.now ≡ length x.list = sym (length-map c.list-list.result.now command_value) ∙ ap length c.list-list.ensures.value in
    record {
      value = subst (λ (n : ℕ). LoopGoesTo c.args.sight.now c.args.number c.args.writes.now x (looped_value c.args.looped.now) c.args.known.now c.args.coming.now
          (Some (inner_at c.args.number (n + 1))) c.end_turns.new.coming) (sym size)
          (loop-off c.args.sight.now c.args.number c.args.writes.now x (looped_value c.args.looped.now) c.args.known.now c.args.coming.now c.go_through_list.new.coming first goes c.end_turns.new.coming again);
    }

pub returns : goal.returns
returns c =
    let x = step_value c.args.command.now in
    let invariant = c.args.looped.now.invariant in
    let first : covers invariant c.args.coming.now ≡ true = search rules in
    let goes : ListGoesTo c.args.sight.now c.args.number c.args.writes.now x.list (looped_value c.args.looped.now).inner (entry_of c.args.sight.now x invariant) None c.go_through_list.new.coming = search rules in
    let again : after_turn (runs_once c.args.sight.now x invariant) invariant c.go_through_list.new.coming ≡ Some c.end_turns.new.coming = search rules in
    record {
      value = loop-on c.args.sight.now c.args.number c.args.writes.now x (looped_value c.args.looped.now) c.args.known.now c.args.coming.now c.go_through_list.new.coming first goes c.end_turns.new.coming _ again (search rules);
    }
