use Rattle.std.proofs.Common.{◌∙◌, subst}
use Rattle.std.specs.Prelude.{All, ◌≢◌}
use Rattle.whole.proofs.Drafted.{different-after}
use Rattle.whole.specs.declared.planned.Planned.{Planned}
use Rattle.whole.proofs.looking.Lookahead.look.Goals as goal

pub invariant_of-self-2 : goal.invariant_of-self-2
invariant_of-self-2 g c =
    let planned = c.in_ok-planned.planned in
    let same = c.in_ok-reserve.ensures.items in
    record {
      different = different-after (λ (one : Planned). one.file) _ _ _ planned c.args.self.now.different
          (subst (All (λ (other : Planned). other.file ≢ planned.file)) (c.as_slice-2.ensures.value ∙ same) c.in_ok-planned.ensures.other) same
          c.push_reserved.ensures.items;
    }
