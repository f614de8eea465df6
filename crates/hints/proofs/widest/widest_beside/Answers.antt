use Rattle.std.proofs.Common.{List, ℕ, refl, false, IsTrue, ◌∙◌, ap, sym, subst, arith}
use Rattle.ed_syntax.specs.PublicScript.{script_value}
use Rattle.ed_rules.specs.Texts.{are_members}
use Rattle.ed_rules.proofs.Texting.{members-through}
use Rattle.analyser.specs.declared.analysis.Start.{Start}
use Rattle.hints.specs.Passing.{IsVouched}
use Rattle.hints.specs.Widest.{start_with, beside}
use Rattle.hints.proofs.Enough.{enough-lower, enough-other, not-over, widest-needed, widest-ok}
use Rattle.hints.proofs.Narrowed.{among-same, fewest-below, narrowed-beside, narrowed-further}
use Rattle.hints.proofs.widest.widest_beside.Goals as goal

pub fewer-init : goal.fewer-init
fewer-init c = record {
  enough = c.requires.enough;
  below = omega arith;
  among = among-same c.args.added.items c.args.added.items refl;
}

pub widest_as_given-requires-clause-vouched : goal.widest_as_given-requires-clause-vouched
widest_as_given-requires-clause-vouched c =
    subst (λ (s : Start). IsVouched (script_value c.args.script.now) s) c.in_ok-as_given.ensures.value (c.in_ok-is_vouched.ensures.exact.0 c.if-branch.true)

pub returns-then-branch-clause-narrowed : goal.returns-then-branch-clause-narrowed
returns-then-branch-clause-narrowed c =
    narrowed-further c.args.given.now c.in_ok-fewest.fewest c.args.min c.args.added.items c.args.added.items c.widest_as_given.result
    (fewest-below c.in_ok-fewest.fewest c.in_ok-start.start c.args.given.now c.fewer.most c.args.min _
    c.in_ok-fewest.ensures.below c.in_ok-start.ensures.value c.fewer.invariant.below)
    (among-same c.args.added.items c.args.added.items refl) (c.widest_as_given.ensures.narrowed c.args.added.items)

pub fewer-preserved-in-Some : goal.fewer-preserved-in-Some
fewer-preserved-in-Some c = record {
  enough = rw c.in-Some.is at c.in_ok-fewer.ensures.enough;
  below = fewest-below c.in_ok-fewest.fewest c.in_ok-start.start c.args.given.now c.fewer.most c.args.min _
      c.in_ok-fewest.ensures.below c.in_ok-start.ensures.value c.fewer.invariant.below;
  among = members-through c.in-Some.fewer.items c.as_slice-in-fewer.result.now c.args.added.items (rw c.in-Some.is at c.in_ok-fewer.ensures.among)
      (ap (λ (l : List (List ℕ)). are_members l c.args.added.items) c.as_slice-in-fewer.ensures.value ∙ c.fewer.invariant.among);
}

pub fewer-preserved : goal.fewer-preserved
fewer-preserved c = record {
  enough = rw c.in-Some.is at c.in_ok-fewer.ensures.enough;
  below = fewest-below c.in_ok-fewest.fewest c.in_ok-start.start c.args.given.now c.fewer.most c.args.min _
      c.in_ok-fewest.ensures.below c.in_ok-start.ensures.value c.fewer.invariant.below;
  among = members-through c.in-Some.fewer.items c.as_slice-in-fewer.result.now c.args.added.items (rw c.in-Some.is at c.in_ok-fewer.ensures.among)
      (ap (λ (l : List (List ℕ)). are_members l c.args.added.items) c.as_slice-in-fewer.ensures.value ∙ c.fewer.invariant.among);
}

pub fewer_of-requires : goal.fewer_of-requires
fewer_of-requires c = record {
  enough = enough-other (script_value c.args.script.now) c.args.given.now c.in_ok-fewest.fewest c.fewer.left.items c.as_slice-in-fewer.result.now
      c.as_slice-in-fewer.ensures.value
      (enough-lower (script_value c.args.script.now) c.args.given.now c.in_ok-start.start c.fewer.most c.in_ok-fewest.fewest c.fewer.left.items c.as_slice.result.now
      c.as_slice.ensures.value c.in_ok-start.ensures.value c.fewer.invariant.enough
      (record {
        vouched = c.in_ok-fewest.ensures.vouched;
        least = c.in_ok-fewest.ensures.least;
        kept = c.in_ok-fewest.ensures.kept;
        below = c.in_ok-fewest.ensures.below;
      }));
}

pub returns-in_default : goal.returns-in_default
returns-in_default c = record {
  widest = widest-ok (script_value c.args.script.now) c.args.given.now (start_with c.args.given.now c.in_ok-fewest.fewest (beside c.args.given.now c.fewer.left.items))
      c.start_beside-in_default.result
      (widest-needed (script_value c.args.script.now) c.args.given.now c.in_ok-start.start c.fewer.most c.in_ok-fewest.fewest c.fewer.left.items c.as_slice.result.now
      c.as_slice.ensures.value c.in_ok-start.ensures.value c.fewer.invariant.enough
      (record {
        vouched = c.in_ok-fewest.ensures.vouched;
        least = c.in_ok-fewest.ensures.least;
        kept = c.in_ok-fewest.ensures.kept;
        below = c.in_ok-fewest.ensures.below;
      })
      (rw c.as_slice-in-fewer.ensures.value at (rw c.in_default.is at c.in_ok-fewer.ensures.needed))
      (not-over (script_value c.args.script.now) c.in_ok-as_given.field-0 (start_with c.args.given.now c.in_ok-fewest.fewest c.args.given.now.has)
      c.in_ok-is_vouched.field-0 c.in_ok-as_given.ensures.value c.if-branch.false c.in_ok-is_vouched.ensures.exact))
      (rw c.as_slice-in_default.ensures.value at c.start_beside-in_default.ensures.value);
  narrowed = narrowed-beside c.args.given.now c.in_ok-fewest.fewest c.args.min c.fewer.left.items c.args.added.items c.start_beside-in_default.result
      (fewest-below c.in_ok-fewest.fewest c.in_ok-start.start c.args.given.now c.fewer.most c.args.min _
      c.in_ok-fewest.ensures.below c.in_ok-start.ensures.value c.fewer.invariant.below)
      c.fewer.invariant.among (rw c.as_slice-in_default.ensures.value at c.start_beside-in_default.ensures.value);
}
