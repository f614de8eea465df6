use Rattle.std.proofs.Common.{not, refl, subst, sym}
use Rattle.std.specs.List.{All, Contains, filter}
use Rattle.std.proofs.lemmas.Result.{IfOk-weaker}
use Rattle.std.proofs.lemmas.List.Elements.{All-filter, All-same}
use Rattle.bre_parse.specs.Always.{text_is_always}
use Rattle.ed_syntax.specs.PublicScript.{script_value}
use Rattle.hints.specs.Widest.{addable}
use Rattle.hints.proofs.Enough.{enough-seen}
use Rattle.hints.proofs.Narrowed.{among-filter, among-same}
use Rattle.hints.proofs.narrowing.fewer_at_once.Goals as goal

pub returns-then-branch-2 : goal.returns-then-branch-2
returns-then-branch-2 c = record {
  enough = enough-seen (script_value c.args.script.now) c.args.given.now c.args.min c.args.added.now c.in_ok-some.some.items c.as_slice-2.result.now
      c.requires.enough c.as_slice-2.ensures.value
      (All-same (Contains (addable (script_value c.args.script.now) c.args.given.now.max)) _ _ c.in_ok-some.ensures.value
      (All-filter (λ text. not (text_is_always text)) (Contains (addable (script_value c.args.script.now) c.args.given.now.max)) c.args.added.now c.requires.enough.sought))
      (c.in_ok-is_vouched_beside-2.ensures.exact.0 c.if-branch-2.true);
  among = among-filter (λ text. not (text_is_always text)) c.args.added.now c.in_ok-some.some.items c.in_ok-some.ensures.value;
}

pub returns-clause-among : goal.returns-clause-among
returns-clause-among c = IfOk-weaker c.copies.result _ _ (λ fewer is. among-same c.args.added.now fewer.items is) c.copies.ensures.value
