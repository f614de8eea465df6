use Rattle.std.proofs.Common.{arith, Some, subst, List, ℕ}
use Rattle.std.proofs.lemmas.List.Elements.{All-map}
use Rattle.ed_rules.specs.Formed.{ChoiceIsBytes}
use Rattle.cert_check.proofs.texts.Limited.{all-more, all-end}
use Rattle.analyser.proofs.texts.paths_are_bytes.Goals as goal

pub loop-path-preserved : goal.loop-path-preserved
loop-path-preserved c =
    all-more (λ path. ChoiceIsBytes (Some path)) c.args.paths.now c.loop-path.path-index c.path-item.result (omega arith) c.path-item.is c.loop-path.invariant
    (subst (λ (bytes : List ℕ). ChoiceIsBytes (Some bytes)) c.as_slice.ensures.value c.are_bytes.ensures.bytes)

pub returns : goal.returns
returns c = record {
  bytes =
      All-map ChoiceIsBytes (λ (path : List ℕ). Some path) c.args.paths.now
      (all-end (λ path. ChoiceIsBytes (Some path)) c.args.paths.now c.loop-path.path-index (omega arith) c.loop-path.invariant);
}
