use Rattle.std.proofs.Common.{subst}
use Rattle.ed_syntax.specs.meaning.Verbs.{Takes}
use Rattle.ed_rules.specs.Formed.{ChoiceIsBytes, TargetIsBytes}
use Rattle.analyser.proofs.texts.verb_is_bytes.Goals as goal

pub returns : goal.returns
returns c = record {
  bytes =
      subst (λ (t : Takes). TargetIsBytes t.target × ChoiceIsBytes t.pattern × ChoiceIsBytes t.path) c.takes-takes.ensures.value
      (c.target_is_bytes.ensures.bytes, c.own_pattern_is_bytes.ensures.bytes, c.own_path_is_bytes.ensures.bytes);
}
