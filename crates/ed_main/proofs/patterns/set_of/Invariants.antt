-- The patterns that were passed are in the set.
use Rattle.std.proofs.Common.{◌≡◌, [], drop, map}
use Rattle.ed_rules.specs.Texts.{with_texts}
use Rattle.ed_main.specs.Words.{are_patterns}
use Rattle.ed_main.proofs.patterns.set_of.Given as goal

abbrev pub invariant-loop-text : goal.invariant-loop-text
invariant-loop-text l =
    record {
      set : with_texts (map (λ t. t.now) l.texts) [] ≡ with_texts (map (λ t. t.now) (drop l.text-index l.texts)) l.set;
      patterns : are_patterns (map (λ t. t.now) l.texts) ≡ are_patterns (map (λ t. t.now) (drop l.text-index l.texts));
    }
