use Rattle.std.proofs.Common.{◌≡◌, List, ℕ, true, Some, map, subst}
use Rattle.std.specs.List.{All}
use Rattle.ed_rules.specs.Texts.{are_rising}
use Rattle.ed_rules.specs.Formed.{ChoiceIsBytes}
use Rattle.analyser.proofs.texts.has_is_formed.Goals as goal

pub returns-in-Some : goal.returns-in-Some
returns-in-Some c = record {
  formed = rw c.in-Some.is (record {
    bytes = subst (λ (set : List (List ℕ)). All ChoiceIsBytes (map (λ text. Some text) set)) c.members.ensures.value c.paths_are_bytes.ensures.bytes;
    rising = subst (λ (set : List (List ℕ)). are_rising set ≡ true) c.members.ensures.value c.members.ensures.rising;
  });
}
