use Rattle.std.proofs.Common.{◌≡◌, ◌<◌, ℕ, None, All, map}
use Rattle.std.specs.List.{filter, range_with_len}
use Rattle.zones.specs.Name.{mark}
use Rattle.ed_rules.specs.FactsAfter.{stays_marked}
use Rattle.ed_rules.specs.facts.EditedFacts.{edit_of}
use Rattle.ed_rules.proofs.state.Old.letters_that_stay.Given as goal

abbrev pub invariant-loop-place : goal.invariant-loop-place
invariant-loop-place l =
    record {
      kept_is : l.kept.items ≡ map (λ (letter : ℕ). mark letter) (filter (stays_marked (edit_of l.gap None) l.self l.after) (range_with_len 0 l.place));
      in_range : All (λ x. x < 32) l.kept.items;
    }
