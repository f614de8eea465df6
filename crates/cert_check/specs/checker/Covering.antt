-- Covering as a test: what the checker asks of two states, and what certificates are judged by.
use Rattle.std.specs.Prelude.{ℕ, Bool, true, false, not, ◌&&◌, ◌||◌, List, get_or, Option, Some, None}
use Rattle.std.specs.List.{list_all, range_with_len}
use Rattle.zones.specs.Bound.{covers_bound}
use Rattle.zones.specs.Zone.{Bounds}
use Rattle.ed_rules.specs.declared.known_matches.Matches.{Matches}
use Rattle.ed_rules.specs.declared.state.Old.{Old}
use Rattle.ed_rules.specs.declared.state.Replacements.{Replacements}
use Rattle.ed_rules.specs.declared.state.Changed.{Changed}
use Rattle.ed_rules.specs.declared.state.Undo.{Undo}
use Rattle.ed_rules.specs.declared.state.State.{State}
use Rattle.ed_rules.specs.Choices.{are_choices}
use Rattle.ed_rules.specs.Marks.{is_sure}
use Rattle.ed_rules.specs.Texts.{are_members}
use Rattle.ed_rules.specs.facts.FactOrder.{cover_facts}

-- no bound of the weak zone is less than the strong one's
unfoldable pub zone_covers : (weak strong : Bounds) → Bool
zone_covers weak strong = list_all (λ place. covers_bound (get_or weak place None) (get_or strong place None)) (range_with_len 0 1024)

-- what the strong one allows the weak one allows
abbrev pub allows : (weak strong : Bool) → Bool
allows weak strong = not strong || weak

-- each that is sure in the first is sure in the second
unfoldable pub are_among : (few many : List Bool) → Bool
are_among few many = list_all (λ letter. allows (is_sure many letter) (is_sure few letter)) (range_with_len 0 26)

abbrev pub replacements_cover : (weak strong : Replacements) → Bool
replacements_cover weak strong = allows weak.none strong.none && (allows weak.plain strong.plain && allows weak.split strong.split)

abbrev pub changed_covers : (weak strong : Changed) → Bool
changed_covers weak strong = allows weak.no strong.no && allows weak.yes strong.yes

abbrev pub old_covers : (weak strong : Option Old) → Bool
old_covers weak None = true
old_covers None (Some strong) = false
old_covers (Some weak) (Some strong) =
    zone_covers weak.zone strong.zone && (are_among weak.marks strong.marks && cover_facts weak.facts strong.zone strong.facts)

abbrev pub undo_covers : (weak strong : Undo) → Bool
undo_covers weak strong = allows weak.nothing strong.nothing && (allows weak.same strong.same && old_covers weak.was strong.was)

-- where the strong state has an earlier buffer, the patterns that its lines match by the weak state are among those of the strong one
abbrev pub old_has_covers : {A : Type 0} → Option A → (weak strong : List (List ℕ)) → Bool
old_has_covers None weak strong = true
old_has_covers (Some old) weak strong = are_members weak strong

abbrev pub matches_cover : {A : Type 0} → Option A → (weak strong : Matches) → Bool
matches_cover was weak strong = are_members weak.has strong.has && old_has_covers was weak.old_has strong.old_has

-- one state covers another: all that it says the other says too
unfoldable pub covers : (weak strong : State) → Bool
covers weak strong =
    zone_covers weak.zone strong.zone && (are_among weak.marks strong.marks && (are_choices strong.patterns weak.patterns && (
    replacements_cover weak.replacements strong.replacements && (are_choices strong.names weak.names && (
    changed_covers weak.changed strong.changed && (undo_covers weak.undo strong.undo && (
    matches_cover strong.undo.was weak.matches strong.matches && cover_facts weak.facts strong.zone strong.facts)))))))
