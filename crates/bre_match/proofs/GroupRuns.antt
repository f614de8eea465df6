-- A group round a part that has one run of ways has one run too.
use Rattle.std.proofs.Common.{◌≡◌, ℕ, zero, suc, ◌-◌, List, ◌∷◌, map, Option, Some, None, refl, ap, sym, subst, ◌∙◌}
use Rattle.bre_parse.specs.Tree.{Tree, Empty, Then, Set, TextStart, TextEnd, BackReference, Group, Repeat}
use Rattle.bre_parse.specs.Groups.{Groups}
use Rattle.bre_parse.specs.Ways.{Way, ways, by_end, with_group}
use Rattle.bre_match.specs.declared.run.Ends.{Ends}
use Rattle.bre_match.specs.declared.run.Simple.{Simple}
use Rattle.bre_match.specs.declared.run.Simple.TheVariants as simple
use Rattle.bre_match.specs.Runs.{closed, shorter_ways, ways_ending, only_item, AreOf, IsSimple}
use Rattle.bre_match.proofs.Tasks.{run_sorted, flat_map-alone}

-- the ways of a run, with a group closed by each
closing_shorter : (group start e n : ℕ) (groups : Groups) → map (with_group group start) (shorter_ways e n (closed None groups)) ≡ shorter_ways e n (closed (Some (group, start)) groups)
closing_shorter group start e zero groups = refl
closing_shorter group start e (suc n) groups =
    ap (λ l. (e, closed (Some (group, start)) groups e) ∷ l) (closing_shorter group start (e - 1) n groups)

pub closing_run : (group start : ℕ) (groups : Groups) (ends : Ends) (ws : List Way) → ends.closes ≡ None → ws ≡ ways_ending groups ends → map (with_group group start) ws ≡ shorter_ways ends.end ends.shorter (closed (Some (group, start)) groups)
closing_run group start groups ends ws plain h =
    ap (map (with_group group start)) (h ∙ ap (λ c. shorter_ways ends.end ends.shorter (closed c groups)) plain)
    ∙ closing_shorter group start ends.end ends.shorter groups

-- a sequence of one item has the item's ways in order
only_ways : (tree item : Tree) (s : List ℕ) (p : ℕ) (groups : Groups) → Some item ≡ only_item tree → ways tree s p groups ≡ by_end (ways item s p groups)
only_ways (Then first Empty) item s p groups e =
    flat_map-alone (by_end (ways first s p groups)) ∙ ap (λ t. by_end (ways t s p groups)) (only_told e)
  where
    only_told : Some item ≡ Some first → first ≡ item
    only_told e = cc
only_ways (Then first (Then next rest)) item s p groups e = absurd cc
only_ways (Then first (Set negated rs)) item s p groups e = absurd cc
only_ways (Then first TextStart) item s p groups e = absurd cc
only_ways (Then first TextEnd) item s p groups e = absurd cc
only_ways (Then first (BackReference group)) item s p groups e = absurd cc
only_ways (Then first (Group group content)) item s p groups e = absurd cc
only_ways (Then first (Repeat least most content)) item s p groups e = absurd cc
only_ways Empty item s p groups e = absurd cc
only_ways (Set negated rs) item s p groups e = absurd cc
only_ways TextStart item s p groups e = absurd cc
only_ways TextEnd item s p groups e = absurd cc
only_ways (BackReference group) item s p groups e = absurd cc
only_ways (Group group content) item s p groups e = absurd cc
only_ways (Repeat least most content) item s p groups e = absurd cc

in_order : (groups : Groups) (found : Simple) (ws : List Way) → IsSimple groups found ws → IsSimple groups found (by_end ws)
in_order groups (simple.Ways found) ws h = sorted_run found ws h
  where
    sorted_run : (found : Option Ends) (ws : List Way) → AreOf groups found ws → AreOf groups found (by_end ws)
    sorted_run None ws h = run_sorted groups None ws h ∙ h
    sorted_run (Some ends) ws h = run_sorted groups (Some ends) ws h ∙ h
in_order groups simple.Several ws h = tt

-- what is told of the ways of a group's only item, with the group closed, is told of the group's
pub group_told : (found result : Simple) (content item : Tree) (group : ℕ) (s : List ℕ) (p : ℕ) (groups : Groups) → Some item ≡ only_item content → IsSimple groups found (ways item s p groups) → ((ws : List Way) → IsSimple groups found ws → IsSimple groups result (map (with_group group p) ws)) → IsSimple groups result (ways (Group group content) s p groups)
group_told found result content item group s p groups only h closes =
    let i = closes (by_end (ways item s p groups)) (in_order groups found (ways item s p groups) h) in
    subst (λ ws. IsSimple groups result (map (with_group group p) ws)) (sym (only_ways content item s p groups only)) i
