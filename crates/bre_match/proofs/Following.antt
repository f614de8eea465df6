-- A part's ways are taken up, those that are kept of them, and what comes after gives the same first ways.
use Rattle.std.proofs.Common.{◌≡◌, ℕ, ◌+◌, ◌<◌, List, [], ◌++◌, map, flat_map, length, get_or, drop, Bool, subst, ap, sym, ◌∙◌, arith}
use Rattle.std.proofs.lemmas.Grind.{flat_map-append}
use Rattle.bre_parse.specs.declared.tree.Node.{Node}
use Rattle.bre_parse.specs.Tree.{tree_of, sequence_of}
use Rattle.bre_parse.specs.Ways.{Way, ways, by_end, with_group}
use Rattle.bre_match.specs.declared.left.Left.{Left}
use Rattle.bre_match.specs.declared.run.Ahead.{Ahead}
use Rattle.bre_match.specs.Alike.{RefersWithin}
use Rattle.bre_match.specs.Keeping.{KeepsFirsts, Follows}
use Rattle.bre_match.specs.Runs.{groups_at, other_ways, at_item, tasks}
use Rattle.bre_match.specs.Narrowing.{weight}
use Rattle.bre_match.proofs.Asking.{rest_within}
use Rattle.bre_match.proofs.SameWays.{even_at, even_ways}
use Rattle.bre_match.proofs.Keeping.{keeps_after, keeps_before, keeps_follow, keeps_by_end, keeps_group}
use Rattle.bre_match.proofs.Tasks.{Comes, task_ways, task_steps, flat_map-map, weight-append, weight-map, follow_falls}

pub kept_tasks : (asked : List Bool) (items : List Node) (s : List ℕ) (j : ℕ) (all kept : List Way) (before : List (ℕ × Way)) → RefersWithin asked (sequence_of items) → KeepsFirsts asked all kept → KeepsFirsts asked (flat_map (task_ways items s) (map (at_item j) all ++ before)) (flat_map (task_ways items s) (map (at_item j) kept ++ before))
kept_tasks asked items s j all kept before r k =
    let T = task_ways items s in
    let f : Way → List Way = λ w. ways (sequence_of (drop j items)) s w.0 w.1 in
    let split : (ws : List Way) → flat_map T (map (at_item j) ws ++ before) ≡ flat_map f ws ++ flat_map T before = λ ws. flat_map-append T (map (at_item j) ws) before ∙ ap (λ l. l ++ flat_map T before) (flat_map-map T (at_item j) ws) in
    let followed = keeps_follow asked f all kept (even_at asked (ways (sequence_of (drop j items)) s) (even_ways asked (sequence_of (drop j items)) (rest_within asked items j r) s)) k in
    let whole = keeps_before asked (flat_map f all) (flat_map f kept) (flat_map T before) followed in
    subst (λ l. KeepsFirsts asked l (flat_map T (map (at_item j) kept ++ before))) (sym (split all)) (subst (λ l. KeepsFirsts asked (flat_map f all ++ flat_map T before) l) (sym (split kept)) whole)

pub followed_falls : (asked : List Bool) (items : List Node) (s : List ℕ) (part : Node) (next : Ahead) (left rest new : List Left) → next.item < length items → part ≡ get_or items next.item part → Comes next left rest
    → Follows asked (by_end (ways (tree_of part) s next.run.end (groups_at next.run next.run.end))) (next.item + 1) (map (at_item next.item) (other_ways next.run.end next.run.shorter (groups_at next.run)) ++ tasks rest) (tasks new)
    → weight (task_steps items s) (tasks new) < weight (task_steps items s) (tasks left)
followed_falls asked items s part next left rest new h at popped f =
    let F = task_steps items s in
    let before = map (at_item next.item) (other_ways next.run.end next.run.shorter (groups_at next.run)) ++ tasks rest in
    let all = by_end (ways (tree_of part) s next.run.end (groups_at next.run next.run.end)) in
    let falls = follow_falls items s part next left rest h at popped in
    let a : weight F (tasks new) ≡ weight F (map (at_item (next.item + 1)) f.0) + weight F before = ap (weight F) f.2 ∙ weight-append F (map (at_item (next.item + 1)) f.0) before in
    let b = weight-append F (map (at_item (next.item + 1)) all) before in
    let c = weight-map F (at_item (next.item + 1)) f.0 in
    let d = weight-map F (at_item (next.item + 1)) all in
    let e = f.1.fewer (λ w. F (at_item (next.item + 1) w)) in
    omega (arith, falls, a, b, c, d, e)

-- a group's ways, by those of its content
pub group_kept : (asked : List Bool) (i p : ℕ) (all inner none old new : List Way) → none ≡ [] → KeepsFirsts asked (none ++ all) inner → new ≡ old ++ map (with_group i p) inner → KeepsFirsts asked (old ++ map (with_group i p) all) new
group_kept asked i p all inner none old new e k put =
    let kept : KeepsFirsts asked all inner = subst (λ l. KeepsFirsts asked (l ++ all) inner) e k in
    subst (λ l. KeepsFirsts asked (old ++ map (with_group i p) all) l) (sym put) (keeps_after asked old (map (with_group i p) all) (map (with_group i p) inner) (keeps_group asked i p all inner kept))

-- the ways of a part, put in order
pub sorted_kept : (asked : List Bool) (all found none sorted : List Way) → none ≡ [] → KeepsFirsts asked (none ++ all) found → sorted ≡ by_end found → KeepsFirsts asked (by_end all) sorted
sorted_kept asked all found none sorted e k is =
    subst (λ l. KeepsFirsts asked (by_end all) l) (sym is) (keeps_by_end asked all found (subst (λ l. KeepsFirsts asked (l ++ all) found) e k))
