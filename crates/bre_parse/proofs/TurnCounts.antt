-- A greater count of turns changes no ways of a repeat.
use Rattle.std.proofs.Common.{◌≡◌, ℕ, zero, suc, ◌+◌, ◌-◌, ◌<◌, ◌≤◌, List, [], ◌∷◌, ◌++◌, flat_map, length, Option, Bool, true, false, refl, ap, ◌∙◌, arith}
use Rattle.std.specs.Prelude.{◌&&◌, nat_eq, nat_le}
use Rattle.std.proofs.lemmas.Bool.Decides.{nat_tests}
use Rattle.bre_parse.specs.Tree.{Tree, Repeat}
use Rattle.bre_parse.specs.Groups.{Groups, cleared}
use Rattle.bre_parse.specs.Ways.{Way, Body, ways, turns, next_turn, after_turn, stopped_or_on, fresh_turn, below, only_if, by_end, enough}
use Rattle.bre_parse.specs.Laws.{EndBetween}
use Rattle.bre_parse.proofs.Within.{ways_end_within, in_by_end}

same_flat_map : (low high : ℕ) (f g : Way → List Way) (ways : List Way) → EndBetween low high ways → ((way : Way) → low ≤ way.0 → way.0 ≤ high → f way ≡ g way) → flat_map f ways ≡ flat_map g ways
same_flat_map low high f g [] h all = refl
same_flat_map low high f g (way ∷ ways) h all =
    ap (λ first. first ++ flat_map f ways) (all way h.0 h.1) ∙ ap (λ rest. g way ++ rest) (same_flat_map low high f g ways h.2 all)

next_between : (high : ℕ) (test : Bool) (turn : Body) (place : ℕ) (groups : Groups) → EndBetween place high (turn place groups) → EndBetween place high (next_turn test turn place groups)
next_between high true turn place groups h = in_by_end place high (turn place groups) h
next_between high false turn place groups h = tt

-- a turn that isn't idle takes a byte, or was needed
same_stopped : (idle : Bool) (done : ℕ) (again other : Body) (way : Way) → (idle ≡ false → again way.0 way.1 ≡ other way.0 way.1) → stopped_or_on idle done again way ≡ stopped_or_on idle done other way
same_stopped true done again other way same = refl
same_stopped false done again other way same = same refl

not_idle : (least done place end : ℕ) → place ≤ end → (nat_eq end place && nat_le least done) ≡ false → (end ≤ place → done < least)
not_idle least done place end le idle at = by (nat_eq end place) refl (nat_le least done) refl idle
  where
    by : (one : Bool) → nat_eq end place ≡ one → (other : Bool) → nat_le least done ≡ other → (one && other) ≡ false → done < least
    by true e true f g = absurd cc
    by true e false f g = grind (arith, nat_tests)
    by false e other f g = absurd (grind (arith, nat_tests))

same_turns : (one other high : ℕ) (turn : Body) (least : ℕ) (most : Option ℕ) (done place : ℕ) (groups : Groups) → place ≤ high → (least - done) + (high - place) < one → (least - done) + (high - place) < other
    → ((place : ℕ) (groups : Groups) → place ≤ high → EndBetween place high (turn place groups)) → turns one turn least most done place groups ≡ turns other turn least most done place groups
same_turns zero other high turn least most done place groups le fits fits' all = absurd (omega arith)
same_turns (suc one) zero high turn least most done place groups le fits fits' all = absurd (omega arith)
same_turns (suc one) (suc other) high turn least most done place groups le fits fits' all =
    ap (λ more. by_end (more ++ only_if (nat_le least done) (place, groups)))
    (same_flat_map place high (after_turn least done place (turns one turn least most (done + 1))) (after_turn least done place (turns other turn least most (done + 1))) (next_turn (below done most) turn place groups)
    (next_between high (below done most) turn place groups (all place groups le))
    (λ way low bound. same_stopped (nat_eq way.0 place && nat_le least done) done (turns one turn least most (done + 1)) (turns other turn least most (done + 1)) way
    (λ idle. let needed = not_idle least done place way.0 low idle in
    same_turns one other high turn least most (done + 1) way.0 way.1 bound (smaller one way.0 low bound needed fits) (smaller other way.0 low bound needed fits') all)))
  where
    smaller : (count end : ℕ) → place ≤ end → end ≤ high → (end ≤ place → done < least) → (least - done) + (high - place) < suc count → (least - (done + 1)) + (high - end) < count
    smaller count end low bound needed fits = grind arith

pub ways_ignore_count : (content : Tree) (least : ℕ) (most : Option ℕ) (text : List ℕ) (more place : ℕ) (groups : Groups) → place ≤ length text → enough least text place ≤ more → turns more (fresh_turn content (ways content text)) least most 0 place groups ≡ ways (Repeat least most content) text place groups
ways_ignore_count content least most text more place groups le fits =
    same_turns more (enough least text place) (length text) (fresh_turn content (ways content text)) least most 0 place groups le (omega arith) (omega arith)
    (λ place' groups' le'. ways_end_within content text place' (cleared content groups') le')
