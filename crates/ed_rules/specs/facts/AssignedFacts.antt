-- What is known of lines where a name becomes another one's line, or moves by a number.
use Rattle.std.specs.Prelude.{ℕ, ◌==◌, ℤ, pos, negsuc, suc, zero, Bool, ◌&&◌, not, List, [], ◌++◌, map, filter, find, flat_map, None, Some, if◌then◌else◌}
use Rattle.zones.specs.Zone.{Bounds}
use Rattle.zones.specs.Steps.{after_set, after_shift}
use Rattle.ed_rules.specs.facts.Facts.{LineFact, Stretch, Facts, same, told}
use Rattle.ed_rules.specs.facts.FactOrder.{is_line}
use Rattle.ed_rules.specs.facts.FoundLines.{Known, known_as, without}
use Rattle.ed_rules.specs.facts.EditedFacts.{told_fact}

-- what is told of the line y, as facts of x
abbrev pub told_as : Bounds → Facts → (x y : ℕ) → (patterns : List (List ℕ)) → List LineFact
told_as zone facts x y patterns =
    if is_line zone y then flat_map (λ p. told_fact x p (told zone facts y p)) patterns else []

-- the stretches of y, as those of x
abbrev pub from_as : (x y : ℕ) → List Stretch → List Stretch
from_as x y clear = map (λ (s : Stretch). record s { after = x }) (filter (λ s. s.after == y && not (s.before == x)) clear)

abbrev pub to_as : (x y : ℕ) → List Stretch → List Stretch
to_as x y clear = map (λ (s : Stretch). record s { before = x }) (filter (λ s. s.before == y && not (s.after == x)) clear)

-- another name that is known to be that of the line x
abbrev pub is_heir : Bounds → (x z : ℕ) → Bool
is_heir zone x z = not (z == x) && same zone z x

-- Before x becomes another line, what is told of the stretches from x and up to it is told by the first other name of its line of which
-- something is told.
abbrev pub handed_on : (x : ℕ) → Bounds → Facts → Facts
handed_on x zone facts =
    elim (find (is_heir zone x) (map (λ f. f.name) facts.lines)) [
      | Some z ↦ record facts { clear = from_as z x facts.clear ++ (to_as z x facts.clear ++ facts.clear) }
      | None ↦ facts
    ]

-- x becomes y, in the zone and in the facts at once
abbrev pub assigned : (x y : ℕ) → (patterns : List (List ℕ)) → Bounds → Facts → Known
assigned x y patterns zone old =
    let facts = handed_on x zone old in
    let others = without x facts in
    known_as (after_set zone x y (pos 0))
    (record {
      lines = told_as zone facts x y patterns ++ others.lines;
      clear = from_as x y facts.clear ++ (to_as x y facts.clear ++ others.clear);
    })

-- the stretches that are still clear once x has moved
abbrev pub shortened : (x : ℕ) → ℤ → Stretch → Bool
shortened x (pos n) s = not (s.before == x)
shortened x (negsuc n) s = not (s.after == x)

-- x moves by a number
abbrev pub moved : (x : ℕ) → ℤ → Known → Known
moved x (pos zero) k = k
moved x (pos (suc n)) k = known_as (after_shift k.zone x (Some (pos (suc n))) (Some (pos (suc n)))) (record {
  lines = filter (λ f. not (f.name == x)) k.facts.lines;
  clear = filter (shortened x (pos (suc n))) k.facts.clear;
})
moved x (negsuc n) k = known_as (after_shift k.zone x (Some (negsuc n)) (Some (negsuc n))) (record {
  lines = filter (λ f. not (f.name == x)) k.facts.lines;
  clear = filter (shortened x (negsuc n)) k.facts.clear;
})
