-- Patterns that are enough, and the start that is found with those that are needed.
use Rattle.std.proofs.Common.{zero, suc, [], ◌∷◌, length, ◌≡◌, ◌↔◌, IsTrue, Bool, ◌<◌, ◌≤◌, ◌-◌, ◌++◌, ℕ, List, Option, Some, None, Result, Ok, Err, IfOk, refl, sym, ◌∙◌, ap, ◌+◌, true, false, subst, arith, take, drop}
use borrow.Author.Count.{below_more}
use Rattle.std.specs.Prelude.{IfSome, IfNone, IsSome}
use Rattle.std.specs.List.{All, Contains, remove}
use Rattle.std.specs.declared.alloc.AllocError.{AllocError}
use Rattle.std.proofs.lemmas.List.{length-append, length-drop, take-append-drop}
use Rattle.std.proofs.lemmas.List.Elements.{All-nil, All-head, All-append, All-take, All-drop, All-contains_itself}
use Rattle.ed_syntax.specs.Commands.{Script}
use Rattle.ed_rules.specs.LineBounds.{IsAtMost}
use Rattle.analyser.specs.declared.analysis.Start.{Start}
use Rattle.hints.specs.declared.given.Given.{Given}
use Rattle.hints.specs.Passing.{IsAllowed, IsVouched, most_of, with_min}
use Rattle.hints.specs.Widest.{start_with, beside, searched, addable, fullest_min, fullest, StatesNeeded, as_given, with_more, AreNeeded, IsWidest}
use Rattle.hints.specs.Narrowing.{AreEnough}

-- what is true of all is true of all but one
pub All-remove : {X : Type 0} (P : X → Type 0) (xs : List X) (i : ℕ) → All P xs → All P (remove xs i)
All-remove P xs i all = All-append P (take i xs) (drop (suc i) xs) (All-take P i xs all) (All-drop P (suc i) xs all)

pub shorter-but_one : (added seen fewer all : List (List ℕ)) (i : ℕ) → seen ≡ added → fewer ≡ remove seen i → length added ≤ length all →
    length fewer ≤ length all
shorter-but_one added seen fewer all i is but below =
    let size : length fewer ≡ length (take i added) + length (drop (suc i) added) =
    ap (λ (l : List (List ℕ)). length l) (but ∙ ap (λ (l : List (List ℕ)). remove l i) is) ∙ length-append (take i added) (drop (suc i) added) in
    let whole : length (take i added) + length (drop i added) ≡ length added =
    sym (length-append (take i added) (drop i added)) ∙ ap (λ (l : List (List ℕ)). length l) (take-append-drop i added) in
    let here : length (drop i added) ≡ length added - i = length-drop i added in
    let next : length (drop (suc i) added) ≡ length added - suc i = length-drop (suc i) added in
    omega (arith, size, whole, here, next, below)

-- others are enough that are among them
pub enough-too : (script : Script) (given : Given) (min : ℕ) (added fewer : List (List ℕ)) → AreEnough script given min added →
    All (Contains (addable script given.max)) fewer → IsVouched script (start_with given min (beside given fewer)) → AreEnough script given min fewer
enough-too script given min added fewer are some vouched = record {
  given_least = are.given_least;
  allowed = record { ordered = are.allowed.ordered; low = are.allowed.low; high = are.allowed.high };
  sought = some;
  vouched = vouched;
}

-- the fewest lines of a start
pub record IsLowered (script : Script) (given : Given) (start : Start) (fewest : ℕ) : Type 0 where
  pub vouched : IsVouched script (with_min start fewest)
  pub least : IfNone given.min (0 < fewest → IsVouched script (with_min start (fewest - 1)) → ⊥)
  pub kept : IsSome given.min → fewest ≡ start.min
  pub below : fewest ≤ start.min

at-most-below : (most : Option ℕ) (fewest min : ℕ) → fewest ≤ min → IsAtMost min most → IsAtMost fewest most
at-most-below None fewest min below ordered = tt
at-most-below (Some most) fewest min below ordered = omega (arith, below, ordered)

least-kept : (given : Option ℕ) (fewest min : ℕ) → (IsSome given → fewest ≡ min) → IfSome given (λ least. min ≡ least) → IfSome given (λ least. fewest ≡ least)
least-kept None fewest min kept is = tt
least-kept (Some least) fewest min kept is = kept refl ∙ is

pub allowed-below : (given : Given) (has other : Option (List (List ℕ))) (fewest min : ℕ) → fewest ≤ min → IsAllowed (start_with given min has) →
    IsAllowed (start_with given fewest other)
allowed-below given has other fewest min below allowed = record {
  ordered = at-most-below given.max fewest min below allowed.ordered;
  low = omega (arith, below, allowed.low);
  high = allowed.high;
}

-- the start with them
pub widest-by : (script : Script) (given : Given) (start : Start) (min fewest : ℕ) (has : Option (List (List ℕ))) → start ≡ start_with given min has →
    IsAllowed (start_with given min has) → IfSome given.min (λ least. min ≡ least) → IsLowered script given start fewest →
    StatesNeeded script given (start_with given fewest has) → IsWidest script given (start_with given fewest has)
widest-by script given start min fewest has is allowed least low states =
    let lowered = subst (λ (s : Start). IsLowered script given s fewest) is low in
    record {
      path = refl;
      given_least = least-kept given.min fewest min lowered.kept least;
      most = refl;
      landmarks = refl;
      allowed = allowed-below given has has fewest min lowered.below allowed;
      vouched = lowered.vouched;
      least = lowered.least;
      stated = states;
    }

pub widest-ok : (script : Script) (given : Given) (start : Start) (r : Result Start AllocError) → IsWidest script given start → IfOk r (λ s. s ≡ start) →
    IfOk r (IsWidest script given)
widest-ok script given start (Ok s) widest is = subst (IsWidest script given) (sym is) widest
widest-ok script given start (Err e) widest is = tt

-- the lines and the patterns stay enough with the fewest lines
pub enough-lower : (script : Script) (given : Given) (start : Start) (min fewest : ℕ) (added seen : List (List ℕ)) → seen ≡ added → start ≡ start_with given min (beside given seen) →
    AreEnough script given min added → IsLowered script given start fewest → AreEnough script given fewest added
enough-lower script given start min fewest added seen same is are low =
    let whole = is ∙ ap (λ (l : List (List ℕ)). start_with given min (beside given l)) same in
    let lowered = subst (λ (s : Start). IsLowered script given s fewest) whole low in
    record {
      given_least = least-kept given.min fewest min lowered.kept are.given_least;
      allowed = allowed-below given (beside given added) (beside given added) fewest min lowered.below are.allowed;
      sought = are.sought;
      vouched = lowered.vouched;
    }

-- all that are searched for are enough, where they are
pub enough-all : (script : Script) (given : Given) (min : ℕ) (patterns : List (List ℕ)) → patterns ≡ addable script given.max →
    ((has : Option (List (List ℕ))) → IsAllowed (start_with given min has)) → IfSome given.min (λ least. min ≡ least) →
    IsVouched script (start_with given min (beside given patterns)) → AreEnough script given min patterns
enough-all script given min patterns is allowed least vouched = record {
  given_least = least;
  allowed = allowed (beside given patterns);
  sought = subst (λ (l : List (List ℕ)). All (Contains (addable script given.max)) l) (sym is) (All-contains_itself (addable script given.max));
  vouched = vouched;
}

-- others that are seen as a slice
pub enough-seen : (script : Script) (given : Given) (min : ℕ) (added fewer seen : List (List ℕ)) → AreEnough script given min added → seen ≡ fewer →
    All (Contains (addable script given.max)) fewer → IsVouched script (start_with given min (beside given seen)) → AreEnough script given min fewer
enough-seen script given min added fewer seen are same some vouched =
    enough-too script given min added fewer are some (subst (λ (l : List (List ℕ)). IsVouched script (start_with given min (beside given l))) same vouched)

-- all but one
pub enough-without : (script : Script) (given : Given) (min : ℕ) (added seen other fewer : List (List ℕ)) (place : ℕ) → AreEnough script given min added →
    seen ≡ added → other ≡ added → fewer ≡ remove other place → IsVouched script (start_with given min (beside given (remove seen place))) →
    AreEnough script given min fewer
enough-without script given min added seen other fewer place are same whole is vouched =
    let is-one : fewer ≡ remove added place = is ∙ ap (λ (l : List (List ℕ)). remove l place) whole in
    enough-too script given min added fewer are
    (subst (λ (l : List (List ℕ)). All (Contains (addable script given.max)) l) (sym is-one) (All-remove (Contains (addable script given.max)) added place are.sought))
    (subst (λ (l : List (List ℕ)). IsVouched script (start_with given min (beside given l))) (ap (λ (l : List (List ℕ)). remove l place) same ∙ sym is-one) vouched)

pub enough-other : (script : Script) (given : Given) (min : ℕ) (added seen : List (List ℕ)) → seen ≡ added → AreEnough script given min added →
    AreEnough script given min seen
enough-other script given min added seen same are = subst (λ (l : List (List ℕ)). AreEnough script given min l) (sym same) are

-- without the one at a place they aren't enough, nor without any before it
pub needed-next : (script : Script) (given : Given) (min : ℕ) (added seen : List (List ℕ)) (place : ℕ) (found : Bool) →
    ((k : ℕ) → k < place → IsVouched script (start_with given min (beside given (remove added k))) → ⊥) → seen ≡ remove added place → found ≡ false →
    IsTrue found ↔ IsVouched script (start_with given min (beside given seen)) →
    (k : ℕ) → k < place + 1 → IsVouched script (start_with given min (beside given (remove added k))) → ⊥
needed-next script given min added seen place found before is refused decided =
    below_more (λ (k : ℕ). IsVouched script (start_with given min (beside given (remove added k))) → ⊥) place before
    (λ v. let yes-it : found ≡ true = decided.1 (subst (λ (l : List (List ℕ)). IsVouched script (start_with given min (beside given l))) (sym is) v) in absurd cc)

-- a script for which a test answers no isn't vouched for over what is the same start
pub not-over : (script : Script) (start other : Start) (found : Bool) → start ≡ other → found ≡ false → IsTrue found ↔ IsVouched script start →
    IsVouched script other → ⊥
not-over script start other found same refused decided v =
    let is : found ≡ true = decided.1 (subst (λ (s : Start). IsVouched script s) (sym same) v) in absurd cc

none-in : (text : List ℕ) → Contains [] text → ⊥
none-in text has = let few = has.1 in omega (arith, few)

-- patterns that may be stated are searched for, and where there are any there may be a line
sought-of : (script : Script) (most : Option ℕ) (added : List (List ℕ)) → All (Contains (addable script most)) added →
    All (Contains (searched script)) added
sought-of script None added all = all
sought-of script (Some zero) [] all = All-nil (Contains (searched script))
sought-of script (Some zero) (text ∷ added) all = absurd (none-in text (All-head (Contains []) text added all))
sought-of script (Some (suc most)) added all = all

room-for : (script : Script) (most : Option ℕ) (added : List (List ℕ)) → All (Contains (addable script most)) added → 0 < length added →
    0 < most_of most
room-for script None added all some = omega arith
room-for script (Some zero) [] all some = some
room-for script (Some zero) (text ∷ added) all some = absurd (none-in text (All-head (Contains []) text added all))
room-for script (Some (suc most)) added all some = omega arith

-- the start with patterns that are needed
pub widest-needed : (script : Script) (given : Given) (start : Start) (min fewest : ℕ) (added seen : List (List ℕ)) → seen ≡ added →
    start ≡ start_with given min (beside given seen) → AreEnough script given min added → IsLowered script given start fewest →
    ((place : ℕ) → place < length added → IsVouched script (start_with given fewest (beside given (remove added place))) → ⊥) →
    (IsVouched script (start_with given fewest given.has) → ⊥) → IsWidest script given (start_with given fewest (beside given added))
widest-needed script given start min fewest added seen same is are low each all =
    let whole = is ∙ ap (λ (l : List (List ℕ)). start_with given min (beside given l)) same in
    widest-by script given start min fewest (beside given added) whole are.allowed are.given_least low
    (with_more added refl (record {
      sought = sought-of script given.max added are.sought;
      room = room-for script given.max added are.sought;
      each = each;
      all = all;
    }))
