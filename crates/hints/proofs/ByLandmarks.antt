-- Landmarks that are found for a script, and the start that states them.
use Rattle.std.proofs.Common.{length, ◌≡◌, ◌↔◌, IsTrue, ◌<◌, ◌≤◌, ◌++◌, ◌+◌, ℕ, List, Option, Bool, true, false, refl, sym, ap, subst, inl, inr, arith}
use borrow.Author.Count.{below_more}
use Rattle.std.specs.Prelude.{IfSome}
use Rattle.std.specs.List.{remove}
use Rattle.std.proofs.lemmas.List.Edits.{length-remove}
use Rattle.landmarks.specs.ChainValues.{ChainValue}
use Rattle.ed_syntax.specs.Commands.{Script}
use Rattle.ed_syntax.specs.reading.Reading.{script_of}
use Rattle.ed_rules.specs.LineBounds.{most_lines, IsAtMost}
use Rattle.cert_check.specs.declared.checker.verdict.Place.{Place}
use Rattle.analyser.specs.declared.analysis.Start.{Start}
use Rattle.hints.specs.declared.given.Given.{Given}
use Rattle.hints.specs.declared.hint.Hint.{Hint}
use Rattle.hints.specs.Passing.{IsAllowed, IsVouched, IsStating, IsWithin, Keeps, chains_in}
use Rattle.hints.specs.Widest.{start_with, beside, addable, StatesNeeded, as_given, with_more, IsWidest}
use Rattle.hints.specs.Nowhere.{IsNowhere}
use Rattle.hints.specs.Landmarks.{with_landmarks, given_of, marked_by, IsEachNeeded, StatesLandmarks, IsLandmarked}
use Rattle.hints.specs.Narrowing.{AreEnough}
use Rattle.hints.specs.Hints.{IsUnchanged, IsTried}
use Rattle.hints.proofs.Enough.{enough-all}
use Rattle.hints.proofs.Keeping.{within-itself}
use Rattle.hints.proofs.Chains.{tried-vouched}

-- all but one are fewer
pub fewer_without : (added fewer : List ChainValue) (place : ℕ) → fewer ≡ remove added place → place < length added → length fewer < length added
fewer_without added fewer place is below =
    let less : length (remove added place) + 1 ≡ length added = length-remove added place below in
    let same : length fewer ≡ length (remove added place) = ap (λ (l : List ChainValue). length l) is in
    omega (arith, less, same)

-- without the chain at a place the script isn't vouched for, nor without any before it
pub each-next : (script : Script) (given : Given) (start : Start) (added : List ChainValue) (place : ℕ) (found : Bool) →
    ((k : ℕ) → k < place → IsVouched script (marked_by start (chains_in given.landmarks ++ remove added k)) → ⊥) → found ≡ false →
    IsTrue found ↔ IsVouched script (marked_by start (chains_in given.landmarks ++ remove added place)) →
    (k : ℕ) → k < place + 1 → IsVouched script (marked_by start (chains_in given.landmarks ++ remove added k)) → ⊥
each-next script given start added place found before refused decided =
    below_more (λ (k : ℕ). IsVouched script (marked_by start (chains_in given.landmarks ++ remove added k)) → ⊥) place before
    (λ v. let yes-it : found ≡ true = decided.1 v in absurd cc)

-- all patterns that may be stated are enough beside landmarks, where they are
pub marked-enough : (script : Script) (given marked : Given) (min : ℕ) (patterns : List (List ℕ)) (added : List ChainValue) → marked ≡ with_landmarks given added →
    IsAtMost min given.max → min ≤ most_lines → IfSome given.max (λ most. most ≤ most_lines) → IfSome given.min (λ least. min ≡ least) →
    patterns ≡ addable script given.max → IsVouched script (start_with marked min (beside marked patterns)) → AreEnough script marked min patterns
marked-enough script given marked min patterns added is ordered low high least all vouched =
    enough-all script marked min patterns
    (subst (λ (g : Given). patterns ≡ addable script g.max) (sym is) all)
    (subst (λ (g : Given). (has : Option (List (List ℕ))) → IsAllowed (start_with g min has)) (sym is) (λ has. record { ordered = ordered; low = low; high = high }))
    (subst (λ (g : Given). IfSome g.min (λ m. min ≡ m)) (sym is) least)
    vouched

pub landmarked_by : (script : Script) (given : Given) (start : Start) (added : List ChainValue) → IsWidest script (with_landmarks given added) start →
    IsEachNeeded script given start added → IsLandmarked script given start
landmarked_by script given start added widest needed = record { added = added; widest = widest; needed = needed }

states-given : (script : Script) (given : Given) (start : Start) → StatesNeeded script given start → IsStating given.has start.has
states-given script given start (as_given is) = inl is
states-given script given start (with_more added is needed) = inr (added, is)

-- it keeps what the start says that was given
pub keeps-marked : (script : Script) (start then : Start) → IsLandmarked script (given_of start) then → Keeps start then
keeps-marked script start then is = record {
  path = is.widest.path;
  stated = states-given script (with_landmarks (given_of start) is.added) then is.widest.stated;
  landmarks = inr (is.added, is.widest.landmarks);
  least = let least = is.widest.given_least in omega (arith, least);
  most = subst (λ (m : Option ℕ). IsWithin start.max m) (sym is.widest.most) (within-itself start.max);
}

-- it states landmarks beside those of the start that was given, each of which is needed
states-needed : (script : Script) (start then : Start) → IsLandmarked script (given_of start) then → StatesLandmarks script start then
states-needed script start then is = record { added = is.added; states = is.widest.landmarks; vouched = is.widest.vouched; needed = is.needed }

pub tried_marked : (start : Start) (place : Place) (h : Hint) (script : List ℕ) (then : Start) → IsLandmarked (script_of script) (given_of start) then →
    (IsNowhere then → ⊥) →
    h.script ≡ script → h.start ≡ then → IsUnchanged place h.past h.change → IsTried script start place h
tried_marked start place h script then is somewhere reads starts unchanged =
    tried-vouched start place h script then (keeps-marked (script_of script) start then is) (inr (refl, states-needed (script_of script) start then is))
    (λ nowhere. absurd (somewhere nowhere))
    is.widest.allowed is.widest.vouched reads starts unchanged
