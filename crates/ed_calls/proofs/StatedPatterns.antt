-- The patterns that a start has to match, and the first that none of its lines does.
use Rattle.std.proofs.Common.{◌≡◌, ℕ, Bool, true, false, List, [], ◌∷◌, length, Option, Some, None, Result, Ok, Err, refl, sym}
use Rattle.std.specs.Prelude.{not, find, IfOk, IfSome, IsSomeAnd, IsTrue, IsFalse}
use Rattle.std.specs.List.{list_all, list_any}
use Rattle.std.proofs.lemmas.Bool.{and_from, and_parts}
use Rattle.ed_syntax.specs.meaning.Values.{matches}
use Rattle.ed_rules.specs.LineBounds.{IsWithin}
use Rattle.cert_check.specs.Certificates.{Certificate}
use Rattle.cert_check.specs.checker.Beginning.{chains_of}
use Rattle.cert_check.specs.checker.Opening.{Match}
use Rattle.cert_check.specs.checker.Sound.{IsAllowed, HaveLandmarks, stated}
use Rattle.ed_calls.specs.Run.{LiesOutside}
use Rattle.ed_calls.specs.StartTest.{first_unmatched, unmatched_of}

module _ {X : Type 0} (test : X → Bool) where
  -- where none is the first to fail a test, all pass it
  all_pass : (xs : List X) → find (λ x. not (test x)) xs ≡ None → list_all test xs ≡ true
  all_pass [] none = refl
  all_pass (x ∷ xs) none = pass (test x) refl (all_pass xs)
    where
      pass : (b : Bool) → test x ≡ b → (find (λ y. not (test y)) xs ≡ None → list_all test xs ≡ true) → list_all test (x ∷ xs) ≡ true
      pass true is rest = and_from (test x) (list_all test xs) is (rest (rw is at none))
      pass false is rest = absurd (let some = rw is at none in cc)

  -- where one does, not all pass
  one_fails : (xs : List X) (found : X) → find (λ x. not (test x)) xs ≡ Some found → list_all test xs ≡ true → ⊥
  one_fails [] found some all = cc
  one_fails (x ∷ xs) found some all =
      let both = and_parts (test x) (list_all test xs) all in
      one_fails xs found (rw both.0 at some) both.1

-- where no pattern is stated, none is unmatched
pub none_stated : (lines : Option (List (List ℕ))) → None ≡ unmatched_of [] lines
none_stated None = refl
none_stated (Some lines) = refl

-- each of these patterns is matched just where none is the first that isn't
pub each_matched : (patterns lines : List (List ℕ)) → None ≡ first_unmatched patterns lines → Match patterns lines
each_matched patterns lines none = all_pass (λ t. list_any (matches t) lines) patterns (sym none)

pub one_unmatched : (patterns lines : List (List ℕ)) (text : List ℕ) → Some text ≡ first_unmatched patterns lines → Match patterns lines → ⊥
one_unmatched patterns lines text found = one_fails (λ t. list_any (matches t) lines) patterns text (sym found)

-- a start of another number of lines
pub outside_by_size : (c : Certificate) (lines : Option (List (List ℕ))) → IsSomeAnd lines (λ l. IsWithin c.min c.max (length l) → ⊥) → LiesOutside c lines
outside_by_size c None other = other
outside_by_size c (Some lines) other = λ allowed. other allowed.0

-- one without a line for a pattern
pub outside_by_pattern : (c : Certificate) (lines : Option (List (List ℕ))) (text : List ℕ) → Some text ≡ unmatched_of (stated c) lines → LiesOutside c lines
outside_by_pattern c None text found = cc
outside_by_pattern c (Some lines) text found = λ allowed. one_unmatched (stated c) lines text found allowed.1

-- one without the landmarks of a chain
outside_by_landmark : (c : Certificate) (lines : Option (List (List ℕ))) → IsSomeAnd lines (λ l. HaveLandmarks l (chains_of c) → ⊥) → LiesOutside c lines
outside_by_landmark c None missed = missed
outside_by_landmark c (Some lines) missed = λ allowed. missed allowed.2

pub outside_where_missed : {E : Type 0} (c : Certificate) (lines : Option (List (List ℕ))) (r : Result Bool E) →
    IfOk r (λ outside. IsTrue outside → IsSomeAnd lines (λ l. HaveLandmarks l (chains_of c) → ⊥)) →
    IfOk r (λ outside. IsTrue outside → LiesOutside c lines)
outside_where_missed c lines (Ok outside) missed = λ t. outside_by_landmark c lines (missed t)
outside_where_missed c lines (Err e) missed = tt

-- one that has as many lines as it may have, one for each pattern, and each landmark
inside_by_all : (c : Certificate) (lines : Option (List (List ℕ))) → IfSome lines (λ l. IsWithin c.min c.max (length l)) →
    None ≡ unmatched_of (stated c) lines → IfSome lines (λ l. HaveLandmarks l (chains_of c)) → IfSome lines (IsAllowed c)
inside_by_all c None within none placed = tt
inside_by_all c (Some lines) within none placed = (within, each_matched (stated c) lines none, placed)

pub inside_where_placed : {E : Type 0} (c : Certificate) (lines : Option (List (List ℕ))) (r : Result Bool E) →
    IfSome lines (λ l. IsWithin c.min c.max (length l)) → None ≡ unmatched_of (stated c) lines →
    IfOk r (λ outside. IsFalse outside → IfSome lines (λ l. HaveLandmarks l (chains_of c))) →
    IfOk r (λ outside. IsFalse outside → IfSome lines (IsAllowed c))
inside_where_placed c lines (Ok outside) within none placed = λ f. inside_by_all c lines within none (placed f)
inside_where_placed c lines (Err e) within none placed = tt
