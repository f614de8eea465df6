-- The first of some patterns, and what holds of those before it.
use Rattle.std.proofs.Common.{◌≡◌, ◌<◌, ◌≤◌, ◌+◌, ℕ, List, ◌∷◌, ◌++◌, length, take, drop, get_or, Bool, Option, Some, None, Result, Ok, Err, ◌∙◌, sym, ap, subst}
use Rattle.std.specs.Prelude.{All, MatchOption, MatchResult, IfOk}
use Rattle.std.proofs.lemmas.List.{take-append-drop, drop_more, take_all}
use Rattle.std.proofs.lemmas.List.Elements.{All-more}
use Rattle.ed_syntax.specs.meaning.Values.{matches}
use Rattle.landmarks.specs.Places.{line_of}
use Rattle.landmarks.specs.Misplaced.{IsFirstWith}

cut-here : (xs : List (List ℕ)) (i : ℕ) (x : List ℕ) → i < length xs → x ≡ get_or xs i x → xs ≡ take i xs ++ x ∷ drop (i + 1) xs
cut-here xs i x h is =
    sym (take-append-drop i xs) ∙ ap (λ (ys : List (List ℕ)). take i xs ++ ys) (drop_more xs i x h) ∙ ap (λ (y : List ℕ). take i xs ++ y ∷ drop (i + 1) xs) (sym is)

pub first-here : (Fails Holds : List ℕ → Type 0) (xs : List (List ℕ)) (i : ℕ) (x : List ℕ) → i < length xs → x ≡ get_or xs i x → All Holds (take i xs) → Fails x →
    IsFirstWith Fails Holds xs x
first-here Fails Holds xs i x h is before fails = record { front = take i xs; rest = drop (i + 1) xs; cut = cut-here xs i x h is; earlier = before; fails = fails }

pub all-here : (Holds : List ℕ → Type 0) (xs : List (List ℕ)) (i : ℕ) (x : List ℕ) → i < length xs → x ≡ get_or xs i x → All Holds (take i xs) → Holds x →
    All Holds (take (i + 1) xs)
all-here Holds xs i x h is before holds = All-more Holds xs i x h before (subst Holds is holds)

pub all-over : (Holds : List ℕ → Type 0) (xs : List (List ℕ)) (i : ℕ) → length xs ≤ i → All Holds (take i xs) → All Holds xs
all-over Holds xs i h all = subst (λ (ys : List (List ℕ)). All Holds ys) (take_all i xs h) all

-- what is known of an answer that is none, or some
pub if-none : {A : Type 0} (o : Option A) (P : Type 0) (Q : A → Type 0) → o ≡ None → MatchOption o P Q → P
if-none None P Q e m = m
if-none (Some x) P Q e m = absurd cc

pub if-some : {A : Type 0} (o : Option A) (x : A) (P : Type 0) (Q : A → Type 0) → o ≡ Some x → MatchOption o P Q → Q x
if-some None x P Q e m = absurd cc
if-some (Some y) x P Q e m = subst Q (let same : y ≡ x = cc in same) m

pub if-ok : {A E : Type 0} (r : Result A E) (x : A) (P : A → Type 0) (Q : E → Type 0) → r ≡ Ok x → MatchResult r P Q → P x
if-ok (Ok y) x P Q e m = subst P (let same : y ≡ x = cc in same) m
if-ok (Err y) x P Q e m = absurd cc

pub if-err : {A E : Type 0} (r : Result A E) (x : E) (P : A → Type 0) (Q : E → Type 0) → r ≡ Err x → MatchResult r P Q → Q x
if-err (Ok y) x P Q e m = absurd cc
if-err (Err y) x P Q e m = subst Q (let same : y ≡ x = cc in same) m

pub only-ok : {A E : Type 0} (r : Result A E) (x : A) (P : A → Type 0) → r ≡ Ok x → IfOk r P → P x
only-ok (Ok y) x P e m = subst P (let same : y ≡ x = cc in same) m
only-ok (Err y) x P e m = absurd cc

-- what holds of the patterns by the bytes of a line holds of them by the line's number
pub all-at : (lines : List (List ℕ)) (place : ℕ) (line : List ℕ) (b : Bool) (patterns members : List (List ℕ)) → line ≡ line_of lines place → members ≡ patterns →
    All (λ pattern. matches pattern line ≡ b) members → All (λ pattern. matches pattern (line_of lines place) ≡ b) patterns
all-at lines place line b patterns members l m h =
    subst (λ (ps : List (List ℕ)). All (λ pattern. matches pattern (line_of lines place) ≡ b) ps) m
    (subst (λ (t : List ℕ). All (λ pattern. matches pattern t ≡ b) members) l h)

pub first-at : (lines : List (List ℕ)) (place : ℕ) (line : List ℕ) (b c : Bool) (patterns members : List (List ℕ)) (pattern : List ℕ) → line ≡ line_of lines place → members ≡ patterns →
    IsFirstWith (λ pattern. matches pattern line ≡ b) (λ pattern. matches pattern line ≡ c) members pattern →
    IsFirstWith (λ pattern. matches pattern (line_of lines place) ≡ b) (λ pattern. matches pattern (line_of lines place) ≡ c) patterns pattern
first-at lines place line b c patterns members pattern l m h =
    subst (λ (ps : List (List ℕ)). IsFirstWith (λ pattern. matches pattern (line_of lines place) ≡ b) (λ pattern. matches pattern (line_of lines place) ≡ c) ps pattern) m
    (subst (λ (t : List ℕ). IsFirstWith (λ pattern. matches pattern t ≡ b) (λ pattern. matches pattern t ≡ c) members pattern) l h)
