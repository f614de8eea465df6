-- The start that is proposed from a file, by the patterns that its lines match.
use Rattle.std.proofs.Common.{zero, suc, [], ◌∷◌, length, ◌≡◌, ◌↔◌, ◌≤◌, ◌∙◌, ℕ, List, Option, Some, None, Bool, true, false, IsTrue, refl, sym, ap, subst, arith}
use Rattle.std.specs.Prelude.{IfSome, if◌then◌else◌}
use Rattle.std.specs.List.{All, Contains, filter, list_all, list_any}
use Rattle.std.proofs.lemmas.List.Elements.{All-nil, All-filter, All-contains_itself}
use Rattle.ed_base.specs.Lines.{lines_of}
use Rattle.ed_syntax.specs.Commands.{Script}
use Rattle.ed_syntax.specs.meaning.Values.{matches}
use Rattle.ed_rules.specs.LineBounds.{IsAtMost, IsWithin, most_lines}
use Rattle.ed_rules.proofs.Texting.{filter-implied}
use Rattle.analyser.specs.declared.analysis.Start.{Start}
use Rattle.analyser.specs.Following.{stated_of}
use Rattle.hints.specs.declared.given.Given.{Given}
use Rattle.hints.specs.declared.like.Like.{Like}
use Rattle.hints.specs.Passing.{IsAllowed, IsVouched}
use Rattle.hints.specs.Widest.{start_with, beside, searched, addable, IsWidest}
use Rattle.hints.specs.Narrowing.{AreEnough, IsNarrowed}
use Rattle.hints.specs.Like.{is_by_numbers, lines_in, given_within, given_like, stateable, fullest_like, Fits, IsLike}
use Rattle.hints.proofs.Narrowed.{states-pass}

-- what is given, and what may be stated, by whether lines are taken by their numbers
abbrev given-at : (numbered : Bool) → Like → Given
given-at true like = given_within like (Some (lines_in like)) (Some (lines_in like))
given-at false like = given_within like None None

abbrev stateable-at : (numbered : Bool) → Script → Like → List (List ℕ)
stateable-at true script like = []
stateable-at false script like = filter (λ text. list_any (matches text) (lines_of like.file)) (searched script)

given-is : (numbered : Bool) (like : Like) →
    (if numbered then given_within like (Some (lines_in like)) (Some (lines_in like)) else given_within like None None) ≡ given-at numbered like
given-is true like = refl
given-is false like = refl

stateable-is : (numbered : Bool) (script : Script) (like : Like) →
    (if numbered then [] else filter (λ text. list_any (matches text) (lines_of like.file)) (searched script)) ≡ stateable-at numbered script like
stateable-is true script like = refl
stateable-is false script like = refl

-- the file has as many lines as are given
pub record IsRoom (given : Given) (lines : ℕ) : Type 0 where
  pub least : IfSome given.min (λ least. lines ≡ least)
  pub most : IsAtMost lines given.max
  pub high : IfSome given.max (λ most. most ≤ most_lines)

room-at : (numbered : Bool) (like : Like) → lines_in like ≤ most_lines → IsRoom (given-at numbered like) (lines_in like)
room-at true like few = record { least = refl; most = omega arith; high = few }
room-at false like few = record { least = tt; most = tt; high = tt }

pub room-in : (script : Script) (like : Like) → lines_in like ≤ most_lines → IsRoom (given_like script like) (lines_in like)
room-in script like few =
    subst (λ (g : Given). IsRoom g (lines_in like)) (sym (given-is (is_by_numbers script) like)) (room-at (is_by_numbers script) like few)

pub allowed-in : (given : Given) (lines : ℕ) (has : Option (List (List ℕ))) → lines ≤ most_lines → IsRoom given lines → IsAllowed (start_with given lines has)
allowed-in given lines has few room = record { ordered = room.most; low = few; high = room.high }

-- the patterns that may be stated are searched for
sought-at : (numbered : Bool) (script : Script) (like : Like) → All (Contains (addable script (given-at numbered like).max)) (stateable-at numbered script like)
sought-at true script like = All-nil (Contains (addable script (Some (lines_in like))))
sought-at false script like =
    All-filter (λ text. list_any (matches text) (lines_of like.file)) (Contains (searched script)) (searched script) (All-contains_itself (searched script))

sought-in : (script : Script) (like : Like) → All (Contains (addable script (given_like script like).max)) (stateable script like)
sought-in script like =
    subst (λ (l : List (List ℕ)). All (Contains (addable script (given_like script like).max)) l) (sym (stateable-is (is_by_numbers script) script like))
    (subst (λ (g : Given). All (Contains (addable script g.max)) (stateable-at (is_by_numbers script) script like)) (sym (given-is (is_by_numbers script) like))
    (sought-at (is_by_numbers script) script like))

-- the file's lines and those patterns are enough, where the script is vouched for with them
pub enough-like : (script : Script) (like : Like) (given : Given) (min : ℕ) (patterns seen : List (List ℕ)) → lines_in like ≤ most_lines → min ≡ lines_in like →
    given ≡ given_like script like → patterns ≡ stateable script like → seen ≡ patterns → IsVouched script (start_with given min (beside given seen)) →
    AreEnough script given min patterns
enough-like script like given min patterns seen few is-min is-given is same vouched =
    let room : IsRoom given min =
    subst (λ (m : ℕ). IsRoom given m) (sym is-min) (subst (λ (g : Given). IsRoom g (lines_in like)) (sym is-given) (room-in script like few)) in
    record {
      given_least = room.least;
      allowed = allowed-in given min (beside given patterns) (omega (arith, few, is-min)) room;
      sought = subst (λ (g : Given). All (Contains (addable script g.max)) patterns) (sym is-given)
          (subst (λ (l : List (List ℕ)). All (Contains (addable script (given_like script like).max)) l) (sym is) (sought-in script like));
      vouched = subst (λ (l : List (List ℕ)). IsVouched script (start_with given min (beside given l))) same vouched;
    }

-- no pattern is given, and each that may be stated is matched by a line of the file
bare : (asked : Bool) (p : List ℕ → Bool) → list_all p (stated_of (if asked then Some [] else None)) ≡ true
bare true p = refl
bare false p = refl

none-stated : (numbered : Bool) (like : Like) (p : List ℕ → Bool) → list_all p (stated_of (given-at numbered like).has) ≡ true
none-stated true like p = bare like.patterns p
none-stated false like p = bare like.patterns p

all-matched : (numbered : Bool) (script : Script) (like : Like) →
    list_all (λ text. list_any (matches text) (lines_of like.file)) (stateable-at numbered script like) ≡ true
all-matched true script like = refl
all-matched false script like =
    filter-implied (λ text. list_any (matches text) (lines_of like.file)) (λ text. list_any (matches text) (lines_of like.file)) (searched script) (λ text h. h)

-- the file fits the start that is left
fits-of : (script : Script) (like : Like) (start : Start) → lines_in like ≤ most_lines → IsWidest script (given_like script like) start →
    IsNarrowed (given_like script like) (lines_in like) (stateable script like) start → Fits start (lines_of like.file)
fits-of script like start few widest narrowed =
    let room = room-in script like few in
    let test = λ (text : List ℕ). list_any (matches text) (lines_of like.file) in
    record {
      within = (narrowed.fewest, subst (λ (m : Option ℕ). IsAtMost (lines_in like) m) (sym widest.most) room.most);
      matched = states-pass test (given_like script like) (stateable script like) start.has
          (ap (λ (g : Given). list_all test (stated_of g.has)) (given-is (is_by_numbers script) like) ∙ none-stated (is_by_numbers script) like test)
          (ap (λ (l : List (List ℕ)). list_all test l) (stateable-is (is_by_numbers script) script like) ∙ all-matched (is_by_numbers script) script like)
          narrowed.stated;
    }

-- what is found is such a start
pub like-of : (script read : Script) (like : Like) (given : Given) (min : ℕ) (patterns seen : List (List ℕ)) (start : Start) → lines_in like ≤ most_lines →
    read ≡ script → min ≡ lines_in like → given ≡ given_like read like → patterns ≡ stateable read like → seen ≡ patterns → IsWidest read given start →
    IsNarrowed given min seen start → IsLike script like start
like-of script read like given min patterns seen start few same is-min is-given is seen-is widest narrowed =
    let wide : IsWidest read (given_like read like) start = subst (λ (g : Given). IsWidest read g start) is-given widest in
    let left : IsNarrowed (given_like read like) (lines_in like) (stateable read like) start =
    subst (λ (g : Given). IsNarrowed g (lines_in like) (stateable read like) start) is-given
    (subst (λ (m : ℕ). IsNarrowed given m (stateable read like) start) is-min
    (subst (λ (l : List (List ℕ)). IsNarrowed given min l start) (seen-is ∙ is) narrowed)) in
    subst (λ (s : Script). IsLike s like start) same (record { widest = wide; fits = fits-of read like start few wide left })
