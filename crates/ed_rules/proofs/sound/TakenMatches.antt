-- The matches that a substitution takes of a line: where they lie, and that what stands before them stays.
use Rattle.std.proofs.Common.{◌≡◌, ◌<◌, ◌≤◌, inl, inr, ℕ, zero, suc, ◌+◌, ◌-◌, Bool, true, false, List, [], ◌∷◌, ◌++◌, take, drop, length, Option, None, Some, All, nat_le, arith, refl, sym, ◌∙◌, ap}
use Rattle.std.specs.Prelude.{◌&&◌, nat_eq}
use Rattle.std.specs.List.{flat_map}
use Rattle.std.proofs.lemmas.Bool.{and_parts, and_from, leb-true, cases_lt}
use Rattle.std.proofs.lemmas.List.Elements.{All-nil, All-cons, All-head, All-take, All-drop, All-weaker}
use Rattle.bre_parse.specs.Tree.{Tree}
use Rattle.bre_parse.specs.Groups.{no_groups}
use Rattle.bre_parse.specs.Ways.{Way, ways, by_end, begins_with}
use Rattle.bre_parse.specs.Match.{first, longest_from, or_later, match_among, match_from}
use Rattle.bre_parse.specs.TextHeads.{untouched}
use Rattle.bre_parse.proofs.TextHeadLaws.{untouched_stands, untouched_has_none}
use Rattle.ed_syntax.specs.declared.replacement.Part.{Part}
use Rattle.ed_syntax.specs.declared.replacement.Which.{Which}
use Rattle.ed_syntax.specs.declared.replacement.Which.TheVariants as which
use Rattle.ed_syntax.specs.meaning.Substitution.{Found, is_empty, taken_first, taken_from, taken, picked, expanded, rewritten}

-- WHERE THEY LIE

-- a match that was found from some place of the text
pub record IsFound (tree : Tree) (text : List ℕ) (m : Found) : Type 0 where
  pub from : ℕ
  pub inside : from ≤ length text
  pub is : match_from tree text from ≡ Some m

module _ (tree : Tree) (text : List ℕ) where
  abbrev AreFound : List Found → Type 0
  AreFound ms = All (IsFound tree text) ms

  first-found : (again : ℕ → Bool → List Found) → ((place : ℕ) (full : Bool) → AreFound (again place full)) → (from : ℕ) (full : Bool) (o : Option Found) →
      from ≤ length text → match_from tree text from ≡ o → AreFound (taken_first again from full o)
  first-found again all from full None inside is = All-nil (IsFound tree text)
  first-found again all from full (Some m) inside is =
      let found : IsFound tree text m = record { from = from; inside = inside; is = is } in
      elim (is_empty m) as (λ b. AreFound (elim b as (λ _. List Found) [
        | false ↦ m ∷ again m.1.0 true
        | true ↦ elim (full && nat_eq m.0 from) as (λ _. List Found) [ true ↦ again (from + 1) false | false ↦ m ∷ again (m.1.0 + 1) false ]
      ])) [
        | false ↦ All-cons (IsFound tree text) m (again m.1.0 true) found (all m.1.0 true)
        | true ↦ elim (full && nat_eq m.0 from) as (λ b. AreFound (elim b as (λ _. List Found) [ true ↦ again (from + 1) false | false ↦ m ∷ again (m.1.0 + 1) false ])) [
          | true ↦ all (from + 1) false
          | false ↦ All-cons (IsFound tree text) m (again (m.1.0 + 1) false) found (all (m.1.0 + 1) false)
        ]
      ]

  from-found : (most from : ℕ) (full : Bool) → AreFound (taken_from most tree text from full)
  from-found zero from full = All-nil (IsFound tree text)
  from-found (suc most) from full =
      let here : List Found = taken_first (λ place after. taken_from most tree text place after) from full (match_from tree text from) in
      (elim (nat_le from (length text)) as (λ b. nat_le from (length text) ≡ b → AreFound (elim b as (λ _. List Found) [ true ↦ here | false ↦ [] ])) [
        | true ↦ λ inside.
            first-found (λ place after. taken_from most tree text place after) (λ place after. from-found most place after) from full (match_from tree text from)
            (leb-true from (length text) inside) refl
        | false ↦ λ _. All-nil (IsFound tree text)
      ]) refl

  picked-found : (choice : Which) (ms : List Found) → AreFound ms → AreFound (picked choice ms)
  picked-found which.First ms all = All-take (IsFound tree text) 1 ms all
  picked-found (which.Nth before) ms all = All-take (IsFound tree text) 1 (drop before ms) (All-drop (IsFound tree text) before ms all)
  picked-found which.All ms all = all

  pub taken-found : (choice : Which) → All (IsFound tree text) (picked choice (taken tree text))
  taken-found choice = picked-found choice (taken tree text) (from-found (suc (length text)) 0 false)

  -- a match is the longest of the ways where it starts
  found-among : (starts start : ℕ) (m : Found) → match_among starts tree text start ≡ Some m → longest_from tree text m.0 ≡ Some m.1
  found-among zero start m is = absurd cc
  found-among (suc starts) start m is =
      (elim (longest_from tree text start) as (λ o. longest_from tree text start ≡ o → or_later o start (match_among starts tree text (start + 1)) ≡ Some m → longest_from tree text m.0 ≡ Some m.1) [
        | None ↦ λ _ e. found-among starts (start + 1) m e
        | Some way ↦ λ here e. let same = some-found (start, way) m e in
            ap (longest_from tree text) (sym (ap (λ (n : Found). n.0) same)) ∙ here ∙ ap (λ (n : Found). Some n.1) same
      ]) refl is
    where
      some-found : (m n : Found) → Some m ≡ Some n → m ≡ n
      some-found m n e = cc

  pub found-longest : (m : Found) → IsFound tree text m → longest_from tree text m.0 ≡ Some m.1
  found-longest m found = found-among (suc (length text - found.from)) found.from m found.is

  -- and none starts where there is no way
  found-after : (m : Found) (least : ℕ) → IsFound tree text m → ((place : ℕ) → place < least → ways tree text place no_groups ≡ []) → least ≤ m.0
  found-after m least found none = elim (cases_lt m.0 least) [
    | inr over ↦ over
    | inl within ↦ absurd (let no = ap (λ (found : List Way). first (by_end found)) (none m.0 within) in let some = found-longest m found in cc)
  ]

-- HEADS

pub take-begins : (n : ℕ) (text head rest : List ℕ) → begins_with text head ≡ true → length head ≤ n → begins_with (take n text ++ rest) head ≡ true
take-begins n text [] rest h le = refl
take-begins n [] (byte ∷ head) rest h le = absurd cc
take-begins zero (found ∷ text) (byte ∷ head) rest h le = absurd (omega arith)
take-begins (suc n) (found ∷ text) (byte ∷ head) rest h le =
    let both = and_parts _ _ h in and_from _ _ both.0 (take-begins n text head rest both.1 (omega arith))

-- what stands before all that is replaced stays
rewritten-begins : (parts : List Part) (text head : List ℕ) (ms : List Found) → begins_with text head ≡ true → All (λ (m : Found). length head ≤ m.0) ms →
    begins_with (rewritten parts text 0 ms) head ≡ true
rewritten-begins parts text head [] h all = h
rewritten-begins parts text head (m ∷ ms) h all =
    let low = All-head (λ (m : Found). length head ≤ m.0) m ms all in
    take-begins (m.0 - 0) text head (flat_map (expanded text m) parts ++ rewritten parts text m.1.0 ms) h (omega arith)

-- the head up to the first place where a match may start stays at the head
pub head-stays : (tree : Tree) (parts : List Part) (choice : Which) (head text : List ℕ) → begins_with text head ≡ true →
    begins_with (rewritten parts text 0 (picked choice (taken tree text))) (untouched tree head) ≡ true
head-stays tree parts choice head text h =
    let kept : List ℕ = untouched tree head in
    rewritten-begins parts text kept (picked choice (taken tree text)) (untouched_stands tree head text h)
    (All-weaker (IsFound tree text) (λ (m : Found). length kept ≤ m.0)
    (λ m found. found-after tree text m (length kept) found (λ place lt. untouched_has_none tree head text place no_groups h lt))
    (picked choice (taken tree text)) (taken-found tree text choice))
