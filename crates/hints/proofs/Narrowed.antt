-- What is left of some patterns is among them, and states no others.
use Rattle.std.proofs.Common.{zero, suc, [], ◌∷◌, ◌++◌, ◌≡◌, ◌≤◌, ◌∙◌, ℕ, List, Option, Bool, true, Result, Ok, Err, IfOk, refl, sym, ap, subst, take, drop, arith}
use Rattle.std.specs.List.{list_all, filter, remove}
use Rattle.std.specs.declared.alloc.AllocError.{AllocError}
use Rattle.std.proofs.lemmas.Bool.{and_from, and_parts}
use Rattle.std.proofs.lemmas.List.Folds.{list_all-append}
use Rattle.ed_rules.specs.Texts.{is_member, are_members, with_texts}
use Rattle.ed_rules.proofs.Texting.{filter-passes, members-pass, members-same, members-through, with_texts-passes}
use Rattle.analyser.specs.declared.analysis.Start.{Start}
use Rattle.analyser.specs.Following.{stated_of}
use Rattle.hints.specs.declared.given.Given.{Given}
use Rattle.hints.specs.Widest.{start_with, beside}
use Rattle.hints.specs.Narrowing.{StatesSome, as_given, with_some, IsNarrowed}

take-passes : (p : List ℕ → Bool) (n : ℕ) (set : List (List ℕ)) → list_all p set ≡ true → list_all p (take n set) ≡ true
take-passes p zero set h = refl
take-passes p (suc n) [] h = refl
take-passes p (suc n) (text ∷ set) h =
    let both = and_parts (p text) (list_all p set) h in and_from (p text) (list_all p (take n set)) both.0 (take-passes p n set both.1)

drop-passes : (p : List ℕ → Bool) (n : ℕ) (set : List (List ℕ)) → list_all p set ≡ true → list_all p (drop n set) ≡ true
drop-passes p zero set h = h
drop-passes p (suc n) [] h = refl
drop-passes p (suc n) (text ∷ set) h = drop-passes p n set (and_parts (p text) (list_all p set) h).1

-- what all pass, all but one do
pub remove-passes : (p : List ℕ → Bool) (set : List (List ℕ)) (place : ℕ) → list_all p set ≡ true → list_all p (remove set place) ≡ true
remove-passes p set place h =
    list_all-append p (take place set) (drop (suc place) set)
    ∙ and_from (list_all p (take place set)) (list_all p (drop (suc place) set)) (take-passes p place set h) (drop-passes p (suc place) set h)

-- all but one, as they are seen, are among them
pub among-without : (all seen fewer : List (List ℕ)) (place : ℕ) → seen ≡ all → fewer ≡ remove seen place → are_members fewer all ≡ true
among-without all seen fewer place same is =
    ap (λ (l : List (List ℕ)). are_members l all) (is ∙ ap (λ (l : List (List ℕ)). remove l place) same)
    ∙ remove-passes (is_member all) all place (members-same all)

-- and so are all but one of those that are among others
pub among-but_one : (all left seen fewer : List (List ℕ)) (place : ℕ) → are_members left all ≡ true → seen ≡ left → fewer ≡ remove seen place →
    are_members fewer all ≡ true
among-but_one all left seen fewer place among same is =
    ap (λ (l : List (List ℕ)). are_members l all) (is ∙ ap (λ (l : List (List ℕ)). remove l place) same)
    ∙ remove-passes (is_member all) left place among

pub among-filter : (test : List ℕ → Bool) (all fewer : List (List ℕ)) → fewer ≡ filter test all → are_members fewer all ≡ true
among-filter test all fewer is = ap (λ (l : List (List ℕ)). are_members l all) is ∙ filter-passes (is_member all) test all (members-same all)

pub among-same : (all fewer : List (List ℕ)) → fewer ≡ all → are_members fewer all ≡ true
among-same all fewer is = ap (λ (l : List (List ℕ)). are_members l all) is ∙ members-same all

-- what some of others state, some of more do
states-through : (given : Given) (few many : List (List ℕ)) (has : Option (List (List ℕ))) → are_members few many ≡ true → StatesSome given few has →
    StatesSome given many has
states-through given few many has among (as_given is) = as_given is
states-through given few many has among (with_some some is are) = with_some some is (members-through some few many are among)

pub narrowed-through : (given : Given) (fewest most : ℕ) (few many : List (List ℕ)) (start : Start) → fewest ≤ most → are_members few many ≡ true →
    IsNarrowed given fewest few start → IsNarrowed given most many start
narrowed-through given fewest most few many start below among is = record {
  fewest = let least = is.fewest in omega (arith, least, below);
  stated = states-through given few many start.has among is.stated;
}

pub narrowed-further : (given : Given) (fewest most : ℕ) (few many : List (List ℕ)) (r : Result Start AllocError) → fewest ≤ most → are_members few many ≡ true →
    IfOk r (IsNarrowed given fewest few) → IfOk r (IsNarrowed given most many)
narrowed-further given fewest most few many (Ok start) below among is = narrowed-through given fewest most few many start below among is
narrowed-further given fewest most few many (Err e) below among is = tt

-- the start with what is given
pub narrowed-given : (given : Given) (fewest min : ℕ) (patterns : List (List ℕ)) (r : Result Start AllocError) → fewest ≤ min →
    IfOk r (λ s. s ≡ start_with given fewest given.has) → IfOk r (IsNarrowed given min patterns)
narrowed-given given fewest min patterns (Ok start) below is =
    subst (IsNarrowed given min patterns) (sym is) (record { fewest = below; stated = as_given refl })
narrowed-given given fewest min patterns (Err e) below is = tt

-- the start with some patterns beside it
pub narrowed-beside : (given : Given) (fewest min : ℕ) (some patterns : List (List ℕ)) (r : Result Start AllocError) → fewest ≤ min →
    are_members some patterns ≡ true → IfOk r (λ s. s ≡ start_with given fewest (beside given some)) → IfOk r (IsNarrowed given min patterns)
narrowed-beside given fewest min some patterns (Ok start) below among is =
    subst (IsNarrowed given min patterns) (sym is) (record { fewest = below; stated = with_some some refl among })
narrowed-beside given fewest min some patterns (Err e) below among is = tt

-- what those that are given and the patterns pass, those that are stated pass
pub states-pass : (p : List ℕ → Bool) (given : Given) (patterns : List (List ℕ)) (has : Option (List (List ℕ))) → list_all p (stated_of given.has) ≡ true →
    list_all p patterns ≡ true → StatesSome given patterns has → list_all p (stated_of has) ≡ true
states-pass p given patterns has old all (as_given is) = ap (λ (h : Option (List (List ℕ))). list_all p (stated_of h)) is ∙ old
states-pass p given patterns has old all (with_some some is are) =
    ap (λ (h : Option (List (List ℕ))). list_all p (stated_of h)) is
    ∙ with_texts-passes p some (stated_of given.has) (members-pass p some patterns are all) old

-- the fewest lines of a start are no more than those that were given
pub fewest-below : (fewest : ℕ) (start : Start) (given : Given) (most min : ℕ) (has : Option (List (List ℕ))) → fewest ≤ start.min →
    start ≡ start_with given most has → most ≤ min → fewest ≤ min
fewest-below fewest start given most min has below is under =
    let least : start.min ≡ most = ap (λ (s : Start). s.min) is in omega (arith, below, least, under)
