-- Sets of texts, and what lines match of them.
use Rattle.std.proofs.Common.{◌≡◌, ℕ, Bool, true, false, cond, List, [], ◌∷◌, ◌++◌, refl}
use Rattle.std.specs.List.{list_all, filter}
use Rattle.std.specs.Cmp.Lexicographic.{slice_cmp, nat_list_cmp_total}
use Rattle.std.specs.Ordering.{nat_cmp, is_eq}
use Rattle.std.proofs.lemmas.Bool.{and_from, and_parts}
use Rattle.std.proofs.lemmas.Map.Lookups.{exact_bytes}
use Rattle.ed_base.specs.Buffer.{Line}
use Rattle.ed_base.proofs.SortedLemmas as sorted
use Rattle.ed_base.proofs.SortedLemmas.{with_member-passes, with_members-passes, with_members-append}
use Rattle.ed_rules.specs.Texts.{is_member, are_members, both_texts, with_text, with_texts}
use Rattle.ed_rules.specs.Matched.{is_matched, AreMatched}

-- equal texts are the same
pub same-texts : (text other : List ℕ) → is_eq (slice_cmp nat_cmp text other) ≡ true → text ≡ other
same-texts = sorted.same nat_list_cmp_total exact_bytes

pub text-itself : (text : List ℕ) → is_eq (slice_cmp nat_cmp text text) ≡ true
text-itself = sorted.itself nat_list_cmp_total

-- what is true of each member is true of one
pub member-passes : (p : List ℕ → Bool) (set : List (List ℕ)) (text : List ℕ) → is_member set text ≡ true → list_all p set ≡ true → p text ≡ true
member-passes = sorted.member-passes nat_list_cmp_total exact_bytes

pub member-matched : (set : List (List ℕ)) (text : List ℕ) (lines : List Line) → is_member set text ≡ true → AreMatched set lines → is_matched lines text ≡ true
member-matched set text lines m h = member-passes (is_matched lines) set text m h

-- and so it is of those that are among them
pub members-pass : (p : List ℕ → Bool) (few many : List (List ℕ)) → are_members few many ≡ true → list_all p many ≡ true → list_all p few ≡ true
members-pass = sorted.members-pass nat_list_cmp_total exact_bytes

-- a test that passes where another does
pub passes-more : (p q : List ℕ → Bool) (set : List (List ℕ)) → ((text : List ℕ) → p text ≡ true → q text ≡ true) → list_all p set ≡ true → list_all q set ≡ true
passes-more p q [] k h = refl
passes-more p q (t ∷ set) k h =
    let both = and_parts (p t) (list_all p set) h in
    and_from (q t) (list_all q set) (k t both.0) (passes-more p q set k both.1)

-- some of those that pass
pub filter-passes : (p q : List ℕ → Bool) (set : List (List ℕ)) → list_all p set ≡ true → list_all p (filter q set) ≡ true
filter-passes p q [] h = refl
filter-passes p q (t ∷ set) h =
    let both = and_parts (p t) (list_all p set) h in
    let rest = filter-passes p q set both.1 in
    elim (q t) as (λ b. list_all p (cond b (t ∷ filter q set) (filter q set)) ≡ true) [
      | true ↦ and_from (p t) (list_all p (filter q set)) both.0 rest
      | false ↦ rest
    ]

-- those that pass a test, where another does too
pub filter-implied : (p q : List ℕ → Bool) (set : List (List ℕ)) → ((text : List ℕ) → q text ≡ true → p text ≡ true) → list_all p (filter q set) ≡ true
filter-implied p q [] k = refl
filter-implied p q (t ∷ set) k =
    let rest = filter-implied p q set k in
    (elim (q t) as (λ b. q t ≡ b → list_all p (cond b (t ∷ filter q set) (filter q set)) ≡ true) [
      | true ↦ λ e. and_from (p t) (list_all p (filter q set)) (k t e) rest
      | false ↦ λ e. rest
    ]) refl

-- those that are in both sets
pub both-passes : (p : List ℕ → Bool) (one other : List (List ℕ)) → list_all p one ≡ true → list_all p (both_texts one other) ≡ true
both-passes p one other h = filter-passes p (is_member other) one h

pub both-passes_other : (p : List ℕ → Bool) (one other : List (List ℕ)) → list_all p other ≡ true → list_all p (both_texts one other) ≡ true
both-passes_other p one other h = filter-implied p (is_member other) one (λ text m. member-passes p other text m h)

-- those of a set and more
pub with_text-passes : (p : List ℕ → Bool) (text : List ℕ) (set : List (List ℕ)) → p text ≡ true → list_all p set ≡ true → list_all p (with_text text set) ≡ true
with_text-passes = with_member-passes (slice_cmp nat_cmp)

pub with_texts-passes : (p : List ℕ → Bool) (texts set : List (List ℕ)) → list_all p texts ≡ true → list_all p set ≡ true → list_all p (with_texts texts set) ≡ true
with_texts-passes = with_members-passes (slice_cmp nat_cmp)

-- WHICH ARE AMONG OTHERS

pub members-more : (few many : List (List ℕ)) → ((text : List ℕ) → is_member few text ≡ true → is_member many text ≡ true) → are_members few many ≡ true
members-more = sorted.members-more nat_list_cmp_total

pub members-same : (set : List (List ℕ)) → are_members set set ≡ true
members-same = sorted.members-same nat_list_cmp_total

pub members-through : (few many more : List (List ℕ)) → are_members few many ≡ true → are_members many more ≡ true → are_members few more ≡ true
members-through = sorted.members-through nat_list_cmp_total exact_bytes

pub members-both : (one other : List (List ℕ)) → are_members (both_texts one other) one ≡ true
members-both one other = both-passes (is_member one) one other (members-same one)

pub members-both_other : (one other : List (List ℕ)) → are_members (both_texts one other) other ≡ true
members-both_other one other = both-passes_other (is_member other) one other (members-same other)

pub with_texts-append : (one other set : List (List ℕ)) → with_texts (one ++ other) set ≡ with_texts other (with_texts one set)
with_texts-append = with_members-append (slice_cmp nat_cmp)
