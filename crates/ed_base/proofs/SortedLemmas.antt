-- Sorted sets, by any order: that they rise, what is in them, and where an item goes.
use Rattle.std.proofs.Common.{◌≡◌, ◌<◌, ◌≤◌, ◌-◌, ◌+◌, ℕ, suc, zero, Bool, true, false, cond, List, [], ◌∷◌, ◌++◌, length, drop, insert, get_or, inl, inr}
use Rattle.std.proofs.Common.{Decides, Result, Ok, Err, arith, refl, ◌∙◌, sym, ap, subst}
use Rattle.std.specs.Prelude.{All}
use Rattle.std.specs.List.{filter, list_all, list_any, AllWithin}
use Rattle.std.specs.List.Sorted.{IsBinarySearchResult, IsSearchInRange}
use Rattle.std.specs.Cmp.{IsTotalOrder}
use Rattle.std.specs.Ordering.{is_eq, is_lt, ordering_reverse, ordering_index}
use Rattle.std.specs.declared.cmp.Ordering.{Ordering}
use Rattle.std.specs.declared.cmp.Ordering.TheVariants.{Less, Equal, Greater}
use Rattle.std.proofs.lemmas.Bool.{and_from, and_parts, or_cases, or_left, or_right, false≢true}
use Rattle.std.proofs.lemmas.Cmp.{tied_itself}
use Rattle.std.proofs.lemmas.List.Folds.{list_any-append}
use Rattle.std.proofs.lemmas.List.{length-drop}
use Rattle.std.proofs.lemmas.List.Elements.{All-cons, All-head, All-tail, All-nil}
use Rattle.ed_base.specs.Sorted.{rises, has_member, has_members, with_member, with_members, IsPlace}

module _ {A : Type 0} (cmp : A → A → Ordering) where
  -- THEY RISE

  -- the item stands before the first of a set
  abbrev pub is_before : A → List A → Bool
  is_before a [] = true
  is_before a (b ∷ set) = is_lt (cmp a b)

  pub rising-cons : (a : A) (set : List A) → is_before a set ≡ true → rises cmp set ≡ true → rises cmp (a ∷ set) ≡ true
  rising-cons a [] h k = refl
  rising-cons a (b ∷ set) h k = and_from (is_lt (cmp a b)) (rises cmp (b ∷ set)) h k

  pub rising-before : (a : A) (set : List A) → rises cmp (a ∷ set) ≡ true → is_before a set ≡ true
  rising-before a [] h = refl
  rising-before a (b ∷ set) h = (and_parts (is_lt (cmp a b)) (rises cmp (b ∷ set)) h).0

  pub rising-rest : (a : A) (set : List A) → rises cmp (a ∷ set) ≡ true → rises cmp set ≡ true
  rising-rest a [] h = refl
  rising-rest a (b ∷ set) h = (and_parts (is_lt (cmp a b)) (rises cmp (b ∷ set)) h).1

  -- the first of members that rise, as of those that a loop has passed
  rises-front : (xs ys : List A) → rises cmp (xs ++ ys) ≡ true → rises cmp xs ≡ true
  rises-front [] ys h = refl
  rises-front (a ∷ []) ys h = refl
  rises-front (a ∷ b ∷ xs) ys h =
      let both = and_parts (is_lt (cmp a b)) (rises cmp (b ∷ (xs ++ ys))) h in
      and_from (is_lt (cmp a b)) (rises cmp (b ∷ xs)) both.0 (rises-front (b ∷ xs) ys both.1)

  pub front-rises : (xs ys set : List A) → set ≡ xs ++ ys → rises cmp set ≡ true → rises cmp xs ≡ true
  front-rises xs ys set is h = rises-front xs ys (subst (λ (s : List A). rises cmp s ≡ true) is h)

  -- one alone rises, as the last
  short-rises : (set : List A) → length set ≤ 1 → rises cmp set ≡ true
  short-rises [] h = refl
  short-rises (a ∷ []) h = refl
  short-rises (a ∷ b ∷ set) h = absurd (omega arith)

  pub last-rises : (set : List A) (next : ℕ) → length set ≤ next → 1 ≤ next → rises cmp (drop (next - 1) set) ≡ true
  last-rises set next l one = let left = length-drop (next - 1) set in short-rises (drop (next - 1) set) (omega arith)

  -- WHAT IS TRUE OF EACH

  pub All-with_member : (P : A → Type 0) (a : A) (set : List A) → P a → All P set → All P (with_member cmp a set)
  All-with_member P a [] h k = All-cons P a [] h (All-nil P)
  All-with_member P a (b ∷ set) h k =
      elim (cmp a b) as (λ o. All P (elim o as (λ _. List A) [ Less ↦ a ∷ b ∷ set | Equal ↦ b ∷ set | Greater ↦ b ∷ with_member cmp a set ])) [
        | Less ↦ All-cons P a (b ∷ set) h k
        | Equal ↦ k
        | Greater ↦ All-cons P b (with_member cmp a set) (All-head P b set k) (All-with_member P a set h (All-tail P b set k))
      ]

  pub All-with_members : (P : A → Type 0) (items set : List A) → All P items → All P set → All P (with_members cmp items set)
  All-with_members P [] set h k = k
  All-with_members P (a ∷ items) set h k =
      All-with_members P items (with_member cmp a set) (All-tail P a items h) (All-with_member P a set (All-head P a items h) k)

  pub with_member-passes : (p : A → Bool) (a : A) (set : List A) → p a ≡ true → list_all p set ≡ true → list_all p (with_member cmp a set) ≡ true
  with_member-passes p a [] h k = and_from (p a) true h refl
  with_member-passes p a (b ∷ set) h k =
      let both = and_parts (p b) (list_all p set) k in
      elim (cmp a b) as (λ o. list_all p (elim o as (λ _. List A) [ Less ↦ a ∷ b ∷ set | Equal ↦ b ∷ set | Greater ↦ b ∷ with_member cmp a set ]) ≡ true) [
        | Less ↦ and_from (p a) (list_all p (b ∷ set)) h k
        | Equal ↦ k
        | Greater ↦ and_from (p b) (list_all p (with_member cmp a set)) both.0 (with_member-passes p a set h both.1)
      ]

  pub with_members-passes : (p : A → Bool) (items set : List A) → list_all p items ≡ true → list_all p set ≡ true → list_all p (with_members cmp items set) ≡ true
  with_members-passes p [] set h k = k
  with_members-passes p (a ∷ items) set h k =
      let both = and_parts (p a) (list_all p items) h in
      with_members-passes p items (with_member cmp a set) both.1 (with_member-passes p a set both.0 k)

  pub with_members-append : (one other set : List A) → with_members cmp (one ++ other) set ≡ with_members cmp other (with_members cmp one set)
  with_members-append [] other set = refl
  with_members-append (a ∷ one) other set = with_members-append one other (with_member cmp a set)

  some-with_member : (a : A) (set : List A) → 0 < length (with_member cmp a set)
  some-with_member a [] = omega arith
  some-with_member a (b ∷ set) =
      elim (cmp a b) as (λ o. 0 < length (elim o as (λ _. List A) [ Less ↦ a ∷ b ∷ set | Equal ↦ b ∷ set | Greater ↦ b ∷ with_member cmp a set ])) [
        | Less ↦ omega arith
        | Equal ↦ omega arith
        | Greater ↦ omega arith
      ]

  some-with_members_later : (items set : List A) → 0 < length set → 0 < length (with_members cmp items set)
  some-with_members_later [] set h = h
  some-with_members_later (a ∷ items) set h = some-with_members_later items (with_member cmp a set) (some-with_member a set)

  pub some-with_members : (items set : List A) → 0 < length items → 0 < length (with_members cmp items set)
  some-with_members [] set h = absurd (omega arith)
  some-with_members (a ∷ items) set h = some-with_members_later items (with_member cmp a set) (some-with_member a set)

is-equal : (o : Ordering) → is_eq o ≡ true → o ≡ Equal
is-equal Less h = absurd cc
is-equal Equal h = refl
is-equal Greater h = absurd cc

is-less : (o : Ordering) → is_lt o ≡ true → o ≡ Less
is-less Less h = refl
is-less Equal h = absurd cc
is-less Greater h = absurd cc

module _ {A : Type 0} {cmp : A → A → Ordering} (order : IsTotalOrder cmp) where
  turned : (a b : A) (o : Ordering) → cmp a b ≡ o → cmp b a ≡ ordering_reverse o
  turned a b o e = order.antisymm b a ∙ ap ordering_reverse e

  before-with_member : (b a : A) (set : List A) → cmp a b ≡ Greater → is_before cmp b set ≡ true → is_before cmp b (with_member cmp a set) ≡ true
  before-with_member b a [] e h = ap is_lt (turned a b Greater e)
  before-with_member b a (x ∷ set) e h =
      elim (cmp a x) as (λ o. is_before cmp b (elim o as (λ _. List A) [ Less ↦ a ∷ x ∷ set | Equal ↦ x ∷ set | Greater ↦ x ∷ with_member cmp a set ]) ≡ true) [
        | Less ↦ ap is_lt (turned a b Greater e)
        | Equal ↦ h
        | Greater ↦ h
      ]

  pub rising-with_member : (a : A) (set : List A) → rises cmp set ≡ true → rises cmp (with_member cmp a set) ≡ true
  rising-with_member a [] h = refl
  rising-with_member a (x ∷ set) h =
      (elim (cmp a x) as (λ o. cmp a x ≡ o → rises cmp (elim o as (λ _. List A) [ Less ↦ a ∷ x ∷ set | Equal ↦ x ∷ set | Greater ↦ x ∷ with_member cmp a set ]) ≡ true) [
        | Less ↦ λ e. rising-cons cmp a (x ∷ set) (ap is_lt e) h
        | Equal ↦ λ e. h
        | Greater ↦ λ e. rising-cons cmp x (with_member cmp a set) (before-with_member x a set e (rising-before cmp x set h)) (rising-with_member a set (rising-rest cmp x set h))
      ]) refl

  -- an item that stands after each member of a set goes after them
  before-later : (b a : A) (set more : List A) → rises cmp (b ∷ (set ++ a ∷ more)) ≡ true → cmp b a ≡ Less
  before-later b a [] more h = is-less (cmp b a) (rising-before cmp b (a ∷ more) h)
  before-later b a (x ∷ set) more h =
      order.trans b x a (is-less (cmp b x) (rising-before cmp b (x ∷ (set ++ a ∷ more)) h))
      (before-later x a set more (rising-rest cmp b (x ∷ (set ++ a ∷ more)) h))

  pub with_member-last : (a : A) (set more : List A) → rises cmp (set ++ a ∷ more) ≡ true → with_member cmp a set ≡ set ++ a ∷ []
  with_member-last a [] more h = refl
  with_member-last a (x ∷ set) more h =
      rw (turned x a Less (before-later x a set more h), with_member)
      (ap (λ rest. x ∷ rest) (with_member-last a set more (rising-rest cmp x (set ++ a ∷ more) h)))

  pub rising-with_members : (items set : List A) → rises cmp set ≡ true → rises cmp (with_members cmp items set) ≡ true
  rising-with_members [] set h = h
  rising-with_members (a ∷ items) set h = rising-with_members items (with_member cmp a set) (rising-with_member a set h)

  -- an item that is put in where it goes leaves members that rise
  pub insert-rises : (a copy : A) (set seen after : List A) (place : ℕ) → IsPlace cmp a seen (Err place) → seen ≡ set → copy ≡ a →
      after ≡ insert set place copy → rises cmp set ≡ true → rises cmp after ≡ true
  insert-rises a copy set seen after place is own same put h =
      let there : IsPlace cmp a set (Err place) = subst (λ (s : List A). IsPlace cmp a s (Err place)) own is in
      subst (λ (s : List A). rises cmp s ≡ true) (sym (put ∙ ap (λ (x : A). insert set place x) same ∙ there.2)) (rising-with_member a set h)

  -- what stands before the first stands before each, so also before those that a test leaves
  before-next : (a b : A) (set : List A) → is_lt (cmp a b) ≡ true → rises cmp (b ∷ set) ≡ true → is_before cmp a set ≡ true
  before-next a b [] h k = refl
  before-next a b (x ∷ set) h k =
      ap is_lt (order.trans a b x (is-less (cmp a b) h) (is-less (cmp b x) (rising-before cmp b (x ∷ set) k)))

  before-filter : (keep : A → Bool) (a : A) (set : List A) → is_before cmp a set ≡ true → rises cmp set ≡ true →
      is_before cmp a (filter keep set) ≡ true
  before-filter keep a [] h k = refl
  before-filter keep a (b ∷ set) h k =
      let rest = before-filter keep a set (before-next a b set h k) (rising-rest cmp b set k) in
      elim (keep b) as (λ t. is_before cmp a (cond t (b ∷ filter keep set) (filter keep set)) ≡ true) [ true ↦ h | false ↦ rest ]

  pub rising-filter : (keep : A → Bool) (set : List A) → rises cmp set ≡ true → rises cmp (filter keep set) ≡ true
  rising-filter keep [] h = refl
  rising-filter keep (a ∷ set) h =
      let later = rising-rest cmp a set h in
      let rest = rising-filter keep set later in
      elim (keep a) as (λ t. rises cmp (cond t (a ∷ filter keep set) (filter keep set)) ≡ true) [
        | true ↦ rising-cons cmp a (filter keep set) (before-filter keep a set (rising-before cmp a set h) later) rest
        | false ↦ rest
      ]

  -- WHAT IS IN THEM

  pub itself : (a : A) → is_eq (cmp a a) ≡ true
  itself a = ap is_eq (tied_itself order a)

  -- a set that has each member of another
  pub members-more : (few many : List A) → ((a : A) → has_member cmp few a ≡ true → has_member cmp many a ≡ true) → has_members cmp few many ≡ true
  members-more [] many h = refl
  members-more (a ∷ few) many h =
      and_from (has_member cmp many a) (has_members cmp few many) (h a (or_left (is_eq (cmp a a)) (has_member cmp few a) (itself a)))
      (members-more few many (λ b k. h b (or_right (is_eq (cmp b a)) (has_member cmp few b) k)))

  pub members-same : (set : List A) → has_members cmp set set ≡ true
  members-same set = members-more set set (λ a h. h)

  module _ (exact : (a b : A) → cmp a b ≡ Equal → a ≡ b) where
    pub same : (a b : A) → is_eq (cmp a b) ≡ true → a ≡ b
    same a b h = exact a b (is-equal (cmp a b) h)

    pub told-apart : {E : A → A → Bool} → ((a b : A) → E a b ≡ is_eq (cmp a b)) → (a b : A) → Decides (E a b) (a ≡ b)
    told-apart ties a b = (λ t. same a b (sym (ties a b) ∙ t), λ e. ties a b ∙ subst (λ (x : A). is_eq (cmp a x) ≡ true) e (itself a))

    -- what is true of each member is true of one
    pub member-passes : (p : A → Bool) (set : List A) (a : A) → has_member cmp set a ≡ true → list_all p set ≡ true → p a ≡ true
    member-passes p [] a m h = absurd cc
    member-passes p (b ∷ set) a m h =
        let both = and_parts (p b) (list_all p set) h in
        elim (or_cases (is_eq (cmp a b)) (has_member cmp set a) m) [
          | inl e ↦ subst (λ (x : A). p x ≡ true) (sym (same a b e)) both.0
          | inr e ↦ member-passes p set a e both.1
        ]

    -- and so it is of those that are among them
    pub members-pass : (p : A → Bool) (few many : List A) → has_members cmp few many ≡ true → list_all p many ≡ true → list_all p few ≡ true
    members-pass p [] many m h = refl
    members-pass p (a ∷ few) many m h =
        let both = and_parts (has_member cmp many a) (has_members cmp few many) m in
        and_from (p a) (list_all p few) (member-passes p many a both.0 h) (members-pass p few many both.1 h)

    pub members-through : (few many more : List A) → has_members cmp few many ≡ true → has_members cmp many more ≡ true → has_members cmp few more ≡ true
    members-through few many more h k = members-pass (has_member cmp more) few many h k

    -- those among a list are among it with another
    pub members-front : (few one other : List A) → has_members cmp few one ≡ true → has_members cmp few (one ++ other) ≡ true
    members-front few one other h =
        members-more few (one ++ other)
        (λ a k. list_any-append (λ b. is_eq (cmp a b)) one other
        ∙ or_left (has_member cmp one a) (has_member cmp other a) (member-passes (has_member cmp one) few a k h))

    pub members-back : (few one other : List A) → has_members cmp few other ≡ true → has_members cmp few (one ++ other) ≡ true
    members-back few one other h =
        members-more few (one ++ other)
        (λ a k. list_any-append (λ b. is_eq (cmp a b)) one other
        ∙ or_right (has_member cmp one a) (has_member cmp other a) (member-passes (has_member cmp other) few a k h))

    -- what was there stays there, and what is put in is there
    pub has-with_member : (a b : A) (set : List A) → has_member cmp set a ≡ true → has_member cmp (with_member cmp b set) a ≡ true
    has-with_member a b [] h = absurd cc
    has-with_member a b (x ∷ set) h =
        elim (cmp b x) as (λ o. has_member cmp (elim o as (λ _. List A) [ Less ↦ b ∷ x ∷ set | Equal ↦ x ∷ set | Greater ↦ x ∷ with_member cmp b set ]) a ≡ true) [
          | Less ↦ or_right (is_eq (cmp a b)) (has_member cmp (x ∷ set) a) h
          | Equal ↦ h
          | Greater ↦ elim (or_cases (is_eq (cmp a x)) (has_member cmp set a) h) [
            | inl e ↦ or_left (is_eq (cmp a x)) (has_member cmp (with_member cmp b set) a) e
            | inr e ↦ or_right (is_eq (cmp a x)) (has_member cmp (with_member cmp b set) a) (has-with_member a b set e)
          ]
        ]

    put-with_member : (a b : A) (set : List A) → is_eq (cmp a b) ≡ true → has_member cmp (with_member cmp b set) a ≡ true
    put-with_member a b [] h = or_left (is_eq (cmp a b)) false h
    put-with_member a b (x ∷ set) h =
        (elim (cmp b x) as (λ o. cmp b x ≡ o → has_member cmp (elim o as (λ _. List A) [ Less ↦ b ∷ x ∷ set | Equal ↦ x ∷ set | Greater ↦ x ∷ with_member cmp b set ]) a ≡ true) [
          | Less ↦ λ e. or_left (is_eq (cmp a b)) (has_member cmp (x ∷ set) a) h
          | Equal ↦ λ e. or_left (is_eq (cmp a x)) (has_member cmp set a) (subst (λ (y : A). is_eq (cmp a y) ≡ true) (exact b x e) h)
          | Greater ↦ λ e. or_right (is_eq (cmp a x)) (has_member cmp (with_member cmp b set) a) (put-with_member a b set h)
        ]) refl

    pub has-with_members_later : (items set : List A) (a : A) → has_member cmp set a ≡ true → has_member cmp (with_members cmp items set) a ≡ true
    has-with_members_later [] set a h = h
    has-with_members_later (b ∷ items) set a h = has-with_members_later items (with_member cmp b set) a (has-with_member a b set h)

    pub has-with_members : (items set : List A) (a : A) → has_member cmp items a ≡ true → has_member cmp (with_members cmp items set) a ≡ true
    has-with_members [] set a h = absurd cc
    has-with_members (b ∷ items) set a h = elim (or_cases (is_eq (cmp a b)) (has_member cmp items a) h) [
      | inl e ↦ has-with_members_later items (with_member cmp b set) a (put-with_member a b set e)
      | inr e ↦ has-with_members items (with_member cmp b set) a e
    ]

    -- WHERE AN ITEM GOES

    -- the first stands before each other member
    above : (x a : A) (set : List A) → rises cmp (x ∷ set) ≡ true → has_member cmp set a ≡ true → cmp x a ≡ Less
    above x a [] h k = absurd cc
    above x a (y ∷ set) h k =
        let first = is-less (cmp x y) (rising-before cmp x (y ∷ set) h) in
        elim (or_cases (is_eq (cmp a y)) (has_member cmp set a) k) [
          | inl e ↦ ap (λ (z : A). cmp x z) (same a y e) ∙ first
          | inr e ↦ order.trans x y a first (above y a set (rising-rest cmp x (y ∷ set) h) e)
        ]

    -- an item that is there is put in nowhere
    kept : (a : A) (set : List A) → rises cmp set ≡ true → has_member cmp set a ≡ true → with_member cmp a set ≡ set
    kept a [] h k = absurd cc
    kept a (x ∷ set) h k =
        (elim (cmp a x) as (λ o. cmp a x ≡ o → (elim o as (λ _. List A) [ Less ↦ a ∷ x ∷ set | Equal ↦ x ∷ set | Greater ↦ x ∷ with_member cmp a set ]) ≡ x ∷ set) [
          | Less ↦ λ e. absurd (neither e (λ there. sym (turned a x Less e) ∙ above x a set h there))
          | Equal ↦ λ e. refl
          | Greater ↦ λ e. ap (λ rest. x ∷ rest) (kept a set (rising-rest cmp x set h) (later e))
        ]) refl
      where
        neither : cmp a x ≡ Less → (has_member cmp set a ≡ true → Greater ≡ Less) → ⊥
        neither e f = elim (or_cases (is_eq (cmp a x)) (has_member cmp set a) k) [
          | inl same ↦ false≢true (sym (ap is_eq e) ∙ same)
          | inr there ↦ let no = f there in absurd cc
        ]

        later : cmp a x ≡ Greater → has_member cmp set a ≡ true
        later e = elim (or_cases (is_eq (cmp a x)) (has_member cmp set a) k) [
          | inl same ↦ absurd (false≢true (sym (ap is_eq e) ∙ same))
          | inr there ↦ there
        ]

    -- what stands at a place is a member
    member-at : (a : A) (set : List A) (place : ℕ) → place < length set → ((d : A) → cmp (get_or set place d) a ≡ Equal) → has_member cmp set a ≡ true
    member-at a [] place l h = absurd (omega arith)
    member-at a (x ∷ set) zero l h = or_left (is_eq (cmp a x)) (has_member cmp set a) (ap is_eq (turned x a Equal (h x)))
    member-at a (x ∷ set) (suc place) l h = or_right (is_eq (cmp a x)) (has_member cmp set a) (member-at a set place (omega arith) h)

    -- where an item goes, all before it are less, and all from there on are greater
    placed : (a : A) (set : List A) (place : ℕ) → place ≤ length set → AllWithin (λ x. cmp x a ≡ Less) set 0 place →
        AllWithin (λ x. cmp x a ≡ Greater) set place (length set) → insert set place a ≡ with_member cmp a set
    placed a [] zero l low high = refl
    placed a [] (suc place) l low high = absurd (omega arith)
    placed a (x ∷ set) zero l low high = rw (turned x a Greater (high 0 x (omega arith) (omega arith)), with_member) refl
    placed a (x ∷ set) (suc place) l low high =
        let rest = placed a set place (omega arith) (λ k d from to. low (suc k) d (omega arith) (omega arith)) (λ k d from to. high (suc k) d (omega arith) (omega arith)) in
        rw (turned x a Less (low 0 x (omega arith) (omega arith)), with_member) (ap (λ rest. x ∷ rest) rest)

    absent : (a : A) (set : List A) (place : ℕ) → place ≤ length set → AllWithin (λ x. cmp x a ≡ Less) set 0 place →
        AllWithin (λ x. cmp x a ≡ Greater) set place (length set) → has_member cmp set a ≡ false
    absent a [] place l low high = refl
    absent a (x ∷ set) zero l low high =
        let rest = absent a set 0 (omega arith) (λ k d from to. absurd (omega arith)) (λ k d from to. high (suc k) d (omega arith) (omega arith)) in
        rw (turned x a Greater (high 0 x (omega arith) (omega arith))) rest
    absent a (x ∷ set) (suc place) l low high =
        let rest = absent a set place (omega arith) (λ k d from to. low (suc k) d (omega arith) (omega arith)) (λ k d from to. high (suc k) d (omega arith) (omega arith)) in
        rw (turned x a Less (low 0 x (omega arith) (omega arith))) rest

    -- members that rise are first less than an item, then it, then greater
    no-less : (a x y : A) → cmp x y ≡ Less → ordering_index (cmp x a) ≤ ordering_index (cmp y a)
    no-less a x y l =
        (elim (cmp y a) as (λ o. cmp y a ≡ o → ordering_index (cmp x a) ≤ ordering_index o) [
          | Less ↦ λ e. subst (λ o. ordering_index o ≤ 0) (sym (order.trans x y a l e)) (omega arith)
          | Equal ↦ λ e. subst (λ z. ordering_index (cmp x z) ≤ 1) (exact y a e) (subst (λ o. ordering_index o ≤ 1) (sym l) (omega arith))
          | Greater ↦ λ e. most (cmp x a)
        ]) refl
      where
        most : (o : Ordering) → ordering_index o ≤ 2
        most Less = omega arith
        most Equal = omega arith
        most Greater = omega arith

    risen : (x : A) (set : List A) (k : ℕ) (d : A) → rises cmp (x ∷ set) ≡ true → k < length set → cmp x (get_or set k d) ≡ Less
    risen x [] k d h l = absurd (omega arith)
    risen x (y ∷ set) zero d h l = is-less (cmp x y) (rising-before cmp x (y ∷ set) h)
    risen x (y ∷ set) (suc k) d h l =
        order.trans x y (get_or set k d) (is-less (cmp x y) (rising-before cmp x (y ∷ set) h)) (risen y set k d (rising-rest cmp x (y ∷ set) h) (omega arith))

    in-order : (a : A) (set : List A) → rises cmp set ≡ true → (i j : ℕ) (d : A) → i ≤ j → j < length set →
        ordering_index (cmp (get_or set i d) a) ≤ ordering_index (cmp (get_or set j d) a)
    in-order a [] h i j d le l = absurd (omega arith)
    in-order a (x ∷ set) h zero zero d le l = omega arith
    in-order a (x ∷ set) h zero (suc j) d le l = no-less a x (get_or set j d) (risen x set j d h (omega arith))
    in-order a (x ∷ set) h (suc i) zero d le l = absurd (omega arith)
    in-order a (x ∷ set) h (suc i) (suc j) d le l = in-order a set (rising-rest cmp x set h) i j d (omega arith) (omega arith)

    -- what a binary search finds
    pub searched : (a : A) (set : List A) (result : Result ℕ ℕ) → rises cmp set ≡ true → IsSearchInRange result (length set) →
        IsBinarySearchResult (λ x. cmp x a) set result → IsPlace cmp a set result
    searched a set (Ok place) h l is = let there = member-at a set place l is in (there, kept a set h there)
    searched a set (Err place) h l is =
        let parts = is (in-order a set h) in (l, absent a set place l parts.0 parts.1, placed a set place l parts.0 parts.1)
