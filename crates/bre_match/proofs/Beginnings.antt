-- Where an item can't begin, a sequence has no way.
use Rattle.std.proofs.Common.{◌≡◌, ℕ, zero, suc, ◌+◌, ◌<◌, Bool, true, false, List, [], ◌∷◌, flat_map, length, drop, get_or, Some, None, cond, refl, ap, sym, ◌∙◌, append-nil, arith}
use Rattle.std.specs.Prelude.{nat_eq, slice_get}
use Rattle.bre_parse.specs.declared.tree.Node.{Node}
use Rattle.bre_parse.specs.Tree.{Tree, Empty, Then, Set, TextStart, TextEnd, BackReference, Group, Repeat, tree_of, sequence_of}
use Rattle.bre_parse.specs.Groups.{Groups, no_groups}
use Rattle.bre_parse.specs.Ways.{ways, by_end, from_way, only_if, has_byte_in}
use Rattle.bre_parse.specs.Match.{first, longest_from}
use Rattle.bre_parse.proofs.Sequences.{sequence_of-drop}
use Rattle.bre_match.specs.declared.start.Beginning.{Beginning}
use Rattle.bre_match.specs.declared.start.Beginning.TheVariants as kind
use Rattle.bre_match.specs.Runs.{members}
use Rattle.bre_match.specs.Starts.{one_of, begins, has_no_way, cannot_begin}
use Rattle.bre_match.proofs.Rows.{bytes_row, row, row_there, members_step}

-- where no byte of the set is, any number of them is none
none_taken : (n : Bool) (rs : List (ℕ × ℕ)) (s : List ℕ) (p : ℕ) (g : Groups) → has_byte_in n rs (slice_get s p) ≡ false → ways (Repeat 0 None (Set n rs)) s p g ≡ (p, g) ∷ []
none_taken n rs s p g e =
    let none : members None 0 n rs (drop p s) ≡ 0 =
    members_step s p None 0 n rs ∙ ap (λ b. cond b (suc (members None 1 n rs (drop (suc p) s))) 0) e in
    let same : p + 0 ≡ p = omega arith in
    bytes_row s n rs 0 None p g
    ∙ ap (λ m. row 0 p m g) none
    ∙ row_there 0 p 0 g (omega arith)
    ∙ ap (λ q. (q, g) ∷ []) same

-- the ways after the empty one alone
after_empty : (a b : Tree) (s : List ℕ) (p : ℕ) (g : Groups) → ways a s p g ≡ (p, g) ∷ [] → ways b s p g ≡ [] → ways (Then a b) s p g ≡ []
after_empty a b s p g e none =
    ap (λ l. flat_map (from_way (ways b s)) (by_end l)) e ∙ append-nil (ways b s p g) ∙ none

after_none : (a b : Tree) (s : List ℕ) (p : ℕ) (g : Groups) → ways a s p g ≡ [] → ways (Then a b) s p g ≡ []
after_none a b s p g e = ap (λ l. flat_map (from_way (ways b s)) (by_end l)) e

-- a part that begins in no way has none, and one that begins so has the empty one alone
abbrev Begins : Beginning → Tree → List ℕ → ℕ → Groups → Type 0
Begins kind.Any a s p g = Unit {0}
Begins kind.Nothing a s p g = ways a s p g ≡ []
Begins kind.Empty a s p g = ways a s p g ≡ (p, g) ∷ []

as_told : (a : Tree) (s : List ℕ) (p : ℕ) (g : Groups) → Begins (begins a s p) a s p g
as_told (Set n rs) s p g = by_byte (has_byte_in n rs (slice_get s p)) refl
  where
    by_byte : (there : Bool) → has_byte_in n rs (slice_get s p) ≡ there → Begins (one_of there kind.Any kind.Nothing) (Set n rs) s p g
    by_byte true e = tt
    by_byte false e = ap (λ c. only_if c (p + 1, g)) e
as_told TextStart s p g = by_place (nat_eq p 0) refl
  where
    by_place : (here : Bool) → nat_eq p 0 ≡ here → Begins (one_of here kind.Empty kind.Nothing) TextStart s p g
    by_place true e = ap (λ c. only_if c (p, g)) e
    by_place false e = ap (λ c. only_if c (p, g)) e
as_told TextEnd s p g = by_place (nat_eq p (length s)) refl
  where
    by_place : (here : Bool) → nat_eq p (length s) ≡ here → Begins (one_of here kind.Empty kind.Nothing) TextEnd s p g
    by_place true e = ap (λ c. only_if c (p, g)) e
    by_place false e = ap (λ c. only_if c (p, g)) e
as_told (Repeat zero None (Set n rs)) s p g = by_byte (has_byte_in n rs (slice_get s p)) refl
  where
    by_byte : (there : Bool) → has_byte_in n rs (slice_get s p) ≡ there → Begins (one_of there kind.Any kind.Empty) (Repeat zero None (Set n rs)) s p g
    by_byte true e = tt
    by_byte false e = none_taken n rs s p g e
as_told (Repeat zero None Empty) s p g = tt
as_told (Repeat zero None (Then a b)) s p g = tt
as_told (Repeat zero None TextStart) s p g = tt
as_told (Repeat zero None TextEnd) s p g = tt
as_told (Repeat zero None (BackReference i)) s p g = tt
as_told (Repeat zero None (Group i a)) s p g = tt
as_told (Repeat zero None (Repeat l m a)) s p g = tt
as_told (Repeat zero (Some m) a) s p g = tt
as_told (Repeat (suc l) m a) s p g = tt
as_told Empty s p g = tt
as_told (Then a b) s p g = tt
as_told (BackReference i) s p g = tt
as_told (Group i a) s p g = tt

no_way : (t : Tree) (s : List ℕ) (p : ℕ) (g : Groups) → cannot_begin t s p ≡ true → ways t s p g ≡ []
no_way (Then a b) s p g e = by_beginning (begins a s p) (as_told a s p g) e (λ f. no_way b s p g f)
  where
    by_beginning : (how : Beginning) → Begins how a s p g → has_no_way how (cannot_begin b s p) ≡ true → (cannot_begin b s p ≡ true → ways b s p g ≡ []) → ways (Then a b) s p g ≡ []
    by_beginning kind.Any is f rest = absurd cc
    by_beginning kind.Nothing is f rest = after_none a b s p g is
    by_beginning kind.Empty is f rest = after_empty a b s p g is (rest f)
no_way Empty s p g e = absurd cc
no_way (Set n rs) s p g e = absurd cc
no_way TextStart s p g e = absurd cc
no_way TextEnd s p g e = absurd cc
no_way (BackReference i) s p g e = absurd cc
no_way (Group i a) s p g e = absurd cc
no_way (Repeat l m a) s p g e = absurd cc

-- A sequence that can't begin has no match from there.
pub none_from : (t : Tree) (s : List ℕ) (p : ℕ) → cannot_begin t s p ≡ true → longest_from t s p ≡ None
none_from t s p e = ap (λ l. first (by_end l)) (no_way t s p no_groups e)

-- Item after item

pub item_begins : (items : List Node) (i : ℕ) (item : Node) (s : List ℕ) (p : ℕ) (how : Beginning) (whole : Bool) → i < length items → item ≡ get_or items i item → how ≡ begins (tree_of item) s p → cannot_begin (sequence_of (drop i items)) s p ≡ whole → has_no_way how (cannot_begin (sequence_of (drop (i + 1) items)) s p) ≡ whole
item_begins items i item s p how whole lt at is so_far =
    ap (λ b. has_no_way b (cannot_begin (sequence_of (drop (i + 1) items)) s p)) is
    ∙ sym (ap (λ t. cannot_begin t s p) (sequence_of-drop items i item lt at))
    ∙ so_far
