-- The tables of a row of items, and the groups that are read off by them.
use Rattle.std.proofs.Common.{◌≡◌, ℕ, zero, suc, ◌+◌, ◌-◌, ◌<◌, ◌≤◌, ◌⊎◌, inl, inr, List, [], ◌∷◌, ◌++◌, length, drop, get_or, Option, Some, None, true, false, eqb, Vec, Global, refl, ap, sym, ◌∙◌, subst, arith, length-append}
use Rattle.std.proofs.lemmas.Bool.Decides.{nat_tests}
use Rattle.std.proofs.lemmas.Option.{slice_get_read}
use Rattle.std.specs.Prelude.{slice_get}
use Rattle.std.proofs.Math.Nat.{eq-or-lt_of_le}
use Rattle.bre_parse.specs.declared.tree.Node.{Node}
use Rattle.bre_parse.specs.Tree.{Then, tree_of, sequence_of}
use Rattle.bre_parse.specs.Groups.{Groups}
use Rattle.bre_parse.specs.Ways.{ways}
use Rattle.bre_parse.specs.WellFormed.{repeats_in_order}
use Rattle.bre_parse.proofs.Sequences.{sequence_of-drop, sequence_of-all}
use Rattle.bre_parse.specs.Groups.{refers}
use Rattle.bre_parse.specs.Laws.{first_to}
use Rattle.bre_match.specs.Parts.{Part, Nothing, Reaches, part_of}
use Rattle.bre_match.specs.Ends.{LastEnd, LastEnds, leads_on}
use Rattle.bre_match.specs.Tables.{RowTable, IsRow, LeadsThere}
use Rattle.bre_match.proofs.Columns.{forth}
use Rattle.bre_match.proofs.ColumnRows.{item_left, none_left_of}
use Rattle.bre_match.proofs.EndTables.{retold, no_ends, leads, leads_at_end, leads_further}
use Rattle.bre_match.proofs.Groups.{groups_in_sequence}
use Rattle.bre_match.proofs.TreeReach.{both_left, both_right, none_left, none_right}

-- one more at the end of a list
pub pushed_there : {A : Type 0} (xs : List A) (x y : A) (i : ℕ) → i ≡ length xs → slice_get (xs ++ x ∷ []) i ≡ Some y → x ≡ y
pushed_there [] x y zero is h = cc
pushed_there [] x y (suc i) is h = absurd (omega arith)
pushed_there (z ∷ xs) x y zero is h = absurd (omega arith)
pushed_there (z ∷ xs) x y (suc i) is h = pushed_there xs x y i (omega arith) h

pub there_before : {A : Type 0} (xs : List A) (x y : A) (i : ℕ) → i < length xs → slice_get (xs ++ x ∷ []) i ≡ Some y → slice_get xs i ≡ Some y
there_before [] x y i lt h = absurd (omega arith)
there_before (z ∷ xs) x y zero lt h = h
there_before (z ∷ xs) x y (suc i) lt h = there_before xs x y i (omega arith) h

pub grown : {A : Type 0} (xs : List A) (x : A) (n : ℕ) → length xs ≡ n + 1 → length (xs ++ x ∷ []) ≡ n + 1 + 1
grown xs x n h = length-append xs (x ∷ []) ∙ ap (λ z. z + 1) h

pub there : {A : Type 0} (xs : List A) (i : ℕ) → i < length xs → (x : A) × (slice_get xs i ≡ Some x)
there [] i lt = absurd (omega arith)
there (x ∷ xs) zero lt = (x, refl)
there (x ∷ xs) (suc i) lt = there xs i (omega arith)

-- the tables told so far
pub record RowSoFar (items : List Node) (text : List ℕ) (low high told : ℕ) (tables : List (Vec (Option ℕ) Global)) : Type 0 where
  pub few : told ≤ length items
  pub size : length tables ≡ told + 1
  pub none : (table : Vec (Option ℕ) Global) → slice_get tables 0 ≡ Some table → table.items ≡ []
  pub each : (item : ℕ) (table : Vec (Option ℕ) Global) → item < length items → length items ≤ item + told → slice_get tables (length items - item) ≡ Some table → RowTable items text low high item table.items

pub row_begun : (items : List Node) (s : List ℕ) (b e : ℕ) (tables : List (Vec (Option ℕ) Global)) (empty : Vec (Option ℕ) Global) → empty.items ≡ [] → tables ≡ empty ∷ [] → RowSoFar items s b e 0 tables
row_begun items s b e tables empty is all = record {
  few = omega arith;
  size = ap length all;
  none = λ table h.
      let same : empty ≡ table = (let f : slice_get (empty ∷ []) 0 ≡ Some table = ap (λ (l : List (Vec (Option ℕ) Global)). slice_get l 0) (sym all) ∙ h in cc) in
      ap (λ (v : Vec (Option ℕ) Global). v.items) (sym same) ∙ is;
  each = λ item table lt le h. absurd (omega arith);
}

pub read_there : (xs : List Node) (k : ℕ) (x : Node) → slice_get xs k ≡ Some x → x ≡ get_or xs k x
read_there [] k x h = absurd (cc)
read_there (y ∷ xs) zero x h = cc
read_there (y ∷ xs) (suc k) x h = read_there xs k x h

reach_rest : (items : List Node) (s : List ℕ) (i n e m : ℕ) (node : Node) → i < length items → slice_get items i ≡ Some node → Reaches (part_of (tree_of node)) s n m → Reaches (part_of (sequence_of (drop (i + 1) items))) s m e → Reaches (part_of (sequence_of (drop i items))) s n e
reach_rest items s i n e m node lt is r q =
    subst (λ z. Reaches z s n e) (sym (item_left items i node lt (read_there items i node is))) (m, r, q)

-- what the rest of a row reaches, told by the table before
rest_told : (items : List Node) (s : List ℕ) (b e told : ℕ) (tables : List (Vec (Option ℕ) Global)) (prev : Vec (Option ℕ) Global) → RowSoFar items s b e told tables → told ≤ length items → slice_get tables told ≡ Some prev → (n : ℕ) → b ≤ n → n ≤ e → (leads_on (eqb told 0) prev.items (e - n) ≡ true → Reaches (part_of (sequence_of (drop (length items - told) items))) s n e) × (Reaches (part_of (sequence_of (drop (length items - told) items))) s n e → leads_on (eqb told 0) prev.items (e - n) ≡ true)
rest_told items s b e zero tables prev h few at n low high =
    let none_left = none_left_of items (length items - 0) (omega arith) in
    let empty = no_ends Nothing s b e prev.items (h.none prev at) in (
      λ t.
          elim (leads Nothing (λ m. ⊥) s b e true prev.items empty n low high t) [
            | inl i ↦ subst (λ z. Reaches z s n e) (sym none_left) i.1
            | inr i ↦ absurd i.3
          ],
      λ r. leads_at_end true prev.items e n refl (subst (λ z. Reaches z s n e) none_left r),
    )
rest_told items s b e (suc told) tables prev h few at n low high =
    let i = length items - suc told in
    let lt : i < length items = omega arith in
    let back : length items - i ≡ suc told = omega arith in
    let goes : eqb (suc told) 0 ≡ false = grind (arith, nat_tests) in
    let node = get_item items i lt in
    let all = h.each i prev lt (omega arith) (subst (λ z. slice_get tables z ≡ Some prev) (sym back) at) node.0 node.1 in (
      λ t.
          elim (leads (part_of (tree_of node.0)) (λ m. Reaches (part_of (sequence_of (drop (i + 1) items))) s m e) s b e false prev.items all n low high (subst (λ z. leads_on z prev.items (e - n) ≡ true) goes t)) [
            | inl j ↦ absurd (let f = j.0 in cc)
            | inr j ↦ reach_rest items s i n e j.0 node.0 lt node.1 j.2 j.3
          ],
      λ r.
          let q = subst (λ z. Reaches z s n e) (item_left items i node.0 lt (read_there items i node.0 node.1)) r in
          let up = forth (part_of (sequence_of (drop (i + 1) items))) s q.0 e q.2 in
          subst (λ z. leads_on z prev.items (e - n) ≡ true) (sym goes) (leads_further (part_of (tree_of node.0)) (λ m. Reaches (part_of (sequence_of (drop (i + 1) items))) s m e) s b e false prev.items all n q.0 low high up q.1 q.2),
    )
  where
    get_item : (xs : List Node) (k : ℕ) → k < length xs → (x : Node) × (slice_get xs k ≡ Some x)
    get_item [] k l = absurd (omega arith)
    get_item (x ∷ xs) zero l = (x, refl)
    get_item (x ∷ xs) (suc k) l = get_item xs k (omega arith)

pub row_next : (items : List Node) (s : List ℕ) (b e told : ℕ) (tables all : List (Vec (Option ℕ) Global)) (prev new : Vec (Option ℕ) Global) (next : List (Option ℕ)) (item : Node) → next ≡ prev.items → RowSoFar items s b e told tables → told < length items → item ≡ get_or items (length items - 1 - told) item → prev ≡ get_or tables told prev → all ≡ tables ++ new ∷ [] → LastEnds (part_of (tree_of item)) (λ n. leads_on (eqb told 0) next (e - n) ≡ true) s b e new.items → RowSoFar items s b e (told + 1) all
row_next items s b e told tables all prev new next item read h lt is at made ended =
    subst (λ z. RowSoFar items s b e (told + 1) z) (sym made) (record {
      few = omega arith;
      size = let n = h.size in length-append tables (new ∷ []) ∙ omega arith;
      none = λ table i. let n = h.size in h.none table (there_before tables new table 0 (omega arith) i);
      each = λ j table l m i. by_cases j table l i (eq-or-lt_of_le {n = length items} {m = j + told + 1} (omega arith));
    })
  where
    ends : LastEnds (part_of (tree_of item)) (λ n. leads_on (eqb told 0) prev.items (e - n) ≡ true) s b e new.items
    ends = subst (λ z. LastEnds (part_of (tree_of item)) (λ n. leads_on (eqb told 0) z (e - n) ≡ true) s b e new.items) read ended

    by_cases : (j : ℕ) (table : Vec (Option ℕ) Global) → j < length items → slice_get (tables ++ new ∷ []) (length items - j) ≡ Some table → (length items ≡ j + told + 1) ⊎ (length items < j + told + 1) → RowTable items s b e j table.items
    by_cases j table l k (inr before) =
        let n = h.size in
        h.each j table l (omega arith) (there_before tables new table (length items - j) (omega arith) k)
    by_cases j table l k (inl here) = λ node there.
        let n = h.size in
        let same : new ≡ table = pushed_there tables new table (length items - j) (omega arith) k in
        let place : length items - 1 - told ≡ j = omega arith in
        let same_item : item ≡ node =
        (let f : slice_get items (length items - 1 - told) ≡ Some item = slice_get_read items (length items) (length items - 1 - told) item refl (omega arith) is in
        let g : slice_get items j ≡ Some item = subst (λ z. slice_get items z ≡ Some item) place f in
        cc) in
        let prev_there : slice_get tables told ≡ Some prev = slice_get_read tables (told + 1) told prev (sym n) (omega arith) at in
        let following : length items - told ≡ j + 1 = omega arith in
        retold (part_of (tree_of node)) s b e table.items
        (λ x. leads_on (eqb told 0) prev.items (e - x) ≡ true)
        (λ x. Reaches (part_of (sequence_of (drop (j + 1) items))) s x e)
        (λ x lo hi t. subst (λ z. Reaches (part_of (sequence_of (drop z items))) s x e) following ((rest_told items s b e told tables prev h (omega arith) prev_there x lo hi).0 t))
        (λ x lo hi r. (rest_told items s b e told tables prev h (omega arith) prev_there x lo hi).1 (subst (λ z. Reaches (part_of (sequence_of (drop z items))) s x e) (sym following) r))
        (subst (λ (z : Vec (Option ℕ) Global). LastEnds (part_of (tree_of node)) (λ x. leads_on (eqb told 0) prev.items (e - x) ≡ true) s b e z.items) same
        (subst (λ (z : Node). LastEnds (part_of (tree_of z)) (λ x. leads_on (eqb told 0) prev.items (e - x) ≡ true) s b e new.items) same_item ends))

pub row_told : (items : List Node) (s : List ℕ) (b e told : ℕ) (tables : List (Vec (Option ℕ) Global)) → RowSoFar items s b e told tables → length items ≤ told → IsRow items s b e tables
row_told items s b e told tables h le =
    let few = h.few in
    let n = h.size in
    record {
      size = omega arith;
      each = λ item table lt at. h.each item table lt (omega arith) at;
    }

-- What stands of a row's items holds of the rest of them

pub free_rest : (items : List Node) (i : ℕ) → refers (sequence_of items) ≡ false → refers (sequence_of (drop i items)) ≡ false
free_rest items zero h = h
free_rest [] (suc i) h = h
free_rest (x ∷ xs) (suc i) h =
    free_rest xs i (none_right (refers (tree_of x)) (refers (sequence_of xs)) h)

pub order_rest : (items : List Node) (i : ℕ) → repeats_in_order (sequence_of items) ≡ true → repeats_in_order (sequence_of (drop i items)) ≡ true
order_rest items zero h = h
order_rest [] (suc i) h = h
order_rest (x ∷ xs) (suc i) h =
    order_rest xs i (both_right (repeats_in_order (tree_of x)) (repeats_in_order (sequence_of xs)) h)

pub free_then : (items : List Node) (i : ℕ) (item : Node) → refers (sequence_of items) ≡ false → i < length items → item ≡ get_or items i item → refers (Then (tree_of item) (sequence_of (drop (i + 1) items))) ≡ false
free_then items i item h lt is =
    subst (λ z. refers z ≡ false) (sequence_of-drop items i item lt is) (free_rest items i h)

pub order_then : (items : List Node) (i : ℕ) (item : Node) → repeats_in_order (sequence_of items) ≡ true → i < length items → item ≡ get_or items i item → repeats_in_order (Then (tree_of item) (sequence_of (drop (i + 1) items))) ≡ true
order_then items i item h lt is =
    subst (λ z. repeats_in_order z ≡ true) (sequence_of-drop items i item lt is) (order_rest items i h)

pub free_item : (items : List Node) (i : ℕ) (item : Node) → refers (sequence_of items) ≡ false → i < length items → item ≡ get_or items i item → refers (tree_of item) ≡ false
free_item items i item h lt is =
    none_left (refers (tree_of item)) (refers (sequence_of (drop (i + 1) items))) (free_then items i item h lt is)

pub order_item : (items : List Node) (i : ℕ) (item : Node) → repeats_in_order (sequence_of items) ≡ true → i < length items → item ≡ get_or items i item → repeats_in_order (tree_of item) ≡ true
order_item items i item h lt is =
    both_left (repeats_in_order (tree_of item)) (repeats_in_order (sequence_of (drop (i + 1) items))) (order_then items i item h lt is)

-- How far the groups of a row are read off
pub record RowRead (items : List Node) (s : List ℕ) (low high item place : ℕ) (old groups : Groups) : Type 0 where
  pub above : low ≤ place
  pub rest : Reaches (part_of (sequence_of (drop item items))) s place high
  pub first : first_to high (ways (sequence_of items) s low old) ≡ first_to high (ways (sequence_of (drop item items)) s place groups)

pub row_read_begun : (items : List Node) (s : List ℕ) (low high : ℕ) (old : Groups) → Reaches (part_of (sequence_of items)) s low high → RowRead items s low high 0 low old old
row_read_begun items s low high old r = record { above = omega arith; rest = r; first = refl }

pub place_below : (items : List Node) (s : List ℕ) (low high item place : ℕ) (old groups : Groups) → RowRead items s low high item place old groups → place ≤ high
place_below items s low high item place old groups h =
    forth (part_of (sequence_of (drop item items))) s place high h.rest

pub row_read_done : (items : List Node) (s : List ℕ) (low high item place : ℕ) (old groups : Groups) → length items ≤ item → RowRead items s low high item place old groups → first_to high (ways (sequence_of items) s low old) ≡ Some (high, groups)
row_read_done items s low high item place old groups le h =
    let same : place ≡ high = subst (λ z. Reaches z s place high) (none_left_of items item le) h.rest in
    h.first
    ∙ ap (λ z. first_to high (ways z s place groups)) (sequence_of-all items item le)
    ∙ (let t : eqb place high ≡ true = grind (arith, nat_tests, same) in rw t (ap (λ z. Some (z, groups)) same))

-- the last end of an item
pub item_end : (items : List Node) (s : List ℕ) (low high i place : ℕ) (old groups : Groups) (tables all : List (Vec (Option ℕ) Global)) (item : Node) (o : Option ℕ) → IsRow items s low high tables → all ≡ tables → RowRead items s low high i place old groups → i < length items → item ≡ get_or items i item → ((table : Vec (Option ℕ) Global) → slice_get all (length items - i) ≡ Some table → o ≡ get_or table.items (high - place) None) → LastEnd (part_of (tree_of item)) (λ n. Reaches (part_of (sequence_of (drop (i + 1) items))) s n high) s high place o
item_end items s low high i place old groups tables all item o row same h lt is told =
    let n = row.size in
    let node = slice_get_read items (length items) i item refl lt is in
    let table = there tables (length items - i) (omega arith) in
    let made = row.each i table.0 lt table.1 item node in
    subst (λ z. LastEnd (part_of (tree_of item)) (λ m. Reaches (part_of (sequence_of (drop (i + 1) items))) s m high) s high place z)
    (sym (told table.0 (ap (λ (l : List (Vec (Option ℕ) Global)). slice_get l (length items - i)) same ∙ table.1)))
    (made place h.above (place_below items s low high i place old groups h))

-- there is one
pub never_none : (items : List Node) (s : List ℕ) (low high i place : ℕ) (old groups : Groups) (item : Node) → RowRead items s low high i place old groups → i < length items → item ≡ get_or items i item → LastEnd (part_of (tree_of item)) (λ n. Reaches (part_of (sequence_of (drop (i + 1) items))) s n high) s high place None → ⊥
never_none items s low high i place old groups item h lt is none_there =
    let q = subst (λ z. Reaches z s place high) (item_left items i item lt is) h.rest in
    let up = forth (part_of (sequence_of (drop (i + 1) items))) s q.0 high q.2 in
    none_there q.0 up q.1 q.2

pub row_read_next : (items : List Node) (s : List ℕ) (low high i place left end : ℕ) (old groups new : Groups) (item : Node) → refers (sequence_of items) ≡ false → repeats_in_order (sequence_of items) ≡ true → high ≤ length s → RowRead items s low high i place old groups → i < length items → item ≡ get_or items i item → LastEnd (part_of (tree_of item)) (λ n. Reaches (part_of (sequence_of (drop (i + 1) items))) s n high) s high place (Some left) → end ≡ high - left → first_to end (ways (tree_of item) s place groups) ≡ Some (end, new) → RowRead items s low high (i + 1) end old new
row_read_next items s low high i place left end old groups new item free order within h lt is ends e to =
    let a = h.above in
    let below = place_below items s low high i place old groups h in
    let reached : Reaches (part_of (tree_of item)) s place end = subst (λ z. Reaches (part_of (tree_of item)) s place z) (sym e) ends.1 in
    let on : Reaches (part_of (sequence_of (drop (i + 1) items))) s end high = subst (λ z. Reaches (part_of (sequence_of (drop (i + 1) items))) s z high) (sym e) ends.2 in
    let up = forth (part_of (tree_of item)) s place end reached in
    record {
      above = omega arith;
      rest = on;
      first =
          h.first
          ∙ ap (λ z. first_to high (ways z s place groups)) (sequence_of-drop items i item lt is)
          ∙ groups_in_sequence (tree_of item) (sequence_of (drop (i + 1) items)) (free_then items i item free lt is) (order_then items i item order lt is) s place end high groups (end, new) (omega arith) to on
          (λ n above ra rb.
          let f = forth (part_of (sequence_of (drop (i + 1) items))) s n high rb in
          ends.3 n (omega arith) f ra rb);
    }

pub row_left : (items : List Node) (s : List ℕ) (low high i place left : ℕ) (old groups : Groups) (tables all : List (Vec (Option ℕ) Global)) (o : Option ℕ) → IsRow items s low high tables → all ≡ tables → RowRead items s low high i place old groups → i < length items → ((table : Vec (Option ℕ) Global) → slice_get all (length items - i) ≡ Some table → o ≡ get_or table.items (high - place) None) → o ≡ Some left → left ≤ high
row_left items s low high i place left old groups tables all o row same h lt told is =
    let node = there items i lt in
    (item_end items s low high i place old groups tables all node.0 (Some left) row same h lt (read_there items i node.0 node.1) (λ table t. sym is ∙ told table t)).0

pub row_never_ends : (items : List Node) (s : List ℕ) (low high i place : ℕ) (old groups : Groups) (tables all : List (Vec (Option ℕ) Global)) (o : Option ℕ) → IsRow items s low high tables → all ≡ tables → RowRead items s low high i place old groups → i < length items → ((table : Vec (Option ℕ) Global) → slice_get all (length items - i) ≡ Some table → o ≡ get_or table.items (high - place) None) → o ≡ None → ⊥
row_never_ends items s low high i place old groups tables all o row same h lt told is =
    let node = there items i lt in
    never_none items s low high i place old groups node.0 h lt (read_there items i node.0 node.1)
    (item_end items s low high i place old groups tables all node.0 None row same h lt (read_there items i node.0 node.1) (λ table t. sym is ∙ told table t))

pub low_within : (t : Part) (s : List ℕ) (low high : ℕ) → high ≤ length s → Reaches t s low high → low ≤ length s
low_within t s low high le r = let up = forth t s low high r in omega arith

-- what is asked of a row is so of its items
pub item_leads : (items : List Node) (s : List ℕ) (low high i place left end : ℕ) (item : Node) → LeadsThere (sequence_of items) s low high → i < length items → item ≡ get_or items i item → LastEnd (part_of (tree_of item)) (λ n. Reaches (part_of (sequence_of (drop (i + 1) items))) s n high) s high place (Some left) → end ≡ high - left → LeadsThere (tree_of item) s place end
item_leads items s low high i place left end item l lt is last e =
    let within = l.within in
    record {
      free = free_item items i item l.free lt is;
      in_order = order_item items i item l.in_order lt is;
      within = omega arith;
      there = subst (λ z. Reaches (part_of (tree_of item)) s place z) (sym e) last.1;
    }
