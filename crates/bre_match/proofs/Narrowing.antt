-- Ways of a run that can't lead on.
use Rattle.std.proofs.Common.{◌≡◌, ◌≢◌, ℕ, zero, suc, ◌+◌, ◌-◌, ◌<◌, ◌≤◌, ◌⊎◌, inl, inr, List, [], ◌∷◌, ◌++◌, flat_map, length, get_or, drop, Option, Some, None, Bool, true, false, eqb, refl, ap, sym, ◌∙◌, arith, append-nil, get_or-set_other}
use Rattle.std.proofs.lemmas.Bool.Decides.{nat_tests}
use Rattle.std.specs.Prelude.{slice_get, slice_index_or, nat_eq}
use Rattle.bre_parse.specs.declared.tree.Node.{Node}
use Rattle.bre_parse.specs.Always.{is_text_end}
use Rattle.bre_parse.specs.Tree.{Tree, Empty, Then, Set, TextStart, TextEnd, BackReference, Group, Repeat, tree_of, sequence_of}
use Rattle.bre_parse.specs.Groups.{Groups}
use Rattle.bre_parse.specs.Ways.{Way, ways, from_way, by_end, only_if, has_byte_in, begins_with, bytes_of}
use Rattle.bre_match.specs.Runs.{closed, shorter_ways}
use Rattle.bre_match.specs.Starts.{one_byte_of}
use Rattle.bre_match.specs.Narrowing.{weight, unless, span_in, item_bytes, bytes_to_end}
use Rattle.bre_match.proofs.PartKinds.{one_byte_is}

-- One end of a run

pub none_there : (f : Way → List Way) (end more e : ℕ) (g : ℕ → Groups) → more ≤ end → (e < end - more) ⊎ (end < e) → ((x : ℕ) → x ≢ e → f (x, g x) ≡ []) → flat_map f (shorter_ways end more g) ≡ []
none_there f end zero e g le (inl h) absent = append-nil (f (end, g end)) ∙ absent end (λ i. omega arith)
none_there f end zero e g le (inr h) absent = append-nil (f (end, g end)) ∙ absent end (λ i. omega arith)
none_there f end (suc n) e g le (inl h) absent =
    ap (λ l. l ++ flat_map f (shorter_ways (end - 1) n g)) (absent end (λ i. omega arith)) ∙ none_there f (end - 1) n e g (omega arith) (inl (omega arith)) absent
none_there f end (suc n) e g le (inr h) absent =
    ap (λ l. l ++ flat_map f (shorter_ways (end - 1) n g)) (absent end (λ i. omega arith)) ∙ none_there f (end - 1) n e g (omega arith) (inr (omega arith)) absent

pub one_there : (f : Way → List Way) (end more e : ℕ) (g : ℕ → Groups) → more ≤ end → end - more ≤ e → e ≤ end → ((x : ℕ) → x ≢ e → f (x, g x) ≡ []) → f (e, g e) ++ [] ≡ flat_map f (shorter_ways end more g)
one_there f end zero e g le low high absent =
    let i : e ≡ end = omega arith in
    ap (λ x. f (x, g x) ++ []) i
one_there f end (suc n) e g le low high absent =
    by_cases (λ i. one_there f (end - 1) n e g (omega arith) (omega arith) (omega arith) absent) (eqb e end) refl
  where
    by_cases : (e ≢ end → f (e, g e) ++ [] ≡ flat_map f (shorter_ways (end - 1) n g)) → (b : Bool) → eqb e end ≡ b → f (e, g e) ++ [] ≡ f (end, g end) ++ flat_map f (shorter_ways (end - 1) n g)
    by_cases later true b =
        let i : e ≡ end = grind (arith, nat_tests) in
        ap (λ x. f (x, g x) ++ []) i
        ∙ ap (λ l. f (end, g end) ++ l) (sym (none_there f (end - 1) n e g (omega arith) (inr (omega arith)) absent))
    by_cases later false b =
        let i : e ≢ end = grind (arith, nat_tests) in
        later i
        ∙ ap (λ l. l ++ flat_map f (shorter_ways (end - 1) n g)) (sym (absent end (λ j. i (sym j))))

pub one_weighs : (f : Way → ℕ) (end more e : ℕ) (g : ℕ → Groups) → end - more ≤ e → e ≤ end → f (e, g e) + 0 ≤ weight f (shorter_ways end more g)
one_weighs f end zero e g low high =
    let i : e ≡ end = omega arith in
    let j : f (e, g e) ≡ f (end, g end) = ap (λ x. f (x, g x)) i in
    omega arith
one_weighs f end (suc n) e g low high =
    by_cases (λ i. one_weighs f (end - 1) n e g (omega arith) (omega arith)) (eqb e end) refl
  where
    by_cases : (e ≢ end → f (e, g e) + 0 ≤ weight f (shorter_ways (end - 1) n g)) → (b : Bool) → eqb e end ≡ b → f (e, g e) + 0 ≤ f (end, g end) + weight f (shorter_ways (end - 1) n g)
    by_cases later true b =
        let i : e ≡ end = grind (arith, nat_tests) in
        let j : f (e, g e) ≡ f (end, g end) = ap (λ x. f (x, g x)) i in
        omega arith
    by_cases later false b =
        let i : e ≢ end = grind (arith, nat_tests) in
        let h = later i in
        omega arith

-- the first way of a run is left out
pub first_dropped : (f : Way → List Way) (end n e m : ℕ) (g : ℕ → Groups) → 0 < n → e ≡ end - 1 → m ≡ n - 1 → f (end, g end) ≡ [] → flat_map f (shorter_ways e m g) ≡ flat_map f (shorter_ways end n g)
first_dropped f end zero e m g some i j none = absurd (omega arith)
first_dropped f end (suc n) e m g some i j none =
    let k : m ≡ n = omega arith in
    ap (λ x. flat_map f (shorter_ways x m g)) i
    ∙ ap (λ x. flat_map f (shorter_ways (end - 1) x g)) k
    ∙ ap (λ l. l ++ flat_map f (shorter_ways (end - 1) n g)) (sym none)

pub fewer_left : (f : Way → ℕ) (end n e m : ℕ) (g : ℕ → Groups) → 0 < n → e ≡ end - 1 → m ≡ n - 1 → weight f (shorter_ways e m g) ≤ weight f (shorter_ways end n g)
fewer_left f end zero e m g some i j = absurd (omega arith)
fewer_left f end (suc n) e m g some i j =
    let k : m ≡ n = omega arith in
    let w : weight f (shorter_ways e m g) ≡ weight f (shorter_ways (end - 1) n g) =
    ap (λ x. weight f (shorter_ways x m g)) i ∙ ap (λ x. weight f (shorter_ways (end - 1) x g)) k in
    omega arith

-- What the items tell

text_end_is : (tree : Tree) → is_text_end tree ≡ true → tree ≡ TextEnd
text_end_is TextEnd e = refl
text_end_is Empty e = absurd cc
text_end_is (Then first rest) e = absurd cc
text_end_is (Set n r) e = absurd cc
text_end_is TextStart e = absurd cc
text_end_is (BackReference group) e = absurd cc
text_end_is (Group group content) e = absurd cc
text_end_is (Repeat least most content) e = absurd cc

-- a span that is known is that of each way
span_known : (closes : Option (ℕ × ℕ)) (g : Groups) (end k : ℕ) (span : ℕ × ℕ) → span_in closes g k ≡ Some span → slice_index_or (closed closes g end) k None ≡ Some span
span_known None g end k span e = e
span_known (Some c) g end k span e = by_cases (eqb c.0 k) refl e
  where
    by_cases : (b : Bool) → eqb c.0 k ≡ b → unless b (slice_index_or g k None) ≡ Some span → slice_index_or (closed (Some c) g end) k None ≡ Some span
    by_cases true b e = absurd cc
    by_cases false b e =
        let ne : k ≢ c.0 = grind (arith, nat_tests) in
        get_or-set_other g c.0 k (Some (c.1, end)) None ne ∙ e

-- an item whose bytes are told has at most one way
item_way : (closes : Option (ℕ × ℕ)) (g h : Groups) (s : List ℕ) (item : Tree) (p n : ℕ) → ((k : ℕ) (span : ℕ × ℕ) → span_in closes g k ≡ Some span → slice_index_or h k None ≡ Some span) → item_bytes closes g s item ≡ Some n → (b : Bool) × (ways item s p h ≡ only_if b (p + n, h))
item_way closes g h s (Set negated rs) p n known e =
    let i : 1 ≡ n = cc in
    (has_byte_in negated rs (slice_get s p), ap (λ x. only_if (has_byte_in negated rs (slice_get s p)) (p + x, h)) i)
item_way closes g h s TextStart p n known e =
    let i : 0 ≡ n = cc in
    let j : p ≡ p + n = omega arith in
    (nat_eq p 0, ap (λ x. only_if (nat_eq p 0) (x, h)) j)
item_way closes g h s (BackReference k) p n known e = by_span (span_in closes g k) refl e
  where
    by_span : (o : Option (ℕ × ℕ)) → span_in closes g k ≡ o → elim o [ None ↦ None | Some span ↦ Some (length (bytes_of s span)) ] ≡ Some n → (b : Bool) × (ways (BackReference k) s p h ≡ only_if b (p + n, h))
    by_span None o e = absurd cc
    by_span (Some span) o e =
        let i : length (bytes_of s span) ≡ n = cc in
        (begins_with (drop p s) (bytes_of s span), rw (known k span o) (ap (λ x. only_if (begins_with (drop p s) (bytes_of s span)) (p + x, h)) i))
item_way closes g h s Empty p n known e = absurd cc
item_way closes g h s (Then first rest) p n known e = absurd cc
item_way closes g h s TextEnd p n known e = absurd cc
item_way closes g h s (Group group content) p n known e = absurd cc
item_way closes g h s (Repeat least most content) p n known e = absurd cc

none_through : (rest : Tree) (s : List ℕ) (q : ℕ) (h : Groups) (b : Bool) → ways rest s q h ≡ [] → flat_map (from_way (ways rest s)) (by_end (only_if b (q, h))) ≡ []
none_through rest s q h true e = append-nil (ways rest s q h) ∙ e
none_through rest s q h false e = refl

-- where so many bytes don't lead to the end of the text, there is no way
not_at_end : (rest : Tree) (closes : Option (ℕ × ℕ)) (g h : Groups) (s : List ℕ) (p before total : ℕ) → ((k : ℕ) (span : ℕ × ℕ) → span_in closes g k ≡ Some span → slice_index_or h k None ≡ Some span) → bytes_to_end closes g s rest before ≡ Some total → p + total ≢ length s + before → ways rest s p h ≡ []
not_at_end (Then item rest) closes g h s p before total known e away =
    by_end_or (λ n f. not_at_end rest closes g h s (p + n) (before + n) total known f (λ i. away (omega arith))) (is_text_end item) refl e
  where
    by_bytes : ((n : ℕ) → bytes_to_end closes g s rest (before + n) ≡ Some total → ways rest s (p + n) h ≡ []) → (o : Option ℕ) → item_bytes closes g s item ≡ o → elim o [ None ↦ None | Some bytes ↦ bytes_to_end closes g s rest (before + bytes) ] ≡ Some total → ways (Then item rest) s p h ≡ []
    by_bytes later None o e = absurd cc
    by_bytes later (Some n) o e =
        let one = item_way closes g h s item p n known o in
        ap (λ l. flat_map (from_way (ways rest s)) (by_end l)) one.1
        ∙ none_through rest s (p + n) h one.0 (later n e)

    by_end_or : ((n : ℕ) → bytes_to_end closes g s rest (before + n) ≡ Some total → ways rest s (p + n) h ≡ []) → (b : Bool) → is_text_end item ≡ b → elim b [ true ↦ Some before | false ↦ elim (item_bytes closes g s item) [ None ↦ None | Some bytes ↦ bytes_to_end closes g s rest (before + bytes) ] ] ≡ Some total → ways (Then item rest) s p h ≡ []
    by_end_or later true b e =
        let i : before ≡ total = cc in
        let ne : p ≢ length s = λ j. away (omega arith) in
        let absent : nat_eq p (length s) ≡ false = grind (arith, nat_tests) in
        ap (λ t. ways (Then t rest) s p h) (text_end_is item b)
        ∙ ap (λ x. flat_map (from_way (ways rest s)) (by_end (only_if x (p, h)))) absent
    by_end_or later false b e = by_bytes later (item_bytes closes g s item) refl e
not_at_end Empty closes g h s p before total known e away = absurd cc
not_at_end (Set negated rs) closes g h s p before total known e away = absurd cc
not_at_end TextStart closes g h s p before total known e away = absurd cc
not_at_end TextEnd closes g h s p before total known e away = absurd cc
not_at_end (BackReference k) closes g h s p before total known e away = absurd cc
not_at_end (Group k content) closes g h s p before total known e away = absurd cc
not_at_end (Repeat least most content) closes g h s p before total known e away = absurd cc

-- the same of each way of a run
pub leads_nowhere : (rest : Tree) (closes : Option (ℕ × ℕ)) (g : Groups) (s : List ℕ) (total end : ℕ) → bytes_to_end closes g s rest 0 ≡ Some total → end + total ≢ length s → ways rest s end (closed closes g end) ≡ []
leads_nowhere rest closes g s total end e away =
    not_at_end rest closes g (closed closes g end) s end 0 total (span_known closes g end) e (λ i. away (omega arith))

-- where the first item's byte isn't there, there is no way
pub no_first_byte : (items : List Node) (part : Node) (negated : Bool) (rs : List (ℕ × ℕ)) (s : List ℕ) (p : ℕ) (g : Groups) → length items ≢ 0 → part ≡ get_or items 0 part → Some (negated, rs) ≡ one_byte_of (tree_of part) → has_byte_in negated rs (slice_get s p) ≡ false → ways (sequence_of items) s p g ≡ []
no_first_byte [] part negated rs s p g some at is absent = absurd (some refl)
no_first_byte (item ∷ items) part negated rs s p g some at is absent =
    let t : tree_of item ≡ Set negated rs = ap tree_of (sym at) ∙ one_byte_is (tree_of part) negated rs is in
    ap (λ x. ways (Then x (sequence_of items)) s p g) t
    ∙ ap (λ b. flat_map (from_way (ways (sequence_of items) s)) (by_end (only_if b (p + 1, g)))) absent
