-- An edit that is made pattern by pattern is that of the definition.
use Rattle.std.proofs.Common.{◌≡◌, ◌==◌, ℕ, zero, suc, pos, Bool, true, false, cond, not, nat_eq, ◌&&◌, ◌||◌, List, [], ◌∷◌, ◌++◌, map, flat_map, Option, Some, None, refl, sym, ap, subst, ◌∙◌, ◌+◌, arith}
use Rattle.std.specs.List.{list_all, list_any, filter, range_with_len}
use Rattle.std.proofs.lemmas.List.{map-append, append-nil}
use Rattle.zones.specs.Name.{mark}
use Rattle.std.proofs.lemmas.List.Concat.{flat_map-cons}
use Rattle.std.proofs.lemmas.List.Elements.{filter-append}
use Rattle.std.proofs.lemmas.List.Folds.{flat_map-map}
use Rattle.zones.specs.Zone.{Bounds}
use Rattle.ed_syntax.specs.meaning.Values.{matches}
use Rattle.ed_rules.specs.declared.line_facts.new_lines.Tested.{Tested}
use Rattle.ed_rules.specs.declared.line_facts.edited.Kind.TheVariants.{Staying, Before, After, Carried, Spared}
use Rattle.ed_rules.specs.declared.line_facts.edited.Look.{Look}
use Rattle.ed_rules.specs.facts.Facts.{LineFact, Stretch, Facts, Point, same_text, at, point, end, le, below, may_hold_lines, is_clear, tells, told}
use Rattle.ed_rules.specs.facts.CarriedFacts.{stretch_carried, last_carried, carried_facts}
use Rattle.ed_rules.specs.facts.SubstitutedFacts.{is_spared, stretch_spared, substituted_facts}
use Rattle.ed_rules.specs.facts.EditedFacts.{Fresh, Between, edit_of, none_match, all_but_last, is_no, is_free, is_free_before_last, is_single, is_outside, stretch_stays, clear_before, clear_after, stretches, told_fact, of_last, of_last_known, last_edited, edited, entered_line}
use Rattle.ed_rules.specs.facts.NewLines.{last_fresh, last_known, tested, none_but_last, last_of, tested_by, clear_of, matched_in, look_at, is_kept_by, is_left, left_of, last_left, edited_by, last_aside, carried_by, spared_by}

-- LISTS

any-both : {A : Type 0} (a b : A → Bool) (xs : List A) → list_any (λ x. a x && b x) xs ≡ list_any b (filter a xs)
any-both a b [] = refl
any-both a b (x ∷ xs) =
    elim (a x) as (λ r. (r && b x) || list_any (λ y. a y && b y) xs ≡ list_any b (cond r (x ∷ filter a xs) (filter a xs))) [
      | true ↦ ap (λ (r : Bool). b x || r) (any-both a b xs)
      | false ↦ any-both a b xs
    ]

any-own : {A : Type 0} (a b : A → Bool) (xs : List A) → list_any (λ x. a x && b x) xs ≡ list_any (λ x. a x && b x) (filter a xs)
any-own a b [] = refl
any-own a b (x ∷ xs) =
    (elim (a x) as (λ r. a x ≡ r → (a x && b x) || list_any (λ y. a y && b y) xs ≡ list_any (λ y. a y && b y) (cond r (x ∷ filter a xs) (filter a xs))) [
      | true ↦ λ e. ap (λ (r : Bool). (a x && b x) || r) (any-own a b xs)
      | false ↦ λ e. ap (λ (r : Bool). (r && b x) || list_any (λ y. a y && b y) xs) e ∙ any-own a b xs
    ]) refl

filter-map : {A B : Type 0} (t : B → Bool) (f : A → B) (xs : List A) → filter t (map f xs) ≡ map f (filter (λ x. t (f x)) xs)
filter-map t f [] = refl
filter-map {B = B} t f (x ∷ xs) =
    elim (t (f x)) as (λ r. cond r (f x ∷ filter t (map f xs)) (filter t (map f xs)) ≡ map f (cond r (x ∷ filter (λ y. t (f y)) xs) (filter (λ y. t (f y)) xs))) [
      | true ↦ ap (λ (ys : List B). f x ∷ ys) (filter-map t f xs)
      | false ↦ filter-map t f xs
    ]

filter-flat : {A B : Type 0} (t : B → Bool) (f : A → List B) (xs : List A) → filter t (flat_map f xs) ≡ flat_map (λ x. filter t (f x)) xs
filter-flat t f [] = refl
filter-flat {B = B} t f (x ∷ xs) =
    ap (filter t) (flat_map-cons f x xs) ∙ filter-append t (f x) (flat_map f xs)
    ∙ ap (λ (ys : List B). filter t (f x) ++ ys) (filter-flat t f xs)
    ∙ sym (flat_map-cons (λ y. filter t (f y)) x xs)

none-told : (x : ℕ) (ps : List (List ℕ)) → flat_map (λ p. told_fact x p None) ps ≡ []
none-told x [] = refl
none-told x (p ∷ ps) = flat_map-cons (λ (q : List ℕ). told_fact x q None) p ps ∙ none-told x ps

or-none : (b : Bool) → (b || false) ≡ b
or-none true = refl
or-none false = refl

-- ONE PATTERN

-- its own stretches say all that is known to be clear of it
own-clear : (zone : Bounds) (facts : Facts) (x y : Point) (p : List ℕ) →
    is_clear zone facts x y p ≡ is_clear zone (record { lines = []; clear = clear_of p facts }) x y p
own-clear zone facts x y p =
    ap (λ (b : Bool). le zone y x (pos 1) || b)
    (any-own (λ (s : Stretch). same_text s.pattern p) (λ (s : Stretch). le zone (point s.after) x (pos 0) && le zone y (point s.before) (pos 0)) facts.clear)

module _ (zone : Bounds) (facts : Facts) (gap : Between) (fresh : Option (List Fresh)) (patterns : List (List ℕ)) where
  abbrev same : List (List ℕ)
  same = matched_in zone facts gap patterns

  -- what gives way matches what no line between them does
  outside-is : (x y : Point) → is_outside zone facts (edit_of gap fresh) patterns x y ≡
      (below zone gap.to x || (below zone y gap.from || list_any (λ q. is_clear zone facts x y q) same))
  outside-is x y =
      ap (λ (b : Bool). below zone gap.to x || (below zone y gap.from || b))
      (elim (is_single zone (edit_of gap None)) as (λ r. (r && list_any (λ q. tells zone facts gap.from.name q true && is_clear zone facts x y q) patterns) ≡
      list_any (λ q. is_clear zone facts x y q) (cond r (filter (λ q. tells zone facts gap.from.name q true) patterns) [])) [
        | true ↦ any-both (λ q. tells zone facts gap.from.name q true) (λ q. is_clear zone facts x y q) patterns
        | false ↦ refl
      ])

  staying-is : (p : List ℕ) (after before : ℕ) → stretch_stays zone facts (edit_of gap fresh) patterns (record { after = after; before = before; pattern = p }) ≡
      is_left Staying zone facts gap same (look_at facts fresh p) after before
  unfolding is_kept_by
  staying-is p after before =
      let x : Point = point after in
      let y : Point = point before in
      let free : Bool = is_free p fresh in
      let a = own-clear zone facts x y p in
      let o = outside-is x y in
      let b = own-clear zone facts x gap.from p in
      let c = own-clear zone facts gap.to y p in
      λ i. may_hold_lines zone x y && ((a i && (free || o i)) || (free && (below zone x gap.from && (below zone gap.to y && (b i && c i)))))

  before-is : (p : List ℕ) (after before : ℕ) → clear_before zone facts (edit_of gap fresh) (record { after = after; before = before; pattern = p }) ≡
      is_left Before zone facts gap same (look_at facts fresh p) after before
  before-is p after before =
      ap (λ (b : Bool). is_free_before_last p fresh && (below zone (point after) gap.from && b)) (own-clear zone facts (point after) gap.from p)

  after-is : (p : List ℕ) (after before : ℕ) → clear_after zone facts (edit_of gap fresh) (record { after = after; before = before; pattern = p }) ≡
      is_left After zone facts gap same (look_at facts fresh p) after before
  after-is p after before = ap (λ (b : Bool). below zone gap.to (point before) && b) (own-clear zone facts gap.to (point before) p)

  carried-is : (others : List (List ℕ)) (p : List ℕ) (after before : ℕ) → stretch_carried zone facts (record { after = after; before = before; pattern = p }) ≡
      is_left Carried zone facts gap others (look_at facts fresh p) after before
  carried-is others p after before =
      let x : Point = point after in
      let y : Point = point before in
      let all = own-clear zone facts (at 0) (point end) p in
      let some = own-clear zone facts x y p in
      let aside : Bool = (below zone y (at 3) && le zone y (at 5) (pos 0)) || (below zone (at 4) x && below zone (at 5) x) in
      λ i. may_hold_lines zone x y && (all i || (some i && aside))

  spared-is : (possible : List (List ℕ)) (p : List ℕ) (after before : ℕ) → stretch_spared zone facts possible [] (record { after = after; before = before; pattern = p }) ≡
      is_left Spared zone facts gap possible (look_at facts fresh p) after before
  spared-is possible p after before =
      let x : Point = point after in
      let y : Point = point before in
      ap (λ (b : Bool). may_hold_lines zone x y && (b && (le zone y (at 3) (pos 0) || (le zone (at 4) x (pos 0) || list_all (λ q. is_clear zone facts x y q) possible))))
      (own-clear zone facts x y p)

  -- ALL PATTERNS

  abbrev stretch_at : (p : List ℕ) (after before : ℕ) → Stretch
  stretch_at p after before = record { after = after; before = before; pattern = p }

  left-is : (t : Stretch → Bool) (l : Look → (after before : ℕ) → Bool) →
      ((p : List ℕ) (after before : ℕ) → t (stretch_at p after before) ≡ l (look_at facts fresh p) after before) → (afters befores : List ℕ) →
      filter t (stretches afters befores patterns) ≡
      flat_map (λ (look : Look). flat_map (λ x. map (λ y. record { after = x; before = y; pattern = look.pattern }) (filter (l look x) befores)) afters)
      (map (look_at facts fresh) patterns)
  left-is t l e afters befores =
      let row : (p : List ℕ) (x : ℕ) → filter t (map (stretch_at p x) befores) ≡ map (stretch_at p x) (filter (l (look_at facts fresh p) x) befores) =
      λ (p : List ℕ) (x : ℕ). filter-map t (stretch_at p x) befores ∙ ap (λ (test : ℕ → Bool). map (stretch_at p x) (filter test befores)) (λ i y. e p x y i) in
      let rows : (p : List ℕ) → filter t (flat_map (λ x. map (stretch_at p x) befores) afters) ≡
      flat_map (λ x. map (stretch_at p x) (filter (l (look_at facts fresh p) x) befores)) afters =
      λ (p : List ℕ). filter-flat t (λ x. map (stretch_at p x) befores) afters ∙ ap (λ (f : ℕ → List Stretch). flat_map f afters) (λ i x. row p x i) in
      filter-flat t (λ p. flat_map (λ x. map (stretch_at p x) befores) afters) patterns
      ∙ ap (λ (f : List ℕ → List Stretch). flat_map f patterns) (λ i p. rows p i)
      ∙ sym (flat_map-map (λ (look : Look). flat_map (λ x. map (λ y. record { after = x; before = y; pattern = look.pattern }) (filter (l look x) befores)) afters)
      (look_at facts fresh) patterns)

  pub staying-left : (afters befores : List ℕ) → filter (stretch_stays zone facts (edit_of gap fresh) patterns) (stretches afters befores patterns) ≡
      flat_map (left_of Staying zone facts gap same afters befores) (map (look_at facts fresh) patterns)
  staying-left afters befores = left-is (stretch_stays zone facts (edit_of gap fresh) patterns) (is_left Staying zone facts gap same) staying-is afters befores

  pub before-left : (afters befores : List ℕ) → filter (clear_before zone facts (edit_of gap fresh)) (stretches afters befores patterns) ≡
      flat_map (left_of Before zone facts gap same afters befores) (map (look_at facts fresh) patterns)
  before-left afters befores = left-is (clear_before zone facts (edit_of gap fresh)) (is_left Before zone facts gap same) before-is afters befores

  pub after-left : (afters befores : List ℕ) → filter (clear_after zone facts (edit_of gap fresh)) (stretches afters befores patterns) ≡
      flat_map (left_of After zone facts gap same afters befores) (map (look_at facts fresh) patterns)
  after-left afters befores = left-is (clear_after zone facts (edit_of gap fresh)) (is_left After zone facts gap same) after-is afters befores

  pub carried-left : (others : List (List ℕ)) (afters befores : List ℕ) → filter (stretch_carried zone facts) (stretches afters befores patterns) ≡
      flat_map (left_of Carried zone facts gap others afters befores) (map (look_at facts fresh) patterns)
  carried-left others afters befores = left-is (stretch_carried zone facts) (is_left Carried zone facts gap others) (carried-is others) afters befores

  pub spared-left : (possible : List (List ℕ)) (afters befores : List ℕ) → filter (stretch_spared zone facts possible []) (stretches afters befores patterns) ≡
      flat_map (left_of Spared zone facts gap possible afters befores) (map (look_at facts fresh) patterns)
  spared-left possible afters befores = left-is (stretch_spared zone facts possible []) (is_left Spared zone facts gap possible) (spared-is possible) afters befores

  -- the last new line
  last-fresh : (x : ℕ) (new : List Fresh) → of_last x patterns new ≡ flat_map (λ p. told_fact x p (last_fresh p new)) patterns
  last-fresh x [] = sym (none-told x patterns)
  last-fresh x (f ∷ []) = refl
  last-fresh x (f ∷ g ∷ new) = last-fresh x (g ∷ new)

  last-known : (x : ℕ) (new : Option (List Fresh)) → of_last_known x patterns new ≡ flat_map (λ p. told_fact x p (last_known p new)) patterns
  last-known x None = sym (none-told x patterns)
  last-known x (Some new) = last-fresh x new

  pub last-told : (x : ℕ) → of_last_known x patterns fresh ≡
      flat_map (λ (look : Look). told_fact x look.pattern look.tested.last) (map (look_at facts fresh) patterns)
  last-told x =
      last-known x fresh ∙ sym (flat_map-map (λ (look : Look). told_fact x look.pattern look.tested.last) (look_at facts fresh) patterns)

  -- ALL FACTS

  last-edited : last_left zone facts gap (map (look_at facts fresh) patterns) ≡ last_edited zone facts (edit_of gap fresh) patterns
  last-edited = λ i.
      cond (below zone gap.to (at 2)) (filter (λ (f : LineFact). or-none (f.name == 2) i) facts.lines)
      (cond (le zone (at 2) gap.to (pos 0)) (sym (last-told 2) i) [])

  regrouped : {A : Type 0} (xs ys zs : List A) → (xs ++ ys) ++ zs ≡ xs ++ (ys ++ zs)
  regrouped [] ys zs = refl
  regrouped {A} (x ∷ xs) ys zs = ap (λ (us : List A). x ∷ us) (regrouped xs ys zs)

  pub edited-is : (kept : List ℕ) → edited_by zone facts gap same kept (map (look_at facts fresh) patterns) ≡ edited zone facts (edit_of gap fresh) kept patterns
  edited-is kept =
      let looks : List Look = map (look_at facts fresh) patterns in
      let lines = regrouped (filter (λ (f : LineFact). list_any (nat_eq f.name) kept) facts.lines) (last_left zone facts gap looks)
      (flat_map (λ (look : Look). told_fact 1 look.pattern look.tested.last) looks) in
      let clear = regrouped (flat_map (left_of Staying zone facts gap same (0 ∷ kept) (end ∷ kept)) looks)
      (flat_map (left_of Before zone facts gap same (0 ∷ kept) (1 ∷ [])) looks) (flat_map (left_of After zone facts gap same (1 ∷ []) (end ∷ kept)) looks) in
      (λ i. record { lines = lines i; clear = clear i }) ∙
      (λ i. record {
        lines = filter (λ (f : LineFact). list_any (nat_eq f.name) kept) facts.lines ++ (last-edited i ++ sym (last-told 1) i);
        clear =
            sym (staying-left (0 ∷ kept) (end ∷ kept)) i ++
            (sym (before-left (0 ∷ kept) (1 ∷ [])) i ++ sym (after-left (1 ∷ []) (end ∷ kept)) i);
      })

-- LINES THAT ARE CARRIED ELSEWHERE

-- the current line is the last of them
pub carried-by : (zone : Bounds) (facts : Facts) (gap : Between) (others patterns : List (List ℕ)) (kept : List ℕ) →
    carried_by zone facts gap others kept (map (look_at facts (Some (told zone facts 4 ∷ []))) patterns) ≡ carried_facts zone facts kept patterns
carried-by zone facts gap others patterns kept =
    let fresh : Option (List Fresh) = Some (told zone facts 4 ∷ []) in
    let looks : List Look = map (look_at facts fresh) patterns in
    let own : List LineFact = filter (λ (f : LineFact). list_any (nat_eq f.name) kept) facts.lines in
    let lines = regrouped zone facts gap fresh patterns own (last_aside zone facts) (flat_map (λ (look : Look). told_fact 1 look.pattern look.tested.last) looks) in
    let last : last_aside zone facts ≡ last_carried zone facts =
    λ i. cond (below zone (at 4) (at 2) && below zone (at 5) (at 2)) (filter (λ (f : LineFact). or-none (f.name == 2) i) facts.lines) [] in
    let told_last = flat_map-map (λ (look : Look). told_fact 1 look.pattern look.tested.last) (look_at facts fresh) patterns in
    let clear = carried-left zone facts gap fresh patterns others (0 ∷ kept) (end ∷ kept) in
    (λ i. record { lines = lines i; clear = sym clear i }) ∙
    (λ i. record {
      lines = own ++ (last i ++ told_last i);
      clear = filter (stretch_carried zone facts) (stretches (0 ∷ kept) (end ∷ kept) patterns);
    })

-- LINES THAT ARE CHANGED WHERE THEY MATCH

pub spared-by : (zone : Bounds) (facts : Facts) (gap : Between) (possible patterns : List (List ℕ)) (kept : List ℕ) →
    spared_by zone facts gap possible kept (map (look_at facts (Some [])) patterns) ≡ substituted_facts zone facts possible [] kept patterns
spared-by zone facts gap possible patterns kept =
    let clear = spared-left zone facts gap (Some []) patterns possible (0 ∷ kept) (end ∷ kept) in
    λ i. record {
      lines = filter (λ (f : LineFact). (list_any (nat_eq f.name) kept || f.name == 2) && is_spared zone facts possible f.name) facts.lines;
      clear = sym clear i;
    }

-- LINES THAT ARE ENTERED

no-answer : (a b : Bool) → a ≡ b → is_no (Some a) ≡ not b
no-answer a true e = ap (λ (c : Bool). is_no (Some c)) e
no-answer a false e = ap (λ (c : Bool). is_no (Some c)) e

module _ (p : List ℕ) (t : List ℕ → Bool) (same : (line : List ℕ) → matches p line ≡ t line) where
  none-entered : (ls : List (List ℕ)) → none_match p (map entered_line ls) ≡ list_all (λ b. not b) (map t ls)
  none-entered [] = refl
  none-entered (l ∷ ls) = λ i. no-answer (matches p l) (t l) (same l) i && none-entered ls i

  but-entered : (ls : List (List ℕ)) → all_but_last p (map entered_line ls) ≡ none_but_last (map t ls)
  but-entered [] = refl
  but-entered (l ∷ []) = refl
  but-entered (l ∷ m ∷ ls) = λ i. no-answer (matches p l) (t l) (same l) i && but-entered (m ∷ ls) i

  last-entered : (ls : List (List ℕ)) → last_fresh p (map entered_line ls) ≡ last_of (map t ls)
  last-entered [] = refl
  last-entered (l ∷ []) = ap (λ (b : Bool). Some b) (same l)
  last-entered (l ∷ m ∷ ls) = last-entered (m ∷ ls)

  pub tested-entered : (ls : List (List ℕ)) → tested p (Some (map entered_line ls)) ≡ tested_by (map t ls)
  tested-entered ls = λ i. record { free = none-entered ls i; free_before_last = but-entered ls i; last = last-entered ls i }

-- the lines that were passed: whether one but the last matches, and whether the last does
abbrev with_last : Option Bool → List Bool → List Bool
with_last None answers = answers
with_last (Some b) answers = b ∷ answers

abbrev pub tested_more : (before : Bool) → (last : Option Bool) → (answers : List Bool) → Tested
tested_more before last answers = record {
  free = not before && list_all (λ b. not b) (with_last last answers);
  free_before_last = not before && none_but_last (with_last last answers);
  last = last_of (with_last last answers);
}

-- where no line matches
pub none-lines : (l : List ℕ) (ls : List (List ℕ)) →
    tested_by (map (λ (line : List ℕ). false) (l ∷ ls)) ≡ record { free = true; free_before_last = true; last = Some false }
none-lines l [] = refl
none-lines l (m ∷ ls) = none-lines m ls

-- LETTERS, ONE AFTER ANOTHER

range-more : (a n : ℕ) → range_with_len a (suc n) ≡ range_with_len a n ++ (a + n) ∷ []
range-more a zero = ap (λ (k : ℕ). k ∷ []) (let e : a ≡ a + 0 = omega arith in e)
range-more a (suc n) =
    ap (λ (ks : List ℕ). a ∷ ks) (range-more (a + 1) n)
    ∙ ap (λ (k : ℕ). a ∷ (range_with_len (a + 1) n ++ k ∷ [])) (let e : a + 1 + n ≡ a + suc n = omega arith in e)

letters-more : (t : ℕ → Bool) (n : ℕ) → map (λ (k : ℕ). mark k) (filter t (range_with_len 0 (n + 1))) ≡
    map (λ (k : ℕ). mark k) (filter t (range_with_len 0 n)) ++ map (λ (k : ℕ). mark k) (cond (t n) (n ∷ []) [])
letters-more t n =
    let more : n + 1 ≡ suc n = omega arith in
    let last : 0 + n ≡ n = omega arith in
    ap (λ (k : ℕ). map (λ (j : ℕ). mark j) (filter t (range_with_len 0 k))) more
    ∙ ap (λ (ks : List ℕ). map (λ (k : ℕ). mark k) (filter t ks)) (range-more 0 n)
    ∙ ap (λ (m : ℕ). map (λ (k : ℕ). mark k) (filter t (range_with_len 0 n ++ m ∷ []))) last
    ∙ ap (map (λ (k : ℕ). mark k)) (filter-append t (range_with_len 0 n) (n ∷ []))
    ∙ map-append (λ (k : ℕ). mark k) (filter t (range_with_len 0 n)) (cond (t n) (n ∷ []) [])

pub letter-taken : (t : ℕ → Bool) (n letter : ℕ) (kept more : List ℕ) → letter ≡ n → kept ≡ map (λ (k : ℕ). mark k) (filter t (range_with_len 0 n)) →
    t letter ≡ true → more ≡ kept ++ mark letter ∷ [] → more ≡ map (λ (k : ℕ). mark k) (filter t (range_with_len 0 (n + 1)))
letter-taken t n letter kept more same so_far e next =
    let at : t n ≡ true = subst (λ (k : ℕ). t k ≡ true) same e in
    next ∙ ap (λ (k : ℕ). kept ++ mark k ∷ []) same ∙ ap (λ (ks : List ℕ). ks ++ mark n ∷ []) so_far
    ∙ ap (λ (b : Bool). map (λ (k : ℕ). mark k) (filter t (range_with_len 0 n)) ++ map (λ (k : ℕ). mark k) (cond b (n ∷ []) [])) (sym at)
    ∙ sym (letters-more t n)

pub letter-left_out : (t : ℕ → Bool) (n letter : ℕ) (kept : List ℕ) → letter ≡ n → kept ≡ map (λ (k : ℕ). mark k) (filter t (range_with_len 0 n)) →
    t letter ≡ false → kept ≡ map (λ (k : ℕ). mark k) (filter t (range_with_len 0 (n + 1)))
letter-left_out t n letter kept same so_far e =
    let at : t n ≡ false = subst (λ (k : ℕ). t k ≡ false) same e in
    so_far ∙ sym (append-nil (map (λ (k : ℕ). mark k) (filter t (range_with_len 0 n))))
    ∙ ap (λ (b : Bool). map (λ (k : ℕ). mark k) (filter t (range_with_len 0 n)) ++ map (λ (k : ℕ). mark k) (cond b (n ∷ []) [])) (sym at)
    ∙ sym (letters-more t n)
