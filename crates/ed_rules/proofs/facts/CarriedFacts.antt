-- What is said after `m` is true.
use Rattle.std.proofs.Common.{◌≡◌, ◌<◌, ◌≤◌, inl, inr, ℕ, ◌+◌, ◌-◌, pos, ◌-ℤ◌, true, false, cond, not, ◌&&◌, eqb, nat_eq, List, [], ◌∷◌, ◌++◌, flat_map, filter, length, get_or, All, refl, sym, ap, subst, ◌∙◌, arith}
use Rattle.std.specs.List.{list_any}
use Rattle.std.proofs.lemmas.Int.{ints}
use Rattle.std.proofs.lemmas.Bool.{eqb-true, cases_lt, and_parts, or_cases}
use Rattle.std.proofs.lemmas.Bool.Decides.{nat_tests}
use Rattle.std.proofs.lemmas.List.Elements.{All-cons, All-nil, All-weaker, All-append}
use Rattle.zones.specs.Zone.{Bounds, Numbers}
use Rattle.ed_base.specs.Buffer.{Line, plain_line}
use Rattle.ed_base.specs.Parts.{carried}
use Rattle.ed_syntax.specs.meaning.Values.{matches, matches_line}
use Rattle.ed_rules.specs.facts.Facts.{LineFact, Stretch, Facts, FactsHold, LineFactHolds, StretchHolds, value_of, at, point, end, le, below, may_hold_lines, is_clear, told}
use Rattle.ed_rules.specs.facts.EditedFacts.{stretches, told_fact}
use Rattle.ed_rules.specs.facts.CarriedFacts.{carried_to, stretch_carried, last_carried, carried_facts}
use Rattle.ed_rules.specs.facts.CarriedHolds.{GoesWith, IsCarried}
use Rattle.ed_rules.proofs.facts.FactsTold.{any-gives, point-named, le-true, is_clear-true, told-true}
use Rattle.ed_rules.proofs.facts.FoundLines.{filter-both, value-at}
use Rattle.ed_rules.proofs.facts.EditedFacts.{all-flat, told-fact-each, stretches-each}
use Rattle.ed_rules.proofs.sound.Moving.{length-carried, rest-low, rest-high, carried-low, carried-mid, carried-high}

-- WHERE LINES COME TO

pub to-low : (a b place i : ℕ) → i ≤ a → i ≤ place → carried_to a b place i ≡ i
to-low a b place i h k = grind (arith, nat_tests)

pub to-block : (a b place i : ℕ) → a < b → a < i → i ≤ b → carried_to a b place i ≡ place + (i - a)
to-block a b place i ab h k = grind (arith, nat_tests)

pub to-passed_up : (a b place i : ℕ) → place ≤ a → place < i → i ≤ a → carried_to a b place i ≡ i + (b - a)
to-passed_up a b place i up h k = grind (arith, nat_tests)

pub to-passed_down : (a b place i : ℕ) → a < b → a < place → b < i → i ≤ place + (b - a) → carried_to a b place i ≡ i - (b - a)
to-passed_down a b place i ab down h k = grind (arith, nat_tests)

pub to-high : (a b place i : ℕ) → a < b → b < i → place + (b - a) < i → carried_to a b place i ≡ i
to-high a b place i ab h k = grind (arith, nat_tests)

module _ (zone : Bounds) (facts : Facts) (kept : List ℕ) (number after : Numbers) (old : List Line) (a b t place : ℕ) (s : IsCarried zone facts kept number after old a b t place) where
  changed : List Line
  changed = carried a b place old

  ab : a ≤ b
  ab = let k = s.some in omega arith

  room : place + (b - a) ≤ length old
  room = let k = s.some in let h = s.inside in let f = s.fits in elim s.way [ inl w ↦ let u = w.0 in let v = w.1 in omega arith | inr w ↦ let v = w.1 in omega arith ]

  size : length changed ≡ length old
  unfolding changed
  size = length-carried old a b place ab s.inside room

  none : Line
  none = plain_line []

  -- a line after it is the line before it that came there
  same-line : (pattern : List ℕ) (m i : ℕ) → get_or changed (m - 1) (plain_line []) ≡ get_or old (i - 1) (plain_line []) → matches_line pattern changed m ≡ matches_line pattern old i
  same-line pattern m i e = ap (λ (l : Line). matches pattern l.bytes) e

  low-line : (pattern : List ℕ) (m : ℕ) → 1 ≤ m → m ≤ a → m ≤ place → matches_line pattern changed m ≡ matches_line pattern old m
  unfolding changed
  low-line pattern m from h k = same-line pattern m m
      (carried-low old a b ab s.inside (plain_line []) place room (m - 1) (omega arith) ∙ rest-low old a b ab s.inside (plain_line []) (m - 1) (omega arith))

  block-line : (pattern : List ℕ) (m i : ℕ) → place < m → m ≤ place + (b - a) → i ≡ a + (m - place) → matches_line pattern changed m ≡ matches_line pattern old i
  unfolding changed
  block-line pattern m i h k e = same-line pattern m i (carried-mid old a b ab s.inside (plain_line []) place room (m - 1) (i - 1) (omega arith) (omega arith) (omega arith))

  up-line : (pattern : List ℕ) (m i : ℕ) → place ≤ a → place + (b - a) < m → i ≡ m - (b - a) → i ≤ a → matches_line pattern changed m ≡ matches_line pattern old i
  unfolding changed
  up-line pattern m i up h e k = same-line pattern m i
      (carried-high old a b ab s.inside (plain_line []) place room (m - 1) (i - 1) (omega arith) (omega arith) ∙ rest-low old a b ab s.inside (plain_line []) (i - 1) (omega arith))

  down-line : (pattern : List ℕ) (m i : ℕ) → a < m → m ≤ place → i ≡ m + (b - a) → matches_line pattern changed m ≡ matches_line pattern old i
  unfolding changed
  down-line pattern m i h k e = same-line pattern m i
      (carried-low old a b ab s.inside (plain_line []) place room (m - 1) (omega arith) ∙ rest-high old a b ab s.inside (plain_line []) (m - 1) (i - 1) (omega arith) (omega arith))

  high-line : (pattern : List ℕ) (m : ℕ) → b < m → place + (b - a) < m → matches_line pattern changed m ≡ matches_line pattern old m
  unfolding changed
  high-line pattern m h k = let c = s.some in same-line pattern m m
      (carried-high old a b ab s.inside (plain_line []) place room (m - 1) (m - 1 - (b - a)) (omega arith) refl ∙ rest-high old a b ab s.inside (plain_line []) (m - 1 - (b - a)) (m - 1) (omega arith) (omega arith))

  -- each line goes where `carried_to` says
  goes : (pattern : List ℕ) (i : ℕ) → 1 ≤ i → i ≤ length old → (matches_line pattern changed (carried_to a b place i) ≡ matches_line pattern old i) × (1 ≤ carried_to a b place i) × (carried_to a b place i ≤ length old)
  goes pattern i from inside =
      let c = s.some in
      let r = room in
      let hb = s.inside in
      let there : (j : ℕ) → carried_to a b place i ≡ j → (matches_line pattern changed j ≡ matches_line pattern old i) × (1 ≤ j) × (j ≤ length old) → (matches_line pattern changed (carried_to a b place i) ≡ matches_line pattern old i) × (1 ≤ carried_to a b place i) × (carried_to a b place i ≤ length old) =
      λ j e h. subst (λ (k : ℕ). (matches_line pattern changed k ≡ matches_line pattern old i) × (1 ≤ k) × (k ≤ length old)) (sym e) h in
      elim (cases_lt a i) [
        | inl past ↦ elim (cases_lt b i) [
          | inr block ↦ there (place + (i - a)) (to-block a b place i c past block) (block-line pattern (place + (i - a)) i (omega arith) (omega arith) (omega arith), omega arith, omega arith)
          | inl high ↦ elim (cases_lt (place + (b - a)) i) [
            | inl beyond ↦ there i (to-high a b place i c high beyond) (high-line pattern i high beyond, from, inside)
            | inr within ↦ there (i - (b - a)) (to-passed_down a b place i c (omega arith) high within) (down-line pattern (i - (b - a)) i (omega arith) (omega arith) (omega arith), omega arith, omega arith)
          ]
        ]
        | inr low ↦ elim (cases_lt place i) [
          | inl passed ↦ there (i + (b - a)) (to-passed_up a b place i (omega arith) passed low) (up-line pattern (i + (b - a)) i (omega arith) (omega arith) (omega arith) low, omega arith, omega arith)
          | inr still ↦ there i (to-low a b place i low still) (low-line pattern i from low still, from, inside)
        ]
      ]

  -- each line after it was one before it
  came : (pattern : List ℕ) (m : ℕ) → 1 ≤ m → m ≤ length old → (i : ℕ) × (1 ≤ i) × (i ≤ length old) × (matches_line pattern changed m ≡ matches_line pattern old i)
  came pattern m from inside =
      let c = s.some in
      let r = room in
      let hb = s.inside in
      elim (cases_lt place m) [
        | inr before ↦ elim (cases_lt a m) [
          | inl down ↦ (m + (b - a), omega arith, omega arith, down-line pattern m (m + (b - a)) down before refl)
          | inr low ↦ (m, from, inside, low-line pattern m from low before)
        ]
        | inl past ↦ elim (cases_lt (place + (b - a)) m) [
          | inr block ↦ (a + (m - place), omega arith, omega arith, block-line pattern m (a + (m - place)) past block refl)
          | inl beyond ↦ elim (cases_lt b m) [
            | inl high ↦ (m, from, inside, high-line pattern m high beyond)
            | inr up ↦ (m - (b - a), omega arith, omega arith, up-line pattern m (m - (b - a)) (omega arith) beyond refl (omega arith))
          ]
        ]
      ]

  -- a place of a name that goes with its line; 0 and the end stay
  record PointGoes (x : ℕ) : Type 0 where
    named : x < 33
    line : ℕ
    is : value_of number (point x) ≡ pos line
    after_is : value_of after (point x) ≡ pos (carried_to a b place line)

  zero-goes : PointGoes 0
  zero-goes = record { named = omega arith; line = 0; is = value-at number 0 (omega arith) ∙ s.zero_is; after_is = value-at after 0 (omega arith) ∙ s.zero_after ∙ ap pos (sym (to-low a b place 0 (omega arith) (omega arith))) }

  end-goes : PointGoes end
  end-goes =
      let c = s.some in
      let r = room in
      let hb = s.inside in
      let z = s.last_is in
      let w = s.last_after in
      let to : carried_to a b place (length old + 1) ≡ length old + 1 = to-high a b place (length old + 1) c (omega arith) (omega arith) in
      record { named = omega arith; line = length old + 1; is = omega (arith, ints); after_is = (let e : value_of after (point end) ≡ pos (length old + 1) = omega (arith, ints) in e) ∙ ap pos (sym to) }

  letter-goes : (x : ℕ) → GoesWith a b place (length old) number after x → PointGoes x
  letter-goes x h = let n = h.named in record { named = omega arith; line = h.line; is = value-at number x h.named ∙ h.is; after_is = value-at after x h.named ∙ h.after_is }

  kept-go : All PointGoes kept
  kept-go = All-weaker (GoesWith a b place (length old) number after) PointGoes letter-goes kept s.stay

  -- before all that is carried, and after it, a number is where it was, or stays on its side
  low-stays : (i h : ℕ) → h ≤ a → h ≤ place → i ≤ h → carried_to a b place i ≡ i
  low-stays i h ha hp k = to-low a b place i (omega arith) (omega arith)

  low-passed : (i h : ℕ) → h ≤ a → h ≤ place → h < i → h < carried_to a b place i
  low-passed i h ha hp k =
      let c = s.some in
      elim (cases_lt a i) [
        | inl past ↦ elim (cases_lt b i) [
          | inr block ↦ let e = to-block a b place i c past block in omega arith
          | inl high ↦ elim (cases_lt (place + (b - a)) i) [
            | inl beyond ↦ let e = to-high a b place i c high beyond in omega arith
            | inr within ↦ let e = to-passed_down a b place i c (omega arith) high within in omega arith
          ]
        ]
        | inr low ↦ elim (cases_lt place i) [
          | inl passed ↦ let e = to-passed_up a b place i (omega arith) passed low in omega arith
          | inr still ↦ let e = to-low a b place i low still in omega arith
        ]
      ]

  high-passed : (i h : ℕ) → b ≤ h → place + (b - a) ≤ h → i ≤ h → carried_to a b place i ≤ h
  high-passed i h hb hp k =
      let c = s.some in
      elim (cases_lt a i) [
        | inl past ↦ elim (cases_lt b i) [
          | inr block ↦ let e = to-block a b place i c past block in omega arith
          | inl high ↦ elim (cases_lt (place + (b - a)) i) [
            | inl beyond ↦ let e = to-high a b place i c high beyond in omega arith
            | inr within ↦ let e = to-passed_down a b place i c (omega arith) high within in omega arith
          ]
        ]
        | inr low ↦ elim (cases_lt place i) [
          | inl passed ↦ let e = to-passed_up a b place i (omega arith) passed low in omega arith
          | inr still ↦ let e = to-low a b place i low still in omega arith
        ]
      ]

  stretch-stays : (q : Stretch) → PointGoes q.after × PointGoes q.before → stretch_carried zone facts q ≡ true → StretchHolds after changed q
  stretch-stays q p k =
      let px = p.0 in
      let py = p.1 in
      let hx : (point q.after).name < 32 = point-named q.after px.named in
      let hy : (point q.before).name < 32 = point-named q.before py.named in
      let i : ℕ = px.line in
      let j : ℕ = py.line in
      let xs = px.is in
      let ys = py.is in
      let xa = px.after_is in
      let ya = py.after_is in
      let u = and_parts (may_hold_lines zone (point q.after) (point q.before)) _ k in
      let one : value_of number (at 3) ≡ pos (a + 1) = (let e = s.first_is in omega (arith, ints)) in
      let two : value_of number (at 4) ≡ pos b = (let e = s.second_is in omega (arith, ints)) in
      let three : value_of number (at 5) ≡ pos t = (let e = s.target_is in omega (arith, ints)) in
      record {
        after_named = px.named;
        before_named = py.named;
        holds = λ m from inside above under.
            let fits : m ≤ length old = subst (λ (n : ℕ). m ≤ n) size inside in
            elim (or_cases (is_clear zone facts (at 0) (point end) q.pattern) _ u.1) [
              | inl all ↦
                  let o = came q.pattern m from fits in
                  let low = o.1 in
                  let high = o.2 in
                  let z = s.zero_is in
                  let l = s.last_is in
                  o.3 ∙ is_clear-true zone facts number old (at 0) (point end) q.pattern all (omega arith) (omega arith) s.holds s.facts_hold o.0 o.1 o.2 (omega (arith, ints)) (omega (arith, ints))
              | inr some ↦
                  let v = and_parts (is_clear zone facts (point q.after) (point q.before) q.pattern) _ some in
                  let clear = is_clear-true zone facts number old (point q.after) (point q.before) q.pattern v.0 hx hy s.holds s.facts_hold in
                  elim (or_cases (below zone (point q.before) (at 3) && le zone (point q.before) (at 5) (pos 0)) _ v.1) [
                    | inl before ↦
                        let w = and_parts (below zone (point q.before) (at 3)) _ before in
                        let d = le-true zone number (point q.before) (at 3) (pos 0 -ℤ pos 1) w.0 hy (omega arith) s.holds in
                        let f = le-true zone number (point q.before) (at 5) (pos 0) w.1 hy (omega arith) s.holds in
                        let ja : j ≤ a = omega (arith, ints) in
                        let jt : j ≤ t = omega (arith, ints) in
                        let jp : j ≤ place = (elim s.way [ inl y ↦ let e = y.1 in omega arith | inr y ↦ let e = y.1 in let g = y.0 in let c = s.some in omega arith ]) in
                        let js : carried_to a b place j ≡ j = low-stays j j ja jp (omega arith) in
                        let mj : m < j = omega (arith, ints) in
                        low-line q.pattern m from (omega arith) (omega arith) ∙ clear m from fits
                        (elim (cases_lt i j) [
                          | inl ij ↦ let is = low-stays i j ja jp (omega arith) in omega (arith, ints)
                          | inr ji ↦
                              let past : j ≤ carried_to a b place i = (elim (cases_lt j i) [
                                | inl more ↦ (let n = low-passed i j ja jp more in omega arith)
                                | inr same ↦ (let e : i ≡ j = omega arith in let n : carried_to a b place i ≡ carried_to a b place j = ap (carried_to a b place) e in omega arith)
                              ]) in
                              absurd (omega (arith, ints))
                        ]) (omega (arith, ints))
                    | inr behind ↦
                        let w = and_parts (below zone (at 4) (point q.after)) _ behind in
                        let d = le-true zone number (at 4) (point q.after) (pos 0 -ℤ pos 1) w.0 (omega arith) hx s.holds in
                        let f = le-true zone number (at 5) (point q.after) (pos 0 -ℤ pos 1) w.1 (omega arith) hx s.holds in
                        let ib : b < i = omega (arith, ints) in
                        let it : t < i = omega (arith, ints) in
                        let ip : place + (b - a) < i = (elim s.way [ inl y ↦ let e = y.1 in let g = y.0 in let c = s.some in omega arith | inr y ↦ let e = y.1 in omega arith ]) in
                        let is : carried_to a b place i ≡ i = to-high a b place i s.some ib ip in
                        let im : i < m = omega (arith, ints) in
                        high-line q.pattern m (omega arith) (omega arith) ∙ clear m from fits (omega (arith, ints))
                        (elim (cases_lt i j) [
                          | inl ij ↦ let js = to-high a b place j s.some (omega arith) (omega arith) in omega (arith, ints)
                          | inr ji ↦ let n = high-passed j i (omega arith) (omega arith) ji in absurd (omega (arith, ints))
                        ])
                  ]
            ];
      }

  moved-fact : (f : LineFact) → LineFactHolds number old f → GoesWith a b place (length old) number after f.name → LineFactHolds after changed f
  moved-fact f h g =
      let same : h.holds.line ≡ g.line = (let e = h.holds.is in let k = g.is in omega (arith, ints)) in
      let o = goes f.pattern g.line g.from g.inside in
      record {
        named = h.named;
        holds = record {
          line = carried_to a b place g.line;
          is = g.after_is;
          from = o.1;
          inside = subst (λ (n : ℕ). carried_to a b place g.line ≤ n) (sym size) o.2;
          told = o.0 ∙ subst (λ (n : ℕ). matches_line f.pattern old n ≡ f.matches) same h.holds.told;
        };
      }

  kept-fact : (f : LineFact) → LineFactHolds number old f → list_any (nat_eq f.name) kept ≡ true → LineFactHolds after changed f
  kept-fact f h k =
      any-gives (nat_eq f.name) (GoesWith a b place (length old) number after) (LineFactHolds after changed f) kept s.stay
      (λ v g e. moved-fact f h (subst (λ (x : ℕ). GoesWith a b place (length old) number after x) (sym (eqb-true f.name v e)) g)) k

  last-facts : All (LineFactHolds after changed) (last_carried zone facts)
  last-facts =
      (elim (below zone (at 4) (at 2) && below zone (at 5) (at 2)) as
      (λ c. below zone (at 4) (at 2) && below zone (at 5) (at 2) ≡ c → All (LineFactHolds after changed) (cond c (filter (λ (f : LineFact). eqb f.name 2) facts.lines) [])) [
        | true ↦ λ k.
            let u = and_parts (below zone (at 4) (at 2)) _ k in
            let d = le-true zone number (at 4) (at 2) (pos 0 -ℤ pos 1) u.0 (omega arith) (omega arith) s.holds in
            let e = le-true zone number (at 5) (at 2) (pos 0 -ℤ pos 1) u.1 (omega arith) (omega arith) s.holds in
            let l = s.last_is in
            let w = s.last_after in
            let two = s.second_is in
            let three = s.target_is in
            let c = s.some in
            let high : b < length old = omega (arith, ints) in
            let past : t < length old = omega (arith, ints) in
            let beyond : place + (b - a) < length old = (elim s.way [ inl y ↦ let e = y.1 in let g = y.0 in omega arith | inr y ↦ let e = y.1 in omega arith ]) in
            let to : carried_to a b place (length old) ≡ length old = to-high a b place (length old) s.some high beyond in
            let g : GoesWith a b place (length old) number after 2 = record { named = omega arith; line = length old; is = s.last_is; from = omega arith; inside = omega arith; after_is = s.last_after ∙ ap pos (sym to) } in
            filter-both (λ (f : LineFact). eqb f.name 2) (LineFactHolds number old) (LineFactHolds after changed) facts.lines s.facts_hold.of_lines
            (λ f h q. moved-fact f h (subst (λ (x : ℕ). GoesWith a b place (length old) number after x) (sym (eqb-true f.name 2 q)) g))
        | false ↦ λ k. All-nil (LineFactHolds after changed)
      ]) refl

  current-facts : (patterns : List (List ℕ)) → All (LineFactHolds after changed) (flat_map (λ p. told_fact 1 p (told zone facts 4 p)) patterns)
  current-facts patterns =
      all-flat (LineFactHolds after changed) (λ p. told_fact 1 p (told zone facts 4 p)) patterns
      (λ p. told-fact-each (LineFactHolds after changed) 1 p (told zone facts 4 p)
      (λ answer e.
      let c = s.some in
      let r = room in
      let hb = s.inside in
      record {
        named = omega arith;
        holds = record {
          line = place + (b - a);
          is = s.current_after;
          from = omega arith;
          inside = subst (λ (n : ℕ). place + (b - a) ≤ n) (sym size) room;
          told = block-line p (place + (b - a)) b (omega arith) (omega arith) (omega arith) ∙ told-true zone facts number old 4 b p answer e (omega arith) s.holds s.facts_hold s.second_is (omega arith) s.inside;
        };
      }))

  pub carry-holds : (patterns : List (List ℕ)) → FactsHold (carried_facts zone facts kept patterns) after (carried a b place old)
  unfolding changed
  carry-holds patterns = record {
    of_lines = All-append (LineFactHolds after changed) (filter (λ (f : LineFact). list_any (nat_eq f.name) kept) facts.lines) (last_carried zone facts ++ flat_map (λ p. told_fact 1 p (told zone facts 4 p)) patterns)
        (filter-both (λ (f : LineFact). list_any (nat_eq f.name) kept) (LineFactHolds number old) (LineFactHolds after changed) facts.lines s.facts_hold.of_lines kept-fact)
        (All-append (LineFactHolds after changed) (last_carried zone facts) (flat_map (λ p. told_fact 1 p (told zone facts 4 p)) patterns) last-facts (current-facts patterns));
    of_clear = filter-both (stretch_carried zone facts) (λ (q : Stretch). PointGoes q.after × PointGoes q.before) (StretchHolds after changed) (stretches (0 ∷ kept) (end ∷ kept) patterns)
        (stretches-each PointGoes PointGoes (0 ∷ kept) (end ∷ kept) patterns (All-cons PointGoes 0 kept zero-goes kept-go) (All-cons PointGoes end kept end-goes kept-go)) stretch-stays;
  }
