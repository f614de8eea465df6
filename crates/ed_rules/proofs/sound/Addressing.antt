-- The addresses before a command: where the rule values them, the editor does, and the names have their values.
use Rattle.std.proofs.Common.{◌≡◌, ◌<◌, ◌≤◌, ◌+◌, inl, inr, ℕ, ℤ, pos, negsuc, ◌+ℤ◌, true, List, [], ◌∷◌, length, Option, None, Some, Result, Ok, arith, refl, ◌∙◌, sym, ap, subst, ◌&&◌, ◌||◌, not, nat_lt}
use Rattle.std.proofs.lemmas.Int.{ints}
use Rattle.std.proofs.lemmas.Bool.{le-leb, ltb-true, or_cases, and_parts}
use Rattle.ed_base.specs.declared.fault.Fault.{Fault}
use Rattle.ed_base.specs.declared.fault.Fault.TheVariants as fault
use Rattle.ed_base.specs.Buffer.{Line, marked_place}
use Rattle.zones.specs.Zone.{Numbers, updated}
use Rattle.zones.specs.Steps.{after_set}
use Rattle.ed_syntax.specs.Commands as ed
use Rattle.ed_syntax.specs.Commands.{Base, Address, Addresses, Without, One, Comma, Semicolon, Verb, at_base}
use Rattle.ed_syntax.specs.meaning.States as editor
use Rattle.ed_syntax.specs.meaning.Verbs.{takes, given_or, here}
use Rattle.ed_syntax.specs.meaning.Values.{◌>>◌, within, base_number, line_at, sought, value, values}
use Rattle.ed_syntax.specs.meaning.Values as concrete
use Rattle.ed_syntax.specs.meaning.Ranges.{first_of_two, last_of_two}
use Rattle.ed_rules.specs.declared.state.State.{State}
use Rattle.ed_rules.specs.StandsFor.{StandsBy}
use Rattle.ed_rules.specs.Texts.{is_member}
use Rattle.ed_rules.specs.Matched.{is_matched, AreMatched}
use Rattle.ed_rules.proofs.Texting.{member-matched}
use Rattle.ed_rules.proofs.Basics.{Agrees}
use Rattle.ed_rules.proofs.sound.Searching.{always-matched}
use Rattle.ed_rules.proofs.sound.Standing.{Begins, Reads-temporary, StandsBy-temporary, StandsBy-current}
use Rattle.ed_rules.proofs.sound.Following.{FollowedHold, StandsBy-facts, facts-without, followed-set, order_by, found-known}
use Rattle.ed_rules.proofs.facts.FoundLines.{witnessed-matched}
use Rattle.ed_rules.specs.declared.following.Way.{Way}
use Rattle.ed_rules.specs.declared.following.Way.TheVariants as ways
use Rattle.ed_rules.specs.facts.FoundLines.{is_witnessed}
use Rattle.ed_rules.specs.Following.{is_followed, set_to}
use Rattle.zones.specs.Known.{known}
use Rattle.ed_rules.specs.Pieces.{with_zone, needing}
use Rattle.ed_rules.specs.Choices.{Choice, has_choice}
use Rattle.ed_rules.specs.Marks.{is_sure}
use Rattle.ed_rules.proofs.Choosing.{has_choice-only, has_choice-all}
use Rattle.std.specs.List.{list_all}
use Rattle.std.specs.Option.{ok_or}
use Rattle.ed_rules.specs.Addresses.{is_always, is_found, possible_patterns, with_found, searched, in_buffer, copied, set_from, set_number, evaluated_base, evaluated, addressed, standing}
use Rattle.zones.proofs.Known.{updated-same, known-true}
use Rattle.ed_rules.proofs.Basics.{bind-twice, Agrees-also, Agrees-bind, Agrees-ok, Agrees-map, Agrees-needing, Agrees-need_then}

-- x has this value, which is a line or 0
abbrev pub Valued : ℕ → editor.State → Numbers → State → ℕ → Type 0
Valued x e v t n =
    StandsBy t e (updated v x (pos n)) × (n ≤ length e.lines) × AreMatched t.matches.has e.lines × FollowedHold t (updated v x (pos n)) e.lines

pub within-inside : (n : ℕ) (e : editor.State) → n ≤ length e.lines → within e (pos n) ≡ Ok n
within-inside n e h = rw (le-leb n (length e.lines) h, within) refl

in_buffer-sound : (x : ℕ) (m : ℤ) (t : State) (e : editor.State) (v : Numbers) → 3 ≤ x → x < 6 → StandsBy t e (updated v x m) →
    AreMatched t.matches.has e.lines → FollowedHold t (updated v x m) e.lines → Agrees (Valued x e v) (in_buffer x t) (within e m)
in_buffer-sound x (pos n) t e v lo hi same known_matches followed =
    let w : Numbers = updated v x (pos n) in
    Agrees-needing (Valued x e v) _ fault.Address t (within e (pos n)) (λ k.
    let both = and_parts (known t.zone 0 x (pos 0)) (known t.zone x 2 (pos 0)) k in
    let d = known-true t.zone w x 2 (pos 0) both.1 (omega arith) (omega arith) same.buffer.holds in
    let wx : w x ≡ pos n = updated-same v x (pos n) in
    let w2 : w 2 ≡ pos (length e.lines) = same.buffer.reads.last_is in
    let le : n ≤ length e.lines = omega (arith, ints) in
    Agrees-ok (Valued x e v) t n (within e (pos n)) (within-inside n e le) (same, le, known_matches, followed))
in_buffer-sound x (negsuc n) t e v lo hi same known_matches followed =
    let w : Numbers = updated v x (negsuc n) in
    Agrees-needing (Valued x e v) _ fault.Address t (within e (negsuc n)) (λ k.
    let both = and_parts (known t.zone 0 x (pos 0)) (known t.zone x 2 (pos 0)) k in
    let d = known-true t.zone w 0 x (pos 0) both.0 (omega arith) (omega arith) same.buffer.holds in
    let wx : w x ≡ negsuc n = updated-same v x (negsuc n) in
    let w0 : w 0 ≡ pos 0 = same.buffer.reads.zero_is in
    absurd (omega (arith, ints)))

-- a temporary is set, and what is known of its line
pub StandsBy-set : (s : State) (e : editor.State) (v : Numbers) (x name : ℕ) (c n : ℤ) → 3 ≤ x → x < 6 → name < 32 →
    n ≡ v name +ℤ c → StandsBy s e v → StandsBy (set_to x name c s) e (updated v x n)
StandsBy-set s e v x name c n lo hi hn is st =
    StandsBy-facts (with_zone (after_set s.zone x name c) s) e (updated v x n) (set_to x name c s).facts
    (StandsBy-temporary s e v x name c n lo hi hn is st)

valued_from-sound : (x name : ℕ) (c m : ℤ) (s : State) (e : editor.State) (v : Numbers) → 3 ≤ x → x < 6 → name < 32 → m ≡ v name +ℤ c →
    StandsBy s e v → AreMatched s.matches.has e.lines → FollowedHold s v e.lines → Agrees (Valued x e v) (set_from x name c s) (within e m)
valued_from-sound x name c m s e v lo hi hn is st known_matches followed =
    in_buffer-sound x m (set_to x name c s) e v lo hi (StandsBy-set s e v x name c m lo hi hn is st) known_matches
    (followed-set s e v x name c m (omega arith) hn (λ (q : 2 ≡ x). omega arith) is st followed)

-- what a search may look for is possible, and it looks for something
possible-sound : (text : Option (List ℕ)) (s : State) (e : editor.State) → has_choice s.patterns e.pattern ≡ true →
    Agrees (λ (possible : List Choice) (t : List ℕ). has_choice possible (Some t) ≡ true) (possible_patterns text s) (ok_or (sought text e) fault.Pattern)
possible-sound (Some text) s e h = has_choice-only (Some text)
possible-sound None s e h =
    (elim e.pattern as (λ p. has_choice s.patterns p ≡ true → Agrees (λ (possible : List Choice) (t : List ℕ). has_choice possible (Some t) ≡ true) (possible_patterns None s) (ok_or p fault.Pattern)) [
      | None ↦ λ k. rw k tt
      | Some text ↦ λ k. Agrees-needing (λ (possible : List Choice) (t : List ℕ). has_choice possible (Some t) ≡ true) (not (has_choice s.patterns None)) fault.Pattern s.patterns (Ok text) (λ _. k)
    ]) h

-- a search that finds a line of the buffer
searched-is : (p : Option (List ℕ)) (order : List ℕ) (e : editor.State) → concrete.searched p order e ≡ ok_or p fault.Pattern >> λ t. concrete.searched (Some t) order e
searched-is None order e = refl
searched-is (Some t) order e = refl

module _ (way : Way) (x : ℕ) (text : Option (List ℕ)) (k : ℤ) (s : State) (e : editor.State) (v : Numbers) (lo : 3 ≤ x) (hi : x < 6) (st : StandsBy s e v)
    (known_matches : AreMatched s.matches.has e.lines) (followed : FollowedHold s v e.lines) where
  abbrev order : List ℕ
  order = order_by way e

  -- what is known to be matched is matched
  found-matched : (t : List ℕ) → is_found s (Some t) ≡ true → is_matched e.lines t ≡ true
  found-matched t h = elim (or_cases (is_member s.matches.has t) (is_followed s t || (known s.zone 0 2 (negsuc 0) && is_always (Some t))) h) [
    | inl m ↦ member-matched s.matches.has t e.lines m known_matches
    | inr more ↦ elim (or_cases (is_followed s t) (known s.zone 0 2 (negsuc 0) && is_always (Some t)) more) [
      | inl w ↦ let both = and_parts s.follows (is_witnessed s.facts t) w in witnessed-matched s.facts v e.lines t (followed both.0) both.1
      | inr q ↦
          let both = and_parts (known s.zone 0 2 (negsuc 0)) (is_always (Some t)) q in
          let d = known-true s.zone v 0 2 (negsuc 0) both.0 (omega arith) (omega arith) st.buffer.holds in
          let v0 = st.buffer.reads.zero_is in
          let v2 = st.buffer.reads.last_is in
          always-matched t e.lines both.1 (omega (arith, ints))
    ]
  ]

  after_search : (possible : List Choice) (t : List ℕ) → has_choice possible (Some t) ≡ true → sought text e ≡ Some t →
      Agrees (Valued x (record e { pattern = sought text e }) v)
      (needing (list_all (is_found s) possible) fault.NoMatch (with_found way possible x k s) >> in_buffer x)
      (concrete.searched (Some t) order e >> λ n. within e (pos n +ℤ k))
  after_search possible t has is =
      let e1 : editor.State = record e { pattern = sought text e } in
      let u : State = with_found way possible x k s in
      Agrees-need_then (Valued x e1 v) (list_all (is_found s) possible) fault.NoMatch u (in_buffer x) (concrete.searched (Some t) order e >> λ n. within e (pos n +ℤ k)) (λ q.
      let o = found-known way x k s e v t lo hi st (found-matched t (has_choice-all (is_found s) possible (Some t) q has)) s.follows possible has followed in
      let m : ℤ = pos o.line +ℤ k in
      let stands : StandsBy u e1 (updated v x m) = record {
        buffer = record {
          holds = o.zone;
          reads = Reads-temporary s.marks e.lines e.current v x m lo hi st.buffer.reads;
          inside = st.buffer.inside;
        };
        remembered = (subst (λ (p : Choice). has_choice possible p ≡ true) (sym is) has, st.remembered.1, st.remembered.2);
        changed = st.changed;
        past = st.past;
      } in
      subst (λ (z : Result ℕ Fault). Agrees (Valued x e1 v) (in_buffer x u) (z >> λ n. within e (pos n +ℤ k))) (sym o.is) (in_buffer-sound x m u e1 v lo hi stands known_matches o.facts))

  sought-some : (p : Option (List ℕ)) (t : List ℕ) → ok_or p fault.Pattern ≡ Ok t → p ≡ Some t
  sought-some None t h = cc
  sought-some (Some u) t h = cc

  searched-sound : Agrees (Valued x (record e { pattern = sought text e }) v) (searched way x text k s) (concrete.searched (sought text e) order e >> λ n. within e (pos n +ℤ k))
  searched-sound =
      let R : State → ℕ → Type 0 = Valued x (record e { pattern = sought text e }) v in
      let P : List Choice → List ℕ → Type 0 = λ (possible : List Choice) (t : List ℕ). has_choice possible (Some t) ≡ true × (sought text e ≡ Some t) in
      let possible : Agrees P (possible_patterns text s) (ok_or (sought text e) fault.Pattern) =
      Agrees-also (λ (possible : List Choice) (t : List ℕ). has_choice possible (Some t) ≡ true) (λ (t : List ℕ). sought text e ≡ Some t) (possible_patterns text s) (ok_or (sought text e) fault.Pattern)
      (possible-sound text s e st.remembered.0) (sought-some (sought text e)) in
      subst (λ (y : Result ℕ Fault). Agrees R (searched way x text k s) (y >> λ n. within e (pos n +ℤ k))) (sym (searched-is (sought text e) order e))
      (subst (λ (y : Result ℕ Fault). Agrees R (searched way x text k s) y) (sym (bind-twice (ok_or (sought text e) fault.Pattern) (λ t. concrete.searched (Some t) order e) (λ n. within e (pos n +ℤ k))))
      (Agrees-bind P R (possible_patterns text s) (ok_or (sought text e) fault.Pattern) _ _ possible (λ p t h. after_search p t h.0 h.1)))

abbrev Stays : State → Numbers → ℕ → State → ℕ → Type 0
Stays s v letter t n = (t ≡ s) × (v (6 + letter) ≡ pos n) × (letter < 26)

valued_base-sound : (x : ℕ) (b : Base) (k : ℤ) (s : State) (e : editor.State) (v : Numbers) → 3 ≤ x → x < 6 → StandsBy s e v → AreMatched s.matches.has e.lines → FollowedHold s v e.lines →
    Agrees (Valued x (record e { pattern = concrete.remembered b e }) v) (evaluated_base x b k s) (base_number b e >> λ n. within e (pos n +ℤ k))
valued_base-sound x (ed.Number n) k s e v lo hi st m f =
    let z = st.buffer.reads.zero_is in
    let c : ℤ = pos n +ℤ k in
    in_buffer-sound x c (set_number x c s) e v lo hi
    (StandsBy-facts (with_zone (after_set s.zone x 0 c) s) e (updated v x c) (set_number x c s).facts
    (StandsBy-temporary s e v x 0 c c lo hi (omega arith) (omega (arith, ints)) st)) m
    (facts-without s.follows x c s.facts v e.lines (λ (q : 2 ≡ x). omega arith) f)
valued_base-sound x ed.Current k s e v lo hi st m f =
    let z = st.buffer.reads.current_is in
    valued_from-sound x 1 k (pos e.current +ℤ k) s e v lo hi (omega arith) (omega (arith, ints)) st m f
valued_base-sound x ed.Last k s e v lo hi st m f =
    let z = st.buffer.reads.last_is in
    valued_from-sound x 2 k (pos (length e.lines) +ℤ k) s e v lo hi (omega arith) (omega (arith, ints)) st m f
valued_base-sound x (ed.Marked letter) k s e v lo hi st m f =
    Agrees-bind (Stays s v letter) (Valued x e v) _ (line_at (marked_place letter e.lines)) (set_from x (6 + letter) k) (λ n. within e (pos n +ℤ k))
    (Agrees-needing (Stays s v letter) _ fault.Mark s (line_at (marked_place letter e.lines)) (λ sure.
    let both = and_parts (nat_lt letter 26) (is_sure s.marks letter) sure in
    let h : letter < 26 = ltb-true letter 26 both.0 in
    let o = st.buffer.reads.marks_are letter h both.1 in
    Agrees-ok (Stays s v letter) s (o.0 + 1) (line_at (marked_place letter e.lines)) (ap line_at o.1) (refl, o.2, h)))
    (λ t n r.
    let vx = r.1 in
    let hl = r.2 in
    rw r.0 (valued_from-sound x (6 + letter) k (pos n +ℤ k) s e v lo hi (omega arith) (omega (arith, ints)) st m f))
valued_base-sound x (ed.Forward text) k s e v lo hi st m f = searched-sound ways.Forward x text k s e v lo hi st m f
valued_base-sound x (ed.Backward text) k s e v lo hi st m f = searched-sound ways.Backward x text k s e v lo hi st m f

pub valued-sound : (x : ℕ) (a : Address) (s : State) (e : editor.State) (v : Numbers) → 3 ≤ x → x < 6 → StandsBy s e v → AreMatched s.matches.has e.lines → FollowedHold s v e.lines →
    Agrees (Valued x (concrete.evaluated a e) v) (evaluated x a s) (value a e)
valued-sound x a s e v lo hi st m f = valued_base-sound x a.base a.offset s e v lo hi st m f

-- the first two temporaries have the values of two addresses, or of one twice
pub record Names (one : Type 0) (vs : List ℕ) (lines : List Line) (v : Numbers) : Type 0 where
  pub first_is : v 3 ≡ pos (first_of_two vs)
  pub last_is : v 4 ≡ pos (last_of_two vs)
  pub first_in : first_of_two vs ≤ length lines
  pub last_in : last_of_two vs ≤ length lines
  pub same : one → first_of_two vs ≡ last_of_two vs

-- without addresses there are none
abbrev pub NamesOf : Addresses → List ℕ → List Line → Numbers → Type 0
NamesOf Without vs lines v = vs ≡ []
NamesOf (One a) vs lines v = Names (Unit {0}) vs lines v
NamesOf (Comma a b) vs lines v = Names ⊥ vs lines v
NamesOf (Semicolon a b) vs lines v = Names ⊥ vs lines v

-- what a command does later is settled by the state at its start: only the current line and the pattern may differ
pub record Addressed (Named : List ℕ → List Line → Numbers → Type 0) (t : State) (p : editor.State × List ℕ) : Type 0 where
  pub numbers : Numbers
  pub stands : StandsBy t p.0 numbers
  pub names : Named p.1 p.0.lines numbers
  pub matched : AreMatched t.matches.has p.0.lines
  pub followed : FollowedHold t numbers p.0.lines

-- and the editor's lines are these
abbrev pub AddressedIn : List Line → (List ℕ → List Line → Numbers → Type 0) → State → editor.State × List ℕ → Type 0
AddressedIn lines Named t p = Addressed Named t p × (p.0.lines ≡ lines)

addressed-one : (a : Address) (s : State) (e : editor.State) (v : Numbers) → StandsBy s e v → AreMatched s.matches.has e.lines → FollowedHold s v e.lines →
    Agrees (AddressedIn e.lines (Names (Unit {0}))) (addressed (One a) s) (values (One a) e)
addressed-one a s e v st m f =
    Agrees-bind (Valued 3 (concrete.evaluated a e) v) (AddressedIn e.lines (Names (Unit {0}))) (evaluated 3 a s) (value a e) _ _ (valued-sound 3 a s e v (omega arith) (omega arith) st m f)
    (λ t n r. (
      record {
        numbers = updated (updated v 3 (pos n)) 4 (pos n);
        stands = StandsBy-set t (concrete.evaluated a e) (updated v 3 (pos n)) 4 3 (pos 0) (pos n) (omega arith) (omega arith) (omega arith) (omega (arith, ints)) r.0;
        names = record { first_is = refl; last_is = refl; first_in = r.1; last_in = r.1; same = λ _. refl };
        matched = r.2;
        followed =
            followed-set t (concrete.evaluated a e) (updated v 3 (pos n)) 4 3 (pos 0) (pos n) (omega arith) (omega arith) (λ (q : 2 ≡ 4). omega arith)
            (omega (arith, ints)) r.0 r.3;
      },
      refl,
    ))

pub addressed-sound : (a : Addresses) (s : State) (e : editor.State) → Begins s e → AreMatched s.matches.has e.lines → Agrees (AddressedIn e.lines (NamesOf a)) (addressed a s) (values a e)
addressed-sound Without s e st k = (record { numbers = st.0; stands = st.1; names = refl; matched = k; followed = λ _. st.2 }, refl)
addressed-sound (One a) s e st k = addressed-one a s e st.0 st.1 k (λ _. st.2)
addressed-sound (Comma a b) s e st k =
    let v : Numbers = st.0 in
    Agrees-bind (Valued 3 (concrete.evaluated a e) v) (AddressedIn e.lines (Names ⊥)) (evaluated 3 a s) (value a e) _ _ (valued-sound 3 a s e v (omega arith) (omega arith) st.1 k (λ _. st.2))
    (λ t n r.
    let after : editor.State = concrete.evaluated a e in
    let v3 : Numbers = updated v 3 (pos n) in
    Agrees-map (Valued 4 (concrete.evaluated b after) v3) (AddressedIn e.lines (Names ⊥)) (evaluated 4 b t) (value b after) _
    (valued-sound 4 b t after v3 (omega arith) (omega arith) r.0 r.2 r.3)
    (λ u m q. (
      record {
        numbers = updated v3 4 (pos m);
        stands = q.0;
        names = record { first_is = refl; last_is = refl; first_in = r.1; last_in = q.1; same = λ z. absurd z };
        matched = q.2;
        followed = q.3;
      },
      refl,
    )))
addressed-sound (Semicolon a None) s e st k =
    let v : Numbers = st.0 in
    Agrees-bind (Valued 3 (concrete.evaluated a e) v) (AddressedIn e.lines (Names ⊥)) (evaluated 3 a s) (value a e) _ _ (valued-sound 3 a s e v (omega arith) (omega arith) st.1 k (λ _. st.2))
    (λ t n r.
    let v3 : Numbers = updated v 3 (pos n) in
    let v1 : Numbers = updated v3 1 (pos n) in
    let after : editor.State = concrete.moved n (concrete.evaluated a e) in
    let st1 : StandsBy (copied 1 3 t) after v1 =
    StandsBy-facts (with_zone (after_set t.zone 1 3 (pos 0)) t) after v1 (copied 1 3 t).facts
    (StandsBy-current t (concrete.evaluated a e) v3 3 (pos 0) n (omega arith) (omega (arith, ints)) r.1 r.0) in
    let f1 : FollowedHold (copied 1 3 t) v1 e.lines =
    followed-set t (concrete.evaluated a e) v3 1 3 (pos 0) (pos n) (omega arith) (omega arith) (λ (q : 2 ≡ 1). omega arith) (omega (arith, ints)) r.0 r.3 in (
      record {
        numbers = updated v1 4 (pos n);
        stands = StandsBy-set (copied 1 3 t) after v1 4 3 (pos 0) (pos n) (omega arith) (omega arith) (omega arith) (omega (arith, ints)) st1;
        names = record { first_is = refl; last_is = refl; first_in = r.1; last_in = r.1; same = λ z. absurd z };
        matched = r.2;
        followed =
            followed-set (copied 1 3 t) after v1 4 3 (pos 0) (pos n) (omega arith) (omega arith) (λ (q : 2 ≡ 4). omega arith)
            (omega (arith, ints)) st1 f1;
      },
      refl,
    ))
addressed-sound (Semicolon a (Some b)) s e st k =
    let v : Numbers = st.0 in
    Agrees-bind (Valued 3 (concrete.evaluated a e) v) (AddressedIn e.lines (Names ⊥)) (evaluated 3 a s) (value a e) _ _ (valued-sound 3 a s e v (omega arith) (omega arith) st.1 k (λ _. st.2))
    (λ t n r.
    let v3 : Numbers = updated v 3 (pos n) in
    let v1 : Numbers = updated v3 1 (pos n) in
    let after : editor.State = concrete.moved n (concrete.evaluated a e) in
    let st1 : StandsBy (copied 1 3 t) after v1 =
    StandsBy-facts (with_zone (after_set t.zone 1 3 (pos 0)) t) after v1 (copied 1 3 t).facts
    (StandsBy-current t (concrete.evaluated a e) v3 3 (pos 0) n (omega arith) (omega (arith, ints)) r.1 r.0) in
    let f1 : FollowedHold (copied 1 3 t) v1 e.lines =
    followed-set t (concrete.evaluated a e) v3 1 3 (pos 0) (pos n) (omega arith) (omega arith) (λ (q : 2 ≡ 1). omega arith) (omega (arith, ints)) r.0 r.3 in
    Agrees-map (Valued 4 (concrete.evaluated b after) v1) (AddressedIn e.lines (Names ⊥)) (evaluated 4 b (copied 1 3 t)) (value b after) _
    (valued-sound 4 b (copied 1 3 t) after v1 (omega arith) (omega arith) st1 r.2 f1)
    (λ u m q. (
      record {
        numbers = updated v1 4 (pos m);
        stands = q.0;
        names = record { first_is = refl; last_is = refl; first_in = r.1; last_in = q.1; same = λ z. absurd z };
        matched = q.2;
        followed = q.3;
      },
      refl,
    )))

-- a default `.,.` is evaluated once by the rule and twice by the editor
pub value-here : (e : editor.State) → e.current ≤ length e.lines → value here e ≡ Ok e.current
value-here e h =
    let n : pos e.current +ℤ pos 0 ≡ pos e.current = omega (arith, ints) in
    ap (within e) n ∙ within-inside e.current e h

pub twice-is : (e : editor.State) → e.current ≤ length e.lines → values (Comma here here) e ≡ Ok (e, e.current ∷ e.current ∷ [])
twice-is e h = rw (value-here e h) refl

pub twice-sound : (s : State) (e : editor.State) → Begins s e → AreMatched s.matches.has e.lines → Agrees (AddressedIn e.lines (NamesOf (One here))) (addressed (One here) s) (values (Comma here here) e)
twice-sound s e st k =
    let v : Numbers = st.0 in
    let S : State → editor.State × List ℕ → Type 0 = AddressedIn e.lines (NamesOf (One here)) in
    let once : Agrees (Valued 3 e v) (evaluated 3 here s) (Ok e.current) =
    subst (λ (y : Result ℕ Fault). Agrees (Valued 3 e v) (evaluated 3 here s) y) (value-here e st.1.buffer.inside) (valued-sound 3 here s e v (omega arith) (omega arith) st.1 k (λ _. st.2)) in
    subst (λ (y : Result (editor.State × List ℕ) Fault). Agrees S (addressed (One here) s) y) (sym (twice-is e st.1.buffer.inside))
    (Agrees-bind (Valued 3 e v) S (evaluated 3 here s) (Ok e.current) (λ t. Ok (copied 4 3 t)) (λ n. Ok (e, n ∷ n ∷ [])) once
    (λ t n r. (
      record {
        numbers = updated (updated v 3 (pos n)) 4 (pos n);
        stands = StandsBy-set t e (updated v 3 (pos n)) 4 3 (pos 0) (pos n) (omega arith) (omega arith) (omega arith) (omega (arith, ints)) r.0;
        names = record { first_is = refl; last_is = refl; first_in = r.1; last_in = r.1; same = λ _. refl };
        matched = r.2;
        followed =
            followed-set t e (updated v 3 (pos n)) 4 3 (pos 0) (pos n) (omega arith) (omega arith) (λ (q : 2 ≡ 4). omega arith)
            (omega (arith, ints)) r.0 r.3;
      },
      refl,
    )))

-- the addresses of a command, given or not
pub command_addressed : (a : Addresses) (verb : Verb) (s : State) (e : editor.State) → Begins s e → AreMatched s.matches.has e.lines →
    Agrees (AddressedIn e.lines (NamesOf (given_or a (standing (takes verb).default)))) (addressed (given_or a (standing (takes verb).default)) s) (values (given_or a (takes verb).default) e)
command_addressed (One a) verb s e st k = addressed-sound (One a) s e st k
command_addressed (Comma a b) verb s e st k = addressed-sound (Comma a b) s e st k
command_addressed (Semicolon a b) verb s e st k = addressed-sound (Semicolon a b) s e st k
command_addressed Without (ed.Change text) s e st k = twice-sound s e st k
command_addressed Without ed.Delete s e st k = twice-sound s e st k
command_addressed Without (ed.Move to) s e st k = twice-sound s e st k
command_addressed Without (ed.Copy to) s e st k = twice-sound s e st k
command_addressed Without (ed.Substitute pattern replacement choice form) s e st k = twice-sound s e st k
command_addressed Without (ed.Write form) s e st k = twice-sound s e st k
command_addressed Without verb s e st k = addressed-sound (takes verb).default s e st k
