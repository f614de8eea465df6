-- A text is the text of one certificate.
use Rattle.std.proofs.Common.{◌≡◌, ◌<◌, ◌++◌, ◌∷◌, [], ℕ, Bool, List, Option, None, Some, arith, refl, ◌∙◌, sym, ap, subst, map, append_assoc}
use Rattle.std.specs.Prelude.{codes, is_some, All}
use Rattle.std.specs.List.{flat_map}
use Rattle.std.proofs.lemmas.List.Elements.{All-head, All-tail}
use Rattle.zones.specs.Zone.{Bounds}
use Rattle.ed_rules.specs.declared.known_matches.Matches.{Matches}
use Rattle.ed_rules.specs.declared.state.Old.{Old}
use Rattle.ed_rules.specs.declared.state.Replacements.{Replacements}
use Rattle.ed_rules.specs.declared.state.Changed.{Changed}
use Rattle.ed_rules.specs.declared.state.Undo.{Undo}
use Rattle.ed_rules.specs.declared.state.State.{State}
use Rattle.ed_rules.specs.Choices.{Choice}
use Rattle.cert_check.specs.Certificates.{Looped, Note}
use Rattle.cert_check.specs.text.Text.{Word, Line, letters_words, sure_letters, bounds_words, choices_line, replacements_line, changed_line, undo_line, BufferKeys, matched_lines, told_lines, own_keys, earlier_keys, buffer_lines, buffer_of, chains_lines, old_lines, earlier_lines, state_lines, headed_lines, looped_lines, note_lines}
use Rattle.ed_rules.specs.Formed.{ZoneIsFormed, OldIsFormed}
use Rattle.ed_rules.specs.facts.Facts.{Facts}
use Rattle.cert_check.specs.text.Pieces.{BufferIsFormed, EarlierIsFormed}
use Rattle.cert_check.specs.text.FactsText.{AreToldIn}
use Rattle.landmarks.specs.declared.landmark.Landmark.{Landmark}
use Rattle.landmarks.specs.ChainValues.{ChainValue}
use Rattle.landmarks.specs.Spelled.{SpellsChain}
use Rattle.landmarks.proofs.Chains.{chain-one}
use Rattle.cert_check.proofs.texts.FactWords.{mapped-same, lines-facts}
use Rattle.cert_check.specs.declared.certificate.Version.{Version}
use Rattle.cert_check.specs.declared.certificate.Version.TheVariants.{One, Two, Three}
use Rattle.cert_check.specs.text.HasText.{IsSaidIn, OldIsSaidIn, OldIsToldIn, StateHasText, ChainHasText, ChainsHaveText, LoopedHasText, NoteHasText}
use Rattle.cert_check.proofs.texts.Zoned.{zone-said, bounds-same}
use Rattle.cert_check.proofs.texts.Chosen.{marks-same, choices-same, texts-same, Same, two-same, three-same}
use Rattle.cert_check.proofs.texts.Separated.{first-of, later-of}

-- a zone beside its marks
pub zone-same : (m n : List Bool) (a b : Bounds) → ZoneIsFormed m a → ZoneIsFormed n b → bounds_words 0 a ≡ bounds_words 0 b →
    a ≡ b
zone-same m n a b h k e = bounds-same 0 a b (h.is_zone.size ∙ sym k.is_zone.size) (zone-said m a h) (zone-said n b k) e

pub letters-same : (m n : List Bool) (a b : Bounds) → ZoneIsFormed m a → ZoneIsFormed n b →
    letters_words (sure_letters 97 m) ≡ letters_words (sure_letters 97 n) → m ≡ n
letters-same m n a b h k e = marks-same m n (h.letters ∙ sym k.letters) e

abbrev pub old_made : Bounds → List Bool → Facts → Old
old_made zone marks facts = record { zone = zone; marks = marks; facts = facts }

pub old-by : (a b : Old) → a.zone ≡ b.zone → a.marks ≡ b.marks → a.facts ≡ b.facts → a ≡ b
old-by a b z m f = λ k. old_made (z k) (m k) (f k)

-- an earlier buffer that is formed, with what is said and told of it
pub earlier-formed : (version : Version) (was : Option Old) (has : List (List ℕ)) → OldIsFormed was → OldIsSaidIn version was has →
    OldIsToldIn version was → EarlierIsFormed version was has
earlier-formed version None has h k l = k
earlier-formed version (Some old) has h k l = (h, (k, l))

pub formed-earlier : (version : Version) (was : Option Old) (has : List (List ℕ)) → EarlierIsFormed version was has → OldIsFormed was
formed-earlier version None has h = tt
formed-earlier version (Some old) has h = h.0

pub said-earlier : (version : Version) (was : Option Old) (has : List (List ℕ)) → EarlierIsFormed version was has →
    OldIsSaidIn version was has
said-earlier version None has h = h
said-earlier version (Some old) has h = h.1.0

pub told-earlier : (version : Version) (was : Option Old) (has : List (List ℕ)) → EarlierIsFormed version was has → OldIsToldIn version was
told-earlier version None has h = tt
told-earlier version (Some old) has h = h.1.1

abbrev replacements_made : (none plain split : Bool) → Replacements
replacements_made none plain split = record { none = none; plain = plain; split = split }

replacements-by : (a b : Replacements) → Same a.none a.plain a.split b.none b.plain b.split → a ≡ b
replacements-by a b h =
    ap (λ (x : Bool). replacements_made x a.plain a.split) h.first ∙ ap (λ (x : Bool). replacements_made b.none x a.split) h.second
    ∙ ap (λ (x : Bool). replacements_made b.none b.plain x) h.third

abbrev changed_made : (kept lost : Bool) → Changed
changed_made kept lost = record { no = kept; yes = lost }

changed-by : (a b : Changed) → a.no ≡ b.no → a.yes ≡ b.yes → a ≡ b
changed-by a b x y = ap (λ (n : Bool). changed_made n a.yes) x ∙ ap (λ (n : Bool). changed_made b.no n) y

abbrev pub undo_made : (nothing same : Bool) → Option Old → Undo
undo_made nothing same was = record { nothing = nothing; same = same; was = was }

pub undo-by : (a b : Undo) → a.nothing ≡ b.nothing → a.same ≡ b.same → a.was ≡ b.was → a ≡ b
undo-by a b x y z =
    ap (λ (n : Bool). undo_made n a.same a.was) x ∙ ap (λ (n : Bool). undo_made b.nothing n a.was) y
    ∙ ap (λ (n : Option Old). undo_made b.nothing b.same n) z

abbrev pub matches_made : (has old_has : List (List ℕ)) → Matches
matches_made has old_has = record { has = has; old_has = old_has }

matches-by : (a b : Matches) → a.has ≡ b.has → a.old_has ≡ b.old_has → a ≡ b
matches-by a b h o = λ k. matches_made (h k) (o k)

abbrev pub state_made : Bounds → List Bool → List Choice → Replacements → List Choice → Changed → Undo → Matches → (follows : Bool) → Facts → State
state_made zone marks patterns replacements names changed undo matches follows facts = record {
  zone = zone;
  marks = marks;
  patterns = patterns;
  replacements = replacements;
  names = names;
  changed = changed;
  undo = undo;
  matches = matches;
  follows = follows;
  facts = facts;
}

state-by : (a b : State) → a.zone ≡ b.zone → a.marks ≡ b.marks → a.patterns ≡ b.patterns →
    a.replacements ≡ b.replacements → a.names ≡ b.names → a.changed ≡ b.changed → a.undo ≡ b.undo →
    a.matches ≡ b.matches → a.follows ≡ b.follows → a.facts ≡ b.facts → a ≡ b
state-by a b z m p r n c u h l f = λ k. state_made (z k) (m k) (p k) (r k) (n k) (c k) (u k) (h k) (l k) (f k)

-- lines that begin with different letters
pub letter-differs : {x y : ℕ} {v w : Word} {vs ws : Line} {r s : List Line} → x < y →
    ((x ∷ v) ∷ vs) ∷ r ≡ ((y ∷ w) ∷ ws) ∷ s → ⊥
letter-differs {x} {y} l e = let same : x ≡ y = first-of (first-of (first-of e)) in omega arith

abbrev pub looped_made : State → List State → Looped
looped_made invariant inner = record { invariant = invariant; inner = inner }

pub looped-by : (a b : Looped) → a.invariant ≡ b.invariant → a.inner ≡ b.inner → a ≡ b
looped-by a b i n = λ k. looped_made (i k) (n k)

abbrev pub note_made : State → Option Looped → Note
note_made state looped = record { state = state; looped = looped }

pub note-by : (a b : Note) → a.state ≡ b.state → a.looped ≡ b.looped → a ≡ b
note-by a b i n = λ k. note_made (i k) (n k)

-- what some line matches, before other lines
pub matched-same : (version : Version) (key : Word) (m n : List (List ℕ)) (r s : List Line) → IsSaidIn version m →
    IsSaidIn version n → matched_lines version key m ++ r ≡ matched_lines version key n ++ s → (m ≡ n) × (r ≡ s)
matched-same One key m n r s h k e = (h ∙ sym k, e)
matched-same Two key m n r s h k e = (texts-same m n (later-of (first-of e)), later-of e)
matched-same Three key m n r s h k e = (texts-same m n (later-of (first-of e)), later-of e)

-- what is known of single lines, before other lines
told-same : (version : Version) (marks letters : List Bool) (known clear : Word) (f g : Facts) (r s : List Line) →
    AreToldIn version marks f → AreToldIn version letters g →
    told_lines version known clear f ++ r ≡ told_lines version known clear g ++ s → (f ≡ g) × (r ≡ s)
told-same One marks letters known clear f g r s h k e = (h ∙ sym k, e)
told-same Two marks letters known clear f g r s h k e = (h ∙ sym k, e)
told-same Three marks letters known clear f g r s h k e = lines-facts marks letters known clear f g r s h k e

-- what is known of a buffer, before other lines
abbrev pub Buffer : Type 0
Buffer = Old × List (List ℕ)

buffer-by : (a b : Buffer) → a.0 ≡ b.0 → a.1 ≡ b.1 → a ≡ b
buffer-by a b p q = λ k. (p k, q k)

pub buffer-same : (version : Version) (keys : BufferKeys) (a b : Buffer) (r s : List Line) → BufferIsFormed version a →
    BufferIsFormed version b → buffer_lines version keys a ++ r ≡ buffer_lines version keys b ++ s → (a ≡ b) × (r ≡ s)
buffer-same version keys a b r s h k e =
    let told_a : List Line = told_lines version keys.lines keys.clear a.0.facts in
    let told_b : List Line = told_lines version keys.lines keys.clear b.0.facts in
    let zones = zone-same a.0.marks b.0.marks a.0.zone b.0.zone h.0 k.0 (later-of (first-of e)) in
    let rest = later-of e in
    let marks = letters-same a.0.marks b.0.marks a.0.zone b.0.zone h.0 k.0 (later-of (first-of rest)) in
    let matched = matched-same version keys.has a.1 b.1 (told_a ++ r) (told_b ++ s) h.1.0 k.1.0
    (sym (append_assoc (matched_lines version keys.has a.1) told_a r) ∙ later-of rest
    ∙ append_assoc (matched_lines version keys.has b.1) told_b s) in
    let told = told-same version a.0.marks b.0.marks keys.lines keys.clear a.0.facts b.0.facts r s h.1.1 k.1.1 matched.1 in
    (buffer-by a b (old-by a.0 b.0 zones marks told.0) matched.0, told.1)

-- chains of landmarks, before other lines
abbrev chain_made : List ℕ → List Landmark → ChainValue
chain_made text landmarks = record { text = text; landmarks = landmarks }

chain-same : (x y : ChainValue) → ChainHasText x → ChainHasText y → x.text ≡ y.text → x ≡ y
chain-same x y h k e =
    let same : x.landmarks ≡ y.landmarks =
    chain-one y.text x.landmarks y.landmarks (subst (λ (t : List ℕ). SpellsChain t x.landmarks) e h.spelled) k.spelled in
    λ i. chain_made (e i) (same i)

pub chains-same : (version : Version) (m n : List ChainValue) (r s : List Line) → ChainsHaveText version m →
    ChainsHaveText version n → chains_lines version m ++ r ≡ chains_lines version n ++ s → (m ≡ n) × (r ≡ s)
chains-same One m n r s h k e = (h ∙ sym k, e)
chains-same Two m n r s h k e = (h ∙ sym k, e)
chains-same Three m n r s h k e = (
  mapped-same (λ (c : ChainValue). c.text) ChainHasText ChainHasText chain-same m n h k
      (texts-same (map (λ (c : ChainValue). c.text) m) (map (λ (c : ChainValue). c.text) n) (later-of (first-of e))),
  later-of e,
)

-- an earlier buffer, and what some of its lines match, before other lines
pub record SameOld (a b : Option Old) (m n : List (List ℕ)) (r s : List Line) : Type 0 where
  pub was : a ≡ b
  pub has : m ≡ n
  pub later : r ≡ s

module _ (version : Version) where
  -- an earlier buffer, a state, notes, before other lines

  old-same : (a b : Option Old) (m n : List (List ℕ)) (r s : List Line) → is_some a ≡ is_some b → EarlierIsFormed version a m →
      EarlierIsFormed version b n → old_lines version a m ++ r ≡ old_lines version b n ++ s → SameOld a b m n r s
  old-same None None m n r s i h k e = record { was = refl; has = h ∙ sym k; later = e }
  old-same None (Some b) m n r s i h k e = absurd cc
  old-same (Some a) None m n r s i h k e = absurd cc
  old-same (Some a) (Some b) m n r s i h k e =
      let both = buffer-same version earlier_keys (a, m) (b, n) r s h k e in
      record { was = ap (λ (z : Buffer). Some z.0) both.0; has = ap (λ (z : Buffer). z.1) both.0; later = both.1 }

  -- the lines of a state below those on its buffer
  abbrev pub after_matched : State → List Line
  after_matched s =
      choices_line (codes "patterns") s.patterns ∷ replacements_line s.replacements ∷ choices_line (codes "names") s.names
      ∷ changed_line s.changed ∷ undo_line s.undo ∷ earlier_lines version s

  -- what is known of a state's own buffer
  pub own-formed : (s : State) → StateHasText version s → BufferIsFormed version (buffer_of s)
  own-formed s h = (h.formed.zone, (h.matches.0, h.facts))

  pub state-same : (a b : State) (r s : List Line) → StateHasText version a → StateHasText version b →
      state_lines version a ++ r ≡ state_lines version b ++ s → (a ≡ b) × (r ≡ s)
  state-same a b r s said other e =
      let h = said.formed in
      let k = other.formed in
      let own = buffer-same version own_keys (buffer_of a) (buffer_of b) (after_matched a ++ r) (after_matched b ++ s) (own-formed a said)
      (own-formed b other) (
      sym (append_assoc (buffer_lines version own_keys (buffer_of a)) (after_matched a) r) ∙ e
      ∙ append_assoc (buffer_lines version own_keys (buffer_of b)) (after_matched b) s) in
      let patterns = own.1 in
      let replacements = later-of patterns in
      let names = later-of replacements in
      let changed = later-of names in
      let undo = later-of changed in
      let old = later-of undo in
      let kinds = three-same (codes "none") (codes "plain") (codes "split") refl refl refl a.replacements.none a.replacements.plain
      a.replacements.split b.replacements.none b.replacements.plain b.replacements.split (later-of (first-of replacements)) in
      let sides = two-same (codes "no") (codes "yes") refl a.changed.no a.changed.yes b.changed.no b.changed.yes
      (later-of (first-of changed)) in
      let undone = three-same (codes "nothing") (codes "same") (codes "was") refl refl refl a.undo.nothing a.undo.same (is_some a.undo.was)
      b.undo.nothing b.undo.same (is_some b.undo.was) (later-of (first-of undo)) in
      let was = old-same a.undo.was b.undo.was a.matches.old_has b.matches.old_has r s undone.third
      (earlier-formed version a.undo.was a.matches.old_has h.old said.matches.1 said.old_facts)
      (earlier-formed version b.undo.was b.matches.old_has k.old other.matches.1 other.old_facts) old in (
        state-by a b
            (ap (λ (z : Buffer). z.0.zone) own.0)
            (ap (λ (z : Buffer). z.0.marks) own.0)
            (choices-same a.patterns b.patterns (later-of (first-of patterns)))
            (replacements-by a.replacements b.replacements kinds)
            (choices-same a.names b.names (later-of (first-of names)))
            (changed-by a.changed b.changed sides.0 sides.1)
            (undo-by a.undo b.undo undone.first undone.second was.was)
            (matches-by a.matches b.matches (ap (λ (z : Buffer). z.1) own.0) was.has)
            (said.follows ∙ sym other.follows)
            (ap (λ (z : Buffer). z.0.facts) own.0),
        was.later,
      )

  -- what follows a note: another, or the end
  abbrev pub after_notes : List Note → List Line → List Line
  after_notes notes r = flat_map (note_lines version) notes ++ (codes "end" ∷ []) ∷ r

  abbrev pub after_inner : List State → List Line → List Line
  after_inner states r = flat_map (headed_lines version (codes "inner")) states ++ (codes "done" ∷ []) ∷ r

  pub inner-same : (a b : List State) (r s : List Line) → All (StateHasText version) a → All (StateHasText version) b →
      after_inner a r ≡ after_inner b s → (a ≡ b) × (r ≡ s)
  inner-same [] [] r s h k e = (refl, later-of e)
  inner-same [] (y ∷ b) r s h k e = absurd (letter-differs (omega arith) e)
  inner-same (x ∷ a) [] r s h k e = absurd (letter-differs (omega arith) (sym e))
  inner-same (x ∷ a) (y ∷ b) r s h k e =
      let rests = sym (append_assoc (state_lines version x) (flat_map (headed_lines version (codes "inner")) a)
      ((codes "done" ∷ []) ∷ r)) ∙ later-of e
      ∙ append_assoc (state_lines version y) (flat_map (headed_lines version (codes "inner")) b) ((codes "done" ∷ []) ∷ s) in
      let here = state-same x y (after_inner a r) (after_inner b s) (All-head (StateHasText version) x a h)
      (All-head (StateHasText version) y b k) rests in
      let rest = inner-same a b r s (All-tail (StateHasText version) x a h) (All-tail (StateHasText version) y b k) here.1 in
      (ap (λ (z : State). z ∷ a) here.0 ∙ ap (λ (l : List State). y ∷ l) rest.0, rest.1)

  -- no list begins where another note or the end does
  no-list : (notes : List Note) (r : List Line) (s : State) (rest : List Line) →
      after_notes notes r ≡ (codes "loop" ∷ []) ∷ rest → ⊥
  no-list [] r s rest e = letter-differs (omega arith) e
  no-list (n ∷ notes) r s rest e = letter-differs (omega arith) (sym e)

  looped-same : (a b : Option Looped) (p q : List Note) (r s : List Line) → LoopedHasText version a → LoopedHasText version b →
      looped_lines version a ++ after_notes p r ≡ looped_lines version b ++ after_notes q s →
      (a ≡ b) × (after_notes p r ≡ after_notes q s)
  looped-same None None p q r s h k e = (refl, e)
  looped-same None (Some b) p q r s h k e = absurd (no-list p r b.invariant _ e)
  looped-same (Some a) None p q r s h k e = absurd (no-list q s a.invariant _ (sym e))
  looped-same (Some a) (Some b) p q r s h k e =
      let inner_a : List Line = flat_map (headed_lines version (codes "inner")) a.inner in
      let inner_b : List Line = flat_map (headed_lines version (codes "inner")) b.inner in
      let done : List Line = (codes "done" ∷ []) ∷ [] in
      let split_a : state_lines version a.invariant ++ inner_a ++ done ++ after_notes p r ≡ state_lines version a.invariant ++ after_inner
      a.inner (after_notes p r) =
      append_assoc (state_lines version a.invariant ++ inner_a) done (after_notes p r)
      ∙ append_assoc (state_lines version a.invariant) inner_a (done ++ after_notes p r) in
      let split_b : state_lines version b.invariant ++ inner_b ++ done ++ after_notes q s ≡ state_lines version b.invariant ++ after_inner
      b.inner (after_notes q s) =
      append_assoc (state_lines version b.invariant ++ inner_b) done (after_notes q s)
      ∙ append_assoc (state_lines version b.invariant) inner_b (done ++ after_notes q s) in
      let here = state-same a.invariant b.invariant (after_inner a.inner (after_notes p r)) (after_inner b.inner (after_notes q s)) h.0 k.0
      (sym split_a ∙ later-of e ∙ split_b) in
      let rest = inner-same a.inner b.inner (after_notes p r) (after_notes q s) h.1 k.1 here.1 in
      (ap (λ (l : Looped). Some l) (looped-by a b here.0 rest.0), rest.1)

  note-split : (n : Note) (notes : List Note) (r : List Line) →
      after_notes (n ∷ notes)
      r ≡ (codes "note" ∷ []) ∷ (state_lines version n.state ++ (looped_lines version n.looped ++ after_notes notes r))
  note-split n notes r =
      append_assoc (note_lines version n) (flat_map (note_lines version) notes) ((codes "end" ∷ []) ∷ r)
      ∙ append_assoc (headed_lines version (codes "note") n.state) (looped_lines version n.looped) (after_notes notes r)

  pub notes-same : (a b : List Note) (r s : List Line) → All (NoteHasText version) a → All (NoteHasText version) b →
      after_notes a r ≡ after_notes b s → (a ≡ b) × (r ≡ s)
  notes-same [] [] r s h k e = (refl, later-of e)
  notes-same [] (y ∷ b) r s h k e = absurd (letter-differs (omega arith) e)
  notes-same (x ∷ a) [] r s h k e = absurd (letter-differs (omega arith) (sym e))
  notes-same (x ∷ a) (y ∷ b) r s h k e =
      let hx = All-head (NoteHasText version) x a h in
      let ky = All-head (NoteHasText version) y b k in
      let rests = later-of (sym (note-split x a r) ∙ e ∙ note-split y b s) in
      let here = state-same x.state y.state (looped_lines version x.looped ++ after_notes a r)
      (looped_lines version y.looped ++ after_notes b s) hx.0 ky.0 rests in
      let list = looped-same x.looped y.looped a b r s hx.1 ky.1 here.1 in
      let rest = notes-same a b r s (All-tail (NoteHasText version) x a h) (All-tail (NoteHasText version) y b k) list.1 in
      (ap (λ (z : Note). z ∷ a) (note-by x y here.0 list.0) ∙ ap (λ (l : List Note). y ∷ l) rest.0, rest.1)
