-- Bytes are the text of one certificate at most.
use Rattle.std.proofs.Common.{◌≡◌, ◌<◌, ◌^◌, ◌++◌, ◌∷◌, [], ◌+◌, ◌%◌, ℕ, true, ◌&&◌, List, map, get_or, Option, None, Some, arith, refl, ◌∙◌, sym, ap, subst, append_assoc}
use Rattle.std.specs.Prelude.{codes, decimal, is_some, All}
use Rattle.std.specs.List.{flat_map}
use Rattle.std.proofs.lemmas.Bool.{leb-true, and_parts}
use Rattle.std.proofs.lemmas.List.Elements.{All-head, All-tail}
use Rattle.std.proofs.lemmas.Fmt.{decimal_injective, decimal_by_steps}
use Rattle.ed_rules.specs.declared.state.Old.{Old}
use Rattle.ed_rules.specs.declared.state.State.{State}
use Rattle.cert_check.specs.Certificates.{Looped, Note, Certificate}
use Rattle.cert_check.specs.text.Text.{Word, Line, line_text, choice_word, limit_word, texts_line, BufferKeys, matched_lines, told_lines, own_keys, earlier_keys, buffer_lines, buffer_of, chains_lines, old_lines, state_lines, headed_lines, looped_lines, note_lines, version_line, path_line, bounds_line, opening_lines, closing_lines, text_of}
use Rattle.ed_rules.specs.Formed.{OldIsFormed, StateIsFormed}
use Rattle.cert_check.specs.declared.certificate.Version.{Version}
use Rattle.cert_check.specs.declared.certificate.Version.TheVariants.{One, Two, Three}
use Rattle.ed_rules.specs.LineBounds.{is_few, is_limit, is_within}
use Rattle.cert_check.specs.text.HasText.{IsSaidIn, ChainsHaveText, StateHasText, LoopedHasText, NoteHasText, HasText, IsText}
use Rattle.cert_check.proofs.texts.Separated.{Above, Above-from_test, IsLineOfWords, AreLinesOfWords, AreLinesOfWords-append, lines-same, first-of, later-of}
use Rattle.ed_rules.specs.Formed.{ZoneIsFormed}
use Rattle.ed_rules.specs.facts.Facts.{Facts}
use Rattle.landmarks.specs.ChainValues.{ChainValue}
use Rattle.cert_check.proofs.texts.FactWords.{facts-words}
use Rattle.cert_check.proofs.texts.Worded.{decimal-above}
use Rattle.cert_check.proofs.texts.Zoned.{zone-said, bounds-are-words}
use Rattle.cert_check.proofs.texts.Chosen.{marks-are-words, choice-above, choice-same, words-are-words, texts-same, two-bytes, two-words, three-words}
use Rattle.cert_check.proofs.texts.Unambiguous.{matched-same, chains-same, Buffer, after_matched, state-same, after_notes, notes-same}

pub few : (n : ℕ) → is_few n ≡ true → n < 2 ^ 64
few n e = let l = leb-true n 1000000000000 e in omega arith

pub limit-above : (n : Option ℕ) → is_limit n ≡ true → Above 32 (limit_word n)
limit-above None e = Above-from_test 32 (codes "any") refl
limit-above (Some n) e = decimal-above n (few n e)

-- digits end at `9`
abbrev Below : List ℕ → Type 0
Below [] = Unit {0}
Below (b ∷ bytes) = (b < 58) × Below bytes

Below-append : (a b : List ℕ) → Below a → Below b → Below (a ++ b)
Below-append [] b h k = k
Below-append (x ∷ a) b h k = (h.0, Below-append a b h.1 k)

decimal-below : (n : ℕ) → n < 2 ^ 64 → Below (decimal n)
decimal-below n h =
    decimal_by_steps (λ n ds. Below ds) (λ k l. (omega arith, tt))
    (λ k ds l rest. Below-append ds ((48 + k % 10) ∷ []) rest (omega arith, tt)) n h

not-any : (n : ℕ) → n < 2 ^ 64 → codes "any" ≡ decimal n → ⊥
not-any n h e = let below : Below (codes "any") = subst (λ (t : List ℕ). Below t) (sym e) (decimal-below n h) in let first = below.0 in
    omega arith

pub limit-same : (m n : Option ℕ) → is_limit m ≡ true → is_limit n ≡ true → limit_word m ≡ limit_word n → m ≡ n
limit-same None None h k e = refl
limit-same None (Some n) h k e = absurd (not-any n (few n k) e)
limit-same (Some m) None h k e = absurd (not-any m (few m h) (sym e))
limit-same (Some m) (Some n) h k e = ap (λ (x : ℕ). Some x) (decimal_injective m n (few m h) (few n k) e)

-- a certificate's lines are lines of words
pub texts-words : (key : Word) (texts : List (List ℕ)) → Above 32 key → IsLineOfWords (texts_line key texts)
texts-words key texts h = (h, words-are-words choice_word choice-above (map Some texts))

pub matched-words : (version : Version) (key : Word) (texts : List (List ℕ)) → Above 32 key →
    AreLinesOfWords (matched_lines version key texts)
matched-words One key texts h = tt
matched-words Two key texts h = (texts-words key texts h, tt)
matched-words Three key texts h = (texts-words key texts h, tt)

told-words : (version : Version) (known clear : Word) → Above 32 known → Above 32 clear → (facts : Facts) →
    AreLinesOfWords (told_lines version known clear facts)
told-words One known clear h k facts = tt
told-words Two known clear h k facts = tt
told-words Three known clear h k facts = facts-words known clear h k facts

chains-words : (version : Version) (chains : List ChainValue) → AreLinesOfWords (chains_lines version chains)
chains-words One chains = tt
chains-words Two chains = tt
chains-words Three chains =
    (texts-words (codes "at") (map (λ (c : ChainValue). c.text) chains) (Above-from_test 32 (codes "at") refl), tt)

-- keys that are words
record AreKeyWords (keys : BufferKeys) : Type 0 where
  pub zone : Above 32 keys.zone
  pub marks : Above 32 keys.marks
  pub has : Above 32 keys.has
  pub lines : Above 32 keys.lines
  pub clear : Above 32 keys.clear

own-keys : AreKeyWords own_keys
own-keys = record {
  zone = Above-from_test 32 (codes "zone") refl;
  marks = Above-from_test 32 (codes "marks") refl;
  has = Above-from_test 32 (codes "has") refl;
  lines = Above-from_test 32 (codes "lines") refl;
  clear = Above-from_test 32 (codes "clear") refl;
}

earlier-keys : AreKeyWords earlier_keys
earlier-keys = record {
  zone = Above-from_test 32 (codes "old-zone") refl;
  marks = Above-from_test 32 (codes "old-marks") refl;
  has = Above-from_test 32 (codes "old-has") refl;
  lines = Above-from_test 32 (codes "old-lines") refl;
  clear = Above-from_test 32 (codes "old-clear") refl;
}

buffer-words : (version : Version) (keys : BufferKeys) (b : Buffer) → AreKeyWords keys → ZoneIsFormed b.0.marks b.0.zone →
    AreLinesOfWords (buffer_lines version keys b)
buffer-words version keys b w h = (
  (w.zone, bounds-are-words 0 b.0.zone (zone-said b.0.marks b.0.zone h)),
  (
    (w.marks, marks-are-words b.0.marks),
    AreLinesOfWords-append (matched_lines version keys.has b.1) (told_lines version keys.lines keys.clear b.0.facts)
        (matched-words version keys.has b.1 w.has) (told-words version keys.lines keys.clear w.lines w.clear b.0.facts),
  ),
)

module _ (version : Version) where
  pub old-words : (o : Option Old) (has : List (List ℕ)) → OldIsFormed o → AreLinesOfWords (old_lines version o has)
  old-words None has h = tt
  old-words (Some o) has h = buffer-words version earlier_keys (o, has) earlier-keys h

  -- the lines of a state below what some line matches
  after-words : (s : State) → StateIsFormed s → AreLinesOfWords (after_matched version s)
  after-words s h = (
    (Above-from_test 32 (codes "patterns") refl, words-are-words choice_word choice-above s.patterns),
    (
      (
        Above-from_test 32 (codes "replacements") refl,
        three-words (codes "none") (codes "plain") (codes "split") refl refl refl s.replacements.none s.replacements.plain
            s.replacements.split,
      ),
      (
        (Above-from_test 32 (codes "names") refl, words-are-words choice_word choice-above s.names),
        (
          (Above-from_test 32 (codes "changed") refl, two-words (codes "no") (codes "yes") refl refl s.changed.no s.changed.yes),
          (
            (
              Above-from_test 32 (codes "undo") refl,
              three-words (codes "nothing") (codes "same") (codes "was") refl refl refl s.undo.nothing s.undo.same (is_some s.undo.was),
            ),
            old-words s.undo.was s.matches.old_has h.old,
          ),
        ),
      ),
    ),
  )

  pub state-words : (s : State) → StateHasText version s → AreLinesOfWords (state_lines version s)
  state-words s said =
      AreLinesOfWords-append (buffer_lines version own_keys (buffer_of s)) (after_matched version s)
      (buffer-words version own_keys (buffer_of s) own-keys said.formed.zone) (after-words s said.formed)

  pub headed-words : (head : Word) (s : State) → Above 32 head → StateHasText version s →
      AreLinesOfWords (headed_lines version head s)
  headed-words head s a h = ((a, tt), state-words s h)

  pub inner-words : (states : List State) → All (StateHasText version) states →
      AreLinesOfWords (flat_map (headed_lines version (codes "inner")) states)
  inner-words [] h = tt
  inner-words (s ∷ states) h =
      AreLinesOfWords-append (headed_lines version (codes "inner") s) (flat_map (headed_lines version (codes "inner")) states)
      (headed-words (codes "inner") s (Above-from_test 32 (codes "inner") refl) (All-head (StateHasText version) s states h))
      (inner-words states (All-tail (StateHasText version) s states h))

  pub looped-words : (l : Option Looped) → LoopedHasText version l → AreLinesOfWords (looped_lines version l)
  looped-words None h = tt
  looped-words (Some l) h =
      AreLinesOfWords-append (headed_lines version (codes "loop") l.invariant ++ flat_map (headed_lines version (codes "inner")) l.inner)
      ((codes "done" ∷ []) ∷ [])
      (AreLinesOfWords-append (headed_lines version (codes "loop") l.invariant) (flat_map (headed_lines version (codes "inner")) l.inner)
      (headed-words (codes "loop") l.invariant (Above-from_test 32 (codes "loop") refl) h.0) (inner-words l.inner h.1))
      ((Above-from_test 32 (codes "done") refl, tt), tt)

  pub notes-words : (notes : List Note) → All (NoteHasText version) notes → AreLinesOfWords (flat_map (note_lines version) notes)
  notes-words [] h = tt
  notes-words (n ∷ notes) h =
      let here = All-head (NoteHasText version) n notes h in
      AreLinesOfWords-append (note_lines version n) (flat_map (note_lines version) notes)
      (AreLinesOfWords-append (headed_lines version (codes "note") n.state) (looped_lines version n.looped)
      (headed-words (codes "note") n.state (Above-from_test 32 (codes "note") refl) here.0) (looped-words n.looped here.1))
      (notes-words notes (All-tail (NoteHasText version) n notes h))

-- the parts of what the bounds need
start-parts : (c : Certificate) → HasText c → (is_few c.min ≡ true) × (is_limit c.max ≡ true)
start-parts c h = and_parts (is_few c.min) (is_limit c.max) (and_parts (is_few c.min && is_limit c.max) (is_within c.min c.max) h.start).0

final-parts : (c : Certificate) → HasText c → (is_few c.low ≡ true) × (is_limit c.high ≡ true)
final-parts c h = and_parts (is_few c.low) (is_limit c.high) h.final

pub version-words : (version : Version) → IsLineOfWords (version_line version)
version-words One = (Above-from_test 32 (codes "ed-certificate") refl, (Above-from_test 32 (codes "1") refl, tt))
version-words Two = (Above-from_test 32 (codes "ed-certificate") refl, (Above-from_test 32 (codes "2") refl, tt))
version-words Three = (Above-from_test 32 (codes "ed-certificate") refl, (Above-from_test 32 (codes "3") refl, tt))

-- first lines that differ in their digit
digits-differ : (a b : Version) (x y : ℕ) → x < y → get_or (line_text (version_line a)) 15 0 ≡ x →
    get_or (line_text (version_line b)) 15 0 ≡ y → line_text (version_line a) ≡ line_text (version_line b) → ⊥
digits-differ a b x y l is other e = two-bytes x y l (sym is ∙ ap (λ (bytes : List ℕ). get_or bytes 15 0) e ∙ other)

-- a first line is that of one version
pub version-same : (a b : Version) → line_text (version_line a) ≡ line_text (version_line b) → a ≡ b
version-same One One e = refl
version-same One Two e = absurd (digits-differ One Two 49 50 (omega arith) refl refl e)
version-same One Three e = absurd (digits-differ One Three 49 51 (omega arith) refl refl e)
version-same Two One e = absurd (digits-differ One Two 49 50 (omega arith) refl refl (sym e))
version-same Two Two e = refl
version-same Two Three e = absurd (digits-differ Two Three 50 51 (omega arith) refl refl e)
version-same Three One e = absurd (digits-differ One Three 49 51 (omega arith) refl refl (sym e))
version-same Three Two e = absurd (digits-differ Two Three 50 51 (omega arith) refl refl (sym e))
version-same Three Three e = refl

pub certificate-words : (c : Certificate) → HasText c →
    AreLinesOfWords (opening_lines c ++ flat_map (note_lines c.version) c.notes ++ closing_lines c)
certificate-words c h =
    let start = start-parts c h in
    let final = final-parts c h in
    AreLinesOfWords-append (opening_lines c ++ flat_map (note_lines c.version) c.notes) (closing_lines c)
    (AreLinesOfWords-append (opening_lines c) (flat_map (note_lines c.version) c.notes) (
      version-words c.version,
      (
        (Above-from_test 32 (codes "path") refl, (choice-above c.path, tt)),
        (
          (Above-from_test 32 (codes "start") refl, (decimal-above c.min (few c.min start.0), (limit-above c.max start.1, tt))),
          AreLinesOfWords-append (matched_lines c.version (codes "has") c.has) (chains_lines c.version c.landmarks)
              (matched-words c.version (codes "has") c.has (Above-from_test 32 (codes "has") refl)) (chains-words c.version c.landmarks),
        ),
      ),
    )
    (notes-words c.version c.notes h.notes))
    (AreLinesOfWords-append (headed_lines c.version (codes "end") c.last)
    (bounds_line (codes "final") c.low c.high ∷ texts_line (codes "writes") c.writes ∷ [])
    (headed-words c.version (codes "end") c.last (Above-from_test 32 (codes "end") refl) h.last) (
      (Above-from_test 32 (codes "final") refl, (decimal-above c.low (few c.low final.0), (limit-above c.high final.1, tt))),
      (texts-words (codes "writes") c.writes (Above-from_test 32 (codes "writes") refl), tt),
    ))

abbrev pub certificate_made : Version → Option (List ℕ) → ℕ → Option ℕ → List (List ℕ) → List ChainValue → List Note → State → ℕ →
    Option ℕ → List (List ℕ) → Certificate
certificate_made version path min max has landmarks notes last low high writes = record {
  version = version;
  path = path;
  min = min;
  max = max;
  has = has;
  landmarks = landmarks;
  notes = notes;
  last = last;
  low = low;
  high = high;
  writes = writes;
}

pub certificate-by : (a b : Certificate) → a.version ≡ b.version → a.path ≡ b.path → a.min ≡ b.min → a.max ≡ b.max →
    a.has ≡ b.has → a.landmarks ≡ b.landmarks → a.notes ≡ b.notes → a.last ≡ b.last → a.low ≡ b.low → a.high ≡ b.high → a.writes ≡ b.writes →
    a ≡ b
certificate-by a b v p m x t c n l w h s = λ k. certificate_made (v k) (p k) (m k) (x k) (t k) (c k) (n k) (l k) (w k) (h k) (s k)

-- the lines of a certificate below the first, in a version
abbrev pub lines_in : Version → Certificate → List Line
lines_in version c =
    path_line c.path ∷ bounds_line (codes "start") c.min c.max ∷ matched_lines version (codes "has") c.has
    ++ (chains_lines version c.landmarks ++ after_notes version c.notes
    (state_lines version c.last ++ bounds_line (codes "final") c.low c.high ∷ texts_line (codes "writes") c.writes ∷ []))

pub whole-lines : (c : Certificate) →
    opening_lines c ++ flat_map (note_lines c.version) c.notes ++ closing_lines c ≡ version_line c.version ∷ lines_in c.version c
whole-lines c =
    ap (λ (l : List Line). version_line c.version ∷ path_line c.path ∷ bounds_line (codes "start") c.min c.max ∷ l)
    (append_assoc (matched_lines c.version (codes "has") c.has ++ chains_lines c.version c.landmarks) (flat_map (note_lines c.version) c.notes)
    (closing_lines c)
    ∙ append_assoc (matched_lines c.version (codes "has") c.has) (chains_lines c.version c.landmarks)
    (flat_map (note_lines c.version) c.notes ++ closing_lines c))

-- what is said of states, in a version
abbrev pub IsSaid : Version → Certificate → Type 0
IsSaid version c = (IsSaidIn version c.has × ChainsHaveText version c.landmarks) × (All (NoteHasText version) c.notes × StateHasText version c.last)

pub said-in : (version : Version) (c : Certificate) → c.version ≡ version → HasText c → IsSaid version c
said-in version c same h = subst (λ (v : Version). IsSaid v c) same ((h.has, h.landmarks), (h.notes, h.last))

lines-in-same : (version : Version) (a b : Certificate) → a.version ≡ b.version → HasText a → HasText b → IsSaid version a →
    IsSaid version b → lines_in version a ≡ lines_in version b → a ≡ b
lines-in-same version a b v h k i j path =
    let closing_a : List Line = bounds_line (codes "final") a.low a.high ∷ texts_line (codes "writes") a.writes ∷ [] in
    let closing_b : List Line = bounds_line (codes "final") b.low b.high ∷ texts_line (codes "writes") b.writes ∷ [] in
    let after_a : List Line = state_lines version a.last ++ closing_a in
    let after_b : List Line = state_lines version b.last ++ closing_b in
    let start = later-of path in
    let notes_a : List Line = after_notes version a.notes after_a in
    let notes_b : List Line = after_notes version b.notes after_b in
    let has = matched-same version (codes "has") a.has b.has (chains_lines version a.landmarks ++ notes_a)
    (chains_lines version b.landmarks ++ notes_b) i.0.0 j.0.0 (later-of start) in
    let chains = chains-same version a.landmarks b.landmarks notes_a notes_b i.0.1 j.0.1 has.1 in
    let noted = notes-same version a.notes b.notes after_a after_b i.1.0 j.1.0 chains.1 in
    let ended = state-same version a.last b.last closing_a closing_b i.1.1 j.1.1 noted.1 in
    let start_words = later-of (first-of start) in
    let final_words = later-of (first-of ended.1) in
    certificate-by a b v
    (choice-same a.path b.path (first-of (later-of (first-of path))))
    (decimal_injective a.min b.min (few a.min (start-parts a h).0) (few b.min (start-parts b k).0) (first-of start_words))
    (limit-same a.max b.max (start-parts a h).1 (start-parts b k).1 (first-of (later-of start_words)))
    has.0 chains.0 noted.0 ended.0
    (decimal_injective a.low b.low (few a.low (final-parts a h).0) (few b.low (final-parts b k).0) (first-of final_words))
    (limit-same a.high b.high (final-parts a h).1 (final-parts b k).1 (first-of (later-of final_words)))
    (texts-same a.writes b.writes (later-of (first-of (later-of ended.1))))

lines-of-same : (a b : Certificate) → HasText a → HasText b →
    version_line a.version ∷ lines_in a.version a ≡ version_line b.version ∷ lines_in b.version b → a ≡ b
lines-of-same a b h k e =
    let same = version-same a.version b.version (ap (λ (l : Line). line_text l) (first-of e)) in
    lines-in-same b.version a b same h k
    (said-in b.version a same h) (said-in b.version b refl k)
    (subst (λ (v : Version). lines_in v a ≡ lines_in b.version b) same (later-of e))

pub one-text : (bytes : List ℕ) (a b : Certificate) → IsText bytes a → IsText bytes b → a ≡ b
unfolding text_of
one-text bytes a b h k =
    lines-of-same a b h.0 k.0 (
    sym (whole-lines a)
    ∙ lines-same (opening_lines a ++ flat_map (note_lines a.version) a.notes ++ closing_lines a)
    (opening_lines b ++ flat_map (note_lines b.version) b.notes ++ closing_lines b)
    (certificate-words a h.0) (certificate-words b k.0) (h.1 ∙ sym k.1)
    ∙ whole-lines b)
