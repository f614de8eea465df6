-- What follows what in the lines of a state.
use Rattle.std.proofs.Common.{◌≡◌, ◌<◌, ◌≤◌, ◌-◌, ◌/◌, ◌%◌, ◌++◌, ◌∷◌, [], ℕ, ℤ, Bool, true, false, ◌&&◌, ◌||◌, List, get_or, Option, None, Some, arith, refl, ◌∙◌, sym, ap, subst, append_assoc, append-nil}
use Rattle.std.specs.Prelude.{codes, is_some, nat_lt, nat_le}
use Rattle.std.proofs.lemmas.Bool.{leb-true, and_from, and_parts}
use Rattle.std.proofs.lemmas.List.{get_or-replicate}
use Rattle.zones.specs.Zone.{Bounds}
use Rattle.ed_rules.specs.declared.state.Old.{Old}
use Rattle.ed_rules.specs.declared.state.Replacements.{Replacements}
use Rattle.ed_rules.specs.declared.state.Changed.{Changed}
use Rattle.ed_rules.specs.declared.state.Undo.{Undo}
use Rattle.ed_rules.specs.declared.state.State.{State}
use Rattle.ed_rules.specs.Choices.{Choice}
use Rattle.ed_rules.specs.facts.Facts.{LineFact, Stretch, Facts, no_facts}
use Rattle.ed_rules.specs.Formed.{SetIsFormed, ZoneIsFormed, has_name, may_say, says_nothing}
use Rattle.ed_rules.specs.Marks.{is_sure}
use Rattle.cert_check.specs.declared.certificate.Version.{Version}
use Rattle.cert_check.specs.declared.certificate.Version.TheVariants.{One, Two, Three}
use Rattle.cert_check.specs.declared.text.lines.Found.{Found}
use Rattle.cert_check.specs.text.Text.{Word, Line, spaced, bounds_words, line_text, possible, BufferKeys, zone_line, marks_line, letters_words, sure_letters, letter_a, known_line, clear_line, choices_line, replacements_line, changed_line, undo_line, matched_lines, told_lines, own_keys, earlier_keys, buffer_lines, buffer_of, old_lines, state_lines}
use Rattle.cert_check.specs.text.HasText.{IsSaidIn, StateHasText}
use Rattle.cert_check.specs.text.FactsText.{KnownAreFormed, ClearAreFormed, FactsAreFormed, AreToldIn}
use Rattle.cert_check.specs.text.Pieces.{Left, Took, found_line, texts, IsOf, alone, both_lines, known_lines, BufferIsFormed, EarlierIsFormed, undo_lines, UndoIsFormed, IsSomeReplacement, IsSomeChange, IsFound}
use Rattle.cert_check.specs.text.Reading.{all_marks}
use Rattle.cert_check.proofs.texts.Separated.{Above-from_test, AreWords, IsLineOfWords, words-same, line-same, first-of, later-of}
use Rattle.cert_check.proofs.texts.Zoned.{zone-said, bounds-are-words}
use Rattle.cert_check.proofs.texts.Chosen.{marks-are-words, three-words, three-same}
use Rattle.cert_check.proofs.texts.Unambiguous.{Buffer, old_made, after_matched, state-same, own-formed, zone-same, letters-same, earlier-formed}
use Rattle.cert_check.proofs.texts.OneText.{state-words}
use Rattle.cert_check.proofs.texts.Pieces.{texts-append, took-more, Continued, GoesOn, Expects, Determined}
use Rattle.cert_check.proofs.texts.Sequence.{followed, AreFormed, Cuts, cuts-line, SoFar, begun, on}
use Rattle.cert_check.proofs.texts.Plainest.{plain_old, plain_set, plain-set, plain_replacements, plain_change, plain-said, nothing-formed, plain-told, plain-buffer, plain_undo, plain-undo, state_of, state-formed}

-- lines of what some line matches before other lines
pub cuts-matched : (version : Version) (key : Word) → Cuts (matched_lines version key) (IsSaidIn version)
cuts-matched One key a b x y h k e = e
cuts-matched Two key a b x y h k e = later-of e
cuts-matched Three key a b x y h k e = later-of e

-- lines of what is known of single lines before other lines
cuts-told : (version : Version) (known clear : Word) (f g : Facts) (x y : List (List ℕ)) →
    texts (told_lines version known clear f) ++ x ≡ texts (told_lines version known clear g) ++ y → x ≡ y
cuts-told One known clear f g x y e = e
cuts-told Two known clear f g x y e = e
cuts-told Three known clear f g x y e = later-of (later-of e)

known-split : (version : Version) (keys : BufferKeys) (known : List (List ℕ) × Facts) (x : List (List ℕ)) →
    texts (known_lines version keys known) ++ x
    ≡ texts (matched_lines version keys.has known.0) ++ (texts (told_lines version keys.lines keys.clear known.1) ++ x)
known-split version keys known x =
    ap (λ (l : List (List ℕ)). l ++ x) (texts-append (matched_lines version keys.has known.0) (told_lines version keys.lines keys.clear known.1))
    ∙ append_assoc (texts (matched_lines version keys.has known.0)) (texts (told_lines version keys.lines keys.clear known.1)) x

-- what is known of a buffer before other lines
pub cuts-buffer : (version : Version) (keys : BufferKeys) → Cuts (buffer_lines version keys) (BufferIsFormed version)
cuts-buffer version keys a b x y h k e =
    cuts-told version keys.lines keys.clear a.0.facts b.0.facts x y
    (cuts-matched version keys.has a.1 b.1 (texts (told_lines version keys.lines keys.clear a.0.facts) ++ x)
    (texts (told_lines version keys.lines keys.clear b.0.facts) ++ y) h.1.0 k.1.0
    (sym (known-split version keys (a.1, a.0.facts) x) ∙ later-of (later-of e) ∙ known-split version keys (b.1, b.0.facts) y))

-- what undo may find, and what some line of an earlier buffer matches
abbrev pub Undone : Type 0
Undone = Undo × List (List ℕ)

-- what a zone says beside some letters it may say beside all of them
sure-all : (x : ℕ) → x < 26 → is_sure all_marks x ≡ true
sure-all x h = get_or-replicate 26 x true false h

has-all : (marks : List Bool) (x : ℕ) → x < 32 → has_name marks x ≡ true → has_name all_marks x ≡ true
has-all marks x l h =
    (elim (nat_lt x 3) as (λ r. nat_lt x 3 ≡ r → r || (nat_le 6 x && is_sure all_marks (x - 6)) ≡ true) [
      | true ↦ λ e. refl
      | false ↦ λ e.
          let other : nat_le 6 x && is_sure marks (x - 6) ≡ true = ap (λ (r : Bool). r || (nat_le 6 x && is_sure marks (x - 6))) (sym e)
          ∙ h in
          let six = and_parts (nat_le 6 x) (is_sure marks (x - 6)) other in
          let low : 6 ≤ x = leb-true 6 x six.0 in
          ap (λ (r : Bool). r && is_sure all_marks (x - 6)) six.0 ∙ sure-all (x - 6) (omega arith)
    ]) refl

says-all : (marks : List Bool) (x y : ℕ) (b : Option ℤ) → x < 32 → y < 32 → may_say marks x y b ≡ true →
    may_say all_marks x y b ≡ true
says-all marks x y None l m h = h
says-all marks x y (Some c) l m h =
    (elim (says_nothing x y c) as (λ r. says_nothing x y c ≡ r → r || (has_name all_marks x && has_name all_marks y) ≡ true) [
      | true ↦ λ e. refl
      | false ↦ λ e.
          let other : has_name marks x && has_name marks y ≡ true =
          ap (λ (r : Bool). r || (has_name marks x && has_name marks y)) (sym e) ∙ h in
          let both = and_parts (has_name marks x) (has_name marks y) other in
          and_from (has_name all_marks x) (has_name all_marks y) (has-all marks x l both.0) (has-all marks y m both.1)
    ]) refl

formed-more : (marks : List Bool) (zone : Bounds) → ZoneIsFormed marks zone → ZoneIsFormed all_marks zone
formed-more marks zone h = record {
  letters = refl;
  is_zone = h.is_zone;
  says = λ place l.
      let row : place / 32 < 32 = omega arith in
      let column : place % 32 < 32 = omega arith in
      says-all marks (place / 32) (place % 32) (get_or zone place None) row column (h.says place l);
}

-- the same bytes stand before the same
pub after-same : (a b c : List ℕ) → a ++ b ≡ a ++ c → b ≡ c
after-same [] b c e = e
after-same (x ∷ a) b c e = after-same a b c (later-of e)

key-words : (key : Word) (ws vs : List Word) → AreWords ws → AreWords vs → line_text (key ∷ ws) ≡ line_text (key ∷ vs) →
    ws ≡ vs
key-words key ws vs h k e = (words-same [] [] ws vs tt tt h k (after-same key (spaced ws) (spaced vs) e)).1

-- the plainest of what may stand below a zone and its marks
abbrev plain_known : Version → BufferKeys → List Line
plain_known version keys = known_lines version keys ([], no_facts)

module _ (version : Version) (keys : BufferKeys) where
  -- a zone first
  pub buffer-zone : Expects (IsOf (buffer_lines version keys) (BufferIsFormed version)) [] (IsOf (alone (zone_line keys.zone)) (ZoneIsFormed all_marks))
  buffer-zone = record {
    continued = λ lines k.
        let rest : List Line = marks_line keys.marks all_marks ∷ plain_known version keys in
        record {
          more = texts rest;
          is = record {
            value = (old_made k.value all_marks no_facts, []);
            has = (k.has, (plain-said version, plain-told version all_marks));
            is = ap (λ (l : List (List ℕ)). l ++ texts rest) k.is;
          };
        };
    goes_on = λ whole back after k same. record {
      here = texts (zone_line keys.zone k.value.0.zone ∷ []);
      rest = texts (marks_line keys.marks k.value.0.marks ∷ known_lines version keys (k.value.1, k.value.0.facts)) ++ back;
      is = record { value = k.value.0.zone; has = formed-more k.value.0.marks k.value.0.zone k.has.0; is = refl };
      parted = sym (ap (λ (l : List (List ℕ)). l ++ back) k.is ∙ same);
    };
  }

  -- a buffer's zone is the one that stands there
  same-zone : (zone : Bounds) → ZoneIsFormed all_marks zone → (b : Buffer) → BufferIsFormed version b → (x y : List (List ℕ)) →
      texts (zone_line keys.zone b.0.zone ∷ []) ++ x ≡ texts (zone_line keys.zone zone ∷ []) ++ y → b.0.zone ≡ zone
  same-zone zone h b k x y e =
      zone-same b.0.marks all_marks b.0.zone zone k.0 h
      (key-words keys.zone (bounds_words 0 b.0.zone) (bounds_words 0 zone)
      (bounds-are-words 0 b.0.zone (zone-said b.0.marks b.0.zone k.0))
      (bounds-are-words 0 zone (zone-said all_marks zone h)) (first-of e))

  -- then its marks
  pub buffer-marks : (zone : Bounds) → ZoneIsFormed all_marks zone →
      Expects (IsOf (buffer_lines version keys) (BufferIsFormed version)) (texts (zone_line keys.zone zone ∷ []))
      (IsOf (alone (marks_line keys.marks)) (λ marks. ZoneIsFormed marks zone))
  buffer-marks zone h = record {
    continued = λ lines k. record {
      more = texts (plain_known version keys);
      is = record {
        value = (old_made zone k.value no_facts, []);
        has = (k.has, (plain-said version, plain-told version k.value));
        is =
            ap (λ (l : List (List ℕ)). texts (zone_line keys.zone zone ∷ []) ++ (l ++ texts (plain_known version keys))) k.is
            ∙ sym (append_assoc (texts (zone_line keys.zone zone ∷ [])) lines (texts (plain_known version keys)));
      };
    };
    goes_on = λ whole back after k same.
        let lines = ap (λ (l : List (List ℕ)). l ++ back) k.is ∙ same in
        let is : k.value.0.zone ≡ zone =
        same-zone zone h k.value k.has (texts (marks_line keys.marks k.value.0.marks ∷ known_lines version keys (k.value.1, k.value.0.facts)) ++ back) after lines in
        record {
          here = texts (marks_line keys.marks k.value.0.marks ∷ []);
          rest = texts (known_lines version keys (k.value.1, k.value.0.facts)) ++ back;
          is = record { value = k.value.0.marks; has = subst (λ (z : Bounds). ZoneIsFormed k.value.0.marks z) is k.has.0; is = refl };
          parted = sym (later-of lines);
        };
  }

  -- then what some line matches, and what is known of single lines beside the marks
  abbrev pub from_known : List (List ℕ) × Facts → List Line
  from_known = followed (matched_lines version keys.has) (told_lines version keys.lines keys.clear)

  abbrev pub FromKnown : List Bool → List (List ℕ) × Facts → Type 0
  FromKnown marks = AreFormed (IsSaidIn version) (AreToldIn version marks)

  pub buffer-known : (zone : Bounds) (marks : List Bool) → ZoneIsFormed all_marks zone → ZoneIsFormed marks zone →
      Expects (IsOf (buffer_lines version keys) (BufferIsFormed version)) (texts (zone_line keys.zone zone ∷ marks_line keys.marks marks ∷ []))
      (IsOf from_known (FromKnown marks))
  unfolding followed AreFormed
  buffer-known zone marks h m = record {
    continued = λ lines k. record {
      more = [];
      is = record {
        value = (old_made zone marks k.value.1, k.value.0);
        has = (m, k.has);
        is =
            ap (λ (l : List (List ℕ)). texts (zone_line keys.zone zone ∷ marks_line keys.marks marks ∷ []) ++ l) k.is
            ∙ sym (append-nil (texts (zone_line keys.zone zone ∷ marks_line keys.marks marks ∷ []) ++ lines));
      };
    };
    goes_on = λ whole back after k same.
        let lines = ap (λ (l : List (List ℕ)). l ++ back) k.is ∙ same in
        let b : Buffer = k.value in
        let below = later-of lines in
        let words = key-words keys.marks (letters_words (sure_letters letter_a b.0.marks)) (letters_words (sure_letters letter_a marks))
        (marks-are-words b.0.marks) (marks-are-words marks) (first-of below) in
        let is : b.0.marks ≡ marks = letters-same b.0.marks marks b.0.zone zone k.has.0 m words in
        record {
          here = texts (known_lines version keys (b.1, b.0.facts));
          rest = back;
          is = record {
            value = (b.1, b.0.facts);
            has = (k.has.1.0, subst (λ (l : List Bool). AreToldIn version l b.0.facts) is k.has.1.1);
            is = refl;
          };
          parted = sym (later-of below);
        };
  }

  -- what may stand after zone and marks, and after what some line matches
  pub marks-read : {old mid new : Left} (zone : Bounds) (marks : List Bool) →
      ZoneIsFormed all_marks zone × Took (texts (zone_line keys.zone zone ∷ [])) old mid →
      ZoneIsFormed marks zone × Took (texts (marks_line keys.marks marks ∷ [])) mid new →
      SoFar (IsOf (buffer_lines version keys) (BufferIsFormed version)) (IsOf from_known (FromKnown marks)) old new
  marks-read zone marks h m = record {
    front = texts (zone_line keys.zone zone ∷ marks_line keys.marks marks ∷ []);
    expects = buffer-known zone marks h.0 m.0;
    took = took-more h.1 m.1;
  }

  pub known-read : {old mid new : Left} (marks : List Bool) →
      SoFar (IsOf (buffer_lines version keys) (BufferIsFormed version)) (IsOf from_known (FromKnown marks)) old mid →
      (value : List (List ℕ)) → IsSaidIn version value × Took (texts (matched_lines version keys.has value)) mid new →
      SoFar (IsOf (buffer_lines version keys) (BufferIsFormed version)) (IsOf (told_lines version keys.lines keys.clear) (AreToldIn version marks)) old new
  known-read marks so_far value read = on _ _ _ _ so_far (cuts-matched version keys.has) value read

  -- all of it was read
  pub buffer-taken : {old a b c new : Left} (buffer : Buffer) → Took (texts (zone_line keys.zone buffer.0.zone ∷ [])) old a →
      Took (texts (marks_line keys.marks buffer.0.marks ∷ [])) a b → Took (texts (matched_lines version keys.has buffer.1)) b c →
      Took (texts (told_lines version keys.lines keys.clear buffer.0.facts)) c new → Took (texts (buffer_lines version keys buffer)) old new
  buffer-taken {old} {a} {b} {c} {new} buffer z m h t =
      subst (λ (l : List (List ℕ)). Took l old new)
      (ap (λ (l : List (List ℕ)). texts (zone_line keys.zone buffer.0.zone ∷ marks_line keys.marks buffer.0.marks ∷ []) ++ l)
      (sym (texts-append (matched_lines version keys.has buffer.1) (told_lines version keys.lines keys.clear buffer.0.facts))))
      (took-more (took-more z m) (took-more h t))

-- THE TWO LINES OF FACTS

abbrev both_made : List LineFact → List Stretch → Facts
both_made lines clear = record { lines = lines; clear = clear }

module _ (known clear : Word) (marks : List Bool) where
  abbrev pub from_lines : List LineFact × List Stretch → List Line
  from_lines = followed (alone (known_line known)) (alone (clear_line clear))

  abbrev pub FromLines : List LineFact × List Stretch → Type 0
  FromLines = AreFormed (KnownAreFormed marks) (ClearAreFormed marks)

  pieces-both : (lines : List (List ℕ)) → IsOf from_lines FromLines lines → IsOf (both_lines known clear) (FactsAreFormed marks) lines
  unfolding followed AreFormed
  pieces-both lines k = record {
    value = both_made k.value.0 k.value.1;
    has = record { known = k.has.0; clear = k.has.1 };
    is = k.is;
  }

  both-pieces : (lines : List (List ℕ)) → IsOf (both_lines known clear) (FactsAreFormed marks) lines → IsOf from_lines FromLines lines
  unfolding followed AreFormed
  both-pieces lines k = record { value = (k.value.lines, k.value.clear); has = (k.has.known, k.has.clear); is = k.is }

  pub both-begun : (old : Left) → SoFar (IsOf (both_lines known clear) (FactsAreFormed marks)) (IsOf from_lines FromLines) old old
  both-begun old = begun (IsOf (both_lines known clear) (FactsAreFormed marks)) (IsOf from_lines FromLines) old pieces-both both-pieces

  pub lines-read : {old mid : Left} (facts : List LineFact) → KnownAreFormed marks facts × Took (texts (known_line known facts ∷ [])) old mid →
      SoFar (IsOf (both_lines known clear) (FactsAreFormed marks)) (IsOf (alone (clear_line clear)) (ClearAreFormed marks)) old mid
  lines-read {old} facts read = on _ _ _ _ (both-begun old) (cuts-line (known_line known) (KnownAreFormed marks)) facts read

found-words : (f : Found) → IsLineOfWords (found_line f)
found-words f = (
  Above-from_test 32 (codes "undo") refl,
  three-words (codes "nothing") (codes "same") (codes "was") refl refl refl f.nothing f.same f.was,
)

abbrev found_of : Undo → Found
found_of u = record { nothing = u.nothing; same = u.same; was = is_some u.was }

abbrev pub undo_with : Found → Old → Undo
undo_with f old = record { nothing = f.nothing; same = f.same; was = Some old }

abbrev pub undo_without : Found → Undo
undo_without f = record { nothing = f.nothing; same = f.same; was = None }

-- the plainest of what may stand from a piece of a state on
abbrev pub plain_from_changed : Changed × Undone
plain_from_changed = (plain_change, plain_undo)

abbrev pub plain_from_names : List Choice × (Changed × Undone)
plain_from_names = (plain_set, plain_from_changed)

abbrev pub plain_from_replacements : Replacements × (List Choice × (Changed × Undone))
plain_from_replacements = (plain_replacements, plain_from_names)

abbrev pub plain_from_patterns : List Choice × (Replacements × (List Choice × (Changed × Undone)))
plain_from_patterns = (plain_set, plain_from_replacements)

module _ (version : Version) where
  pub state-determined : Determined (state_lines version) (StateHasText version)
  state-determined = record { words = state-words version; only = λ a b r s h k e. state-same version a b r s h k e }

  -- The lines of a state from a piece on: each piece is followed by those that are named above it.
  abbrev pub from_changed : Changed × Undone → List Line
  from_changed = followed (alone changed_line) (undo_lines version)

  abbrev pub from_names : List Choice × (Changed × Undone) → List Line
  from_names = followed (alone (choices_line (codes "names"))) from_changed

  abbrev pub from_replacements : Replacements × (List Choice × (Changed × Undone)) → List Line
  from_replacements = followed (alone replacements_line) from_names

  abbrev pub from_patterns : List Choice × (Replacements × (List Choice × (Changed × Undone))) → List Line
  from_patterns = followed (alone (choices_line (codes "patterns"))) from_replacements

  abbrev pub from_buffer : Buffer × (List Choice × (Replacements × (List Choice × (Changed × Undone)))) → List Line
  from_buffer = followed (buffer_lines version own_keys) from_patterns

  abbrev pub FromChanged : Changed × Undone → Type 0
  FromChanged = AreFormed IsSomeChange (UndoIsFormed version)

  abbrev pub FromNames : List Choice × (Changed × Undone) → Type 0
  FromNames = AreFormed SetIsFormed FromChanged

  abbrev pub FromReplacements : Replacements × (List Choice × (Changed × Undone)) → Type 0
  FromReplacements = AreFormed IsSomeReplacement FromNames

  abbrev pub FromPatterns : List Choice × (Replacements × (List Choice × (Changed × Undone))) → Type 0
  FromPatterns = AreFormed SetIsFormed FromReplacements

  abbrev pub FromBuffer : Buffer × (List Choice × (Replacements × (List Choice × (Changed × Undone)))) → Type 0
  FromBuffer = AreFormed (BufferIsFormed version) FromPatterns

  pub plain-from_changed : FromChanged plain_from_changed
  unfolding AreFormed
  plain-from_changed = (refl, plain-undo version)

  pub plain-from_names : FromNames plain_from_names
  unfolding AreFormed
  plain-from_names = (plain-set, plain-from_changed)

  pub plain-from_replacements : FromReplacements plain_from_replacements
  unfolding AreFormed
  plain-from_replacements = (refl, plain-from_names)

  pub plain-from_patterns : FromPatterns plain_from_patterns
  unfolding AreFormed
  plain-from_patterns = (plain-set, plain-from_replacements)

  -- all of them are the lines of a state
  pieces-state : (lines : List (List ℕ)) → IsOf from_buffer FromBuffer lines → IsOf (state_lines version) (StateHasText version) lines
  unfolding followed AreFormed
  pieces-state lines k =
      let v = k.value in
      let h = k.has in
      record {
        value = state_of version v.0 v.1.0 v.1.1.0 v.1.1.1.0 v.1.1.1.1.0 v.1.1.1.1.1;
        has =
            state-formed version v.0 v.1.0 v.1.1.0 v.1.1.1.0 v.1.1.1.1.0 v.1.1.1.1.1 h.0 h.1.0 h.1.1.0 h.1.1.1.0 h.1.1.1.1.0 h.1.1.1.1.1;
        is = k.is;
      }

  state-pieces : (lines : List (List ℕ)) → IsOf (state_lines version) (StateHasText version) lines → IsOf from_buffer FromBuffer lines
  unfolding followed AreFormed
  state-pieces lines k =
      let s = k.value in
      let h = k.has.formed in
      record {
        value = (buffer_of s, (s.patterns, (s.replacements, (s.names, (s.changed, (s.undo, s.matches.old_has))))));
        has =
            let was = earlier-formed version s.undo.was s.matches.old_has h.old k.has.matches.1 k.has.old_facts in
            (own-formed version s k.has, (h.patterns, (h.replacements, (h.names, (h.changed, (h.undo, was))))));
        is = k.is;
      }

  -- a state of which nothing was read yet
  pub state-begun : (old : Left) → SoFar (IsOf (state_lines version) (StateHasText version)) (IsOf from_buffer FromBuffer) old old
  state-begun old = begun (IsOf (state_lines version) (StateHasText version)) (IsOf from_buffer FromBuffer) old pieces-state state-pieces

  -- what may stand after each of its pieces, once that was read
  pub buffer-read : {old mid : Left} (buffer : Buffer) →
      BufferIsFormed version buffer × Took (texts (buffer_lines version own_keys buffer)) old mid →
      SoFar (IsOf (state_lines version) (StateHasText version)) (IsOf from_patterns FromPatterns) old mid
  buffer-read {old} buffer read = on _ _ _ _ (state-begun old) (cuts-buffer version own_keys) buffer read

  pub patterns-read : {old mid new : Left} → SoFar (IsOf (state_lines version) (StateHasText version))
      (IsOf from_patterns FromPatterns) old mid → (value : List Choice) →
      SetIsFormed value × Took (texts (alone (choices_line (codes "patterns")) value)) mid new →
      SoFar (IsOf (state_lines version) (StateHasText version)) (IsOf from_replacements FromReplacements) old new
  patterns-read so_far value read = on _ _ _ _ so_far (cuts-line (choices_line (codes "patterns")) SetIsFormed) value read

  pub replacements-read : {old mid new : Left} → SoFar (IsOf (state_lines version) (StateHasText version))
      (IsOf from_replacements FromReplacements) old mid → (value : Replacements) →
      IsSomeReplacement value × Took (texts (alone replacements_line value)) mid new →
      SoFar (IsOf (state_lines version) (StateHasText version)) (IsOf from_names FromNames) old new
  replacements-read so_far value read = on _ _ _ _ so_far (cuts-line replacements_line IsSomeReplacement) value read

  pub names-read : {old mid new : Left} → SoFar (IsOf (state_lines version) (StateHasText version))
      (IsOf from_names FromNames) old mid → (value : List Choice) →
      SetIsFormed value × Took (texts (alone (choices_line (codes "names")) value)) mid new →
      SoFar (IsOf (state_lines version) (StateHasText version)) (IsOf from_changed FromChanged) old new
  names-read so_far value read = on _ _ _ _ so_far (cuts-line (choices_line (codes "names")) SetIsFormed) value read

  pub changed-read : {old mid new : Left} → SoFar (IsOf (state_lines version) (StateHasText version))
      (IsOf from_changed FromChanged) old mid → (value : Changed) →
      IsSomeChange value × Took (texts (alone changed_line value)) mid new →
      SoFar (IsOf (state_lines version) (StateHasText version)) (IsOf (undo_lines version) (UndoIsFormed version)) old new
  changed-read so_far value read = on _ _ _ _ so_far (cuts-line changed_line IsSomeChange) value read

  -- all of them were read
  pub state-taken : {old mid new : Left} (buffer : Buffer) (patterns : List Choice) (r : Replacements)
      (names : List Choice) (c : Changed) (found : Undone) → Took (texts (buffer_lines version own_keys buffer)) old mid →
      Took (texts (after_matched version (state_of version buffer patterns r names c found))) mid new →
      Took (texts (state_lines version (state_of version buffer patterns r names c found))) old new
  state-taken {old} {mid} {new} buffer patterns r names c found above below =
      subst (λ (l : List (List ℕ)). Took l old new)
      (sym (texts-append (buffer_lines version own_keys buffer) (after_matched version (state_of version buffer patterns r names c found))))
      (took-more above below)

  undo-continued : (nothing same was : Bool) (lines : List (List ℕ)) → (nothing || same || was) ≡ true →
      texts (alone found_line (record { nothing = nothing; same = same; was = was })) ≡ lines →
      Continued (IsOf (undo_lines version) (UndoIsFormed version)) ([] ++ lines)
  undo-continued nothing same true lines h e = record {
    more = texts (old_lines version (Some plain_old) []);
    is = record {
      value = (record { nothing = nothing; same = same; was = Some plain_old }, []);
      has = (h, plain-buffer version);
      is = ap (λ (l : List (List ℕ)). l ++ texts (old_lines version (Some plain_old) [])) e;
    };
  }
  undo-continued nothing same false lines h e = record {
    more = [];
    is = record {
      value = (record { nothing = nothing; same = same; was = None }, []);
      has = (h, refl);
      is = e ∙ sym (append-nil lines);
    };
  }

  pub undo-found : Expects (IsOf (undo_lines version) (UndoIsFormed version)) [] (IsOf (alone found_line) IsFound)
  undo-found = record {
    continued = λ lines k. undo-continued k.value.nothing k.value.same k.value.was lines k.has k.is;
    goes_on = λ whole back after k same. record {
      here = texts (undo_line k.value.0 ∷ []);
      rest = texts (old_lines version k.value.0.was k.value.1) ++ back;
      is = record { value = found_of k.value.0; has = k.has.0; is = refl };
      parted = sym (ap (λ (l : List (List ℕ)). l ++ back) k.is ∙ same);
    };
  }

  -- an earlier buffer stands where the line says so
  was-follows : (was : Option Old) (has : List (List ℕ)) (back after : List (List ℕ)) → is_some was ≡ true →
      EarlierIsFormed version was has → texts (old_lines version was has) ++ back ≡ after →
      GoesOn (IsOf (buffer_lines version earlier_keys) (BufferIsFormed version)) after
  was-follows None has back after is h e = absurd cc
  was-follows (Some old) has back after is h e = record {
    here = texts (buffer_lines version earlier_keys (old, has));
    rest = back;
    is = record { value = (old, has); has = h; is = refl };
    parted = sym e;
  }

  undo-old : (f : Found) → IsFound f → f.was ≡ true →
      Expects (IsOf (undo_lines version) (UndoIsFormed version)) (texts (found_line f ∷ []))
      (IsOf (buffer_lines version earlier_keys) (BufferIsFormed version))
  undo-old f h was = record {
    continued = λ lines k. record {
      more = [];
      is = record {
        value = (undo_with f k.value.0, k.value.1);
        has = (ap (λ (b : Bool). f.nothing || f.same || b) (sym was) ∙ h, k.has);
        is =
            ap
            (λ (b : Bool).
            line_text (codes "undo" ∷ possible f.nothing (codes "nothing") ++ possible f.same (codes "same") ++ possible b (codes "was"))
            ∷ texts (old_lines version (Some k.value.0) k.value.1))
            (sym was)
            ∙ ap (λ (l : List (List ℕ)). texts (found_line f ∷ []) ++ l) k.is
            ∙ sym (append-nil (texts (found_line f ∷ []) ++ lines));
      };
    };
    goes_on = λ whole back after k same.
        let lines = ap (λ (l : List (List ℕ)). l ++ back) k.is ∙ same in
        let words = line-same (found_line (found_of k.value.0)) (found_line f) (found-words (found_of k.value.0)) (found-words f)
        (first-of lines) in
        let found = three-same (codes "nothing") (codes "same") (codes "was") refl refl refl k.value.0.nothing k.value.0.same
        (is_some k.value.0.was) f.nothing f.same f.was (later-of words) in
        was-follows k.value.0.was k.value.1 back after (found.third ∙ was) k.has.1 (later-of lines);
  }

  -- what may stand after that line
  pub found-read : {old mid : Left} (f : Found) → f.was ≡ true → IsFound f × Took (texts (found_line f ∷ [])) old mid →
      SoFar (IsOf (undo_lines version) (UndoIsFormed version)) (IsOf (buffer_lines version earlier_keys) (BufferIsFormed version)) old mid
  found-read f was read = record { front = texts (found_line f ∷ []); expects = undo-old f read.0 was; took = read.1 }

  -- what undo may find, and the earlier buffer, were read
  pub undo-read : {before mid new : Left} (f : Found) (buffer : Buffer) → f.was ≡ true →
      IsFound f × Took (texts (found_line f ∷ [])) before mid →
      BufferIsFormed version buffer × Took (texts (buffer_lines version earlier_keys buffer)) mid new →
      UndoIsFormed version (undo_with f buffer.0, buffer.1) × Took (texts (undo_lines version (undo_with f buffer.0, buffer.1))) before new
  undo-read {before} {mid} {new} f buffer was found read = (
    (ap (λ (b : Bool). f.nothing || f.same || b) (sym was) ∙ found.0, read.0),
    subst
        (λ (b : Bool).
        Took (line_text (codes "undo" ∷ possible f.nothing (codes "nothing") ++ possible f.same (codes "same") ++ possible b
        (codes "was")) ∷ texts (old_lines version (Some buffer.0) buffer.1)) before new)
        was (took-more found.1 read.1),
  )
