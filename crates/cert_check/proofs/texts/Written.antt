-- What is written, one piece after another.
use Rattle.std.proofs.Common.{◌≡◌, ◌++◌, ◌∷◌, [], ◌+◌, ◌<◌, ℕ, List, length, get_or, take, Option, Some, refl, ◌∙◌, sym, ap, append_assoc, append-nil}
use Rattle.std.specs.Prelude.{codes}
use Rattle.std.specs.List.{flat_map}
use Rattle.std.proofs.lemmas.Grind.{flat_map-append}
use Rattle.std.proofs.lemmas.List.{take_more}
use Rattle.ed_base.specs.Lines.{newline}
use Rattle.ed_rules.specs.declared.state.Old.{Old}
use Rattle.ed_rules.specs.declared.state.Replacements.{Replacements}
use Rattle.ed_rules.specs.declared.state.State.{State}
use Rattle.cert_check.specs.declared.certificate.Version.{Version}
use Rattle.cert_check.specs.text.Text.{Word, Line, space, spaced, line_text, lines_text, possible, zone_line, marks_line, choices_line, texts_line, matched_lines, told_lines, buffer_lines, buffer_of, own_keys, earlier_keys, BufferKeys, chains_lines, replacements_line, changed_line, undo_line, old_lines, earlier_lines, state_lines, headed_lines, looped_lines, note_lines, version_line, path_line, bounds_line, opening_lines, closing_lines, text_of}
use Rattle.cert_check.specs.Certificates.{Looped, Note, Certificate}

-- lines after lines
pub lines_text-append : (a b : List Line) → lines_text (a ++ b) ≡ lines_text a ++ lines_text b
lines_text-append [] b = refl
lines_text-append (l ∷ a) b =
    ap (λ (t : List ℕ). line_text l ++ newline ∷ t) (lines_text-append a b) ∙ sym (append_assoc (line_text l) (newline ∷ lines_text a) (lines_text b))

pub then-lines : (o p q : List ℕ) (a b : List Line) → p ≡ o ++ lines_text a → q ≡ p ++ lines_text b → q ≡ o ++ lines_text (a ++ b)
then-lines o p q a b is_p is_q =
    is_q ∙ ap (λ (t : List ℕ). t ++ lines_text b) is_p ∙ append_assoc o (lines_text a) (lines_text b)
    ∙ ap (λ (t : List ℕ). o ++ t) (sym (lines_text-append a b))

-- words after words
pub then-words : (o p q : List ℕ) (a b : List Word) → p ≡ o ++ spaced a → q ≡ p ++ spaced b → q ≡ o ++ spaced (a ++ b)
then-words o p q a b is_p is_q =
    is_q ∙ ap (λ (t : List ℕ). t ++ spaced b) is_p ∙ append_assoc o (spaced a) (spaced b)
    ∙ ap (λ (t : List ℕ). o ++ t) (sym (flat_map-append (λ (w : Word). space ∷ w) a b))

-- a line of a key and words
pub key-line : (o p q r : List ℕ) (key : Word) (words : List Word) → p ≡ o ++ key → q ≡ p ++ spaced words → r ≡ q ++ newline ∷ [] → r ≡ o ++ lines_text ((key ∷ words) ∷ [])
key-line o p q r key words is_p is_q is_r =
    is_r ∙ ap (λ (t : List ℕ). t ++ newline ∷ []) (is_q ∙ ap (λ (t : List ℕ). t ++ spaced words) is_p ∙ append_assoc o key (spaced words))
    ∙ append_assoc o (key ++ spaced words) (newline ∷ [])

pub replacements-written : (o p a b c q : List ℕ) (r : Replacements) → p ≡ o ++ codes "replacements" → a ≡ p ++ spaced (possible r.none (codes "none")) →
    b ≡ a ++ spaced (possible r.plain (codes "plain")) → c ≡ b ++ spaced (possible r.split (codes "split")) → q ≡ c ++ newline ∷ [] →
    q ≡ o ++ lines_text (replacements_line r ∷ [])
replacements-written o p a b c q r is_p is_a is_b is_c is_q =
    let none : List Word = possible r.none (codes "none") in
    let plain : List Word = possible r.plain (codes "plain") in
    let split : List Word = possible r.split (codes "split") in
    key-line o p c q (codes "replacements") (none ++ plain ++ split) is_p
    (then-words p b c (none ++ plain) split (then-words p a b none plain is_a is_b) is_c) is_q

-- what is written of a value is written of the same value
pub same-written : {A : Type 0} (f : A → List Line) (o n : List ℕ) (x y : A) → x ≡ y → n ≡ o ++ lines_text (f x) → n ≡ o ++ lines_text (f y)
same-written {A} f o n x y same is = is ∙ ap (λ (v : A). o ++ lines_text (f v)) same

-- the lines of one more
pub one-more : {X : Type 0} (f : X → List Line) (xs : List X) (i : ℕ) (x : X) (o p q : List ℕ) → i < length xs → x ≡ get_or xs i x →
    p ≡ o ++ lines_text (flat_map f (take i xs)) → q ≡ p ++ lines_text (f x) → q ≡ o ++ lines_text (flat_map f (take (i + 1) xs))
one-more {X} f xs i x o p q h is is_p is_q =
    let now : flat_map f (take i xs) ++ f x ≡ flat_map f (take (i + 1) xs) =
    sym (
    ap (λ (ys : List X). flat_map f ys) (take_more xs i x h) ∙ flat_map-append f (take i xs) (get_or xs i x ∷ [])
    ∙ ap (λ (y : X). flat_map f (take i xs) ++ (f y ++ [])) (sym is)
    ∙ ap (λ (ls : List Line). flat_map f (take i xs) ++ ls) (append-nil (f x))) in
    then-lines o p q (flat_map f (take i xs)) (f x) is_p is_q ∙ ap (λ (ls : List Line). o ++ lines_text ls) now

module _ (version : Version) where
  -- what is known of a buffer
  pub buffer-written : (o a b m n : List ℕ) (keys : BufferKeys) (buffer : Old × List (List ℕ)) →
      a ≡ o ++ lines_text (zone_line keys.zone buffer.0.zone ∷ []) → b ≡ a ++ lines_text (marks_line keys.marks buffer.0.marks ∷ []) →
      m ≡ b ++ lines_text (matched_lines version keys.has buffer.1) →
      n ≡ m ++ lines_text (told_lines version keys.lines keys.clear buffer.0.facts) → n ≡ o ++ lines_text (buffer_lines version keys buffer)
  buffer-written o a b m n keys buffer is_a is_b is_m is_n =
      let zone : Line = zone_line keys.zone buffer.0.zone in
      let marks : Line = marks_line keys.marks buffer.0.marks in
      let matched : List Line = matched_lines version keys.has buffer.1 in
      let told : List Line = told_lines version keys.lines keys.clear buffer.0.facts in
      then-lines o b n (zone ∷ marks ∷ []) (matched ++ told) (then-lines o a b (zone ∷ []) (marks ∷ []) is_a is_b)
      (then-lines b m n matched told is_m is_n)

  pub state-written : (o m c d e f g h : List ℕ) (s : State) → m ≡ o ++ lines_text (buffer_lines version own_keys (buffer_of s)) →
      c ≡ m ++ lines_text (choices_line (codes "patterns") s.patterns ∷ []) → d ≡ c ++ lines_text (replacements_line s.replacements ∷ []) →
      e ≡ d ++ lines_text (choices_line (codes "names") s.names ∷ []) → f ≡ e ++ lines_text (changed_line s.changed ∷ []) →
      g ≡ f ++ lines_text (undo_line s.undo ∷ []) → h ≡ g ++ lines_text (earlier_lines version s) → h ≡ o ++ lines_text (state_lines version s)
  state-written o m c d e f g h s is_m is_c is_d is_e is_f is_g is_h =
      let patterns : Line = choices_line (codes "patterns") s.patterns in
      let replacements : Line = replacements_line s.replacements in
      let names : Line = choices_line (codes "names") s.names in
      let changed : Line = changed_line s.changed in
      then-lines o m h (buffer_lines version own_keys (buffer_of s))
      (patterns ∷ replacements ∷ names ∷ changed ∷ undo_line s.undo ∷ earlier_lines version s) is_m (
      then-lines m g h (patterns ∷ replacements ∷ names ∷ changed ∷ undo_line s.undo ∷ []) (earlier_lines version s) (
      then-lines m f g (patterns ∷ replacements ∷ names ∷ changed ∷ []) (undo_line s.undo ∷ []) (
      then-lines m e f (patterns ∷ replacements ∷ names ∷ []) (changed ∷ []) (
      then-lines m d e (patterns ∷ replacements ∷ []) (names ∷ []) (then-lines m c d (patterns ∷ []) (replacements ∷ []) is_c is_d) is_e) is_f) is_g) is_h)

  pub old-written : (o m : List ℕ) (old : Old) (has : List (List ℕ)) (was : Option Old) → was ≡ Some old →
      m ≡ o ++ lines_text (buffer_lines version earlier_keys (old, has)) → m ≡ o ++ lines_text (old_lines version was has)
  old-written o m old has was is is_m = is_m ∙ ap (λ (w : Option Old). o ++ lines_text (old_lines version w has)) (sym is)

  pub looped-written : (o a b c : List ℕ) (l : Looped) → a ≡ o ++ lines_text (headed_lines version (codes "loop") l.invariant) →
      b ≡ a ++ lines_text (flat_map (headed_lines version (codes "inner")) l.inner) → c ≡ b ++ (codes "done" ++ newline ∷ []) → c ≡ o ++ lines_text (looped_lines version (Some l))
  looped-written o a b c l is_a is_b is_c =
      let first : List Line = headed_lines version (codes "loop") l.invariant in
      let inner : List Line = flat_map (headed_lines version (codes "inner")) l.inner in
      then-lines o b c (first ++ inner) ((codes "done" ∷ []) ∷ []) (then-lines o a b first inner is_a is_b) is_c

  pub note-written : (o a b : List ℕ) (n : Note) → a ≡ o ++ lines_text (headed_lines version (codes "note") n.state) → b ≡ a ++ lines_text (looped_lines version n.looped) →
      b ≡ o ++ lines_text (note_lines version n)
  note-written o a b n is_a is_b = then-lines o a b (headed_lines version (codes "note") n.state) (looped_lines version n.looped) is_a is_b

pub opening-written : (o a b c d e : List ℕ) (x : Certificate) → a ≡ o ++ lines_text (version_line x.version ∷ []) → b ≡ a ++ lines_text (path_line x.path ∷ []) →
    c ≡ b ++ lines_text (bounds_line (codes "start") x.min x.max ∷ []) → d ≡ c ++ lines_text (matched_lines x.version (codes "has") x.has) →
    e ≡ d ++ lines_text (chains_lines x.version x.landmarks) → e ≡ o ++ lines_text (opening_lines x)
opening-written o a b c d e x is_a is_b is_c is_d is_e =
    let matched : List Line = matched_lines x.version (codes "has") x.has in
    let chains : List Line = chains_lines x.version x.landmarks in
    then-lines o c e (version_line x.version ∷ path_line x.path ∷ bounds_line (codes "start") x.min x.max ∷ []) (matched ++ chains)
    (then-lines o b c (version_line x.version ∷ path_line x.path ∷ []) (bounds_line (codes "start") x.min x.max ∷ [])
    (then-lines o a b (version_line x.version ∷ []) (path_line x.path ∷ []) is_a is_b) is_c)
    (then-lines c d e matched chains is_d is_e)

pub closing-written : (o a b c : List ℕ) (x : Certificate) → a ≡ o ++ lines_text (headed_lines x.version (codes "end") x.last) →
    b ≡ a ++ lines_text (bounds_line (codes "final") x.low x.high ∷ []) → c ≡ b ++ lines_text (texts_line (codes "writes") x.writes ∷ []) →
    c ≡ o ++ lines_text (closing_lines x)
closing-written o a b c x is_a is_b is_c =
    then-lines o a c (headed_lines x.version (codes "end") x.last) (bounds_line (codes "final") x.low x.high ∷ texts_line (codes "writes") x.writes ∷ []) is_a
    (then-lines a b c (bounds_line (codes "final") x.low x.high ∷ []) (texts_line (codes "writes") x.writes ∷ []) is_b is_c)

pub certificate-written : (o a b c : List ℕ) (x : Certificate) → a ≡ o ++ lines_text (opening_lines x) → b ≡ a ++ lines_text (flat_map (note_lines x.version) x.notes) →
    c ≡ b ++ lines_text (closing_lines x) → c ≡ o ++ text_of x
unfolding text_of
certificate-written o a b c x is_a is_b is_c =
    let notes : List Line = flat_map (note_lines x.version) x.notes in
    then-lines o b c (opening_lines x ++ notes) (closing_lines x) (then-lines o a b (opening_lines x) notes is_a is_b) is_c
