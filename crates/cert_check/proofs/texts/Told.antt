-- Why bytes are not the text of a certificate, from what their lines begin.
use Rattle.std.proofs.Common.{◌≡◌, ◌≢◌, ◌++◌, ◌∷◌, [], ℕ, Bool, true, false, List, Result, Ok, Err, arith, refl, ◌∙◌, sym, ap, subst, append_assoc, append-nil}
use Rattle.std.specs.Prelude.{codes, IsTrue, ◌↔◌, IsErrAnd}
use Rattle.std.specs.List.{flat_map}
use Rattle.std.proofs.lemmas.List.Elements.{All-nil, All-cons, All-head, All-tail, All-append, All-weaker}
use Rattle.ed_base.specs.Lines.{newline, IsLine, AreLines, lines_of, bytes_of}
use Rattle.ed_base.proofs.LineLemmas.{bytes_of-append, lines_of-bytes_of, lines_of-written}
use Rattle.ed_syntax.proofs.reader.TextLemmas.{same_line}
use Rattle.cert_check.specs.declared.certificate.Version as versions
use Rattle.cert_check.specs.declared.certificate.Version.TheVariants.{One, Two, Three}
use Rattle.cert_check.specs.declared.certificate.Certificate as public
use Rattle.cert_check.specs.declared.text.fault.CertFault.{CertFault}
use Rattle.cert_check.specs.declared.text.fault.Unread.{Unread}
use Rattle.cert_check.specs.declared.text.fault.Unread.TheVariants.{Version, Line, Size, Memory}
use Rattle.cert_check.specs.declared.text.wanted.Wanted.{Wanted}
use Rattle.cert_check.specs.Certificates.{Certificate}
use Rattle.cert_check.specs.text.Text as text
use Rattle.cert_check.specs.text.Text.{Word, line_text, version_line, opening_lines, closing_lines, note_lines, matched_lines, chains_lines, state_lines, path_line, bounds_line, texts_line, text_of}
use Rattle.cert_check.specs.text.HasText.{HasText, IsText}
use Rattle.cert_check.specs.text.Faults.{Begins, IsWhole, IsVersionFault, IsLineFault, IsSizeFault, more, less, IsReading}
use Rattle.cert_check.specs.text.Pieces.{Left, Took, texts, IsOf, MayStand, IsStrange, IsShort, IsFault, fault_of, IsReadAs, rest_lines, HasTextIn}
use Rattle.cert_check.specs.text.Wanted.{keys, SomeLine, IsWanted}
use Rattle.cert_check.proofs.texts.Separated.{Above, Above-line, AreLinesOfWords, first-of, later-of}
use Rattle.cert_check.proofs.texts.OneText as one_text
use Rattle.cert_check.proofs.texts.OneText.{version-same, certificate-words}
use Rattle.cert_check.proofs.texts.Noted.{notes-assoc}

abbrev pub version_text : versions.Version → List ℕ
version_text version = line_text (version_line version)

-- a line has no newline
pub no-newline : (a rest : List ℕ) → IsLine (a ++ newline ∷ rest) → ⊥
no-newline [] rest h = All-head (λ b. b ≢ newline) newline rest h refl
no-newline (x ∷ a) rest h = no-newline a rest (All-tail (λ b. b ≢ newline) x (a ++ newline ∷ rest) h)

pub no-bytes : (l rest : List ℕ) → l ++ newline ∷ rest ≡ [] → ⊥
no-bytes [] rest e = absurd cc
no-bytes (x ∷ l) rest e = absurd cc

-- lines that begin other lines
pub record Goes (all front : List (List ℕ)) : Type 0 where
  pub later : List (List ℕ)
  pub is : all ≡ front ++ later

pub lines-front : (all front : List (List ℕ)) (after : List ℕ) → AreLines all → AreLines front →
    bytes_of all ≡ bytes_of front ++ after → Goes all front
lines-front all front after h k e = record {
  later = lines_of after;
  is = sym (lines_of-bytes_of all h) ∙ ap lines_of e ∙ lines_of-written front after k;
}

front-lines : (a b : List (List ℕ)) → AreLines (a ++ b) → AreLines a
front-lines [] b h = All-nil IsLine
front-lines (l ∷ a) b h = All-cons IsLine l a (All-head IsLine l (a ++ b) h) (front-lines a b (All-tail IsLine l (a ++ b) h))

last-line : (a : List (List ℕ)) (l : List ℕ) → AreLines (a ++ l ∷ []) → IsLine l
last-line [] l h = All-head IsLine l [] h
last-line (m ∷ a) l h = last-line a l (All-tail IsLine m (a ++ l ∷ []) h)

-- lines of words are lines
line-above : (a : List ℕ) → Above 31 a → IsLine a
line-above [] h = All-nil (λ b. b ≢ newline)
line-above (x ∷ a) h = let low = h.0 in All-cons (λ b. b ≢ newline) x a (λ e. omega arith) (line-above a h.1)

lines-above : (lines : List text.Line) → AreLinesOfWords lines → AreLines (texts lines)
lines-above [] h = All-nil IsLine
lines-above (l ∷ lines) h =
    All-cons IsLine (line_text l) (texts lines) (line-above (line_text l) (Above-line l h.0)) (lines-above lines h.1)

-- the first line of a certificate, and the others
whole-lines : (c : Certificate) →
    opening_lines c ++ flat_map (note_lines c.version) c.notes ++ closing_lines c ≡ version_line c.version ∷ rest_lines c
whole-lines c =
    one_text.whole-lines c
    ∙ ap (λ (l : List text.Line). version_line c.version ∷ path_line c.path ∷ bounds_line (codes "start") c.min
    c.max ∷ (matched_lines c.version (codes "has") c.has ++ (chains_lines c.version c.landmarks ++ l)))
    (sym (notes-assoc c.version c.notes
    (state_lines c.version c.last ++ bounds_line (codes "final") c.low c.high ∷ texts_line (codes "writes") c.writes ∷ [])))

pub text-is : (c : Certificate) → text_of c ≡ bytes_of (version_text c.version ∷ texts (rest_lines c))
unfolding text_of
text-is c = ap (λ (l : List text.Line). bytes_of (texts l)) (whole-lines c)

pub text-lines : (c : Certificate) → HasText c → AreLines (version_text c.version ∷ texts (rest_lines c))
text-lines c h =
    lines-above (version_line c.version ∷ rest_lines c)
    (subst (λ (l : List text.Line). AreLinesOfWords l) (whole-lines c) (certificate-words c h))

-- lines below the first that begin those of a certificate
begins-from : (version : versions.Version) (lines later : List (List ℕ)) → IsOf rest_lines (HasTextIn version) (lines ++ later) →
    Begins (version_text version ∷ lines)
begins-from version lines later k = record {
  certificate = k.value;
  more = later;
  is = (
    k.has.1,
    text-is k.value ∙ ap (λ (l : List (List ℕ)). bytes_of (version_text k.value.version ∷ l)) k.is
        ∙ ap (λ (v : versions.Version). bytes_of (version_text v ∷ (lines ++ later))) k.has.0,
  );
}

begun-lines : (version : versions.Version) (lines later : List (List ℕ)) → IsOf rest_lines (HasTextIn version) (lines ++ later) →
    AreLines (version_text version ∷ lines)
begun-lines version lines later k =
    front-lines (version_text version ∷ lines) later
    (subst (λ (v : versions.Version). AreLines (version_text v ∷ (lines ++ later))) k.has.0
    (subst (λ (l : List (List ℕ)). AreLines (version_text k.value.version ∷ l)) k.is (text-lines k.value k.has.1)))

-- lines that begin a text are the front of a certificate's
pub begins-goes : (lines : List (List ℕ)) (b : Begins lines) → AreLines lines →
    Goes (version_text b.certificate.version ∷ texts (rest_lines b.certificate)) lines
begins-goes lines b h =
    lines-front (version_text b.certificate.version ∷ texts (rest_lines b.certificate)) lines (bytes_of b.more)
    (text-lines b.certificate b.is.0) h
    (sym (text-is b.certificate) ∙ b.is.1 ∙ bytes_of-append lines b.more)

pub whole-is : (lines : List (List ℕ)) (w : IsWhole lines) → AreLines lines →
    version_text w.certificate.version ∷ texts (rest_lines w.certificate) ≡ lines
whole-is lines w h =
    sym (lines_of-bytes_of (version_text w.certificate.version ∷ texts (rest_lines w.certificate)) (text-lines w.certificate w.is.0))
    ∙ ap lines_of (sym (text-is w.certificate) ∙ w.is.1) ∙ lines_of-bytes_of lines h

-- all bytes: the first line, lines below it and what is left
parted-after : (version : versions.Version) (bytes rest after : List ℕ) (lines : List (List ℕ)) →
    bytes ≡ version_text version ++ newline ∷ rest → rest ≡ bytes_of lines ++ after →
    bytes ≡ bytes_of (version_text version ∷ lines) ++ after
parted-after version bytes rest after lines e f =
    e ∙ ap (λ (r : List ℕ). version_text version ++ newline ∷ r) f
    ∙ sym (append_assoc (version_text version) (newline ∷ bytes_of lines) after)

one-line-more : (above : List (List ℕ)) (line after : List ℕ) →
    bytes_of above ++ (line ++ newline ∷ after) ≡ bytes_of (above ++ line ∷ []) ++ after
one-line-more above line after =
    ap (λ (r : List ℕ). bytes_of above ++ r) (sym (append_assoc line (newline ∷ []) after))
    ∙ sym (append_assoc (bytes_of above) (line ++ newline ∷ []) after)
    ∙ ap (λ (r : List ℕ). r ++ after) (sym (bytes_of-append above (line ∷ [])))

strange-line : (version : versions.Version) (bytes : List ℕ) (mid : Left) (wanted : Wanted) →
    bytes ≡ version_text version ++ newline ∷ mid.bytes → mid.above ≡ 1 →
    IsStrange (IsOf rest_lines (HasTextIn version)) mid wanted → IsLineFault wanted.line bytes
strange-line version bytes mid wanted e one f =
    let are = begun-lines version f.above f.more f.begun in
    let counted = f.number_is in
    record {
      above = version_text version ∷ f.above;
      line = f.line;
      after = f.after;
      parted = parted-after version bytes mid.bytes f.after (f.above ++ f.line ∷ []) e
          (f.parted ∙ one-line-more f.above f.line f.after);
      are_lines = are;
      is_line = f.is_line;
      some = λ none. absurd cc;
      number_is = omega arith;
      begun = begins-from version f.above f.more f.begun;
      unfinished = λ w.
          let is = whole-is (version_text version ∷ f.above) w are in
          f.stuck (texts (rest_lines w.certificate)) (f.line ∷ []) []
          (record { value = w.certificate; has = (version-same w.certificate.version version (first-of is), w.is.0); is = refl })
          (ap (λ (l : List (List ℕ)). l ++ f.line ∷ []) (later-of is));
      refused = λ b.
          let goes = begins-goes (version_text version ∷ f.above ++ f.line ∷ []) b
          (All-append IsLine (version_text version ∷ f.above) (f.line ∷ []) are
          (All-cons IsLine f.line [] f.is_line (All-nil IsLine))) in
          f.stuck (texts (rest_lines b.certificate)) [] goes.later
          (record { value = b.certificate; has = (version-same b.certificate.version version (first-of goes.is), b.is.0); is = refl })
          (append-nil (texts (rest_lines b.certificate)) ∙ later-of goes.is ∙ append_assoc f.above (f.line ∷ []) goes.later);
    }

-- a line that may stand below others of the lines after the first
stands-told : (version : versions.Version) (above : List (List ℕ)) (word : Word) →
    SomeLine (MayStand (IsOf rest_lines (HasTextIn version)) above) word →
    SomeLine (λ line. IsLine line × Begins (version_text version ∷ above ++ line ∷ [])) word
stands-told version above word s =
    let k = subst (IsOf rest_lines (HasTextIn version)) (sym (append_assoc above (s.line ∷ []) s.holds.more)) s.holds.is in
    let are = begun-lines version (above ++ s.line ∷ []) s.holds.more k in
    record {
      line = s.line;
      key = s.key;
      holds = (
        last-line (version_text version ∷ above) s.line are,
        begins-from version (above ++ s.line ∷ []) s.holds.more k,
      );
    }

strange-wanted : (version : versions.Version) (bytes : List ℕ) (mid : Left) (wanted : Wanted) →
    bytes ≡ version_text version ++ newline ∷ mid.bytes → mid.above ≡ 1 →
    IsStrange (IsOf rest_lines (HasTextIn version)) mid wanted → IsWanted wanted bytes
unfolding strange-line
strange-wanted version bytes mid wanted e one f =
    let are = begun-lines version f.above f.more f.begun in
    record {
      fault = strange-line version bytes mid wanted e one f;
      kind = λ line is_line b.
          let goes = begins-goes (version_text version ∷ f.above ++ line ∷ []) b
          (All-append IsLine (version_text version ∷ f.above) (line ∷ []) are (All-cons IsLine line [] is_line (All-nil IsLine))) in
          f.other (texts (rest_lines b.certificate)) [] goes.later line
          (record { value = b.certificate; has = (version-same b.certificate.version version (first-of goes.is), b.is.0); is = refl })
          (append-nil (texts (rest_lines b.certificate)) ∙ later-of goes.is ∙ append_assoc f.above (line ∷ []) goes.later);
      each =
          All-weaker (SomeLine (MayStand (IsOf rest_lines (HasTextIn version)) f.above))
          (SomeLine (λ line. IsLine line × Begins (version_text version ∷ f.above ++ line ∷ [])))
          (λ word s. stands-told version f.above word s) (keys wanted.kind) f.each;
    }

short-lines : (version : versions.Version) (bytes : List ℕ) (mid : Left) → bytes ≡ version_text version ++ newline ∷ mid.bytes →
    IsShort (IsOf rest_lines (HasTextIn version)) mid → IsSizeFault bytes
short-lines version bytes mid e f =
    let are = begun-lines version f.above f.more f.begun in
    subst IsSizeFault (sym (parted-after version bytes mid.bytes f.last f.above e f.parted))
    (less (version_text version ∷ f.above) f.last are (λ none. absurd cc) (begins-from version f.above f.more f.begun)
    (λ w.
    let is = whole-is (version_text version ∷ f.above) w are in
    f.stuck (texts (rest_lines w.certificate)) []
    (record { value = w.certificate; has = (version-same w.certificate.version version (first-of is), w.is.0); is = refl })
    (append-nil (texts (rest_lines w.certificate)) ∙ later-of is))
    f.is_line)

-- the fault of the lines below the first is that of the bytes
pub told : (version : versions.Version) (bytes : List ℕ) (mid : Left) (fault : Unread) →
    bytes ≡ version_text version ++ newline ∷ mid.bytes → mid.above ≡ 1 →
    IsFault (IsOf rest_lines (HasTextIn version)) mid fault → IsReadAs bytes (Err fault)
told version bytes mid Version e one f = absurd f
told version bytes mid (Line wanted) e one f = strange-wanted version bytes mid wanted e one f
told version bytes mid Size e one f = short-lines version bytes mid e f
told version bytes mid Memory e one f = tt

pub told-exit : (version : versions.Version) (bytes : List ℕ) (mid : Left) (r : Result public.Certificate Unread)
    (given fault : Unread) → r ≡ Err given → given ≡ fault → bytes ≡ version_text version ++ newline ∷ mid.bytes →
    mid.above ≡ 1 → IsFault (IsOf rest_lines (HasTextIn version)) mid fault → IsReadAs bytes r
told-exit version bytes mid r given fault is same e one f =
    subst (λ (q : Result public.Certificate Unread). IsReadAs bytes q) (sym (is ∙ ap (λ (x : Unread). Err x) same))
    (told version bytes mid fault e one f)

-- the first line is that of no version
pub no-version-line : (bytes : List ℕ) → IsLine bytes → IsVersionFault bytes
no-version-line bytes h version rest e = no-newline (version_text version) rest (subst (λ (b : List ℕ). IsLine b) e h)

version-lines : (version : versions.Version) → IsLine (version_text version)
version-lines One = line-above (version_text One) (omega arith)
version-lines Two = line-above (version_text Two) (omega arith)
version-lines Three = line-above (version_text Three) (omega arith)

pub other-version : (bytes line after : List ℕ) → IsLine line → bytes ≡ line ++ newline ∷ after →
    ((version : versions.Version) → Unit {0} → version_text version ≢ line) → IsVersionFault bytes
other-version bytes line after h is other version rest e =
    let cut = same_line line (version_text version) after rest h (version-lines version) (sym is ∙ e) in
    other version tt (sym cut.0)

-- the lines of a certificate, and all else
text-read : (version : versions.Version) (bytes : List ℕ) (mid new : Left) (c : Certificate) →
    bytes ≡ version_text version ++ newline ∷ mid.bytes → Took (texts (rest_lines c)) mid new → c.version ≡ version →
    bytes ≡ text_of c ++ new.bytes
text-read version bytes mid new c e t same =
    parted-after version bytes mid.bytes new.bytes (texts (rest_lines c)) e t.parted
    ∙ ap (λ (v : versions.Version). bytes_of (version_text v ∷ texts (rest_lines c)) ++ new.bytes) (sym same)
    ∙ ap (λ (b : List ℕ). b ++ new.bytes) (sym (text-is c))

pub whole-read : (version : versions.Version) (bytes : List ℕ) (mid new : Left) (c : Certificate) →
    bytes ≡ version_text version ++ newline ∷ mid.bytes → Took (texts (rest_lines c)) mid new → HasTextIn version c →
    new.bytes ≡ [] → IsText bytes c
whole-read version bytes mid new c e t h none =
    (h.1, sym (text-read version bytes mid new c e t h.0 ∙ ap (λ (b : List ℕ). text_of c ++ b) none ∙ append-nil (text_of c)))

pub more-left : (version : versions.Version) (bytes : List ℕ) (mid new : Left) (c : Certificate) →
    bytes ≡ version_text version ++ newline ∷ mid.bytes → Took (texts (rest_lines c)) mid new → HasTextIn version c →
    new.bytes ≢ [] → IsSizeFault bytes
more-left version bytes mid new c e t h some =
    subst IsSizeFault (sym (text-read version bytes mid new c e t h.0 ∙ ap (λ (b : List ℕ). b ++ new.bytes) (text-is c)))
    (more (version_text c.version ∷ texts (rest_lines c)) new.bytes (record { certificate = c; is = (h.1, text-is c) }) some)

-- the first line was read
pub version-read : (version : versions.Version) (bytes start line rest : List ℕ) → start ≡ bytes → version_text version ≡ line →
    start ≡ line ++ newline ∷ rest → bytes ≡ version_text version ++ newline ∷ rest
version-read version bytes start line rest is same parted = sym is ∙ parted ∙ ap (λ (l : List ℕ). l ++ newline ∷ rest) (sym same)

pub at-end : (b : Bool) (bytes : List ℕ) → IsTrue b ↔ (bytes ≡ []) → b ≡ true → bytes ≡ []
at-end true bytes tells e = tells.0 refl
at-end false bytes tells e = absurd cc

pub not-at-end : (b : Bool) (bytes : List ℕ) → IsTrue b ↔ (bytes ≡ []) → b ≡ false → bytes ≢ []
not-at-end true bytes tells e none = absurd cc
not-at-end false bytes tells e none = let no : false ≡ true = tells.1 none in absurd cc

-- the fault that is told
unread-told : (bytes : List ℕ) (unread : Unread) → IsReadAs bytes (Err unread) → IsReading bytes (Err (fault_of unread))
unread-told bytes Version h = h
unread-told bytes (Line wanted) h = h.fault
unread-told bytes Size h = h
unread-told bytes Memory h = tt

pub reading-told : (bytes : List ℕ) (r : Result public.Certificate CertFault) (unread : Unread) →
    IsErrAnd r (λ given. given ≡ fault_of unread) → IsReadAs bytes (Err unread) → IsReading bytes r
reading-told bytes (Ok c) unread is h = absurd is
reading-told bytes (Err given) unread is h = subst (λ (x : CertFault). IsReading bytes (Err x)) (sym is) (unread-told bytes unread h)
