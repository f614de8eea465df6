-- Pieces of a text: a piece that can't be read is a fault of the text in which it stands.
use Rattle.std.proofs.Common.{◌≡◌, ◌≢◌, ◌++◌, ◌∷◌, [], ℕ, List, Option, Result, Ok, Err, None, Some, inl, inr, arith, refl, ◌∙◌, sym, ap, subst, append_assoc, append-nil, length-append}
use Rattle.std.specs.Prelude.{IsErrAnd, MatchOption, option_map, All}
use Rattle.std.proofs.lemmas.List.Elements.{All-nil, All-cons, All-weaker}
use Rattle.ed_base.specs.Lines.{newline, IsLine, bytes_of}
use Rattle.ed_base.proofs.LineLemmas.{bytes_of-append}
use Rattle.cert_check.specs.declared.text.fault.Unread.{Unread}
use Rattle.cert_check.specs.declared.text.fault.Unread.TheVariants.{Version, Line, Size, Memory}
use Rattle.cert_check.specs.declared.text.wanted.LineKind.{LineKind}
use Rattle.cert_check.specs.declared.text.wanted.Wanted.{Wanted}
use Rattle.cert_check.specs.text.Text as text
use Rattle.cert_check.specs.text.Text.{Word, line_text}
use Rattle.cert_check.specs.text.Reading.{ReadsAs}
use Rattle.cert_check.specs.text.Pieces.{Left, IsNext, Took, texts, IsOf, MayStand, IsStrange, IsShort, IsFault, Reads, same, alone}
use Rattle.cert_check.specs.text.Wanted.{key, other_keys, keys, HasKey, HasSomeKey, IsOfKind, SomeLine}
use Rattle.cert_check.proofs.texts.Separated.{AreLinesOfWords, line-same, first-of, later-of}

pub texts-append : (a b : List text.Line) → texts (a ++ b) ≡ texts a ++ texts b
texts-append [] b = refl
texts-append (l ∷ a) b = ap (λ (t : List (List ℕ)). line_text l ∷ t) (texts-append a b)

-- lines after lines
pub took-more : {a b : List (List ℕ)} {old mid new : Left} → Took a old mid → Took b mid new → Took (a ++ b) old new
took-more {a} {b} {old} {mid} {new} s t =
    let more = t.counted in
    let before = s.counted in
    record {
      parted =
          s.parted ∙ ap (λ (bs : List ℕ). bytes_of a ++ bs) t.parted ∙ sym (append_assoc (bytes_of a) (bytes_of b) new.bytes)
          ∙ ap (λ (bs : List ℕ). bs ++ new.bytes) (sym (bytes_of-append a b));
      counted = omega (arith, length-append a b);
    }

pub took-none : (old : Left) → Took [] old old
took-none old = record { parted = refl; counted = omega arith }

-- these lines begin a text of the kind, which goes on with others
pub record Continued (kind : List (List ℕ) → Type 0) (lines : List (List ℕ)) : Type 0 where
  pub more : List (List ℕ)
  pub is : kind (lines ++ more)

-- lines begin with a text of the kind
pub record GoesOn (kind : List (List ℕ) → Type 0) (lines : List (List ℕ)) : Type 0 where
  pub here : List (List ℕ)
  pub rest : List (List ℕ)
  pub is : kind here
  pub parted : lines ≡ here ++ rest

-- after these lines a text of the one kind goes on with a text of the other
pub record Expects (kind : List (List ℕ) → Type 0) (front : List (List ℕ)) (next : List (List ℕ) → Type 0) : Type 0 where
  pub continued : (lines : List (List ℕ)) → next lines → Continued kind (front ++ lines)
  pub goes_on : (whole back after : List (List ℕ)) → kind whole → whole ++ back ≡ front ++ after → GoesOn next after

parted-after : (front above : List (List ℕ)) (old mid rest : List ℕ) → old ≡ bytes_of front ++ mid →
    mid ≡ bytes_of above ++ rest → old ≡ bytes_of (front ++ above) ++ rest
parted-after front above old mid rest p q =
    p ∙ ap (λ (bs : List ℕ). bytes_of front ++ bs) q ∙ sym (append_assoc (bytes_of front) (bytes_of above) rest)
    ∙ ap (λ (bs : List ℕ). bs ++ rest) (sym (bytes_of-append front above))

begun-after : (kind : List (List ℕ) → Type 0) (front above more after : List (List ℕ)) →
    kind (front ++ (above ++ more) ++ after) → kind (front ++ above ++ (more ++ after))
begun-after kind front above more after =
    subst kind
    (append_assoc front (above ++ more) after ∙ ap (λ (ls : List (List ℕ)). front ++ ls) (append_assoc above more after)
    ∙ sym (append_assoc front above (more ++ after)))

stands-after : (kind next : List (List ℕ) → Type 0) (front above : List (List ℕ)) (word : Word) → Expects kind front next →
    SomeLine (MayStand next above) word → SomeLine (MayStand kind (front ++ above)) word
stands-after kind next front above word e s =
    let go = e.continued (above ++ s.line ∷ s.holds.more) s.holds.is in
    record {
      line = s.line;
      key = s.key;
      holds = record { more = s.holds.more ++ go.more; is = begun-after kind front above (s.line ∷ s.holds.more) go.more go.is };
    }

strange-after : (kind next : List (List ℕ) → Type 0) (front : List (List ℕ)) (old mid : Left) (wanted : Wanted) →
    Expects kind front next → Took front old mid → IsStrange next mid wanted → IsStrange kind old wanted
strange-after kind next front old mid wanted e t f =
    let go = e.continued (f.above ++ f.more) f.begun in
    let counted = t.counted in
    let number_is = f.number_is in
    record {
      above = front ++ f.above;
      line = f.line;
      after = f.after;
      parted = parted-after front f.above _ _ (f.line ++ newline ∷ f.after) t.parted f.parted;
      is_line = f.is_line;
      number_is = omega (arith, length-append front f.above);
      more = f.more ++ go.more;
      begun = begun-after kind front f.above f.more go.more go.is;
      stuck = λ whole back after k same.
          let on = e.goes_on whole back (f.above ++ f.line ∷ after) k (same ∙ append_assoc front f.above (f.line ∷ after)) in
          f.stuck on.here on.rest after on.is (sym on.parted);
      other = λ whole back after following k same.
          let on = e.goes_on whole back (f.above ++ following ∷ after) k (same ∙ append_assoc front f.above (following ∷ after)) in
          f.other on.here on.rest after following on.is (sym on.parted);
      each = All-weaker (SomeLine (MayStand next f.above)) (SomeLine (MayStand kind (front ++ f.above)))
          (λ word s. stands-after kind next front f.above word e s) (keys wanted.kind) f.each;
    }

short-after : (kind next : List (List ℕ) → Type 0) (front : List (List ℕ)) (old mid : Left) → Expects kind front next →
    Took front old mid → IsShort next mid → IsShort kind old
short-after kind next front old mid e t f =
    let go = e.continued (f.above ++ f.more) f.begun in
    record {
      above = front ++ f.above;
      last = f.last;
      parted = parted-after front f.above _ _ f.last t.parted f.parted;
      is_line = f.is_line;
      more = f.more ++ go.more;
      begun = begun-after kind front f.above f.more go.more go.is;
      stuck = λ whole back k same.
          let on = e.goes_on whole back f.above k same in
          f.stuck on.here on.rest on.is (sym on.parted);
    }

-- a fault of a piece is a fault of the text that goes on with it
pub fault-after : (kind next : List (List ℕ) → Type 0) (front : List (List ℕ)) (old mid : Left) (fault : Unread) →
    Expects kind front next → Took front old mid → IsFault next mid fault → IsFault kind old fault
fault-after kind next front old mid Version e t f = f
fault-after kind next front old mid (Line wanted) e t f = strange-after kind next front old mid wanted e t f
fault-after kind next front old mid Size e t f = short-after kind next front old mid e t f
fault-after kind next front old mid Memory e t f = tt

-- the exit by a piece that can't be read
pub exits : {A B : Type 0} {spell : B → List text.Line} {Has : B → Type 0} {next : List (List ℕ) → Type 0} {front : List (List ℕ)}
    {old mid : Left} (value : A → B) (new : Left) (r : Result A Unread) (fault : Unread) → IsErrAnd r (λ given. given ≡ fault) →
    Expects (IsOf spell Has) front next → Took front old mid → IsFault next mid fault → Reads value spell Has old new r
exits value new (Ok x) fault same e t h = absurd same
exits {A} {B} {spell} {Has} {next} {front} {old} {mid} value new (Err given) fault same e t h =
    subst (λ (x : Unread). Reads value spell Has old new (Err x)) (sym same) (fault-after (IsOf spell Has) next front old mid fault e t h)

-- a piece of one line
line-short : {A : Type 0} (spell : A → text.Line) (Has : A → Type 0) (v : A) (old : Left) → Has v → IsLine old.bytes →
    IsShort (IsOf (alone spell) Has) old
line-short {A} spell Has v old h is = record {
  above = [];
  last = old.bytes;
  parted = refl;
  is_line = is;
  more = texts (spell v ∷ []);
  begun = record { value = v; has = h; is = refl };
  stuck = λ whole back k same.
      let e : line_text (spell k.value) ∷ back ≡ [] = ap (λ (w : List (List ℕ)). w ++ back) k.is ∙ same in
      cc;
}

-- with each word of a kind begins the line of some value
abbrev pub AreBegun : {A : Type 0} → (spell : A → text.Line) → (Has : A → Type 0) → LineKind → Type 0
AreBegun spell Has kind = All (SomeLine (MayStand (IsOf (alone spell) Has) [])) (keys kind)

pub begun-by : {A : Type 0} (spell : A → text.Line) (Has : A → Type 0) (v : A) (word : Word) → Has v →
    HasKey word (line_text (spell v)) → SomeLine (MayStand (IsOf (alone spell) Has) []) word
begun-by spell Has v word h k = record {
  line = line_text (spell v);
  key = k;
  holds = record { more = []; is = record { value = v; has = h; is = refl } };
}

only-word : (word : Word) (words : List Word) (line : List ℕ) → words ≡ [] → HasSomeKey (word ∷ words) line → HasKey word line
only-word word words line none (inl k) = k
only-word word words line none (inr k) = absurd (subst (λ (ws : List Word). HasSomeKey ws line) none k)

-- a kind with one word
pub alone-begun : {A : Type 0} (spell : A → text.Line) (Has : A → Type 0) (v : A) (kind : LineKind) → Has v →
    other_keys kind ≡ [] → ((a : A) → IsOfKind kind (line_text (spell a))) → AreBegun spell Has kind
alone-begun spell Has v kind h none keyed =
    subst (λ (words : List Word). All (SomeLine (MayStand (IsOf (alone spell) Has) [])) (key kind ∷ words)) (sym none)
    (All-cons (SomeLine (MayStand (IsOf (alone spell) Has) [])) (key kind) []
    (begun-by spell Has v (key kind) h (only-word (key kind) (other_keys kind) (line_text (spell v)) none (keyed v)))
    (All-nil (SomeLine (MayStand (IsOf (alone spell) Has) []))))

line-strange : {A : Type 0} (spell : A → text.Line) (Has : A → Type 0) (v : A) (kind : LineKind) (old mid : Left) (line : List ℕ) →
    Has v → ((a : A) → IsOfKind kind (line_text (spell a))) → AreBegun spell Has kind → IsNext line old mid →
    ReadsAs spell Has line None →
    IsStrange (IsOf (alone spell) Has) old (record { line = mid.above; kind = kind })
line-strange {A} spell Has v kind old mid line h keyed each next none =
    let counted = next.counted in
    record {
      above = [];
      line = line;
      after = mid.bytes;
      parted = next.parted;
      is_line = next.is_line;
      number_is = omega arith;
      more = texts (spell v ∷ []);
      begun = record { value = v; has = h; is = refl };
      stuck = λ whole back after k same.
          let e : line_text (spell k.value) ∷ back ≡ line ∷ after = ap (λ (w : List (List ℕ)). w ++ back) k.is ∙ same in
          none k.value k.has (first-of e);
      other = λ whole back after following k same.
          let e : line_text (spell k.value) ∷ back ≡ following ∷ after = ap (λ (w : List (List ℕ)). w ++ back) k.is ∙ same in
          subst (λ (l : List ℕ). IsOfKind kind l) (first-of e) (keyed k.value);
      each = each;
    }

line-read : {A : Type 0} (spell : A → text.Line) (Has : A → Type 0) (v : A) (old mid : Left) (line : List ℕ) →
    IsNext line old mid → ReadsAs spell Has line (Some v) → Has v × Took (texts (spell v ∷ [])) old mid
line-read {A} spell Has v old mid line next is =
    let counted = next.counted in (
      is.1,
      record {
        parted = next.parted ∙ ap (λ (l : List ℕ). l ++ newline ∷ mid.bytes) (sym is.0)
            ∙ sym (append_assoc (line_text (spell v)) (newline ∷ []) mid.bytes);
        counted = omega arith;
      },
    )

-- what the last line was read as, or that it isn't of the kind
abbrev IsReadAsKind : {A : Type 0} → LineKind → (mid : Left) → Option A → Result A Unread → Type 0
IsReadAsKind kind mid read r = MatchOption read (r ≡ Err (Line (record { line = mid.above; kind = kind }))) (λ value. r ≡ Ok value)

-- a line that was read, as a value in memory or as none
pub line-exact : {A B : Type 0} (value : A → B) (spell : B → text.Line) (Has : B → Type 0) (v : B) (kind : LineKind) (old mid : Left)
    (line : List ℕ) (read : Option A) (r : Result A Unread) → Has v → ((b : B) → IsOfKind kind (line_text (spell b))) →
    AreBegun spell Has kind → IsNext line old mid → ReadsAs spell Has line (option_map value read) → IsReadAsKind kind mid read r →
    Reads value (alone spell) Has old mid r
line-exact {A} value spell Has v kind old mid line None r h keyed each next as_read is =
    subst (λ (x : Result A Unread). Reads value (alone spell) Has old mid x) (sym is)
    (line-strange spell Has v kind old mid line h keyed each next as_read)
line-exact {A} value spell Has v kind old mid line (Some a) r h keyed each next as_read is =
    subst (λ (x : Result A Unread). Reads value (alone spell) Has old mid x) (sym is)
    (line-read spell Has (value a) old mid line next as_read)

same-read : {A : Type 0} (spell : A → text.Line) (Has : A → Type 0) (line : List ℕ) (read : Option A) →
    ReadsAs spell Has line read → ReadsAs spell Has line (option_map same read)
same-read spell Has line None h = h
same-read spell Has line (Some a) h = h

-- a value in memory that a line is read as, or none
pub as-read : {A B : Type 0} (value : A → B) (spell : B → text.Line) (Has : B → Type 0) (line : List ℕ) (read : Option A) →
    MatchOption read ((other : B) → Has other → line_text (spell other) ≢ line) (λ a. (line_text (spell (value a)) ≡ line) × Has (value a)) →
    ReadsAs spell Has line (option_map value read)
as-read value spell Has line None h = h
as-read value spell Has line (Some a) h = h

-- the same of a value that is as it is in memory
pub line-itself : {A : Type 0} (spell : A → text.Line) (Has : A → Type 0) (v : A) (kind : LineKind) (old mid : Left) (line : List ℕ)
    (read : Option A) (r : Result A Unread) → Has v → ((a : A) → IsOfKind kind (line_text (spell a))) → AreBegun spell Has kind →
    IsNext line old mid → ReadsAs spell Has line read → IsReadAsKind kind mid read r → Reads same (alone spell) Has old mid r
line-itself spell Has v kind old mid line read r h keyed each next as_read is =
    line-exact same spell Has v kind old mid line read r h keyed each next (same-read spell Has line read as_read) is

-- no line is left
pub line-none : {A B : Type 0} (value : A → B) (spell : B → text.Line) (Has : B → Type 0) (v : B) (old mid : Left)
    (r : Result A Unread) (fault : Unread) → Has v → IsErrAnd r (λ given. given ≡ fault) → (fault ≡ Size) × IsLine old.bytes →
    Reads value (alone spell) Has old mid r
line-none value spell Has v old mid (Ok x) fault h is none = absurd is
line-none {A} value spell Has v old mid (Err given) fault h is none =
    subst (λ (x : Unread). Reads value (alone spell) Has old mid (Err x)) (sym (is ∙ none.0)) (line-short spell Has v old h none.1)

-- one list of lines is the front of another
data Fronts (a b : List text.Line) (x y : List (List ℕ)) : Type 0 where
  longer : (r : List text.Line) → a ++ r ≡ b → x ≡ texts r ++ y → Fronts a b x y
  shorter : (r : List text.Line) → a ≡ b ++ r → texts r ++ x ≡ y → Fronts a b x y

fronts : (a b : List text.Line) (x y : List (List ℕ)) → AreLinesOfWords a → AreLinesOfWords b → texts a ++ x ≡ texts b ++ y →
    Fronts a b x y
fronts [] b x y h k e = longer b refl e
fronts (l ∷ a) [] x y h k e = shorter (l ∷ a) refl e
fronts (l ∷ a) (m ∷ b) x y h k e =
    let first : l ≡ m = line-same l m h.0 k.0 (first-of e) in
    elim (fronts a b x y h.1 k.1 (later-of e)) [
      | longer r is after ↦ longer r (let e : a ++ r ≡ b = is in cc) after
      | shorter r is before ↦ shorter r (let e : a ≡ b ++ r = is in cc) before
    ]

-- the lines of values are lines of words, and what begins with them says which value it is
pub record Determined {A : Type 0} (spell : A → List text.Line) (Has : A → Type 0) : Type 0 where
  pub words : (a : A) → Has a → AreLinesOfWords (spell a)
  pub only : (a b : A) (r s : List text.Line) → Has a → Has b → spell a ++ r ≡ spell b ++ s → (a ≡ b) × (r ≡ s)

pub texts-determined : {A : Type 0} (spell : A → List text.Line) (Has : A → Type 0) (a b : A) (x y : List (List ℕ)) →
    Determined spell Has → Has a → Has b → texts (spell a) ++ x ≡ texts (spell b) ++ y → (a ≡ b) × (x ≡ y)
texts-determined {A} spell Has a b x y d h k e =
    elim (fronts (spell a) (spell b) x y (d.words a h) (d.words b k) e) [
      | longer r is after ↦
          let both = d.only a b r [] h k (is ∙ sym (append-nil (spell b))) in
          (both.0, after ∙ ap (λ (q : List text.Line). texts q ++ y) both.1)
      | shorter r is before ↦
          let both = d.only a b [] r h k (append-nil (spell a) ∙ is) in
          (both.0, ap (λ (q : List text.Line). texts q ++ x) both.1 ∙ before)
    ]
