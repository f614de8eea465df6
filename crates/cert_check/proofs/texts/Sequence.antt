-- Pieces of a text one after another: what may stand where a piece is read, by what was read so far.
use Rattle.std.proofs.Common.{◌≡◌, ◌++◌, [], ℕ, List, Result, refl, ◌∙◌, sym, ap, subst, append_assoc, append-nil}
use Rattle.std.specs.Prelude.{IsErrAnd}
use Rattle.cert_check.specs.declared.text.fault.Unread.{Unread}
use Rattle.cert_check.specs.text.Text as text
use Rattle.cert_check.specs.text.Pieces.{Left, Took, texts, IsOf, IsFault, Reads, alone}
use Rattle.cert_check.proofs.texts.Pieces.{texts-append, took-more, took-none, Expects, exits}
use Rattle.cert_check.proofs.texts.Separated.{later-of}

-- a piece and those after it
unfoldable pub followed : {A B : Type 0} → (A → List text.Line) → (B → List text.Line) → A × B → List text.Line
followed here later values = here values.0 ++ later values.1

unfoldable pub AreFormed : {A B : Type 0} → (A → Type 0) → (B → Type 0) → A × B → Type 0
AreFormed Here Later values = Here values.0 × Later values.1

-- what stands before the same piece is told apart from what stands after it
abbrev pub Cuts : {A : Type 0} → (A → List text.Line) → (A → Type 0) → Type 0
Cuts {A} here Here = (a b : A) (x y : List (List ℕ)) → Here a → Here b → texts (here a) ++ x ≡ texts (here b) ++ y → x ≡ y

pub cuts-line : {A : Type 0} (spell : A → text.Line) (Has : A → Type 0) → Cuts (alone spell) Has
cuts-line spell Has a b x y h k e = later-of e

module _ {A B : Type 0} (here : A → List text.Line) (later : B → List text.Line) (Here : A → Type 0) (Later : B → Type 0) where
  lines-of : (values : A × B) → texts (followed here later values) ≡ texts (here values.0) ++ texts (later values.1)
  unfolding followed
  lines-of values = texts-append (here values.0) (later values.1)

  pub made : (a : A) (b : B) (lines : List (List ℕ)) → Here a → Later b → texts (here a) ++ texts (later b) ≡ lines →
      IsOf (followed here later) (AreFormed Here Later) lines
  unfolding AreFormed
  made a b lines h k e = record { value = (a, b); has = (h, k); is = lines-of (a, b) ∙ e }

  first-formed : (values : A × B) → AreFormed Here Later values → Here values.0
  unfolding AreFormed
  first-formed values h = h.0

  later-formed : (values : A × B) → AreFormed Here Later values → Later values.1
  unfolding AreFormed
  later-formed values h = h.1

  -- what stands where they do
  parted : (rest : List (List ℕ)) (here-lines after : List (List ℕ))
      (k : IsOf (followed here later) (AreFormed Here Later) here-lines) → after ≡ here-lines ++ rest →
      after ≡ texts (here k.value.0) ++ (texts (later k.value.1) ++ rest)
  parted rest here-lines after k e =
      e ∙ ap (λ (l : List (List ℕ)). l ++ rest) (sym k.is ∙ lines-of k.value)
      ∙ append_assoc (texts (here k.value.0)) (texts (later k.value.1)) rest

  -- first comes the first piece, where others can stand after it
  pub here-expected : {kind : List (List ℕ) → Type 0} {front : List (List ℕ)} →
      Expects kind front (IsOf (followed here later) (AreFormed Here Later)) → (b : B) → Later b → Expects kind front (IsOf here Here)
  here-expected {kind} {front} e b h = record {
    continued = λ lines k.
        let go = e.continued (lines ++ texts (later b))
        (made k.value b (lines ++ texts (later b)) k.has h (ap (λ (l : List (List ℕ)). l ++ texts (later b)) k.is)) in
        record {
          more = texts (later b) ++ go.more;
          is = subst kind (ap (λ (l : List (List ℕ)). l ++ go.more) (sym (append_assoc front lines (texts (later b))))
              ∙ append_assoc (front ++ lines) (texts (later b)) go.more) go.is;
        };
    goes_on = λ whole back after k same.
        let on = e.goes_on whole back after k same in
        record {
          here = texts (here on.is.value.0);
          rest = texts (later on.is.value.1) ++ on.rest;
          is = record { value = on.is.value.0; has = first-formed on.is.value on.is.has; is = refl };
          parted = parted on.rest on.here after on.is on.parted;
        };
  }

  -- after it come the others
  pub later-expected : {kind : List (List ℕ) → Type 0} {front : List (List ℕ)} →
      Expects kind front (IsOf (followed here later) (AreFormed Here Later)) → Cuts here Here → (a : A) → Here a →
      Expects kind (front ++ texts (here a)) (IsOf later Later)
  later-expected {kind} {front} e cuts a h = record {
    continued = λ lines k.
        let go = e.continued (texts (here a) ++ lines)
        (made a k.value (texts (here a) ++ lines) h k.has (ap (λ (l : List (List ℕ)). texts (here a) ++ l) k.is)) in
        record {
          more = go.more;
          is = subst kind (ap (λ (l : List (List ℕ)). l ++ go.more) (sym (append_assoc front (texts (here a)) lines))) go.is;
        };
    goes_on = λ whole back after k same.
        let on = e.goes_on whole back (texts (here a) ++ after) k (same ∙ append_assoc front (texts (here a)) after) in
        record {
          here = texts (later on.is.value.1);
          rest = on.rest;
          is = record { value = on.is.value.1; has = later-formed on.is.value on.is.has; is = refl };
          parted = cuts a on.is.value.0 after (texts (later on.is.value.1) ++ on.rest) h (first-formed on.is.value on.is.has)
              (parted on.rest on.here (texts (here a) ++ after) on.is on.parted);
        };
  }

-- What was read so far of a text of one kind: its lines, and what may stand after them.
pub record SoFar (kind next : List (List ℕ) → Type 0) (old mid : Left) : Type 0 where
  pub front : List (List ℕ)
  pub expects : Expects kind front next
  pub took : Took front old mid

-- nothing yet, of a text that is of another kind too
pub begun : (kind next : List (List ℕ) → Type 0) (old : Left) → ((lines : List (List ℕ)) → next lines → kind lines) →
    ((lines : List (List ℕ)) → kind lines → next lines) → SoFar kind next old old
begun kind next old into from = record {
  front = [];
  expects = record {
    continued = λ lines k. record { more = []; is = subst kind (sym (append-nil lines)) (into lines k) };
    goes_on = λ whole back after k same. record { here = whole; rest = back; is = from whole k; parted = sym same };
  };
  took = took-none old;
}

-- a piece more
pub on : {A B : Type 0} (here : A → List text.Line) (later : B → List text.Line) (Here : A → Type 0) (Later : B → Type 0)
    {kind : List (List ℕ) → Type 0} {old mid new : Left} → SoFar kind (IsOf (followed here later) (AreFormed Here Later)) old mid →
    Cuts here Here → (a : A) → Here a × Took (texts (here a)) mid new → SoFar kind (IsOf later Later) old new
on here later Here Later s cuts a read = record {
  front = s.front ++ texts (here a);
  expects = later-expected here later Here Later s.expects cuts a read.0;
  took = took-more s.took read.1;
}

-- the exit by a piece that can't be read, where others can stand after it
pub stops : {A B C D : Type 0} (here : C → List text.Line) (later : D → List text.Line) (Here : C → Type 0) (Later : D → Type 0)
    {spell : B → List text.Line} {Has : B → Type 0} {old mid : Left} (value : A → B) (new : Left) (r : Result A Unread)
    (fault : Unread) → IsErrAnd r (λ given. given ≡ fault) →
    SoFar (IsOf spell Has) (IsOf (followed here later) (AreFormed Here Later)) old mid → (b : D) → Later b →
    IsFault (IsOf here Here) mid fault → Reads value spell Has old new r
stops here later Here Later value new r fault is s b h f =
    exits value new r fault is (here-expected here later Here Later s.expects b h) s.took f

-- the exit by the last piece
pub stops-last : {A B D : Type 0} {later : D → List text.Line} {Later : D → Type 0} {spell : B → List text.Line} {Has : B → Type 0}
    {old mid : Left} (value : A → B) (new : Left) (r : Result A Unread) (fault : Unread) → IsErrAnd r (λ given. given ≡ fault) →
    SoFar (IsOf spell Has) (IsOf later Later) old mid → IsFault (IsOf later Later) mid fault → Reads value spell Has old new r
stops-last value new r fault is s f = exits value new r fault is s.expects s.took f
