-- No two readings of bytes come together.
use Rattle.std.proofs.Common.{◌≡◌, ◌≢◌, ◌≤◌, ◌++◌, ◌∷◌, [], ℕ, List, length, None, Some, Result, Ok, Err, arith, refl, ◌∙◌, sym, ap, subst, append_assoc, append-nil, length-append}
use Rattle.std.proofs.lemmas.List.Elements.{All-nil, All-cons, All-head, All-tail, All-append}
use Rattle.ed_base.specs.Lines.{newline, IsLine, AreLines, bytes_of}
use Rattle.std.specs.Result.{result_err}
use Rattle.ed_base.proofs.LineLemmas.{bytes_of-append}
use Rattle.ed_syntax.proofs.reader.TextLemmas.{same_line}
use Rattle.cert_check.specs.declared.certificate.Certificate as public
use Rattle.cert_check.specs.declared.text.fault.Unread.{Unread}
use Rattle.cert_check.specs.Certificates.{Certificate, certificate_value}
use Rattle.cert_check.specs.text.Text.{text_of}
use Rattle.cert_check.specs.text.HasText.{HasText, IsText}
use Rattle.cert_check.specs.text.Faults.{Begins, IsWhole, IsVersionFault, IsLineFault, IsSizeFault, more, less}
use Rattle.cert_check.specs.text.Pieces.{texts, IsReadAs, rest_lines}
use Rattle.cert_check.proofs.texts.OneText.{version-same}
use Rattle.cert_check.proofs.texts.Certified.{rest-ends}
use Rattle.cert_check.proofs.texts.Told.{version_text, no-newline, no-bytes, begins-goes, text-is, text-lines}
use Rattle.cert_check.proofs.texts.Separated.{first-of, later-of}

-- lines and lines at the front of the same bytes
data Compared (a b : List (List ℕ)) (x y : List ℕ) : Type 0 where
  longer : (r : List (List ℕ)) → a ++ r ≡ b → x ≡ bytes_of r ++ y → Compared a b x y
  shorter : (r : List (List ℕ)) → a ≡ b ++ r → bytes_of r ++ x ≡ y → Compared a b x y

compared : (a b : List (List ℕ)) (x y : List ℕ) → AreLines a → AreLines b → bytes_of a ++ x ≡ bytes_of b ++ y →
    Compared a b x y
compared [] b x y h k e = longer b refl e
compared (l ∷ a) [] x y h k e = shorter (l ∷ a) refl e
compared (l ∷ a) (m ∷ b) x y h k e =
    let cut =
    same_line l m (bytes_of a ++ x) (bytes_of b ++ y) (All-head IsLine l a h) (All-head IsLine m b k)
    (sym (append_assoc l (newline ∷ bytes_of a) x) ∙ e ∙ append_assoc m (newline ∷ bytes_of b) y) in
    let first : l ≡ m = cut.0 in
    elim (compared a b x y (All-tail IsLine l a h) (All-tail IsLine m b k) cut.1) [
      | longer r is after ↦ longer r (let rest : a ++ r ≡ b = is in cc) after
      | shorter r is before ↦ shorter r (let rest : a ≡ b ++ r = is in cc) before
    ]

abbrev lines_of : Certificate → List (List ℕ)
lines_of c = version_text c.version ∷ texts (rest_lines c)

begins-less : (a later : List (List ℕ)) → Begins (a ++ later) → Begins a
begins-less a later b = record {
  certificate = b.certificate;
  more = later ++ b.more;
  is = (b.is.0, b.is.1 ∙ ap bytes_of (append_assoc a later b.more));
}

begins-same : (a b : List (List ℕ)) → a ≡ b → Begins a → Begins b
begins-same a b e h = subst (λ (l : List (List ℕ)). Begins l) e h

begins-of : (c : Certificate) (a later : List (List ℕ)) → HasText c → lines_of c ≡ a ++ later → Begins a
begins-of c a later h e = record { certificate = c; more = later; is = (h, text-is c ∙ ap bytes_of e) }

no-rest : (r : List (List ℕ)) (last y : List ℕ) → IsLine last → last ≡ bytes_of r ++ y → r ≡ []
no-rest [] last y h e = refl
no-rest (l ∷ r) last y h e =
    absurd (no-newline l (bytes_of r ++ y) (subst (λ (b : List ℕ). IsLine b) (e ∙ append_assoc l (newline ∷ bytes_of r) y) h))

second-line : (a : List (List ℕ)) (l : List ℕ) (r : List (List ℕ)) → AreLines (a ++ l ∷ r) → IsLine l
second-line [] l r h = All-head IsLine l r h
second-line (x ∷ a) l r h = second-line a l r (All-tail IsLine x (a ++ l ∷ r) h)

-- the lines above a line fault, and that line
fault-lines : (number : ℕ) (bytes : List ℕ) (f : IsLineFault number bytes) → AreLines (f.above ++ f.line ∷ [])
fault-lines number bytes f = All-append IsLine f.above (f.line ∷ []) f.are_lines (All-cons IsLine f.line [] f.is_line (All-nil IsLine))

-- no text has a fault
text-version : (bytes : List ℕ) (c : Certificate) → IsText bytes c → IsVersionFault bytes → ⊥
text-version bytes c t f = f c.version (bytes_of (texts (rest_lines c))) (sym t.1 ∙ text-is c)

text-line : (bytes : List ℕ) (c : Certificate) (number : ℕ) → IsText bytes c → IsLineFault number bytes → ⊥
text-line bytes c number t f =
    let same : bytes_of (lines_of c) ++ [] ≡ bytes_of (f.above ++ f.line ∷ []) ++ f.after = append-nil (bytes_of (lines_of c))
    ∙ sym (text-is c) ∙ t.1 ∙ f.parted in
    elim (compared (lines_of c) (f.above ++ f.line ∷ []) [] f.after (text-lines c t.0) (fault-lines number bytes f) same) [
      | longer r is after ↦
          let none = no-rest r [] f.after (All-nil (λ b. b ≢ newline)) after in
          f.refused (begins-of c (f.above ++ f.line ∷ []) [] t.0
          (sym (append-nil (lines_of c)) ∙ ap (λ (l : List (List ℕ)). lines_of c ++ l) (sym none) ∙ is
          ∙ sym (append-nil (f.above ++ f.line ∷ []))))
      | shorter r is before ↦ f.refused (begins-of c (f.above ++ f.line ∷ []) r t.0 is)
    ]

text-more : (c w : Certificate) (later : List ℕ) → HasText c → HasText w → text_of c ≡ text_of w ++ later → later ≡ []
text-more c w later h k e =
    let same : bytes_of (lines_of c) ++ [] ≡ bytes_of (lines_of w) ++ later =
    append-nil (bytes_of (lines_of c)) ∙ sym (text-is c) ∙ e ∙ ap (λ (b : List ℕ). b ++ later) (text-is w) in
    elim (compared (lines_of c) (lines_of w) [] later (text-lines c h) (text-lines w k) same) [
      | longer r is after ↦
          let none = no-rest r [] later (All-nil (λ b. b ≢ newline)) after in
          sym (after ∙ ap (λ (l : List (List ℕ)). bytes_of l ++ later) none)
      | shorter r is before ↦
          let none : r ≡ [] = rest-ends c w r (version-same c.version w.version (first-of is)) h k (later-of is) in
          sym (sym (ap (λ (l : List (List ℕ)). bytes_of l ++ []) none) ∙ before)
    ]

text-less : (c : Certificate) (lines : List (List ℕ)) (last : List ℕ) → HasText c → AreLines lines → IsLine last →
    (IsWhole lines → ⊥) → text_of c ≡ bytes_of lines ++ last → ⊥
text-less c lines last h are is_line unfinished e =
    let same : bytes_of lines ++ last ≡ bytes_of (lines_of c) ++ [] = sym e ∙ text-is c ∙ sym (append-nil (bytes_of (lines_of c))) in
    elim (compared lines (lines_of c) last [] are (text-lines c h) same) [
      | longer r is after ↦
          let none = no-rest r last [] is_line after in
          unfinished (record {
            certificate = c;
            is = (h, text-is c ∙ ap bytes_of (sym is ∙ ap (λ (l : List (List ℕ)). lines ++ l) none ∙ append-nil lines));
          })
      | shorter r is before ↦ elim r as (λ q. lines ≡ lines_of c ++ q → bytes_of q ++ last ≡ [] → ⊥) [
        | [] ↦ λ all none. unfinished
            (record { certificate = c; is = (h, text-is c ∙ ap bytes_of (sym (all ∙ append-nil (lines_of c)))) })
        | l ∷ q ↦ λ all none. no-bytes l (bytes_of q ++ last) (sym (append_assoc l (newline ∷ bytes_of q) last) ∙ none)
      ] is before
    ]

text-size-of : (bytes : List ℕ) (c : Certificate) → HasText c → text_of c ≡ bytes → IsSizeFault bytes → ⊥
text-size-of bytes c h e (more lines later w some) =
    some (text-more c w.certificate later h w.is.0 (e ∙ ap (λ (b : List ℕ). b ++ later) (sym w.is.1)))
text-size-of bytes c h e (less lines last are some begun unfinished is_line) = text-less c lines last h are is_line unfinished e

-- lines that begin a text begin with its first line
first-line-of : (lines : List (List ℕ)) (after : List ℕ) → AreLines lines → lines ≢ [] → Begins lines →
    IsVersionFault (bytes_of lines ++ after) → ⊥
first-line-of [] after are some b f = some refl
first-line-of (l ∷ lines) after are some b f =
    let goes = begins-goes (l ∷ lines) b are in
    let first : version_text b.certificate.version ≡ l = first-of goes.is in
    f b.certificate.version (bytes_of lines ++ after)
    (append_assoc l (newline ∷ bytes_of lines) after ∙ ap (λ (x : List ℕ). x ++ newline ∷ (bytes_of lines ++ after)) (sym first))

version-line : (bytes : List ℕ) (number : ℕ) → IsVersionFault bytes → IsLineFault number bytes → ⊥
version-line bytes number v f =
    first-line-of f.above (f.line ++ newline ∷ f.after) f.are_lines f.some f.begun
    (subst (λ (b : List ℕ). IsVersionFault b)
    (f.parted ∙ ap (λ (b : List ℕ). b ++ f.after) (bytes_of-append f.above (f.line ∷ []))
    ∙ append_assoc (bytes_of f.above) (f.line ++ newline ∷ []) f.after
    ∙ ap (λ (b : List ℕ). bytes_of f.above ++ b) (append_assoc f.line (newline ∷ []) f.after))
    v)

version-size : (bytes : List ℕ) → IsVersionFault bytes → IsSizeFault bytes → ⊥
version-size bytes v (more lines later w some) =
    v w.certificate.version (bytes_of (texts (rest_lines w.certificate)) ++ later)
    (ap (λ (b : List ℕ). b ++ later) (sym w.is.1 ∙ text-is w.certificate)
    ∙ append_assoc (version_text w.certificate.version) (newline ∷ bytes_of (texts (rest_lines w.certificate))) later)
version-size bytes v (less lines last are some begun unfinished is_line) = first-line-of lines last are some begun v

-- the lines above one line fault are no more than those above another
no-longer : (bytes : List ℕ) (one other : ℕ) (f : IsLineFault one bytes) (g : IsLineFault other bytes) →
    length g.above ≤ length f.above
no-longer bytes one other f g =
    let same : bytes_of (f.above ++ f.line ∷ []) ++ f.after ≡ bytes_of g.above ++ (g.line ++ newline ∷ g.after) =
    sym f.parted ∙ g.parted ∙ ap (λ (b : List ℕ). b ++ g.after) (bytes_of-append g.above (g.line ∷ []))
    ∙ append_assoc (bytes_of g.above) (g.line ++ newline ∷ []) g.after
    ∙ ap (λ (b : List ℕ). bytes_of g.above ++ b) (append_assoc g.line (newline ∷ []) g.after) in
    elim (compared (f.above ++ f.line ∷ []) g.above f.after (g.line ++ newline ∷ g.after) (fault-lines one bytes f) g.are_lines same) [
      | longer r is after ↦ absurd
          (f.refused (begins-less (f.above ++ f.line ∷ []) r (begins-same g.above ((f.above ++ f.line ∷ []) ++ r) (sym is) g.begun)))
      | shorter r is before ↦ elim r as (λ q. f.above ++ f.line ∷ [] ≡ g.above ++ q → length g.above ≤ length f.above) [
        | [] ↦ λ all. absurd (f.refused (begins-same g.above (f.above ++ f.line ∷ []) (sym (all ∙ append-nil g.above)) g.begun))
        | l ∷ q ↦ λ all.
            let sizes : length (f.above ++ f.line ∷ []) ≡ length (g.above ++ l ∷ q) = ap length all in
            omega (arith, length-append f.above (f.line ∷ []), length-append g.above (l ∷ q))
      ] is
    ]

one-line : (bytes : List ℕ) (one other : ℕ) → IsLineFault one bytes → IsLineFault other bytes → one ≡ other
one-line bytes one other f g =
    let down = no-longer bytes one other f g in
    let up = no-longer bytes other one g f in
    let first = f.number_is in
    let second = g.number_is in
    omega arith

front-empty : (a b : List (List ℕ)) → a ++ b ≡ [] → a ≡ []
front-empty [] b e = refl
front-empty (l ∷ a) b e = absurd cc

-- a line fault and a text before more bytes
line-more-after : (bytes : List ℕ) (number : ℕ) (f : IsLineFault number bytes) (w : Certificate) (later : List ℕ)
    (r : List (List ℕ)) → HasText w → f.above ++ r ≡ lines_of w → f.line ++ newline ∷ f.after ≡ bytes_of r ++ later → ⊥
line-more-after bytes number f w later [] h is after =
    f.unfinished (record { certificate = w; is = (h, text-is w ∙ ap bytes_of (sym (sym (append-nil f.above) ∙ is))) })
line-more-after bytes number f w later (l ∷ r) h is after =
    let are = text-lines w h in
    let line : IsLine l = second-line f.above l r (subst (λ (ls : List (List ℕ)). AreLines ls) (sym is) are) in
    let cut = same_line f.line l f.after (bytes_of r ++ later) f.is_line line (after ∙ append_assoc l (newline ∷ bytes_of r) later) in
    f.refused
    (begins-of w (f.above ++ f.line ∷ []) r h
    (sym is ∙ ap (λ (x : List ℕ). f.above ++ x ∷ r) (sym cut.0) ∙ sym (append_assoc f.above (f.line ∷ []) r)))

-- a line fault and a size fault
line-more : (bytes : List ℕ) (number : ℕ) (f : IsLineFault number bytes) (w : Certificate) (later : List ℕ) → HasText w →
    bytes ≡ text_of w ++ later → ⊥
line-more bytes number f w later h e =
    let same : bytes_of f.above ++ (f.line ++ newline ∷ f.after) ≡ bytes_of (lines_of w) ++ later =
    sym (ap (λ (b : List ℕ). bytes_of f.above ++ b) (append_assoc f.line (newline ∷ []) f.after))
    ∙ sym (append_assoc (bytes_of f.above) (f.line ++ newline ∷ []) f.after)
    ∙ ap (λ (b : List ℕ). b ++ f.after) (sym (bytes_of-append f.above (f.line ∷ []))) ∙ sym f.parted ∙ e
    ∙ ap (λ (b : List ℕ). b ++ later) (text-is w) in
    elim (compared f.above (lines_of w) (f.line ++ newline ∷ f.after) later f.are_lines (text-lines w h) same) [
      | longer r is after ↦ line-more-after bytes number f w later r h is after
      | shorter r is before ↦
          let goes = begins-goes f.above f.begun f.are_lines in
          let whole = goes.is ∙ ap (λ (l : List (List ℕ)). l ++ goes.later) is ∙ append_assoc (lines_of w) r goes.later in
          let none : r ++ goes.later ≡ [] =
          rest-ends f.begun.certificate w (r ++ goes.later) (version-same f.begun.certificate.version w.version (first-of whole))
          f.begun.is.0 h (later-of whole) in
          let empty : r ≡ [] = front-empty r goes.later none in
          f.unfinished (record {
            certificate = w;
            is = (
              h,
              text-is w
                  ∙ ap bytes_of (sym (is ∙ ap (λ (l : List (List ℕ)). lines_of w ++ l) empty ∙ append-nil (lines_of w))),
            );
          })
    ]

line-size : (bytes : List ℕ) (number : ℕ) → IsLineFault number bytes → IsSizeFault bytes → ⊥
line-size bytes number f (more lines later w some) =
    line-more bytes number f w.certificate later w.is.0 (ap (λ (b : List ℕ). b ++ later) (sym w.is.1))
line-size bytes number f (less lines last are some begun unfinished is_line) =
    elim (compared (f.above ++ f.line ∷ []) lines f.after last (fault-lines number bytes f) are (sym f.parted)) [
      | longer r is after ↦ f.refused
          (begins-less (f.above ++ f.line ∷ []) r (begins-same lines ((f.above ++ f.line ∷ []) ++ r) (sym is) begun))
      | shorter r is before ↦
          let none = no-rest r last f.after is_line (sym before) in
          f.refused (begins-same lines (f.above ++ f.line ∷ [])
          (sym (is ∙ ap (λ (l : List (List ℕ)). lines ++ l) none ∙ append-nil lines)) begun)
    ]

pub text-apart : (bytes : List ℕ) (c : Certificate) → IsText bytes c →
    (IsVersionFault bytes → ⊥) × ((number : ℕ) → IsLineFault number bytes → ⊥) × (IsSizeFault bytes → ⊥)
text-apart bytes c t = (λ f. text-version bytes c t f, λ n f. text-line bytes c n t f, λ f. text-size-of bytes c t.0 t.1 f)

pub version-apart : (bytes : List ℕ) → IsVersionFault bytes →
    ((number : ℕ) → IsLineFault number bytes → ⊥) × (IsSizeFault bytes → ⊥)
version-apart bytes v = (λ n f. version-line bytes n v f, λ f. version-size bytes v f)

pub line-apart : (bytes : List ℕ) (one other : ℕ) → IsLineFault one bytes → IsLineFault other bytes → one ≡ other
line-apart bytes one other f g = one-line bytes one other f g

pub size-apart : (bytes : List ℕ) (number : ℕ) → IsLineFault number bytes → IsSizeFault bytes → ⊥
size-apart bytes number f s = line-size bytes number f s

-- bytes that are read have no fault
pub no-line : (bytes : List ℕ) (r : Result public.Certificate Unread) → IsReadAs bytes r → result_err r ≡ None →
    (number : ℕ) → IsLineFault number bytes → ⊥
no-line bytes (Ok c) h e number f = (text-apart bytes (certificate_value c) h).1 number f
no-line bytes (Err unread) h e number f = absurd cc

-- the fault of bytes that aren't read
pub the-fault : (bytes : List ℕ) (r : Result public.Certificate Unread) (given unread : Unread) → IsReadAs bytes r →
    result_err r ≡ Some given → given ≡ unread → IsReadAs bytes (Err unread)
the-fault bytes (Ok c) given unread h e is = absurd cc
the-fault bytes (Err other) given unread h e is =
    let same : other ≡ unread = cc in
    subst (λ (x : Unread). IsReadAs bytes (Err x)) same h
