-- Words between spaces, and lines between newlines: what is put together is taken apart in one way.
use Rattle.std.proofs.Common.{◌≡◌, ◌<◌, ◌≤◌, ◌++◌, ◌∷◌, [], ℕ, Bool, true, ◌&&◌, List, arith, refl, ◌∙◌, sym, append-nil}
use Rattle.std.specs.Prelude.{nat_lt}
use Rattle.std.proofs.lemmas.Bool.{ltb-true, and_parts}
use Rattle.ed_base.specs.Lines.{newline}
use Rattle.cert_check.specs.text.Text.{Word, Line, space, spaced, line_text, lines_text}

-- all bytes are above a number
abbrev pub Above : ℕ → List ℕ → Type 0
Above n [] = Unit {0}
Above n (b ∷ bytes) = (n < b) × Above n bytes

abbrev pub all_above : ℕ → List ℕ → Bool
all_above n [] = true
all_above n (b ∷ bytes) = nat_lt n b && all_above n bytes

pub Above-from_test : (n : ℕ) (bytes : List ℕ) → all_above n bytes ≡ true → Above n bytes
Above-from_test n [] e = tt
Above-from_test n (b ∷ bytes) e =
    let both = and_parts (nat_lt n b) (all_above n bytes) e in
    let l : n < b = ltb-true n b both.0 in
    (l, Above-from_test n bytes both.1)

pub Above-append : (n : ℕ) (a b : List ℕ) → Above n a → Above n b → Above n (a ++ b)
Above-append n [] b h k = k
Above-append n (x ∷ a) b h k = (h.0, Above-append n a b h.1 k)

pub Above-less : (m n : ℕ) (a : List ℕ) → m ≤ n → Above n a → Above m a
Above-less m n [] l h = tt
Above-less m n (x ∷ a) l h = let above = h.0 in (omega arith, Above-less m n a l h.1)

pub first-of : {A : Type 0} {a b : A} {r s : List A} → a ∷ r ≡ b ∷ s → a ≡ b
first-of e = cc

pub later-of : {A : Type 0} {a b : A} {r s : List A} → a ∷ r ≡ b ∷ s → r ≡ s
later-of e = cc

-- what stands before the first separator, and what stands after it
pub cut-once : (n : ℕ) (sep : ℕ) (a b r s : List ℕ) → sep ≤ n → Above n a → Above n b →
    a ++ sep ∷ r ≡ b ++ sep ∷ s → (a ≡ b) × (r ≡ s)
cut-once n sep [] [] r s l h k e = (refl, later-of e)
cut-once n sep [] (y ∷ b) r s l h k e = let same : sep ≡ y = first-of e in let above = k.0 in absurd (omega arith)
cut-once n sep (x ∷ a) [] r s l h k e = let same : x ≡ sep = first-of e in let above = h.0 in absurd (omega arith)
cut-once n sep (x ∷ a) (y ∷ b) r s l h k e =
    let same : x ≡ y = first-of e in
    let later = cut-once n sep a b r s l h.1 k.1 (later-of e) in
    let rest : a ≡ b = later.0 in
    (cc, later.1)

-- a separator stands in none of the bytes above it
pub no-separator : (n : ℕ) (sep : ℕ) (a b r : List ℕ) → sep ≤ n → Above n a → a ≡ b ++ sep ∷ r → ⊥
no-separator n sep [] [] r l h e = absurd cc
no-separator n sep [] (y ∷ b) r l h e = absurd cc
no-separator n sep (x ∷ a) [] r l h e = let same : x ≡ sep = first-of e in let above = h.0 in omega arith
no-separator n sep (x ∷ a) (y ∷ b) r l h e = no-separator n sep a b r l h.1 (later-of e)

-- each is a word
abbrev pub AreWords : List Word → Type 0
AreWords [] = Unit {0}
AreWords (w ∷ words) = Above 32 w × AreWords words

pub AreWords-append : (a b : List Word) → AreWords a → AreWords b → AreWords (a ++ b)
AreWords-append [] b h k = k
AreWords-append (w ∷ a) b h k = (h.0, AreWords-append a b h.1 k)

-- a line of words has but these words
pub words-same : (w v : Word) (ws vs : List Word) → Above 32 w → Above 32 v → AreWords ws → AreWords vs →
    w ++ spaced ws ≡ v ++ spaced vs → (w ≡ v) × (ws ≡ vs)
words-same w v [] [] hw hv hws hvs e = (sym (append-nil w) ∙ e ∙ append-nil v, refl)
words-same w v [] (v2 ∷ vs) hw hv hws hvs e =
    absurd (no-separator 32 space w v (v2 ++ spaced vs) (omega arith) hw (sym (append-nil w) ∙ e))
words-same w v (w2 ∷ ws) [] hw hv hws hvs e =
    absurd (no-separator 32 space v w (w2 ++ spaced ws) (omega arith) hv (sym (append-nil v) ∙ sym e))
words-same w v (w2 ∷ ws) (v2 ∷ vs) hw hv hws hvs e =
    let cut = cut-once 32 space w v (w2 ++ spaced ws) (v2 ++ spaced vs) (omega arith) hw hv e in
    let later = words-same w2 v2 ws vs hws.0 hvs.0 hws.1 hvs.1 cut.1 in
    let first : w2 ≡ v2 = later.0 in
    let rest : ws ≡ vs = later.1 in
    (cut.0, cc)

-- a line begins with a word and has words only
abbrev pub IsLineOfWords : Line → Type 0
IsLineOfWords [] = ⊥
IsLineOfWords (w ∷ words) = Above 32 w × AreWords words

pub line-same : (a b : Line) → IsLineOfWords a → IsLineOfWords b → line_text a ≡ line_text b → a ≡ b
line-same [] b h k e = absurd h
line-same (w ∷ ws) [] h k e = absurd k
line-same (w ∷ ws) (v ∷ vs) h k e =
    let both = words-same w v ws vs h.0 k.0 h.1 k.1 e in
    let first : w ≡ v = both.0 in
    let rest : ws ≡ vs = both.1 in
    cc

Above-spaced : (ws : List Word) → AreWords ws → Above 31 (spaced ws)
Above-spaced [] h = tt
Above-spaced (w ∷ ws) h = (omega arith, Above-append 31 w (spaced ws) (Above-less 31 32 w (omega arith) h.0) (Above-spaced ws h.1))

pub Above-line : (a : Line) → IsLineOfWords a → Above 31 (line_text a)
Above-line [] h = absurd h
Above-line (w ∷ ws) h = Above-append 31 w (spaced ws) (Above-less 31 32 w (omega arith) h.0) (Above-spaced ws h.1)

-- all of these are lines of words
abbrev pub AreLinesOfWords : List Line → Type 0
AreLinesOfWords [] = Unit {0}
AreLinesOfWords (l ∷ lines) = IsLineOfWords l × AreLinesOfWords lines

pub AreLinesOfWords-append : (a b : List Line) → AreLinesOfWords a → AreLinesOfWords b → AreLinesOfWords (a ++ b)
AreLinesOfWords-append [] b h k = k
AreLinesOfWords-append (l ∷ a) b h k = (h.0, AreLinesOfWords-append a b h.1 k)

-- bytes are the text of one list of lines at most
no-lines : (l : Line) (lines : List Line) → lines_text (l ∷ lines) ≡ [] → ⊥
no-lines l lines e =
    elim (line_text l) as (λ t. t ++ newline ∷ lines_text lines ≡ [] → ⊥) [ [] ↦ λ d. absurd cc | b ∷ bs ↦ λ d. absurd cc ]
    e

pub lines-same : (a b : List Line) → AreLinesOfWords a → AreLinesOfWords b → lines_text a ≡ lines_text b → a ≡ b
lines-same [] [] h k e = refl
lines-same [] (m ∷ b) h k e = absurd (no-lines m b (sym e))
lines-same (l ∷ a) [] h k e = absurd (no-lines l a e)
lines-same (l ∷ a) (m ∷ b) h k e =
    let cut = cut-once 31 newline (line_text l) (line_text m) (lines_text a) (lines_text b) (omega arith) (Above-line l h.0)
    (Above-line m k.0) e in
    let first : l ≡ m = line-same l m h.0 k.0 cut.0 in
    let rest : a ≡ b = lines-same a b h.1 k.1 cut.1 in
    cc
