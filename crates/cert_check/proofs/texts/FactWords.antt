-- What is written of facts of lines says which facts they are.
use Rattle.std.proofs.Common.{◌≡◌, ◌==◌, ◌++◌, ◌∷◌, [], ℕ, Bool, true, false, not, ◌&&◌, List, map, Some, inl, inr, arith, refl, ◌∙◌, sym, ap, subst}
use Rattle.std.specs.Prelude.{codes, ◌||◌}
use Rattle.std.specs.List.{All}
use Rattle.std.proofs.lemmas.Bool.{false≢true, and_parts, or_cases, eqb-true, eqb-false, cases_Bool}
use Rattle.std.proofs.lemmas.List.Elements.{All-head, All-tail}
use Rattle.ed_rules.specs.Formed.{has_name}
use Rattle.ed_rules.specs.facts.Facts.{LineFact, Stretch, Facts}
use Rattle.cert_check.specs.text.Text.{Word, Line, name_word, choice_word, lines_text}
use Rattle.cert_check.specs.text.FactsText.{edge_word, ends_stretch, answer_word, fact_word, stretch_word, known_line, clear_line, facts_lines, old_facts_lines, FactIsFormed, StretchIsFormed, FactsAreFormed}
use Rattle.cert_check.proofs.texts.Separated.{Above, Above-from_test, Above-append, AreLinesOfWords, first-of, later-of, lines-same}
use Rattle.cert_check.proofs.texts.Worded.{Named, name_byte, name-byte, name-above, name-same, cond-true, cond-false}
use Rattle.cert_check.proofs.texts.Zoned.{named}
use Rattle.cert_check.proofs.texts.Chosen.{choice-above, choice-same, some-same, words-are-words}

-- ONE FACT

-- the byte of a sign
abbrev sign_byte : Bool → ℕ
sign_byte true = 43
sign_byte false = 45

sign-byte : (answer : Bool) → answer_word answer ≡ sign_byte answer ∷ []
sign-byte true = refl
sign-byte false = refl

sign-same : (a b : Bool) → sign_byte a ≡ sign_byte b → a ≡ b
sign-same true true e = refl
sign-same true false e = absurd (omega (arith, e))
sign-same false true e = absurd (omega (arith, e))
sign-same false false e = refl

fact-bytes : (f : LineFact) → fact_word f ≡ name_byte f.name ∷ sign_byte f.matches ∷ choice_word (Some f.pattern)
fact-bytes f =
    ap (λ (w : Word). w ++ answer_word f.matches ++ choice_word (Some f.pattern)) (name-byte f.name)
    ∙ ap (λ (w : Word). (name_byte f.name ∷ []) ++ w ++ choice_word (Some f.pattern)) (sign-byte f.matches)

abbrev fact_of : ℕ → List ℕ → Bool → LineFact
fact_of name pattern matches = record { name = name; pattern = pattern; matches = matches }

pub line-named : (marks : List Bool) (f : LineFact) → FactIsFormed marks f → Named f.name
line-named marks f h = named marks f.name (and_parts (has_name marks f.name) (not (f.name == 0)) h.named).0

pub fact-same : (f g : LineFact) → Named f.name → Named g.name → fact_word f ≡ fact_word g → f ≡ g
fact-same f g hf hg e =
    let bytes = sym (fact-bytes f) ∙ e ∙ fact-bytes g in
    let names = name-same f.name g.name hf hg (first-of bytes) in
    let signs = sign-same f.matches g.matches (first-of (later-of bytes)) in
    let patterns = some-same f.pattern g.pattern (choice-same (Some f.pattern) (Some g.pattern) (later-of (later-of bytes))) in
    ap (λ (n : ℕ). fact_of n f.pattern f.matches) names ∙ ap (λ (p : List ℕ). fact_of g.name p f.matches) patterns
    ∙ ap (λ (m : Bool). fact_of g.name g.pattern m) signs

answer-above : (answer : Bool) → Above 32 (answer_word answer)
answer-above true = (omega arith, tt)
answer-above false = (omega arith, tt)

pub fact-above : (f : LineFact) → Above 32 (fact_word f)
fact-above f =
    Above-append 32 (name_word f.name ++ answer_word f.matches) (choice_word (Some f.pattern))
    (Above-append 32 (name_word f.name) (answer_word f.matches) (name-above f.name) (answer-above f.matches)) (choice-above (Some f.pattern))

-- ONE STRETCH

pub not-first : (a b : Bool) → not (a || b) ≡ true → a ≡ false
not-first true b e = absurd cc
not-first false b e = refl

not-second : (a b : Bool) → not (a || b) ≡ true → b ≡ false
not-second true b e = absurd cc
not-second false true e = absurd cc
not-second false false e = refl

-- where a stretch begins
pub record BeginsAt (s : Stretch) : Type 0 where
  pub named : Named s.after
  pub word : edge_word s.after ≡ name_byte s.after ∷ []

pub begins-at : (marks : List Bool) (s : Stretch) → StretchIsFormed marks s → BeginsAt s
begins-at marks s h =
    let parts = and_parts (has_name marks s.after) (not (s.after == 2 || s.after == 32)) h.after in
    let other = not-second (s.after == 2) (s.after == 32) parts.1 in
    record {
      named = named marks s.after parts.0;
      word = cond-false (s.after == 32) (codes "$+") (name_word s.after) other ∙ name-byte s.after;
    }

-- where a stretch ends: at the end, or before a name of another line than the last
pub data Ends (marks : List Bool) (place : ℕ) : Type 0 where
  at_end : place ≡ 32 → edge_word place ≡ 36 ∷ 43 ∷ [] → Ends marks place
  inside : has_name marks place ≡ true → (place == 2) ≡ false → edge_word place ≡ name_word place → Ends marks place

pub ends-of : (marks : List Bool) (place : ℕ) → ends_stretch marks place ≡ true → Ends marks place
ends-of marks place h = elim (cases_Bool (place == 32)) [
  | inl e ↦ at_end (eqb-true place 32 e) (cond-true (place == 32) (codes "$+") (name_word place) e)
  | inr e ↦ elim (or_cases (place == 32) (has_name marks place && not (place == 0 || place == 2)) h) [
    | inl is ↦ absurd (false≢true (sym e ∙ is))
    | inr is ↦
        let parts = and_parts (has_name marks place) (not (place == 0 || place == 2)) is in
        inside parts.0 (not-second (place == 0) (place == 2) parts.1)
        (cond-false (place == 32) (codes "$+") (name_word place) e)
  ]
]

-- only the last line's byte is the end's first
not-last : (marks : List Bool) (place : ℕ) → has_name marks place ≡ true → (place == 2) ≡ false → name_byte place ≡ 36 → ⊥
not-last marks place h other e = eqb-false place 2 other (name-same place 2 (named marks place h) (inl (omega arith)) e)

-- an end is read in one way
pub one-end : (marks letters : List Bool) (x y : ℕ) (r s : List ℕ) → Ends marks x → Ends letters y →
    edge_word x ++ r ≡ edge_word y ++ s → (x ≡ y) × (r ≡ s)
one-end marks letters x y r s (at_end a is) (at_end b other) e =
    let whole = ap (λ (w : Word). w ++ r) (sym is) ∙ e ∙ ap (λ (w : Word). w ++ s) other in
    (a ∙ sym b, later-of (later-of whole))
one-end marks letters x y r s (at_end a is) (inside h l other) e =
    let whole : 36 ∷ 43 ∷ r ≡ name_byte y ∷ s = ap (λ (w : Word). w ++ r) (sym is) ∙ e
    ∙ ap (λ (w : Word). w ++ s) (other ∙ name-byte y) in
    absurd (not-last letters y h l (sym (first-of whole)))
one-end marks letters x y r s (inside h l is) (at_end b other) e =
    let whole : name_byte x ∷ r ≡ 36 ∷ 43 ∷ s = ap (λ (w : Word). w ++ r) (sym (is ∙ name-byte x)) ∙ e
    ∙ ap (λ (w : Word). w ++ s) other in
    absurd (not-last marks x h l (first-of whole))
one-end marks letters x y r s (inside h l is) (inside k m other) e =
    let whole : name_byte x ∷ r ≡ name_byte y ∷ s = ap (λ (w : Word). w ++ r) (sym (is ∙ name-byte x)) ∙ e
    ∙ ap (λ (w : Word). w ++ s) (other ∙ name-byte y) in
    (name-same x y (named marks x h) (named letters y k) (first-of whole), later-of whole)

pub stretch-bytes : (s : Stretch) → BeginsAt s →
    stretch_word s ≡ name_byte s.after ∷ 45 ∷ (edge_word s.before ++ choice_word (Some s.pattern))
stretch-bytes s h =
    ap (λ (w : Word). w ++ codes "-" ++ edge_word s.before ++ choice_word (Some s.pattern)) h.word

patterns-same : (s t : Stretch) → choice_word (Some s.pattern) ≡ choice_word (Some t.pattern) → s.pattern ≡ t.pattern
patterns-same s t e = some-same s.pattern t.pattern (choice-same (Some s.pattern) (Some t.pattern) e)

abbrev stretch_of : ℕ → ℕ → List ℕ → Stretch
stretch_of after before pattern = record { after = after; before = before; pattern = pattern }

pub stretch-same : (marks letters : List Bool) (s t : Stretch) → StretchIsFormed marks s → StretchIsFormed letters t →
    stretch_word s ≡ stretch_word t → s ≡ t
stretch-same marks letters s t h k e =
    let from = begins-at marks s h in
    let other = begins-at letters t k in
    let bytes = sym (stretch-bytes s from) ∙ e ∙ stretch-bytes t other in
    let after = name-same s.after t.after from.named other.named (first-of bytes) in
    let ends = one-end marks letters s.before t.before (choice_word (Some s.pattern)) (choice_word (Some t.pattern)) (ends-of marks s.before h.before)
    (ends-of letters t.before k.before) (later-of (later-of bytes)) in
    ap (λ (a : ℕ). stretch_of a s.before s.pattern) after ∙ ap (λ (b : ℕ). stretch_of t.after b s.pattern) ends.0
    ∙ ap (λ (p : List ℕ). stretch_of t.after t.before p) (patterns-same s t ends.1)

edge-above : (place : ℕ) → Above 32 (edge_word place)
edge-above place = elim (cases_Bool (place == 32)) [
  | inl e ↦ subst (λ (w : Word). Above 32 w) (sym (cond-true (place == 32) (codes "$+") (name_word place) e)) (omega arith, (omega arith, tt))
  | inr e ↦ subst (λ (w : Word). Above 32 w) (sym (cond-false (place == 32) (codes "$+") (name_word place) e)) (name-above place)
]

pub stretch-above : (s : Stretch) → Above 32 (stretch_word s)
stretch-above s =
    Above-append 32 (edge_word s.after ++ codes "-" ++ edge_word s.before) (choice_word (Some s.pattern))
    (Above-append 32 (edge_word s.after ++ codes "-") (edge_word s.before)
    (Above-append 32 (edge_word s.after) (codes "-") (edge-above s.after) (omega arith, tt)) (edge-above s.before))
    (choice-above (Some s.pattern))

-- ALL OF THEM

-- words that are the same are those of the same items
pub mapped-same : {A : Type 0} (word : A → Word) (Has Is : A → Type 0) →
    ((x y : A) → Has x → Is y → word x ≡ word y → x ≡ y) →
    (a b : List A) → All Has a → All Is b → map word a ≡ map word b → a ≡ b
mapped-same word Has Is same [] [] h k e = refl
mapped-same word Has Is same [] (y ∷ b) h k e = absurd cc
mapped-same word Has Is same (x ∷ a) [] h k e = absurd cc
mapped-same word Has Is same (x ∷ a) (y ∷ b) h k e =
    let first : x ≡ y = same x y (All-head Has x a h) (All-head Is y b k) (first-of e) in
    let later : a ≡ b = mapped-same word Has Is same a b (All-tail Has x a h) (All-tail Is y b k) (later-of e) in
    cc

pub facts-words : (known clear : Word) → Above 32 known → Above 32 clear → (facts : Facts) →
    AreLinesOfWords (known_line known facts.lines ∷ clear_line clear facts.clear ∷ [])
facts-words known clear h k facts =
    ((h, words-are-words fact_word fact-above facts.lines), ((k, words-are-words stretch_word stretch-above facts.clear), tt))

abbrev facts_of : List LineFact → List Stretch → Facts
facts_of lines clear = record { lines = lines; clear = clear }

pub lines-facts : (marks letters : List Bool) (known clear : Word) (one other : Facts) (r s : List Line) →
    FactsAreFormed marks one → FactsAreFormed letters other →
    known_line known one.lines ∷ clear_line clear one.clear ∷ r ≡ known_line known other.lines ∷ clear_line clear other.clear ∷ s →
    (one ≡ other) × (r ≡ s)
lines-facts marks letters known clear one other r s h k e =
    let known_same = mapped-same fact_word (FactIsFormed marks) (FactIsFormed letters)
    (λ f g p q. fact-same f g (line-named marks f p) (line-named letters g q)) one.lines other.lines h.known.each k.known.each (later-of (first-of e)) in
    let clear_same = mapped-same stretch_word (StretchIsFormed marks) (StretchIsFormed letters) (λ s t p q. stretch-same marks letters s t p q)
    one.clear other.clear h.clear.each k.clear.each (later-of (first-of (later-of e))) in (
      ap (λ (l : List LineFact). facts_of l one.clear) known_same ∙ ap (λ (c : List Stretch). facts_of other.lines c) clear_same,
      later-of (later-of e),
    )

same-facts : (marks letters : List Bool) (known clear : Word) → Above 32 known → Above 32 clear → (one other : Facts) →
    FactsAreFormed marks one →
    FactsAreFormed letters other →
    lines_text (known_line known one.lines ∷ clear_line clear one.clear ∷ []) ≡ lines_text (known_line known other.lines ∷ clear_line clear other.clear ∷ []) →
    one ≡ other
same-facts marks letters known clear a b one other h k e =
    (lines-facts marks letters known clear one other [] [] h k
    (lines-same (known_line known one.lines ∷ clear_line clear one.clear ∷ []) (known_line known other.lines ∷ clear_line clear other.clear ∷ [])
    (facts-words known clear a b one) (facts-words known clear a b other) e)).0

pub one-facts : (marks letters : List Bool) (one other : Facts) → FactsAreFormed marks one → FactsAreFormed letters other →
    lines_text (facts_lines one) ≡ lines_text (facts_lines other) → one ≡ other
one-facts marks letters one other h k e =
    same-facts marks letters (codes "lines") (codes "clear") (Above-from_test 32 (codes "lines") refl) (Above-from_test 32 (codes "clear") refl) one other h k e

pub one-old-facts : (marks letters : List Bool) (one other : Facts) → FactsAreFormed marks one → FactsAreFormed letters other →
    lines_text (old_facts_lines one) ≡ lines_text (old_facts_lines other) → one ≡ other
one-old-facts marks letters one other h k e =
    same-facts marks letters (codes "old-lines") (codes "old-clear") (Above-from_test 32 (codes "old-lines") refl)
    (Above-from_test 32 (codes "old-clear") refl) one other h k e
