-- Facts of lines, as they are read.
use Rattle.std.proofs.Common.{◌≡◌, ◌≢◌, ◌<◌, ◌≤◌, ◌-◌, ◌+◌, ◌==◌, ◌++◌, ◌∷◌, [], ℕ, zero, suc, Bool, true, false, not, ◌&&◌, List, map, length, take, drop, get_or, Some, arith, refl, ◌∙◌, sym, ap}
use Rattle.std.specs.Prelude.{◌||◌, codes}
use Rattle.std.specs.List.{All}
use Rattle.std.specs.Ordering.{is_lt}
use Rattle.std.specs.declared.cmp.Ordering.{Ordering}
use Rattle.std.proofs.lemmas.Bool.{ne_eqb, and_parts, and_from, false≢true}
use Rattle.std.proofs.lemmas.List.{get_or_default, take_all}
use Rattle.ed_rules.specs.Formed.{has_name}
use Rattle.ed_rules.specs.facts.Facts.{Stretch}
use Rattle.cert_check.specs.text.Text.{Word, spaced, line_text, name_word, choice_word}
use Rattle.cert_check.specs.text.Reading.{WordReadsAs}
use Rattle.cert_check.specs.text.FactsText.{edge_word, fact_word, stretch_word, begins_stretch, ends_stretch, is_rising_by, FactIsFormed, StretchIsFormed}
use Rattle.cert_check.proofs.texts.Separated.{first-of, later-of}
use Rattle.cert_check.proofs.texts.Worded.{name-byte, cond-false}
use Rattle.cert_check.proofs.texts.Zoned.{named}
use Rattle.cert_check.proofs.texts.FactWords.{line-named, fact-same, fact-above, not-first, begins-at, ends-of, one-end, stretch-bytes, stretch-same, stretch-above}
use Rattle.cert_check.proofs.texts.ReadNamed.{AreTold, one-list}
use Rattle.cert_check.proofs.texts.ReadSets.{after-its-key}

-- ONE FACT

pub facts-told : (marks : List Bool) → AreTold fact_word (FactIsFormed marks)
facts-told marks = record { same = λ f g h k e. fact-same f g (line-named marks f h) (line-named marks g k) e; above = fact-above }

-- ONE STRETCH

pub stretches-told : (marks : List Bool) → AreTold stretch_word (StretchIsFormed marks)
stretches-told marks = record { same = λ s t h k e. stretch-same marks marks s t h k e; above = stretch-above }

-- the parts of its word
record StretchParts (marks : List Bool) (s : Stretch) (name sign : ℕ) (ends : List ℕ) : Type 0 where
  pub has : has_name marks s.after ≡ true
  pub inner : (s.after == 2) ≡ false
  pub named : name_word s.after ≡ name ∷ []
  pub dash : sign ≡ 45
  pub later : edge_word s.before ++ choice_word (Some s.pattern) ≡ ends

stretch-parts : (marks : List Bool) (s : Stretch) (name sign : ℕ) (ends : List ℕ) → StretchIsFormed marks s →
    stretch_word s ≡ name ∷ sign ∷ ends →
    StretchParts marks s name sign ends
stretch-parts marks s name sign ends h e =
    let parts = and_parts (has_name marks s.after) (not (s.after == 2 || s.after == 32)) h.after in
    let bytes = sym (stretch-bytes s (begins-at marks s h)) ∙ e in
    record {
      has = parts.0;
      inner = not-first (s.after == 2) (s.after == 32) parts.1;
      named = name-byte s.after ∙ ap (λ (b : ℕ). b ∷ []) (first-of bytes);
      dash = sym (first-of (later-of bytes));
      later = later-of (later-of bytes);
    }

-- THEIR ORDER

-- one after another
rises-here : {A : Type 0} (order : A → A → Ordering) (items : List A) (next : ℕ) (d : A) → suc next < length items →
    is_rising_by order (drop next items) ≡ is_lt (order (get_or items next d) (get_or items (suc next) d)) && is_rising_by order (drop (suc next) items)
rises-here order [] next d l = absurd (omega arith)
rises-here order (a ∷ []) next d l = absurd (omega arith)
rises-here order (a ∷ b ∷ items) zero d l = refl
rises-here order (a ∷ b ∷ items) (suc next) d l = rises-here order (b ∷ items) next d (omega arith)

-- items rise from one on where it stands before the next, and those from the next on rise
pub rises-on : {A : Type 0} (order : A → A → Ordering) (items : List A) (from next : ℕ) (x y : A) → suc from ≡ next →
    next < length items →
    x ≡ get_or items from x → y ≡ get_or items next y → is_lt (order x y) ≡ true →
    is_rising_by order (drop from items) ≡ is_rising_by order (drop (next + 1 - 1) items)
rises-on {A} order items from next x y at l first second less =
    let here = rises-here order items from x (omega (arith, at, l)) in
    let other : get_or items (suc from) x ≡ y = ap (λ (k : ℕ). get_or items k x) at ∙ get_or_default items next x y l
    ∙ sym second in
    let next_is : suc from ≡ next + 1 - 1 = omega (arith, at) in
    here ∙ ap (λ (z : A). is_lt (order z (get_or items (suc from) x)) && is_rising_by order (drop (suc from) items)) (sym first)
    ∙ ap (λ (z : A). is_lt (order x z) && is_rising_by order (drop (suc from) items)) other
    ∙ ap (λ (b : Bool). b && is_rising_by order (drop (suc from) items)) less
    ∙ ap (λ (k : ℕ). is_rising_by order (drop k items)) next_is

-- one item rises
pub last-rises : {A : Type 0} (order : A → A → Ordering) (items : List A) (next : ℕ) → length items ≤ suc next →
    is_rising_by order (drop next items) ≡ true
last-rises order [] zero l = refl
last-rises order [] (suc next) l = refl
last-rises order (a ∷ []) zero l = refl
last-rises order (a ∷ []) (suc next) l = last-rises order [] next (omega arith)
last-rises order (a ∷ b ∷ items) zero l = absurd (omega arith)
last-rises order (a ∷ b ∷ items) (suc next) l = last-rises order (b ∷ items) next (omega arith)

-- a line whose items were read, in whatever order
pub rising-read : {A : Type 0} (word : A → Word) (Has : A → Type 0) → AreTold word Has →
    (order : A → A → Ordering) (key line left : List ℕ) (read all : List A) →
    line ≡ key ++ left → spaced (map word read) ≡ left → All Has read → is_rising_by order read ≡ false →
    All Has all → is_rising_by order all ≡ true → line_text (key ∷ map word all) ≡ line → ⊥
rising-read word Has told order key line left read all is spelled each falls others rises e =
    let same = one-list word Has told all read others each (after-its-key key line left (map word all) is e ∙ sym spelled) in
    false≢true (sym falls ∙ ap (λ (t : List _). is_rising_by order t) (sym same) ∙ rises)

-- A STRETCH'S WORD, PART BY PART

-- what is left after two bytes
abbrev pub after_two : List ℕ → List ℕ
after_two word = take (length word - 2) (drop 2 word)

from-two : (word : List ℕ) → 2 ≤ length word → word ≡ get_or word 0 0 ∷ get_or word 1 0 ∷ after_two word
from-two [] l = absurd (omega arith)
from-two (a ∷ []) l = absurd (omega arith)
from-two (a ∷ b ∷ word) l = ap (λ (others : List ℕ). a ∷ b ∷ others) (sym (take_all (suc (suc (length word)) - 2) word (omega arith)))

-- a stretch of which all but the pattern was read has a pattern that what is left spells
pub pattern-left : (marks : List Bool) (s : Stretch) (word left : List ℕ) (before : ℕ) → StretchIsFormed marks s →
    stretch_word s ≡ word → 2 ≤ length word →
    ends_stretch marks before ≡ true → edge_word before ++ left ≡ after_two word → choice_word (Some s.pattern) ≡ left
pattern-left marks s word left before h e l ends is =
    let parts = stretch-parts marks s (get_or word 0 0) (get_or word 1 0) (after_two word) h (e ∙ from-two word l) in
    (one-end marks marks s.before before (choice_word (Some s.pattern)) left (ends-of marks s.before h.before) (ends-of marks before ends) (parts.later ∙ sym is)).1

begins-apart : (marks : List Bool) (place : ℕ) → place < 32 → has_name marks place ≡ true → (place == 2) ≡ false →
    begins_stretch marks place ≡ true
begins-apart marks place l h e =
    and_from (has_name marks place) (not (place == 2 || place == 32)) h
    (ap (λ (b : Bool). not (b || (place == 32))) e ∙ ap not (ne_eqb place 32 (λ is. omega (arith, is))))

-- the stretch that a word spells
pub stretch-read : (marks : List Bool) (name after before : ℕ) (pattern word left : List ℕ) → 2 ≤ length word →
    get_or word 1 0 ≡ 45 → after < 32 → after ≡ name →
    name_word name ≡ get_or word 0 0 ∷ [] → has_name marks name ≡ true → name ≢ 2 → ends_stretch marks before ≡ true →
    edge_word before ++ left ≡ after_two word → after ≢ before → choice_word (Some pattern) ≡ left →
    All (λ byte. byte < 256) pattern →
    WordReadsAs stretch_word (StretchIsFormed marks) word (Some (record { after = after; before = before; pattern = pattern }))
stretch-read marks name after before pattern word left l dash small same named has inner ends is apart spelled bytes =
    let first : edge_word after ≡ get_or word 0 0 ∷ [] =
    cond-false (after == 32) (codes "$+") (name_word after) (ne_eqb after 32 (λ e. omega (arith, e))) ∙ ap name_word same ∙ named in
    let whole : get_or word 0 0 ∷ 45 ∷ (edge_word before ++ left) ≡ word =
    ap (λ (d : ℕ). get_or word 0 0 ∷ d ∷ (edge_word before ++ left)) (sym dash)
    ∙ ap (λ (t : List ℕ). get_or word 0 0 ∷ get_or word 1 0 ∷ t) is
    ∙ sym (from-two word l) in
    let has_after : has_name marks after ≡ true = ap (λ (x : ℕ). has_name marks x) same ∙ has in
    let inner_after : (after == 2) ≡ false = ne_eqb after 2 (λ e. inner (sym same ∙ e)) in (
      ap (λ (w : Word). w ++ codes "-" ++ edge_word before ++ choice_word (Some pattern)) first
          ∙ ap (λ (t : List ℕ). get_or word 0 0 ∷ 45 ∷ (edge_word before ++ t)) spelled ∙ whole,
      record { after = begins-apart marks after small has_after inner_after; before = ends; apart = ne_eqb after before apart; bytes = bytes },
    )
