-- Facts of single lines that a text can have, but that their patterns are bytes, which they are in memory: those that are told, and what
-- joins and widenings leave of such.
use Rattle.std.proofs.Common.{◌≡◌, ◌⊎◌, ◌==◌, ◌-◌, ◌&&◌, ◌||◌, ℕ, Bool, true, false, not, List, [], ◌∷◌, Option, None, Some, inl, inr, refl, sym, ap, ◌∙◌, arith}
use Rattle.std.specs.Prelude.{nat_lt, nat_le}
use Rattle.std.specs.List.{All, filter}
use Rattle.std.specs.Cmp.{IsTotalOrder}
use Rattle.std.specs.Cmp.Lexicographic.{nat_list_cmp_total}
use Rattle.std.specs.Ordering.{is_lt}
use Rattle.std.specs.declared.cmp.Ordering.{Ordering}
use Rattle.std.proofs.lemmas.Bool.{and_parts, and_from, or_cases, or_left, or_right, leb-true, ltb-true}
use Rattle.std.proofs.lemmas.Cmp.{on_total, then_total, nat_cmp_total}
use Rattle.std.proofs.lemmas.List.Elements.{All-nil, All-cons, All-head, All-tail, All-weaker, All-filter, filter_passes}
use Rattle.zones.specs.Zone.{Bounds}
use Rattle.ed_base.specs.Sorted.{rises, with_members}
use Rattle.ed_base.proofs.SortedLemmas.{All-with_members, rising-with_members, rising-filter}
use Rattle.ed_rules.specs.declared.state.Old.{Old}
use Rattle.ed_rules.specs.Marks.{is_sure, both_sure}
use Rattle.ed_rules.specs.Formed.{has_name}
use Rattle.ed_rules.specs.Following.{may_name, spoken_facts}
use Rattle.ed_rules.specs.facts.Facts.{LineFact, Stretch, Facts, end}
use Rattle.ed_rules.specs.facts.FactOrder.{says_line, says_clear, both_facts}
use Rattle.cert_check.specs.checker.InForm.{may_say, may_be_clear, in_form}
use Rattle.cert_check.specs.text.FactsText.{names_line, begins_stretch, ends_stretch, fact_order, stretch_order, is_rising_by}

-- a fact of a line that is named beside these letters
abbrev pub IsPlaced : List Bool → LineFact → Type 0
IsPlaced marks f = names_line marks f.name ≡ true

-- a stretch from one name to another
pub record IsSpanned (marks : List Bool) (s : Stretch) : Type 0 where
  pub after : begins_stretch marks s.after ≡ true
  pub before : ends_stretch marks s.before ≡ true
  pub apart : (s.after == s.before) ≡ false

pub record AreInForm (marks : List Bool) (facts : Facts) : Type 0 where
  pub each_line : All (IsPlaced marks) facts.lines
  pub lines_rise : is_rising_by fact_order facts.lines ≡ true
  pub each_clear : All (IsSpanned marks) facts.clear
  pub clear_rises : is_rising_by stretch_order facts.clear ≡ true

-- those of an earlier buffer
abbrev pub OldIsInForm : Option Old → Type 0
OldIsInForm None = Unit {0}
OldIsInForm (Some old) = AreInForm old.marks old.facts

-- ORDERS

facts-ordered : IsTotalOrder fact_order
facts-ordered = then_total (on_total (λ (f : LineFact). f.name) nat_cmp_total) (on_total (λ (f : LineFact). f.pattern) nat_list_cmp_total)

stretches-ordered : IsTotalOrder stretch_order
stretches-ordered =
    then_total (on_total (λ (s : Stretch). s.after) nat_cmp_total)
    (then_total (on_total (λ (s : Stretch). s.before) nat_cmp_total) (on_total (λ (s : Stretch). s.pattern) nat_list_cmp_total))

same-rising : {A : Type 0} (order : A → A → Ordering) (items : List A) → is_rising_by order items ≡ rises order items
same-rising order [] = refl
same-rising order (a ∷ []) = refl
same-rising order (a ∷ b ∷ items) = ap (λ t. is_lt (order a b) && t) (same-rising order (b ∷ items))

-- WHAT IS TOLD

spanned-by : (marks : List Bool) (s : Stretch) → may_be_clear marks s ≡ true → IsSpanned marks s
spanned-by marks s e =
    let both = and_parts (begins_stretch marks s.after) (ends_stretch marks s.before && not (s.after == s.before)) e in
    let rest = and_parts (ends_stretch marks s.before) (not (s.after == s.before)) both.1 in
    record { after = both.0; before = rest.0; apart = false-by (s.after == s.before) rest.1 }
  where
    false-by : (b : Bool) → not b ≡ true → b ≡ false
    false-by false e = refl
    false-by true e = absurd cc

pub told-in_form : (marks : List Bool) (facts : Facts) → AreInForm marks (in_form marks facts)
told-in_form marks facts =
    let lines : List LineFact = filter (may_say marks) facts.lines in
    let clear : List Stretch = filter (may_be_clear marks) facts.clear in
    record {
      each_line = All-with_members fact_order (IsPlaced marks) lines [] (filter_passes (may_say marks) facts.lines) (All-nil (IsPlaced marks));
      lines_rise = same-rising fact_order (with_members fact_order lines []) ∙ rising-with_members facts-ordered lines [] refl;
      each_clear = All-with_members stretch_order (IsSpanned marks) clear []
          (All-weaker (λ (s : Stretch). may_be_clear marks s ≡ true) (IsSpanned marks) (λ s e. spanned-by marks s e) clear
          (filter_passes (may_be_clear marks) facts.clear)) (All-nil (IsSpanned marks));
      clear_rises = same-rising stretch_order (with_members stretch_order clear []) ∙ rising-with_members stretches-ordered clear [] refl;
    }

-- WHAT A JOIN LEAVES

-- a letter that is named on one side, and may be on both
has-both : (one both : List Bool) (x : ℕ) → has_name one x ≡ true → may_name both x ≡ true → has_name both x ≡ true
has-both one both x h k =
    elim (or_cases (nat_lt x 3) (nat_le 6 x && is_sure one (x - 6)) h) [
      | inl low ↦ or_left (nat_lt x 3) (nat_le 6 x && is_sure both (x - 6)) low
      | inr letter ↦
          let high = and_parts (nat_le 6 x) (is_sure one (x - 6)) letter in
          or_right (nat_lt x 3) (nat_le 6 x && is_sure both (x - 6))
          (and_from (nat_le 6 x) (is_sure both (x - 6)) high.0
          (sure-both high.0 (or_cases (nat_lt x 6) (is_sure both (x - 6))
          (and_parts (nat_lt x 32) (nat_lt x 6 || is_sure both (x - 6)) k).1)))
    ]
  where
    sure-both : nat_le 6 x ≡ true → (nat_lt x 6 ≡ true) ⊎ (is_sure both (x - 6) ≡ true) → is_sure both (x - 6) ≡ true
    sure-both high (inl low) = let above = leb-true 6 x high in let below = ltb-true x 6 low in absurd (omega arith)
    sure-both high (inr sure) = sure

placed-both : (one both : List Bool) (f : LineFact) → IsPlaced one f → may_name both f.name ≡ true → IsPlaced both f
placed-both one both f h k =
    let parts = and_parts (has_name one f.name) (not (f.name == 0)) h in
    and_from (has_name both f.name) (not (f.name == 0)) (has-both one both f.name parts.0 k) parts.1

begins-both : (one both : List Bool) (x : ℕ) → begins_stretch one x ≡ true → (x == end || may_name both x) ≡ true →
    begins_stretch both x ≡ true
begins-both one both x h k =
    let parts = and_parts (has_name one x) (not (x == 2 || x == end)) h in
    elim (or_cases (x == end) (may_name both x) k) [
      | inl last ↦ absurd (no-end (x == 2) (x == end) last parts.1)
      | inr may ↦ and_from (has_name both x) (not (x == 2 || x == end)) (has-both one both x parts.0 may) parts.1
    ]
  where
    no-end : (a b : Bool) → b ≡ true → not (a || b) ≡ true → ⊥
    no-end true true e n = absurd cc
    no-end false true e n = absurd cc
    no-end a false e n = absurd cc

ends-both : (one both : List Bool) (x : ℕ) → ends_stretch one x ≡ true → (x == end || may_name both x) ≡ true →
    ends_stretch both x ≡ true
ends-both one both x h k =
    elim (or_cases (x == end) (may_name both x) k) [
      | inl last ↦ or_left (x == end) (has_name both x && not (x == 0 || x == 2)) last
      | inr may ↦ elim (or_cases (x == end) (has_name one x && not (x == 0 || x == 2)) h) [
        | inl last ↦ or_left (x == end) (has_name both x && not (x == 0 || x == 2)) last
        | inr inner ↦
            let parts = and_parts (has_name one x) (not (x == 0 || x == 2)) inner in
            or_right (x == end) (has_name both x && not (x == 0 || x == 2))
            (and_from (has_name both x) (not (x == 0 || x == 2)) (has-both one both x parts.0 may) parts.1)
      ]
    ]

spanned-both : (one both : List Bool) (s : Stretch) → IsSpanned one s →
    ((s.after == end || may_name both s.after) && (s.before == end || may_name both s.before)) ≡ true → IsSpanned both s
spanned-both one both s h k =
    let parts = and_parts (s.after == end || may_name both s.after) (s.before == end || may_name both s.before) k in
    record {
      after = begins-both one both s.after h.after parts.0;
      before = ends-both one both s.before h.before parts.1;
      apart = h.apart;
    }

-- what holds of each, and of all that pass a test something more
passing : {A : Type 0} (P Q : A → Type 0) (keep : A → Bool) → ((a : A) → P a → keep a ≡ true → Q a) → (items : List A) → All P items →
    All Q (filter keep items)
passing {A = A} P Q keep more items all =
    both-hold (filter keep items) (All-filter keep P items all) (filter_passes keep items)
  where
    both-hold : (kept : List A) → All P kept → All (λ (a : A). keep a ≡ true) kept → All Q kept
    both-hold [] h k = All-nil Q
    both-hold (a ∷ kept) h k =
        All-cons Q a kept (more a (All-head P a kept h) (All-head (λ (b : A). keep b ≡ true) a kept k))
        (both-hold kept (All-tail P a kept h) (All-tail (λ (b : A). keep b ≡ true) a kept k))

rising-part : {A : Type 0} {order : A → A → Ordering} → IsTotalOrder order → (keep : A → Bool) (items : List A) →
    is_rising_by order items ≡ true → is_rising_by order (filter keep items) ≡ true
rising-part {order = order} total keep items h =
    same-rising order (filter keep items) ∙ rising-filter total keep items (sym (same-rising order items) ∙ h)

-- of letters that are sure on both sides
pub both-in_form : (one both : List Bool) (facts : Facts) (zone : Bounds) (other : Facts) → AreInForm one facts →
    AreInForm both (spoken_facts both (both_facts facts zone other))
both-in_form one both facts zone other h =
    let may : LineFact → Bool = λ (f : LineFact). may_name both f.name in
    let spans : Stretch → Bool = λ (s : Stretch). (s.after == end || may_name both s.after) && (s.before == end || may_name both s.before) in
    record {
      each_line = passing (IsPlaced one) (IsPlaced both) may (λ f p k. placed-both one both f p k) (filter (says_line zone other) facts.lines)
          (All-filter (says_line zone other) (IsPlaced one) facts.lines h.each_line);
      lines_rise = rising-part facts-ordered may (filter (says_line zone other) facts.lines)
          (rising-part facts-ordered (says_line zone other) facts.lines h.lines_rise);
      each_clear = passing (IsSpanned one) (IsSpanned both) spans (λ s p k. spanned-both one both s p k) (filter (says_clear zone other) facts.clear)
          (All-filter (says_clear zone other) (IsSpanned one) facts.clear h.each_clear);
      clear_rises = rising-part stretches-ordered spans (filter (says_clear zone other) facts.clear)
          (rising-part stretches-ordered (says_clear zone other) facts.clear h.clear_rises);
    }
