-- Facts in form: they can be written, they are among those that were given, and they hold where those do.
use Rattle.std.proofs.Common.{◌≡◌, Bool, true, false, cond, not, ◌&&◌, ◌==◌, List, [], ◌∷◌, Option, Some, None, All, Contains, refl, sym, ap, ◌∙◌}
use Rattle.std.specs.List.{filter, list_all}
use Rattle.std.specs.declared.cmp.Ordering.{Ordering}
use Rattle.std.proofs.lemmas.Bool.{and_from, and_parts, not-true}
use Rattle.std.proofs.lemmas.List.Elements.{All-nil, All-head, All-tail, All-cons, All-weaker}
use Rattle.zones.specs.Zone.{Numbers}
use Rattle.ed_base.specs.Buffer.{Line}
use Rattle.ed_base.specs.Sorted.{with_members}
use Rattle.ed_base.proofs.SortedLemmas.{All-with_members, rising-filter}
use Rattle.ed_syntax.specs.meaning.States as editor
use Rattle.ed_syntax.specs.meaning.States.{Past, Nothing, Same, Was, Kept}
use Rattle.ed_rules.specs.declared.state.Old.{Old}
use Rattle.ed_rules.specs.declared.state.Undo.{Undo}
use Rattle.ed_rules.specs.declared.state.State.{State}
use Rattle.ed_rules.specs.StandsFor.{AllowsKept, AllowsPast, StandsBy, StandsFor}
use Rattle.ed_rules.specs.facts.Facts.{LineFact, Stretch, Facts, LineFactHolds, StretchHolds, FactsHold}
use Rattle.cert_check.specs.checker.InForm.{may_say, may_be_clear, known_in_form, clear_in_form, in_form, old_in_form, state_in_form, HaveBytes}
use Rattle.cert_check.specs.text.FactsText.{AreBytes, begins_stretch, ends_stretch, fact_order, stretch_order, FactIsFormed, StretchIsFormed, FactsAreFormed}
use Rattle.cert_check.proofs.verdicts.Forming.{rises-same, fact_order-total, stretch_order-total, already-so, do-rise, once-is-enough, All-in_form, are-given}

-- THEY CAN BE WRITTEN

-- what a test leaves passes it
passing : {A : Type 0} (may : A → Bool) (P : A → Type 0) (items : List A) → All P items →
    All (λ a. (may a ≡ true) × P a) (filter may items)
passing may P [] h = All-nil (λ a. (may a ≡ true) × P a)
passing may P (a ∷ items) h =
    (elim (may a) as (λ b. may a ≡ b → All (λ a. (may a ≡ true) × P a) (cond b (a ∷ filter may items) (filter may items))) [
      | true ↦ λ e. All-cons (λ a. (may a ≡ true) × P a) a (filter may items) (e, All-head P a items h)
          (passing may P items (All-tail P a items h))
      | false ↦ λ e. passing may P items (All-tail P a items h)
    ]) refl

formed-fact : (marks : List Bool) (f : LineFact) → (may_say marks f ≡ true) × AreBytes f.pattern → FactIsFormed marks f
formed-fact marks f h = record { named = h.0; bytes = h.1 }

formed-stretch : (marks : List Bool) (s : Stretch) → (may_be_clear marks s ≡ true) × AreBytes s.pattern → StretchIsFormed marks s
formed-stretch marks s h =
    let parts = and_parts (begins_stretch marks s.after) (ends_stretch marks s.before && not (s.after == s.before)) h.0 in
    let ends = and_parts (ends_stretch marks s.before) (not (s.after == s.before)) parts.1 in
    record { after = parts.0; before = ends.0; apart = not-true (s.after == s.before) ends.1; bytes = h.1 }

each-formed : {A : Type 0} (order : A → A → Ordering) (may : A → Bool) (P Q : A → Type 0) (items : List A) →
    ((a : A) → (may a ≡ true) × P a → Q a) → All P items → All Q (with_members order (filter may items) [])
each-formed order may P Q items so h =
    All-with_members order Q (filter may items) []
    (All-weaker (λ a. (may a ≡ true) × P a) Q so (filter may items) (passing may P items h)) (All-nil Q)

pub in-form-formed : (marks : List Bool) (facts : Facts) → HaveBytes facts → FactsAreFormed marks (in_form marks facts)
in-form-formed marks facts h = record {
  known = record {
    each = each-formed fact_order (may_say marks) (λ (f : LineFact). AreBytes f.pattern) (FactIsFormed marks) facts.lines
        (formed-fact marks) h.lines;
    rising = rises-same fact_order (known_in_form marks facts.lines) ∙ do-rise fact_order-total (may_say marks) facts.lines;
  };
  clear = record {
    each = each-formed stretch_order (may_be_clear marks) (λ (s : Stretch). AreBytes s.pattern) (StretchIsFormed marks) facts.clear
        (formed-stretch marks) h.clear;
    rising = rises-same stretch_order (clear_in_form marks facts.clear) ∙ do-rise stretch_order-total (may_be_clear marks) facts.clear;
  };
}

-- WHAT CAN BE WRITTEN IS IN FORM

all-pass : {A : Type 0} (may : A → Bool) (P : A → Type 0) (items : List A) → ((a : A) → P a → may a ≡ true) → All P items →
    list_all may items ≡ true
all-pass may P [] so h = refl
all-pass may P (a ∷ items) so h =
    and_from (may a) (list_all may items) (so a (All-head P a items h)) (all-pass may P items so (All-tail P a items h))

stretch-passes : (marks : List Bool) (s : Stretch) → StretchIsFormed marks s → may_be_clear marks s ≡ true
stretch-passes marks s h =
    and_from (begins_stretch marks s.after) (ends_stretch marks s.before && not (s.after == s.before)) h.after
    (and_from (ends_stretch marks s.before) (not (s.after == s.before)) h.before (ap not h.apart))

same-facts : (one other : List LineFact) (these those : List Stretch) → one ≡ other → these ≡ those →
    ◌≡◌ {A = Facts} (record { lines = one; clear = these }) (record { lines = other; clear = those })
same-facts one other these those e f = cc

pub formed-in-form : (marks : List Bool) (facts : Facts) → FactsAreFormed marks facts → in_form marks facts ≡ facts
formed-in-form marks facts h =
    same-facts (known_in_form marks facts.lines) facts.lines (clear_in_form marks facts.clear) facts.clear
    (already-so fact_order-total (may_say marks) facts.lines
    (all-pass (may_say marks) (FactIsFormed marks) facts.lines (λ f k. k.named) h.known.each)
    (sym (rises-same fact_order facts.lines) ∙ h.known.rising))
    (already-so stretch_order-total (may_be_clear marks) facts.clear
    (all-pass (may_be_clear marks) (StretchIsFormed marks) facts.clear (stretch-passes marks) h.clear.each)
    (sym (rises-same stretch_order facts.clear) ∙ h.clear.rising))

pub in-form-once : (marks : List Bool) (facts : Facts) → in_form marks (in_form marks facts) ≡ in_form marks facts
in-form-once marks facts =
    same-facts (known_in_form marks (known_in_form marks facts.lines)) (known_in_form marks facts.lines)
    (clear_in_form marks (clear_in_form marks facts.clear)) (clear_in_form marks facts.clear)
    (once-is-enough fact_order-total (may_say marks) facts.lines)
    (once-is-enough stretch_order-total (may_be_clear marks) facts.clear)

-- some of those that can be written, where other letters allow each of them
pub some-formed : (marks letters : List Bool) (facts : Facts) (keep : LineFact → Bool) (stay : Stretch → Bool) →
    FactsAreFormed marks facts → All (FactIsFormed letters) (filter keep facts.lines) →
    All (StretchIsFormed letters) (filter stay facts.clear) →
    FactsAreFormed letters (record { lines = filter keep facts.lines; clear = filter stay facts.clear })
some-formed marks letters facts keep stay h known clear = record {
  known = record {
    each = known;
    rising = rises-same fact_order (filter keep facts.lines)
        ∙ rising-filter fact_order-total keep facts.lines (sym (rises-same fact_order facts.lines) ∙ h.known.rising);
  };
  clear = record {
    each = clear;
    rising = rises-same stretch_order (filter stay facts.clear)
        ∙ rising-filter stretch_order-total stay facts.clear (sym (rises-same stretch_order facts.clear) ∙ h.clear.rising);
  };
}

-- THEY ARE AMONG THOSE THAT WERE GIVEN, AND HOLD WHERE THOSE DO

pub known-given : (marks : List Bool) (facts : Facts) → All (Contains facts.lines) (known_in_form marks facts.lines)
known-given marks facts = are-given fact_order-total (may_say marks) facts.lines

pub clear-given : (marks : List Bool) (facts : Facts) → All (Contains facts.clear) (clear_in_form marks facts.clear)
clear-given marks facts = are-given stretch_order-total (may_be_clear marks) facts.clear

pub in-form-holds : (marks : List Bool) (facts : Facts) (number : Numbers) (lines : List Line) → FactsHold facts number lines →
    FactsHold (in_form marks facts) number lines
in-form-holds marks facts number lines h = record {
  of_lines = All-in_form fact_order-total (may_say marks) (LineFactHolds number lines) facts.lines h.of_lines;
  of_clear = All-in_form stretch_order-total (may_be_clear marks) (StretchHolds number lines) facts.clear h.of_clear;
}

past-in-form : (undo : Undo) (past : Past) → AllowsPast undo past → AllowsPast (record undo { was = old_in_form undo.was }) past
past-in-form undo Nothing h = h
past-in-form undo Same h = h
past-in-form undo (Was kept) h = kept-in-form undo.was kept h
  where
    kept-in-form : (was : Option Old) (kept : Kept) → AllowsKept was kept → AllowsKept (old_in_form was) kept
    kept-in-form None kept h = h
    kept-in-form (Some old) kept h = (h.0, h.1, in-form-holds old.marks old.facts h.0 kept.lines h.2)

pub in-form-stands-by : (s : State) (e : editor.State) (number : Numbers) → StandsBy s e number → StandsBy (state_in_form s) e number
in-form-stands-by s e number st =
    record { buffer = st.buffer; remembered = st.remembered; changed = st.changed; past = past-in-form s.undo e.past st.past }

pub in-form-stands : (s : State) (e : editor.State) → StandsFor s e → StandsFor (state_in_form s) e
in-form-stands s e st = record {
  numbers = st.numbers;
  stands = in-form-stands-by s e st.numbers st.stands;
  lines = st.lines;
  kept = st.kept;
  matches = st.matches;
  facts = in-form-holds s.marks s.facts st.numbers e.lines st.facts;
}
