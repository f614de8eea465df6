-- Covering is an order of states but for what they say of single lines. What unites two states covers both.
use Rattle.std.proofs.Common.{◌≡◌, ◌<◌, ◌==◌, ◌||◌, ℕ, Bool, true, false, ◌&&◌, List, Option, None, Some, ◌∙◌, refl, sym, arith}
use Rattle.std.proofs.lemmas.List.FromFn.{get_or-map-range_with_len}
use Rattle.std.proofs.lemmas.Bool.{and_parts, or_left, or_right}
use Rattle.zones.specs.Zone as zones
use Rattle.zones.specs.Zone.{Bounds}
use Rattle.zones.specs.Steps.{join_of, widening_of}
use Rattle.zones.proofs.Order.{Covers-same, Covers-through, Covers-join_of, Covers-join_of_other, Covers-widening_of}
use Rattle.zones.proofs.Order.{Covers-widening_of_other}
use Rattle.ed_rules.specs.declared.state.Old.{Old}
use Rattle.ed_rules.specs.declared.state.State.{State}
use Rattle.ed_rules.specs.Choices.{Choice, has_choice, union, are_choices}
use Rattle.ed_rules.specs.Marks.{is_sure, both_sure}
use Rattle.ed_rules.specs.KnownMatches.{old_has_of_both, CoversOldHas}
use Rattle.ed_rules.specs.States.{old_without_facts, without_facts}
use Rattle.ed_rules.specs.Order.{old_of_both, united, join, widen, CoversOld, Covers}
use Rattle.ed_rules.specs.Following.{may_name, spoken_facts}
use Rattle.ed_rules.specs.facts.Facts.{LineFact, Stretch, Facts, end}
use Rattle.ed_rules.specs.facts.FactOrder.{both_facts, cover_facts}
use Rattle.ed_rules.proofs.facts.FactsOrdered.{cover-fewer, cover-itself, cover-both, cover-both_other, cover-on}
use Rattle.ed_rules.proofs.Texting.{members-same, members-through, members-both, members-both_other}
use Rattle.ed_rules.proofs.Choosing.{has_choice-all, has-union, has-union_other, choices-more, choices-same}

-- SETS OF CHOICES

choices-through : (few many more : List Choice) → are_choices few many ≡ true → are_choices many more ≡ true → are_choices few more ≡ true
choices-through few many more h k = choices-more few more (λ c e. has_choice-all (has_choice more) many c k (has_choice-all (has_choice many) few c h e))

choices-union : (one other : List Choice) → are_choices one (union one other) ≡ true
choices-union one other = choices-more one (union one other) (λ c h. has-union one other c h)

choices-union_other : (one other : List Choice) → are_choices other (union one other) ≡ true
choices-union_other one other = choices-more other (union one other) (λ c h. has-union_other one other c h)

-- MARKS

pub sure-both : (one other : List Bool) (letter : ℕ) → letter < 26 → is_sure (both_sure one other) letter ≡ true → (is_sure one letter ≡ true) × (is_sure other letter ≡ true)
unfolding both_sure
sure-both one other letter l e =
    and_parts (is_sure one letter) (is_sure other letter)
    (sym (get_or-map-range_with_len (λ (k : ℕ). is_sure one k && is_sure other k) 0 26 letter letter false l (omega arith)) ∙ e)

-- FACTS OF SURE LETTERS

spoken-cover : (marks : List Bool) (facts : Facts) (zone : Bounds) (strong : Facts) → cover_facts facts zone strong ≡ true →
    cover_facts (spoken_facts marks facts) zone strong ≡ true
spoken-cover marks facts zone strong e =
    cover-fewer (λ (f : LineFact). may_name marks f.name)
    (λ (s : Stretch). (s.after == end || may_name marks s.after) && (s.before == end || may_name marks s.before)) facts zone strong e

-- WHAT UNDO KEEPS

old-same : (old : Option Old) → CoversOld old old
old-same None = tt
old-same (Some old) = (Covers-same old.zone, λ letter l e. e, cover-itself old.facts old.zone)

old-through : (a b c : Option Old) → CoversOld a b → CoversOld b c → CoversOld (old_without_facts a) c
old-through a b None h k = tt
old-through a None (Some c) h k = absurd k
old-through None (Some b) (Some c) h k = absurd h
old-through (Some a) (Some b) (Some c) h k = (Covers-through a.zone b.zone c.zone h.0 k.0, λ letter l e. k.1 letter l (h.1 letter l e), refl)

pub old-both : (one other : Option Old) → CoversOld (old_of_both one other) one
old-both None other = tt
old-both (Some one) None = old-same (Some one)
old-both (Some one) (Some other) = (
  Covers-join_of one.zone other.zone,
  λ letter l e. (sure-both one.marks other.marks letter l e).0,
  spoken-cover (both_sure one.marks other.marks) (both_facts one.facts other.zone other.facts) one.zone one.facts
      (cover-both one.facts other.facts other.zone one.zone),
)

pub old-both_other : (one other : Option Old) → CoversOld (old_of_both one other) other
old-both_other one None = tt
old-both_other None (Some other) = old-same (Some other)
old-both_other (Some one) (Some other) = (
  Covers-join_of_other one.zone other.zone,
  λ letter l e. (sure-both one.marks other.marks letter l e).1,
  spoken-cover (both_sure one.marks other.marks) (both_facts one.facts other.zone other.facts) other.zone other.facts
      (cover-both_other one.facts other.facts other.zone),
)

-- what covered an earlier buffer does so once it is joined with another
old-on : (one other strong : Option Old) → CoversOld one strong → CoversOld (old_of_both one other) strong
old-on one other None h = tt
old-on None other (Some strong) h = absurd h
old-on (Some one) None (Some strong) h = h
old-on (Some one) (Some other) (Some strong) h = (
  Covers-through (join_of one.zone other.zone) one.zone strong.zone (Covers-join_of one.zone other.zone) h.0,
  λ letter l e. h.1 letter l ((sure-both one.marks other.marks letter l e).0),
  spoken-cover (both_sure one.marks other.marks) (both_facts one.facts other.zone other.facts) strong.zone strong.facts
      (cover-on one.facts other.facts other.zone strong.zone strong.facts h.2),
)

-- WHAT LINES MATCH OF WHAT UNDO KEEPS

matched-same : (was : Option Old) (has : List (List ℕ)) → CoversOldHas was has has
matched-same None has = tt
matched-same (Some old) has = members-same has

matched-through : (b c : Option Old) (few many more : List (List ℕ)) → CoversOld b c → CoversOldHas b few many → CoversOldHas c many more → CoversOldHas c few more
matched-through b None few many more o h k = tt
matched-through None (Some c) few many more o h k = absurd o
matched-through (Some b) (Some c) few many more o h k = members-through few many more h k

matched-both : (one other : Option Old) (has old_has : List (List ℕ)) → CoversOldHas one (old_has_of_both one other has old_has) has
matched-both None other has old_has = tt
matched-both (Some one) None has old_has = members-same has
matched-both (Some one) (Some other) has old_has = members-both has old_has

matched-both_other : (one other : Option Old) (has old_has : List (List ℕ)) → CoversOldHas other (old_has_of_both one other has old_has) old_has
matched-both_other one None has old_has = tt
matched-both_other None (Some other) has old_has = members-same old_has
matched-both_other (Some one) (Some other) has old_has = members-both_other has old_has

-- STATES

pub Covers-itself : (s : State) → Covers s s
Covers-itself s = record {
  zone = Covers-same s.zone;
  marks = λ letter l e. e;
  patterns = choices-same s.patterns;
  no_replacement = λ e. e;
  plain_replacement = λ e. e;
  split_replacement = λ e. e;
  names = choices-same s.names;
  unchanged = λ e. e;
  changed = λ e. e;
  nothing = λ e. e;
  same = λ e. e;
  was = old-same s.undo.was;
  matches = record { has = members-same s.matches.has; old_has = matched-same s.undo.was s.matches.old_has };
  facts = cover-itself s.facts s.zone;
}

-- covering goes through a third state, if nothing is said of single lines
pub Covers-through_both : (a b c : State) → Covers a b → Covers b c → Covers (without_facts a) c
Covers-through_both a b c h k = record {
  zone = Covers-through a.zone b.zone c.zone h.zone k.zone;
  marks = λ letter l e. k.marks letter l (h.marks letter l e);
  patterns = choices-through c.patterns b.patterns a.patterns k.patterns h.patterns;
  no_replacement = λ e. h.no_replacement (k.no_replacement e);
  plain_replacement = λ e. h.plain_replacement (k.plain_replacement e);
  split_replacement = λ e. h.split_replacement (k.split_replacement e);
  names = choices-through c.names b.names a.names k.names h.names;
  unchanged = λ e. h.unchanged (k.unchanged e);
  changed = λ e. h.changed (k.changed e);
  nothing = λ e. h.nothing (k.nothing e);
  same = λ e. h.same (k.same e);
  was = old-through a.undo.was b.undo.was c.undo.was h.was k.was;
  matches = record {
    has = members-through a.matches.has b.matches.has c.matches.has h.matches.has k.matches.has;
    old_has =
        matched-through b.undo.was c.undo.was a.matches.old_has b.matches.old_has c.matches.old_has k.was h.matches.old_has k.matches.old_has;
  };
  facts = refl;
}

united-covers : (one other : State) (zone : Bounds) → zones.Covers zone one.zone → Covers (united one other zone) one
united-covers one other zone z = record {
  zone = z;
  marks = λ letter l e. (sure-both one.marks other.marks letter l e).0;
  patterns = choices-union one.patterns other.patterns;
  no_replacement = λ e. or_left one.replacements.none other.replacements.none e;
  plain_replacement = λ e. or_left one.replacements.plain other.replacements.plain e;
  split_replacement = λ e. or_left one.replacements.split other.replacements.split e;
  names = choices-union one.names other.names;
  unchanged = λ e. or_left one.changed.no other.changed.no e;
  changed = λ e. or_left one.changed.yes other.changed.yes e;
  nothing = λ e. or_left one.undo.nothing other.undo.nothing e;
  same = λ e. or_left one.undo.same other.undo.same e;
  was = old-both one.undo.was other.undo.was;
  matches = record {
    has = members-both one.matches.has other.matches.has;
    old_has = matched-both one.undo.was other.undo.was one.matches.old_has other.matches.old_has;
  };
  facts = spoken-cover (both_sure one.marks other.marks) (both_facts one.facts other.zone other.facts) one.zone one.facts
      (cover-both one.facts other.facts other.zone one.zone);
}

united-covers_other : (one other : State) (zone : Bounds) → zones.Covers zone other.zone → Covers (united one other zone) other
united-covers_other one other zone z = record {
  zone = z;
  marks = λ letter l e. (sure-both one.marks other.marks letter l e).1;
  patterns = choices-union_other one.patterns other.patterns;
  no_replacement = λ e. or_right one.replacements.none other.replacements.none e;
  plain_replacement = λ e. or_right one.replacements.plain other.replacements.plain e;
  split_replacement = λ e. or_right one.replacements.split other.replacements.split e;
  names = choices-union_other one.names other.names;
  unchanged = λ e. or_right one.changed.no other.changed.no e;
  changed = λ e. or_right one.changed.yes other.changed.yes e;
  nothing = λ e. or_right one.undo.nothing other.undo.nothing e;
  same = λ e. or_right one.undo.same other.undo.same e;
  was = old-both_other one.undo.was other.undo.was;
  matches = record {
    has = members-both_other one.matches.has other.matches.has;
    old_has = matched-both_other one.undo.was other.undo.was one.matches.old_has other.matches.old_has;
  };
  facts = spoken-cover (both_sure one.marks other.marks) (both_facts one.facts other.zone other.facts) other.zone other.facts
      (cover-both_other one.facts other.facts other.zone);
}

-- what covered the first of two states covers what unites them
united-on : (one other strong : State) (zone : Bounds) → zones.Covers zone one.zone → Covers one strong → Covers (united one other zone) strong
united-on one other strong zone z h =
    let u : Covers (united one other zone) one = united-covers one other zone z in
    let t = Covers-through_both (united one other zone) one strong u h in
    record {
      zone = t.zone;
      marks = t.marks;
      patterns = t.patterns;
      no_replacement = t.no_replacement;
      plain_replacement = t.plain_replacement;
      split_replacement = t.split_replacement;
      names = t.names;
      unchanged = t.unchanged;
      changed = t.changed;
      nothing = t.nothing;
      same = t.same;
      was = old-on one.undo.was other.undo.was strong.undo.was h.was;
      matches = record { has = t.matches.has; old_has = t.matches.old_has };
      facts = spoken-cover (both_sure one.marks other.marks) (both_facts one.facts other.zone other.facts) strong.zone strong.facts
          (cover-on one.facts other.facts other.zone strong.zone strong.facts h.facts);
    }

pub Covers-join : (one other : State) → Covers (join one other) one
unfolding join
Covers-join one other = united-covers one other (join_of one.zone other.zone) (Covers-join_of one.zone other.zone)

pub Covers-join_other : (one other : State) → Covers (join one other) other
unfolding join
Covers-join_other one other = united-covers_other one other (join_of one.zone other.zone) (Covers-join_of_other one.zone other.zone)

pub Covers-widen : (old new : State) → Covers (widen old new) old
unfolding widen
Covers-widen old new = united-covers old new (widening_of old.zone new.zone) (Covers-widening_of old.zone new.zone)

pub Covers-widen_other : (old new : State) → Covers (widen old new) new
unfolding widen
Covers-widen_other old new = united-covers_other old new (widening_of old.zone new.zone) (Covers-widening_of_other old.zone new.zone)

pub Covers-join_on : (one other strong : State) → Covers one strong → Covers (join one other) strong
unfolding join
Covers-join_on one other strong h = united-on one other strong (join_of one.zone other.zone) (Covers-join_of one.zone other.zone) h

pub Covers-widen_on : (old new strong : State) → Covers old strong → Covers (widen old new) strong
unfolding widen
Covers-widen_on old new strong h = united-on old new strong (widening_of old.zone new.zone) (Covers-widening_of old.zone new.zone) h
