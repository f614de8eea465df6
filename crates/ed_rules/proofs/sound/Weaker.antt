-- Weaker states stand for more, and so does what is joined or widened.
use Rattle.std.proofs.Common.{◌≡◌, ◌<◌, ℕ, Bool, true, false, cond, List, get_or, Option, None, Some}
use Rattle.std.specs.List.{list_any}
use Rattle.std.proofs.lemmas.Bool.{or_left, or_right}
use Rattle.ed_base.specs.Buffer.{Line}
use Rattle.zones.specs.Zone.{Bounds, Numbers, Holds}
use Rattle.zones.proofs.Soundness.{Holds-covers}
use Rattle.ed_syntax.specs.declared.replacement.Part.{Part}
use Rattle.ed_syntax.specs.meaning.States as editor
use Rattle.ed_syntax.specs.meaning.States.{Past, Nothing, Same, Was, Kept}
use Rattle.ed_rules.specs.declared.state.Old.{Old}
use Rattle.ed_rules.specs.declared.state.Changed.{Changed}
use Rattle.ed_rules.specs.declared.state.Undo.{Undo}
use Rattle.ed_rules.specs.declared.state.State.{State}
use Rattle.ed_rules.specs.Order.{old_of_both, changed_of_both, undo_of_both, join, widen, CoversOld, Covers}
use Rattle.ed_rules.specs.KnownMatches.{CoversOldHas}
use Rattle.ed_rules.specs.Matched.{is_matched, AreMatched}
use Rattle.ed_rules.specs.facts.Facts.{Facts, FactsHold}
use Rattle.ed_rules.specs.facts.FactOrder.{cover_facts}
use Rattle.ed_rules.proofs.facts.FactsOrdered.{FactsHold-covers}
use Rattle.ed_rules.specs.StandsFor.{HoldsBy, StandsFor, AllowsKept, AllowsPast, KeepsMatched, allows_change, allows_replacement, ends_line}
use Rattle.ed_rules.proofs.Choosing.{has-are_choices}
use Rattle.ed_rules.proofs.Texting.{members-pass}
use Rattle.ed_rules.proofs.CoveringStates.{old-both, old-both_other, Covers-join, Covers-join_other, Covers-widen, Covers-widen_other}
use Rattle.ed_rules.proofs.sound.Standing.{Stands}
use Rattle.ed_rules.proofs.sound.Following.{KnownBy}

-- fewer sure letters, and a weaker zone that holds
pub HoldsBy-fewer : (zone weak : Bounds) (many few : List Bool) (lines : List Line) (current : ℕ) (v : Numbers) →
    ((letter : ℕ) → letter < 26 → get_or few letter false ≡ true → get_or many letter false ≡ true) → Holds weak v →
    HoldsBy zone many lines current v → HoldsBy weak few lines current v
HoldsBy-fewer zone weak many few lines current v among holds h = record {
  holds = holds;
  reads = record {
    zero_is = h.reads.zero_is;
    current_is = h.reads.current_is;
    last_is = h.reads.last_is;
    marks_are = λ letter l e. h.reads.marks_are letter l (among letter l e);
  };
  inside = h.inside;
}

-- fewer facts of lines
facts-covered : (weak : Facts) (zone : Bounds) (marks : List Bool) (strong : Facts) (lines : List Line) (current : ℕ) (v : Numbers) →
    cover_facts weak zone strong ≡ true → HoldsBy zone marks lines current v → FactsHold strong v lines → FactsHold weak v lines
facts-covered weak zone marks strong lines current v e h k =
    FactsHold-covers weak zone strong v lines e h.holds (record { zero_is = h.reads.zero_is; last_is = h.reads.last_is }) k

kept-covers : (weak strong : Option Old) (k : Kept) → CoversOld weak strong → AllowsKept strong k → AllowsKept weak k
kept-covers weak None k c h = absurd h
kept-covers None (Some strong) k c h = absurd c
kept-covers (Some weak) (Some strong) k c h = (
  h.0,
  HoldsBy-fewer strong.zone weak.zone strong.marks weak.marks k.lines k.current h.0 c.1 (Holds-covers weak.zone strong.zone h.0 c.0 h.1.holds) h.1,
  facts-covered weak.facts strong.zone strong.marks strong.facts k.lines k.current h.0 c.2 h.1 h.2,
)

pub past-both : (one other : Undo) (p : Past) → AllowsPast one p → AllowsPast (undo_of_both one other) p
past-both one other Nothing h = or_left one.nothing other.nothing h
past-both one other Same h = or_left one.same other.same h
past-both one other (Was k) h = kept-covers (old_of_both one.was other.was) one.was k (old-both one.was other.was) h

pub past-both_other : (one other : Undo) (p : Past) → AllowsPast other p → AllowsPast (undo_of_both one other) p
past-both_other one other Nothing h = or_right one.nothing other.nothing h
past-both_other one other Same h = or_right one.same other.same h
past-both_other one other (Was k) h = kept-covers (old_of_both one.was other.was) other.was k (old-both_other one.was other.was) h

pub change-both : (one other : Changed) (b : Bool) → allows_change one b ≡ true → allows_change (changed_of_both one other) b ≡ true
change-both one other true h = or_left one.yes other.yes h
change-both one other false h = or_left one.no other.no h

past-covers : (weak strong : State) (p : Past) → Covers weak strong → AllowsPast strong.undo p → AllowsPast weak.undo p
past-covers weak strong Nothing c h = c.nothing h
past-covers weak strong Same c h = c.same h
past-covers weak strong (Was k) c h = kept-covers weak.undo.was strong.undo.was k c.was h

change-covers : (weak strong : State) (b : Bool) → Covers weak strong → allows_change strong.changed b ≡ true → allows_change weak.changed b ≡ true
change-covers weak strong true c h = c.changed h
change-covers weak strong false c h = c.unchanged h

replacement-covers : (weak strong : State) (r : Option (List Part)) → Covers weak strong → allows_replacement strong.replacements r ≡ true → allows_replacement weak.replacements r ≡ true
replacement-covers weak strong None c h = c.no_replacement h
replacement-covers weak strong (Some parts) c h =
    (elim (list_any ends_line parts) as (λ b. cond b strong.replacements.split strong.replacements.plain ≡ true → cond b weak.replacements.split weak.replacements.plain ≡ true) [
      | true ↦ λ k. c.split_replacement k
      | false ↦ λ k. c.plain_replacement k
    ]) h

old-covers : (was : Option Old) (weak strong : List (List ℕ)) (k : Kept) → CoversOldHas was weak strong → AllowsKept was k → AreMatched strong k.lines → AreMatched weak k.lines
old-covers None weak strong k c a h = absurd a
old-covers (Some old) weak strong k c a h = members-pass (is_matched k.lines) weak strong c h

past-matched : (weak strong : State) (p : Past) → Covers weak strong → AllowsPast strong.undo p →
    KeepsMatched strong.matches.old_has p → KeepsMatched weak.matches.old_has p
past-matched weak strong Nothing c a h = tt
past-matched weak strong Same c a h = tt
past-matched weak strong (Was k) c a h = old-covers strong.undo.was weak.matches.old_has strong.matches.old_has k c.matches.old_has a h

pub Stands-covers : (weak strong : State) (e : editor.State) → Covers weak strong → Stands strong e → Stands weak e
Stands-covers weak strong e c st = (
  st.0,
  record {
    buffer =
        HoldsBy-fewer strong.zone weak.zone strong.marks weak.marks e.lines e.current st.0 c.marks
        (Holds-covers weak.zone strong.zone st.0 c.zone st.1.buffer.holds) st.1.buffer;
    remembered = (
      has-are_choices strong.patterns weak.patterns e.pattern c.patterns st.1.remembered.0,
      replacement-covers weak strong e.replacement c st.1.remembered.1,
      has-are_choices strong.names weak.names e.name c.names st.1.remembered.2,
    );
    changed = change-covers weak strong e.changed c st.1.changed;
    past = past-covers weak strong e.past c st.1.past;
  },
)

-- and so what is said of single lines, where they are followed
pub Known-covers : (follows : Bool) (weak strong : State) (e : editor.State) → Covers weak strong → KnownBy follows strong e → KnownBy follows weak e
unfolding Stands-covers
Known-covers follows weak strong e c st =
    let q = Stands-covers weak strong e c (st.0, st.1) in
    (q.0, q.1, λ f. facts-covered weak.facts strong.zone strong.marks strong.facts e.lines e.current st.0 c.facts st.1.buffer (st.2 f))

pub StandsFor-covers : (weak strong : State) (e : editor.State) → Covers weak strong → StandsFor strong e → StandsFor weak e
unfolding Stands-covers
StandsFor-covers weak strong e c st =
    let q = Stands-covers weak strong e c (st.numbers, st.stands) in
    record {
      numbers = q.0;
      stands = q.1;
      lines = st.lines;
      kept = st.kept;
      matches = (
        members-pass (is_matched e.lines) weak.matches.has strong.matches.has c.matches.has st.matches.0,
        past-matched weak strong e.past c st.stands.past st.matches.1,
      );
      facts = facts-covered weak.facts strong.zone strong.marks strong.facts e.lines e.current st.numbers c.facts st.stands.buffer st.facts;
    }

-- what is joined covers either state

pub Stands-join : (one other : State) (e : editor.State) → Stands one e → Stands (join one other) e
Stands-join one other e st = Stands-covers (join one other) one e (Covers-join one other) st

pub Stands-join_other : (one other : State) (e : editor.State) → Stands other e → Stands (join one other) e
Stands-join_other one other e st = Stands-covers (join one other) other e (Covers-join_other one other) st

pub StandsFor-join : (one other : State) (e : editor.State) → StandsFor one e → StandsFor (join one other) e
StandsFor-join one other e st = StandsFor-covers (join one other) one e (Covers-join one other) st

pub StandsFor-join_other : (one other : State) (e : editor.State) → StandsFor other e → StandsFor (join one other) e
StandsFor-join_other one other e st = StandsFor-covers (join one other) other e (Covers-join_other one other) st

pub StandsFor-widen : (old new : State) (e : editor.State) → StandsFor old e → StandsFor (widen old new) e
StandsFor-widen old new e st = StandsFor-covers (widen old new) old e (Covers-widen old new) st

pub StandsFor-widen_other : (old new : State) (e : editor.State) → StandsFor new e → StandsFor (widen old new) e
StandsFor-widen_other old new e st = StandsFor-covers (widen old new) new e (Covers-widen_other old new) st
