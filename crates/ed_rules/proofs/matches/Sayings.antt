-- What holds of the sets of patterns that a state says some line matches: it holds through rules, join, widening and the list of a
-- global command, where it holds of no patterns, of some of a set, and of a set with others put in.
use Rattle.std.proofs.Common.{ℕ, Bool, true, false, List, [], ◌∷◌, Option, None, Some, IfOk}
use Rattle.std.specs.List.{list_any, filter}
use Rattle.ed_syntax.specs.declared.command.Sense.TheVariants as sense
use Rattle.ed_syntax.specs.Commands as ed
use Rattle.ed_syntax.specs.Commands.{Addresses, Verb, Command}
use Rattle.ed_syntax.specs.meaning.Values.{matches}
use Rattle.ed_syntax.specs.meaning.Verbs as verbs
use Rattle.ed_syntax.specs.meaning.Verbs.{Alteration, takes}
use Rattle.ed_rules.specs.declared.matching.Certainty.{Certainty}
use Rattle.ed_rules.specs.declared.matching.Certainty.TheVariants.{Never, Maybe, Surely}
use Rattle.ed_rules.specs.declared.known_matches.Matches.{Matches}
use Rattle.ed_rules.specs.declared.state.Old.{Old}
use Rattle.ed_rules.specs.declared.state.State.{State}
use Rattle.ed_rules.specs.Texts.{is_member, both_texts, with_texts}
use Rattle.ed_rules.specs.Matched.{gained, sought}
use Rattle.ed_rules.specs.KnownMatches.{old_has_of_both, matches_of_both}
use Rattle.ed_rules.specs.Order.{join, widen}
use Rattle.ed_rules.specs.Matching.{joining_given, kept_unless, how_surely, matches_by_undo, matched_after, old_matched_by}
use Rattle.ed_rules.specs.Matching.{old_matched_unless, matches_after}
use Rattle.ed_rules.specs.Rules.{effect, step}
use Rattle.zones.specs.Zone.{Bounds}
use Rattle.ed_rules.specs.facts.Facts.{Facts}
use Rattle.ed_rules.specs.Globals.{taken_matches, entry_with}
use Rattle.ed_rules.proofs.through.Needs.{Any, all-any, anyway}
use Rattle.ed_rules.proofs.through.Addresses.{beside}
use Rattle.ed_rules.proofs.through.Steps.{rule-through}

pub record OfSets (S : List (List ℕ) → Type 0) : Type 0 where
  pub none : S []
  pub some : (keep : List ℕ → Bool) (set : List (List ℕ)) → S set → S (filter keep set)
  pub more : (new set : List (List ℕ)) → S new → S set → S (with_texts new set)

abbrev pub AreSaid : (List (List ℕ) → Type 0) → Matches → Type 0
AreSaid S m = S m.has × S m.old_has

abbrev pub Says : (List (List ℕ) → Type 0) → State → Type 0
Says S s = AreSaid S s.matches

module _ (S : List (List ℕ) → Type 0) (sets : OfSets S) where
  says-gained : (watched entered : List (List ℕ)) → S watched → S (gained watched entered)
  says-gained watched entered w = sets.some (λ text. list_any (matches text) entered) watched w

  says-more : (watched entered has : List (List ℕ)) → S watched → S has → S (with_texts (gained watched entered) has)
  says-more watched entered has w h = sets.more (gained watched entered) has (says-gained watched entered w) h

  says-unless : (a : Certainty) (has : List (List ℕ)) → S has → S (kept_unless a has)
  says-unless Never has h = h
  says-unless Maybe has h = sets.none
  says-unless Surely has h = sets.none

  says-both : (one other : List (List ℕ)) → S one → S (both_texts one other)
  says-both one other h = sets.some (is_member other) one h

  says-undo : (same : Bool) (was : Option Old) (m : Matches) → AreSaid S m → AreSaid S (matches_by_undo same was m)
  says-undo same None m h = h
  says-undo true (Some old) m h = (says-both m.has m.old_has h.0, says-both m.old_has m.has h.1)
  says-undo false (Some old) m h = (h.1, h.0)

  says-now : (watched : List (List ℕ)) (given : Addresses) (lines : Alteration) (s : State) → S watched → Says S s →
      S (matched_after watched given lines s)
  says-now watched given (verbs.Enters text) s w h = says-more watched text s.matches.has w h.0
  says-now watched given (verbs.Replaces text) s w h = says-gained watched text w
  says-now watched given verbs.Deletes s w h = sets.none
  says-now watched given verbs.Joins s w h = says-unless (joining_given given s.zone) s.matches.has h.0
  says-now watched given verbs.Rewrites s w h = sets.none
  says-now watched given _ s w h = h.0

  says-old : {A B : Type 0} (one : Option A) (other : Option B) (has old : List (List ℕ)) → S has → S old →
      S (old_has_of_both one other has old)
  says-old None other has old h k = k
  says-old (Some a) None has old h k = h
  says-old (Some a) (Some b) has old h k = says-both has old h

  says-by : (a : Certainty) (start s : State) → Says S start → Says S s → S (old_matched_by a start s)
  says-by Never start s h k = k.1
  says-by Maybe start s h k = says-old s.undo.was (Some start.zone) s.matches.old_has start.matches.has k.1 h.0
  says-by Surely start s h k = h.0

  says-if : (listed : Bool) (a : Certainty) (start s : State) → Says S start → Says S s → S (old_matched_unless listed a start s)
  says-if true a start s h k = k.1
  says-if false a start s h k = says-by a start s h k

  pub says-after : (watched : List (List ℕ)) (listed : Bool) (given : Addresses) (lines : Alteration) (start s : State) → S watched →
      Says S start → Says S s → AreSaid S (matches_after watched listed given lines start s)
  says-after watched listed given verbs.Loads start s w h k = (sets.none, sets.none)
  says-after watched listed given verbs.BringsBack start s w h k = says-undo s.undo.same s.undo.was s.matches k
  says-after watched listed given lines start s w h k =
      (says-now watched given lines s w k, says-if listed (how_surely given lines s.zone) start s h k)

  pub says-step : (watched : List (List ℕ)) (c : Command) (s : State) → S watched → Says S s → IfOk (step watched c s) (Says S)
  says-step watched c s w h =
      rule-through (Says S) Any (beside (λ _ _ _ m. AreSaid S m) Any (λ t text _ q. q)) (Says S) watched c s
      (all-any (sought c)) h
      (λ u k. anyway _ (effect c.listed c.addresses c.verb s u)
      (λ r. says-after watched c.listed c.addresses (takes c.verb).lines s u w h k))

  says-of_both : (one other : Option Old) (m n : Matches) → AreSaid S m → AreSaid S n → AreSaid S (matches_of_both one other m n)
  says-of_both one other m n h k = (says-both m.has n.has h.0, says-old one other m.old_has n.old_has h.1 k.1)

  pub says-join : (one other : State) → Says S one → Says S other → Says S (join one other)
  unfolding join
  says-join one other h k = says-of_both one.undo.was other.undo.was one.matches other.matches h k

  pub says-widen : (old new : State) → Says S old → Says S new → Says S (widen old new)
  unfolding widen
  says-widen old new h k = says-of_both old.undo.was new.undo.was old.matches new.matches h k

  -- what `g` takes is put in
  says-taken : (verb : Verb) (has : List (List ℕ)) → S (taken_matches verb []) → S has → S (taken_matches verb has)
  says-taken (ed.Global sense.Matching (Some text)) has g h = sets.more (text ∷ []) has g h
  says-taken (ed.Global sense.Matching None) has g h = h
  says-taken (ed.Global sense.Others pattern) has g h = h
  says-taken verb has g h = h

  pub says-entry : (verb : Verb) (invariant : State) (zone : Bounds) (facts : Facts) → S (taken_matches verb []) → Says S invariant →
      Says S (entry_with verb invariant zone facts)
  says-entry verb invariant zone facts g h = (says-taken verb invariant.matches.has g h.0, h.1)
