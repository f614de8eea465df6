-- What is known is formed, as far as it is told: it can be written down.
use Rattle.std.proofs.Common.{◌≡◌, ℕ, zero, suc, Bool, true, false, List, [], ◌∷◌, Option, None, Some, Result, Ok, Err, refl, ◌∙◌, sym, ap, subst}
use Rattle.std.specs.Prelude.{nat_lt, is_some, ◌||◌, option_map, IfOk, IfSome}
use Rattle.std.specs.List.{All}
use Rattle.std.proofs.lemmas.List.Elements.{All-nil, All-cons, All-head, All-tail}
use Rattle.ed_base.specs.declared.fault.Fault.{Fault}
use Rattle.ed_syntax.specs.Commands.{Addresses, Without, Verb, Command, Step, Script}
use Rattle.ed_syntax.specs.meaning.Verbs.{is_global, ends_run}
use Rattle.ed_rules.specs.declared.known_matches.Matches.{Matches}
use Rattle.ed_rules.specs.declared.state.Old.{Old}
use Rattle.ed_rules.specs.declared.state.State.{State}
use Rattle.ed_rules.specs.Choices.{Choice}
use Rattle.ed_rules.specs.Matched.{watched}
use Rattle.ed_rules.specs.States as states
use Rattle.ed_rules.specs.Marks.{both_sure}
use Rattle.ed_rules.specs.KnownMatches.{no_matches, matches_of_both}
use Rattle.ed_rules.specs.Order.{old_of_both, united, join, widen}
use Rattle.ed_rules.specs.States.{old_without_facts, without_facts}
use Rattle.ed_rules.specs.facts.Facts.{Facts, no_facts}
use Rattle.zones.specs.Zone.{Bounds}
use Rattle.zones.specs.Steps.{join_of, widening_of}
use Rattle.ed_rules.specs.Rules.{step}
use Rattle.ed_rules.specs.Globals as rules
use Rattle.ed_rules.specs.Globals.{body_entry, only_line, line_entry, once_entry, loop_end}
use Rattle.ed_rules.specs.Formed.{ChoiceIsBytes, OldIsFormed, OldIsLow, IsOfLines, IsFormed, IsEnded, TextsAreFormed, MatchesAreFormed, VerbIsBytes, TextsAreBytes}
use Rattle.ed_rules.proofs.through.Needs.{anyway}
use Rattle.landmarks.specs.declared.landmark.Landmark.{Landmark}
use Rattle.cert_check.specs.declared.certificate.Version.{Version}
use Rattle.cert_check.specs.declared.certificate.Version.TheVariants as version
use Rattle.cert_check.specs.declared.sight.Sight.{Sight}
use Rattle.cert_check.specs.Certificates.{Looped, Note}
use Rattle.cert_check.specs.checker.Beginning.{landmarks_of, letters_of_chains, began}
use Rattle.cert_check.specs.checker.InForm.{old_in_form, state_in_form}
use Rattle.cert_check.specs.checker.Valid.{sight_of, told_by, told, counted, left_by, left_after, once_by, runs_once, after_turns, entry_of}
use Rattle.analyser.specs.declared.analysis.Start.{Start}
use Rattle.analyser.specs.Rounds.{left_by_list, AreInner, turned, round_invariant}
use Rattle.analyser.specs.Following.{IsKnownOfList, AreNotes, result_from, version_of, chains_of_start, stated_of, sight_over, knowing, begun}
use Rattle.analyser.specs.Walking.{StepIsBytes}
use Rattle.analyser.proofs.Results.{either}
use Rattle.analyser.proofs.Rounding.{after-of_round}
use Rattle.analyser.proofs.Followed.{follows-step}
use Rattle.analyser.proofs.InForm.{AreInForm, OldIsInForm, told-in_form, both-in_form}
use Rattle.analyser.proofs.StartForming.{ended-left}

-- the laws that this rests on
pub record Laws : Type 0 where
  pub start : (path : Choice) (min : ℕ) (max : Option ℕ) (has : List (List ℕ)) → ChoiceIsBytes path → IsEnded (states.start path min max has)
  pub command : (watched : List (List ℕ)) (c : Command) (s : State) → TextsAreBytes c → IsFormed s → IfOk (step watched c s) IsEnded
  pub join : (one other : State) → IsFormed one → IsFormed other → IsFormed (join one other)
  pub widen : (old new : State) → IsFormed old → IsFormed new → IsFormed (widen old new)
  pub entry : (verb : Verb) (invariant : State) → IsFormed invariant → IsEnded (body_entry verb invariant)
  pub once : (c : Command) (invariant : State) → IsFormed invariant → IfSome (once_entry c invariant) IsEnded
  pub end : (x : Step) (before invariant : State) → IsFormed before → IsFormed invariant → IsEnded (loop_end x before invariant)

-- the same of matches
pub record MatchLaws : Type 0 where
  pub start : (path : Choice) (min : ℕ) (max : Option ℕ) (has : List (List ℕ)) → TextsAreFormed has → MatchesAreFormed (states.start path min max has)
  pub command : (watched : List (List ℕ)) (c : Command) (s : State) → TextsAreFormed watched → MatchesAreFormed s → IfOk (step watched c s) MatchesAreFormed
  pub join : (one other : State) → MatchesAreFormed one → MatchesAreFormed other → MatchesAreFormed (join one other)
  pub widen : (old new : State) → MatchesAreFormed old → MatchesAreFormed new → MatchesAreFormed (widen old new)
  pub entry : (verb : Verb) (invariant : State) → VerbIsBytes verb → MatchesAreFormed invariant → MatchesAreFormed (body_entry verb invariant)
  pub once : (c : Command) (invariant : State) → VerbIsBytes c.verb → MatchesAreFormed invariant → IfSome (once_entry c invariant) MatchesAreFormed
  pub end : (x : Step) (before invariant : State) → MatchesAreFormed before → MatchesAreFormed invariant → MatchesAreFormed (loop_end x before invariant)
  pub watched : (follows : Bool) (script : Script) (has : List (List ℕ)) → All (λ (x : Step). TextsAreBytes x.command × All TextsAreBytes x.list) script.steps → TextsAreFormed has → TextsAreFormed (watched follows script has)

-- AS FAR AS IT IS TOLD

-- an earlier buffer is as it was, but for facts of lines
some-without : (was : Option Old) → is_some (old_without_facts was) ≡ is_some was
some-without None = refl
some-without (Some old) = refl

formed-without : (was : Option Old) → OldIsFormed was → OldIsFormed (old_without_facts was)
formed-without None h = h
formed-without (Some old) h = h

low-without : (was : Option Old) → OldIsLow was → OldIsLow (old_without_facts was)
low-without None h = h
low-without (Some old) h = h

lines-without : (was : Option Old) (has : List (List ℕ)) → IsOfLines was has → IsOfLines (old_without_facts was) has
lines-without None has h = h
lines-without (Some old) has h = h

-- nothing is said of single lines of an earlier buffer
abbrev pub OldSaysNothing : Option Old → Type 0
OldSaysNothing None = Unit {0}
OldSaysNothing (Some old) = old.facts ≡ no_facts

nothing-without : (was : Option Old) → OldSaysNothing (old_without_facts was)
nothing-without None = tt
nothing-without (Some old) = refl

formed-less : (s : State) (m : Matches) → IsFormed s → IsFormed (record (without_facts s) { matches = m })
formed-less s m h = record {
  formed = record {
    zone = h.formed.zone;
    patterns = h.formed.patterns;
    replacements = h.formed.replacements;
    names = h.formed.names;
    changed = h.formed.changed;
    undo = ap (λ (b : Bool). s.undo.nothing || s.undo.same || b) (some-without s.undo.was) ∙ h.formed.undo;
    old = formed-without s.undo.was h.formed.old;
  };
  low = h.low;
  old_low = low-without s.undo.was h.old_low;
}

-- with its facts in form
some-in_form : (was : Option Old) → is_some (old_in_form was) ≡ is_some was
some-in_form None = refl
some-in_form (Some old) = refl

formed-old_in_form : (was : Option Old) → OldIsFormed was → OldIsFormed (old_in_form was)
formed-old_in_form None h = h
formed-old_in_form (Some old) h = h

low-in_form : (was : Option Old) → OldIsLow was → OldIsLow (old_in_form was)
low-in_form None h = h
low-in_form (Some old) h = h

lines-in_form : (was : Option Old) (has : List (List ℕ)) → IsOfLines was has → IsOfLines (old_in_form was) has
lines-in_form None has h = h
lines-in_form (Some old) has h = h

old-told_in_form : (was : Option Old) → OldIsInForm (old_in_form was)
old-told_in_form None = tt
old-told_in_form (Some old) = told-in_form old.marks old.facts

formed-in_form : (s : State) → IsFormed s → IsFormed (state_in_form s)
formed-in_form s h = record {
  formed = record {
    zone = h.formed.zone;
    patterns = h.formed.patterns;
    replacements = h.formed.replacements;
    names = h.formed.names;
    changed = h.formed.changed;
    undo = ap (λ (b : Bool). s.undo.nothing || s.undo.same || b) (some-in_form s.undo.was) ∙ h.formed.undo;
    old = formed-old_in_form s.undo.was h.formed.old;
  };
  low = h.low;
  old_low = low-in_form s.undo.was h.old_low;
}

formed-told_by : (v : Version) (s : State) → IsFormed s → IsFormed (told_by v s)
formed-told_by version.One s h = formed-less s no_matches h
formed-told_by version.Two s h = formed-less s s.matches h
formed-told_by version.Three s h = formed-in_form s h

formed-told : (w : Sight) (s : State) → IsFormed s → IsFormed (told w s)
formed-told w s h = formed-told_by w.version s h

ended-told_by : (v : Version) (s : State) → IsEnded s → IsEnded (told_by v s)
ended-told_by version.One s h = record { formed = formed-told_by version.One s h.formed; counted = h.counted }
ended-told_by version.Two s h = record { formed = formed-told_by version.Two s h.formed; counted = h.counted }
ended-told_by version.Three s h = record { formed = formed-told_by version.Three s h.formed; counted = h.counted }

ended-told : (w : Sight) (s : State) → IsEnded s → IsEnded (told w s)
ended-told w s h = ended-told_by w.version s h

-- version one says nothing of matches; what later ones say is formed
abbrev pub SaysAsTold : Version → State → Type 0
SaysAsTold version.One s = s.matches ≡ no_matches
SaysAsTold version.Two s = MatchesAreFormed s
SaysAsTold version.Three s = MatchesAreFormed s

-- single lines aren't followed, and nothing is said of them
pub record SaysNothing (s : State) : Type 0 where
  pub follows : s.follows ≡ false
  pub facts : s.facts ≡ no_facts
  pub old_facts : OldSaysNothing s.undo.was

-- single lines are followed, and what is said of them is in form
pub record SaysInForm (s : State) : Type 0 where
  pub follows : s.follows ≡ true
  pub facts : AreInForm s.marks s.facts
  pub old_facts : OldIsInForm s.undo.was

-- which of these it is a version tells
abbrev pub LinesAreTold : Version → State → Type 0
LinesAreTold version.One s = SaysNothing s
LinesAreTold version.Two s = SaysNothing s
LinesAreTold version.Three s = SaysInForm s

-- what is asked of a state before it is told
abbrev pub MayFollow : Version → State → Type 0
MayFollow version.One s = Unit {0}
MayFollow version.Two s = Unit {0}
MayFollow version.Three s = s.follows ≡ true

lines-told_by : (v : Version) (s : State) → MayFollow v s → LinesAreTold v (told_by v s)
lines-told_by version.One s h = record { follows = refl; facts = refl; old_facts = nothing-without s.undo.was }
lines-told_by version.Two s h = record { follows = refl; facts = refl; old_facts = nothing-without s.undo.was }
lines-told_by version.Three s h = record { follows = h; facts = told-in_form s.marks s.facts; old_facts = old-told_in_form s.undo.was }

lines-told : (w : Sight) (s : State) → MayFollow w.version s → LinesAreTold w.version (told w s)
lines-told w s h = lines-told_by w.version s h

may-follow : (v : Version) (s : State) → LinesAreTold v s → MayFollow v s
may-follow version.One s h = tt
may-follow version.Two s h = tt
may-follow version.Three s h = h.follows

follow-step : (v : Version) (watch : List (List ℕ)) (c : Command) (s : State) → MayFollow v s → IfOk (step watch c s) (MayFollow v)
follow-step version.One watch c s h = anyway (MayFollow version.One) (step watch c s) (λ t. tt)
follow-step version.Two watch c s h = anyway (MayFollow version.Two) (step watch c s) (λ t. tt)
follow-step version.Three watch c s h = follows-step true watch c s h

follow-entry : (v : Version) (verb : Verb) (invariant : State) → MayFollow v invariant → MayFollow v (body_entry verb invariant)
follow-entry version.One verb invariant h = tt
follow-entry version.Two verb invariant h = tt
follow-entry version.Three verb invariant h = h

follow-line : (verb : Verb) (invariant : State) (v : Option ℕ) → invariant.follows ≡ true → IfSome (option_map (λ v. line_entry v verb invariant) v) (λ (t : State). t.follows ≡ true)
follow-line verb invariant None h = tt
follow-line verb invariant (Some v) h = h

follow-given : (given : Addresses) (verb : Verb) (invariant : State) → invariant.follows ≡ true → IfSome (rules.once_by given verb invariant) (λ (t : State). t.follows ≡ true)
follow-given Without verb invariant h = follow-line verb invariant (only_line verb invariant) h
follow-given _ verb invariant h = tt

follow-once : (v : Version) (c : Command) (invariant : State) → MayFollow v invariant → IfSome (once_by v c invariant) (MayFollow v)
follow-once version.One c invariant h = tt
follow-once version.Two c invariant h = tt
follow-once version.Three c invariant h = follow-given c.addresses c.verb invariant h

follow-end : (v : Version) (x : Step) (before invariant : State) → MayFollow v invariant → MayFollow v (loop_end x before invariant)
follow-end version.One x before invariant h = tt
follow-end version.Two x before invariant h = tt
follow-end version.Three x before invariant h = h

abbrev facts_in : Option Old → Facts
facts_in None = no_facts
facts_in (Some old) = old.facts

old-nothing : (one other : Option Old) → OldSaysNothing one → OldSaysNothing other → OldSaysNothing (old_of_both one other)
old-nothing None other h k = k
old-nothing (Some one) None h k = h
old-nothing (Some one) (Some other) h k = ap (λ (f : Facts). facts_in (old_of_both (Some (record one { facts = f })) (Some other))) h

nothing-united : (one other : State) (zone : Bounds) → SaysNothing one → SaysNothing other → SaysNothing (united one other zone)
nothing-united one other zone h k = record {
  follows = h.follows;
  facts = ap (λ (f : Facts). (united (record one { facts = f }) other zone).facts) h.facts;
  old_facts = old-nothing one.undo.was other.undo.was h.old_facts k.old_facts;
}

old-in_form : (one other : Option Old) → OldIsInForm one → OldIsInForm other → OldIsInForm (old_of_both one other)
old-in_form None other h k = k
old-in_form (Some one) None h k = h
old-in_form (Some one) (Some other) h k = both-in_form one.marks (both_sure one.marks other.marks) one.facts other.zone other.facts h

in_form-united : (one other : State) (zone : Bounds) → SaysInForm one → SaysInForm other → SaysInForm (united one other zone)
in_form-united one other zone h k = record {
  follows = h.follows;
  facts = both-in_form one.marks (both_sure one.marks other.marks) one.facts other.zone other.facts h.facts;
  old_facts = old-in_form one.undo.was other.undo.was h.old_facts k.old_facts;
}

lines-united : (v : Version) (one other : State) (zone : Bounds) → LinesAreTold v one → LinesAreTold v other →
    LinesAreTold v (united one other zone)
lines-united version.One one other zone h k = nothing-united one other zone h k
lines-united version.Two one other zone h k = nothing-united one other zone h k
lines-united version.Three one other zone h k = in_form-united one other zone h k

lines-join : (v : Version) (one other : State) → LinesAreTold v one → LinesAreTold v other → LinesAreTold v (join one other)
unfolding join
lines-join v one other h k = lines-united v one other (join_of one.zone other.zone) h k

lines-widen : (v : Version) (one other : State) → LinesAreTold v one → LinesAreTold v other → LinesAreTold v (widen one other)
unfolding widen
lines-widen v one other h k = lines-united v one other (widening_of one.zone other.zone) h k

-- what is asked of a result before it is told
abbrev MayBeTold : Version → State → Type 0
MayBeTold version.One s = Unit {0}
MayBeTold version.Two s = MatchesAreFormed s
MayBeTold version.Three s = MatchesAreFormed s

abbrev WatchIsFormed : Version → (watch : List (List ℕ)) → Type 0
WatchIsFormed version.One watch = Unit {0}
WatchIsFormed version.Two watch = TextsAreFormed watch
WatchIsFormed version.Three watch = TextsAreFormed watch

says-told : (v : Version) (s : State) → MayBeTold v s → SaysAsTold v (told_by v s)
says-told version.One s h = refl
says-told version.Two s h = record { has = h.has; old_has = h.old_has; of_lines = lines-without s.undo.was s.matches.old_has h.of_lines }
says-told version.Three s h = record { has = h.has; old_has = h.old_has; of_lines = lines-in_form s.undo.was s.matches.old_has h.of_lines }

may-told : (v : Version) (s : State) → SaysAsTold v s → MayBeTold v s
may-told version.One s h = tt
may-told version.Two s h = h
may-told version.Three s h = h

none-both : (one other : Option Old) → matches_of_both one other no_matches no_matches ≡ no_matches
none-both None other = refl
none-both (Some a) None = refl
none-both (Some a) (Some b) = refl

none-of : (one other : Option Old) (m n : Matches) → m ≡ no_matches → n ≡ no_matches → matches_of_both one other m n ≡ no_matches
none-of one other m n e f =
    ap (λ (k : Matches). matches_of_both one other k n) e ∙ ap (λ (k : Matches). matches_of_both one other no_matches k) f ∙ none-both one other

says-join : MatchLaws → (v : Version) (one other : State) → SaysAsTold v one → SaysAsTold v other → SaysAsTold v (join one other)
unfolding join
says-join k version.One one other h q = none-of one.undo.was other.undo.was one.matches other.matches h q
says-join k version.Two one other h q = k.join one other h q
says-join k version.Three one other h q = k.join one other h q

says-widen : MatchLaws → (v : Version) (one other : State) → SaysAsTold v one → SaysAsTold v other → SaysAsTold v (widen one other)
unfolding widen
says-widen k version.One one other h q = none-of one.undo.was other.undo.was one.matches other.matches h q
says-widen k version.Two one other h q = k.widen one other h q
says-widen k version.Three one other h q = k.widen one other h q

may-step : MatchLaws → (v : Version) (watch : List (List ℕ)) (c : Command) (s : State) → WatchIsFormed v watch → SaysAsTold v s → IfOk (step watch c s) (MayBeTold v)
may-step k version.One watch c s g h = always (step watch c s)
  where
    always : (r : Result State Fault) → IfOk r (λ (_ : State). Unit {0})
    always (Ok t) = tt
    always (Err f) = tt
may-step k version.Two watch c s g h = k.command watch c s g h
may-step k version.Three watch c s g h = k.command watch c s g h

may-entry : MatchLaws → (v : Version) (verb : Verb) (invariant : State) → VerbIsBytes verb → SaysAsTold v invariant → MayBeTold v (body_entry verb invariant)
may-entry k version.One verb invariant b h = tt
may-entry k version.Two verb invariant b h = k.entry verb invariant b h
may-entry k version.Three verb invariant b h = k.entry verb invariant b h

may-once : MatchLaws → (v : Version) (c : Command) (invariant : State) → VerbIsBytes c.verb → SaysAsTold v invariant → IfSome (once_by v c invariant) (MayBeTold v)
may-once k version.One c invariant b h = tt
may-once k version.Two c invariant b h = tt
may-once k version.Three c invariant b h = k.once c invariant b h

ended-once : Laws → (v : Version) (c : Command) (invariant : State) → IsFormed invariant → IfSome (once_by v c invariant) IsEnded
ended-once k version.One c invariant h = tt
ended-once k version.Two c invariant h = tt
ended-once k version.Three c invariant h = k.once c invariant h

may-end : MatchLaws → (v : Version) (x : Step) (before invariant : State) → SaysAsTold v before → SaysAsTold v invariant → MayBeTold v (loop_end x before invariant)
may-end k version.One x before invariant h q = tt
may-end k version.Two x before invariant h q = k.end x before invariant h q
may-end k version.Three x before invariant h q = k.end x before invariant h q

-- WHAT IS KNOWN of a state, and of one at the start or at a rule's end

pub record Holds (v : Version) (s : State) : Type 0 where
  pub formed : IsFormed s
  pub says : SaysAsTold v s
  pub lines : LinesAreTold v s

pub record HoldsAtEnd (v : Version) (s : State) : Type 0 where
  pub ended : IsEnded s
  pub says : SaysAsTold v s
  pub lines : LinesAreTold v s

holds-at_end : (v : Version) (s : State) → HoldsAtEnd v s → Holds v s
holds-at_end v s h = record { formed = h.ended.formed; says = h.says; lines = h.lines }

-- of what is known of a list, and of a note
abbrev pub LoopedHolds : Version → Option Looped → Type 0
LoopedHolds v None = Unit {0}
LoopedHolds v (Some l) = Holds v l.invariant × All (Holds v) l.inner

abbrev pub NoteHolds : Version → Note → Type 0
NoteHolds v n = Holds v n.state × LoopedHolds v n.looped

module _ (k : Laws) (m : MatchLaws) (w : Sight) (watch : WatchIsFormed w.version w.watch) where
  -- LISTS

  left-holds : (s : State) (r : Result State Fault) → Holds w.version s → IfOk r IsEnded → IfOk r (MayBeTold w.version) →
      IfOk r (MayFollow w.version) → Holds w.version (told w (elim r as (λ _. State) [ Ok t ↦ t | Err f ↦ s ]))
  left-holds s (Ok t) h q r f = record { formed = formed-told w t q.formed; says = says-told w.version t r; lines = lines-told w t f }
  left-holds s (Err fault) h q r f = record {
    formed = formed-told w s h.formed;
    says = says-told w.version s (may-told w.version s h.says);
    lines = lines-told w s (may-follow w.version s h.lines);
  }

  step-holds : (c : Command) (s : State) → TextsAreBytes c → Holds w.version s → Holds w.version (left_by w c s)
  unfolding left_by
  step-holds c s b h =
      left-holds s (step w.watch c s) h (k.command w.watch c s b h.formed) (may-step m w.version w.watch c s watch h.says)
      (follow-step w.version w.watch c s (may-follow w.version s h.lines))

  left-ends : (s : State) (r : Result State Fault) → HoldsAtEnd w.version s → IfOk r IsEnded → IfOk r (MayBeTold w.version) →
      IfOk r (MayFollow w.version) → HoldsAtEnd w.version (told w (elim r as (λ _. State) [ Ok t ↦ t | Err f ↦ s ]))
  left-ends s (Ok t) h q r f = record { ended = ended-told w t q; says = says-told w.version t r; lines = lines-told w t f }
  left-ends s (Err fault) h q r f = record {
    ended = ended-told w s h.ended;
    says = says-told w.version s (may-told w.version s h.says);
    lines = lines-told w s (may-follow w.version s h.lines);
  }

  step-ends : (c : Command) (s : State) → TextsAreBytes c → HoldsAtEnd w.version s → HoldsAtEnd w.version (left_by w c s)
  unfolding left_by
  step-ends c s b h =
      left-ends s (step w.watch c s) h (k.command w.watch c s b h.ended.formed) (may-step m w.version w.watch c s watch h.says)
      (follow-step w.version w.watch c s (may-follow w.version s h.lines))

  list-holds : (cs : List Command) (s : State) → All TextsAreBytes cs → Holds w.version s → Holds w.version (left_by_list w cs s)
  list-holds [] s b h = h
  list-holds (c ∷ cs) s b h = list-holds cs (left_by w c s) (All-tail TextsAreBytes c cs b) (step-holds c s (All-head TextsAreBytes c cs b) h)

  told-holds : (s : State) → IsEnded s → MayBeTold w.version s → MayFollow w.version s → Holds w.version (told w s)
  told-holds s ended says follows = record { formed = formed-told w s ended.formed; says = says-told w.version s says; lines = lines-told w s follows }

  entry-by : (body : State) (once : Option State) → Holds w.version (told w body) → IfSome once IsEnded → IfSome once (MayBeTold w.version) →
      IfSome once (MayFollow w.version) → Holds w.version (told w (elim once as (λ _. State) [ None ↦ body | Some entry ↦ entry ]))
  entry-by body None h ended says follows = h
  entry-by body (Some entry) h ended says follows = told-holds entry ended says follows

  entry-holds : (x : Step) (invariant : State) → StepIsBytes x → Holds w.version invariant → Holds w.version (entry_of w x invariant)
  entry-holds x invariant b h =
      let c : Command = x.command in
      let follows = may-follow w.version invariant h.lines in
      entry-by (body_entry c.verb invariant) (once_by w.version c invariant)
      (told-holds (body_entry c.verb invariant) (k.entry c.verb invariant h.formed) (may-entry m w.version c.verb invariant b.0.1 h.says)
      (follow-entry w.version c.verb invariant follows))
      (ended-once k w.version c invariant h.formed) (may-once m w.version c invariant b.0.1 h.says) (follow-once w.version c invariant follows)

  round-holds : (x : Step) (first : State) (n : ℕ) → StepIsBytes x → Holds w.version first → Holds w.version (round_invariant w x first n)
  round-holds x first zero b h = h
  round-holds x first (suc n) b h =
      let invariant : State = round_invariant w x first n in
      let before : Holds w.version invariant = round-holds x first n b h in
      let after : Holds w.version (turned w x invariant) = list-holds x.list (entry_of w x invariant) b.1 (entry-holds x invariant b before) in
      either (Holds w.version) (nat_lt n 2) _ _
      (record {
        formed = k.join _ _ before.formed after.formed;
        says = says-join m w.version _ _ before.says after.says;
        lines = lines-join w.version _ _ before.lines after.lines;
      })
      (record {
        formed = k.widen _ _ before.formed after.formed;
        says = says-widen m w.version _ _ before.says after.says;
        lines = lines-widen w.version _ _ before.lines after.lines;
      })

  inner-hold : (cs : List Command) (s : State) (ts : List State) → All TextsAreBytes cs → Holds w.version s → AreInner w cs s ts → All (Holds w.version) ts
  inner-hold [] s [] b h i = All-nil (Holds w.version)
  inner-hold [] s (t ∷ ts) b h i = absurd i
  inner-hold (c ∷ cs) s [] b h i = absurd i
  inner-hold (c ∷ cs) s (t ∷ ts) b h i =
      All-cons (Holds w.version) t ts (subst (Holds w.version) (sym i.0) h)
      (inner-hold cs (left_by w c s) ts (All-tail TextsAreBytes c cs b) (step-holds c s (All-head TextsAreBytes c cs b) h) i.2)

  -- COMMANDS WITH THEIR NOTES

  end-holds : (x : Step) (s invariant : State) → HoldsAtEnd w.version s → Holds w.version invariant → HoldsAtEnd w.version (told w (loop_end x s invariant))
  end-holds x s invariant h q = record {
    ended = ended-told w (loop_end x s invariant) (k.end x s invariant h.ended.formed q.formed);
    says = says-told w.version (loop_end x s invariant) (may-end m w.version x s invariant h.says q.says);
    lines = lines-told w (loop_end x s invariant) (follow-end w.version x s invariant (may-follow w.version invariant q.lines));
  }

  after-holds : (global : Bool) (x : Step) (s : State) (l : Option Looped) → StepIsBytes x → HoldsAtEnd w.version s → IsKnownOfList w global x s l →
      LoopedHolds w.version l × HoldsAtEnd w.version (left_after w l x s)
  after-holds false x s None b h i = (tt, step-ends x.command s b.0 h)
  after-holds false x s (Some l) b h i = absurd i
  after-holds true x s None b h i = absurd i
  after-holds true x s (Some l) b h i =
      let first : Holds w.version (left_by w x.command s) = step-holds x.command s b.0 (holds-at_end w.version s h) in
      let invariant : Holds w.version l.invariant =
      subst (λ (u : State). Holds w.version u) (sym i.0.is) (round-holds x (left_by w x.command s) i.0.before b first) in (
        (invariant, inner-hold x.list (entry_of w x l.invariant) l.inner b.1 (entry-holds x l.invariant b invariant) i.1),
        end-holds x s (after_turns w x l) h
            (subst (λ (u : State). Holds w.version u) (sym (after-of_round w x l i.1))
            (either (Holds w.version) (runs_once w x l.invariant) (turned w x l.invariant) l.invariant
            (list-holds x.list (entry_of w x l.invariant) b.1 (entry-holds x l.invariant b invariant)) invariant)),
      )

  notes-hold : (xs : List Step) (s : State) (ns : List Note) → All StepIsBytes xs → HoldsAtEnd w.version s → AreNotes w xs s ns →
      All (NoteHolds w.version) ns × HoldsAtEnd w.version (result_from w xs s ns)
  notes-hold [] s [] b h i = (All-nil (NoteHolds w.version), h)
  notes-hold [] s (n ∷ ns) b h i = absurd i
  notes-hold (x ∷ xs) s [] b h i = absurd i
  notes-hold (x ∷ xs) s (n ∷ ns) b h i =
      let here = after-holds (is_global x.command.verb) x s n.looped (All-head StepIsBytes x xs b) h i.0.list in
      let later = notes-hold xs (left_after w n.looped x s) ns (All-tail StepIsBytes x xs b) here.1 i.1 in
      (All-cons (NoteHolds w.version) n ns (subst (Holds w.version) (sym i.0.state) (holds-at_end w.version s h), here.0) later.0, later.1)

counted-if : (ends : Bool) (x : Step) (xs : List Step) → StepIsBytes x → All StepIsBytes (counted xs) → All StepIsBytes (x ∷ (elim ends as (λ _. List Step) [ true ↦ [] | false ↦ counted xs ]))
counted-if true x xs h b = All-cons StepIsBytes x [] h (All-nil StepIsBytes)
counted-if false x xs h b = All-cons StepIsBytes x (counted xs) h b

counted-bytes : (xs : List Step) → All StepIsBytes xs → All StepIsBytes (counted xs)
counted-bytes [] b = b
counted-bytes (x ∷ xs) b = counted-if (ends_run x.command.verb) x xs (All-head StepIsBytes x xs b) (counted-bytes xs (All-tail StepIsBytes x xs b))

-- A SCRIPT

pub sight-version : (script : Script) (v : Version) (has : List (List ℕ)) → (sight_of script v has).version ≡ v
sight-version script version.One has = refl
sight-version script version.Two has = refl
sight-version script version.Three has = refl

watch-formed : MatchLaws → (script : Script) (v : Version) (has : List (List ℕ)) → All StepIsBytes script.steps → TextsAreFormed has →
    WatchIsFormed (sight_of script v has).version (sight_of script v has).watch
watch-formed k script version.One has b h = tt
watch-formed k script version.Two has b h = k.watched false script has b h
watch-formed k script version.Three has b h = k.watched true script has b h

-- what is known of landmarks says nothing of matches, and follows their lines
may-began : (v : Version) (letters : List ℕ) (chains : List (List Landmark)) (s : State) → MatchesAreFormed s →
    MayBeTold v (began v letters chains s)
may-began version.One letters chains s h = tt
may-began version.Two letters chains s h = h
may-began version.Three letters chains s h = record { has = h.has; old_has = h.old_has; of_lines = h.of_lines }

follow-began : (v : Version) (letters : List ℕ) (chains : List (List Landmark)) (s : State) → MayFollow v (began v letters chains s)
follow-began version.One letters chains s = tt
follow-began version.Two letters chains s = tt
follow-began version.Three letters chains s = refl

begun-holds : Laws → MatchLaws → (script : Script) (start : Start) → ChoiceIsBytes start.path → TextsAreFormed (stated_of start.has) →
    HoldsAtEnd (version_of script start) (told_by (version_of script start)
    (knowing script start (states.start start.path start.min start.max (stated_of start.has))))
unfolding knowing
begun-holds k m script start path has =
    let v : Version = version_of script start in
    let chains : List (List Landmark) = landmarks_of (chains_of_start script start) in
    let letters : List ℕ = letters_of_chains script chains in
    let s : State = states.start start.path start.min start.max (stated_of start.has) in
    let t : State = began v letters chains s in
    record {
      ended = ended-told_by v t (ended-left v script chains s (k.start start.path start.min start.max (stated_of start.has) path));
      says = says-told v t (may-began v letters chains s (m.start start.path start.min start.max (stated_of start.has) has));
      lines = lines-told_by v t (follow-began v letters chains s);
    }

-- so it is of the notes of a script, and at its end it is known that there are at least 0 lines
pub script-holds : Laws → MatchLaws → (script : Script) (start : Start) (notes : List Note) → All StepIsBytes script.steps → ChoiceIsBytes start.path → TextsAreFormed (stated_of start.has) →
    AreNotes (sight_over script start) (counted script.steps) (begun script start) notes →
    All (NoteHolds (version_of script start)) notes × HoldsAtEnd (version_of script start) (result_from (sight_over script start) (counted script.steps) (begun script start) notes)
script-holds k m script start notes bytes path has h =
    let v : Version = version_of script start in
    let w : Sight = sight_over script start in
    let same : w.version ≡ v = sight-version script v (stated_of start.has) in
    let s : State = knowing script start (states.start start.path start.min start.max (stated_of start.has)) in
    let begins : HoldsAtEnd w.version (begun script start) =
    subst (λ (u : Version). HoldsAtEnd u (told_by u s)) (sym same) (begun-holds k m script start path has) in
    subst (λ (u : Version). All (NoteHolds u) notes × HoldsAtEnd u (result_from w (counted script.steps) (begun script start) notes)) same
    (notes-hold k m w (watch-formed m script v (stated_of start.has) bytes has) (counted script.steps) (begun script start) notes
    (counted-bytes script.steps bytes) begins h)
