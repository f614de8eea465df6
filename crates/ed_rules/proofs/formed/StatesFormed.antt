-- States stay formed: the start, each rule, join and widening, the list of a global command.
use Rattle.std.proofs.Common.{ℕ, pos, neg_ℤ, Bool, true, false, List, Option, Some, None, option_map, find, refl}
use Rattle.std.specs.Prelude.{IfOk, IfSome}
use Rattle.zones.specs.Zone.{Bounds}
use Rattle.ed_syntax.specs.Commands as ed
use Rattle.ed_syntax.specs.declared.command.Sense.TheVariants as sense
use Rattle.ed_syntax.specs.Commands.{Addresses, Without, Verb, Command, Step}
use Rattle.ed_syntax.specs.meaning.Verbs.{takes}
use Rattle.ed_rules.specs.declared.known_matches.Matches.{Matches}
use Rattle.ed_rules.specs.declared.state.Undo.{Undo}
use Rattle.ed_rules.specs.declared.state.State.{State}
use Rattle.ed_rules.specs.Choices.{Choice}
use Rattle.ed_rules.specs.Marks.{no_marks}
use Rattle.ed_rules.specs.Formed.{ChoiceIsBytes, TextsAreBytes, IsFormed, IsEnded}
use Rattle.ed_rules.specs.States.{start}
use Rattle.ed_rules.specs.Order.{join, widen}
use Rattle.ed_rules.specs.Pieces.{with_zone}
use Rattle.ed_rules.specs.Rules.{effect, step}
use Rattle.ed_rules.specs.Globals.{taken_matches, facts_taken, entry_with, only_line, line_known, facts_known, line_entry, once_by, once_entry, with_old, finished, line_taken, body_entry, list_may_alter, old_if, undo_of_global, loop_end}
use Rattle.ed_rules.specs.Matching.{saying, matches_after}
use Rattle.ed_rules.specs.FactsAfter.{facts_after}
use Rattle.ed_rules.specs.facts.Facts.{Facts}
use Rattle.ed_rules.specs.Following.{spoken_facts}
use Rattle.ed_rules.specs.facts.FoundLines.{is_only, witnesses}
use Rattle.ed_rules.proofs.Basics.{IfSome-mapped}
use Rattle.ed_rules.proofs.formed.SpeakingFound.{Inner-line_known}
use Rattle.ed_rules.proofs.formed.SpeakingPieces.{Inner, Speaks-start, Inner-line_taken}
use Rattle.ed_rules.proofs.formed.RisingChoices.{SetIsFormed-only}
use Rattle.ed_rules.proofs.formed.CountedLines.{start-counted}
use Rattle.std.proofs.lemmas.Result.{IfOk-weaker}
use Rattle.ed_rules.proofs.formed.Forming.{OldSpeaks, Forming, Closed, Closed-forming, formed-Closed, Closed-formed, forming-zone, AtEnd}
use Rattle.ed_rules.proofs.formed.Forming.{forming-change, finished-AtEnd, AtEnd-ended, Closed-join, Closed-widen}
use Rattle.ed_rules.proofs.through.Effects.{effect-through}
use Rattle.ed_rules.proofs.through.Steps.{rule-through}
use Rattle.ed_rules.proofs.formed.GivenBytes.{TextIsBytes, sought-bytes, pattern-bytes, path-bytes}
use Rattle.ed_rules.proofs.formed.FormingPieces.{forming-at, forming-kept}

Closed-start : (path : Choice) (min : ℕ) (max : Option ℕ) (has : List (List ℕ)) → ChoiceIsBytes path → Closed (start path min max has)
unfolding start
Closed-start path min max has b = record {
  letters = refl;
  zone = Speaks-start no_marks max (neg_ℤ (pos min));
  aside = record { patterns_are = SetIsFormed-only None tt; kind = refl; names_are = SetIsFormed-only path b; flag = refl; past = refl; old = tt };
}

pub start-formed : (path : Choice) (min : ℕ) (max : Option ℕ) (has : List (List ℕ)) → ChoiceIsBytes path → IsEnded (start path min max has)
unfolding start
start-formed path min max has b =
    record { formed = Closed-formed (start path min max has) (Closed-start path min max has b); counted = start-counted min max }

-- what is known of matches and of single lines is said beside

matching-ended : (s : State) (m : Matches) (facts : Facts) → AtEnd s → AtEnd (saying m facts s)
matching-ended s m facts h = (record { letters = h.0.letters; zone = h.0.zone; aside = h.0.aside }, h.1)

matching-forming : (s : State) (m : Matches) (facts : Facts) → Forming s → Forming (saying m facts s)
matching-forming s m facts h = record { letters = h.letters; zone = h.zone; aside = h.aside }

pub join-formed : (one other : State) → IsFormed one → IsFormed other → IsFormed (join one other)
join-formed one other h k = Closed-formed (join one other) (Closed-join one other (formed-Closed one h) (formed-Closed other k))

pub widen-formed : (old new : State) → IsFormed old → IsFormed new → IsFormed (widen old new)
widen-formed old new h k = Closed-formed (widen old new) (Closed-widen old new (formed-Closed old h) (formed-Closed new k))

-- THE LIST OF A GLOBAL COMMAND

entered-formed : (verb : Verb) (invariant : State) (zone : Bounds) (facts : Facts) → Forming invariant → Inner invariant.marks zone →
    IsEnded (entry_with verb invariant zone facts)
entered-formed verb invariant zone facts f inner =
    let t : State = with_zone zone invariant in
    let m : Matches = record invariant.matches { has = taken_matches verb invariant.matches.has } in
    AtEnd-ended (finished (saying m facts t)) (finished-AtEnd (saying m facts t) (matching-forming t m facts (forming-zone invariant zone inner f)))

pub entry-formed : (verb : Verb) (invariant : State) → IsFormed invariant → IsEnded (body_entry verb invariant)
entry-formed verb invariant h =
    let f : Forming invariant = Closed-forming invariant (formed-Closed invariant h) in
    entered-formed verb invariant (line_taken invariant.zone) (facts_taken verb invariant) f (Inner-line_taken invariant.marks invariant.zone f.zone)

only-formed : (verb : Verb) (invariant : State) → Forming invariant → IfSome (option_map (λ v. line_entry v verb invariant) (only_line verb invariant)) IsEnded
only-formed (ed.Global sense.Matching (Some text)) invariant f =
    let verb : Verb = ed.Global sense.Matching (Some text) in
    let facts : Facts = spoken_facts invariant.marks invariant.facts in
    IfSome-mapped (λ v. line_entry v verb invariant) IsEnded (find (is_only invariant.zone facts text) (witnesses facts text))
    (λ v found. entered-formed verb invariant (line_known v invariant.zone) (facts_known v verb invariant) f
    (Inner-line_known invariant.marks invariant.zone invariant.facts text v found f.zone))
only-formed (ed.Global sense.Matching None) invariant f = tt
only-formed (ed.Global sense.Others pattern) invariant f = tt
only-formed _ invariant f = tt

once-by : (given : Addresses) (verb : Verb) (invariant : State) → Forming invariant → IfSome (once_by given verb invariant) IsEnded
once-by Without verb invariant f = only-formed verb invariant f
once-by _ verb invariant f = tt

pub once-formed : (c : Command) (invariant : State) → IsFormed invariant → IfSome (once_entry c invariant) IsEnded
once-formed c invariant h = once-by c.addresses c.verb invariant (Closed-forming invariant (formed-Closed invariant h))

old_if-speaks : (b : Bool) (before : State) → Closed before → OldSpeaks (old_if b before)
old_if-speaks true before h = (h.letters, h.zone)
old_if-speaks false before h = tt

pub end-formed : (x : Step) (before invariant : State) → IsFormed before → IsFormed invariant → IsEnded (loop_end x before invariant)
end-formed x before invariant h k =
    let f : Forming invariant = Closed-forming invariant (formed-Closed invariant k) in
    let u : Undo = undo_of_global x.list before in
    let m : Matches = with_old (list_may_alter x.list) before invariant.matches in
    let t : State = record invariant { undo = u; matches = m } in
    let g : Forming (record invariant { undo = u }) =
    forming-change invariant invariant.changed u f.aside.flag refl
    (old_if-speaks (list_may_alter x.list) before (formed-Closed before h)) f in
    AtEnd-ended (finished t) (finished-AtEnd t (record { letters = g.letters; zone = g.zone; aside = g.aside }))

-- ONE COMMAND

pub command-formed : (watched : List (List ℕ)) (c : Command) (s : State) → TextsAreBytes c → IsFormed s → IfOk (step watched c s) IsEnded
command-formed watched c s b h =
    let closed : Closed s = formed-Closed s h in
    IfOk-weaker (step watched c s) AtEnd IsEnded AtEnd-ended
    (rule-through Forming TextIsBytes forming-at AtEnd watched c s (sought-bytes c b) (Closed-forming s closed)
    (λ u k. IfOk-weaker (effect c.listed c.addresses c.verb s u) Forming _
    (λ r q. matching-ended (finished r) (matches_after watched c.listed c.addresses (takes c.verb).lines s u) (facts_after watched c.listed c.addresses c.verb u r)
    (finished-AtEnd r q))
    (effect-through Forming TextIsBytes TextIsBytes (Unit {0}) s (forming-kept s closed) c.listed c.addresses c.verb u
    (pattern-bytes c.verb b.1) (path-bytes c.verb b.1) (λ _. tt) k)))
