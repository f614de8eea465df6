-- What states say of matches stays formed: the start, each rule, join and widening, the list of a global command.
use Rattle.std.proofs.Common.{ℕ, Bool, true, false, List, [], ◌∷◌, Option, None, Some, IfOk, refl, sym, subst}
use Rattle.std.specs.Prelude.{All, IfSome}
use Rattle.std.specs.List.{flat_map}
use Rattle.std.proofs.lemmas.List.Concat.{flat_map-cons}
use Rattle.std.proofs.lemmas.List.Elements.{All-nil, All-head, All-tail, All-append, All-map}
use Rattle.std.proofs.lemmas.Result.{IfOk-weaker}
use Rattle.ed_syntax.specs.Commands as ed
use Rattle.zones.specs.Zone.{Bounds}
use Rattle.ed_syntax.specs.Commands.{Addresses, Without, Verb, Command, Step, Script}
use Rattle.ed_syntax.specs.meaning.Verbs.{takes}
use Rattle.ed_syntax.specs.declared.command.Sense.TheVariants as sense
use Rattle.ed_rules.specs.declared.state.State.{State}
use Rattle.ed_rules.specs.Choices.{Choice}
use Rattle.ed_rules.specs.Matched.{sought, asked_for, given_by, given_by_step, given_in, watched}
use Rattle.ed_rules.specs.Formed.{ChoiceIsBytes, VerbIsBytes, TextsAreBytes, TextsAreFormed, IsOfLines, MatchesAreFormed}
use Rattle.ed_rules.specs.States.{start}
use Rattle.ed_rules.specs.Order.{join, widen}
use Rattle.ed_rules.specs.Rules.{effect, step}
use Rattle.ed_rules.specs.Globals.{line_taken, taken_matches, facts_taken, entry_with, body_entry, only_line, line_known, facts_known, line_entry, once_by, once_entry, old_if, old_has_if, list_may_alter, loop_end}
use Rattle.ed_rules.specs.facts.Facts.{Facts}
use Rattle.ed_rules.proofs.Basics.{IfSome-mapped}
use Rattle.ed_rules.proofs.formed.GivenBytes.{TextIsBytes, sought-bytes, asked-bytes}
use Rattle.ed_rules.proofs.formed.RisingTexts.{none-formed, filter-formed, with_text-formed, with_texts-formed}
use Rattle.ed_rules.proofs.matches.OldMatches.{both-of_lines, effect-of_lines}
use Rattle.ed_rules.proofs.matches.Sayings.{OfSets, AreSaid, Says, says-after, says-join, says-widen, says-entry}
use Rattle.ed_rules.proofs.through.Needs.{Any, all-any}
use Rattle.ed_rules.proofs.through.Addresses.{Property, Of, beside}
use Rattle.ed_rules.proofs.through.Steps.{rule-through}

pub start-matches : (path : Choice) (min : ℕ) (max : Option ℕ) (has : List (List ℕ)) → TextsAreFormed has → MatchesAreFormed (start path min max has)
unfolding start
start-matches path min max has h = record { has = h; old_has = none-formed; of_lines = refl }

formed-sets : OfSets TextsAreFormed
formed-sets = record { none = none-formed; some = filter-formed; more = λ new set h k. with_texts-formed new set h.bytes k }

says-of : (s : State) → MatchesAreFormed s → Says TextsAreFormed s
says-of s h = (h.has, h.old_has)

-- ONE COMMAND

pub command-matches : (watched : List (List ℕ)) (c : Command) (s : State) → TextsAreFormed watched → MatchesAreFormed s → IfOk (step watched c s) MatchesAreFormed
command-matches watched c s w h =
    let Q : Property = λ _ _ undo m. AreSaid TextsAreFormed m × IsOfLines undo.was m.old_has in
    rule-through (Of Q) Any (beside Q Any (λ t text _ q. q)) MatchesAreFormed watched c s (all-any (sought c))
    (says-of s h, h.of_lines)
    (λ u k. let says = says-after TextsAreFormed formed-sets watched c.listed c.addresses (takes c.verb).lines s u w (says-of s h) k.0 in
    IfOk-weaker (effect c.listed c.addresses c.verb s u) _ _
    (λ r old. record { has = says.0; old_has = says.1; of_lines = old })
    (effect-of_lines watched c.addresses s u k.1 c.listed c.verb))

-- TWO STATES

pub join-matches : (one other : State) → MatchesAreFormed one → MatchesAreFormed other → MatchesAreFormed (join one other)
unfolding join
join-matches one other h k =
    let both = says-join TextsAreFormed formed-sets one other (says-of one h) (says-of other k) in
    let lines = both-of_lines one.undo.was other.undo.was one.matches.old_has other.matches.old_has h.of_lines k.of_lines in
    record { has = both.0; old_has = both.1; of_lines = lines }

pub widen-matches : (old new : State) → MatchesAreFormed old → MatchesAreFormed new → MatchesAreFormed (widen old new)
unfolding widen
widen-matches old new h k =
    let both = says-widen TextsAreFormed formed-sets old new (says-of old h) (says-of new k) in
    let lines = both-of_lines old.undo.was new.undo.was old.matches.old_has new.matches.old_has h.of_lines k.of_lines in
    record { has = both.0; old_has = both.1; of_lines = lines }

-- THE LIST OF A GLOBAL COMMAND

taken-formed : (verb : Verb) → VerbIsBytes verb → TextsAreFormed (taken_matches verb [])
taken-formed (ed.Global sense.Matching (Some text)) b = with_text-formed text [] b.1 none-formed
taken-formed (ed.Global sense.Matching None) b = none-formed
taken-formed (ed.Global sense.Others pattern) b = none-formed
taken-formed verb b = none-formed

entered-matches : (verb : Verb) (invariant : State) (zone : Bounds) (facts : Facts) → VerbIsBytes verb → MatchesAreFormed invariant →
    MatchesAreFormed (entry_with verb invariant zone facts)
entered-matches verb invariant zone facts b h =
    let says = says-entry TextsAreFormed formed-sets verb invariant zone facts (taken-formed verb b) (says-of invariant h) in
    record { has = says.0; old_has = says.1; of_lines = h.of_lines }

pub entry-matches : (verb : Verb) (invariant : State) → VerbIsBytes verb → MatchesAreFormed invariant → MatchesAreFormed (body_entry verb invariant)
entry-matches verb invariant b h = entered-matches verb invariant (line_taken invariant.zone) (facts_taken verb invariant) b h

once-by : (given : Addresses) (verb : Verb) (invariant : State) → VerbIsBytes verb → MatchesAreFormed invariant →
    IfSome (once_by given verb invariant) MatchesAreFormed
once-by Without verb invariant b h =
    IfSome-mapped (λ v. line_entry v verb invariant) MatchesAreFormed (only_line verb invariant)
    (λ v _. entered-matches verb invariant (line_known v invariant.zone) (facts_known v verb invariant) b h)
once-by _ verb invariant b h = tt

pub once-matches : (c : Command) (invariant : State) → VerbIsBytes c.verb → MatchesAreFormed invariant → IfSome (once_entry c invariant) MatchesAreFormed
once-matches c invariant b h = once-by c.addresses c.verb invariant b h

old-formed : (b : Bool) (before : State) → MatchesAreFormed before → TextsAreFormed (old_has_if b before)
old-formed true before h = h.has
old-formed false before h = none-formed

old-of_lines : (b : Bool) (before : State) → IsOfLines (old_if b before) (old_has_if b before)
old-of_lines true before = tt
old-of_lines false before = refl

pub end-matches : (x : Step) (before invariant : State) → MatchesAreFormed before → MatchesAreFormed invariant → MatchesAreFormed (loop_end x before invariant)
end-matches x before invariant h k =
    record { has = k.has; old_has = old-formed (list_may_alter x.list) before h; of_lines = old-of_lines (list_may_alter x.list) before }

-- WHAT IS WATCHED

flat-bytes : {A : Type 0} (P : A → Type 0) (f : A → List (List ℕ)) → ((x : A) → P x → All TextIsBytes (f x)) → (xs : List A) → All P xs → All TextIsBytes (flat_map f xs)
flat-bytes P f b [] h = All-nil TextIsBytes
flat-bytes P f b (x ∷ xs) h =
    subst (λ (texts : List (List ℕ)). All TextIsBytes texts) (sym (flat_map-cons f x xs))
    (All-append TextIsBytes (f x) (flat_map f xs) (b x (All-head P x xs h)) (flat-bytes P f b xs (All-tail P x xs h)))

abbrev StepIsBytes : Step → Type 0
StepIsBytes x = TextsAreBytes x.command × All TextsAreBytes x.list

command-bytes : (follows : Bool) (c : Command) → TextsAreBytes c → All TextIsBytes (given_by follows c)
command-bytes true c h =
    All-append TextIsBytes (sought c) (asked_for (takes c.verb).pattern) (sought-bytes c h) (asked-bytes (takes c.verb).pattern h.1.1)
command-bytes false c h = sought-bytes c h

step-bytes : (follows : Bool) (x : Step) → StepIsBytes x → All TextIsBytes (given_by_step follows x)
step-bytes follows x h =
    All-append TextIsBytes (given_by follows x.command) (flat_map (given_by follows) x.list) (command-bytes follows x.command h.0)
    (flat-bytes TextsAreBytes (given_by follows) (command-bytes follows) x.list h.1)

pub watched-formed : (follows : Bool) (script : Script) (has : List (List ℕ)) → All StepIsBytes script.steps → TextsAreFormed has → TextsAreFormed (watched follows script has)
watched-formed follows script has b h =
    with_texts-formed (given_in follows script) has
    (All-map ChoiceIsBytes (λ text. Some text) (given_in follows script) (flat-bytes StepIsBytes (given_by_step follows) (step-bytes follows) script.steps b)) h
