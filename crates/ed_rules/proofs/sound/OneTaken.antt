-- The list of a `g` that takes one line alone is run for that line, and for no other.
use Rattle.std.proofs.Common.{◌≡◌, ◌<◌, ◌≤◌, ◌+◌, ◌-◌, ◌+ℤ◌, ℕ, pos, Bool, true, false, List, [], map, take, drop, length, get_or, find, Option, None, Some, option_map, Result, Ok, All, arith, refl, ◌∙◌, sym, ap, subst}
use Rattle.std.specs.Prelude.{IfSome}
use Rattle.std.proofs.lemmas.Int.{ints}
use Rattle.std.proofs.lemmas.Bool.{false≢true}
use Rattle.std.proofs.lemmas.List.{drop_all}
use Rattle.std.proofs.lemmas.List.Elements.{All-nil, All-append, All-map}
use Rattle.std.proofs.lemmas.List.Quantifiers.{position-Some}
use Rattle.ed_base.specs.declared.fault.Fault.{Fault}
use Rattle.ed_base.specs.Buffer.{Line, plain_line, flagged_at, flagged_place}
use Rattle.ed_base.specs.Parts.{between, replaced}
use Rattle.zones.specs.Zone.{Numbers, Holds, updated}
use Rattle.ed_syntax.specs.Commands as ed
use Rattle.ed_syntax.specs.Commands.{Addresses, Without, One, Comma, Semicolon, Verb, Command}
use Rattle.ed_syntax.specs.declared.command.Sense.TheVariants as sense
use Rattle.ed_syntax.specs.declared.request.Answer.{Answer}
use Rattle.ed_syntax.specs.meaning.States as editor
use Rattle.ed_syntax.specs.meaning.States.{Kept}
use Rattle.ed_syntax.specs.meaning.Verbs.{is_global, takes, given_or}
use Rattle.ed_syntax.specs.meaning.Values.{◌>>◌, values, matches, matches_line}
use Rattle.ed_syntax.specs.meaning.Ranges.{spanned}
use Rattle.ed_syntax.specs.meaning.Effects.{Outcome, Effect, Makes}
use Rattle.ed_syntax.specs.meaning.Globals.{flagged_line, opened, taken_at, next_taken}
use Rattle.ed_syntax.specs.meaning.Applied.{targeted, effect_of, suffix_written, completed, command}
use Rattle.ed_rules.specs.declared.state.State.{State}
use Rattle.ed_rules.specs.StandsFor.{StandsFor}
use Rattle.ed_rules.specs.Following.{facts_set, spoken_facts}
use Rattle.ed_rules.specs.Globals.{line_known, facts_known, line_entry, once_by, once_entry}
use Rattle.ed_rules.specs.GlobalSoundness.{FlaggedPass, is_taken_by, passes_none, HasNoFlags, TakenHaveFlags, OnceIsSound}
use Rattle.ed_rules.specs.facts.Facts.{Facts, FactsHold, ReadsEnds, IsTold}
use Rattle.ed_rules.specs.facts.FoundLines.{is_only, witnesses}
use Rattle.ed_rules.specs.facts.OneTurn.{IsTakenOnce}
use Rattle.ed_rules.proofs.facts.FoundLines.{IsWitness, witnesses-true, find-gives}
use Rattle.ed_rules.proofs.facts.OneTurn.{some-of, taken-once}
use Rattle.ed_rules.proofs.sound.Following.{facts-set, spoken-holds}
use Rattle.ed_rules.proofs.sound.Outcomes.{always, OnMade, OnMade-bind}
use Rattle.ed_rules.proofs.sound.Commanding.{command-is}
use Rattle.ed_rules.proofs.sound.FlagsKept.{taken-have-flags, none-taken}
use Rattle.ed_rules.proofs.sound.Looping.{Laws, taken-from, Holds-line_known, entered-hold, entry-stands}

-- ALL LINES THAT MATCH HAVE THE FLAG

abbrev MatchingFlagged : (text : List ℕ) → List Line → Type 0
MatchingFlagged text lines = All (λ (line : Line). matches text line.bytes ≡ true → line.flag ≡ true) lines

-- where all lines are gone over
flags-each : (text : List ℕ) (ls : List Line) →
    MatchingFlagged text (replaced 1 (length ls) (map (flagged_line sense.Matching text) (between 1 (length ls) ls)) ls)
flags-each text ls =
    let HasFlag : Line → Type 0 = λ (line : Line). matches text line.bytes ≡ true → line.flag ≡ true in
    let n : ℕ = length ls in
    All-append HasFlag (map (flagged_line sense.Matching text) (take n ls)) (drop n ls)
    (All-map HasFlag (flagged_line sense.Matching text) (take n ls) (λ i d inside m. m))
    (subst (λ (rest : List Line). All HasFlag rest) (sym (drop_all n ls (omega arith))) (All-nil HasFlag))

-- as they are without addresses
flags-made : (c : Command) (e : editor.State) (given : Option Answer) (text : List ℕ) → c.addresses ≡ Without →
    c.verb ≡ ed.Global sense.Matching (Some text) → OnMade (λ (o : Outcome). MatchingFlagged text o.state.lines) (command e c given)
flags-made c e given text no_address is_verb =
    let Left : Outcome → Type 0 = λ (o : Outcome). MatchingFlagged text o.state.lines in
    let phases : Addresses → Verb → Result Effect Fault = λ (a : Addresses) (verb : Verb).
    values (given_or a (takes verb).default) e >> λ v. targeted (takes verb).target v.0 >> λ q. spanned (takes verb).taking (length e.lines) v.1 >> λ x.
    effect_of verb c.listed x q.1 q.0 given >> completed c e in
    let flagged : editor.State =
    record e { lines = replaced 1 (length e.lines) (map (flagged_line sense.Matching text) (between 1 (length e.lines) e.lines)) e.lines; pattern = Some text } in
    let whole : OnMade Left (phases Without (ed.Global sense.Matching (Some text))) =
    OnMade-bind (λ (_ : List ℕ). Unit {0}) Left (suffix_written c.suffix flagged) _ (always (suffix_written c.suffix flagged)) (λ more _. flags-each text e.lines) in
    subst (λ (y : Result Effect Fault). OnMade Left y) (sym (command-is c e given))
    (subst (λ (a : Addresses). OnMade Left (phases a c.verb)) (sym no_address) (subst (λ (v : Verb). OnMade Left (phases Without v)) (sym is_verb) whole))

-- THE LINE THAT IS KNOWN TO BE TAKEN

module _ (k : Laws) (c : Command) (s : State) (text : List ℕ) (v : ℕ) (no_address : c.addresses ≡ Without)
    (is_verb : c.verb ≡ ed.Global sense.Matching (Some text))
    (found : find (is_only s.zone (spoken_facts s.marks s.facts) text) (witnesses (spoken_facts s.marks s.facts) text) ≡ Some v) where
  -- the line that was taken is that of the name, so the entry stands
  line-stands : (u f : editor.State) (st : StandsFor s u) → FlaggedPass (is_taken_by c.verb) u.lines → v < 32 → next_taken u ≡ Some f →
      IsTakenOnce st.numbers v f → StandsFor (line_entry v c.verb s) f
  line-stands u f st pass named is once =
      let number : Numbers = st.numbers in
      let b = st.stands.buffer in
      let q = taken-from u f (flagged_place u.lines) is in
      let place : ℕ = q.0 in
      let here = position-Some (λ (line : Line). line.flag) u.lines place (plain_line []) q.1 in
      let less = here.0 in
      let is_v : number v ≡ pos (place + 1) = once.current_is ∙ ap (λ (g : editor.State). pos g.current) (sym q.2) in
      let ends : ReadsEnds number u.lines = record { zero_is = b.reads.zero_is; last_is = b.reads.last_is } in
      let bounds : Holds (line_known v s.zone) (updated number 1 (pos (place + 1))) =
      Holds-line_known v s.zone number (place + 1) (length u.lines) named is_v b.holds b.reads.zero_is b.reads.last_is (omega arith) (omega arith) in
      let facts : FactsHold (facts_set true 1 v (pos 0) s.zone s.facts) (updated number 1 (pos (place + 1))) u.lines =
      facts-set true 1 v (pos 0) (pos (place + 1)) s.zone s.facts number u.lines (omega arith) named (λ (e : 2 ≡ 1). omega arith)
      (let e : pos (place + 1) ≡ number v +ℤ pos 0 = omega (arith, ints) in e) b.holds ends (λ _. st.facts) refl in
      subst (λ (g : editor.State). StandsFor (line_entry v c.verb s) g) q.2
      (entry-stands k c.verb s u place (line_known v s.zone) (facts_known v c.verb s) here.0 here.1 pass st bounds
      (entered-hold s.follows c.verb (facts_set true 1 v (pos 0) s.zone s.facts) (updated number 1 (pos (place + 1))) u.lines place refl here.0 here.1 pass facts))

  line-sound : OnceIsSound c s (line_entry v c.verb s)
  line-sound e given o before none makes st =
      let u : editor.State = opened before o.state in
      let facts : Facts = spoken_facts s.marks s.facts in
      let number : Numbers = st.numbers in
      let b = st.stands.buffer in
      let ends : ReadsEnds number u.lines = record { zero_is = b.reads.zero_is; last_is = b.reads.last_is } in
      let held : FactsHold facts number u.lines = spoken-holds s.marks s.facts number u.lines st.facts in
      let w = find-gives (is_only s.zone facts text) (IsWitness number (length u.lines) (matches_line text u.lines)) (witnesses facts text) v
      (witnesses-true facts number u.lines text held) found in
      let told : IsTold (length u.lines) (matches_line text u.lines) (number v) true =
      record { line = w.0.line; is = w.0.is; from = w.0.from; inside = w.0.inside; told = w.0.passes } in
      let from = w.0.from in
      let inside = w.0.inside in
      let pass : FlaggedPass (is_taken_by c.verb) u.lines = taken-have-flags c e given o makes (ap is_global is_verb) none in
      let matching : FlaggedPass (matches text) u.lines = subst (λ (verb : Verb). FlaggedPass (is_taken_by verb) u.lines) is_verb pass in
      let all : MatchingFlagged text u.lines =
      subst (λ (y : Result Effect Fault). OnMade (λ (p : Outcome). MatchingFlagged text p.state.lines) y) makes (flags-made c e given text no_address is_verb) in
      let on : (get_or u.lines (w.0.line - 1) (plain_line [])).flag ≡ true = all (w.0.line - 1) (plain_line []) (omega arith) w.0.passes in
      (elim (next_taken u) as (λ (t : Option editor.State). next_taken u ≡ t →
      (f : editor.State) × (next_taken u ≡ Some f) × StandsFor (line_entry v c.verb s) f × FlaggedPass passes_none f.lines) [
        | None ↦ λ is. absurd (false≢true (none-taken u is (w.0.line - 1) (plain_line []) (omega arith) on))
        | Some f ↦ λ is.
            let once : IsTakenOnce number v f = taken-once s.zone facts number u f v text b.holds held ends w.0.named told w.1 matching is in
            (f, is, line-stands u f st pass w.0.named is once, once.no_flags)
      ]) refl

once-by : Laws → (c : Command) (s entry : State) (given : Addresses) (verb : Verb) → c.addresses ≡ given → c.verb ≡ verb →
    once_by given verb s ≡ Some entry → OnceIsSound c s entry
once-by k c s entry (One a) verb no_address is_verb is = absurd cc
once-by k c s entry (Comma a b) verb no_address is_verb is = absurd cc
once-by k c s entry (Semicolon a b) verb no_address is_verb is = absurd cc
once-by k c s entry Without (ed.Global sense.Matching (Some text)) no_address is_verb is =
    let facts : Facts = spoken_facts s.marks s.facts in
    let q = some-of (find (is_only s.zone facts text) (witnesses facts text)) (λ (v : ℕ). line_entry v (ed.Global sense.Matching (Some text)) s) entry is in
    subst (λ (t : State). OnceIsSound c s t) (ap (λ (v : Verb). line_entry q.0 v s) is_verb ∙ q.2) (line-sound k c s text q.0 no_address is_verb q.1)
once-by k c s entry Without (ed.Global sense.Matching None) no_address is_verb is = absurd cc
once-by k c s entry Without (ed.Global sense.Others pattern) no_address is_verb is = absurd cc
once-by k c s entry Without _ no_address is_verb is = absurd cc

pub once-sound : Laws → (c : Command) (s entry : State) → once_entry c s ≡ Some entry → OnceIsSound c s entry
once-sound k c s entry is = once-by k c s entry c.addresses c.verb refl refl is

-- of a state that is given by an equation
pub once-of : (c : Command) (s : State) (entry : Option State) → ((t : State) → once_entry c s ≡ Some t → OnceIsSound c s t) → entry ≡ once_entry c s →
    IfSome entry (OnceIsSound c s)
once-of c s None sound is = tt
once-of c s (Some t) sound is = sound t (sym is)
