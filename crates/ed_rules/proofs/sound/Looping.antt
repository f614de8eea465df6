-- Soundness of the rules of a global command beside that of the command itself.
use Rattle.std.proofs.Common.{◌≡◌, ◌<◌, ◌≤◌, ◌+◌, ◌-◌, ◌+ℤ◌, ℕ, pos, negsuc, Bool, true, false, cond, List, length, get_or, [], Option, None, Some, option_map, Result, Ok, Err, IfOk, arith, refl, sym, ap, subst}
use Rattle.std.proofs.lemmas.Int.{ints}
use Rattle.std.proofs.lemmas.Bool.{not-true}
use Rattle.std.proofs.lemmas.List.Quantifiers.{position-Some}
use Rattle.ed_base.specs.Buffer.{Line, plain_line, flagged_at, flagged_place}
use Rattle.zones.specs.Zone.{Bounds, Numbers, Holds, updated}
use Rattle.zones.specs.Steps.{after_guard, after_set, after_forget}
use Rattle.zones.proofs.Soundness.{Holds-after_guard, Holds-after_set, Holds-after_forget}
use Rattle.zones.proofs.Known.{updated-other}
use Rattle.ed_syntax.specs.Commands as ed
use Rattle.ed_syntax.specs.Commands.{Verb, Command, Step}
use Rattle.ed_syntax.specs.declared.command.Sense.{Sense}
use Rattle.ed_syntax.specs.declared.command.Sense.TheVariants as sense
use Rattle.ed_syntax.specs.meaning.Values.{matches}
use Rattle.ed_syntax.specs.meaning.States as editor
use Rattle.ed_syntax.specs.meaning.States.{Kept, Past, Same, Was, Open, kept}
use Rattle.ed_base.specs.declared.fault.Fault.{Fault}
use Rattle.ed_syntax.specs.meaning.Effects.{Outcome, Effect, Makes}
use Rattle.ed_syntax.specs.declared.request.Answer.{Answer}
use Rattle.ed_syntax.specs.meaning.Applied.{command}
use Rattle.ed_syntax.specs.meaning.CommandLaws.{FlagsMarkNothing, FlagsAreNoBytes}
use Rattle.ed_rules.specs.Rules.{step}
use Rattle.ed_rules.specs.declared.known_matches.Matches.{Matches}
use Rattle.ed_rules.specs.declared.state.Undo.{Undo}
use Rattle.ed_rules.specs.Soundness.{IsDone, CommandIsSound}
use Rattle.ed_syntax.specs.meaning.Globals.{wanted, opened, taken_at, past_of_global, closed}
use Rattle.ed_rules.specs.declared.state.State.{State}
use Rattle.ed_rules.specs.StandsFor.{HoldsBy, StandsBy, StandsFor, AllowsPast, AllowsKept, KeepsLettered, AreLettered, KeepsMatched, MatchesHold}
use Rattle.ed_rules.specs.States.{old_of}
use Rattle.ed_rules.specs.Pieces.{with_zone}
use Rattle.ed_rules.specs.Globals.{finished, line_taken, taken_matches, with_taken, facts_taken, entry_with, body_entry, line_known, list_may_alter, old_if, old_has_if, with_old, undo_of_global, loop_end}
use Rattle.ed_rules.specs.Matched.{is_matched, AreMatched}
use Rattle.std.proofs.lemmas.List.Folds.{list_any_at}
use Rattle.ed_rules.proofs.Texting.{with_text-passes}
use Rattle.ed_rules.proofs.matches.MatchedLeft.{are-matched-alike, are-matched-kept}
use Rattle.ed_rules.specs.GlobalSoundness.{FlaggedPass, is_taken_by, StartIsSound, TurnIsSound, EndIsSound}
use Rattle.ed_rules.proofs.sound.Standing.{Reads-current, StandsBy-matching, nothing-holds}
use Rattle.ed_rules.specs.facts.Facts.{Facts, FactsHold, no_facts}
use Rattle.ed_rules.specs.facts.FoundLines.{without}
use Rattle.ed_rules.proofs.facts.FactsByBytes.{FactsHold-bytes}
use Rattle.ed_rules.proofs.facts.FoundLines.{with_answer-holds, FactsHold-without}
use Rattle.ed_rules.proofs.sound.Finishing.{StandsBy-ended}
use Rattle.ed_rules.proofs.sound.Flags.{HoldsBy-alike, texts-alike, kept-allowed, lettered-kept, lettered-alike, same-length, alike-flagged_at}

-- the laws of flags that this rests on
pub record Laws : Type 0 where
  pub marks : FlagsMarkNothing
  pub bytes : FlagsAreNoBytes

-- the start: no state speaks of a global command that is open

opened-stands : (t : State) (e : editor.State) (before : Kept) → StandsFor t e → StandsFor t (opened before e)
opened-stands t e before st = record {
  numbers = st.numbers;
  stands = record { buffer = st.stands.buffer; remembered = st.stands.remembered; changed = st.stands.changed; past = st.stands.past };
  lines = st.lines;
  kept = st.kept;
  matches = st.matches;
  facts = st.facts;
}

pub start-sound : CommandIsSound → StartIsSound
start-sound sound watched c s t e given o before st is makes =
    opened-stands t o.state before (subst (λ (y : Result Effect Fault). IsDone c s t e given y) makes (sound watched c s t e given st is))

-- a line is taken

-- a line is current, by its number
current-within : (zone : Bounds) (w : Numbers) (n count : ℕ) → Holds zone w → w 0 ≡ pos 0 → w 1 ≡ pos n → w 2 ≡ pos count → 1 ≤ n → n ≤ count →
    Holds (after_guard (after_guard zone 0 1 (negsuc 0)) 1 2 (pos 0)) w
current-within zone w n count holds w0 w1 w2 from to =
    Holds-after_guard _ 1 2 (pos 0) w (omega arith) (omega arith)
    (Holds-after_guard zone 0 1 (negsuc 0) w (omega arith) (omega arith) holds (omega (arith, ints))) (omega (arith, ints))

Holds-line_taken : (zone : Bounds) (v : Numbers) (n count : ℕ) → Holds zone v → v 0 ≡ pos 0 → v 2 ≡ pos count → 1 ≤ n → n ≤ count → Holds (line_taken zone) (updated v 1 (pos n))
unfolding line_taken
Holds-line_taken zone v n count holds v0 v2 from to =
    let w : Numbers = updated v 1 (pos n) in
    current-within (after_forget zone 1) w n count (Holds-after_forget zone 1 v w holds (updated-other v 1 (pos n))) v0 refl v2 from to

pub Holds-line_known : (x : ℕ) (zone : Bounds) (v : Numbers) (n count : ℕ) → x < 32 → v x ≡ pos n → Holds zone v → v 0 ≡ pos 0 → v 2 ≡ pos count → 1 ≤ n → n ≤ count →
    Holds (line_known x zone) (updated v 1 (pos n))
unfolding line_known
Holds-line_known x zone v n count hx is holds v0 v2 from to =
    let w : Numbers = updated v 1 (pos n) in
    current-within (after_set zone 1 x (pos 0)) w n count
    (Holds-after_set zone 1 x (pos 0) v w (omega arith) hx holds (updated-other v 1 (pos n)) (let e : pos n ≡ v x +ℤ pos 0 = omega (arith, ints) in e)) v0 refl v2 from to

StandsBy-taken : (s : State) (e : editor.State) (v : Numbers) (place : ℕ) (zone : Bounds) → place < length e.lines →
    Holds zone (updated v 1 (pos (place + 1))) → StandsBy s e v → StandsBy (with_zone zone s) (taken_at e place) (updated v 1 (pos (place + 1)))
StandsBy-taken s e v place zone h holds st =
    let lines : List Line = flagged_at place false e.lines in
    let b : HoldsBy s.zone s.marks lines e.current v = HoldsBy-alike s.zone s.marks e.lines lines e.current v (alike-flagged_at place false e.lines) st.buffer in
    let size = same-length e.lines lines (alike-flagged_at place false e.lines) in
    record {
      buffer = record {
        holds = holds;
        reads = Reads-current s.marks lines e.current v (place + 1) b.reads;
        inside = omega arith;
      };
      remembered = st.remembered;
      changed = st.changed;
      past = st.past;
    }

-- a line that `g` took for a given pattern matches it
taken-matched : (verb : Verb) (has : List (List ℕ)) (ls : List Line) (place : ℕ) → place < length ls → (get_or ls place (plain_line [])).flag ≡ true →
    FlaggedPass (is_taken_by verb) ls → AreMatched has ls → AreMatched (taken_matches verb has) ls
taken-matched (ed.Global sense.Matching (Some text)) has ls place h flag pass m =
    with_text-passes (is_matched ls) text has (list_any_at (λ (line : Line). matches text line.bytes) ls place (plain_line []) h (pass place (plain_line []) h flag)) m
taken-matched (ed.Global sense.Matching None) has ls place h flag pass m = m
taken-matched (ed.Global sense.Others pattern) has ls place h flag pass m = m
taken-matched _ has ls place h flag pass m = m

-- it matches just where lines that match are taken
wanted-tells : (which : Sense) (b : Bool) → wanted which b ≡ true → b ≡ wanted which true
wanted-tells sense.Matching b h = h
wanted-tells sense.Others b h = not-true b h

-- what is known of it is true
with_taken-holds : (verb : Verb) (facts : Facts) (w : Numbers) (ls : List Line) (place : ℕ) → w 1 ≡ pos (place + 1) → place < length ls →
    (get_or ls place (plain_line [])).flag ≡ true → FlaggedPass (is_taken_by verb) ls → FactsHold facts w ls → FactsHold (with_taken verb facts) w ls
with_taken-holds (ed.Global which (Some text)) facts w ls place is h flag pass k =
    with_answer-holds w ls text 1 (wanted which true) facts (omega arith)
    (record {
      line = place + 1;
      is = is;
      from = omega arith;
      inside = omega arith;
      told = subst (λ (i : ℕ). matches text (get_or ls i (plain_line [])).bytes ≡ wanted which true) (let e : place ≡ place + 1 - 1 = omega arith in e)
          (wanted-tells which (matches text (get_or ls place (plain_line [])).bytes) (pass place (plain_line []) h flag));
    }) k
with_taken-holds (ed.Global which None) facts w ls place is h flag pass k = k
with_taken-holds _ facts w ls place is h flag pass k = k

-- and of the lines once it has no flag, where single lines are followed
pub entered-hold : (follows : Bool) (verb : Verb) (facts : Facts) (w : Numbers) (ls : List Line) (place : ℕ) → w 1 ≡ pos (place + 1) →
    place < length ls → (get_or ls place (plain_line [])).flag ≡ true → FlaggedPass (is_taken_by verb) ls → FactsHold facts w ls →
    FactsHold (cond follows (with_taken verb facts) no_facts) w (flagged_at place false ls)
entered-hold true verb facts w ls place is h flag pass k =
    let ms : List Line = flagged_at place false ls in
    FactsHold-bytes (with_taken verb facts) w ls ms (texts-alike ls ms (alike-flagged_at place false ls)) (with_taken-holds verb facts w ls place is h flag pass k)
entered-hold false verb facts w ls place is h flag pass k = nothing-holds w (flagged_at place false ls)

pub entry-stands : Laws → (verb : Verb) (s : State) (e : editor.State) (place : ℕ) (zone : Bounds) (facts : Facts) → place < length e.lines →
    (get_or e.lines place (plain_line [])).flag ≡ true → FlaggedPass (is_taken_by verb) e.lines → (st : StandsFor s e) →
    Holds zone (updated st.numbers 1 (pos (place + 1))) → FactsHold facts (updated st.numbers 1 (pos (place + 1))) (flagged_at place false e.lines) →
    StandsFor (entry_with verb s zone facts) (taken_at e place)
entry-stands k verb s e place zone facts h flag pass st holds known =
    let v : Numbers = updated st.numbers 1 (pos (place + 1)) in
    record {
      numbers = v;
      stands = StandsBy-matching (finished (with_zone zone s)) (taken_at e place) v (record s.matches { has = taken_matches verb s.matches.has }) facts
          (StandsBy-ended (with_zone zone s) (taken_at e place) v (StandsBy-taken s e st.numbers place zone h holds st.stands));
      lines = lettered-alike k.marks k.bytes e.lines (flagged_at place false e.lines) (alike-flagged_at place false e.lines) st.lines;
      kept = st.kept;
      matches = (
        are-matched-alike (taken_matches verb s.matches.has) e.lines (flagged_at place false e.lines) (alike-flagged_at place false e.lines)
            (taken-matched verb s.matches.has e.lines place h flag pass st.matches.0),
        st.matches.1,
      );
      facts = known;
    }

taken-stands : Laws → (verb : Verb) (s : State) (e : editor.State) (place : ℕ) → place < length e.lines → (get_or e.lines place (plain_line [])).flag ≡ true →
    FlaggedPass (is_taken_by verb) e.lines → StandsFor s e → StandsFor (body_entry verb s) (taken_at e place)
taken-stands k verb s e place h flag pass st =
    entry-stands k verb s e place (line_taken s.zone) (facts_taken verb s) h flag pass st
    (Holds-line_taken s.zone st.numbers (place + 1) (length e.lines) st.stands.buffer.holds st.stands.buffer.reads.zero_is st.stands.buffer.reads.last_is (omega arith)
    (omega arith))
    (entered-hold s.follows verb (without 1 s.facts) (updated st.numbers 1 (pos (place + 1))) e.lines place refl h flag pass
    (FactsHold-without 1 (pos (place + 1)) s.facts st.numbers e.lines (λ (e : 2 ≡ 1). omega arith) st.facts))

-- the place of the line that is taken
pub taken-from : (e f : editor.State) (p : Option ℕ) → option_map (taken_at e) p ≡ Some f → (place : ℕ) × (p ≡ Some place) × (taken_at e place ≡ f)
taken-from e f None is = absurd cc
taken-from e f (Some place) is = (place, refl, cc)

pub turn-sound : Laws → (verb : Verb) (s : State) → TurnIsSound verb s (body_entry verb s)
turn-sound k verb s e f st pass is =
    let q = taken-from e f (flagged_place e.lines) is in
    let h = position-Some (λ (line : Line). line.flag) e.lines q.0 (plain_line []) q.1 in
    subst (λ (g : editor.State). StandsFor (body_entry verb s) g) q.2 (taken-stands k verb s e q.0 h.0 h.1 pass st)

-- the end

-- what is said of an editor once its global command is over
abbrev over : editor.State → Open → editor.State
over f g = record f { past = past_of_global g; global = None }

closed-is : (f : editor.State) (g : Open) → f.global ≡ Some g → closed f ≡ over f g
closed-is f g is = ap (λ (o : Option Open). elim o as (λ _. editor.State) [ None ↦ f | Some h ↦ over f h ]) is

-- it is over with the old buffer where its list may have changed it
module _ (k : Laws) (before : State) (e : editor.State) (st : StandsFor before e) (list : List Command) (g : Open)
    (begun : g.before ≡ kept e) (may : g.altered ≡ true → list_may_alter list ≡ true) where
  old-allowed : AllowsKept (Some (old_of before)) g.before
  old-allowed = subst (λ (k : Kept). AllowsKept (Some (old_of before)) k) (sym begun) (kept-allowed before e (st.numbers, st.stands, st.facts))

  past-allowed : AllowsPast (undo_of_global list before) (past_of_global g)
  past-allowed =
      (elim g.altered as (λ b. (b ≡ true → list_may_alter list ≡ true) → AllowsPast (undo_of_global list before) (elim b as (λ _. Past) [ true ↦ Was g.before | false ↦ Same ])) [
        | true ↦ λ k. subst (λ (b : Bool). AllowsKept (old_if b before) g.before) (sym (k refl)) old-allowed
        | false ↦ λ k. refl
      ]) may

  past-matched : KeepsMatched (old_has_if (list_may_alter list) before) (past_of_global g)
  past-matched =
      (elim g.altered as (λ b. (b ≡ true → list_may_alter list ≡ true) → KeepsMatched (old_has_if (list_may_alter list) before) (elim b as (λ _. Past) [ true ↦ Was g.before | false ↦ Same ])) [
        | true ↦ λ k. subst (λ (b : Bool). AreMatched (old_has_if b before) g.before.lines) (sym (k refl))
            (subst (λ (p : Kept). AreMatched before.matches.has p.lines) (sym begun) (are-matched-kept before.matches.has e.lines st.matches.0))
        | false ↦ λ k. tt
      ]) may

  past-lettered : KeepsLettered (past_of_global g)
  past-lettered =
      elim g.altered as (λ b. KeepsLettered (elim b as (λ _. Past) [ true ↦ Was g.before | false ↦ Same ])) [
        | true ↦ subst (λ (k : Kept). AreLettered k.lines) (sym begun) (lettered-kept k.marks k.bytes e.lines st.lines)
        | false ↦ tt
      ]

over-stands : (s : State) (f : editor.State) (g : Open) (undo : Undo) (m : Matches) → AllowsPast undo (past_of_global g) →
    KeepsLettered (past_of_global g) → MatchesHold m f.lines (past_of_global g) → StandsFor s f →
    StandsFor (finished (record s { undo = undo; matches = m })) (over f g)
over-stands s f g undo m past kept matches st = record {
  numbers = st.numbers;
  stands = StandsBy-ended (record s { undo = undo; matches = m }) (over f g) st.numbers
      (record {
        buffer = record { holds = st.stands.buffer.holds; reads = st.stands.buffer.reads; inside = st.stands.buffer.inside };
        remembered = st.stands.remembered;
        changed = st.stands.changed;
        past = past;
      });
  lines = st.lines;
  kept = kept;
  matches = matches;
  facts = st.facts;
}

pub end-sound : Laws → (x : Step) (before invariant : State) → EndIsSound x before invariant (loop_end x before invariant)
end-sound k x before invariant e f g st after is begun may =
    subst (λ (h : editor.State). StandsFor (loop_end x before invariant) h) (sym (closed-is f g is))
    (over-stands invariant f g (undo_of_global x.list before) (with_old (list_may_alter x.list) before invariant.matches)
    (past-allowed k before e st x.list g begun may) (past-lettered k before e st x.list g begun may)
    (after.matches.0, past-matched k before e st x.list g begun may) after)

-- of states that are given by their equations

pub start-by : {E : Type 0} → StartIsSound → (watched : List (List ℕ)) (c : Command) (s : State) (r : Result State E) → IfOk r (λ t. step watched c s ≡ Ok t) →
    IfOk r (λ t. (e : editor.State) (given : Option Answer) (o : Outcome) (before : Kept) → StandsFor s e →
    command e c given ≡ Ok (Makes o) → StandsFor t (opened before o.state))
start-by sound watched c s (Ok t) h = λ e given o before st makes. sound watched c s t e given o before st h makes
start-by sound watched c s (Err f) h = tt

pub turn-by : (verb : Verb) (s entry : State) → TurnIsSound verb s (body_entry verb s) → entry ≡ body_entry verb s → TurnIsSound verb s entry
turn-by verb s entry sound is = subst (λ (t : State). TurnIsSound verb s t) (sym is) sound

pub end-by : (x : Step) (before invariant end : State) → EndIsSound x before invariant (loop_end x before invariant) →
    end ≡ loop_end x before invariant → EndIsSound x before invariant end
end-by x before invariant end sound is = subst (λ (t : State). EndIsSound x before invariant t) (sym is) sound
