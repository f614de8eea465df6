use Rattle.std.proofs.Common.{List, ℕ, Some, ◌≡◌, ◌+◌, length, map, None, inl, inr, arith, refl, ap, ◌∙◌, subst}
use Rattle.ed_syntax.specs.PublicScript.{script_value}
use Rattle.ed_syntax.specs.PublicTypes.{steps_value}
use Rattle.cert_check.specs.declared.certificate.Note as public
use Rattle.cert_check.specs.Certificates.{note_value}
use Rattle.cert_check.specs.checker.Valid.{counted}
use Rattle.analyser.specs.Following.{do_count, version_by, chains_by, sight_over, begun, paths_from}
use Rattle.analyser.specs.Walking.{IsOutcome, NoteIsBytes}
use Rattle.analyser.proofs.Listing.{listed-by}
use Rattle.ed_rules.specs.Formed.{ChoiceIsBytes}
use Rattle.std.specs.List.{All}
use Rattle.analyser.proofs.Telling as telling
use Rattle.analyser.proofs.Telling.{MatchLaws, script-holds}
use Rattle.analyser.proofs.Texting.{follows-counts, has-text}
use Rattle.analyser.proofs.Checking.{Laws, checked-before}
use Rattle.analyser.proofs.Accepting.{accepted}
use Rattle.analyser.proofs.Answering.{end-is, stops-at, stops-at_end}
use Rattle.analyser.proofs.analysing.answer.Goals as goal

pub returns-in-Fails-clause-exact : goal.returns-in-Fails-clause-exact
returns-in-Fails-clause-exact c =
    let stops = subst (λ o. IsOutcome (sight_over (script_value c.args.script.now) c.args.start) (steps_value c.args.script.now.commands.items) (begun (script_value c.args.script.now) c.args.start) c.args.walk o) c.in-Fails.is c.requires.walked in
    inl (stops-at (script_value c.args.script.now) c.args.start c.args.walk.notes.items c.in-Fails.place c.in-Fails.why stops.0 stops.1)

pub returns-in-Some-clause-exact : goal.returns-in-Some-clause-exact
returns-in-Some-clause-exact c =
    let script = script_value c.args.script.now in
    let start = c.args.start in
    let left = subst (λ o. IsOutcome (sight_over (script_value c.args.script.now) c.args.start) (steps_value c.args.script.now.commands.items) (begun script start) c.args.walk o) c.in-Left.is c.requires.walked in
    let ends = end-is script c.args.walk.quit c.in-Left.last _ c.end_fault.result left.3 left.1 c.end_fault.ensures.value ∙ c.in-Some.is in
    let size : c.len.result ≡ length c.args.walk.notes.items = let counts = c.len.ensures in omega (arith, c.args.walk.notes.ok.0) in
    inr (stops-at_end script start c.args.walk.notes.items c.place_of.result c.in-Some.why left.0 ends
    (c.place_of.ensures.value ∙ ap (λ n. record { command = n + 1; inner = None }) size))

pub returns-in-Fails-clause-checked : goal.returns-in-Fails-clause-checked
returns-in-Fails-clause-checked c =
    let laws : Laws = record {
      same = c.joined_states_are_covered.ensures.same;
      join_on = c.joined_states_are_covered.ensures.join_on;
      widen_on = c.joined_states_are_covered.ensures.widen_on;
      decided = c.covering_is_decided.ensures.exact;
    } in
    checked-before laws (script_value c.args.script.now) c.args.start _ _ _ (returns-in-Fails-clause-exact c)

pub returns-in-Some-clause-checked : goal.returns-in-Some-clause-checked
returns-in-Some-clause-checked c =
    let laws : Laws = record {
      same = c.joined_states_are_covered.ensures.same;
      join_on = c.joined_states_are_covered.ensures.join_on;
      widen_on = c.joined_states_are_covered.ensures.widen_on;
      decided = c.covering_is_decided.ensures.exact;
    } in
    checked-before laws (script_value c.args.script.now) c.args.start _ _ _ (returns-in-Some-clause-exact c)

pub returns-in-None-clause-exact : goal.returns-in-None-clause-exact
returns-in-None-clause-exact c =
    let script = script_value c.args.script.now in
    let start = c.args.start in
    let left = subst (λ o. IsOutcome (sight_over (script_value c.args.script.now) c.args.start) (steps_value c.args.script.now.commands.items) (begun script start) c.args.walk o) c.in-Left.is c.requires.walked in
    let ends = end-is script c.args.walk.quit c.in-Left.last _ c.end_fault.result left.3 refl c.end_fault.ensures.value ∙ c.in-None.is in
    record {
      version = c.version_of.ensures.value ∙ ap (λ b. version_by b start.has) c.requires.counted;
      path = refl;
      min = refl;
      max = refl;
      has = c.stated_of.ensures.value;
      landmarks = c.chains_of.ensures.value ∙ ap (λ b. chains_by b start.landmarks) c.requires.counted;
      notes = left.0;
      last = left.1;
      end = ends;
      low = rw c.zone.ensures.value at c.low_of.ensures.value;
      high = rw c.zone-in-None.ensures.value at c.high_of.ensures.value;
      writes = listed-by (paths_from (counted script.steps) (map note_value c.args.walk.notes.items)) c.args.walk.writes.items left.2;
    }

pub returns-in-None-clause-valid : goal.returns-in-None-clause-valid
returns-in-None-clause-valid c =
    let laws : Laws = record {
      same = c.joined_states_are_covered.ensures.same;
      join_on = c.joined_states_are_covered.ensures.join_on;
      widen_on = c.joined_states_are_covered.ensures.widen_on;
      decided = c.covering_is_decided.ensures.exact;
    } in
    let formed : telling.Laws = record {
      start = c.states_stay_formed.ensures.start;
      command = c.states_stay_formed.ensures.command;
      join = c.states_stay_formed.ensures.join;
      widen = c.states_stay_formed.ensures.widen;
      entry = c.states_stay_formed.ensures.entry;
      once = c.states_stay_formed.ensures.once;
      end = c.states_stay_formed.ensures.end;
    } in
    let matches : MatchLaws = record {
      start = c.matches_stay_formed.ensures.start;
      command = c.matches_stay_formed.ensures.command;
      join = c.matches_stay_formed.ensures.join;
      widen = c.matches_stay_formed.ensures.widen;
      entry = c.matches_stay_formed.ensures.entry;
      once = c.matches_stay_formed.ensures.once;
      end = c.matches_stay_formed.ensures.end;
      watched = c.matches_stay_formed.ensures.watched;
    } in
    let is = returns-in-None-clause-exact c in
    accepted laws (script_value c.args.script.now) c.args.start _ is
    (script-holds formed matches (script_value c.args.script.now) c.args.start _ c.requires.bytes c.path_is_bytes.ensures.bytes c.has_is_formed.ensures.formed is.notes).1.ended.counted

pub returns-in-None-clause-texts : goal.returns-in-None-clause-texts
returns-in-None-clause-texts c =
    let laws : telling.Laws = record {
      start = c.states_stay_formed.ensures.start;
      command = c.states_stay_formed.ensures.command;
      join = c.states_stay_formed.ensures.join;
      widen = c.states_stay_formed.ensures.widen;
      entry = c.states_stay_formed.ensures.entry;
      once = c.states_stay_formed.ensures.once;
      end = c.states_stay_formed.ensures.end;
    } in
    let matches : MatchLaws = record {
      start = c.matches_stay_formed.ensures.start;
      command = c.matches_stay_formed.ensures.command;
      join = c.matches_stay_formed.ensures.join;
      widen = c.matches_stay_formed.ensures.widen;
      entry = c.matches_stay_formed.ensures.entry;
      once = c.matches_stay_formed.ensures.once;
      end = c.matches_stay_formed.ensures.end;
      watched = c.matches_stay_formed.ensures.watched;
    } in
    has-text laws matches (script_value c.args.script.now) c.args.start _ c.requires.bytes c.path_is_bytes.ensures.bytes c.has_is_formed.ensures.formed
    c.chains_have_text.ensures.texts
    (subst (λ (ps : List (List ℕ)). All ChoiceIsBytes (map (λ path. Some path) ps)) c.as_slice.ensures.value c.paths_are_bytes.ensures.bytes)
    (λ e.
    let told = c.told_are_bytes.ensures.bytes
    (c.requires.counted ∙ follows-counts (do_count (script_value c.args.script.now) c.args.start.landmarks) c.args.start.has e) in
    (subst (λ (ns : List public.Note). All NoteIsBytes (map note_value ns)) c.as_slice-in-None.ensures.value told.0, told.1))
    c.requires.ordered c.requires.low c.requires.high (returns-in-None-clause-exact c)
