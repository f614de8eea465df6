-- A start that doesn't state a pattern that a script wants: the search for it fails, since no command before it brings a line that matches.
use Rattle.std.proofs.Common.{◌≡◌, ◌<◌, ◌+◌, length, get_or, ℕ, ℤ, negsuc, Bool, true, false, not, ◌&&◌, ◌||◌, List, [], ◌∷◌, Option, None, Some, is_none, Result, Ok, Err, IfOk, inl, inr, refl, sym, ap, ◌∙◌, subst}
use Rattle.std.specs.List.{list_all, list_any}
use Rattle.std.specs.Cmp.Lexicographic.{slice_cmp, bytes_decides}
use Rattle.std.specs.Ordering.{nat_cmp, is_eq}
use Rattle.std.proofs.lemmas.Bool.{and_from, and_parts, or_cases, or_parts, not-true}
use Rattle.ed_base.specs.declared.fault.Fault.{Fault}
use Rattle.ed_base.specs.declared.fault.Fault.TheVariants as fault
use Rattle.zones.specs.Name as name
use Rattle.zones.specs.Name.{current_line, first_address, second_address, last_line}
use Rattle.zones.specs.Known.{known}
use Rattle.bre_parse.specs.Always.{text_is_always}
use Rattle.ed_syntax.specs.declared.command.Command as memory
use Rattle.ed_syntax.specs.PublicTypes.{addresses_value, step_value}
use Rattle.ed_syntax.specs.Commands as ed
use Rattle.ed_syntax.specs.Commands.{Base, Addresses, Without, One, Comma, Semicolon, Command, Step, Script}
use Rattle.ed_syntax.specs.spelling.Readable.{enters_lines}
use Rattle.ed_syntax.specs.meaning.Values.{◌>>◌, matches}
use Rattle.ed_syntax.specs.meaning.Verbs as verbs
use Rattle.ed_syntax.specs.meaning.Verbs.{Alteration, takes, given_or, is_global}
use Rattle.ed_rules.specs.declared.state.State.{State}
use Rattle.ed_rules.specs.Texts.{is_member}
use Rattle.ed_rules.specs.Matched.{gained, sought}
use Rattle.ed_rules.specs.Matching.{matches_after}
use Rattle.ed_rules.specs.Pieces.{needing}
use Rattle.ed_rules.specs.facts.FoundLines.{is_witnessed}
use Rattle.ed_rules.specs.Following.{is_followed}
use Rattle.ed_rules.specs.Addresses.{is_found, copied, evaluated_base, evaluated, addressed, standing}
use Rattle.ed_rules.specs.Rules.{effect, step_at, step, fault_of}
use Rattle.ed_rules.specs.States as states
use Rattle.ed_rules.proofs.Texting.{same-texts, filter-passes, filter-implied, with_texts-passes}
use Rattle.ed_rules.proofs.matches.Sayings.{OfSets, AreSaid, Says, says-after}
use Rattle.ed_rules.proofs.through.Needs.{Any, all-any, anyway}
use Rattle.ed_rules.proofs.through.Addresses.{beside}
use Rattle.ed_rules.proofs.through.Steps.{rule-through}
use Rattle.landmarks.specs.declared.landmark.Landmark.{Landmark}
use Rattle.landmarks.specs.ChainValues.{ChainValue}
use Rattle.cert_check.specs.declared.certificate.Version.{Version}
use Rattle.cert_check.specs.declared.certificate.Version.TheVariants as version
use Rattle.cert_check.specs.declared.sight.Sight.{Sight}
use Rattle.cert_check.specs.Certificates.{Looped, Note}
use Rattle.cert_check.specs.checker.Beginning.{began}
use Rattle.cert_check.specs.checker.Valid.{counted, told_by, told, are_met, left_by, left_after}
use Rattle.cert_check.specs.text.HasText.{does_follow}
use Rattle.analyser.specs.declared.analysis.Start.{Start}
use Rattle.analyser.specs.Following.{IsKnownOfList, AreNotes, do_count, version_by, version_of, sight_over, knowing, begun, stated_of}
use Rattle.analyser.specs.Judged.{IsVouched}
use Rattle.analyser.proofs.Telling.{sight-version}
use Rattle.analyser.proofs.Going.{counted_from, counted-here, later}
use Rattle.analyser.specs.Wanted.{seeks_at, seeks_first, enters_match, brings_none, seeks}

-- a set is without a text
abbrev pub is_other : (text member : List ℕ) → Bool
is_other text member = not (is_eq (slice_cmp nat_cmp text member))

abbrev pub Lacks : (text : List ℕ) → (set : List (List ℕ)) → Type 0
Lacks text set = list_all (is_other text) set ≡ true

lacks-none : (text : List ℕ) (set : List (List ℕ)) → Lacks text set → is_member set text ≡ false
lacks-none text [] h = refl
lacks-none text (m ∷ set) h =
    let both = and_parts (is_other text m) (list_all (is_other text) set) h in
    let here = not-true (is_eq (slice_cmp nat_cmp text m)) both.0 in
    rw here (lacks-none text set both.1)

pub none-lacks : (text : List ℕ) (set : List (List ℕ)) → is_member set text ≡ false → Lacks text set
none-lacks text [] h = refl
none-lacks text (m ∷ set) h =
    let both = or_parts (is_eq (slice_cmp nat_cmp text m)) (is_member set text) h in
    and_from (is_other text m) (list_all (is_other text) set) (ap not both.0) (none-lacks text set both.1)

-- of what is watched for, no line that is entered matches the text
other-if : (text t : List ℕ) (entered : List (List ℕ)) → list_any (matches text) entered ≡ false → list_any (matches t) entered ≡ true →
    (b : Bool) → is_eq (slice_cmp nat_cmp text t) ≡ b → not b ≡ true
other-if text t entered none some false e = refl
other-if text t entered none some true e =
    let same : list_any (matches text) entered ≡ true =
    subst (λ (u : List ℕ). list_any (matches u) entered ≡ true) (sym (same-texts text t e)) some in
    absurd cc

lacks-gained : (text : List ℕ) (watched entered : List (List ℕ)) → list_any (matches text) entered ≡ false → Lacks text (gained watched entered)
lacks-gained text watched entered none =
    filter-implied (is_other text) (λ t. list_any (matches t) entered) watched
    (λ t some. other-if text t entered none some (is_eq (slice_cmp nat_cmp text t)) refl)

module _ (text : List ℕ) where
  sets : OfSets (Lacks text)
  sets = record {
    none = refl;
    some = λ keep set h. filter-passes (is_other text) keep set h;
    more = λ new set g h. with_texts-passes (is_other text) new set g h;
  }

  after : (watched : List (List ℕ)) (listed : Bool) (given : Addresses) (lines : Alteration) (start s : State) →
      enters_match text lines ≡ false → Says (Lacks text) start → Says (Lacks text) s →
      AreSaid (Lacks text) (matches_after watched listed given lines start s)
  after watched listed given (verbs.Enters entered) start s g h k = (
    with_texts-passes (is_other text) (gained watched entered) s.matches.has (lacks-gained text watched entered g) k.0,
    (says-after (Lacks text) sets [] listed given (verbs.Enters entered) start s refl h k).1,
  )
  after watched listed given (verbs.Replaces entered) start s g h k = (
    lacks-gained text watched entered g,
    (says-after (Lacks text) sets [] listed given (verbs.Replaces entered) start s refl h k).1,
  )
  after watched listed given verbs.Never start s g h k = says-after (Lacks text) sets [] listed given verbs.Never start s refl h k
  after watched listed given verbs.Deletes start s g h k = says-after (Lacks text) sets [] listed given verbs.Deletes start s refl h k
  after watched listed given verbs.Joins start s g h k = says-after (Lacks text) sets [] listed given verbs.Joins start s refl h k
  after watched listed given verbs.Carries start s g h k = says-after (Lacks text) sets [] listed given verbs.Carries start s refl h k
  after watched listed given verbs.Rewrites start s g h k = says-after (Lacks text) sets [] listed given verbs.Rewrites start s refl h k
  after watched listed given verbs.Reads start s g h k = says-after (Lacks text) sets [] listed given verbs.Reads start s refl h k
  after watched listed given verbs.Loads start s g h k = says-after (Lacks text) sets [] listed given verbs.Loads start s refl h k
  after watched listed given verbs.BringsBack start s g h k = says-after (Lacks text) sets [] listed given verbs.BringsBack start s refl h k

  -- ONE COMMAND

  lacks-step : (watched : List (List ℕ)) (c : Command) (s : State) → enters_match text (takes c.verb).lines ≡ false → Says (Lacks text) s →
      IfOk (step watched c s) (Says (Lacks text))
  lacks-step watched c s g h =
      rule-through (Says (Lacks text)) Any (beside (λ _ _ _ m. AreSaid (Lacks text) m) Any (λ t u _ q. q)) (Says (Lacks text)) watched c s
      (all-any (sought c)) h
      (λ u k. anyway _ (effect c.listed c.addresses c.verb s u)
      (λ r. after watched c.listed c.addresses (takes c.verb).lines s u g h k))

  lacks-told_by : (v : Version) (s : State) → Says (Lacks text) s → Says (Lacks text) (told_by v s)
  lacks-told_by version.One s h = (refl, refl)
  lacks-told_by version.Two s h = h
  lacks-told_by version.Three s h = h

  left-lacks : (w : Sight) (s : State) (r : Result State Fault) → Says (Lacks text) s → IfOk r (Says (Lacks text)) →
      Says (Lacks text) (told w (elim r as (λ _. State) [ Ok t ↦ t | Err f ↦ s ]))
  left-lacks w s (Ok t) h k = lacks-told_by w.version t k
  left-lacks w s (Err f) h k = lacks-told_by w.version s h

  lacks-left_by : (w : Sight) (c : Command) (s : State) → enters_match text (takes c.verb).lines ≡ false → Says (Lacks text) s →
      Says (Lacks text) (left_by w c s)
  unfolding left_by
  lacks-left_by w c s g h = left-lacks w s (step w.watch c s) h (lacks-step w.watch c s g h)

  lacks-left_after : (w : Sight) (l : Option Looped) (x : Step) (s : State) → is_global x.command.verb ≡ false →
      IsKnownOfList w (is_global x.command.verb) x s l → enters_match text (takes x.command.verb).lines ≡ false → Says (Lacks text) s →
      Says (Lacks text) (left_after w l x s)
  lacks-left_after w None x s plain list g h = lacks-left_by w x.command s g h
  lacks-left_after w (Some l) x s plain list g h = absurd (subst (λ (b : Bool). IsKnownOfList w b x s (Some l)) plain list)

  -- THE SEARCH

  and-false : (b : Bool) → b && false ≡ false
  and-false true = refl
  and-false false = refl

  unfound : (s : State) → text_is_always text ≡ false → s.follows ≡ false → is_member s.matches.has text ≡ false →
      list_all (is_found s) (Some text ∷ []) ≡ false
  unfound s never plain lacks =
      let known_line : Bool = known s.zone name.zero last_line (negsuc 0) in
      ap (λ (b : Bool). (b || (is_followed s text || (known_line && text_is_always text))) && true) lacks
      ∙ ap (λ (b : Bool). ((b && is_witnessed s.facts text) || (known_line && text_is_always text)) && true) plain
      ∙ ap (λ (b : Bool). (known_line && b) && true) never
      ∙ ap (λ (b : Bool). b && true) (and-false known_line)

  lost-forward : (x : ℕ) (k : ℤ) (s : State) → text_is_always text ≡ false → s.follows ≡ false → is_member s.matches.has text ≡ false →
      evaluated_base x (ed.Forward (Some text)) k s ≡ Err fault.NoMatch
  lost-forward x k s never plain lacks =
      rw (unfound s never plain lacks) refl

  lost-backward : (x : ℕ) (k : ℤ) (s : State) → text_is_always text ≡ false → s.follows ≡ false → is_member s.matches.has text ≡ false →
      evaluated_base x (ed.Backward (Some text)) k s ≡ Err fault.NoMatch
  lost-backward x k s never plain lacks =
      rw (unfound s never plain lacks) refl

  lost-base : (x : ℕ) (b : Base) (k : ℤ) (s : State) → seeks_at text b ≡ true → text_is_always text ≡ false → s.follows ≡ false → is_member s.matches.has text ≡ false →
      evaluated_base x b k s ≡ Err fault.NoMatch
  lost-base x (ed.Forward (Some given)) k s e never plain lacks =
      subst (λ (t : List ℕ). evaluated_base x (ed.Forward (Some t)) k s ≡ Err fault.NoMatch) (sym ((bytes_decides given text).0 e))
      (lost-forward x k s never plain lacks)
  lost-base x (ed.Backward (Some given)) k s e never plain lacks =
      subst (λ (t : List ℕ). evaluated_base x (ed.Backward (Some t)) k s ≡ Err fault.NoMatch) (sym ((bytes_decides given text).0 e))
      (lost-backward x k s never plain lacks)
  lost-base x (ed.Forward None) k s e never plain lacks = absurd cc
  lost-base x (ed.Backward None) k s e never plain lacks = absurd cc
  lost-base x (ed.Number n) k s e never plain lacks = absurd cc
  lost-base x ed.Current k s e never plain lacks = absurd cc
  lost-base x ed.Last k s e never plain lacks = absurd cc
  lost-base x (ed.Marked letter) k s e never plain lacks = absurd cc

  lost-addresses : (a : Addresses) (s : State) → seeks_first text a ≡ true → text_is_always text ≡ false → s.follows ≡ false → is_member s.matches.has text ≡ false →
      addressed a s ≡ Err fault.NoMatch
  lost-addresses Without s e never plain lacks = absurd cc
  lost-addresses (One a) s e never plain lacks =
      ap (λ (r : Result State Fault). r >> λ t. Ok (copied second_address first_address t)) (lost-base first_address a.base a.offset s e never plain lacks)
  lost-addresses (Comma a b) s e never plain lacks =
      ap (λ (r : Result State Fault). r >> evaluated second_address b) (lost-base first_address a.base a.offset s e never plain lacks)
  lost-addresses (Semicolon a None) s e never plain lacks =
      ap (λ (r : Result State Fault). r >> λ t. Ok (copied second_address first_address (copied current_line first_address t))) (lost-base first_address a.base a.offset s e never plain lacks)
  lost-addresses (Semicolon a (Some b)) s e never plain lacks =
      ap (λ (r : Result State Fault). r >> λ t. evaluated second_address b (copied current_line first_address t)) (lost-base first_address a.base a.offset s e never plain lacks)

  given-same : (a default : Addresses) → seeks_first text a ≡ true → given_or a default ≡ a
  given-same Without default e = absurd cc
  given-same (One a) default e = refl
  given-same (Comma a b) default e = refl
  given-same (Semicolon a b) default e = refl

  lost-bind : {A : Type 0} (r : Result A Fault) (f : A → Result State Fault) (why : Fault) → r ≡ Err why → r >> f ≡ Err why
  lost-bind r f why e = ap (λ q. q >> f) e

  lost-needing : (met : Bool) (s : State) (f : State → Result State Fault) → f s ≡ Err fault.NoMatch →
      is_none (fault_of (needing met fault.Syntax s >> f)) ≡ false
  lost-needing true s f e = ap (λ (r : Result State Fault). is_none (fault_of r)) e
  lost-needing false s f e = refl

  unmet : (c : Command) (s : State) → seeks_first text c.addresses ≡ true → text_is_always text ≡ false → s.follows ≡ false → is_member s.matches.has text ≡ false →
      are_met c s ≡ false
  unfolding are_met
  unmet c s e never plain lacks =
      let default : Addresses = standing (takes c.verb).default in
      lost-needing (enters_lines c.verb) s (step_at [] (given_or c.addresses default) c)
      (lost-bind (addressed (given_or c.addresses default) s) _ fault.NoMatch
      (ap (λ (a : Addresses). addressed a s) (given-same c.addresses default e) ∙ lost-addresses c.addresses s e never plain lacks))

  -- COMMANDS WITH THEIR NOTES

  -- versions before the third follow no single lines
  told-plain : (v : Version) (s : State) → does_follow v ≡ false → (told_by v s).follows ≡ false
  told-plain version.One s early = refl
  told-plain version.Two s early = refl
  told-plain version.Three s early = absurd cc

  left-plain : (w : Sight) (c : Command) (s : State) → does_follow w.version ≡ false → (left_by w c s).follows ≡ false
  unfolding left_by
  left-plain w c s early = told-plain w.version _ early

  after-plain : (w : Sight) (l : Option Looped) (x : Step) (s : State) → does_follow w.version ≡ false →
      (left_after w l x s).follows ≡ false
  after-plain w None x s early = left-plain w x.command s early
  after-plain w (Some l) x s early = told-plain w.version _ early

  pub unwanted : (w : Sight) → does_follow w.version ≡ false → (xs : List Step) (s : State) (ns : List Note) → text_is_always text ≡ false → seeks text xs ≡ true →
      Says (Lacks text) s → s.follows ≡ false → AreNotes w xs s ns → ⊥
  unwanted w early [] s ns never e h plain notes = absurd cc
  unwanted w early (x ∷ xs) s [] never e h plain notes = absurd notes
  unwanted w early (x ∷ xs) s (n ∷ ns) never e h plain notes =
      elim (or_cases (seeks_first text x.command.addresses) (brings_none text x && seeks text xs) e) [
        | inl here ↦
            let failed = unmet x.command s here never plain (lacks-none text s.matches.has h.0) in
            let met = notes.0.met in
            absurd cc
        | inr later ↦
            let parts = and_parts (brings_none text x) (seeks text xs) later in
            let brings = and_parts (not (is_global x.command.verb)) (not (enters_match text (takes x.command.verb).lines)) parts.0 in
            unwanted w early xs (left_after w n.looped x s) ns never parts.1
            (lacks-left_after w n.looped x s (not-true (is_global x.command.verb) brings.0) notes.0.list
            (not-true (enters_match text (takes x.command.verb).lines) brings.1) h)
            (after-plain w n.looped x s early) notes.1
      ]

begun-lacks : (text : List ℕ) (script : Script) (start : Start) → is_member (stated_of start.has) text ≡ false →
    Says (Lacks text) (begun script start)
unfolding states.start knowing
begun-lacks text script start none =
    let s : State = states.start start.path start.min start.max (stated_of start.has) in
    lacks-told_by text (sight_over script start).version (knowing script start s)
    (lacks-began (version_of script start) _ _ s (none-lacks text (stated_of start.has) none, refl))
  where
    lacks-began : (v : Version) (letters : List ℕ) (chains : List (List Landmark)) (s : State) → Says (Lacks text) s →
        Says (Lacks text) (began v letters chains s)
    lacks-began version.One letters chains s h = h
    lacks-began version.Two letters chains s h = h
    lacks-began version.Three letters chains s h = h

-- without landmarks it is a version before the third
early-by : (has : Option (List (List ℕ))) → does_follow (version_by false has) ≡ false
early-by None = refl
early-by (Some has) = refl

early-without : (script : Script) (has : Option (List (List ℕ))) → does_follow (version_by (do_count script None) has) ≡ false
unfolding do_count
early-without script has = early-by has

early-sight : (script : Script) (start : Start) → start.landmarks ≡ None → does_follow (sight_over script start).version ≡ false
early-sight script start none =
    ap does_follow (sight-version script (version_of script start) (stated_of start.has))
    ∙ ap (λ (landmarks : Option (List ChainValue)). does_follow (version_by (do_count script landmarks) start.has)) none ∙ early-without script start.has

-- a script isn't vouched for over a start without landmarks and without the pattern
pub wanted : (text : List ℕ) (script : Script) (start : Start) → text_is_always text ≡ false → seeks text (counted script.steps) ≡ true →
    start.landmarks ≡ None → is_member (stated_of start.has) text ≡ false → IsVouched script start → ⊥
wanted text script start never e unmarked none v =
    let early = early-sight script start unmarked in
    unwanted text (sight_over script start) early (counted script.steps) (begun script start) v.0.notes never e
    (begun-lacks text script start none) (told-plain text (sight_over script start).version _ early) v.1.notes

-- ONE COMMAND FURTHER

pub seeks-here : (text : List ℕ) (commands : List memory.Command) (i : ℕ) (d : memory.Command) → i < length commands → d ≡ get_or commands i d →
    seeks_first text (addresses_value d.addresses) ≡ true → seeks text (counted_from commands i) ≡ true
seeks-here text commands i d below is first =
    ap (seeks text) (counted-here commands i d below is)
    ∙ ap (λ (b : Bool). b || (brings_none text (step_value d) && seeks text (later commands i d))) first
