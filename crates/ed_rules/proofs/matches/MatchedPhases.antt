-- What is known of matches, through the phases of a command.
use Rattle.std.proofs.Common.{◌≡◌, ◌<◌, ◌≤◌, ◌-◌, ℕ, pos, negsuc, Bool, true, false, List, length, Option, Some, Ok}
use Rattle.std.proofs.Common.{Result, Err, IfOk, arith, refl, ◌∙◌, sym, ap, subst}
use Rattle.std.proofs.lemmas.Int.{ints}
use Rattle.std.proofs.lemmas.Bool.{lt-ltb, le-ltb}
use Rattle.std.proofs.lemmas.List.{length-map, length-take, length-drop}
use Rattle.ed_base.specs.declared.fault.Fault.{Fault}
use Rattle.ed_base.specs.declared.fault.Fault.TheVariants as fault
use Rattle.ed_base.specs.Buffer.{Line, texts}
use Rattle.ed_base.specs.Parts as parts
use Rattle.zones.specs.Zone.{Bounds}
use Rattle.zones.specs.Known.{known}
use Rattle.zones.proofs.Known.{known-true}
use Rattle.ed_syntax.specs.declared.verbs.Taking.{Taking}
use Rattle.ed_syntax.specs.declared.verbs.Taking.TheVariants as many
use Rattle.ed_syntax.specs.declared.request.Answer.{Answer}
use Rattle.ed_syntax.specs.Commands as ed
use Rattle.ed_syntax.specs.Commands.{Base, Address, Addresses, Without, One, Comma, Semicolon, Verb, Form, Command}
use Rattle.ed_syntax.specs.meaning.States as editor
use Rattle.ed_syntax.specs.meaning.States.{Past}
use Rattle.ed_syntax.specs.meaning.Verbs.{takes, given_or}
use Rattle.ed_syntax.specs.meaning.Values.{◌>>◌, values}
use Rattle.ed_syntax.specs.meaning.Ranges.{Span, spanned}
use Rattle.ed_syntax.specs.meaning.Effects.{Outcome, Effect, Makes, Asks}
use Rattle.ed_syntax.specs.meaning.Applied as concrete
use Rattle.ed_syntax.specs.meaning.Applied.{completed, effect_of, command}
use Rattle.ed_rules.specs.declared.known_matches.Matches.{Matches}
use Rattle.ed_rules.specs.declared.state.State.{State}
use Rattle.ed_rules.specs.declared.state.Undo.{Undo}
use Rattle.ed_rules.specs.StandsFor.{StandsFor, AllowsPast, MatchesHold}
use Rattle.ed_rules.specs.Matched.{sought_by, sought_at_target}
use Rattle.ed_rules.specs.Pieces.{needing, with_zone, ended}
use Rattle.std.proofs.Common.{cond, take}
use Rattle.ed_rules.specs.Addresses.{evaluated, addressed, standing, targeted, ranged}
use Rattle.ed_rules.specs.declared.matching.Certainty.TheVariants.{Never, Maybe, Surely}
use Rattle.ed_rules.specs.Matching.{joining, joining_given, saying, matches_after}
use Rattle.ed_rules.specs.FactsAfter.{facts_after}
use Rattle.ed_rules.specs.Rules.{taken, effect, suffixed, step_at, step}
use Rattle.ed_syntax.specs.spelling.Readable.{enters_lines}
use Rattle.ed_rules.proofs.Basics.{Agrees, Agrees-weaker}
use Rattle.ed_syntax.specs.meaning.CommandLaws.{InOrder}
use Rattle.ed_syntax.proofs.meaning.PlaceLemmas.{spans_are_in_order}
use Rattle.ed_syntax.proofs.meaning.ResultLemmas.{IfOk-bind}
use Rattle.ed_rules.proofs.sound.Spans.{Spans}
use Rattle.ed_rules.proofs.sound.Addressing.{NamesOf, Addressed, AddressedIn, command_addressed}
use Rattle.ed_rules.proofs.sound.Commanding.{command-is, IsGiven, RangeWith, Nothing_more, Equal, At_target, Targeted, names-given, given_or-given, range-with, range-sound, targeted-sound}
use Rattle.ed_rules.proofs.sound.Outcomes.{always, OnMade, SameBuffer, values-same, targeted-same}
use Rattle.ed_rules.proofs.through.Needs.{Any, all-any}
use Rattle.ed_rules.proofs.through.Addresses.{KeptAt, Property, Of, beside, addressed-through, targeted-through, taken-through}
use Rattle.ed_rules.proofs.through.Steps.{suffixed-through}
use Rattle.ed_rules.proofs.matches.MatchedLeft.{Joins, Suiting, effect-left, completed-left}

-- THE RULE'S SIDE: addresses leave it as it is

abbrev Same : State → Property
Same s _ _ undo matches = (matches ≡ s.matches) × (undo ≡ s.undo)

abbrev SameMatches : State → State → Type 0
SameMatches s t = Of (Same s) t

same-at : (s : State) → KeptAt (SameMatches s) Any
same-at s = beside (Same s) Any (λ t text _ h. h)

then-same : (s t u : State) → SameMatches s t → SameMatches t u → SameMatches s u
then-same s t u h k = (k.0 ∙ h.0, k.1 ∙ h.1)

addressed-same : (a : Addresses) (s : State) → IfOk (addressed a s) (SameMatches s)
addressed-same a s = addressed-through (SameMatches s) Any (same-at s) a s (all-any (sought_by a)) (refl, refl)

target-same : (a : Option Address) (s : State) → IfOk (targeted a s) (SameMatches s)
target-same a s = targeted-through (SameMatches s) Any (same-at s) a s (all-any (sought_at_target a)) (refl, refl)

taken-same : (k : Taking) (given a : Addresses) (s : State) → IfOk (taken k given a s) (SameMatches s)
taken-same k given a s = taken-through (SameMatches s) Any (same-at s) k given a s (refl, refl)

-- BOTH SIDES

-- where both come to an end, they are related
abbrev pub Tells : (State → Outcome → Type 0) → Result State Fault → Result Effect Fault → Type 0
Tells R (Err f) y = Unit {0}
Tells R (Ok t) (Err f) = Unit {0}
Tells R (Ok t) (Ok (Asks r)) = Unit {0}
Tells R (Ok t) (Ok (Makes o)) = R t o

pub tells-nothing : (R : State → Outcome → Type 0) (x : Result State Fault) (f : Fault) → Tells R x (Err f)
tells-nothing R (Ok t) f = tt
tells-nothing R (Err e) f = tt

pub tells-bind : {A B : Type 0} (R : State → Outcome → Type 0) (P : A → Type 0) (Q : B → Type 0) (x : Result A Fault) (y : Result B Fault) (f : A → Result State Fault) (g : B → Result Effect Fault) →
    IfOk x P → IfOk y Q → ((a : A) (b : B) → P a → Q b → Tells R (f a) (g b)) → Tells R (x >> f) (y >> g)
tells-bind R P Q (Ok a) (Ok b) f g h k i = i a b h k
tells-bind R P Q (Ok a) (Err e) f g h k i = tells-nothing R (f a) e
tells-bind R P Q (Err e) y f g h k i = tt

-- of two that agree more is known
tells-agreed : {A B : Type 0} (R : State → Outcome → Type 0) (S : A → B → Type 0) (P : A → Type 0) (Q : B → Type 0) (x : Result A Fault) (y : Result B Fault) (f : A → Result State Fault) (g : B → Result Effect Fault) →
    Agrees S x y → IfOk x P → IfOk y Q → ((a : A) (b : B) → S a b → P a → Q b → Tells R (f a) (g b)) → Tells R (x >> f) (y >> g)
tells-agreed R S P Q (Ok a) (Ok b) f g s h k i = i a b s h k
tells-agreed R S P Q (Ok a) (Err e) f g s h k i = tells-nothing R (f a) e
tells-agreed R S P Q (Err e) y f g s h k i = tt

abbrev pub Holds : State → Outcome → Type 0
Holds t o = MatchesHold t.matches o.state.lines o.state.past

tells-so : (m : Matches) (x : Result State Fault) (y : Result Effect Fault) → IfOk x (λ (t : State). t.matches ≡ m) →
    OnMade (λ (o : Outcome). MatchesHold m o.state.lines o.state.past) y → Tells Holds x y
tells-so m (Err f) y h k = tt
tells-so m (Ok t) (Err f) h k = tt
tells-so m (Ok t) (Ok (Asks r)) h k = tt
tells-so m (Ok t) (Ok (Makes o)) h k = subst (λ (n : Matches). MatchesHold n o.state.lines o.state.past) (sym h) k

-- WHAT IS ASKED OF THE LINES

below-first : (a b : ℕ) (u : State) (e : editor.State) (x : Span) → Spans u e x → known u.zone 4 3 (pos 0) ≡ true → x.last ≤ x.first
below-first a b u e x r k =
    let d = known-true u.zone r.numbers 4 3 (pos 0) k (omega arith) (omega arith) r.stands.buffer.holds in
    let f = r.first_is in
    let l = r.last_is in
    omega (arith, ints)

above-first : (u : State) (e : editor.State) (x : Span) → Spans u e x → known u.zone 3 4 (negsuc 0) ≡ true → x.first < x.last
above-first u e x r k =
    let d = known-true u.zone r.numbers 3 4 (negsuc 0) k (omega arith) (omega arith) r.stands.buffer.holds in
    let f = r.first_is in
    let l = r.last_is in
    omega (arith, ints)

joins-known : (u : State) (e : editor.State) (x : Span) → Spans u e x → Joins (joining u.zone) x
joins-known u e x r =
    (elim (known u.zone 4 3 (pos 0)) as (λ b. known u.zone 4 3 (pos 0) ≡ b → Joins (cond b Never (cond (known u.zone 3 4 (negsuc 0)) Surely Maybe)) x) [
      | true ↦ λ k. le-ltb x.first x.last (below-first 0 0 u e x r k)
      | false ↦ λ _.
          (elim (known u.zone 3 4 (negsuc 0)) as (λ b. known u.zone 3 4 (negsuc 0) ≡ b → Joins (cond b Surely Maybe) x) [
            | true ↦ λ k. lt-ltb x.first x.last (above-first u e x r k)
            | false ↦ λ _. tt
          ]) refl
    ]) refl

some-between : (ls : List Line) (x : Span) → 1 ≤ x.first → x.first ≤ x.last → x.first ≤ length ls → 1 ≤ length (texts (parts.between x.first x.last ls))
some-between ls x h k l =
    let a = length-map (parts.between x.first x.last ls) (λ (line : Line). line.bytes) in
    let b = length-drop (x.first - 1) (take x.last ls) in
    let c = length-take x.last ls in
    omega arith

-- commands of which nothing is asked
abbrev asks_nothing : Verb → Bool
asks_nothing ed.Join = false
asks_nothing (ed.Copy to) = false
asks_nothing _ = true

suits-all : (given : Addresses) (zone : Bounds) (lines : List Line) (verb : Verb) (x : Span) → asks_nothing verb ≡ true → Suiting given zone lines verb x
suits-all given zone lines ed.Join x h = absurd cc
suits-all given zone lines (ed.Copy to) x h = absurd cc
suits-all given zone lines _ x h = tt

-- THE PHASES

module _ (watched : List (List ℕ)) (c : Command) (answer : Option Answer) (s : State) (e : editor.State) (st : StandsFor s e) where
  -- the last ones
  acted : (u : State) (q : editor.State) (x : Span) (target : ℕ) → SameMatches s u → SameBuffer e q → InOrder x → Suiting c.addresses u.zone q.lines c.verb x →
      Tells Holds (effect c.listed c.addresses c.verb s u >> λ r. suffixed c.suffix (saying (matches_after watched c.listed c.addresses (takes c.verb).lines s u) (facts_after watched c.listed c.addresses c.verb u r)
      (with_zone (ended r.marks r.zone) r)))
      (effect_of c.verb c.listed x target q answer >> completed c e)
  acted u q x target same buffer order k =
      let m : Matches = matches_after watched c.listed c.addresses (takes c.verb).lines s u in
      let before : MatchesHold s.matches q.lines e.past =
      subst (λ (ls : List Line). MatchesHold s.matches ls e.past) (sym buffer.0) st.matches in
      let holds : MatchesHold u.matches q.lines q.past =
      subst (λ (n : Matches). MatchesHold n q.lines q.past) (sym same.0)
      (subst (λ (p : Past). MatchesHold s.matches q.lines p) (sym buffer.1) before) in
      let may : AllowsPast u.undo q.past =
      subst (λ (w : Undo). AllowsPast w q.past) (sym same.1) (subst (λ (p : Past). AllowsPast s.undo p) (sym buffer.1) st.stands.past) in
      let P : State → Type 0 = λ (t : State). t.matches ≡ m in
      tells-so m _ _
      (IfOk-bind (λ (_ : State). Unit {0}) P (effect c.listed c.addresses c.verb s u) _ (always (effect c.listed c.addresses c.verb s u))
      (λ r _. suffixed-through P c.suffix (saying m (facts_after watched c.listed c.addresses c.verb u r) (with_zone (ended r.marks r.zone) r)) refl))
      (completed-left watched c.listed c.addresses s u e q st.matches holds may c refl m (effect_of c.verb c.listed x target q answer)
      (effect-left watched c.listed c.addresses s u e q st.matches holds may c.verb x target answer order k))

  abbrev d : Addresses
  d = standing (takes c.verb).default

  abbrev a : Addresses
  a = given_or c.addresses d

  -- of most commands
  phases-told : asks_nothing c.verb ≡ true → Tells Holds (step_at watched a c s) (command e c answer)
  phases-told h =
      subst (λ (y : Result Effect Fault). Tells Holds (step_at watched a c s) y) (sym (command-is c e answer))
      (tells-bind Holds (SameMatches s) (λ (v : editor.State × List ℕ). SameBuffer e v.0) (addressed a s) (values (given_or c.addresses (takes c.verb).default) e) _ _
      (addressed-same a s) (values-same (given_or c.addresses (takes c.verb).default) e)
      (λ t v i j. tells-bind Holds (SameMatches t) (λ (q : editor.State × ℕ). SameBuffer v.0 q.0) (targeted (takes c.verb).target t) (concrete.targeted (takes c.verb).target v.0) _ _
      (target-same (takes c.verb).target t) (targeted-same (takes c.verb).target v.0)
      (λ p q k l. tells-bind Holds (SameMatches p) InOrder (taken (takes c.verb).taking c.addresses a p) (spanned (takes c.verb).taking (length e.lines) v.1) _ _
      (taken-same (takes c.verb).taking c.addresses a p) (spans_are_in_order (takes c.verb).taking (length e.lines) v.1)
      (λ u x m order. acted u q.0 x q.1 (then-same s p u (then-same s t p i k) m) (l.0 ∙ j.0, l.1 ∙ j.1, l.2 ∙ j.2, l.3 ∙ j.3) order
      (suits-all c.addresses u.zone q.0.lines c.verb x h)))))

-- `j`: whether lines are joined, by how many addresses are given
join-suits : (given d : Addresses) → IsGiven d → (t : State) (p : editor.State × List ℕ) (count : ℕ) → Addressed (NamesOf (given_or given d)) t p →
    Agrees (λ (u : State) (x : Span). Joins (joining_given given u.zone) x) (ranged t) (spanned many.Range count p.1)
join-suits Without d g t p count h =
    Agrees-weaker (RangeWith Nothing_more p.0) (λ (u : State) (x : Span). Joins (joining u.zone) x) (ranged t) (spanned many.Range count p.1)
    (λ u x r. joins-known u p.0 x r.0.spans) (range-sound d g t p count h)
join-suits (One b) d g t p count h =
    let same : h.numbers 3 ≡ h.numbers 4 = h.names.first_is ∙ ap pos (h.names.same tt) ∙ sym h.names.last_is in
    Agrees-weaker (RangeWith Equal p.0) (λ (u : State) (x : Span). Joins Never x) (ranged t) (spanned many.Range count p.1)
    (λ u x r. let f = r.0.spans.first_is in let l = r.0.spans.last_is in let q = r.1 in le-ltb x.first x.last (omega (arith, ints)))
    (range-with Equal t p.0 p.1 h.numbers count h.stands (names-given (One b) tt p.1 p.0.lines h.numbers h.names) same)
join-suits (Comma a b) d g t p count h =
    Agrees-weaker (RangeWith Nothing_more p.0) (λ (u : State) (x : Span). Joins (joining u.zone) x) (ranged t) (spanned many.Range count p.1)
    (λ u x r. joins-known u p.0 x r.0.spans) (range-sound (Comma a b) tt t p count h)
join-suits (Semicolon a b) d g t p count h =
    Agrees-weaker (RangeWith Nothing_more p.0) (λ (u : State) (x : Span). Joins (joining u.zone) x) (ranged t) (spanned many.Range count p.1)
    (λ u x r. joins-known u p.0 x r.0.spans) (range-sound (Semicolon a b) tt t p count h)

-- `t`: some lines are copied
copy-suits : (a : Addresses) → IsGiven a → (to : Address) (t : State) (p : editor.State × List ℕ) (u : State) (q : editor.State × ℕ) (count : ℕ) → Addressed (NamesOf a) t p → Targeted p.0 p.1 u q →
    Agrees (λ (w : State) (x : Span). 1 ≤ length (texts (parts.between x.first x.last q.0.lines))) (ranged u) (spanned many.Range count p.1)
copy-suits a g to t p u q count h k =
    Agrees-weaker (RangeWith (At_target q.1) q.0) (λ (w : State) (x : Span). 1 ≤ length (texts (parts.between x.first x.last q.0.lines))) (ranged u) (spanned many.Range count p.1)
    (λ w x r. some-between q.0.lines x r.0.from r.0.order r.0.spans.first_in)
    (range-with (At_target q.1) u q.0 p.1 k.numbers count k.stands k.names k.target_is)

module _ (watched : List (List ℕ)) (addresses_given : Addresses) (suffix : Option Form) (listed : Bool) (answer : Option Answer) (s : State) (e : editor.State) (st : StandsFor s e) where
  abbrev command_with : Verb → Command
  command_with verb = record { addresses = addresses_given; verb = verb; suffix = suffix; listed = listed }

  join-told : Tells Holds (step_at watched (given_or addresses_given (standing (takes ed.Join).default)) (command_with ed.Join) s) (command e (command_with ed.Join) answer)
  join-told =
      let c : Command = command_with ed.Join in
      let d : Addresses = standing (takes ed.Join).default in
      let a : Addresses = given_or addresses_given d in
      subst (λ (y : Result Effect Fault). Tells Holds (step_at watched a c s) y) (sym (command-is c e answer))
      (tells-agreed Holds (AddressedIn e.lines (NamesOf a)) (SameMatches s) (λ (v : editor.State × List ℕ). SameBuffer e v.0) (addressed a s) (values (given_or addresses_given (takes ed.Join).default) e) _ _
      (command_addressed addresses_given ed.Join s e (st.numbers, st.stands, st.facts) st.matches.0)
      (addressed-same a s) (values-same (given_or addresses_given (takes ed.Join).default) e)
      (λ t v h i j. tells-agreed Holds (λ (u : State) (x : Span). Joins (joining_given addresses_given u.zone) x) (SameMatches t) InOrder (ranged t) (spanned many.Range (length e.lines) v.1) _ _
      (join-suits addresses_given d tt t v (length e.lines) h.0)
      (taken-same many.Range addresses_given a t) (spans_are_in_order many.Range (length e.lines) v.1)
      (λ u x k m order. acted watched c answer s e st u v.0 x 0 (then-same s t u i m) j order k)))

  copy-told : (to : Address) → Tells Holds (step_at watched (given_or addresses_given (standing (takes (ed.Copy to)).default)) (command_with (ed.Copy to)) s) (command e (command_with (ed.Copy to)) answer)
  copy-told to =
      let c : Command = command_with (ed.Copy to) in
      let d : Addresses = standing (takes (ed.Copy to)).default in
      let a : Addresses = given_or addresses_given d in
      subst (λ (y : Result Effect Fault). Tells Holds (step_at watched a c s) y) (sym (command-is c e answer))
      (tells-agreed Holds (AddressedIn e.lines (NamesOf a)) (SameMatches s) (λ (v : editor.State × List ℕ). SameBuffer e v.0) (addressed a s) (values (given_or addresses_given (takes (ed.Copy to)).default) e) _ _
      (command_addressed addresses_given (ed.Copy to) s e (st.numbers, st.stands, st.facts) st.matches.0)
      (addressed-same a s) (values-same (given_or addresses_given (takes (ed.Copy to)).default) e)
      (λ t v h i j.
      let n = names-given a (given_or-given addresses_given d tt) v.1 v.0.lines h.0.numbers h.0.names in
      tells-agreed Holds (Targeted v.0 v.1) (SameMatches t) (λ (q : editor.State × ℕ). SameBuffer v.0 q.0) (evaluated 5 to t) (concrete.targeted (Some to) v.0) _ _
      (targeted-sound to t v.0 v.1 h.0.numbers h.0.stands n h.0.matched h.0.followed)
      (target-same (Some to) t) (targeted-same (Some to) v.0)
      (λ p q k l m. tells-agreed Holds (λ (w : State) (x : Span). 1 ≤ length (texts (parts.between x.first x.last q.0.lines))) (SameMatches p) InOrder (ranged p) (spanned many.Range (length e.lines) v.1) _ _
      (copy-suits a (given_or-given addresses_given d tt) to t v p q (length e.lines) h.0 k)
      (taken-same many.Range addresses_given a p) (spans_are_in_order many.Range (length e.lines) v.1)
      (λ u x some n order. acted watched c answer s e st u q.0 x q.1 (then-same s p u (then-same s t p i l) n) (m.0 ∙ j.0, m.1 ∙ j.1, m.2 ∙ j.2, m.3 ∙ j.3) order some))))

  verb-told : (verb : Verb) → Tells Holds (step_at watched (given_or addresses_given (standing (takes verb).default)) (command_with verb) s) (command e (command_with verb) answer)
  verb-told ed.Join = join-told
  verb-told (ed.Copy to) = copy-told to
  verb-told verb = phases-told watched (command_with verb) answer s e st refl

step_at-told : (watched : List (List ℕ)) (c : Command) (s : State) (e : editor.State) (given : Option Answer) → StandsFor s e →
    Tells Holds (step_at watched (given_or c.addresses (standing (takes c.verb).default)) c s) (command e c given)
step_at-told watched c s e given st = verb-told watched c.addresses c.suffix c.listed given s e st c.verb

needed-told : (b : Bool) (s : State) (k : State → Result State Fault) (y : Result Effect Fault) → Tells Holds (k s) y → Tells Holds (needing b fault.Syntax s >> k) y
needed-told true s k y h = h
needed-told false s k y h = tt

pub step-told : (watched : List (List ℕ)) (c : Command) (s t : State) (e : editor.State) (given : Option Answer) → StandsFor s e → step watched c s ≡ Ok t → Tells Holds (Ok t) (command e c given)
step-told watched c s t e given st is =
    subst (λ (x : Result State Fault). Tells Holds x (command e c given)) is
    (needed-told (enters_lines c.verb) s (step_at watched (given_or c.addresses (standing (takes c.verb).default)) c) (command e c given) (step_at-told watched c s e given st))
