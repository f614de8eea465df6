-- What is known of single lines, through the phases of a command.
use Rattle.std.proofs.Common.{◌≡◌, ◌<◌, ◌≤◌, ◌+◌, ◌-◌, min, ℕ, pos, negsuc, Bool, true, false, cond, not, ◌&&◌, nat_lt, List, [], ◌∷◌, ◌++◌, length, Option, Some, None, Result, Ok, Err, IfOk, arith, refl, ◌∙◌, sym, ap, subst, inl, inr}
use Rattle.std.specs.Prelude.{◌⊎◌}
use Rattle.std.proofs.lemmas.Int.{ints}
use Rattle.std.proofs.lemmas.Bool.{and_parts, ltb-true, cases_lt}
use Rattle.std.proofs.Math.Seq.{map-set_same}
use Rattle.ed_base.specs.declared.fault.Fault.{Fault}
use Rattle.ed_base.specs.declared.fault.Fault.TheVariants as fault
use Rattle.ed_base.specs.Lines.{newline, lines_of, IsLine}
use Rattle.ed_base.specs.Buffer.{Line, plain_line, with_letter, marked_at, texts, KnowLetters}
use Rattle.std.proofs.Common.{zero, suc, map, get_or, take, All}
use Rattle.std.specs.List.{concat, range_with_len}
use Rattle.std.proofs.lemmas.List.{length-map}
use Rattle.std.proofs.lemmas.List.Elements.{All-nil, All-cons, All-take, All-drop}
use Rattle.ed_base.specs.Parts as parts
use Rattle.ed_base.specs.Parts.{between}
use Rattle.zones.specs.Name.{mark}
use Rattle.zones.specs.Steps.{after_guard}
use Rattle.zones.specs.Zone.{Bounds, Numbers, updated}
use Rattle.zones.specs.Known.{known}
use Rattle.zones.proofs.Known.{known-true}
use Rattle.ed_syntax.specs.declared.verbs.Taking.TheVariants as many
use Rattle.ed_syntax.specs.declared.command.Sense.{Sense}
use Rattle.ed_syntax.specs.declared.replacement.Part.{Part}
use Rattle.ed_syntax.specs.declared.replacement.Which.{Which}
use Rattle.ed_syntax.specs.declared.request.Answer.{Answer}
use Rattle.ed_syntax.specs.declared.request.Answer.TheVariants as answer
use Rattle.ed_syntax.specs.Commands as ed
use Rattle.ed_syntax.specs.Commands.{Address, Addresses, Without, One, Comma, Semicolon, Verb, Form, Command}
use Rattle.ed_syntax.specs.meaning.States as editor
use Rattle.ed_syntax.specs.meaning.States.{Kept, kept}
use Rattle.ed_syntax.specs.meaning.Verbs.{takes, given_or}
use Rattle.ed_syntax.specs.meaning.Values.{◌>>◌, values, used_pattern}
use Rattle.ed_syntax.specs.meaning.Ranges.{Span, span, last_of_two, spanned}
use Rattle.ed_syntax.specs.meaning.Effects as effects
use Rattle.ed_syntax.specs.meaning.Effects.{Outcome, Effect, Makes, Asks}
use Rattle.ed_syntax.specs.meaning.CommandLaws.{AreWhole, WellMarked, InOrder, SpansAreInOrder}
use Rattle.ed_syntax.specs.meaning.Globals.{flagged}
use Rattle.ed_syntax.specs.meaning.SubstitutedLines.{Results, substitute}
use Rattle.ed_syntax.specs.meaning.Applied as concrete
use Rattle.ed_syntax.specs.meaning.Applied.{making, settled, completed, suffix_written, effect_of, command}
use Rattle.ed_syntax.specs.meaning.Files as file
use Rattle.ed_syntax.specs.spelling.Readable.{enters_lines}
use Rattle.ed_syntax.proofs.meaning.ResultLemmas.{IfOk-bind}
use Rattle.ed_rules.specs.declared.known_matches.Matches.{Matches}
use Rattle.ed_rules.specs.declared.state.State.{State}
use Rattle.ed_rules.specs.States.{old_of}
use Rattle.ed_rules.specs.StandsFor.{allows_replacement, Reads, HoldsBy, StandsBy, StandsFor}
use Rattle.ed_rules.specs.Pieces.{needing, with_zone, modified, replaced, ended}
use Rattle.ed_rules.specs.Addresses.{possible_patterns, addressed, standing, last_given, targeted, ranged}
use Rattle.ed_rules.specs.Lines.{appended, put_before, changed_to, deleted, joined_given, marked, current_at, copied_lines}
use Rattle.ed_rules.specs.Move.{moved_lines}
use Rattle.ed_rules.specs.Order.{join}
use Rattle.ed_rules.specs.declared.matching.Certainty.TheVariants.{Never, Maybe, Surely}
use Rattle.ed_rules.specs.Marks.{is_sure}
use Rattle.ed_rules.specs.Texts.{with_texts}
use Rattle.ed_rules.specs.Following.{patterns_of}
use Rattle.ed_rules.specs.declared.state.Old.{Old}
use Rattle.ed_rules.specs.Files.{named, named_first, named_anew, whole_or_ranged, file_read, file_written, file_named}
use Rattle.ed_rules.specs.Choices.{Choice, has_choice, texts_of}
use Rattle.ed_rules.specs.Matched.{gained}
use Rattle.ed_rules.specs.Matching.{joining_given, saying, matches_after}
use Rattle.ed_rules.specs.FactsAfter.{facts_ended, facts_as, facts_inserted, stays_marked, letters_that_stay, facts_edited, facts_changed, facts_maybe_joined, facts_joined, facts_moved, facts_spared, lines_left, facts_rewritten, facts_substituted, facts_left, facts_after}
use Rattle.ed_rules.specs.Substituting.{pattern_used, substituted}
use Rattle.ed_rules.specs.Undoing.{undone}
use Rattle.ed_rules.specs.Rules.{taken, effect, suffixed, step_at, step}
use Rattle.ed_rules.specs.facts.Facts.{Facts, FactsHold, ReadsEnds, no_facts}
use Rattle.ed_rules.specs.facts.FoundLines.{without}
use Rattle.ed_rules.specs.facts.PrunedFacts.{pruned}
use Rattle.ed_rules.specs.facts.EditedFacts.{Edit, stays, deletion, changing, joining, rewriting, appending, reading, copying, inserting}
use Rattle.ed_rules.specs.facts.EditHolds.{AreFreshIf, LetterStays, Takes, FactsAreLeft}
use Rattle.ed_rules.proofs.facts.FactsLeft.{delete-left, change-left, append-left, insert-left, join-left, rewrite-left, add-left, copy-left}
use Rattle.ed_rules.proofs.facts.FactsCarried.{carry-left}
use Rattle.ed_rules.proofs.Basics.{Agrees, Agrees-weaker}
use Rattle.ed_rules.proofs.CoveringStates.{sure-both}
use Rattle.ed_rules.proofs.sound.Weaker.{HoldsBy-fewer}
use Rattle.zones.proofs.Soundness.{Holds-after_guard}
use Rattle.ed_rules.proofs.facts.FactsByBytes.{FactsHold-bytes}
use Rattle.ed_rules.proofs.facts.FactsEnded.{spoken-agreed, ended-agreed}
use Rattle.ed_rules.proofs.facts.FactsOrdered.{FactsHold-both, FactsHold-both_other}
use Rattle.ed_rules.specs.facts.FactOrder.{both_facts}
use Rattle.ed_rules.proofs.facts.PrunedFacts.{pruned-hold}
use Rattle.ed_rules.proofs.facts.FoundLines.{filter-both, FactsHold-without}
use Rattle.ed_rules.proofs.sound.Standing.{Begins, Reads-current, nothing-holds}
use Rattle.ed_rules.proofs.sound.Following.{FollowedHold, KnownAt, facts-set}
use Rattle.ed_rules.proofs.sound.Addressing.{NamesOf, Addressed, AddressedIn, command_addressed}
use Rattle.ed_rules.proofs.sound.Effects.{mark-follows, join-changes, join-stays, length-between, move-up-is, move-down-is, move-within-is}
use Rattle.ed_rules.proofs.sound.Lettered.{lettered-marked}
use Rattle.ed_rules.proofs.sound.Commanding.{command-is, IsGiven, given_or-given, Suits, suits, SpansKnown, last_given-known, AtLine, one_line-sound, FirstPlaces, first_place-sound, lines-sound, Targeted, targeted-sound, TargetFollowed, RangeAlso, range-also, range-in, range-known, names-given}
use Rattle.ed_rules.proofs.sound.Spans.{InRange}
use Rattle.ed_rules.proofs.sound.SubstitutionEffects.{RangesKnown, allows-plain, substitute-follows}
use Rattle.ed_rules.proofs.sound.GlobalEffects.{IsUndone, undo-known}
use Rattle.ed_rules.proofs.facts.RewrittenLine.{rewritten-fresh}
use Rattle.ed_rules.proofs.sound.LettersInLines.{line_with-plain}
use Rattle.ed_rules.proofs.sound.SubstitutedLine.{IsRewritten, substitute-rewrites, IsPut, substitute-puts}
use Rattle.ed_rules.proofs.facts.FactsSpared.{one_made, made-each-one, made-alike, spare-left}
use Rattle.ed_syntax.specs.meaning.SubstitutedLines.{each}
use Rattle.ed_rules.proofs.sound.Finishing.{Follows}
use Rattle.ed_rules.proofs.sound.Flags.{Alike, HoldsBy-alike, texts-alike, alike-taken}
use Rattle.ed_rules.proofs.sound.Outcomes.{always, OnMade, OnMade-bind}
use Rattle.ed_rules.proofs.through.Needs.{needed}
use Rattle.ed_rules.proofs.through.Steps.{suffixed-through}
use Rattle.ed_rules.proofs.matches.MatchedPhases.{Tells, tells-nothing, tells-bind}

-- facts are true of an editor's lines by all numbers that are read of it
abbrev pub ReadFacts : Facts → (marks : List Bool) → editor.State → Type 0
ReadFacts facts marks e = (w : Numbers) → Reads marks e.lines e.current w → FactsHold facts w e.lines

-- what a state says of single lines is true of what a command makes
abbrev pub FactsRead : State → Outcome → Type 0
FactsRead t o = ReadFacts t.facts t.marks o.state

nothing-read : (marks : List Bool) (e : editor.State) → ReadFacts no_facts marks e
nothing-read marks e w r = nothing-holds w e.lines

-- BOTH SIDES

pub tells-by : {A B : Type 0} (R : State → Outcome → Type 0) (S : A → B → Type 0) (x : Result A Fault) (y : Result B Fault) (f : A → Result State Fault) (g : B → Result Effect Fault) →
    Agrees S x y → ((a : A) (b : B) → S a b → Tells R (f a) (g b)) → Tells R (x >> f) (y >> g)
tells-by R S (Ok a) (Ok b) f g s h = h a b s
tells-by R S (Ok a) (Err e) f g s h = absurd s
tells-by R S (Err e) y f g s h = tt

tells-needing : (R : State → Outcome → Type 0) (b : Bool) (f : Fault) (t : State) (y : Result Effect Fault) → (b ≡ true → Tells R (Ok t) y) →
    Tells R (needing b f t) y
tells-needing R true f t y h = h refl
tells-needing R false f t y h = tt

pub tells-each : (R : State → Outcome → Type 0) (P : State → Type 0) (Q : Outcome → Type 0) (x : Result State Fault) (y : Result Effect Fault) → IfOk x P → OnMade Q y →
    ((t : State) (o : Outcome) → P t → Q o → R t o) → Tells R x y
tells-each R P Q (Err f) y h k i = tt
tells-each R P Q (Ok t) (Err f) h k i = tt
tells-each R P Q (Ok t) (Ok (Asks r)) h k i = tt
tells-each R P Q (Ok t) (Ok (Makes o)) h k i = i t o h k

tells-agreed : (R : State → Outcome → Type 0) (S : State → Effect → Type 0) (x : Result State Fault) (y : Result Effect Fault) → Agrees S x y →
    ((t : State) (o : Outcome) → S t (Makes o) → R t o) → Tells R x y
tells-agreed R S (Err f) y h i = tt
tells-agreed R S (Ok t) (Err f) h i = tt
tells-agreed R S (Ok t) (Ok (Asks r)) h i = tt
tells-agreed R S (Ok t) (Ok (Makes o)) h i = i t o h

tells-any : (R : State → Outcome → Type 0) (x : Result State Fault) (y : Result Effect Fault) → ((t : State) (o : Outcome) → R t o) → Tells R x y
tells-any R (Err f) y h = tt
tells-any R (Ok t) (Err f) h = tt
tells-any R (Ok t) (Ok (Asks r)) h = tt
tells-any R (Ok t) (Ok (Makes o)) h = h t o

tells-asks : (R : State → Outcome → Type 0) (x : Result State Fault) (o : Effect) → ((p : Outcome) → o ≡ Makes p → ⊥) → Tells R x (Ok o)
tells-asks R (Err f) o h = tt
tells-asks R (Ok t) (Makes p) h = absurd (h p refl)
tells-asks R (Ok t) (Asks r) h = tt

-- THE END OF A RULE

settled-read : (facts : Facts) (marks : List Bool) (listed : Bool) (k : editor.Kept) (o : Outcome) → ReadFacts facts marks o.state → ReadFacts facts marks (settled listed k o)
settled-read facts marks listed k o h =
    elim o.alters as (λ b. ReadFacts facts marks (settled listed k (record o { alters = b }))) [ true ↦ h | false ↦ h ]

pub finish-facts : (c : Command) (start : editor.State) (m : Matches) (facts : State → Facts) (x : Result State Fault) (y : Result Effect Fault) →
    Tells (λ (r : State) (o : Outcome). ReadFacts (facts r) r.marks o.state) x y →
    Tells FactsRead (x >> λ r. suffixed c.suffix (saying m (facts r) (with_zone (ended r.marks r.zone) r))) (y >> completed c start)
finish-facts c start m facts (Err f) y h = tt
finish-facts c start m facts (Ok r) (Err f) h = tells-nothing FactsRead (suffixed c.suffix (saying m (facts r) (with_zone (ended r.marks r.zone) r))) f
finish-facts c start m facts (Ok r) (Ok (Asks q)) h =
    tells-asks FactsRead (suffixed c.suffix (saying m (facts r) (with_zone (ended r.marks r.zone) r))) (Asks q) (λ p is. absurd cc)
finish-facts c start m facts (Ok r) (Ok (Makes o)) h =
    let t : State = saying m (facts r) (with_zone (ended r.marks r.zone) r) in
    let P : State → Type 0 = λ (u : State). (u.facts ≡ facts r) × (u.marks ≡ r.marks) in
    let Q : Outcome → Type 0 = λ (p : Outcome). ReadFacts (facts r) r.marks p.state in
    tells-each FactsRead P Q (suffixed c.suffix t) (completed c start (Makes o)) (suffixed-through P c.suffix t (refl, refl))
    (OnMade-bind (λ (_ : List ℕ). Unit {0}) Q (suffix_written c.suffix o.state) _ (always (suffix_written c.suffix o.state))
    (λ more _. settled-read (facts r) r.marks c.listed (kept start) o h))
    (λ u p same read. subst (λ (f : Facts). ReadFacts f u.marks p.state) (sym same.0)
    (subst (λ (marks : List Bool). ReadFacts (facts r) marks p.state) (sym same.1) read))

-- WHAT COMMANDS LEAVE

-- what a rule leaves is true of what the command makes
abbrev pub Leaves : (watched : List (List ℕ)) → (listed : Bool) → (given : Addresses) → Verb → (u r : State) → Outcome → Type 0
Leaves watched listed given verb u r o = ReadFacts (facts_after watched listed given verb u r) r.marks o.state

pub leaves-by : (watched : List (List ℕ)) (listed : Bool) (given : Addresses) (verb : Verb) (u r : State) (o : Outcome) →
    (u.follows ≡ true → ReadFacts (facts_ended r.marks (facts_left watched listed given verb (old_of u) r)) r.marks o.state) → Leaves watched listed given verb u r o
leaves-by watched listed given verb u r o h =
    let left : Facts = facts_ended r.marks (facts_left watched listed given verb (old_of u) r) in
    (elim u.follows as (λ b. (b ≡ true → ReadFacts left r.marks o.state) → ReadFacts (cond b (pruned r.zone left) no_facts) r.marks o.state) [
      | true ↦ λ k w q. pruned-hold r.zone left w o.state.lines (k refl w q)
      | false ↦ λ k. nothing-read r.marks o.state
    ]) h

leaves-none : (watched : List (List ℕ)) (listed : Bool) (given : Addresses) (verb : Verb) (u r : State) (o : Outcome) → facts_left watched listed given verb (old_of u) r ≡ no_facts →
    Leaves watched listed given verb u r o
leaves-none watched listed given verb u r o is =
    leaves-by watched listed given verb u r o
    (λ _. subst (λ (f : Facts). ReadFacts (facts_ended r.marks f) r.marks o.state) (sym is) (nothing-read r.marks o.state))

-- the lines stay, but maybe their flags, and the line that is current
abbrev StaysAt : editor.State → Outcome → Type 0
StaysAt q o = Alike q.lines o.state.lines × (o.state.current ≡ q.current)

abbrev SameMarks : State → State → Type 0
SameMarks u r = r.marks ≡ u.marks

stays-read : (u : State) (q : editor.State) (o : Outcome) → KnownAt u q → StaysAt q o → u.follows ≡ true →
    ReadFacts (facts_ended u.marks u.facts) u.marks o.state
stays-read u q o k at e w r =
    let same : HoldsBy u.zone u.marks o.state.lines q.current k.0 = HoldsBy-alike u.zone u.marks q.lines o.state.lines q.current k.0 at.0 k.1.buffer in
    ended-agreed u.marks o.state.lines q.current k.0 w same.reads (subst (λ (n : ℕ). Reads u.marks o.state.lines n w) at.1 r) u.facts
    (FactsHold-bytes u.facts k.0 q.lines o.state.lines (texts-alike q.lines o.state.lines at.0) (k.2 e))

kept-read : (u : State) (q : editor.State) → KnownAt u q → u.follows ≡ true → ReadFacts (facts_ended u.marks u.facts) u.marks q
kept-read u q k e w r = ended-agreed u.marks q.lines q.current k.0 w k.1.buffer.reads r u.facts (k.2 e)

kept-leaves : (watched : List (List ℕ)) (listed : Bool) (given : Addresses) (verb : Verb) (u r : State) (q : editor.State) (o : Outcome) → KnownAt u q →
    facts_left watched listed given verb (old_of u) r ≡ u.facts → SameMarks u r → StaysAt q o → Leaves watched listed given verb u r o
kept-leaves watched listed given verb u r q o k is same at =
    leaves-by watched listed given verb u r o
    (λ e. subst (λ (f : Facts). ReadFacts (facts_ended r.marks f) r.marks o.state) (sym is)
    (subst (λ (marks : List Bool). ReadFacts (facts_ended marks u.facts) marks o.state) (sym same) (stays-read u q o k at e)))

-- another line is current
current-read : (y n : ℕ) (u : State) (q : editor.State) (v : Numbers) → y < 32 → v y ≡ pos n → StandsBy u q v → FactsHold u.facts v q.lines →
    ReadFacts (facts_ended u.marks (facts_as 1 y (old_of u))) u.marks (record q { current = n })
current-read y n u q v hy is st h w r =
    let ends : ReadsEnds v q.lines = record { zero_is = st.buffer.reads.zero_is; last_is = st.buffer.reads.last_is } in
    ended-agreed u.marks q.lines n (updated v 1 (pos n)) w (Reads-current u.marks q.lines q.current v n st.buffer.reads) r (facts_as 1 y (old_of u))
    (facts-set true 1 y (pos 0) (pos n) u.zone u.facts v q.lines (omega arith) hy (λ (z : 2 ≡ 1). omega arith) (omega (arith, ints)) st.buffer.holds ends
    (λ _. h) refl)

-- `i` without a text
insert-read : (u : State) (q : editor.State) (v : Numbers) (first : ℕ) → v 3 ≡ pos first → StandsBy u q v → FactsHold u.facts v q.lines →
    ReadFacts (facts_ended u.marks (facts_inserted (old_of u))) u.marks (record q { current = min first (length q.lines) })
insert-read u q v first is st h =
    (elim (known u.zone 3 2 (pos 0)) as (λ b. known u.zone 3 2 (pos 0) ≡ b →
    ReadFacts (facts_ended u.marks (cond b (facts_as 1 3 (old_of u)) (without 1 u.facts))) u.marks (record q { current = min first (length q.lines) })) [
      | true ↦ λ k.
          let d = known-true u.zone v 3 2 (pos 0) k (omega arith) (omega arith) st.buffer.holds in
          let last = st.buffer.reads.last_is in
          let same : first ≡ min first (length q.lines) = omega (arith, ints) in
          current-read 3 (min first (length q.lines)) u q v (omega arith) (is ∙ ap pos same) st h
      | false ↦ λ _ w r.
          let n : ℕ = min first (length q.lines) in
          ended-agreed u.marks q.lines n (updated v 1 (pos n)) w (Reads-current u.marks q.lines q.current v n st.buffer.reads) r (without 1 u.facts)
          (FactsHold-without 1 (pos n) u.facts v q.lines (λ (z : 2 ≡ 1). omega arith) h)
    ]) refl

-- a letter marks a line: the bytes of lines stay
texts-lettered : (letter : ℕ) (ls : List Line) → texts (map (with_letter letter false) ls) ≡ texts ls
texts-lettered letter [] = refl
texts-lettered letter (l ∷ ls) = ap (λ (ts : List (List ℕ)). l.bytes ∷ ts) (texts-lettered letter ls)

texts-marked : (place letter : ℕ) (ls : List Line) → texts (marked_at place letter ls) ≡ texts ls
texts-marked place letter ls =
    let others : List Line = map (with_letter letter false) ls in
    map-set_same (λ (line : Line). line.bytes) others place (with_letter letter true (get_or others place (plain_line []))) (plain_line []) refl
    ∙ texts-lettered letter ls

mark-read : (listed : Bool) (letter : ℕ) (start : editor.State) (u : State) (q : editor.State) (x : Span) (a : AtLine q u x) → letter < 26 → KnowLetters q.lines →
    u.follows ≡ true →
    ReadFacts (facts_ended (marked letter u).marks (facts_as (6 + letter) 3 (old_of u))) (marked letter u).marks (effects.mark letter x q).state
unfolding mark-follows
mark-read listed letter start u q x a hl letters e w r =
    let v : Numbers = a.0.spans.numbers in
    let st : StandsBy u q v = a.0.spans.stands in
    let first = a.0.spans.first_is in
    let same = a.1 in
    let m = mark-follows listed letter start u q x a.0 a.1 hl letters in
    let ls : List Line = marked_at (x.last - 1) letter q.lines in
    let ends : ReadsEnds v q.lines = record { zero_is = st.buffer.reads.zero_is; last_is = st.buffer.reads.last_is } in
    let f : FactsHold (facts_as (6 + letter) 3 (old_of u)) m.0 q.lines =
    facts-set true (6 + letter) 3 (pos 0) (pos x.last) u.zone u.facts v q.lines (omega arith) (omega arith) (λ (z : 2 ≡ 6 + letter). omega arith) (omega (arith, ints))
    st.buffer.holds ends (λ _. a.2 e) refl in
    ended-agreed (marked letter u).marks ls q.current m.0 w m.1.buffer.reads r (facts_as (6 + letter) 3 (old_of u))
    (FactsHold-bytes (facts_as (6 + letter) 3 (old_of u)) m.0 q.lines ls (sym (texts-marked (x.last - 1) letter q.lines)) f)

-- LINES GIVE WAY TO OTHERS

below-all : (a n m : ℕ) → a + n ≤ m → All (λ x. x < m) (range_with_len a n)
below-all a zero m h = All-nil (λ (x : ℕ). x < m)
below-all a (suc n) m h = All-cons (λ (x : ℕ). x < m) a (range_with_len (a + 1) n) (omega arith) (below-all (a + 1) n m (omega arith))

letters-stay : (e : Edit) (b : Old) (after : List Bool) → All (LetterStays b.zone b.facts e b.marks after) (letters_that_stay e b after)
letters-stay e b after =
    filter-both (stays_marked e b after) (λ x. x < 26) (LetterStays b.zone b.facts e b.marks after) (range_with_len 0 26) (below-all 0 26 26 (omega arith))
    (λ x l is.
    let two = and_parts (is_sure b.marks x) (is_sure after x && stays b.zone b.facts e (mark x)) is in
    let three = and_parts (is_sure after x) (stays b.zone b.facts e (mark x)) two.1 in
    (l, two.0, three.0, three.1))

edited-holds : (more : List (List ℕ)) (e : Edit) (u : State) (after : List Bool) (made : editor.State) → FactsAreLeft u.zone u.facts u.marks e made →
    ReadFacts (facts_edited more e (old_of u) after) after made
unfolding facts_edited
edited-holds more e u after made left w r =
    left (letters_that_stay e (old_of u) after) (with_texts more (patterns_of u.facts)) after w r (letters-stay e (old_of u) after)

edited-read : (more : List (List ℕ)) (e : Edit) (u : State) (after : List Bool) (made : editor.State) → FactsAreLeft u.zone u.facts u.marks e made →
    ReadFacts (facts_ended after (facts_edited more e (old_of u) after)) after made
edited-read more e u after made left w r =
    ended-agreed after made.lines made.current w w r r (facts_edited more e (old_of u) after) (edited-holds more e u after made left w r)

range-takes : (u : State) (q : editor.State) (x : Span) (r : InRange q u x) → u.follows ≡ true → Takes u.zone u.facts u.marks r.0.spans.numbers q x
range-takes u q x r f = record {
  holds = r.0.spans.stands.buffer.holds;
  facts_hold = r.1 f;
  reads = r.0.spans.stands.buffer.reads;
  first_is = r.0.spans.first_is;
  last_is = r.0.spans.last_is;
  inside = r.0.spans.last_in;
}

change-read : (text : List (List ℕ)) (watched : List (List ℕ)) (u r : State) (q : editor.State) (x : Span) → InRange q u x → u.follows ≡ true →
    ReadFacts (facts_ended r.marks (facts_changed watched text (old_of u) r.marks)) r.marks (effects.change text x q).state
change-read [] watched u r q x k f =
    edited-read [] deletion u r.marks (effects.delete x q).state
    (delete-left u.zone u.facts u.marks k.0.spans.numbers q x (range-takes u q x k f) k.0.from k.0.order)
change-read (line ∷ more) watched u r q x k f =
    edited-read (gained watched (line ∷ more)) (changing (line ∷ more)) u r.marks (effects.change (line ∷ more) x q).state
    (change-left u.zone u.facts u.marks k.0.spans.numbers q x line more (range-takes u q x k f) k.0.from k.0.order)

-- `j`
module _ (listed : Bool) (s u : State) (q : editor.State) (x : Span) (k : InRange q u x) where
  abbrev sure_join : State
  sure_join = modified listed s (replaced 1 u)

  abbrev joined_by : (one many : Bool) → State
  joined_by one many =
      cond one u (cond many sure_join (join (modified listed s (replaced 1 (with_zone (after_guard u.zone 3 4 (negsuc 0)) u)))
      (with_zone (after_guard u.zone 4 3 (pos 0)) u)))

  joined_line : List ℕ
  joined_line = concat (texts (between x.first x.last q.lines))

  -- several lines are joined
  many-joined : u.follows ≡ true → x.first < x.last → (after : List Bool) → ReadFacts (facts_ended after (facts_maybe_joined (old_of u) after)) after (effects.join x q).state
  unfolding facts_maybe_joined joined_line
  many-joined f lt after =
      let v : Numbers = k.0.spans.numbers in
      let first = k.0.spans.first_is in
      let last = k.0.spans.last_is in
      let guarded : State = with_zone (after_guard u.zone 3 4 (negsuc 0)) u in
      let takes : Takes guarded.zone guarded.facts guarded.marks v q x = record {
        holds = Holds-after_guard u.zone 3 4 (negsuc 0) v (omega arith) (omega arith) k.0.spans.stands.buffer.holds (omega (arith, ints));
        facts_hold = k.1 f;
        reads = k.0.spans.stands.buffer.reads;
        first_is = first;
        last_is = last;
        inside = k.0.spans.last_in;
      } in
      let one : Facts = facts_edited [] joining (old_of guarded) after in
      let other : Bounds = after_guard u.zone 4 3 (pos 0) in
      let made : editor.State = (effects.altered (parts.replaced x.first x.last (plain_line joined_line ∷ []) q.lines) x.first q).state in
      subst (λ (o : Outcome). ReadFacts (facts_ended after (facts_maybe_joined (old_of u) after)) after o.state) (sym (join-changes x q lt))
      (λ w r. ended-agreed after made.lines made.current w w r r (facts_maybe_joined (old_of u) after)
      (spoken-agreed after (both_facts one other u.facts) w w made.lines (λ y e. refl)
      (FactsHold-both one other u.facts w made.lines
      (edited-holds [] joining guarded after made (join-left guarded.zone guarded.facts guarded.marks v q x joined_line takes k.0.from k.0.order) w r))))

  -- one line isn't
  one-left : u.follows ≡ true → x.last ≤ x.first → (after : List Bool) → ((letter : ℕ) → letter < 26 → is_sure after letter ≡ true → is_sure u.marks letter ≡ true) →
      ReadFacts (facts_ended after (facts_maybe_joined (old_of u) after)) after (effects.join x q).state
  unfolding facts_maybe_joined
  one-left f le after among =
      let v : Numbers = k.0.spans.numbers in
      let b = k.0.spans.stands.buffer in
      let first = k.0.spans.first_is in
      let last = k.0.spans.last_is in
      let guarded : State = with_zone (after_guard u.zone 3 4 (negsuc 0)) u in
      let one : Facts = facts_edited [] joining (old_of guarded) after in
      let other : Bounds = after_guard u.zone 4 3 (pos 0) in
      let few = HoldsBy-fewer u.zone other u.marks after q.lines q.current v among
      (Holds-after_guard u.zone 4 3 (pos 0) v (omega arith) (omega arith) b.holds (omega (arith, ints))) b in
      subst (λ (o : Outcome). ReadFacts (facts_ended after (facts_maybe_joined (old_of u) after)) after o.state) (sym (join-stays x q le))
      (λ w r. ended-agreed after q.lines q.current v w few.reads r (facts_maybe_joined (old_of u) after)
      (spoken-agreed after (both_facts one other u.facts) v v q.lines (λ y e. refl)
      (FactsHold-both_other one other u.facts v q.lines few.holds (record { zero_is = b.reads.zero_is; last_is = b.reads.last_is }) (k.1 f))))

  join-read : (one many : Bool) → known u.zone 4 3 (pos 0) ≡ one → known u.zone 3 4 (negsuc 0) ≡ many → u.follows ≡ true →
      ReadFacts (facts_ended (joined_by one many).marks (facts_joined (cond one Never (cond many Surely Maybe)) (old_of u) (joined_by one many).marks))
      (joined_by one many).marks (effects.join x q).state
  unfolding join
  join-read true many a b f =
      let d = known-true u.zone k.0.spans.numbers 4 3 (pos 0) a (omega arith) (omega arith) k.0.spans.stands.buffer.holds in
      let first = k.0.spans.first_is in
      let last = k.0.spans.last_is in
      subst (λ (o : Outcome). ReadFacts (facts_ended u.marks u.facts) u.marks o.state) (sym (join-stays x q (omega (arith, ints))))
      (kept-read u q (k.0.spans.numbers, k.0.spans.stands, k.1) f)
  join-read false true a b f =
      let d = known-true u.zone k.0.spans.numbers 3 4 (negsuc 0) b (omega arith) (omega arith) k.0.spans.stands.buffer.holds in
      let first = k.0.spans.first_is in
      let last = k.0.spans.last_is in
      let r : State = sure_join in
      subst (λ (o : Outcome). ReadFacts (facts_ended r.marks (facts_edited [] joining (old_of u) r.marks)) r.marks o.state) (sym (join-changes x q (omega (arith, ints))))
      (edited-read [] joining u r.marks
      (effects.altered (parts.replaced x.first x.last (plain_line (concat (texts (between x.first x.last q.lines))) ∷ []) q.lines) x.first q).state
      (join-left u.zone u.facts u.marks k.0.spans.numbers q x (concat (texts (between x.first x.last q.lines))) (range-takes u q x k f) k.0.from k.0.order))
  join-read false false a b f =
      let many : State = modified listed s (replaced 1 (with_zone (after_guard u.zone 3 4 (negsuc 0)) u)) in
      elim (cases_lt x.first x.last) [
        | inl lt ↦ many-joined f lt (joined_by false false).marks
        | inr le ↦ one-left f le (joined_by false false).marks (λ letter l e. (sure-both many.marks u.marks letter l e).1)
      ]

-- with one address the lines are one
abbrev JoinKnown : Addresses → editor.State → State → Span → Type 0
JoinKnown Without q u x = InRange q u x
JoinKnown (One a) q u x = InRange q u x × (x.last ≤ x.first)
JoinKnown (Comma a b) q u x = InRange q u x
JoinKnown (Semicolon a b) q u x = InRange q u x

record OneKnown (lines : List Line) (u : State) (v : Numbers) : Type 0 where
  pub followed : FollowedHold u v lines
  pub same : v 3 ≡ v 4

join-known : (given d : Addresses) → IsGiven d → (t : State) (p : editor.State × List ℕ) (count : ℕ) → Addressed (NamesOf (given_or given d)) t p →
    Agrees (JoinKnown given p.0) (ranged t) (spanned many.Range count p.1)
join-known Without d g t p count h = range-in d g t p count h
join-known (One b) d g t p count h =
    Agrees-weaker (RangeAlso (OneKnown p.0.lines) p.0) (JoinKnown (One b) p.0) (ranged t) (spanned many.Range count p.1)
    (λ u x r. let first = r.0.spans.first_is in let last = r.0.spans.last_is in let same = r.1.same in ((r.0, r.1.followed), omega (arith, ints)))
    (range-also (OneKnown p.0.lines) t p.0 p.1 h.numbers count h.stands (names-given (One b) tt p.1 p.0.lines h.numbers h.names)
    (record { followed = h.followed; same = h.names.first_is ∙ ap pos (h.names.same tt) ∙ sym h.names.last_is }))
join-known (Comma a b) d g t p count h = range-in (Comma a b) tt t p count h
join-known (Semicolon a b) d g t p count h = range-in (Semicolon a b) tt t p count h

join-by : (given : Addresses) (listed : Bool) (s u : State) (q : editor.State) (x : Span) → JoinKnown given q u x → u.follows ≡ true →
    ReadFacts (facts_ended (joined_given given listed s u).marks (facts_joined (joining_given given u.zone) (old_of u) (joined_given given listed s u).marks)) (joined_given given listed s u).marks
    (effects.join x q).state
join-by Without listed s u q x k f = join-read listed s u q x k (known u.zone 4 3 (pos 0)) (known u.zone 3 4 (negsuc 0)) refl refl f
join-by (One a) listed s u q x k f =
    let r : InRange q u x = k.0 in
    subst (λ (o : Outcome). ReadFacts (facts_ended u.marks u.facts) u.marks o.state) (sym (join-stays x q k.1))
    (kept-read u q (r.0.spans.numbers, r.0.spans.stands, r.1) f)
join-by (Comma a b) listed s u q x k f = join-read listed s u q x k (known u.zone 4 3 (pos 0)) (known u.zone 3 4 (negsuc 0)) refl refl f
join-by (Semicolon a b) listed s u q x k f = join-read listed s u q x k (known u.zone 4 3 (pos 0)) (known u.zone 3 4 (negsuc 0)) refl refl f

-- `m`

-- lines were carried to a place among the others: up, to the target, or down, where it counts them too
record IsMoved (x : Span) (t : ℕ) (q : editor.State) (o : Outcome) : Type 0 where
  pub place : ℕ
  pub way : ((t ≤ x.first - 1) × (place ≡ t)) ⊎ ((x.last ≤ t) × (place + (x.last - (x.first - 1)) ≡ t))
  pub lines : o.state.lines ≡ parts.carried (x.first - 1) x.last place q.lines
  pub current : o.state.current ≡ place + (x.last - (x.first - 1))

move-carries : (x : Span) (t : ℕ) (q : editor.State) → 1 ≤ x.first → x.first ≤ x.last → x.last ≤ length q.lines → OnMade (IsMoved x t q) (making (effects.move x t q))
move-carries x t q from order inside =
    let many : length (between x.first x.last q.lines) ≡ x.last + 1 - x.first = length-between x.first x.last q.lines from order inside in
    let Moves : Result Outcome Fault → Type 0 = λ (y : Result Outcome Fault). OnMade (IsMoved x t q) (making y) in
    elim (cases_lt t x.first) [
      | inl up ↦ subst Moves (sym (move-up-is x t q up order)) (record { place = t; way = inl (omega arith, refl); lines = refl; current = omega arith })
      | inr low ↦ elim (cases_lt x.last t) [
        | inl down ↦
            subst Moves (sym (move-down-is x t q order down))
            (record { place = t - (x.last + 1 - x.first); way = inr (omega arith, omega arith); lines = refl; current = omega arith })
        | inr within ↦ subst Moves (sym (move-within-is x t q low within)) tt
      ]
    ]

move-read : (u : State) (after : List Bool) (q : editor.State) (x : Span) (t : ℕ) (o : Outcome) (k : InRange q u x) → k.0.spans.numbers 5 ≡ pos t → t ≤ length q.lines → WellMarked q.lines →
    u.follows ≡ true → IsMoved x t q o → ReadFacts (facts_ended after (facts_moved (old_of u) after)) after o.state
unfolding facts_moved
move-read u after q x t o k target fits marked f m w r =
    let reads : Reads after (parts.carried (x.first - 1) x.last m.place q.lines) (m.place + (x.last - (x.first - 1))) w =
    subst (λ (n : ℕ). Reads after (parts.carried (x.first - 1) x.last m.place q.lines) n w) m.current (subst (λ (ls : List Line). Reads after ls o.state.current w) m.lines r) in
    ended-agreed after o.state.lines o.state.current w w r r (facts_moved (old_of u) after)
    (subst (λ (ls : List Line). FactsHold (facts_moved (old_of u) after) w ls) (sym m.lines)
    (carry-left u.zone u.facts u.marks after k.0.spans.numbers w q x t m.place (range-takes u q x k f) k.0.from k.0.order target fits marked m.way reads
    (letters_that_stay reading (old_of u) after) (patterns_of u.facts) (letters-stay reading (old_of u) after)))

-- `s`

settled-pattern : (listed : Bool) (k : Kept) (o : Outcome) → (settled listed k o).pattern ≡ o.state.pattern
settled-pattern listed k o = elim o.alters as (λ b. (settled listed k (record o { alters = b })).pattern ≡ o.state.pattern) [ true ↦ refl | false ↦ refl ]

settled-replacement : (listed : Bool) (k : Kept) (o : Outcome) → (settled listed k o).replacement ≡ o.state.replacement
settled-replacement listed k o = elim o.alters as (λ b. (settled listed k (record o { alters = b })).replacement ≡ o.state.replacement) [ true ↦ refl | false ↦ refl ]

tells-follow : (R : State → Outcome → Type 0) (S : State → Effect → Type 0) (Q : Outcome → Type 0) (x : Result State Fault) (y : Result Effect Fault) → Agrees S x y → OnMade Q y →
    ((t : State) (o : Outcome) → S t (Makes o) → Q o → R t o) → Tells R x y
tells-follow R S Q (Err f) y h k i = tt
tells-follow R S Q (Ok t) (Err f) h k i = tt
tells-follow R S Q (Ok t) (Ok (Asks r)) h k i = tt
tells-follow R S Q (Ok t) (Ok (Makes o)) h k i = i t o h k

module _ (pattern : Option (List ℕ)) (replacement : Option (List Part)) (choice : Which) (form : Option Form) (s : State) (e : editor.State) (begun : Begins s e) (u : State) (q : editor.State) (x : Span)
    (k : RangesKnown u q x) (whole : AreWhole q.lines) (marked : WellMarked q.lines) where
  abbrev rule : (listed : Bool) → Result State Fault
  rule listed = substituted listed pattern replacement choice s u

  abbrev done : (listed : Bool) → Result Effect Fault
  done listed = making (substitute listed pattern replacement choice form x q)

  abbrev LeavesLine : (listed : Bool) → State → Outcome → Type 0
  LeavesLine listed r o = ReadFacts (facts_ended r.marks (facts_substituted listed (old_of u) r)) r.marks o.state

  -- what is known of the line that is made is true of it
  line-fresh : u.follows ≡ true → (r : State) (o : Outcome) → Follows false e r (Makes o) → (line : IsRewritten choice x q o) → AreFreshIf (lines_left (old_of u) r) (map plain_line line.new)
  line-fresh follows r o after line =
      let allows : allows_replacement r.replacements (Some line.parts) ≡ true =
      subst (λ (parts : Option (List Part)). allows_replacement r.replacements parts ≡ true) (settled-replacement false (kept e) o ∙ line.remembered) after.1.remembered.1 in
      let possible : has_choice r.patterns (Some line.text) ≡ true =
      subst (λ (text : Option (List ℕ)). has_choice r.patterns text ≡ true) (settled-pattern false (kept e) o ∙ line.looked_for) after.1.remembered.0 in
      rewritten-fresh (old_of u) r choice k.0.spans.numbers q x line.text line.parts line.new (range-takes u q x (k.0, (k.1).0) follows) k.0.from k.0.order possible
      (λ plain. allows-plain r.replacements line.parts allows plain) line.whole line.made

  line-read : known u.zone 4 3 (pos 0) ≡ true → u.follows ≡ true → (r : State) (o : Outcome) → Follows false e r (Makes o) → IsRewritten choice x q o →
      ReadFacts (facts_ended r.marks (facts_rewritten (old_of u) r)) r.marks o.state
  line-read one follows r o after line =
      let size = length-map line.new plain_line in
      let current = line.current in
      edited-read [] (rewriting (lines_left (old_of u) r)) u r.marks o.state
      (rewrite-left u.zone u.facts u.marks k.0.spans.numbers q x (lines_left (old_of u) r) (map plain_line line.new) o.state (range-takes u q x (k.0, (k.1).0) follows) k.0.from k.0.order
      (line-fresh follows r o after line) (λ y. line_with-plain y line.new) line.lines (omega arith))

  -- lines that surely stay
  spared-read : u.follows ≡ true → (listed : Bool) (r : State) (o : Outcome) → Follows listed e r (Makes o) → IsPut choice x q o → r.replacements.split ≡ false →
      ReadFacts (facts_ended r.marks (facts_spared (old_of u) r)) r.marks o.state
  unfolding facts_spared
  spared-read follows listed r o after put plain w reads =
      let allows : allows_replacement r.replacements (Some put.parts) ≡ true =
      subst (λ (parts : Option (List Part)). allows_replacement r.replacements parts ≡ true) (settled-replacement listed (kept e) o ∙ put.remembered) after.1.remembered.1 in
      let possible : has_choice r.patterns (Some put.text) ≡ true =
      subst (λ (text : Option (List ℕ)). has_choice r.patterns text ≡ true) (settled-pattern listed (kept e) o ∙ put.looked_for) after.1.remembered.0 in
      let block : List Line = between x.first x.last q.lines in
      let alike = made-alike put.text put.parts choice (allows-plain r.replacements put.parts allows plain) block
      (All-drop (λ (line : Line). IsLine line.bytes) (x.first - 1) (take x.last q.lines) (All-take (λ (line : Line). IsLine line.bytes) x.last q.lines whole)) in
      let lines : o.state.lines ≡ parts.replaced x.first x.last (each (one_made put.text put.parts choice) block).0 q.lines =
      put.lines ∙ ap (λ (made : Results). parts.replaced x.first x.last made.0 q.lines) (sym alike) in
      ended-agreed r.marks o.state.lines o.state.current w w reads reads (facts_spared (old_of u) r)
      (subst (λ (ls : List Line). FactsHold (facts_spared (old_of u) r) w ls) (sym lines)
      (spare-left (one_made put.text put.parts choice) (texts_of r.patterns) (made-each-one put.text put.parts choice r.patterns possible) u.zone u.facts u.marks r.marks k.0.spans.numbers w
      q x o.state.current (range-takes u q x (k.0, (k.1).0) follows) k.0.from k.0.order marked
      (subst (λ (ls : List Line). Reads r.marks ls o.state.current w) lines reads)
      (letters_that_stay reading (old_of u) r.marks) (patterns_of u.facts) (letters-stay reading (old_of u) r.marks)))

  abbrev LeavesRange : State → Outcome → Type 0
  LeavesRange r o = ReadFacts (facts_ended r.marks (cond r.replacements.split no_facts (facts_spared (old_of u) r))) r.marks o.state

  range-read : u.follows ≡ true → (listed : Bool) (r : State) (o : Outcome) → Follows listed e r (Makes o) → IsPut choice x q o → LeavesRange r o
  range-read follows listed r o after put =
      (elim r.replacements.split as (λ b. r.replacements.split ≡ b → ReadFacts (facts_ended r.marks (cond b no_facts (facts_spared (old_of u) r))) r.marks o.state) [
        | true ↦ λ _. nothing-read r.marks o.state
        | false ↦ λ plain. spared-read follows listed r o after put plain
      ]) refl

  range-told : u.follows ≡ true → (listed : Bool) →
      Tells LeavesRange (rule listed) (done listed)
  range-told follows listed =
      tells-follow LeavesRange (Follows listed e) (IsPut choice x q) (rule listed) (done listed)
      (substitute-follows listed pattern replacement choice form s e begun u q x k whole)
      (substitute-puts listed pattern replacement choice form x q k.0.order) (range-read follows listed)

  line-told : u.follows ≡ true → Tells (LeavesLine false) (rule false) (done false)
  line-told follows =
      let Left : Bool → State → Outcome → Type 0 = λ (b : Bool) (r : State) (o : Outcome).
      ReadFacts (facts_ended r.marks (cond b (facts_rewritten (old_of u) r)
      (cond r.replacements.split no_facts (facts_spared (old_of u) r)))) r.marks o.state in
      (elim (known u.zone 4 3 (pos 0)) as (λ b. known u.zone 4 3 (pos 0) ≡ b → Tells (Left b) (rule false) (done false)) [
        | true ↦ λ known_one.
            let d = known-true u.zone k.0.spans.numbers 4 3 (pos 0) known_one (omega arith) (omega arith) k.0.spans.stands.buffer.holds in
            let first = k.0.spans.first_is in
            let last = k.0.spans.last_is in
            let order = k.0.order in
            let one : x.last ≡ x.first = omega (arith, ints) in
            tells-follow (Left true) (Follows false e) (IsRewritten choice x q) (rule false) (done false)
            (substitute-follows false pattern replacement choice form s e begun u q x k whole)
            (substitute-rewrites pattern replacement choice form x q k.0.from one k.0.spans.first_in whole) (line-read known_one follows)
        | false ↦ λ _. range-told follows false
      ]) refl

  substitute-told : (listed : Bool) → u.follows ≡ true → Tells (LeavesLine listed) (rule listed) (done listed)
  substitute-told true follows = range-told follows true
  substitute-told false follows = line-told follows

-- COMMANDS ON FILES

named-marks : (path : Option (List ℕ)) (u : State) → IfOk (named path u) (SameMarks u)
named-marks None u = needed (SameMarks u) _ fault.Name u refl
named-marks (Some path) u = refl

first-marks : (path : Option (List ℕ)) (t : State) → (named_first path t).marks ≡ t.marks
first-marks None t = refl
first-marks (Some path) t = refl

anew-marks : (path : Option (List ℕ)) (t : State) → (named_anew path t).marks ≡ t.marks
anew-marks None t = refl
anew-marks (Some path) t = refl

written-marks : (given : Addresses) (path : Option (List ℕ)) (u : State) → IfOk (file_written given path u) (SameMarks u)
written-marks given path u = IfOk-bind (SameMarks u) (SameMarks u) (named path u) _ (named-marks path u) (λ t k. first-marks path t ∙ k)

file-marks : (path : Option (List ℕ)) (u : State) → IfOk (file_named path u) (SameMarks u)
file-marks path u = IfOk-bind (SameMarks u) (SameMarks u) (named path u) _ (named-marks path u) (λ t k. anew-marks path t ∙ k)

written-stays : (used : List ℕ) (given : Option Answer) (x : Span) (q : editor.State) → OnMade (StaysAt q) (file.with_lines used given x q)
written-stays used None x q = tt
written-stays used (Some answer.Done) x q = (refl, refl)
written-stays used (Some _) x q = tt

write-stays : (path : Option (List ℕ)) (given : Option Answer) (x : Span) (q : editor.State) → OnMade (StaysAt q) (file.write path given x q)
write-stays path given x q =
    OnMade-bind (λ (_ : List ℕ). Unit {0}) (StaysAt q) (file.used_path path q) _ (always (file.used_path path q)) (λ used _. written-stays used given x q)

-- lines were entered after the line a
abbrev IsAdded : (a : ℕ) → editor.State → Outcome → Type 0
IsAdded a q o = (used : List ℕ) × (ts : List (List ℕ)) × (o ≡ effects.entered a ts (file.named_first used q))

bytes-add : (used : List ℕ) (a : ℕ) (q : editor.State) (heard : Option Answer) →
    OnMade (IsAdded a q) (file.with_bytes used heard (λ bytes. effects.entered a (lines_of bytes) (file.named_first used q)))
bytes-add used a q None = tt
bytes-add used a q (Some given) =
    OnMade-bind (λ (_ : List ℕ). Unit {0}) (IsAdded a q) (file.bytes_read given) _ (always (file.bytes_read given)) (λ bytes _. (used, lines_of bytes, refl))

read-adds : (path : Option (List ℕ)) (heard : Option Answer) (x : Span) (q : editor.State) → OnMade (IsAdded x.first q) (file.read path heard x q)
read-adds path heard x q =
    OnMade-bind (λ (_ : List ℕ). Unit {0}) (IsAdded x.first q) (file.used_path path q) _ (always (file.used_path path q)) (λ used _. bytes-add used x.first q heard)

name-by : (q : editor.State) (used : Result (List ℕ) Fault) →
    OnMade (StaysAt q) (making (used >> λ name. Ok (effects.only (record q { name = Some name }) (name ++ newline ∷ []))))
name-by q (Ok used) = (refl, refl)
name-by q (Err f) = tt

name-stays : (path : Option (List ℕ)) (q : editor.State) → OnMade (StaysAt q) (making (file.file_name path q))
name-stays path q = name-by q (file.used_path path q)

quit-stays : (q : editor.State) → OnMade (StaysAt q) (making (file.quit q))
quit-stays q =
    elim q.changed as (λ b. OnMade (StaysAt q) (making ((elim b as (λ _. Result editor.State Fault) [ true ↦ Err fault.Unsaved | false ↦ Ok q ]) >> λ t. Ok (effects.only t [])))) [
      | true ↦ tt
      | false ↦ (refl, refl)
    ]

-- GLOBAL COMMANDS

flags-stay : (which : Sense) (pattern : Option (List ℕ)) (x : Span) (q : editor.State) → InOrder x →
    OnMade (StaysAt q) (flagged which pattern x q >> λ t. Ok (Makes (effects.only t [])))
flags-stay which pattern x q order =
    OnMade-bind (λ (t : editor.State). Alike q.lines t.lines × (t.current ≡ q.current)) (StaysAt q) (flagged which pattern x q) _
    (IfOk-bind (λ (_ : List ℕ). Unit {0}) (λ (t : editor.State). Alike q.lines t.lines × (t.current ≡ q.current)) (used_pattern pattern q) _
    (always (used_pattern pattern q)) (λ text _. (alike-taken which text x.first x.last q.lines order, refl)))
    (λ t k. k)

used-marks : (pattern : Option (List ℕ)) (u : State) → IfOk (pattern_used pattern u) (SameMarks u)
used-marks pattern u =
    IfOk-bind (λ (_ : List Choice). Unit {0}) (SameMarks u) (possible_patterns pattern u) _ (always (possible_patterns pattern u)) (λ possible _. refl)

-- THE PHASES

ranged-known : (t : State) (q : editor.State) → KnownAt t q → IfOk (ranged t) (λ (u : State). KnownAt u q)
ranged-known t q k = needed (λ (u : State). KnownAt u q) _ fault.Address t k

whole-known : (given : Addresses) (t : State) (q : editor.State) → KnownAt t q → IfOk (whole_or_ranged given t) (λ (u : State). KnownAt u q)
whole-known Without t q k = k
whole-known (One a) t q k = ranged-known t q k
whole-known (Comma a b) t q k = ranged-known t q k
whole-known (Semicolon a b) t q k = ranged-known t q k

module _ (order : SpansAreInOrder) (watched : List (List ℕ)) (c : Command) (heard : Option Answer) (given d : Addresses) (s : State) (e : editor.State)
    (begun : Begins s e) (whole : AreWhole e.lines) (marked_well : WellMarked e.lines) (t : State) (p : editor.State × List ℕ)
    (same_lines : p.0.lines ≡ e.lines) (h : Addressed (NamesOf (given_or given d)) t p) where
  abbrev facts_of : Verb → State → State → Facts
  facts_of verb u r = facts_after watched c.listed given verb u r

  abbrev rule_at : Verb → State → Result State Fault
  rule_at verb u =
      effect c.listed given verb s u >> λ r.
      suffixed c.suffix (saying (matches_after watched c.listed given (takes verb).lines s u) (facts_of verb u r) (with_zone (ended r.marks r.zone) r))

  abbrev rule_after : Verb → Result State Fault
  rule_after verb = targeted (takes verb).target t >> λ q. taken (takes verb).taking given (given_or given d) q >> rule_at verb

  abbrev command_after : Verb → Result Effect Fault
  command_after verb = concrete.targeted (takes verb).target p.0 >> λ q. spanned (takes verb).taking (length e.lines) p.1 >> λ x. effect_of verb c.listed x q.1 q.0 heard >> completed c e

  -- the last phases
  acted : (verb : Verb) (u : State) (x : Span) (target : ℕ) (q : editor.State) →
      Tells (Leaves watched c.listed given verb u) (effect c.listed given verb s u) (effect_of verb c.listed x target q heard) →
      Tells FactsRead (rule_at verb u) (effect_of verb c.listed x target q heard >> completed c e)
  acted verb u x target q told =
      finish-facts c e (matches_after watched c.listed given (takes verb).lines s u) (facts_of verb u) (effect c.listed given verb s u)
      (effect_of verb c.listed x target q heard) told

  -- where single lines aren't followed nothing is left
  tells-followed : (u : State) (verb : Verb) (x : Result State Fault) (y : Result Effect Fault) →
      (u.follows ≡ true → Tells (λ r o. ReadFacts (facts_ended r.marks (facts_left watched c.listed given verb (old_of u) r)) r.marks o.state) x y) →
      Tells (Leaves watched c.listed given verb u) x y
  tells-followed u verb (Err f) y told = tt
  tells-followed u verb (Ok r) (Err f) told = tt
  tells-followed u verb (Ok r) (Ok (Asks q)) told = tt
  tells-followed u verb (Ok r) (Ok (Makes o)) told = leaves-by watched c.listed given verb u r o told

  -- of those that leave nothing
  none-told : (verb : Verb) → ((u r : State) → facts_left watched c.listed given verb (old_of u) r ≡ no_facts) → Tells FactsRead (rule_after verb) (command_after verb)
  none-told verb none =
      tells-bind FactsRead (λ (_ : State). Unit {0}) (λ (_ : editor.State × ℕ). Unit {0}) (targeted (takes verb).target t) (concrete.targeted (takes verb).target p.0) _ _
      (always (targeted (takes verb).target t)) (always (concrete.targeted (takes verb).target p.0))
      (λ q r _ _. tells-bind FactsRead (λ (_ : State). Unit {0}) (λ (_ : Span). Unit {0}) (taken (takes verb).taking given (given_or given d) q)
      (spanned (takes verb).taking (length e.lines) p.1) _ _
      (always (taken (takes verb).taking given (given_or given d) q)) (always (spanned (takes verb).taking (length e.lines) p.1))
      (λ u x _ _. acted verb u x r.1 r.0
      (tells-any (Leaves watched c.listed given verb u) (effect c.listed given verb s u) (effect_of verb c.listed x r.1 r.0 heard)
      (λ r o. leaves-none watched c.listed given verb u r o (none u r)))))

  at-start : KnownAt t p.0
  at-start = (h.numbers, h.stands, h.followed)

  -- of those that keep all
  kept-told : (verb : Verb) (u : State) (x : Span) (target : ℕ) (q : editor.State) → KnownAt u q →
      ((r : State) → facts_left watched c.listed given verb (old_of u) r ≡ u.facts) → IfOk (effect c.listed given verb s u) (SameMarks u) →
      OnMade (StaysAt q) (effect_of verb c.listed x target q heard) →
      Tells FactsRead (rule_at verb u) (effect_of verb c.listed x target q heard >> completed c e)
  kept-told verb u x target q k is same at =
      acted verb u x target q
      (tells-each (Leaves watched c.listed given verb u) (SameMarks u) (StaysAt q) (effect c.listed given verb s u) (effect_of verb c.listed x target q heard) same at
      (λ r o i j. kept-leaves watched c.listed given verb u r q o k (is r) i j))

  place : IsGiven d → SpansKnown (last_given (given_or given d) t) p.0 (span (last_of_two p.1) (last_of_two p.1))
  place g = last_given-known (given_or given d) (given_or-given given d g) t p h

  -- a line is current, or marked
  range : IsGiven d → Agrees (InRange p.0) (ranged t) (spanned many.Range (length e.lines) p.1)
  range g = range-in (given_or given d) (given_or-given given d g) t p (length e.lines) h

  one_line : IsGiven d → Agrees (AtLine p.0) (taken many.OneLine given (given_or given d) t) (spanned many.OneLine (length e.lines) p.1)
  one_line g = one_line-sound given (given_or given d) (given_or-given given d g) t p (length e.lines) h

  written-leaves : (form : Form) (u : State) (x : Span) → InRange p.0 u x → Leaves watched c.listed given (ed.Write form) u (current_at 4 u) (effects.write form x p.0)
  written-leaves form u x r =
      leaves-by watched c.listed given (ed.Write form) u (current_at 4 u) (effects.write form x p.0)
      (λ f. current-read 4 x.last u p.0 r.0.spans.numbers (omega arith) r.0.spans.last_is r.0.spans.stands (r.1 f))

  null-leaves : (u : State) (x : Span) → AtLine p.0 u x → Leaves watched c.listed given ed.Null u (current_at 3 u) (effects.write ed.Plain x p.0)
  null-leaves u x r =
      leaves-by watched c.listed given ed.Null u (current_at 3 u) (effects.write ed.Plain x p.0)
      (λ f. current-read 3 x.last u p.0 r.0.spans.numbers (omega arith) (r.0.spans.first_is ∙ ap pos r.1) r.0.spans.stands (r.2 f))

  mark-told : (letter : ℕ) (u : State) (x : Span) → AtLine p.0 u x →
      Tells (Leaves watched c.listed given (ed.Mark letter) u) (effect c.listed given (ed.Mark letter) s u) (Ok (Makes (effects.mark letter x p.0)))
  mark-told letter u x a =
      tells-needing (Leaves watched c.listed given (ed.Mark letter) u) (nat_lt letter 26 && known u.zone 3 2 (pos 0)) fault.Address (marked letter u) (Ok (Makes (effects.mark letter x p.0)))
      (λ k. leaves-by watched c.listed given (ed.Mark letter) u (marked letter u) (effects.mark letter x p.0)
      (λ f. mark-read c.listed letter e u p.0 x a (ltb-true letter 26 (and_parts (nat_lt letter 26) (known u.zone 3 2 (pos 0)) k).0)
      (subst (λ (ls : List Line). KnowLetters ls) (sym same_lines) marked_well.known) f))

  substituted-told : (pattern : Option (List ℕ)) (replacement : Option (List Part)) (choice : Which) (form : Option Form) (u : State) (x : Span) → RangesKnown u p.0 x →
      Tells (Leaves watched c.listed given (ed.Substitute pattern replacement choice form) u) (substituted c.listed pattern replacement choice s u)
      (making (substitute c.listed pattern replacement choice form x p.0))
  substituted-told pattern replacement choice form u x k =
      tells-followed u (ed.Substitute pattern replacement choice form) _ _
      (substitute-told pattern replacement choice form s e begun u p.0 x k (subst (λ (ls : List Line). AreWhole ls) (sym same_lines) whole)
      (subst (λ (ls : List Line). WellMarked ls) (sym same_lines) marked_well) c.listed)

  append-told : (text : List (List ℕ)) → IsGiven d → Tells FactsRead (rule_after (ed.Append text)) (command_after (ed.Append text))
  append-told [] g =
      let u : State = last_given (given_or given d) t in
      let n : ℕ = last_of_two p.1 in
      let k : SpansKnown u p.0 (span n n) = place g in
      acted (ed.Append []) u (span n n) 0 p.0
      (leaves-by watched c.listed given (ed.Append []) u (current_at 3 u) (effects.append [] (span n n) p.0)
      (λ f. current-read 3 n u p.0 k.0.numbers (omega arith) k.0.first_is k.0.stands (k.1 f)))
  append-told (line ∷ more) g =
      let u : State = last_given (given_or given d) t in
      let n : ℕ = last_of_two p.1 in
      let k : SpansKnown u p.0 (span n n) = place g in
      let r : State = appended c.listed s (suc (length more)) u in
      acted (ed.Append (line ∷ more)) u (span n n) 0 p.0
      (leaves-by watched c.listed given (ed.Append (line ∷ more)) u r (effects.append (line ∷ more) (span n n) p.0)
      (λ f. edited-read (gained watched (line ∷ more)) (appending (line ∷ more)) u r.marks (effects.append (line ∷ more) (span n n) p.0).state
      (append-left u.zone u.facts u.marks k.0.numbers p.0 (span n n) line more
      (record {
        holds = k.0.stands.buffer.holds;
        facts_hold = k.1 f;
        reads = k.0.stands.buffer.reads;
        first_is = k.0.first_is;
        last_is = k.0.last_is;
        inside = k.0.last_in;
      }) k.0.first_in)))

  read-told : (path : Option (List ℕ)) → IsGiven d → Tells FactsRead (rule_after (ed.ReadFile path)) (command_after (ed.ReadFile path))
  read-told path g =
      let u : State = last_given (given_or given d) t in
      let n : ℕ = last_of_two p.1 in
      let k : SpansKnown u p.0 (span n n) = place g in
      let Left : State → Outcome → Type 0 = λ (r : State) (o : Outcome). ReadFacts (facts_ended r.marks (facts_edited [] reading (old_of u) r.marks)) r.marks o.state in
      acted (ed.ReadFile path) u (span n n) 0 p.0
      (tells-followed u (ed.ReadFile path) (file_read c.listed path s u) (file.read path heard (span n n) p.0)
      (λ f. tells-each Left (λ (_ : State). Unit {0}) (IsAdded n p.0) (file_read c.listed path s u) (file.read path heard (span n n) p.0)
      (always (file_read c.listed path s u)) (read-adds path heard (span n n) p.0)
      (λ r o _ added. subst (Left r) (sym added.2)
      (edited-read [] reading u r.marks (effects.entered n added.1 (file.named_first added.0 p.0)).state
      (add-left u.zone u.facts u.marks k.0.numbers (file.named_first added.0 p.0) 3 n None added.1 k.0.stands.buffer.holds (k.1 f) k.0.stands.buffer.reads (omega arith)
      k.0.first_is k.0.first_in tt)))))

  -- the lines of a range beside a target
  abbrev TargetKnown : editor.State × ℕ → State → Span → Type 0
  TargetKnown q u x = RangeAlso (TargetFollowed q) q.0 u x

  target-told : (to : Address) (verb : Verb) → IsGiven d →
      ((q : editor.State × ℕ) (u : State) (x : Span) → TargetKnown q u x → q.1 ≤ length q.0.lines → WellMarked q.0.lines →
      Tells (Leaves watched c.listed given verb u) (effect c.listed given verb s u) (effect_of verb c.listed x q.1 q.0 heard)) →
      Tells FactsRead (targeted (Some to) t >> λ m. ranged m >> rule_at verb)
      (concrete.targeted (Some to) p.0 >> λ q. spanned many.Range (length e.lines) p.1 >> λ x. effect_of verb c.listed x q.1 q.0 heard >> completed c e)
  target-told to verb g told =
      let n = names-given (given_or given d) (given_or-given given d g) p.1 p.0.lines h.numbers h.names in
      tells-by FactsRead (Targeted p.0 p.1) (targeted (Some to) t) (concrete.targeted (Some to) p.0) _ _
      (targeted-sound to t p.0 p.1 h.numbers h.stands n h.matched h.followed)
      (λ m q at.
      tells-by FactsRead (TargetKnown q) (ranged m) (spanned many.Range (length e.lines) p.1) _ _
      (range-also (TargetFollowed q) m q.0 p.1 at.numbers (length e.lines) at.stands at.names (at.followed, at.target_is))
      (λ u x r. acted verb u x q.1 q.0
      (told q u x r at.target_in (subst (λ (ls : List Line). WellMarked ls) (sym (at.same_lines ∙ same_lines)) marked_well))))

  copy-told : (to : Address) → IsGiven d → Tells FactsRead (rule_after (ed.Copy to)) (command_after (ed.Copy to))
  copy-told to g =
      target-told to (ed.Copy to) g
      (λ q u x r fits marked. leaves-by watched c.listed given (ed.Copy to) u (copied_lines c.listed s u) (effects.copy x q.1 q.0)
      (λ f. edited-read [] (copying u.zone u.facts) u (copied_lines c.listed s u).marks (effects.copy x q.1 q.0).state
      (copy-left u.zone u.facts u.marks r.0.spans.numbers q.0 x q.1 (range-takes u q.0 x (r.0, (r.1).0) f) r.0.from r.0.order (r.1).1 fits)))

  move-told : (to : Address) → IsGiven d → Tells FactsRead (rule_after (ed.Move to)) (command_after (ed.Move to))
  move-told to g =
      target-told to (ed.Move to) g
      (λ q u x r fits marked.
      tells-each (Leaves watched c.listed given (ed.Move to) u) (λ (_ : State). Unit {0}) (IsMoved x q.1 q.0) (moved_lines c.listed s u) (making (effects.move x q.1 q.0))
      (always (moved_lines c.listed s u)) (move-carries x q.1 q.0 r.0.from r.0.order r.0.spans.last_in)
      (λ z o _ moved. leaves-by watched c.listed given (ed.Move to) u z o
      (λ f. move-read u z.marks q.0 x q.1 o (r.0, (r.1).0) (r.1).1 fits marked f moved)))

  insert-told : (text : List (List ℕ)) → IsGiven d → Tells FactsRead (rule_after (ed.Insert text)) (command_after (ed.Insert text))
  insert-told [] g =
      tells-by FactsRead (FirstPlaces p.0) (taken many.FirstPlace given (given_or given d) t) (spanned many.FirstPlace (length e.lines) p.1) _ _
      (first_place-sound given (given_or given d) (given_or-given given d g) t p (length e.lines) h)
      (λ u x r. acted (ed.Insert []) u x 0 p.0
      (leaves-by watched c.listed given (ed.Insert []) u (put_before c.listed s 0 u) (effects.insert [] x p.0) (λ f. insert-read u p.0 r.0 x.first r.2 r.1 (r.5 f))))
  insert-told (line ∷ more) g =
      tells-by FactsRead (FirstPlaces p.0) (taken many.FirstPlace given (given_or given d) t) (spanned many.FirstPlace (length e.lines) p.1) _ _
      (first_place-sound given (given_or given d) (given_or-given given d g) t p (length e.lines) h)
      (λ u x r.
      let made : State = put_before c.listed s (suc (length more)) u in
      acted (ed.Insert (line ∷ more)) u x 0 p.0
      (leaves-by watched c.listed given (ed.Insert (line ∷ more)) u made (effects.insert (line ∷ more) x p.0)
      (λ f. edited-read (gained watched (line ∷ more)) (inserting (line ∷ more)) u made.marks (effects.insert (line ∷ more) x p.0).state
      (insert-left u.zone u.facts u.marks r.0 p.0 (span x.first r.6.0) line more
      (record {
        holds = r.1.buffer.holds;
        facts_hold = r.5 f;
        reads = r.1.buffer.reads;
        first_is = r.2;
        last_is = r.6.1;
        inside = r.6.2;
      }) r.3 r.4))))

  after_addresses : (verb : Verb) → Suits (takes verb).taking d → Tells FactsRead (rule_after verb) (command_after verb)
  after_addresses (ed.Append text) g = append-told text g
  after_addresses (ed.Insert text) g = insert-told text g
  after_addresses (ed.Change text) g =
      tells-by FactsRead (InRange p.0) (taken many.Lines given (given_or given d) t) (spanned many.Lines (length e.lines) p.1) _ _
      (subst (λ (ls : List Line). Agrees (InRange p.0) (taken many.Lines given (given_or given d) t) (spanned many.Lines (length ls) p.1)) same_lines
      (lines-sound given d g t p h))
      (λ u x r. acted (ed.Change text) u x 0 p.0
      (leaves-by watched c.listed given (ed.Change text) u (changed_to c.listed s (length text) u) (effects.change text x p.0)
      (λ f. change-read text watched u (changed_to c.listed s (length text) u) p.0 x r f)))
  after_addresses ed.Delete g =
      tells-by FactsRead (InRange p.0) (ranged t) (spanned many.Range (length e.lines) p.1) _ _ (range g)
      (λ u x r. acted ed.Delete u x 0 p.0
      (leaves-by watched c.listed given ed.Delete u (deleted c.listed s u) (effects.delete x p.0)
      (λ f. edited-read [] deletion u (deleted c.listed s u).marks (effects.delete x p.0).state
      (delete-left u.zone u.facts u.marks r.0.spans.numbers p.0 x (range-takes u p.0 x r f) r.0.from r.0.order))))
  after_addresses ed.Join g =
      tells-by FactsRead (JoinKnown given p.0) (ranged t) (spanned many.Range (length e.lines) p.1) _ _ (join-known given d g t p (length e.lines) h)
      (λ u x r. acted ed.Join u x 0 p.0
      (leaves-by watched c.listed given ed.Join u (joined_given given c.listed s u) (effects.join x p.0) (λ f. join-by given c.listed s u p.0 x r f)))
  after_addresses (ed.Mark letter) g =
      tells-by FactsRead (AtLine p.0) (taken many.OneLine given (given_or given d) t) (spanned many.OneLine (length e.lines) p.1) _ _ (one_line g)
      (λ u x r. acted (ed.Mark letter) u x 0 p.0 (mark-told letter u x r))
  after_addresses (ed.Write form) g =
      tells-by FactsRead (InRange p.0) (ranged t) (spanned many.Range (length e.lines) p.1) _ _ (range g)
      (λ u x r. acted (ed.Write form) u x 0 p.0 (written-leaves form u x r))
  after_addresses ed.Null g =
      tells-by FactsRead (AtLine p.0) (taken many.OneLine given (given_or given d) t) (spanned many.OneLine (length e.lines) p.1) _ _ (one_line g)
      (λ u x r. acted ed.Null u x 0 p.0 (null-leaves u x r))
  after_addresses ed.LineNumber g =
      let u : State = last_given (given_or given d) t in
      let x : Span = span (last_of_two p.1) (last_of_two p.1) in
      let k : SpansKnown u p.0 x = place g in
      kept-told ed.LineNumber u x 0 p.0 (k.0.numbers, k.0.stands, k.1) (λ r. refl) refl (refl, refl)
  after_addresses ed.Help g = kept-told ed.Help t (span 0 0) 0 p.0 at-start (λ r. refl) refl (refl, refl)
  after_addresses ed.HelpMode g = kept-told ed.HelpMode t (span 0 0) 0 p.0 at-start (λ r. refl) refl (refl, refl)
  after_addresses ed.PromptMode g = kept-told ed.PromptMode t (span 0 0) 0 p.0 at-start (λ r. refl) refl (refl, refl)
  after_addresses (ed.Move to) g = move-told to g
  after_addresses (ed.Copy to) g = copy-told to g
  after_addresses (ed.Substitute pattern replacement choice form) g =
      tells-by FactsRead (λ u x. RangesKnown u p.0 x) (ranged t) (spanned many.Range (length e.lines) p.1) _ _
      (range-known (given_or given d) (given_or-given given d g) t p (length e.lines) h)
      (λ u x k. acted (ed.Substitute pattern replacement choice form) u x 0 p.0 (substituted-told pattern replacement choice form u x k))
  after_addresses (ed.ReadFile path) g = read-told path g
  after_addresses (ed.WriteFile path) g =
      tells-bind FactsRead (λ (u : State). KnownAt u p.0) (λ (_ : Span). Unit {0}) (whole_or_ranged given t) (spanned many.Whole (length e.lines) p.1) _ _
      (whole-known given t p.0 at-start) (always (spanned many.Whole (length e.lines) p.1))
      (λ u x k _. kept-told (ed.WriteFile path) u x 0 p.0 k (λ r. refl) (written-marks given path u) (write-stays path heard x p.0))
  after_addresses (ed.Edit path) g = none-told (ed.Edit path) (λ u r. refl)
  after_addresses (ed.EditAnyway path) g = none-told (ed.EditAnyway path) (λ u r. refl)
  after_addresses (ed.FileName path) g =
      kept-told (ed.FileName path) t (span 0 0) 0 p.0 at-start (λ r. refl) (file-marks path t) (name-stays path p.0)
  after_addresses (ed.Global which pattern) g =
      tells-bind FactsRead (λ (u : State). KnownAt u p.0) InOrder (whole_or_ranged given t) (spanned many.Whole (length e.lines) p.1) _ _
      (whole-known given t p.0 at-start) (order many.Whole (length e.lines) p.1)
      (λ u x k o. kept-told (ed.Global which pattern) u x 0 p.0 k (λ r. refl) (used-marks pattern u) (flags-stay which pattern x p.0 o))
  after_addresses ed.Undo g =
      acted ed.Undo t (span 0 0) 0 p.0
      (tells-agreed (Leaves watched c.listed given ed.Undo t) (IsUndone c.listed e t.follows) (undone t) (making (effects.undo p.0.past p.0)) (undo-known c.listed e t p.0 at-start)
      (λ r o k. leaves-by watched c.listed given ed.Undo t r o
      (λ f w reads. ended-agreed r.marks o.state.lines o.state.current (k.1).0 w (k.1).1.buffer.reads reads r.facts ((k.1).2 f))))
  after_addresses ed.Quit g =
      kept-told ed.Quit t (span 0 0) 0 p.0 at-start (λ r. refl) (needed (SameMarks t) (not t.changed.yes) fault.Unsaved t refl) (quit-stays p.0)
  after_addresses ed.QuitAnyway g = kept-told ed.QuitAnyway t (span 0 0) 0 p.0 at-start (λ r. refl) refl (refl, refl)

step_at-facts : SpansAreInOrder → (watched : List (List ℕ)) (c : Command) (s : State) (e : editor.State) (given : Option Answer) → StandsFor s e →
    Tells FactsRead (step_at watched (given_or c.addresses (standing (takes c.verb).default)) c s) (command e c given)
step_at-facts order watched c s e given st =
    let d : Addresses = standing (takes c.verb).default in
    let a : Addresses = given_or c.addresses d in
    subst (λ (y : Result Effect Fault). Tells FactsRead (step_at watched a c s) y) (sym (command-is c e given))
    (tells-by FactsRead (AddressedIn e.lines (NamesOf a)) (addressed a s) (values (given_or c.addresses (takes c.verb).default) e) _ _
    (command_addressed c.addresses c.verb s e (st.numbers, st.stands, st.facts) st.matches.0)
    (λ t p h. after_addresses order watched c given c.addresses d s e (st.numbers, st.stands, st.facts) st.lines.whole (lettered-marked e.lines st.lines) t p h.1 h.0 c.verb (suits c.verb)))

needed-facts : (b : Bool) (s : State) (k : State → Result State Fault) (y : Result Effect Fault) → Tells FactsRead (k s) y → Tells FactsRead (needing b fault.Syntax s >> k) y
needed-facts true s k y h = h
needed-facts false s k y h = tt

pub step-facts : SpansAreInOrder → (watched : List (List ℕ)) (c : Command) (s t : State) (e : editor.State) (given : Option Answer) → StandsFor s e → step watched c s ≡ Ok t →
    Tells FactsRead (Ok t) (command e c given)
step-facts order watched c s t e given st is =
    subst (λ (x : Result State Fault). Tells FactsRead x (command e c given)) is
    (needed-facts (enters_lines c.verb) s (step_at watched (given_or c.addresses (standing (takes c.verb).default)) c) (command e c given)
    (step_at-facts order watched c s e given st))
