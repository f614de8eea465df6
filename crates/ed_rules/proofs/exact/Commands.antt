-- One exact command: its phases side by side.
use Rattle.std.proofs.Common.{is_none, ◌||◌, ◌≡◌, ◌≤◌, ℕ, zero, suc, pos, negsuc, ◌&&◌, Bool, true, false, List, [], ◌++◌, length, Option, None, Some, Result, Ok, Err, arith, refl, ◌∙◌, ap, sym, subst}
use Rattle.std.proofs.lemmas.Int.{ints}
use Rattle.std.proofs.lemmas.Bool.{and_parts}
use Rattle.ed_base.specs.declared.fault.Fault.{Fault}
use Rattle.ed_base.specs.declared.fault.Fault.TheVariants as fault
use Rattle.ed_base.specs.Buffer.{Line}
use Rattle.zones.specs.Zone.{Numbers}
use Rattle.zones.specs.Known.{known}
use Rattle.ed_syntax.specs.declared.request.Answer.TheVariants as answer
use Rattle.ed_syntax.specs.declared.verbs.Taking.TheVariants as many
use Rattle.ed_syntax.specs.Commands as ed
use Rattle.ed_syntax.specs.Commands.{Address, Addresses, Without, One, Comma, Semicolon, Form, Verb, Command}
use Rattle.ed_syntax.specs.meaning.States as editor
use Rattle.ed_syntax.specs.meaning.States.{Kept, kept}
use Rattle.ed_syntax.specs.meaning.Verbs.{takes, given_or, may_have}
use Rattle.ed_syntax.specs.meaning.Values.{◌>>◌, values}
use Rattle.ed_syntax.specs.meaning.Ranges.{Span, span, first_of_two, last_of_two, spanned}
use Rattle.ed_syntax.specs.meaning.Forms.{lines_written}
use Rattle.ed_syntax.specs.meaning.Effects as effects
use Rattle.ed_syntax.specs.meaning.Effects.{Outcome, Effect, Makes, Asks}
use Rattle.ed_syntax.specs.meaning.Files as file
use Rattle.ed_syntax.specs.meaning.Applied.{making, settled, suffix_written, completed, targeted, effect_of, command}
use Rattle.ed_rules.specs.declared.known_matches.Matches.{Matches}
use Rattle.ed_rules.specs.declared.state.State.{State}
use Rattle.ed_rules.specs.Pieces.{with_zone, ended}
use Rattle.ed_rules.specs.Lines.{appended, put_before, changed_to, deleted, joined, joined_given, copied_lines, current_at}
use Rattle.ed_rules.specs.Move.{moved_lines}
use Rattle.ed_rules.specs.Files.{whole_or_ranged, file_written, file_named, saved}
use Rattle.ed_rules.specs.Addresses as addresses
use Rattle.ed_rules.specs.Addresses.{addressed, standing, last_given, evaluated, ranged}
use Rattle.ed_syntax.specs.spelling.Readable.{enters_lines, is_readable}
use Rattle.ed_rules.specs.Rules.{taken, effect, suffixed, step_at}
use Rattle.ed_rules.specs.Matching.{saying}
use Rattle.ed_rules.specs.facts.Facts.{Facts}
use Rattle.ed_rules.specs.Exact.{are_by_number, is_exact_verb}
use Rattle.ed_rules.specs.LineBounds.{most_lines}
use Rattle.ed_rules.specs.ExactRules.{is_of_buffer, numbers_of, Tells, EndAlike, LeavesTold, LeavesFew, CommandIsExact}
use Rattle.ed_rules.proofs.matches.Aside.{step_aside, Beside, step_at-beside}
use Rattle.ed_rules.proofs.sound.Commanding.{IsGiven, given_or-given, Suits, suits, command-is}
use Rattle.ed_rules.proofs.sound.Finishing.{settled-current, made}
use Rattle.ed_rules.proofs.exact.EndAlike.{EndAlike-under, EndAlike-ok, EndAlike-fault, needing-met, needing-failed, met-goes}
use Rattle.ed_rules.proofs.exact.Zones.{numbers, IsSmall, At, At-knows, At-denies, Fixes-equal, first-three}
use Rattle.ed_rules.proofs.exact.Pieces.{small-line, At-ended}
use Rattle.ed_rules.proofs.exact.Addresses.{Sees, Pairs, PairsOf, command-addressed, target-of}
use Rattle.ed_rules.proofs.exact.Spans.{given-pairs, last_given-sees, Spans, pairs-range, range-alike, one-range, AtLine-alike, FirstPlaces, first_place-alike, lines-alike, Wholes, whole-alike}
use Rattle.ed_rules.proofs.exact.Effects.{Seen, Leaves, stays-seen, append-leaves, insert-leaves, delete-leaves, change-leaves, join-leaves, join-one, write-leaves, null-leaves, move-leaves, copy-leaves}
use Rattle.ed_rules.proofs.exact.Files.{name-leaves, written-leaves, quit-leaves}

-- WHAT IS TOLD

pub Tells-sees : (s : State) (e : editor.State) → Tells s e → Sees 3 (pos 0) (pos 0) (pos 0) s e
Tells-sees s e h =
    let few = h.few in
    let inside = h.inside in
    let zero_small : IsSmall (pos 0) = (omega (arith, ints), omega (arith, ints)) in
    let v : Numbers = numbers (pos e.current) (pos (length e.lines)) (pos 0) (pos 0) (pos 0) in
    record {
      zone = record {
        fixed = Fixes-equal s.zone is_of_buffer (numbers_of e) v (first-three (numbers_of e) v refl refl refl) h.zone;
        small = record {
          current = small-line e.current (omega arith);
          last = small-line (length e.lines) (omega arith);
          first = zero_small;
          second = zero_small;
          target = zero_small;
        };
      };
      marks = h.marks;
      names = h.names;
      changed = h.changed;
      inside = inside;
      few = few;
    }

pub sees-Tells : (s : State) (e : editor.State) → Sees 3 (pos 0) (pos 0) (pos 0) s e → Tells s e
sees-Tells s e h =
    let v : Numbers = numbers (pos e.current) (pos (length e.lines)) (pos 0) (pos 0) (pos 0) in
    record {
      zone = Fixes-equal s.zone is_of_buffer v (numbers_of e) (first-three v (numbers_of e) refl refl refl) h.zone.fixed;
      marks = h.marks;
      names = h.names;
      changed = h.changed;
      inside = h.inside;
      few = h.few;
    }

-- THE END OF A RULE, AND THE SUFFIX

ended-sees : (r : State) (e : editor.State) → Seen r e → Sees 3 (pos 0) (pos 0) (pos 0) (with_zone (ended r.marks r.zone) r) e
ended-sees r e h =
    let s = h.sees in
    record {
      zone = subst (λ (ms : List Bool). At (ended ms r.zone) 3 (pos e.current) (pos (length e.lines)) (pos 0) (pos 0) (pos 0)) (sym s.marks)
          (At-ended r.zone h.names e.current (length e.lines) h.first h.second h.target s.zone h.enough s.inside);
      marks = s.marks;
      names = s.names;
      changed = s.changed;
      inside = s.inside;
      few = s.few;
    }

settled-lines : (listed : Bool) (k : Kept) (o : Outcome) → (settled listed k o).lines ≡ o.state.lines
settled-lines listed k o =
    elim o.alters as (λ b. (settled listed k (record o { alters = b })).lines ≡ o.state.lines) [ true ↦ refl | false ↦ refl ]

-- a suffix needs a current line
abbrev suffix_at : Form → (current : ℕ) → List Line → Result (List ℕ) Fault
suffix_at form current lines =
    elim current as (λ _. Result (List ℕ) Fault) [ zero ↦ Err fault.Address | suc n ↦ Ok (lines_written form current current lines) ]

suffix-alike : (form : Form) (listed : Bool) (start : editor.State) (r : State) (o : Outcome) (current : ℕ) → o.state.current ≡ current →
    ((1 ≤ o.state.current → length o.state.lines ≤ most_lines) → Seen r (settled listed (kept start) o)) →
    LeavesFew (suffix_at form current o.state.lines >> made listed start o) →
    EndAlike LeavesTold (suffixed (Some form) (with_zone (ended r.marks r.zone) r))
    (suffix_at form current o.state.lines >> made listed start o)
suffix-alike form listed start r o zero is leaves few =
    let e : editor.State = settled listed (kept start) o in
    let t : State = with_zone (ended r.marks r.zone) r in
    let s = ended-sees r e (leaves (λ h. absurd (omega arith))) in
    let none : e.current ≡ 0 = settled-current listed (kept start) o ∙ is in
    EndAlike-fault LeavesTold fault.Address (suffixed (Some form) t) (suffix_at form zero o.state.lines >> made listed start o)
    (needing-failed (known t.zone 0 1 (negsuc 0)) fault.Address t
    (At-denies t.zone 3 (pos e.current) (pos (length e.lines)) (pos 0) (pos 0) (pos 0) 0 1 (negsuc 0) s.zone (omega arith) (omega arith)
    (omega arith) (omega arith) (omega (arith, ints)))) refl
suffix-alike form listed start r o (suc n) is leaves few =
    let e : editor.State = settled listed (kept start) o in
    let t : State = with_zone (ended r.marks r.zone) r in
    let lines : length e.lines ≡ length o.state.lines = ap (λ (ls : List Line). length ls) (settled-lines listed (kept start) o) in
    let s = ended-sees r e (leaves (λ h. subst (λ (n : ℕ). n ≤ most_lines) lines few)) in
    let some : e.current ≡ suc n = settled-current listed (kept start) o ∙ is in
    EndAlike-ok LeavesTold t
    (Makes (record { state = e; output = o.output ++ lines_written form (suc n) (suc n) o.state.lines; alters = o.alters }))
    (suffixed (Some form) t) (suffix_at form (suc n) o.state.lines >> made listed start o)
    (needing-met (known t.zone 0 1 (negsuc 0)) fault.Address t
    (At-knows t.zone 3 (pos e.current) (pos (length e.lines)) (pos 0) (pos 0) (pos 0) 0 1 (negsuc 0) s.zone (omega arith) (omega arith)
    (omega arith) (omega arith) (omega (arith, ints)))) refl (sees-Tells t e s)

finish-makes : (suffix : Option Form) (listed : Bool) (start : editor.State) (r : State) (o : Outcome) →
    ((1 ≤ o.state.current → length o.state.lines ≤ most_lines) → Seen r (settled listed (kept start) o)) →
    LeavesFew (suffix_written suffix o.state >> made listed start o) →
    EndAlike LeavesTold (suffixed suffix (with_zone (ended r.marks r.zone) r)) (suffix_written suffix o.state >> made listed start o)
finish-makes None listed start r o leaves few =
    let e : editor.State = settled listed (kept start) o in
    let lines : length e.lines ≡ length o.state.lines = ap (λ (ls : List Line). length ls) (settled-lines listed (kept start) o) in
    sees-Tells (with_zone (ended r.marks r.zone) r) e (ended-sees r e (leaves (λ h. subst (λ (n : ℕ). n ≤ most_lines) lines few)))
finish-makes (Some form) listed start r o leaves few = suffix-alike form listed start r o o.state.current refl leaves few

pub finish-exact : (c : Command) (start : editor.State) (r : State) (f : Effect) → Leaves c.listed start r f →
    LeavesFew (completed c start f) →
    EndAlike LeavesTold (suffixed c.suffix (with_zone (ended r.marks r.zone) r)) (completed c start f)
finish-exact c start r (Makes o) h few = finish-makes c.suffix c.listed start r o h few
finish-exact c start r (Asks q) h few = absurd h

-- THE PHASES AFTER THE ADDRESSES

pairs-seen : (a : Addresses) (lines : List Line) (t : State) (p : editor.State × List ℕ) → PairsOf a lines t p → Seen t p.0
pairs-seen Without lines t p h = stays-seen t p.0 3 (pos 0) (pos 0) (pos 0) h.sees (omega arith)
pairs-seen (One a) lines t p h = stays-seen t p.0 5 _ _ (pos 0) h.sees (omega arith)
pairs-seen (Comma a b) lines t p h = stays-seen t p.0 5 _ _ (pos 0) h.sees (omega arith)
pairs-seen (Semicolon a b) lines t p h = stays-seen t p.0 5 _ _ (pos 0) h.sees (omega arith)

pairs-lines : (a : Addresses) (lines : List Line) (t : State) (p : editor.State × List ℕ) → PairsOf a lines t p → p.0.lines ≡ lines
pairs-lines Without lines t p h = h.same_lines
pairs-lines (One a) lines t p h = h.same_lines
pairs-lines (Comma a b) lines t p h = h.same_lines
pairs-lines (Semicolon a b) lines t p h = h.same_lines

module _ (c : Command) (given d : Addresses) (s : State) (e : editor.State) (t : State) (p : editor.State × List ℕ)
    (same_lines : p.0.lines ≡ e.lines) (h : PairsOf (given_or given d) e.lines t p) where
  abbrev rule_after : Verb → Result State Fault
  rule_after verb =
      addresses.targeted (takes verb).target t >> λ q. taken (takes verb).taking given
      (given_or given d) q >> λ u. effect c.listed given verb s u >> λ r. suffixed c.suffix (with_zone (ended r.marks r.zone) r)

  abbrev command_after : Verb → Result Effect Fault
  command_after verb =
      targeted (takes verb).target p.0 >> λ q. spanned (takes verb).taking (length e.lines) p.1 >> λ x. effect_of verb c.listed x q.1 q.0
      (Some answer.Done) >> completed c e

  abbrev Goes : Verb → Type 0
  Goes verb = LeavesFew (command_after verb) → EndAlike LeavesTold (rule_after verb) (command_after verb)

  -- the rule's part and the editor's part after a span
  abbrev After : (R : State → Span → Type 0) → (State → State) → (Span → Outcome) → Result State Fault → Result Span Fault → Type 0
  After R rule make x y =
      LeavesFew (y >> λ z. completed c e (Makes (make z))) →
      EndAlike LeavesTold (x >> λ u. suffixed c.suffix (with_zone (ended (rule u).marks (rule u).zone) (rule u)))
      (y >> λ z. completed c e (Makes (make z)))

  after-span : (R : State → Span → Type 0) (rule : State → State) (make : Span → Outcome) (x : Result State Fault) (y : Result Span Fault) →
      EndAlike R x y →
      ((u : State) (z : Span) → R u z → Leaves c.listed e (rule u) (Makes (make z))) → After R rule make x y
  after-span R rule make x y m k few =
      EndAlike-under LeavesFew R LeavesTold x y (λ u. suffixed c.suffix (with_zone (ended (rule u).marks (rule u).zone) (rule u)))
      (λ z. completed c e (Makes (make z))) few m
      (λ u z r few. finish-exact c e (rule u) (Makes (make z)) (k u z r) few)

  -- the same of an effect that may meet a fault
  after-effect : (x : Result State Fault) (y : Result Effect Fault) → EndAlike (Leaves c.listed e) x y → LeavesFew (y >> completed c e) →
      EndAlike LeavesTold (x >> λ r. suffixed c.suffix (with_zone (ended r.marks r.zone) r)) (y >> completed c e)
  after-effect x y m few =
      EndAlike-under LeavesFew (Leaves c.listed e) LeavesTold x y (λ r. suffixed c.suffix (with_zone (ended r.marks r.zone) r))
      (completed c e) few m
      (λ r f k few. finish-exact c e r f k few)

  pairs : IsGiven d → Pairs ⊥ e.lines t p
  pairs g = given-pairs (given_or given d) (given_or-given given d g) e.lines t p h

  place : IsGiven d → Sees 5 (pos (last_of_two p.1)) (pos (last_of_two p.1)) (pos 0) (last_given (given_or given d) t) p.0
  place g = last_given-sees (given_or given d) (given_or-given given d g) e.lines t p h

  place_in : IsGiven d → last_of_two p.1 ≤ length p.0.lines
  place_in g = subst (λ (ls : List Line). last_of_two p.1 ≤ length ls) (sym same_lines) (pairs g).last_in

  range : IsGiven d → EndAlike (Spans p.0 5 (pos 0)) (ranged t) (spanned many.Range (length e.lines) p.1)
  range g = pairs-range e.lines t p (length e.lines) (pairs g)

  seen : Seen t p.0
  seen = pairs-seen (given_or given d) e.lines t p h

  -- with one address nothing is joined
  join-after : IsGiven d → Goes ed.Join
  join-after g = by-given given d g h
    where
      by-given : (given d : Addresses) → IsGiven d → PairsOf (given_or given d) e.lines t p →
          LeavesFew (spanned many.Range (length e.lines) p.1 >> λ x. completed c e (Makes (effects.join x p.0))) →
          EndAlike LeavesTold (ranged t >> λ u. suffixed c.suffix
          (with_zone (ended (joined_given given c.listed s u).marks (joined_given given c.listed s u).zone)
          (joined_given given c.listed s u)))
          (spanned many.Range (length e.lines) p.1 >> λ x. completed c e (Makes (effects.join x p.0)))
      by-given Without d g h =
          after-span (Spans p.0 5 (pos 0)) (joined c.listed s) (λ x. effects.join x p.0) (ranged t)
          (spanned many.Range (length e.lines) p.1)
          (pairs-range e.lines t p (length e.lines) (given-pairs d g e.lines t p h)) (λ u x r. join-leaves c.listed s e u p.0 x r)
      by-given (One b) d g h =
          after-span (λ u x. Spans p.0 5 (pos 0) u x × (x.first ≡ x.last)) (λ u. u) (λ x. effects.join x p.0) (ranged t)
          (spanned many.Range (length e.lines) p.1)
          (one-range t p.0 5 (first_of_two p.1) (last_of_two p.1) (pos 0) h.sees (omega arith)
          (subst (λ (ls : List Line). last_of_two p.1 ≤ length ls) (sym same_lines) h.last_in) (h.same tt))
          (λ u x r. join-one c.listed e u p.0 x r.0 (let same = r.1 in omega arith))
      by-given (Comma a b) d g h =
          after-span (Spans p.0 5 (pos 0)) (joined c.listed s) (λ x. effects.join x p.0) (ranged t)
          (spanned many.Range (length e.lines) p.1)
          (pairs-range e.lines t p (length e.lines) h) (λ u x r. join-leaves c.listed s e u p.0 x r)
      by-given (Semicolon a b) d g h =
          after-span (Spans p.0 5 (pos 0)) (joined c.listed s) (λ x. effects.join x p.0) (ranged t)
          (spanned many.Range (length e.lines) p.1)
          (pairs-range e.lines t p (length e.lines) h) (λ u x r. join-leaves c.listed s e u p.0 x r)

  -- the target is evaluated too
  abbrev Aimed : State → editor.State × ℕ → Type 0
  Aimed u q = Sees 6 (pos (first_of_two p.1)) (pos (last_of_two p.1)) (pos q.1) u q.0 × (q.1 ≤ length p.0.lines) × (q.0 ≡ p.0)

  aimed-in : (u : State) (q : editor.State × ℕ) → Aimed u q → q.1 ≤ length q.0.lines
  aimed-in u q k = subst (λ (f : editor.State). q.1 ≤ length f.lines) (sym k.2) k.1

  aimed-range : IsGiven d → (u : State) (q : editor.State × ℕ) → Aimed u q →
      EndAlike (Spans q.0 6 (pos q.1)) (ranged u) (spanned many.Range (length e.lines) p.1)
  aimed-range g u q k =
      range-alike u q.0 6 (first_of_two p.1) (last_of_two p.1) (pos q.1) k.0 (omega arith)
      (subst (λ (f : editor.State). last_of_two p.1 ≤ length f.lines) (sym k.2) (place_in g))

  pub after_addresses : (verb : Verb) → is_exact_verb verb ≡ true → Suits (takes verb).taking d → Goes verb
  after_addresses (ed.Append text) x g few =
      finish-exact c e (appended c.listed s (length text) (last_given (given_or given d) t))
      (Makes (effects.append text (span (last_of_two p.1) (last_of_two p.1)) p.0))
      (append-leaves c.listed text s e (last_given (given_or given d) t) p.0 (last_of_two p.1) (place g) (place_in g)) few
  after_addresses (ed.Insert text) x g few =
      after-span (FirstPlaces p.0) (put_before c.listed s (length text)) (λ z. effects.insert text z p.0)
      (taken many.FirstPlace given (given_or given d) t) (spanned many.FirstPlace (length e.lines) p.1)
      (first_place-alike given (given_or given d) (given_or-given given d g) e.lines t p (length e.lines) h)
      (λ u z r. insert-leaves c.listed text s e u p.0 z r) few
  after_addresses (ed.Change text) x g few =
      after-span (Spans p.0 5 (pos 0)) (changed_to c.listed s (length text)) (λ z. effects.change text z p.0)
      (taken many.Lines given (given_or given d) t) (spanned many.Lines (length e.lines) p.1)
      (subst (λ (ls : List Line). EndAlike (Spans p.0 5 (pos 0)) (taken many.Lines given (given_or given d) t)
      (spanned many.Lines (length ls) p.1)) same_lines (lines-alike given d g e.lines t p h))
      (λ u z r. change-leaves c.listed text s e u p.0 z r) few
  after_addresses ed.Delete x g few =
      after-span (Spans p.0 5 (pos 0)) (deleted c.listed s) (λ z. effects.delete z p.0) (ranged t) (spanned many.Range (length e.lines) p.1)
      (range g) (λ u z r. delete-leaves c.listed s e u p.0 z r) few
  after_addresses ed.Join x g few = join-after g few
  after_addresses (ed.Move to) x g few =
      EndAlike-under LeavesFew Aimed LeavesTold (evaluated 5 to t) (targeted (Some to) p.0) _ _ few
      (target-of to t p.0 (pos (first_of_two p.1)) (pos (last_of_two p.1)) (pairs g).sees x)
      (λ u q k few. EndAlike-under LeavesFew (Spans q.0 6 (pos q.1)) LeavesTold (ranged u) (spanned many.Range (length e.lines) p.1) _ _ few
      (aimed-range g u q k)
      (λ w z r few. after-effect (moved_lines c.listed s w) (making (effects.move z q.1 q.0))
      (move-leaves c.listed s e w q.0 z q.1 r (aimed-in u q k)) few))
  after_addresses (ed.Copy to) x g few =
      EndAlike-under LeavesFew Aimed LeavesTold (evaluated 5 to t) (targeted (Some to) p.0) _ _ few
      (target-of to t p.0 (pos (first_of_two p.1)) (pos (last_of_two p.1)) (pairs g).sees x)
      (λ u q k few. after-span (Spans q.0 6 (pos q.1)) (copied_lines c.listed s) (λ z. effects.copy z q.1 q.0) (ranged u)
      (spanned many.Range (length e.lines) p.1) (aimed-range g u q k)
      (λ w z r. copy-leaves c.listed s e w q.0 z q.1 r (aimed-in u q k)) few)
  after_addresses ed.LineNumber x g few =
      finish-exact c e (last_given (given_or given d) t) (Makes (effects.line_number (span (last_of_two p.1) (last_of_two p.1)) p.0))
      (λ few. stays-seen (last_given (given_or given d) t) p.0 5 (pos (last_of_two p.1)) (pos (last_of_two p.1)) (pos 0) (place g)
      (omega arith)) few
  after_addresses ed.Null x g few =
      after-span (λ u z. Spans p.0 5 (pos 0) u z × (z.first ≡ z.last)) (current_at 3) (λ z. effects.write ed.Plain z p.0)
      (taken many.OneLine given (given_or given d) t) (spanned many.OneLine (length e.lines) p.1)
      (AtLine-alike given (given_or given d) (given_or-given given d g) e.lines t p (length e.lines) h)
      (λ u z r. null-leaves c.listed e u p.0 z (lines_written ed.Plain z.first z.last p.0.lines) r.0 r.1) few
  after_addresses (ed.Write form) x g few =
      after-span (Spans p.0 5 (pos 0)) (current_at 4) (λ z. effects.write form z p.0) (ranged t) (spanned many.Range (length e.lines) p.1)
      (range g)
      (λ u z r. write-leaves c.listed e u p.0 z 4 (lines_written form z.first z.last p.0.lines) r refl) few
  after_addresses (ed.WriteFile path) x g few =
      EndAlike-under LeavesFew (Wholes given p.0) LeavesTold (whole_or_ranged given t) (spanned many.Whole (length e.lines) p.1) _ _ few
      (subst (λ (ls : List Line). EndAlike (Wholes given p.0) (whole_or_ranged given t) (spanned many.Whole (length ls) p.1)) same_lines
      (whole-alike given d g e.lines t p h))
      (λ u z r few. after-effect (file_written given path u) (file.write path (Some answer.Done) z p.0)
      (written-leaves c.listed given path e u p.0 z r) few)
  after_addresses (ed.FileName path) x g few =
      after-effect (file_named path t) (making (file.file_name path p.0))
      (name-leaves c.listed path e t p.0 seen.names seen.first seen.second seen.target seen.sees seen.enough) few
  after_addresses ed.Help x g few = finish-exact c e t (Makes (effects.only p.0 [])) (λ few. seen) few
  after_addresses ed.HelpMode x g few = finish-exact c e t (Makes (effects.only p.0 [])) (λ few. seen) few
  after_addresses ed.PromptMode x g few = finish-exact c e t (Makes (effects.only p.0 [])) (λ few. seen) few
  after_addresses ed.Quit x g few = after-effect (saved t) (making (file.quit p.0)) (quit-leaves c.listed e t p.0 seen) few
  after_addresses ed.QuitAnyway x g few = finish-exact c e t (Makes (effects.only p.0 [])) (λ few. seen) few
  after_addresses _ x g few = absurd cc

-- ONE COMMAND

-- what is known of matches and of single lines makes no difference to what is told
matching-told : (t : State) (m : Matches) (facts : Facts) (f : Effect) → LeavesTold t f → LeavesTold (saying m facts t) f
matching-told t m facts (Makes o) h =
    record { zone = h.zone; marks = h.marks; names = h.names; changed = h.changed; inside = h.inside; few = h.few }
matching-told t m facts (Asks r) h = h

alike-beside : (x y : Result State Fault) (z : Result Effect Fault) → Beside x y → EndAlike LeavesTold x z → EndAlike LeavesTold y z
alike-beside (Ok t) (Ok u) (Ok f) b h = subst (λ (v : State). LeavesTold v f) (sym b.2) (matching-told t b.0 b.1 f h)
alike-beside (Ok t) (Ok u) (Err e) b h = h
alike-beside (Ok t) (Err g) z b h = absurd b
alike-beside (Err f) (Ok u) z b h = absurd b
alike-beside (Err f) (Err g) (Ok o) b h = h
alike-beside (Err f) (Err g) (Err e) b h = sym b ∙ h

pub command-exact : CommandIsExact
command-exact watched c s e exact tells few =
    let both = and_parts (are_by_number c.addresses && is_exact_verb c.verb) (is_readable c) exact in
    let reads = and_parts (may_have c.addresses c.verb && (is_none c.suffix || (takes c.verb).suffix)) (enters_lines c.verb) both.1 in
    let two = and_parts (are_by_number c.addresses) (is_exact_verb c.verb) both.0 in
    let d : Addresses = standing (takes c.verb).default in
    let a : Addresses = given_or c.addresses d in
    let is = command-is c e (Some answer.Done) in
    subst (λ (x : Result State Fault). EndAlike LeavesTold x (command e c (Some answer.Done)))
    (sym (met-goes (enters_lines c.verb) fault.Syntax s (step_at watched a c) reads.1))
    (alike-beside (step_aside a c s) (step_at watched a c s) (command e c (Some answer.Done)) (step_at-beside watched a c s)
    (subst (λ (y : Result Effect Fault). EndAlike LeavesTold (step_aside a c s) y) (sym is)
    (EndAlike-under LeavesFew (PairsOf a e.lines) LeavesTold (addressed a s) (values (given_or c.addresses (takes c.verb).default) e) _ _
    (subst (λ (y : Result Effect Fault). LeavesFew y) is few)
    (command-addressed c.addresses c.verb s e two.0 two.1 (Tells-sees s e tells))
    (λ t p h few. after_addresses c c.addresses d s e t p (pairs-lines a e.lines t p h) h c.verb two.1 (suits c.verb) few))))
