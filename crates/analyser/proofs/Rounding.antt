-- The rounds of a list, one further.
use Rattle.std.proofs.Common.{◌≡◌, ◌<◌, ◌+◌, ℕ, suc, min, Bool, true, false, not, List, [], ◌∷◌, ◌++◌, cond, ◌||◌, length, get_or, map, drop, Option, None, Some, is_none, is_some, option_map, Result, Ok, Err, IfOk, inl, inr, refl, sym, ap, subst, ◌∙◌, arith}
use Rattle.std.specs.Prelude.{nat_lt, if◌then◌else◌, IfSome}
use Rattle.std.proofs.lemmas.Bool.{cases_lt, le-ltb, or_left, or_right}
use Rattle.ed_base.specs.declared.fault.Fault.{Fault}
use Rattle.ed_syntax.specs.declared.command.Command as memory
use Rattle.ed_syntax.specs.Commands.{Command, Step}
use Rattle.ed_syntax.specs.PublicTypes.{command_value}
use Rattle.ed_syntax.specs.meaning.Verbs.{is_global}
use Rattle.ed_rules.specs.declared.state.State.{State}
use Rattle.ed_rules.specs.Choices.{Choice, has_choice, are_choices}
use Rattle.ed_rules.specs.Texts.{are_members}
use Rattle.ed_rules.specs.Rules.{step, fault_of}
use Rattle.ed_rules.specs.Globals.{taken_matches, body_entry, loop_end}
use Rattle.ed_rules.proofs.Texting.{members-through}
use Rattle.cert_check.specs.declared.sight.Sight.{Sight}
use Rattle.cert_check.specs.checker.Covering.{covers}
use Rattle.cert_check.specs.declared.certificate.Looped as looped
use Rattle.cert_check.specs.Certificates.{Looped, Note, looped_value}
use Rattle.cert_check.specs.checker.Valid.{told, are_met, left_by, once_by, runs_once, entry_of, left_by_inner, after_turns}
use Rattle.cert_check.proofs.verdicts.Checks.{NeedsAreTheSame}
use Rattle.cert_check.proofs.verdicts.Counting.{at-place}
use Rattle.analyser.specs.declared.rounds.Round.{Round}
use Rattle.analyser.specs.declared.rounds.Settled.{Settled}
use Rattle.analyser.specs.declared.walk.End.{End}
use Rattle.analyser.specs.declared.walk.End.TheVariants.{Leaves}
use Rattle.analyser.specs.Rounds.{all_met, left_by_list, AreInner, InnerFail, turned, next_invariant, round_invariant, ends, IsSettled}
use Rattle.analyser.specs.Following.{IsKnownOfList, IsNote, ListFails}
use Rattle.analyser.specs.Walking.{AreKnown, IsRound, invariant_after, HasZones, after_round, IsLastRound, IsTaken}
use Rattle.analyser.proofs.Going.{counted-none}
use Rattle.analyser.proofs.Results.{either}
use Rattle.analyser.proofs.Sets.{append-all, are-front, are-back, members-append}
use Rattle.ed_rules.proofs.Choosing.{choices-same}
use Rattle.analyser.proofs.Remembering.{command_patterns, verb_paths, Within, within-step, within-join, within-widen, within-told}
use Rattle.analyser.proofs.Gaining.{Among, among-join, among-widen, among-entry, among-told, among-left_by}
use Rattle.analyser.proofs.Rooms.{Laws, matched, matched-parts, state_room, falls-next}

-- ONE COMMAND

pub needs-of : NeedsAreTheSame → (w : Sight) (c : Command) (s : State) (o : Option Fault) → fault_of (step w.watch c s) ≡ o →
    fault_of (step [] c s) ≡ o
needs-of same w c s o e = same [] w.watch c s ∙ e

pub met-none : (c : Command) (s : State) → fault_of (step [] c s) ≡ None → are_met c s ≡ true
unfolding are_met
met-none c s e = ap is_none e

pub unmet-some : (c : Command) (s : State) (why : Fault) → fault_of (step [] c s) ≡ Some why → are_met c s ≡ false
unfolding are_met
unmet-some c s why e = ap is_none e

left-of : (w : Sight) (s t : State) (r : Result State Fault) → r ≡ Ok t →
    told w (elim r as (λ _. State) [ Ok u ↦ u | Err f ↦ s ]) ≡ told w t
left-of w s t (Ok u) e = cc
left-of w s t (Err f) e = absurd cc

pub left-is : (w : Sight) (c : Command) (s t : State) → step w.watch c s ≡ Ok t → left_by w c s ≡ told w t
unfolding left_by
left-is w c s t e = left-of w s t (step w.watch c s) e

-- WHAT THE COMMANDS OF A LIST GIVE

abbrev pub list_patterns : List Command → List Choice
list_patterns [] = []
list_patterns (c ∷ cs) = command_patterns c ++ list_patterns cs

abbrev pub list_names : List Command → List Choice
list_names [] = []
list_names (c ∷ cs) = verb_paths c.verb ++ list_names cs

left-within : (patterns names : List Choice) (w : Sight) (s : State) (r : Result State Fault) → Within patterns names s →
    IfOk r (Within patterns names) →
    Within patterns names (told w (elim r as (λ _. State) [ Ok t ↦ t | Err f ↦ s ]))
left-within patterns names w s (Ok t) h q = within-told patterns names w t q
left-within patterns names w s (Err f) h q = within-told patterns names w s h

within-left_by : (patterns names : List Choice) (w : Sight) (c : Command) (s : State) →
    are_choices (command_patterns c) patterns ≡ true → are_choices (verb_paths c.verb) names ≡ true → Within patterns names s →
    Within patterns names (left_by w c s)
unfolding left_by
within-left_by patterns names w c s g f q =
    left-within patterns names w s (step w.watch c s) q (within-step patterns names w.watch c s g f q)

within-list : (patterns names : List Choice) (w : Sight) (cs : List Command) (s : State) →
    are_choices (list_patterns cs) patterns ≡ true → are_choices (list_names cs) names ≡ true → Within patterns names s →
    Within patterns names (left_by_list w cs s)
within-list patterns names w [] s g f q = q
within-list patterns names w (c ∷ cs) s g f q =
    let p = append-all (has_choice patterns) (command_patterns c) (list_patterns cs) g in
    let n = append-all (has_choice names) (verb_paths c.verb) (list_names cs) f in
    within-list patterns names w cs (left_by w c s) p.1 n.1 (within-left_by patterns names w c s p.0 n.0 q)

among-list : (texts : List (List ℕ)) (w : Sight) (cs : List Command) (s : State) → are_members w.watch texts ≡ true →
    Among texts s → Among texts (left_by_list w cs s)
among-list texts w [] s g q = q
among-list texts w (c ∷ cs) s g q = among-list texts w cs (left_by w c s) g (among-left_by texts w c s g q)

-- all that may ever be remembered in the rounds of a list
abbrev pub patterns_of : Step → State → List Choice
patterns_of x first = first.patterns ++ list_patterns x.list

abbrev pub names_of : Step → State → List Choice
names_of x first = first.names ++ list_names x.list

-- and all that some line may ever be known to match
abbrev pub texts_of : Sight → Step → State → List (List ℕ)
texts_of w x first = matched first ++ (w.watch ++ taken_matches x.command.verb [])

abbrev pub Known : Sight → Step → (first : State) → State → Type 0
Known w x first s = Within (patterns_of x first) (names_of x first) s × Among (texts_of w x first) s

pub known-first : (w : Sight) (x : Step) (first : State) → Known w x first first
known-first w x first =
    let texts = members-append (matched first) (w.watch ++ taken_matches x.command.verb []) in
    let both = matched-parts first in (
      (
        are-front first.patterns first.patterns (list_patterns x.list) (choices-same first.patterns),
        are-front first.names first.names (list_names x.list) (choices-same first.names),
      ),
      (
        members-through _ (matched first) (texts_of w x first) both.0 texts.0,
        members-through _ (matched first) (texts_of w x first) both.1 texts.0,
      ),
    )

-- where the list isn't run once, any line may be the one that is taken
entry-if : (w : Sight) (body : State) (once : Option State) → is_some once ≡ false →
    told w (elim once as (λ _. State) [ None ↦ body | Some entry ↦ entry ]) ≡ told w body
entry-if w body None e = refl
entry-if w body (Some entry) e = absurd cc

entry-many : (w : Sight) (x : Step) (invariant : State) → runs_once w x invariant ≡ false → entry_of w x invariant ≡ told w (body_entry x.command.verb invariant)
entry-many w x invariant e = entry-if w (body_entry x.command.verb invariant) (once_by w.version x.command invariant) e

pub known-turned : (w : Sight) (x : Step) (first invariant : State) → runs_once w x invariant ≡ false → Known w x first invariant →
    Known w x first (turned w x invariant)
known-turned w x first invariant many q =
    let verb = x.command.verb in
    let entry : State = told w (body_entry verb invariant) in
    let texts = members-append (matched first) (w.watch ++ taken_matches verb []) in
    let both = members-append w.watch (taken_matches verb []) in
    let gains = members-through w.watch (w.watch ++ taken_matches verb []) (texts_of w x first) both.0 texts.1 in
    let takes = members-through (taken_matches verb []) (w.watch ++ taken_matches verb []) (texts_of w x first) both.1 texts.1 in
    subst (λ (u : State). Known w x first (left_by_list w x.list u)) (sym (entry-many w x invariant many)) (
      within-list (patterns_of x first) (names_of x first) w x.list entry
          (are-back (list_patterns x.list) first.patterns (list_patterns x.list) (choices-same (list_patterns x.list)))
          (are-back (list_names x.list) first.names (list_names x.list) (choices-same (list_names x.list)))
          (within-told (patterns_of x first) (names_of x first) w (body_entry verb invariant) q.0),
      among-list (texts_of w x first) w x.list entry gains
          (among-told (texts_of w x first) w (body_entry verb invariant) (among-entry (texts_of w x first) verb invariant takes q.1)),
    )

pub known-next : (w : Sight) (x : Step) (first : State) (before : ℕ) (invariant left : State) → Known w x first invariant →
    Known w x first left → Known w x first (next_invariant before invariant left)
known-next w x first before invariant left h q =
    either (Known w x first) (nat_lt before 2) _ _
    (within-join (patterns_of x first) (names_of x first) invariant left h.0 q.0, among-join (texts_of w x first) invariant left h.1 q.1)
    (within-widen (patterns_of x first) (names_of x first) invariant left h.0 q.0, among-widen (texts_of w x first) invariant left h.1 q.1)

-- ONE ROUND

pub inner-met : (w : Sight) (cs : List Command) (s : State) (inner : List State) → AreInner w cs s inner → all_met w cs s ≡ true
inner-met w [] s inner h = refl
inner-met w (c ∷ cs) s [] h = absurd h
inner-met w (c ∷ cs) s (t ∷ inner) h = let e = h.1 in rw e (inner-met w cs (left_by w c s) inner h.2)

inner-unmet : (w : Sight) (why : Fault) (cs : List Command) (s : State) (inner : List State) → InnerFail w why cs s inner →
    all_met w cs s ≡ false
inner-unmet w why [] s inner h = absurd h
inner-unmet w why (c ∷ cs) s [] h = absurd h
inner-unmet w why (c ∷ cs) s (t ∷ []) h = let e : are_met c s ≡ false = unmet-some c s why h.1 in rw e refl
inner-unmet w why (c ∷ cs) s (t ∷ u ∷ inner) h = let e = h.1 in rw e (inner-unmet w why cs (left_by w c s) (u ∷ inner) h.2)

pub inner-length : (w : Sight) (cs : List Command) (s : State) (inner : List State) → AreInner w cs s inner → length inner ≡ length cs
inner-length w [] s [] h = refl
inner-length w [] s (t ∷ inner) h = absurd h
inner-length w (c ∷ cs) s [] h = absurd h
inner-length w (c ∷ cs) s (t ∷ inner) h = let q = inner-length w cs (left_by w c s) inner h.2 in omega arith

-- the round isn't the last: the invariant of the next one, and that this one doesn't end
pub record Goes (w : Sight) (x : Step) (before : ℕ) (invariant next : State) : Type 0 where
  pub many : runs_once w x invariant ≡ false
  pub uncovered : covers invariant (turned w x invariant) ≡ false
  pub is : next ≡ next_invariant before invariant (turned w x invariant)
  pub goes : ends w x invariant ≡ false

neither : (a b : Bool) → a ≡ false → b ≡ false → (a || b) ≡ false
neither true b e f = absurd cc
neither false b e f = f

goes-if : (w : Sight) (x : Step) (before : ℕ) (invariant next t : State) (inner : List State) → runs_once w x invariant ≡ false →
    AreInner w x.list (entry_of w x invariant) inner → t ≡ turned w x invariant → (covered : Bool) →
    covers invariant t ≡ covered → (if covered then None else Some (next_invariant before invariant t)) ≡ Some next →
    Goes w x before invariant next
goes-if w x before invariant next t inner many h e true c n = absurd cc
goes-if w x before invariant next t inner many h e false c n =
    let uncovered : covers invariant (turned w x invariant) ≡ false = subst (λ (u : State). covers invariant u ≡ false) e c in
    let met : all_met w x.list (entry_of w x invariant) ≡ true = inner-met w x.list (entry_of w x invariant) inner h in
    let same : next_invariant before invariant t ≡ next = cc in
    let unsettled : (not (all_met w x.list (entry_of w x invariant)) || covers invariant (turned w x invariant)) ≡ false = rw met uncovered in
    record {
      many = many;
      uncovered = uncovered;
      is = sym same ∙ ap (λ (u : State). next_invariant before invariant u) e;
      goes = neither (runs_once w x invariant) _ many unsettled;
    }

pub goes-on : (w : Sight) (x : Step) (before : ℕ) (once : Bool) (invariant next : State) (inner : List State) (failed : Option Fault) (t : State) →
    once ≡ runs_once w x invariant → IsRound w x.list (entry_of w x invariant) inner failed t →
    invariant_after before once invariant failed t ≡ Some next → Goes w x before invariant next
goes-on w x before true invariant next inner failed t o h e = absurd cc
goes-on w x before false invariant next inner (Some why) t o h e = absurd cc
goes-on w x before false invariant next inner None t o h e =
    goes-if w x before invariant next t inner (sym o) h.0 h.1 (covers invariant t) refl e

ends-if : (w : Sight) (x : Step) (before : ℕ) (invariant t : State) → t ≡ turned w x invariant → (covered : Bool) →
    covers invariant t ≡ covered → (if covered then None else Some (next_invariant before invariant t)) ≡ None →
    (not (all_met w x.list (entry_of w x invariant)) || covers invariant (turned w x invariant)) ≡ true
ends-if w x before invariant t e true c n =
    or_right (not (all_met w x.list (entry_of w x invariant))) (covers invariant (turned w x invariant))
    (subst (λ (u : State). covers invariant u ≡ true) e c)
ends-if w x before invariant t e false c n = absurd cc

pub ends-here : (w : Sight) (x : Step) (before : ℕ) (once : Bool) (invariant : State) (inner : List State) (failed : Option Fault) (t : State) →
    once ≡ runs_once w x invariant → IsRound w x.list (entry_of w x invariant) inner failed t →
    invariant_after before once invariant failed t ≡ None → ends w x invariant ≡ true
ends-here w x before true invariant inner failed t o h e = or_left (runs_once w x invariant) _ (sym o)
ends-here w x before false invariant inner (Some why) t o h e =
    let unmet : all_met w x.list (entry_of w x invariant) ≡ false = inner-unmet w why x.list (entry_of w x invariant) inner h in
    let fails : (not (all_met w x.list (entry_of w x invariant)) || covers invariant (turned w x invariant)) ≡ true = rw unmet refl in
    or_right (runs_once w x invariant) _ fails
ends-here w x before false invariant inner None t o h e =
    or_right (runs_once w x invariant) _ (ends-if w x before invariant t h.1 (covers invariant t) refl e)

-- ALL ROUNDS SO FAR

-- the rounds before this one don't end; more than two of them count as two
pub record Rounds (w : Sight) (x : Step) (first : State) (counted : ℕ) (invariant : State) : Type 0 where
  pub number : ℕ
  pub counts : counted ≡ min number 2
  pub is : invariant ≡ round_invariant w x first number
  pub none_before : (n : ℕ) → n < number → ends w x (round_invariant w x first n) ≡ false
  pub known : Known w x first invariant

pub rounds-start : (w : Sight) (x : Step) (first : State) → Rounds w x first 0 first
rounds-start w x first =
    record { number = 0; counts = refl; is = refl; none_before = λ n l. absurd (omega arith); known = known-first w x first }

same-next : (counted number : ℕ) (invariant left : State) → counted ≡ min number 2 →
    next_invariant counted invariant left ≡ next_invariant number invariant left
same-next counted number invariant left e = elim (cases_lt number 2) [
  | inl l ↦ let same : counted ≡ number = omega arith in ap (λ (n : ℕ). next_invariant n invariant left) same
  | inr l ↦
      let two : counted ≡ 2 = omega arith in
      let later : nat_lt number 2 ≡ false = le-ltb number 2 l in
      rw (two, later) refl
]

pub rounds-on : (w : Sight) (x : Step) (first invariant next : State) (counted more : ℕ) → Rounds w x first counted invariant →
    Goes w x counted invariant next → more ≡ min (counted + 1) 2 → Rounds w x first more next
rounds-on w x first invariant next counted more r g e =
    let counts = r.counts in
    let is : next ≡ round_invariant w x first (suc r.number) =
    g.is ∙ same-next counted r.number invariant (turned w x invariant) r.counts
    ∙ ap (λ (u : State). next_invariant r.number u (turned w x u)) r.is in
    record {
      number = suc r.number;
      counts = omega arith;
      is = is;
      none_before = λ n l. elim (cases_lt n r.number) [
        | inl k ↦ r.none_before n k
        | inr k ↦ let same : r.number ≡ n = omega arith in
            subst (λ (m : ℕ). ends w x (round_invariant w x first m) ≡ false) same
            (subst (λ (u : State). ends w x u ≡ false) r.is g.goes)
      ];
      known = subst (λ (u : State). Known w x first u) (sym g.is)
          (known-next w x first counted invariant (turned w x invariant) r.known (known-turned w x first invariant g.many r.known));
    }

pub rounds-end : (w : Sight) (x : Step) (first invariant : State) (counted : ℕ) → Rounds w x first counted invariant →
    ends w x invariant ≡ true → IsSettled w x first invariant
rounds-end w x first invariant counted r e = record { before = r.number; is = r.is; last = e; none_before = r.none_before }

-- how often the invariant can still be weakened
abbrev pub room_of : Sight → Step → (first invariant : State) → ℕ
room_of w x first invariant = state_room (patterns_of x first) (names_of x first) (texts_of w x first) invariant

pub rounds-fall : Laws → (w : Sight) (x : Step) (first invariant next : State) (counted : ℕ) → HasZones invariant →
    HasZones (turned w x invariant) → Rounds w x first counted invariant → Goes w x counted invariant next →
    room_of w x first next < room_of w x first invariant
rounds-fall l w x first invariant next counted h k r g =
    let within = known-turned w x first invariant g.many r.known in
    let falls = falls-next (patterns_of x first) (names_of x first) (texts_of w x first) l counted invariant (turned w x invariant) h k
    within.0.0 within.0.1 r.known.1.1 in
    subst (λ (u : State). room_of w x first u < room_of w x first invariant) (sym g.is) (falls.fewer g.uncovered)

-- THE WALK OVER A LIST

-- what is known of the whole list, by what is known of the commands that are left
pub record Passing (w : Sight) (all : List Command) (entry : State) (inner : List State) (coming : State) (left : List Command) : Type
    0 where
  pub on : (ts : List State) → AreInner w left coming ts → AreInner w all entry (inner ++ ts)
  pub off : (why : Fault) (t : State) (ts : List State) → InnerFail w why left coming (t ∷ ts) →
      InnerFail w why all entry (inner ++ t ∷ ts)
  pub result : left_by_list w all entry ≡ left_by_list w left coming

push-state : (inner later : List State) (t : State) → inner ++ (t ∷ later) ≡ (inner ++ t ∷ []) ++ later
push-state [] later t = refl
push-state (u ∷ inner) later t = ap (λ (l : List State). u ∷ l) (push-state inner later t)

append-no_state : (inner : List State) → inner ++ [] ≡ inner
append-no_state [] = refl
append-no_state (t ∷ inner) = ap (λ (l : List State). t ∷ l) (append-no_state inner)

pub passing-on : (w : Sight) (all : List Command) (entry : State) (inner : List State) (s t : State) (c : Command) (cs : List Command) →
    are_met c s ≡ true → t ≡ left_by w c s → Passing w all entry inner s (c ∷ cs) → Passing w all entry (inner ++ s ∷ []) t cs
passing-on w all entry inner s t c cs met left p = record {
  on = λ ts h. subst (λ (us : List State). AreInner w all entry us) (push-state inner ts s)
      (p.on (s ∷ ts) (refl, met, subst (λ (u : State). AreInner w cs u ts) left h));
  off = λ why u ts h. subst (λ (us : List State). InnerFail w why all entry us) (push-state inner (u ∷ ts) s)
      (p.off why s (u ∷ ts) (refl, met, subst (λ (v : State). InnerFail w why cs v (u ∷ ts)) left h));
  result = p.result ∙ ap (λ (u : State). left_by_list w cs u) (sym left);
}

pub passing-off : (w : Sight) (all : List Command) (entry : State) (inner : List State) (s : State) (why : Fault) (c : Command)
    (cs : List Command) → fault_of (step [] c s) ≡ Some why → Passing w all entry inner s (c ∷ cs) →
    InnerFail w why all entry (inner ++ s ∷ [])
passing-off w all entry inner s why c cs e p = p.off why s [] (refl, e)

pub passing-end : (w : Sight) (all : List Command) (entry : State) (inner : List State) (s : State) → Passing w all entry inner s [] →
    AreInner w all entry inner × (s ≡ left_by_list w all entry)
passing-end w all entry inner s p =
    (subst (λ (us : List State). AreInner w all entry us) (append-no_state inner) (p.on [] tt), sym p.result)

-- one command of it further
pub passing-next : (w : Sight) (list : List memory.Command) (entry : State) (i : ℕ) (d : memory.Command) (inner more : List State)
    (s t told_of next : State) → i < length list → d ≡ get_or list i d → more ≡ inner ++ s ∷ [] →
    fault_of (step [] (command_value d) s) ≡ None → step w.watch (command_value d) s ≡ Ok t → told_of ≡ told w t →
    next ≡ told_of → Passing w (map command_value list) entry inner s (map command_value (drop i list)) →
    Passing w (map command_value list) entry more next (map command_value (drop (i + 1) list))
passing-next w list entry i d inner more s t told_of next bound is pushed none after tells same p =
    let here : Passing w (map command_value list) entry inner s (command_value d ∷ map command_value (drop (i + 1) list)) =
    subst (λ (cs : List memory.Command). Passing w (map command_value list) entry inner s (map command_value cs))
    (at-place list i d bound is) p in
    let left : next ≡ left_by w (command_value d) s = same ∙ tells ∙ sym (left-is w (command_value d) s t after) in
    subst (λ (us : List State). Passing w (map command_value list) entry us next (map command_value (drop (i + 1) list))) (sym pushed)
    (passing-on w (map command_value list) entry inner s next (command_value d) (map command_value (drop (i + 1) list))
    (met-none (command_value d) s none) left here)

pub passing-stops : (w : Sight) (list : List memory.Command) (entry : State) (i : ℕ) (d : memory.Command) (inner more : List State)
    (s : State) (why : Fault) → i < length list → d ≡ get_or list i d → more ≡ inner ++ s ∷ [] →
    fault_of (step [] (command_value d) s) ≡ Some why →
    Passing w (map command_value list) entry inner s (map command_value (drop i list)) →
    InnerFail w why (map command_value list) entry more
passing-stops w list entry i d inner more s why bound is pushed fails p =
    let here : Passing w (map command_value list) entry inner s (command_value d ∷ map command_value (drop (i + 1) list)) =
    subst (λ (cs : List memory.Command). Passing w (map command_value list) entry inner s (map command_value cs))
    (at-place list i d bound is) p in
    subst (λ (us : List State). InnerFail w why (map command_value list) entry us) (sym pushed)
    (passing-off w (map command_value list) entry inner s why (command_value d) (map command_value (drop (i + 1) list)) fails here)

pub passing-over : (w : Sight) (list : List memory.Command) (entry : State) (i : ℕ) (inner : List State) (s : State) →
    i ≡ length list → Passing w (map command_value list) entry inner s (map command_value (drop i list)) →
    AreInner w (map command_value list) entry inner × (s ≡ left_by_list w (map command_value list) entry)
passing-over w list entry i inner s e p =
    passing-end w (map command_value list) entry inner s
    (subst (λ (cs : List memory.Command). Passing w (map command_value list) entry inner s (map command_value cs)) (counted-none list i e)
    p)

-- THE ROUNDS, by what the calls of one answer

round-of : (w : Sight) (x : Step) (all : List Command) (invariant entry : State) (inner : List State) (failed : Option Fault)
    (t : State) → all ≡ x.list → entry ≡ entry_of w x invariant → IsRound w all entry inner failed t →
    IsRound w x.list (entry_of w x invariant) inner failed t
round-of w x all invariant entry inner failed t same begins round =
    subst (λ (cs : List Command). IsRound w cs (entry_of w x invariant) inner failed t) same
    (subst (λ (u : State). IsRound w all u inner failed t) begins round)

goes-by : (w : Sight) (x : Step) (all : List Command) (invariant next entry : State) (counted : ℕ) (once : Bool) (inner : List State)
    (failed : Option Fault) (t : State) (o : Option State) → all ≡ x.list → entry ≡ entry_of w x invariant → once ≡ runs_once w x invariant →
    IsRound w all entry inner failed t → o ≡ invariant_after counted once invariant failed t → o ≡ Some next →
    Goes w x counted invariant next
goes-by w x all invariant next entry counted once inner failed t o same begins single round after some =
    goes-on w x counted once invariant next inner failed t single (round-of w x all invariant entry inner failed t same begins round)
    (sym after ∙ some)

pub rounds-next : (w : Sight) (x : Step) (all : List Command) (first invariant next entry : State) (counted more : ℕ) (once : Bool) (inner : List State)
    (failed : Option Fault) (t : State) (o : Option State) → all ≡ x.list → entry ≡ entry_of w x invariant → once ≡ runs_once w x invariant →
    IsRound w all entry inner failed t → o ≡ invariant_after counted once invariant failed t → o ≡ Some next →
    more ≡ min (counted + 1) 2 → Rounds w x first counted invariant → Rounds w x first more next
rounds-next w x all first invariant next entry counted more once inner failed t o same begins single round after some count r =
    rounds-on w x first invariant next counted more r
    (goes-by w x all invariant next entry counted once inner failed t o same begins single round after some) count

zones-turned : (w : Sight) (x : Step) (invariant next : State) (counted : ℕ) (once : Bool) (inner : List State) (failed : Option Fault) (t : State) →
    IsRound w x.list (entry_of w x invariant) inner failed t → invariant_after counted once invariant failed t ≡ Some next → HasZones t →
    HasZones (turned w x invariant)
zones-turned w x invariant next counted true inner failed t round after h = absurd cc
zones-turned w x invariant next counted false inner (Some why) t round after h = absurd cc
zones-turned w x invariant next counted false inner None t round after h = subst (λ (u : State). HasZones u) round.1 h

pub rounds-smaller : Laws → (w : Sight) (x : Step) (all : List Command) (first invariant next entry : State) (counted : ℕ) (once : Bool)
    (inner : List State) (failed : Option Fault) (t : State) (o : Option State) → all ≡ x.list → entry ≡ entry_of w x invariant →
    once ≡ runs_once w x invariant → IsRound w all entry inner failed t → o ≡ invariant_after counted once invariant failed t → o ≡ Some next → HasZones invariant →
    HasZones t → Rounds w x first counted invariant → room_of w x first next < room_of w x first invariant
rounds-smaller l w x all first invariant next entry counted once inner failed t o same begins single round after some h k r =
    rounds-fall l w x first invariant next counted h
    (zones-turned w x invariant next counted once inner failed t (round-of w x all invariant entry inner failed t same begins round)
    (sym after ∙ some) k) r
    (goes-by w x all invariant next entry counted once inner failed t o same begins single round after some)

known-of_round : (w : Sight) (list : List Command) (s : State) (inner : List State) (failed : Option Fault) (t : State) →
    IsRound w list s inner failed t → AreKnown w list s inner failed
known-of_round w list s inner None t h = h.0
known-of_round w list s inner (Some why) t h = h

-- what is known after the last line
left-of_round : (w : Sight) (x : Step) (invariant left : State) (once : Bool) (inner : List State) (failed : Option Fault) (t : State) →
    once ≡ runs_once w x invariant → IsRound w x.list (entry_of w x invariant) inner failed t → left ≡ cond once t invariant → failed ≡ None →
    left ≡ after_round w x invariant
left-of_round w x invariant left once inner None t single round is none =
    is ∙ ap (λ (u : State). cond once u invariant) round.1 ∙ ap (λ (b : Bool). cond b (turned w x invariant) invariant) single
left-of_round w x invariant left once inner (Some why) t single round is none = absurd cc

pub rounds-last : (w : Sight) (x : Step) (all : List Command) (first invariant left entry : State) (counted : ℕ) (once : Bool) (r : Round) (s : Settled) (t : State)
    (o : Option State) → all ≡ x.list → entry ≡ entry_of w x invariant → once ≡ runs_once w x invariant → IsRound w all entry r.inner.items r.failed t →
    o ≡ invariant_after counted once invariant r.failed t → o ≡ None → Rounds w x first counted invariant → s.invariant ≡ invariant → s.round ≡ r →
    left ≡ cond once t invariant → IsLastRound w x first left s
rounds-last w x all first invariant left entry counted once r s t o same begins single round after none so_far is_invariant is_round is_left =
    let here = round-of w x all invariant entry r.inner.items r.failed t same begins round in
    let Last : State → Round → Type 0 = λ (u : State) (q : Round).
    IsSettled w x first u × AreKnown w x.list (entry_of w x u) q.inner.items q.failed × (q.failed ≡ None → left ≡ after_round w x u) in
    let last : Last s.invariant s.round =
    subst (λ (u : State). Last u s.round) (sym is_invariant) (subst (λ (q : Round). Last invariant q) (sym is_round) (
      rounds-end w x first invariant counted so_far (ends-here w x counted once invariant r.inner.items r.failed t single here (sym after ∙ none)),
      known-of_round w x.list (entry_of w x invariant) r.inner.items r.failed t here,
      left-of_round w x invariant left once r.inner.items r.failed t single here is_left,
    )) in
    record { settled = last.0; known = last.1; left = last.2 }

-- ONE COMMAND WITH ITS LIST

abbrev noted : State → Option Looped → Note
noted s l = record { state = s; looped = l }

known-of : (w : Sight) (x : Step) (s : State) (l : Option Looped) (global : Bool) → is_global x.command.verb ≡ global →
    IsKnownOfList w global x s l → IsKnownOfList w (is_global x.command.verb) x s l
known-of w x s l global e h = subst (λ (b : Bool). IsKnownOfList w b x s l) (sym e) h

-- what a list leaves, by what is known before each of its commands
inner-left : (w : Sight) (cs : List Command) (s : State) (ts : List State) → AreInner w cs s ts → left_by_inner w cs ts s ≡ left_by_list w cs s
inner-left w [] s [] h = refl
inner-left w [] s (t ∷ ts) h = absurd h
inner-left w (c ∷ cs) s [] h = absurd h
inner-left w (c ∷ cs) s (t ∷ ts) h =
    ap (λ (u : State). left_by_inner w cs ts (left_by w c u)) h.0 ∙ inner-left w cs (left_by w c s) ts h.2

pub after-of_round : (w : Sight) (x : Step) (l : Looped) → AreInner w x.list (entry_of w x l.invariant) l.inner → after_turns w x l ≡ after_round w x l.invariant
after-of_round w x l h =
    ap (λ (u : State). cond (runs_once w x l.invariant) u l.invariant) (inner-left w x.list (entry_of w x l.invariant) l.inner h)

pub global-leaves : (w : Sight) (x : Step) (s t u left : State) (r : Settled) → is_global x.command.verb ≡ true →
    fault_of (step [] x.command s) ≡ None → IsLastRound w x (left_by w x.command s) left r → r.round.failed ≡ None →
    u ≡ loop_end x s left → t ≡ told w u →
    IsNote w x s (noted s (Some (record { invariant = r.invariant; inner = r.round.inner.items }))) ×
    (t ≡ told w (loop_end x s (after_turns w x (record { invariant = r.invariant; inner = r.round.inner.items }))))
global-leaves w x s t u left r global none last end is tells =
    let known = subst (λ (f : Option Fault). AreKnown w x.list (entry_of w x r.invariant) r.round.inner.items f) end last.known in
    let l : Looped = record { invariant = r.invariant; inner = r.round.inner.items } in (
      record { state = refl; met = met-none x.command s none; list = known-of w x s _ true global (last.settled, known) },
      tells ∙ ap (told w) (is ∙ ap (loop_end x s) (last.left end ∙ sym (after-of_round w x l known))),
    )

pub global-stops : (w : Sight) (x : Step) (s left : State) (number : ℕ) (why : Fault) (r : Settled) →
    is_global x.command.verb ≡ true → fault_of (step [] x.command s) ≡ None →
    IsLastRound w x (left_by w x.command s) left r →
    r.round.failed ≡ Some why → number ≡ length r.round.inner.items →
    ListFails w number why x s (record { invariant = r.invariant; inner = r.round.inner.items })
global-stops w x s left number why r global none last end count =
    let known = subst (λ (f : Option Fault). AreKnown w x.list (entry_of w x r.invariant) r.round.inner.items f) end last.known in
    record {
      met = met-none x.command s none;
      global = global;
      settled = last.settled;
      states = known;
      number = count;
    }

pub last-begun : (w : Sight) (x : Step) (s first left : State) (r : Settled) → first ≡ left_by w x.command s →
    IsLastRound w x first left r → IsLastRound w x (left_by w x.command s) left r
last-begun w x s first left r begins last = subst (λ (u : State). IsLastRound w x u left r) begins last

-- what a command leaves, where its needs hold
pub left-told : (w : Sight) (x : Step) (s t u : State) → step w.watch x.command s ≡ Ok u → t ≡ told w u →
    t ≡ left_by w x.command s
left-told w x s t u after tells = tells ∙ sym (left-is w x.command s u after)

pub plain-leaves : (w : Sight) (x : Step) (s t u : State) → is_global x.command.verb ≡ false →
    fault_of (step [] x.command s) ≡ None → step w.watch x.command s ≡ Ok u → t ≡ told w u →
    IsNote w x s (noted s None) × (t ≡ left_by w x.command s)
plain-leaves w x s t u global none after tells = (
  record { state = refl; met = met-none x.command s none; list = known-of w x s None false global tt },
  left-told w x s t u after tells,
)

shape-if : (w : Sight) (global : Bool) (x : Step) (s : State) (l : Option looped.Looped) →
    IsKnownOfList w global x s (option_map looped_value l) → IfSome l (λ m. length m.inner.items ≡ length x.list)
shape-if w global x s None h = tt
shape-if w false x s (Some l) h = absurd h
shape-if w true x s (Some l) h = inner-length w x.list (entry_of w x l.invariant) l.inner.items h.1

pub taken-shape : (w : Sight) (x : Step) (s t : State) (l : Option looped.Looped) (end : End) → IsTaken w x s l end t →
    end ≡ Leaves → IfSome l (λ m. length m.inner.items ≡ length x.list)
taken-shape w x s t l end h e =
    let leaves = subst (λ (r : End). IsTaken w x s l r t) e h in
    shape-if w (is_global x.command.verb) x s l leaves.0.list
