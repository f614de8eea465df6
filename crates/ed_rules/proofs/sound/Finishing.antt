-- The end of a rule and the suffix.
use Rattle.std.proofs.Common.{◌≡◌, ◌<◌, ◌≤◌, ◌+◌, ℕ, zero, suc, pos, negsuc, Bool, true, false, cond, List, [], length, get_or, Option, None, Some, Result, Ok, Err, arith, refl, ap, ◌++◌}
use Rattle.std.proofs.lemmas.Int.{ints}
use Rattle.std.proofs.lemmas.List.Quantifiers.{position-Some}
use Rattle.ed_base.specs.declared.fault.Fault.{Fault}
use Rattle.ed_base.specs.declared.fault.Fault.TheVariants as fault
use Rattle.ed_base.specs.Buffer.{Line, plain_line, has_letter, marked_place}
use Rattle.zones.specs.Zone.{Bounds, Numbers, Holds}
use Rattle.zones.proofs.Soundness.{Holds-after_guard, Holds-after_forget}
use Rattle.ed_syntax.specs.Commands.{Form, Command}
use Rattle.ed_syntax.specs.meaning.States as editor
use Rattle.ed_syntax.specs.meaning.States.{Kept, kept}
use Rattle.ed_syntax.specs.meaning.Effects.{Outcome, Effect, Makes, Asks}
use Rattle.ed_syntax.specs.meaning.Values.{◌>>◌}
use Rattle.ed_syntax.specs.meaning.Forms.{lines_written}
use Rattle.ed_syntax.specs.meaning.Applied.{settled, suffix_written, completed}
use Rattle.ed_rules.specs.declared.state.State.{State}
use Rattle.ed_rules.specs.StandsFor.{Reads, StandsBy}
use Rattle.ed_rules.proofs.Basics.{Agrees}
use Rattle.zones.specs.Known.{known}
use Rattle.ed_rules.specs.Marks.{for_each_sure}
use Rattle.ed_rules.specs.Pieces.{without_addresses, mark_bounded, ended, with_zone}
use Rattle.ed_rules.specs.Rules.{suffixed}
use Rattle.zones.proofs.Known.{known-true}
use Rattle.ed_rules.proofs.Basics.{Agrees-needing, Agrees-ok}
use Rattle.ed_rules.proofs.sound.Standing.{Stands}

-- a fold over sure letters, by what is true once the letters below k are done
pub for_each_sure-by : {A : Type 0} (P : ℕ → A → Type 0) (step : ℕ → A → A) (sure : List Bool) (a : A) → P 0 a →
    ((k : ℕ) (b : A) → k < 26 → get_or sure k false ≡ true → P k b → P (suc k) (step k b)) →
    ((k : ℕ) (b : A) → k < 26 → get_or sure k false ≡ false → P k b → P (suc k) b) →
    (n : ℕ) → n ≤ 26 → P n (for_each_sure step sure n a)
unfolding for_each_sure
for_each_sure-by P step sure a p on off zero h = p
for_each_sure-by P step sure a p on off (suc k) h =
    let b = for_each_sure step sure k a in
    let q = for_each_sure-by P step sure a p on off k (omega arith) in
    (elim (get_or sure k false) as (λ r. get_or sure k false ≡ r → P (suc k) (cond r (step k b) b)) [
      | true ↦ λ e. on k b (omega arith) e q
      | false ↦ λ e. off k b (omega arith) e q
    ]) refl

pub marked_place-inside : (letter : ℕ) (lines : List Line) (place : ℕ) → marked_place letter lines ≡ Some place → place < length lines
marked_place-inside letter lines place e = (position-Some (has_letter letter) lines place (plain_line []) e).0

Holds-mark_bounded : (sure : List Bool) (lines : List Line) (current letter : ℕ) (zone : Bounds) (v : Numbers) → letter < 26 → get_or sure letter false ≡ true →
    Reads sure lines current v → Holds zone v → Holds (mark_bounded letter zone) v
unfolding mark_bounded
Holds-mark_bounded sure lines current letter zone v h e r holds =
    let o = r.marks_are letter h e in
    let place = o.2 in
    let inside = marked_place-inside letter lines o.0 o.1 in
    let v0 = r.zero_is in
    let v2 = r.last_is in
    Holds-after_guard _ (6 + letter) 2 (pos 0) v (omega arith) (omega arith)
    (Holds-after_guard zone 0 (6 + letter) (negsuc 0) v (omega arith) (omega arith) holds (omega (arith, ints))) (omega (arith, ints))

pub Holds-without_addresses : (zone : Bounds) (v : Numbers) → Holds zone v → Holds (without_addresses zone) v
Holds-without_addresses zone v holds =
    Holds-after_forget _ 5 v v (Holds-after_forget _ 4 v v (Holds-after_forget zone 3 v v holds (λ p n. refl)) (λ p n. refl)) (λ p n. refl)

Holds-ended : (sure : List Bool) (lines : List Line) (current : ℕ) (zone : Bounds) (v : Numbers) → current ≤ length lines →
    Reads sure lines current v → Holds zone v → Holds (ended sure zone) v
unfolding ended
Holds-ended sure lines current zone v inside r holds =
    let v0 = r.zero_is in
    let v1 = r.current_is in
    let v2 = r.last_is in
    let gone : Holds (without_addresses zone) v = Holds-without_addresses zone v holds in
    for_each_sure-by (λ k z. Holds z v) mark_bounded sure _
    (Holds-after_guard _ 1 2 (pos 0) v (omega arith) (omega arith) (Holds-after_guard _ 0 1 (pos 0) v (omega arith) (omega arith) gone (omega (arith, ints))) (omega (arith, ints)))
    (λ k b h e q. Holds-mark_bounded sure lines current k b v h e r q)
    (λ k b h e q. q)
    26 (omega arith)

pub StandsBy-ended : (s : State) (e : editor.State) (v : Numbers) → StandsBy s e v → StandsBy (with_zone (ended s.marks s.zone) s) e v
StandsBy-ended s e v st = record {
  buffer = record {
    holds = Holds-ended s.marks e.lines e.current s.zone v st.buffer.inside st.buffer.reads st.buffer.holds;
    reads = st.buffer.reads;
    inside = st.buffer.inside;
  };
  remembered = st.remembered;
  changed = st.changed;
  past = st.past;
}

-- what an effect leaves once it is settled
abbrev pub Follows : (listed : Bool) → editor.State → State → Effect → Type 0
Follows listed start r (Makes o) = Stands r (settled listed (kept start) o)
Follows listed start r (Asks f) = ⊥

-- what a command leaves
abbrev pub Final : State → Effect → Type 0
Final t (Makes o) = Stands t o.state
Final t (Asks f) = ⊥

pub settled-current : (listed : Bool) (k : Kept) (o : Outcome) → (settled listed k o).current ≡ o.state.current
settled-current listed k o = elim o.alters as (λ b. (settled listed k (record o { alters = b })).current ≡ o.state.current) [ true ↦ refl | false ↦ refl ]

on_line : {A : Type 0} (n : ℕ) (f : Fault) (a : A) → 1 ≤ n → (elim n as (λ _. Result A Fault) [ zero ↦ Err f | suc m ↦ Ok a ]) ≡ Ok a
on_line zero f a h = absurd (omega arith)
on_line (suc n) f a h = refl

suffix_written-line : (form : Form) (s : editor.State) → 1 ≤ s.current →
    suffix_written (Some form) s ≡ Ok (lines_written form s.current s.current s.lines)
suffix_written-line form s h = on_line s.current fault.Address (lines_written form s.current s.current s.lines) h

abbrev pub made : (listed : Bool) → editor.State → Outcome → List ℕ → Result Effect Fault
made listed start o more = Ok (Makes (record { state = settled listed (kept start) o; output = o.output ++ more; alters = o.alters }))

finish-makes : (suffix : Option Form) (listed : Bool) (start : editor.State) (r : State) (o : Outcome) → Stands r (settled listed (kept start) o) →
    Agrees Final (suffixed suffix (with_zone (ended r.marks r.zone) r)) (suffix_written suffix o.state >> made listed start o)
finish-makes None listed start r o h = (h.0, StandsBy-ended r (settled listed (kept start) o) h.0 h.1)
finish-makes (Some form) listed start r o h =
    let e : editor.State = settled listed (kept start) o in
    let t : State = with_zone (ended r.marks r.zone) r in
    let st : StandsBy t e h.0 = StandsBy-ended r e h.0 h.1 in
    Agrees-needing Final (known t.zone 0 1 (negsuc 0)) fault.Address t (suffix_written (Some form) o.state >> made listed start o) (λ k.
    let d = known-true t.zone h.0 0 1 (negsuc 0) k (omega arith) (omega arith) st.buffer.holds in
    let v0 = st.buffer.reads.zero_is in
    let v1 : h.0 1 ≡ pos e.current = st.buffer.reads.current_is in
    let same : e.current ≡ o.state.current = settled-current listed (kept start) o in
    let le : 1 ≤ o.state.current = omega (arith, ints) in
    Agrees-ok Final t _ (suffix_written (Some form) o.state >> made listed start o)
    (ap (λ (w : Result (List ℕ) Fault). w >> made listed start o) (suffix_written-line form o.state le)) (h.0, st))

pub finish-sound : (c : Command) (start : editor.State) (r : State) (f : Effect) → Follows c.listed start r f →
    Agrees Final (suffixed c.suffix (with_zone (ended r.marks r.zone) r)) (completed c start f)
finish-sound c start r (Makes o) h = finish-makes c.suffix c.listed start r o h
finish-sound c start r (Asks f) h = absurd h
