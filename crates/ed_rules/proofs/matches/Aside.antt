-- A command's rule with what is known of matches and of single lines left aside. The whole rule meets the same faults, and differs in that
-- alone.
use Rattle.std.proofs.Common.{◌≡◌, ℕ, negsuc, true, false, List, Option, Some, None, Result, Ok, Err, refl, sym, ap, ◌∙◌}
use Rattle.ed_base.specs.declared.fault.Fault.{Fault}
use Rattle.ed_base.specs.declared.fault.Fault.TheVariants as fault
use Rattle.zones.specs.Known.{known}
use Rattle.ed_syntax.specs.Commands.{Addresses, Form, Command}
use Rattle.ed_syntax.specs.meaning.Verbs.{takes, given_or}
use Rattle.ed_syntax.specs.meaning.Values.{◌>>◌}
use Rattle.ed_syntax.specs.spelling.Readable.{enters_lines}
use Rattle.ed_rules.specs.declared.known_matches.Matches.{Matches}
use Rattle.ed_rules.specs.declared.state.State.{State}
use Rattle.ed_rules.specs.Pieces.{needing, with_zone, ended}
use Rattle.ed_rules.specs.facts.Facts.{Facts}
use Rattle.ed_rules.specs.Addresses.{addressed, standing, targeted}
use Rattle.ed_rules.specs.Matching.{saying, matches_after}
use Rattle.ed_rules.specs.FactsAfter.{facts_after}
use Rattle.ed_rules.specs.Rules.{taken, effect, suffixed, step_at, step, fault_of}

-- the phases of a command, what is known of matches and of single lines left aside
abbrev pub step_aside : Addresses → Command → State → Result State Fault
step_aside a c s =
    addressed a s >> λ t.
    targeted (takes c.verb).target t >> λ p.
    taken (takes c.verb).taking c.addresses a p >> λ u.
    effect c.listed c.addresses c.verb s u >> λ r.
    suffixed c.suffix (with_zone (ended r.marks r.zone) r)

-- the same fault, or the same state but for what is known of matches and of single lines
abbrev pub Beside : Result State Fault → Result State Fault → Type 0
Beside (Ok t) (Ok u) = (m : Matches) × (facts : Facts) × (u ≡ saying m facts t)
Beside (Err f) (Err g) = f ≡ g
Beside (Ok t) (Err g) = ⊥
Beside (Err f) (Ok u) = ⊥

beside-bind : {A : Type 0} (x : Result A Fault) (f g : A → Result State Fault) → ((a : A) → Beside (f a) (g a)) → Beside (x >> f) (x >> g)
beside-bind (Ok a) f g h = h a
beside-bind (Err e) f g h = refl

suffixed-beside : (suffix : Option Form) (t : State) (m : Matches) (facts : Facts) → Beside (suffixed suffix t) (suffixed suffix (saying m facts t))
suffixed-beside None t m facts = (m, facts, refl)
suffixed-beside (Some form) t m facts =
    elim (known t.zone 0 1 (negsuc 0)) as (λ b. Beside (needing b fault.Address t) (needing b fault.Address (saying m facts t))) [
      | true ↦ (m, facts, refl)
      | false ↦ refl
    ]

pub step_at-beside : (watched : List (List ℕ)) (a : Addresses) (c : Command) (s : State) → Beside (step_aside a c s) (step_at watched a c s)
step_at-beside watched a c s =
    beside-bind (addressed a s) _ _
    (λ t. beside-bind (targeted (takes c.verb).target t) _ _
    (λ p. beside-bind (taken (takes c.verb).taking c.addresses a p) _ _
    (λ u. beside-bind (effect c.listed c.addresses c.verb s u) _ _
    (λ r. suffixed-beside c.suffix (with_zone (ended r.marks r.zone) r)
    (matches_after watched c.listed c.addresses (takes c.verb).lines s u) (facts_after watched c.listed c.addresses c.verb u r)))))

-- so what is watched makes no difference to the needs

fault-beside : (x y : Result State Fault) → Beside x y → fault_of x ≡ fault_of y
fault-beside (Ok t) (Ok u) h = refl
fault-beside (Ok t) (Err g) h = absurd h
fault-beside (Err f) (Ok u) h = absurd h
fault-beside (Err f) (Err g) h = ap (λ (e : Fault). Some e) h

step-fault : (watched : List (List ℕ)) (c : Command) (s : State) →
    fault_of (needing (enters_lines c.verb) fault.Syntax s >> step_aside (given_or c.addresses (standing (takes c.verb).default)) c) ≡ fault_of (step watched c s)
step-fault watched c s =
    let a : Addresses = given_or c.addresses (standing (takes c.verb).default) in
    fault-beside (needing (enters_lines c.verb) fault.Syntax s >> step_aside a c) (step watched c s)
    (beside-bind (needing (enters_lines c.verb) fault.Syntax s) (step_aside a c) (step_at watched a c) (λ t. step_at-beside watched a c t))

pub needs-same : (one other : List (List ℕ)) (c : Command) (s : State) → fault_of (step one c s) ≡ fault_of (step other c s)
needs-same one other c s = sym (step-fault one c s) ∙ step-fault other c s
