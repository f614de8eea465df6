-- A rule, phase by phase.
use Rattle.std.proofs.Common.{ℕ, negsuc, List, Option, None, Some, IfOk}
use Rattle.std.specs.Prelude.{All}
use Rattle.ed_base.specs.declared.fault.Fault.TheVariants as fault
use Rattle.zones.specs.Known.{known}
use Rattle.ed_syntax.specs.Commands.{Addresses, Form, Command}
use Rattle.ed_syntax.specs.meaning.Verbs.{takes, given_or}
use Rattle.ed_syntax.specs.spelling.Readable.{enters_lines}
use Rattle.ed_syntax.proofs.meaning.ResultLemmas.{IfOk-bind}
use Rattle.ed_rules.specs.declared.state.State.{State}
use Rattle.ed_rules.specs.Matched.{sought_by, sought_at_target, sought}
use Rattle.ed_rules.specs.Pieces.{with_zone, ended}
use Rattle.ed_rules.specs.Addresses.{addressed, standing, targeted}
use Rattle.ed_rules.specs.Matching.{saying, matches_after}
use Rattle.ed_rules.specs.FactsAfter.{facts_after}
use Rattle.ed_rules.specs.Rules.{taken, effect, suffixed, step_at, step}
use Rattle.ed_rules.proofs.through.Needs.{needed, IfOk-need_then, all-parts}
use Rattle.ed_rules.proofs.through.Addresses.{KeptAt, own-sought, addressed-through, targeted-through, taken-through}

-- a suffix says nothing of the state
pub suffixed-through : (P : State → Type 0) (suffix : Option Form) (t : State) → P t → IfOk (suffixed suffix t) P
suffixed-through P None t h = h
suffixed-through P (Some form) t h = needed P (known t.zone 0 1 (negsuc 0)) fault.Address t h

-- the addresses that are evaluated
abbrev pub own : Command → Addresses
own c = given_or c.addresses (standing (takes c.verb).default)

-- what holds from phase to phase, and so in the end what the effect leaves
module _ (P : State → Type 0) (Pattern : List ℕ → Type 0) (keeps : KeptAt P Pattern) where
  pub rule-through : (Q : State → Type 0) (watched : List (List ℕ)) (c : Command) (s : State) → All Pattern (sought c) → P s →
      ((u : State) → P u → IfOk (effect c.listed c.addresses c.verb s u)
      (λ r. Q (saying (matches_after watched c.listed c.addresses (takes c.verb).lines s u) (facts_after watched c.listed c.addresses c.verb u r)
      (with_zone (ended r.marks r.zone) r)))) →
      IfOk (step watched c s) Q
  rule-through Q watched c s g h does =
      let a : Addresses = given_or c.addresses (standing (takes c.verb).default) in
      let both = all-parts Pattern (sought_by c.addresses) (sought_at_target (takes c.verb).target) g in
      IfOk-need_then Q (enters_lines c.verb) fault.Syntax s (step_at watched a c)
      (λ _. IfOk-bind P Q (addressed a s) _ (addressed-through P Pattern keeps a s (own-sought Pattern c.addresses c.verb both.0) h)
      (λ t k. IfOk-bind P Q (targeted (takes c.verb).target t) _ (targeted-through P Pattern keeps (takes c.verb).target t both.1 k)
      (λ p m. IfOk-bind P Q (taken (takes c.verb).taking c.addresses a p) _
      (taken-through P Pattern keeps (takes c.verb).taking c.addresses a p m)
      (λ u n. IfOk-bind _ Q (effect c.listed c.addresses c.verb s u) _ (does u n)
      (λ r q. suffixed-through Q c.suffix
      (saying (matches_after watched c.listed c.addresses (takes c.verb).lines s u) (facts_after watched c.listed c.addresses c.verb u r)
      (with_zone (ended r.marks r.zone) r)) q)))))
