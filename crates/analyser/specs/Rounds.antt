-- The rounds of a global command's list, up to the one that shows what is known at every turn.
use Rattle.std.specs.Prelude.{◌≡◌, ℕ, zero, suc, ◌<◌, nat_lt, Bool, true, false, not, ◌&&◌, ◌||◌, List, [], ◌∷◌, Some, if◌then◌else◌}
use Rattle.ed_base.specs.declared.fault.Fault.{Fault}
use Rattle.ed_syntax.specs.Commands.{Command, Step}
use Rattle.ed_rules.specs.declared.state.State.{State}
use Rattle.ed_rules.specs.Order.{join, widen}
use Rattle.ed_rules.specs.Rules.{step, fault_of}
use Rattle.cert_check.specs.declared.sight.Sight.{Sight}
use Rattle.cert_check.specs.checker.Covering.{covers}
use Rattle.cert_check.specs.checker.Valid.{are_met, left_by, runs_once, entry_of}

-- A LIST, from the state on that comes in

-- the needs of all its commands hold
abbrev pub all_met : Sight → List Command → (coming : State) → Bool
all_met w [] s = true
all_met w (c ∷ cs) s = are_met c s && all_met w cs (left_by w c s)

-- the result of its last command
abbrev pub left_by_list : Sight → List Command → (coming : State) → State
left_by_list w [] s = s
left_by_list w (c ∷ cs) s = left_by_list w cs (left_by w c s)

-- What is known before each of its commands, where all needs hold: the first state is the one that comes in, each later one the
-- result of the command before it.
abbrev pub AreInner : Sight → List Command → (coming : State) → List State → Type 0
AreInner w [] s [] = Unit {0}
AreInner w [] s (t ∷ ts) = ⊥
AreInner w (c ∷ cs) s [] = ⊥
AreInner w (c ∷ cs) s (t ∷ ts) = (t ≡ s) × (are_met c s ≡ true) × AreInner w cs (left_by w c s) ts

-- the same up to the first command with a need that fails, by this fault; that is the command of the last state
abbrev pub InnerFail : Sight → Fault → List Command → (coming : State) → List State → Type 0
InnerFail w why [] s ts = ⊥
InnerFail w why (c ∷ cs) s [] = ⊥
InnerFail w why (c ∷ cs) s (t ∷ []) = (t ≡ s) × (fault_of (step [] c s) ≡ Some why)
InnerFail w why (c ∷ cs) s (t ∷ u ∷ ts) = (t ≡ s) × (are_met c s ≡ true) × InnerFail w why cs (left_by w c s) (u ∷ ts)

-- ROUNDS of a global command

-- what the list leaves, run once from an invariant on
abbrev pub turned : Sight → Step → (invariant : State) → State
turned w x invariant = left_by_list w x.list (entry_of w x invariant)

-- The invariant of the next round, by how many rounds came before this one: the join of this one's invariant with what the list
-- leaves after the first two rounds, then their widening, so that the rounds end.
abbrev pub next_invariant : (before : ℕ) → (invariant left : State) → State
next_invariant n invariant left = if nat_lt n 2 then join invariant left else widen invariant left

-- the invariant of each round, by how many came before it; the first round has this one
abbrev pub round_invariant : Sight → Step → (first : State) → (before : ℕ) → State
round_invariant w x first zero = first
round_invariant w x first (suc n) = let invariant = round_invariant w x first n in next_invariant n invariant (turned w x invariant)

-- the round of an invariant is the last one: the list is run for one line alone, a need of it fails, or the invariant covers what it leaves
abbrev pub ends : Sight → Step → (invariant : State) → Bool
ends w x invariant = runs_once w x invariant || (not (all_met w x.list (entry_of w x invariant)) || covers invariant (turned w x invariant))

-- the invariant of the last round, the first one that ends
pub record IsSettled (w : Sight) (x : Step) (first invariant : State) : Type 0 where
  pub before : ℕ
  pub is : invariant ≡ round_invariant w x first before
  pub last : ends w x invariant ≡ true
  pub none_before : (n : ℕ) → n < before → ends w x (round_invariant w x first n) ≡ false
