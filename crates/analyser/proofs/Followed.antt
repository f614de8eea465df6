-- Whether single lines are followed stays as it is through a rule.
use Rattle.std.proofs.Common.{◌≡◌, ℕ, Bool, List, IfOk}
use Rattle.ed_syntax.specs.Commands.{Command}
use Rattle.ed_syntax.specs.meaning.Verbs.{takes}
use Rattle.ed_rules.specs.declared.state.State.{State}
use Rattle.ed_rules.specs.Matched.{sought}
use Rattle.ed_rules.specs.Order.{join}
use Rattle.ed_rules.specs.Pieces.{mark_lost}
use Rattle.ed_rules.specs.Rules.{step}
use Rattle.ed_rules.proofs.through.Needs.{Any, all-any, some-any}
use Rattle.ed_rules.proofs.through.Effects.{pattern_of, path_of, Kept, effect-through}
use Rattle.ed_rules.proofs.through.Steps.{rule-through}

module _ (follows : Bool) where
  abbrev Follows : State → Type 0
  Follows s = s.follows ≡ follows

  keeps : (start : State) → Kept Follows Any Any (Unit {0}) start
  unfolding mark_lost join
  keeps start = record {
    at = record { zone = λ s zone _ h. h; given = λ s text _ h. h; facts = λ s facts h. h };
    named = λ s path _ h. h;
    filled = λ s path _ h. h;
    joins = λ one other h _. h;
    loses = λ letter s h. h;
    marks = λ letter s _ h. h;
    kinds = λ s kinds _ h. h;
    flag = λ s c _ h. h;
    changes = λ listed s h. h;
    may_change = λ listed s h. h;
    brings_back = λ old s is h. h;
    loads = λ _ s h. h;
  }

  pub follows-step : (watched : List (List ℕ)) (c : Command) (s : State) → s.follows ≡ follows → IfOk (step watched c s) Follows
  follows-step watched c s h =
      rule-through Follows Any (keeps s).at Follows watched c s (all-any (sought c)) h
      (λ u k. effect-through Follows Any Any (Unit {0}) s (keeps s) c.listed c.addresses c.verb u
      (some-any (pattern_of c.verb)) (some-any (path_of c.verb)) (λ _. tt) k)
