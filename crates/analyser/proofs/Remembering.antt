-- Each rule leaves, of patterns and paths that may be remembered, those that might be before, or that its command gives.
use Rattle.std.proofs.Common.{◌≡◌, ℕ, true, List, [], ◌∷◌, ◌++◌, map, Option, None, Some, IfOk, refl}
use Rattle.std.specs.Prelude.{All, IfSome}
use Rattle.std.proofs.lemmas.Bool.{and_from, and_parts}
use Rattle.std.proofs.lemmas.List.Elements.{All-nil, All-cons}
use Rattle.ed_syntax.specs.Commands.{Verb, Command}
use Rattle.ed_rules.specs.declared.state.State.{State}
use Rattle.ed_rules.specs.Choices.{Choice, has_choice, are_choices}
use Rattle.ed_rules.specs.Matched.{sought}
use Rattle.ed_rules.specs.Order.{join, widen}
use Rattle.ed_rules.specs.Pieces.{mark_lost}
use Rattle.ed_rules.specs.Rules.{step}
use Rattle.ed_rules.proofs.through.Addresses.{Property, beside}
use Rattle.ed_rules.proofs.through.Effects.{pattern_of, path_of, Kept, effect-through}
use Rattle.ed_rules.proofs.through.Steps.{rule-through}
use Rattle.cert_check.specs.declared.certificate.Version.{Version}
use Rattle.cert_check.specs.declared.certificate.Version.TheVariants as version
use Rattle.cert_check.specs.declared.sight.Sight.{Sight}
use Rattle.cert_check.specs.checker.Valid.{told_by, told}
use Rattle.analyser.proofs.Sets.{append-all, are-union, are-filled}

-- WHAT A COMMAND GIVES

abbrev given : Option (List ℕ) → List Choice
given None = []
given (Some text) = Some text ∷ []

abbrev pub command_patterns : Command → List Choice
command_patterns c = map (λ text. Some text) (sought c) ++ given (pattern_of c.verb)

abbrev pub verb_paths : Verb → List Choice
verb_paths v = given (path_of v)

-- the patterns and the paths of a state are among these
abbrev pub Within : (patterns names : List Choice) → State → Type 0
Within patterns names s = (are_choices s.patterns patterns ≡ true) × (are_choices s.names names ≡ true)

abbrev Has : List Choice → List ℕ → Type 0
Has many text = has_choice many (Some text) ≡ true

given-has : (many : List Choice) (text : Option (List ℕ)) → are_choices (given text) many ≡ true → IfSome text (Has many)
given-has many None h = tt
given-has many (Some text) h = (and_parts (has_choice many (Some text)) true h).0

all-have : (many : List Choice) (texts : List (List ℕ)) → are_choices (map (λ text. Some text) texts) many ≡ true →
    All (Has many) texts
all-have many [] h = All-nil (Has many)
all-have many (text ∷ texts) h =
    let both = and_parts (has_choice many (Some text)) (are_choices (map (λ text. Some text) texts) many) h in
    All-cons (Has many) text texts both.0 (all-have many texts both.1)

has-only : (many : List Choice) (text : List ℕ) → Has many text → are_choices (Some text ∷ []) many ≡ true
has-only many text h = and_from (has_choice many (Some text)) true h refl

module _ (patterns names : List Choice) where
  pub within-join : (one other : State) → Within patterns names one → Within patterns names other → Within patterns names (join one other)
  unfolding join
  within-join one other h q = (are-union patterns one.patterns other.patterns h.0 q.0, are-union names one.names other.names h.1 q.1)

  pub within-widen : (one other : State) → Within patterns names one → Within patterns names other → Within patterns names (widen one other)
  unfolding widen
  within-widen one other h q = (are-union patterns one.patterns other.patterns h.0 q.0, are-union names one.names other.names h.1 q.1)

  abbrev These : Property
  These set paths _ _ = (are_choices set patterns ≡ true) × (are_choices paths names ≡ true)

  keeps : (start : State) → Kept (Within patterns names) (Has patterns) (Has names) (Unit {0}) start
  unfolding mark_lost
  keeps start = record {
    at = beside These (Has patterns) (λ s text g q. (has-only patterns text g, q.1));
    named = λ s path g q. (q.0, has-only names path g);
    filled = λ s path g q. (q.0, are-filled names path s.names g q.1);
    joins = within-join;
    loses = λ letter s q. q;
    marks = λ letter s _ q. q;
    kinds = λ s kinds _ q. q;
    flag = λ s c _ q. q;
    changes = λ listed s q. q;
    may_change = λ listed s q. q;
    brings_back = λ old s is q. q;
    loads = λ _ s q. q;
  }

  pub within-step : (watched : List (List ℕ)) (c : Command) (s : State) → are_choices (command_patterns c) patterns ≡ true → are_choices (verb_paths c.verb) names ≡ true → Within patterns names s →
      IfOk (step watched c s) (Within patterns names)
  within-step watched c s g f q =
      let both = append-all (has_choice patterns) (map (λ text. Some text) (sought c)) (given (pattern_of c.verb)) g in
      rule-through (Within patterns names) (Has patterns) (keeps s).at (Within patterns names) watched c s
      (all-have patterns (sought c) both.0) q
      (λ u k. effect-through (Within patterns names) (Has patterns) (Has names) (Unit {0}) s (keeps s) c.listed c.addresses c.verb u
      (given-has patterns (pattern_of c.verb) both.1) (given-has names (path_of c.verb) f) (λ _. tt) k)

-- as far as it is told
within-told_by : (patterns names : List Choice) (v : Version) (s : State) → Within patterns names s → Within patterns names (told_by v s)
within-told_by patterns names version.One s q = q
within-told_by patterns names version.Two s q = q
within-told_by patterns names version.Three s q = q

pub within-told : (patterns names : List Choice) (w : Sight) (s : State) → Within patterns names s → Within patterns names (told w s)
within-told patterns names w s q = within-told_by patterns names w.version s q
