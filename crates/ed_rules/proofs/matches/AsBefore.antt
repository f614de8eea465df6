-- Where nothing is known of matches and single lines aren't followed, searches need what they did before anything was told of them, and
-- so does `s`.
use Rattle.std.proofs.Common.{◌≡◌, ℕ, pos, negsuc, Bool, true, false, ◌&&◌, ◌||◌, List, [], ◌∷◌, None, Some, refl, ◌∙◌, ap}
use Rattle.std.specs.List.{list_all}
use Rattle.zones.specs.Known.{known}
use Rattle.ed_rules.specs.declared.state.State.{State}
use Rattle.ed_rules.specs.Choices.{Choice}
use Rattle.ed_rules.specs.Texts.{is_member}
use Rattle.ed_rules.specs.facts.FoundLines.{is_witnessed}
use Rattle.ed_rules.specs.Following.{is_followed}
use Rattle.ed_rules.specs.Addresses.{is_always, is_found}
use Rattle.ed_rules.specs.Substituting.{takes_first, matches_each, is_sure_to_match, matches_some, is_sure_of_some}
use Rattle.ed_rules.specs.facts.Facts.{tells}
use Rattle.ed_syntax.specs.declared.replacement.Which.{Which}

one-as_before : (s : State) (c : Choice) → s.matches.has ≡ [] → s.follows ≡ false → is_found s c ≡ (known s.zone 0 2 (negsuc 0) && is_always c)
one-as_before s None e f = elim (known s.zone 0 2 (negsuc 0)) as (λ k. false ≡ (k && false)) [ true ↦ refl | false ↦ refl ]
one-as_before s (Some text) e f =
    let always : Bool = known s.zone 0 2 (negsuc 0) && is_always (Some text) in
    ap (λ (has : List (List ℕ)). is_member has text || (is_followed s text || always)) e
    ∙ ap (λ (b : Bool). (b && is_witnessed s.facts text) || always) f

all-as_before : (s : State) (set : List Choice) → s.matches.has ≡ [] → s.follows ≡ false → list_all (is_found s) set ≡ list_all (λ c. known s.zone 0 2 (negsuc 0) && is_always c) set
all-as_before s [] e f = refl
all-as_before s (c ∷ set) e f = λ i. one-as_before s c e f i && all-as_before s set e f i

out-of : (k : Bool) (c : Choice) (set : List Choice) → list_all (λ d. k && is_always d) (c ∷ set) ≡ (k && list_all is_always (c ∷ set))
out-of true c set = refl
out-of false c set = refl

pub searches-as_before : (s : State) (c : Choice) (set : List Choice) → s.matches.has ≡ [] → s.follows ≡ false →
    list_all (is_found s) (c ∷ set) ≡ (known s.zone 0 2 (negsuc 0) && list_all is_always (c ∷ set))
searches-as_before s c set e f = all-as_before s (c ∷ set) e f ∙ out-of (known s.zone 0 2 (negsuc 0)) c set

-- SUBSTITUTIONS

or-false : (b : Bool) → (b || false) ≡ b
or-false true = refl
or-false false = refl

one-each : (s : State) (c : Choice) → s.follows ≡ false → matches_each s c ≡ is_always c
one-each s None f = refl
one-each s (Some text) f =
    ap (λ (b : Bool). is_always (Some text) || (b && (known s.zone 4 3 (pos 0) && tells s.zone s.facts 3 text true))) f
    ∙ or-false (is_always (Some text))

all-each : (s : State) (set : List Choice) → s.follows ≡ false → list_all (matches_each s) set ≡ list_all is_always set
all-each s [] f = refl
all-each s (c ∷ set) f = λ i. one-each s c f i && all-each s set f i

pub each-as_before : (s : State) (choice : Which) → s.follows ≡ false → is_sure_to_match s choice ≡ (list_all is_always s.patterns && takes_first choice)
each-as_before s choice f = ap (λ (b : Bool). b && takes_first choice) (all-each s s.patterns f)

pub some-as_before : (s : State) (choice : Which) → s.follows ≡ false → is_sure_of_some s choice ≡ false
some-as_before s choice f = ap (λ (b : Bool). b && (list_all (matches_some s) s.patterns && takes_first choice)) f
