-- Patterns that some line matches, and those that are watched for.
use Rattle.std.specs.Prelude.{◌≡◌, ℕ, Bool, true, List, [], ◌∷◌, ◌++◌, Option, Some, None, if◌then◌else◌}
use Rattle.std.specs.List.{list_all, list_any, filter, flat_map}
use Rattle.ed_base.specs.Buffer.{Line}
use Rattle.ed_syntax.specs.Commands as ed
use Rattle.ed_syntax.specs.Commands.{Base, Address, Addresses, Without, One, Comma, Semicolon, Command, Step, Script}
use Rattle.ed_syntax.specs.meaning.Verbs.{takes}
use Rattle.ed_syntax.specs.meaning.Values.{matches}
use Rattle.ed_rules.specs.Texts.{with_texts}

-- some line matches the pattern; a text that is no pattern is matched by none
abbrev pub is_matched : List Line → (pattern : List ℕ) → Bool
is_matched lines text = list_any (λ line. matches text line.bytes) lines

-- each of these patterns is matched by some line
abbrev pub AreMatched : (patterns : List (List ℕ)) → List Line → Type 0
AreMatched patterns lines = list_all (is_matched lines) patterns ≡ true

-- those of the patterns that one of these texts of lines matches
abbrev pub gained : (watched : List (List ℕ)) → (entered : List (List ℕ)) → List (List ℕ)
gained watched entered = filter (λ text. list_any (matches text) entered) watched

-- WHAT IS WATCHED

-- the pattern that a search is given
abbrev pub sought_at : Base → List (List ℕ)
sought_at (ed.Forward (Some text)) = text ∷ []
sought_at (ed.Backward (Some text)) = text ∷ []
sought_at _ = []

abbrev pub sought_by : Addresses → List (List ℕ)
sought_by Without = []
sought_by (One a) = sought_at a.base
sought_by (Comma a b) = sought_at a.base ++ sought_at b.base
sought_by (Semicolon a None) = sought_at a.base
sought_by (Semicolon a (Some b)) = sought_at a.base ++ sought_at b.base

abbrev pub sought_at_target : Option Address → List (List ℕ)
sought_at_target None = []
sought_at_target (Some a) = sought_at a.base

-- the patterns given in the searches of a command
abbrev pub sought : Command → List (List ℕ)
sought c = sought_by c.addresses ++ sought_at_target (takes c.verb).target

-- those of a step, its list included
abbrev pub sought_by_step : Step → List (List ℕ)
sought_by_step x = sought x.command ++ flat_map sought x.list

-- those of a script
abbrev pub sought_in : Script → List (List ℕ)
sought_in script = flat_map sought_by_step script.steps

-- the pattern that `s`, `g` or `v` is given
abbrev pub asked_for : Option (List ℕ) → List (List ℕ)
asked_for None = []
asked_for (Some text) = text ∷ []

-- The patterns that a command gives: those in its searches and, where single lines are followed, that of `s`, `g` or `v` too, which an entered
-- line may be known to match.
abbrev pub given_by : (follows : Bool) → Command → List (List ℕ)
given_by follows c = if follows then sought c ++ asked_for (takes c.verb).pattern else sought c

abbrev pub given_by_step : (follows : Bool) → Step → List (List ℕ)
given_by_step follows x = given_by follows x.command ++ flat_map (given_by follows) x.list

abbrev pub given_in : (follows : Bool) → Script → List (List ℕ)
given_in follows script = flat_map (given_by_step follows) script.steps

-- watched are the start's patterns and those that the script gives
abbrev pub watched : (follows : Bool) → Script → (has : List (List ℕ)) → List (List ℕ)
watched follows script has = with_texts (given_in follows script) has
