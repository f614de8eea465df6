-- The rules of what some line matches: which patterns are known to be matched after each command, of the lines that are there and of
-- those that undo would bring back. They stand beside the rules of bounds and sets, which leave this aside.
use Rattle.std.specs.Prelude.{ℕ, Bool, true, false, List, [], ◌∷◌, Option, Some, None, pos, negsuc, if◌then◌else◌}
use Rattle.zones.specs.Name.{first_address, second_address}
use Rattle.zones.specs.Zone.{Bounds}
use Rattle.zones.specs.Known.{known}
use Rattle.ed_syntax.specs.Commands.{Addresses, Without, One, Comma, Semicolon}
use Rattle.ed_syntax.specs.meaning.Verbs.{Alteration, Enters, Replaces, Deletes, Joins, Carries, Rewrites, Reads, Loads, BringsBack}
use Rattle.ed_rules.specs.declared.matching.Certainty.{Certainty}
use Rattle.ed_rules.specs.declared.matching.Certainty.TheVariants.{Never, Maybe, Surely}
use Rattle.ed_rules.specs.declared.known_matches.Matches.{Matches}
use Rattle.ed_rules.specs.declared.state.Old.{Old}
use Rattle.ed_rules.specs.declared.state.State.{State}
use Rattle.ed_rules.specs.Texts.{with_texts}
use Rattle.ed_rules.specs.Matched.{gained}
use Rattle.ed_rules.specs.facts.Facts.{Facts}
use Rattle.ed_rules.specs.KnownMatches.{no_matches, exchanged, old_has_of_both, matches_of_both}

abbrev pub entering : (text : List (List ℕ)) → Certainty
entering [] = Never
entering (line ∷ text) = Surely

-- `j` of two addresses
abbrev pub joining : Bounds → Certainty
joining zone =
    if known zone second_address first_address (pos 0) then Never
    else if known zone first_address second_address (negsuc 0) then Surely
    else Maybe

-- with one address nothing is joined
abbrev pub joining_given : (given : Addresses) → Bounds → Certainty
joining_given Without zone = joining zone
joining_given (One a) zone = Never
joining_given (Comma a b) zone = joining zone
joining_given (Semicolon a b) zone = joining zone

-- Outside lists: there `s` is vouched for only where it surely matches. Of `u`, `e` and `E` nothing is said.
abbrev pub how_surely : (given : Addresses) → Alteration → Bounds → Certainty
how_surely given (Enters text) zone = entering text
how_surely given (Replaces text) zone = Surely
how_surely given Deletes zone = Surely
how_surely given Joins zone = joining_given given zone
how_surely given Carries zone = Surely
how_surely given Rewrites zone = Surely
how_surely given Reads zone = Maybe
how_surely given _ zone = Never

-- patterns stay known where the lines that match them surely do
abbrev pub kept_unless : Certainty → List (List ℕ) → List (List ℕ)
kept_unless Never has = has
kept_unless _ has = []

-- by what undo may find: the lines as they are, earlier ones, or either
abbrev pub matches_by_undo : (same : Bool) → (was : Option Old) → Matches → Matches
matches_by_undo same None m = m
matches_by_undo true (Some old) m = matches_of_both (Some old) (Some old) m (exchanged m)
matches_by_undo false (Some old) m = exchanged m

-- what some line matches after a command that does this to the lines, by the state `s` with its lines taken; of `u`, `e` and `E` see below
abbrev pub matched_after : (watched : List (List ℕ)) → (given : Addresses) → Alteration → (s : State) → List (List ℕ)
matched_after watched given (Enters text) s = with_texts (gained watched text) s.matches.has
matched_after watched given (Replaces text) s = gained watched text
matched_after watched given Deletes s = []
matched_after watched given Joins s = kept_unless (joining_given given s.zone) s.matches.has
matched_after watched given Rewrites s = []
matched_after watched given _ s = s.matches.has

-- what a line of those that undo would bring back matches, where the command began in the state `start`
abbrev pub old_matched_by : Certainty → (start s : State) → List (List ℕ)
old_matched_by Never start s = s.matches.old_has
old_matched_by Maybe start s = old_has_of_both s.undo.was (Some start.zone) s.matches.old_has start.matches.has
old_matched_by Surely start s = start.matches.has

-- in a list undo stays as it is
abbrev pub old_matched_unless : (listed : Bool) → Certainty → (start s : State) → List (List ℕ)
old_matched_unless true altered start s = s.matches.old_has
old_matched_unless false altered start s = old_matched_by altered start s

-- what is known of matches after a command that does this to the lines and began in the state `start`, by the state `s` with its lines taken
abbrev pub matches_after : (watched : List (List ℕ)) → (listed : Bool) → (given : Addresses) → Alteration → (start s : State) → Matches
matches_after watched listed given Loads start s = no_matches
matches_after watched listed given BringsBack start s = matches_by_undo s.undo.same s.undo.was s.matches
matches_after watched listed given lines start s = record {
  has = matched_after watched given lines s;
  old_has = old_matched_unless listed (how_surely given lines s.zone) start s;
}

-- a state that says this of matches and of single lines, and of all else the same
abbrev pub saying : Matches → Facts → State → State
saying m facts s = record s { matches = m; facts = facts }
