-- The rules of single lines: what a run that follows them knows of them after each command. They stand beside the rules of bounds and sets,
-- which leave this aside. What isn't said here is forgotten.
use Rattle.std.specs.Prelude.{ℕ, pos, negsuc, Bool, true, ◌&&◌, not, List, [], ◌∷◌, map, Option, Some, None, if◌then◌else◌}
use Rattle.std.specs.List.{filter, range_with_len}
use Rattle.zones.specs.Name.{current_line, last_line, first_address, second_address, target_address, mark}
use Rattle.zones.specs.Known.{known}
use Rattle.zones.specs.Steps.{after_guard}
use Rattle.ed_syntax.specs.Commands as ed
use Rattle.ed_syntax.specs.Commands.{Addresses, Verb}
use Rattle.ed_rules.specs.declared.matching.Certainty.{Certainty}
use Rattle.ed_rules.specs.declared.matching.Certainty.TheVariants.{Never, Maybe, Surely}
use Rattle.ed_rules.specs.declared.state.Old.{Old}
use Rattle.ed_rules.specs.declared.state.State.{State}
use Rattle.ed_rules.specs.States.{old_of}
use Rattle.ed_rules.specs.Choices.{texts_of}
use Rattle.ed_rules.specs.Marks.{is_sure}
use Rattle.ed_rules.specs.Texts.{with_texts}
use Rattle.ed_rules.specs.Matched.{gained}
use Rattle.ed_rules.specs.Order.{facts_of_both}
use Rattle.ed_rules.specs.Matching.{joining_given}
use Rattle.ed_rules.specs.Following.{patterns_of, facts_set, spoken_facts, only_pattern}
use Rattle.ed_rules.specs.facts.Facts.{Facts, no_facts}
use Rattle.ed_rules.specs.facts.FoundLines.{without}
use Rattle.ed_rules.specs.facts.PrunedFacts.{pruned}
use Rattle.ed_rules.specs.facts.CarriedFacts.{carried_facts}
use Rattle.ed_rules.specs.facts.SubstitutedFacts.{substituted_facts}
use Rattle.ed_rules.specs.facts.RewrittenLine.{matched_at, left_if}
use Rattle.ed_rules.specs.facts.EditedFacts.{Fresh, Edit, stays, edited, deletion, changing, joining, rewriting, appending, reading, copying, inserting}

-- THE END OF EACH RULE

-- the addresses are forgotten, and letters that aren't sure
abbrev pub facts_ended : (marks : List Bool) → Facts → Facts
facts_ended marks facts = spoken_facts marks (without target_address (without second_address (without first_address facts)))

-- ANOTHER LINE IS CURRENT, OR MARKED

-- x becomes the line y
abbrev pub facts_as : (x y : ℕ) → Old → Facts
facts_as x y b = facts_set true x y (pos 0) b.zone b.facts

-- the line that `i` without a text makes current is the one that it names, if it is known that there is one
abbrev pub facts_inserted : Old → Facts
facts_inserted b =
    if known b.zone first_address last_line (pos 0) then facts_as current_line first_address b else without current_line b.facts

-- LINES GIVE WAY TO OTHERS

-- the letter surely marks a line before and after, and its line isn't one of those that give way
abbrev pub stays_marked : Edit → Old → (after : List Bool) → (letter : ℕ) → Bool
stays_marked e b after letter = is_sure b.marks letter && (is_sure after letter && stays b.zone b.facts e (mark letter))

abbrev pub letters_that_stay : Edit → Old → (after : List Bool) → List ℕ
letters_that_stay e b after = filter (stays_marked e b after) (range_with_len 0 26)

-- The facts after an edit: of the letters that stay, the last line and the current one. The patterns are those of which facts speak, and
-- these, which new lines are tested against too. Of any other pattern it can be known only that no line is between two names.
unfoldable pub facts_edited : (tested : List (List ℕ)) → Edit → Old → (after : List Bool) → Facts
facts_edited tested e b after =
    edited b.zone b.facts e (map (λ (letter : ℕ). mark letter) (letters_that_stay e b after)) (with_texts tested (patterns_of b.facts))

-- `a`; without a text the addressed line is current. The watched patterns that no entered line matches say nothing new: to look for one of
-- them some other line has to match it.
abbrev pub facts_appended : (watched : List (List ℕ)) → (text : List (List ℕ)) → Old → (after : List Bool) → Facts
facts_appended watched [] b after = facts_as current_line first_address b
facts_appended watched (line ∷ more) b after = facts_edited (gained watched (line ∷ more)) (appending (line ∷ more)) b after

-- `i`
abbrev pub facts_put_before : (watched : List (List ℕ)) → (text : List (List ℕ)) → Old → (after : List Bool) → Facts
facts_put_before watched [] b after = facts_inserted b
facts_put_before watched (line ∷ more) b after = facts_edited (gained watched (line ∷ more)) (inserting (line ∷ more)) b after

-- `c`; without a text the lines are deleted
abbrev pub facts_changed : (watched : List (List ℕ)) → (text : List (List ℕ)) → Old → (after : List Bool) → Facts
facts_changed watched [] b after = facts_edited [] deletion b after
facts_changed watched (line ∷ more) b after = facts_edited (gained watched (line ∷ more)) (changing (line ∷ more)) b after

-- what is left where lines may be joined: what is known of two or more lines that are, and of one that isn't, each by bounds that say so
unfoldable pub facts_maybe_joined : Old → (after : List Bool) → Facts
facts_maybe_joined b after =
    facts_of_both after (facts_edited [] joining (record b { zone = after_guard b.zone first_address second_address (negsuc 0) }) after)
    (after_guard b.zone second_address first_address (pos 0)) b.facts

-- `j`, by whether lines are joined
abbrev pub facts_joined : Certainty → Old → (after : List Bool) → Facts
facts_joined Never b after = b.facts
facts_joined Surely b after = facts_edited [] joining b after
facts_joined Maybe b after = facts_maybe_joined b after

-- `m`: no line gives way, so each sure letter goes with its line
unfoldable pub facts_moved : Old → (after : List Bool) → Facts
facts_moved b after =
    carried_facts b.zone b.facts (map (λ (letter : ℕ). mark letter) (letters_that_stay reading b after)) (patterns_of b.facts)

-- Each addressed line stays, or gives way to one other: of those that surely stay all is still known. It is true too where no line is changed,
-- as may be in a list. What comes of a line is looked at for no pattern.
unfoldable pub facts_spared : Old → (r : State) → Facts
facts_spared b r =
    substituted_facts b.zone b.facts (texts_of r.patterns) [] (map (λ (letter : ℕ). mark letter) (letters_that_stay reading b r.marks))
    (patterns_of b.facts)

-- What is known of the line that `s` makes of the addressed one. The possible patterns of the state that it makes are those that it may have
-- looked for.
abbrev pub line_left : Old → (r : State) → Fresh
line_left b r = left_if (only_pattern r.patterns) (matched_at b.zone b.facts first_address (patterns_of b.facts))

-- where the line may be split, not even how many lines come of it
abbrev pub lines_left : Old → (r : State) → Option (List Fresh)
lines_left b r = if r.replacements.split then None else Some (line_left b r ∷ [])

-- `s` of one line
abbrev pub facts_rewritten : Old → (r : State) → Facts
facts_rewritten b r = facts_edited [] (rewriting (lines_left b r)) b r.marks

-- `s`, by the state that it makes. Outside of lists it goes on only where something is replaced, and of one addressed line that is this line.
-- Elsewhere nothing is known where lines may be split.
abbrev pub facts_substituted : (listed : Bool) → Old → (r : State) → Facts
facts_substituted listed b r =
    if not listed && known b.zone second_address first_address (pos 0) then facts_rewritten b r
    else if r.replacements.split then no_facts
    else facts_spared b r

-- EACH COMMAND

-- what a command leaves of what is known of the buffer with its lines taken; `r` is the state that it makes
abbrev pub facts_left : (watched : List (List ℕ)) → (listed : Bool) → (given : Addresses) → Verb → Old → (r : State) → Facts
facts_left watched listed given (ed.Append text) b r = facts_appended watched text b r.marks
facts_left watched listed given (ed.Insert text) b r = facts_put_before watched text b r.marks
facts_left watched listed given (ed.Change text) b r = facts_changed watched text b r.marks
facts_left watched listed given ed.Delete b r = facts_edited [] deletion b r.marks
facts_left watched listed given ed.Join b r = facts_joined (joining_given given b.zone) b r.marks
facts_left watched listed given (ed.Mark letter) b r = facts_as (mark letter) first_address b
facts_left watched listed given (ed.Write form) b r = facts_as current_line second_address b
facts_left watched listed given ed.Null b r = facts_as current_line first_address b
facts_left watched listed given ed.LineNumber b r = b.facts
facts_left watched listed given ed.Help b r = b.facts
facts_left watched listed given ed.HelpMode b r = b.facts
facts_left watched listed given ed.PromptMode b r = b.facts
facts_left watched listed given (ed.WriteFile path) b r = b.facts
facts_left watched listed given (ed.FileName path) b r = b.facts
facts_left watched listed given ed.Quit b r = b.facts
facts_left watched listed given ed.QuitAnyway b r = b.facts
facts_left watched listed given (ed.Global which pattern) b r = b.facts
facts_left watched listed given (ed.Substitute pattern replacement choice form) b r = facts_substituted listed b r
facts_left watched listed given (ed.Move to) b r = facts_moved b r.marks
facts_left watched listed given (ed.Copy to) b r = facts_edited [] (copying b.zone b.facts) b r.marks
facts_left watched listed given (ed.ReadFile path) b r = facts_edited [] reading b r.marks
facts_left watched listed given ed.Undo b r = r.facts
facts_left watched listed given _ b r = no_facts

-- What is known of single lines after a command, by the state `s` with its lines taken and the state `r` that the command makes; if they
-- aren't followed, nothing. What the zone of `r` or another fact says is left out.
abbrev pub facts_after : (watched : List (List ℕ)) → (listed : Bool) → (given : Addresses) → Verb → (s r : State) → Facts
facts_after watched listed given verb s r =
    if s.follows then pruned r.zone (facts_ended r.marks (facts_left watched listed given verb (old_of s) r)) else no_facts
