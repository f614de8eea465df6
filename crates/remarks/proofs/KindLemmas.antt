-- What each kind is told by: the cases of all kinds.
use Rattle.std.proofs.Common.{◌≡◌, ◌↔◌, ℕ, Bool, true, false, ◌&&◌, ◌||◌, List, [], ◌∷◌, Option, Some, None, get_or, refl, ap, sym, ◌∙◌}
use Rattle.std.proofs.Math.Bool.{or-false}
use Rattle.std.proofs.lemmas.Bool.{eq-eqb, ne_eqb, eqb-true, iff_false, false_from_ne_true, or_from}
use Rattle.std.specs.List.{list_any}
use Rattle.ed_syntax.specs.Commands.{Command, Step, Script}
use Rattle.remarks.specs.declared.slip.Slip.{Slip}
use Rattle.remarks.specs.declared.slip.Slip.TheVariants as slip
use Rattle.remarks.specs.declared.parts.Part.{Part}
use Rattle.remarks.specs.Patterns.{somewhere, pattern_shows}
use Rattle.remarks.specs.Parts.{parts_of}
use Rattle.remarks.specs.Ranges.{is_counted_from_current, is_backward}
use Rattle.remarks.specs.Steps.{inserts_at_first, may_leave_none, writes_nothing}
use Rattle.remarks.specs.Shown.{text_shows, patterns_of, range_shows, command_shows, step_shows, insert_shows, steps_show, whole_shows, is_open, is_unread}
use Rattle.remarks.specs.Told.{same, slip_number}

-- the kinds that a pattern shows
abbrev pub of_patterns : List Slip
of_patterns = slip.BracketOfBytes ∷ slip.DotOfBytes ∷ slip.Plus ∷ slip.QuestionMark ∷ slip.Bar ∷ slip.Parentheses ∷ slip.Braces ∷ []

-- what begins nowhere is nowhere
nowhere : (parts : List Part) → somewhere (λ rest. false) parts ≡ false
nowhere [] = refl
nowhere (p ∷ parts) = nowhere parts

-- those of one kind among them
pub pattern_kinds : (kind : Slip) (high : Bool) (parts : List Part) →
    list_any (λ s. same kind s && pattern_shows s high parts) of_patterns ≡ pattern_shows kind high parts
pattern_kinds slip.BracketOfBytes high parts = or-false (pattern_shows slip.BracketOfBytes high parts)
pattern_kinds slip.DotOfBytes high parts = or-false (pattern_shows slip.DotOfBytes high parts)
pattern_kinds slip.Plus high parts = or-false (pattern_shows slip.Plus high parts)
pattern_kinds slip.QuestionMark high parts = or-false (pattern_shows slip.QuestionMark high parts)
pattern_kinds slip.Bar high parts = or-false (pattern_shows slip.Bar high parts)
pattern_kinds slip.Parentheses high parts = or-false (pattern_shows slip.Parentheses high parts)
pattern_kinds slip.Braces high parts = or-false (pattern_shows slip.Braces high parts)
pattern_kinds _ high parts = sym (nowhere parts)

pub range_kinds : (kind : Slip) (given listed : Bool) (c : Command) (t : Bool) → is_open kind ≡ false →
    ((same kind slip.BackwardRange && is_backward c)
    || ((same kind slip.CountedFromCurrentLine && is_counted_from_current c.addresses)
    || ((same kind slip.ListedRangeFromLineOne && listed) || ((same kind slip.RangeFromLineOne && given) || t))))
    ≡ (range_shows kind c || t)
range_kinds slip.RangeFromLineOne given listed c t e = absurd cc
range_kinds slip.ListedRangeFromLineOne given listed c t e = absurd cc
range_kinds _ given listed c t e = refl

pub insert_kinds : (kind : Slip) (emptied : Bool) (x : Step) →
    (same kind slip.InsertBeforeNoLine && (emptied && inserts_at_first x)) ≡ insert_shows emptied kind x
insert_kinds slip.InsertBeforeNoLine emptied x = refl
insert_kinds _ emptied x = refl

pub whole_kinds : (kind : Slip) (script : Script) → (same kind slip.NothingWritten && writes_nothing script) ≡ whole_shows kind script
whole_kinds slip.NothingWritten script = refl
whole_kinds _ script = refl

-- all kinds, by their numbers
kinds : List Slip
kinds =
    slip.BracketOfBytes ∷ slip.DotOfBytes ∷ slip.Plus ∷ slip.QuestionMark ∷ slip.Bar ∷ slip.Parentheses ∷ slip.Braces ∷ slip.RangeFromLineOne
    ∷ slip.ListedRangeFromLineOne ∷ slip.CountedFromCurrentLine ∷ slip.BackwardRange ∷ slip.InsertBeforeNoLine ∷ slip.NothingWritten ∷ slip.CutLines
    ∷ slip.NormalDiff ∷ slip.UnifiedDiff ∷ slip.ForwardDiff ∷ []

kind_of-number : (kind : Slip) → get_or kinds (slip_number kind) slip.CutLines ≡ kind
unfolding kinds
kind_of-number slip.CutLines = refl
kind_of-number _ = refl

-- no two kinds have the same number
same_number : (one other : Slip) → slip_number one ≡ slip_number other → one ≡ other
same_number one other e = sym (kind_of-number one) ∙ ap (λ n. get_or kinds n slip.CutLines) e ∙ kind_of-number other

-- a test that tells whether two kinds are equal compares their numbers
pub same_is : (b : Bool) (one other : Slip) → ((b ≡ true) ↔ (one ≡ other)) → b ≡ same one other
same_is true one other both = sym (eq-eqb (slip_number one) (slip_number other) (ap slip_number (both.0 refl)))
same_is false one other both = sym (ne_eqb (slip_number one) (slip_number other) (λ e. iff_false both refl (same_number one other e)))

-- kinds that are compared as the same are equal
pub same_gives : (one other : Slip) → same one other ≡ true → one ≡ other
same_gives one other e = same_number one other (eqb-true (slip_number one) (slip_number other) e)

-- a script without commands changes nothing
pub whole_none : (fault : Option ℕ) → writes_nothing (record { steps = []; fault = fault }) ≡ false
whole_none None = refl
whole_none (Some line) = refl

-- what is told of what can't be read is none of the other kinds
pub unread_other : (kind by : Slip) → is_unread kind ≡ false → is_unread by ≡ true → same kind by ≡ false
unread_other kind by read unread =
    false_from_ne_true (same kind by) (λ e. let both : true ≡ false = sym unread ∙ ap is_unread (sym (same_gives kind by e)) ∙ read in absurd cc)

-- what holds of none of the kinds of what can't be read
never : (f : Slip → Bool) → f slip.CutLines ≡ false → f slip.NormalDiff ≡ false → f slip.UnifiedDiff ≡ false → f slip.ForwardDiff ≡ false →
    (kind : Slip) → is_unread kind ≡ true → f kind ≡ false
never f cut normal unified forward slip.CutLines e = cut
never f cut normal unified forward slip.NormalDiff e = normal
never f cut normal unified forward slip.UnifiedDiff e = unified
never f cut normal unified forward slip.ForwardDiff e = forward
never f cut normal unified forward _ e = absurd cc

-- such a kind is none for which a first address is looked at
pub unread_closed : (kind : Slip) → is_unread kind ≡ true → is_open kind ≡ false
unread_closed = never is_open refl refl refl refl

-- no pattern shows such a kind
texts_never : (high : Bool) (kind : Slip) (texts : List (Option (List ℕ))) → is_unread kind ≡ true → list_any (text_shows high kind) texts ≡ false
texts_never high kind [] e = refl
texts_never high kind (None ∷ texts) e = texts_never high kind texts e
texts_never high kind (Some text ∷ texts) e =
    let parts : List Part = parts_of text in
    or_from (pattern_shows kind high parts) _
    (never (λ k. pattern_shows k high parts) (nowhere parts) (nowhere parts) (nowhere parts) (nowhere parts) kind e)
    (texts_never high kind texts e)

command_never : (high : Bool) (kind : Slip) (c : Command) → is_unread kind ≡ true → command_shows high kind c ≡ false
command_never high kind c e =
    or_from (list_any (text_shows high kind) (patterns_of c)) (range_shows kind c) (texts_never high kind (patterns_of c) e)
    (never (λ k. range_shows k c) refl refl refl refl kind e)

list_never : (high : Bool) (kind : Slip) (cs : List Command) → is_unread kind ≡ true → list_any (command_shows high kind) cs ≡ false
list_never high kind [] e = refl
list_never high kind (c ∷ cs) e = or_from (command_shows high kind c) _ (command_never high kind c e) (list_never high kind cs e)

step_never : (high : Bool) (kind : Slip) (x : Step) → is_unread kind ≡ true → step_shows high kind x ≡ false
step_never high kind x e = or_from (command_shows high kind x.command) _ (command_never high kind x.command e) (list_never high kind x.list e)

-- no commands do
pub steps_never : (high emptied : Bool) (kind : Slip) (xs : List Step) → is_unread kind ≡ true → steps_show high emptied kind xs ≡ false
steps_never high emptied kind [] e = refl
steps_never high emptied kind (x ∷ xs) e =
    or_from (step_shows high kind x || insert_shows emptied kind x) _
    (or_from (step_shows high kind x) (insert_shows emptied kind x) (step_never high kind x e)
    (never (λ k. insert_shows emptied k x) refl refl refl refl kind e))
    (steps_never high (may_leave_none emptied x) kind xs e)

-- nor a script as a whole
pub whole_never : (kind : Slip) (script : Script) → is_unread kind ≡ true → whole_shows kind script ≡ false
whole_never kind script = never (λ k. whole_shows k script) refl refl refl refl kind
