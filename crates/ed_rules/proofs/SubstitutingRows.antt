-- Worked rows of what a substitution needs.
use Rattle.std.specs.Prelude.{◌≡◌, ℕ, refl, true, false, [], ◌∷◌, Some, None, Ok, Err, codes, List}
use Rattle.ed_base.specs.declared.fault.Fault.TheVariants as fault
use Rattle.ed_syntax.specs.declared.replacement.Part.TheVariants as part
use Rattle.ed_syntax.specs.declared.replacement.Which.TheVariants as which
use Rattle.ed_rules.specs.declared.state.Replacements.{Replacements}
use Rattle.ed_rules.specs.declared.state.State.{State}
use Rattle.ed_rules.specs.States.{no_replacement}
use Rattle.ed_rules.specs.Substituting.{kind_of, replacement_used, pattern_used, is_known_line, is_sure_to_match, substituted_if}
use Rattle.ed_rules.proofs.Worked.{Row, row}

substitutions : List Row
substitutions =
    -- a semicolon, and a split
    row (kind_of (part.Literal 59 ∷ []) ≡ record { none = false; plain = true; split = false }) refl  -- plain kind
    ∷ row (kind_of (part.Match ∷ part.Split ∷ []) ≡ record { none = false; plain = false; split = true }) refl  -- split kind
    -- `s/$/;/` and `s/x*/;/g` replace something in each line; `s/x/;/` and `s/x*/;/2` may not
    ∷ row ((s : State) → is_sure_to_match (record s { patterns = Some (codes "$") ∷ []; follows = false }) which.First ≡ true) (λ s. refl)  -- end of each line
    ∷ row ((s : State) → is_sure_to_match (record s { patterns = Some (codes "x*") ∷ []; follows = false }) which.All ≡ true) (λ s. refl)  -- repeat in each line
    ∷ row ((s : State) → is_sure_to_match (record s { patterns = Some (codes "x") ∷ []; follows = false }) which.First ≡ false) (λ s. refl)  -- letter in some lines
    ∷ row ((s : State) → is_sure_to_match (record s { patterns = Some (codes "x*") ∷ []; follows = false }) (which.Nth 0) ≡ true) (λ s. refl)  -- first by its number
    ∷ row ((s : State) → is_sure_to_match (record s { patterns = Some (codes "x*") ∷ []; follows = false }) (which.Nth 1) ≡ false) (λ s. refl)  -- second match in some lines
    ∷ row ((s : State) → is_sure_to_match (record s { patterns = Some (codes "$") ∷ Some (codes "x") ∷ []; follows = false }) which.First ≡ false) (λ s. refl)  -- one of two patterns
    -- where single lines aren't followed, nothing is known of them
    ∷ row ((s : State) (text : List ℕ) → is_known_line (record s { follows = false }) text ≡ false) (λ s text. refl)  -- no line is followed
    -- without a match only a list goes on
    ∷ row ((start s : State) → substituted_if false false false start s ≡ Err fault.NoMatch) (λ start s. refl)  -- no match
    -- `%` needs a replacement, in a list one without a split; an empty pattern needs a pattern
    ∷ row ((s : State) → replacement_used false None (record s { replacements = no_replacement }) ≡ Err fault.Replacement) (λ s. refl)  -- no replacement is remembered
    ∷ []

abbrev split_may_be_remembered : Replacements
split_may_be_remembered = record { none = false; plain = true; split = true }

splits : List Row
splits =
    row ((s : State) → replacement_used false None (record s { replacements = split_may_be_remembered }) ≡ Ok (record s { replacements = split_may_be_remembered })) (λ s. refl)  -- split is no fault
    ∷ row ((s : State) → replacement_used true None (record s { replacements = split_may_be_remembered }) ≡ Err fault.Replacement) (λ s. refl)  -- split in a list
    ∷ row ((s : State) → pattern_used None (record s { patterns = None ∷ Some (codes "x") ∷ [] }) ≡ Err fault.Pattern) (λ s. refl)  -- no pattern is remembered
    ∷ row ((s : State) → pattern_used (Some (codes "$")) s ≡ Ok (record s { patterns = Some (codes "$") ∷ [] })) (λ s. refl)  -- pattern becomes the only one
    ∷ []
