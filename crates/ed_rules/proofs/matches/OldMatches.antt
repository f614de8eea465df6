-- Where undo has no earlier lines, nothing is said of what they match.
use Rattle.std.proofs.Common.{◌≡◌, ◌≢◌, ℕ, pos, negsuc, Bool, true, false, not, cond, List, [], ◌∷◌, Option, None, Some, is_some}
use Rattle.std.proofs.Common.{IfOk, refl, ◌∙◌, sym, ap, subst}
use Rattle.std.proofs.lemmas.Result.{IfOk-weaker}
use Rattle.ed_base.specs.declared.fault.Fault.TheVariants as fault
use Rattle.zones.specs.Steps.{after_guard}
use Rattle.zones.specs.Known.{known}
use Rattle.ed_syntax.specs.Commands as ed
use Rattle.ed_syntax.specs.Commands.{Addresses, Without, One, Comma, Semicolon, Verb}
use Rattle.ed_syntax.specs.meaning.Values.{◌>>◌}
use Rattle.ed_syntax.specs.meaning.Verbs as verbs
use Rattle.ed_syntax.specs.meaning.Verbs.{Alteration, takes}
use Rattle.ed_syntax.proofs.meaning.ResultLemmas.{IfOk-after}
use Rattle.ed_rules.specs.declared.matching.Certainty.{Certainty}
use Rattle.ed_rules.specs.declared.matching.Certainty.TheVariants.{Never, Maybe, Surely}
use Rattle.ed_rules.specs.declared.state.Old.{Old}
use Rattle.ed_rules.specs.declared.state.State.{State}
use Rattle.ed_rules.specs.Formed.{IsOfLines}
use Rattle.ed_rules.specs.States.{old_of}
use Rattle.ed_rules.specs.KnownMatches.{old_has_of_both}
use Rattle.ed_rules.specs.Order.{old_of_both, join}
use Rattle.ed_rules.specs.Pieces.{with_zone, mark_lost, replaced, modified}
use Rattle.ed_rules.specs.Lines.{joined, joined_given}
use Rattle.ed_rules.specs.Move.{is_target_told_apart, moved_zone}
use Rattle.ed_rules.specs.Substituting.{replacement_used, pattern_used, is_sure_to_match, is_sure_of_some, surely_substituted, partly_substituted, substituted_if}
use Rattle.ed_rules.specs.Files.{named, named_first, maybe_modified}
use Rattle.ed_rules.specs.Undoing.{present_of, undone_by}
use Rattle.ed_rules.specs.Matching.{joining, joining_given, how_surely, matches_by_undo, old_matched_by, old_matched_unless, matches_after}
use Rattle.ed_rules.specs.Rules.{effect}
use Rattle.ed_rules.proofs.through.Needs.{needed, anyway, Any, some-any}
use Rattle.ed_rules.proofs.through.Addresses.{Property, Of, beside}
use Rattle.ed_rules.proofs.through.Effects.{Kept, is_loading, loads, pattern_of, path_of, effect-through}

-- TWO SIDES

pub both-of_lines : (one other : Option Old) (has old_has : List (List ℕ)) → IsOfLines one has → IsOfLines other old_has → IsOfLines (old_of_both one other) (old_has_of_both one other has old_has)
both-of_lines None other has old_has h k = k
both-of_lines (Some one) None has old_has h k = tt
both-of_lines (Some one) (Some other) has old_has h k = tt

none-other : (one other : Option Old) → old_of_both one other ≡ None → other ≡ None
none-other None other h = h
none-other (Some one) None h = refl
none-other (Some one) (Some other) h = absurd cc

some-one : (one : Old) (other : Option Old) → is_some (old_of_both (Some one) other) ≡ true
some-one one None = refl
some-one one (Some other) = refl

some-other : (one : Option Old) (other : Old) → is_some (old_of_both one (Some other)) ≡ true
some-other None other = refl
some-other (Some one) other = refl

-- of lines that are there anything may be said
of-some : (was : Option Old) (old_has : List (List ℕ)) → is_some was ≡ true → IsOfLines was old_has
of-some None old_has h = absurd cc
of-some (Some old) old_has h = tt

of-none : (was before : Option Old) (old_has : List (List ℕ)) → (was ≡ None → before ≡ None) → IsOfLines before old_has → IsOfLines was old_has
of-none None before old_has h k = let none : before ≡ None = h refl in subst (λ (w : Option Old). IsOfLines w old_has) none k
of-none (Some old) before old_has h k = tt

-- WHAT UNDO HAS AFTER A COMMAND

-- only a file's lines in place of all leave undo without the earlier lines that it had
abbrev Lasts : State → Property
Lasts s _ _ undo _ = undo.was ≡ None → s.undo.was ≡ None

module _ (s start t : State) (h : Of (Lasts s) t) where
  lasts-changed : (listed : Bool) → Of (Lasts s) (modified listed start t)
  lasts-changed true = h
  lasts-changed false = λ e. absurd cc

  lasts-maybe : (listed : Bool) → Of (Lasts s) (maybe_modified listed start t)
  lasts-maybe true = h
  lasts-maybe false = λ e. let none = none-other t.undo.was (Some (old_of start)) e in absurd cc

lasts : (start s : State) → Kept (Of (Lasts s)) Any Any ⊥ start
unfolding join mark_lost
lasts start s = record {
  at = beside (Lasts s) Any (λ t text _ h. h);
  named = λ t path _ h. h;
  filled = λ t path _ h. h;
  joins = λ one other h k e. k (none-other one.undo.was other.undo.was e);
  loses = λ letter t h. h;
  marks = λ letter t _ h. h;
  kinds = λ t kinds _ h. h;
  flag = λ t c _ h. h;
  changes = λ listed t h. lasts-changed s start t h listed;
  may_change = λ listed t h. lasts-maybe s start t h listed;
  brings_back = λ old t is h e. absurd cc;
  loads = λ never t h. absurd never;
}

-- WHERE A COMMAND MAY CHANGE LINES

-- `s` outside lists
surely-some : (sure some : Bool) (start t : State) → IfOk (substituted_if sure some false start t) (λ r. is_some r.undo.was ≡ true)
unfolding surely_substituted partly_substituted
surely-some true some start t = refl
surely-some false true start t = refl
surely-some false false start t = tt

module _ (given : Addresses) (start s : State) where
  -- `j` outside lists
  joined-some : joining s.zone ≢ Never → is_some (joined false start s).undo.was ≡ true
  unfolding join
  joined-some =
      elim (known s.zone 4 3 (pos 0)) as
      (λ b. cond b Never (cond (known s.zone 3 4 (negsuc 0)) Surely Maybe) ≢ Never →
      is_some (cond b s (cond (known s.zone 3 4 (negsuc 0)) (modified false start (replaced 1 s))
      (join (modified false start (replaced 1 (with_zone (after_guard s.zone 3 4 (negsuc 0)) s)))
      (with_zone (after_guard s.zone 4 3 (pos 0)) s)))).undo.was ≡ true) [
        | true ↦ λ h. absurd (h refl)
        | false ↦ λ h.
            elim (known s.zone 3 4 (negsuc 0)) as (λ b. is_some (cond b (modified false start (replaced 1 s))
            (join (modified false start (replaced 1 (with_zone (after_guard s.zone 3 4 (negsuc 0)) s)))
            (with_zone (after_guard s.zone 4 3 (pos 0)) s))).undo.was ≡ true) [
              | true ↦ refl
              | false ↦ some-one (old_of start) s.undo.was
            ]
      ]

  given-some : (own : Addresses) → joining_given own s.zone ≢ Never → is_some (joined_given own false start s).undo.was ≡ true
  given-some Without h = joined-some h
  given-some (One a) h = absurd (h refl)
  given-some (Comma a b) h = joined-some h
  given-some (Semicolon a b) h = joined-some h

  -- outside lists undo then has earlier lines
  altered-some : (verb : Verb) → how_surely given (takes verb).lines s.zone ≢ Never →
      IfOk (effect false given verb start s) (λ r. is_some r.undo.was ≡ true)
  altered-some (ed.Append []) h = absurd (h refl)
  altered-some (ed.Append (line ∷ text)) h = refl
  altered-some (ed.Insert []) h = absurd (h refl)
  altered-some (ed.Insert (line ∷ text)) h = refl
  altered-some (ed.Change text) h = refl
  altered-some ed.Delete h = refl
  altered-some ed.Join h = given-some given h
  altered-some (ed.Move to) h =
      IfOk-after (λ (r : State). is_some r.undo.was ≡ true) (moved_zone (is_target_told_apart s) s.marks s.zone) _ (λ zone. refl)
  altered-some (ed.Copy to) h = refl
  altered-some (ed.Substitute pattern replacement choice form) h =
      IfOk-after (λ (r : State). is_some r.undo.was ≡ true) (replacement_used false replacement s >> pattern_used pattern) _
      (λ t. surely-some (is_sure_to_match t choice) (is_sure_of_some t choice) start t)
  altered-some (ed.ReadFile path) h =
      IfOk-after (λ (r : State). is_some r.undo.was ≡ true) (named path s) _
      (λ t. some-other (named_first path t).undo.was (old_of start))
  altered-some _ h = absurd (h refl)

-- BY WHAT A COMMAND DOES TO THE LINES

-- `u`
undone_by-of_lines : (same : Bool) (was : Option Old) (s : State) → s.undo.was ≡ was → IsOfLines s.undo.was s.matches.old_has →
    IsOfLines (undone_by same was s).undo.was (matches_by_undo same was s.matches).old_has
unfolding join
undone_by-of_lines same None s is h = h
undone_by-of_lines true (Some old) s is h =
    of-some (old_of_both s.undo.was (Some (present_of s))) (matches_by_undo true (Some old) s.matches).old_has
    (some-other s.undo.was (present_of s))
undone_by-of_lines false (Some old) s is h = tt

-- nothing is said of what was there before another file
none-said : (was : Option Old) → IsOfLines was []
none-said None = refl
none-said (Some old) = tt

module _ (watched : List (List ℕ)) (given : Addresses) (start s : State) (old : IsOfLines s.undo.was s.matches.old_has) where
  -- in a list, and where nothing is altered
  lasting : (listed : Bool) (verb : Verb) → loads verb ≡ false →
      IfOk (effect listed given verb start s) (λ r. IsOfLines r.undo.was s.matches.old_has)
  lasting listed verb h =
      IfOk-weaker (effect listed given verb start s) (Of (Lasts s)) (λ r. IsOfLines r.undo.was s.matches.old_has)
      (λ r k. of-none r.undo.was s.undo.was s.matches.old_has k old)
      (effect-through (Of (Lasts s)) Any Any ⊥ start (lasts start s) listed given verb s (some-any (pattern_of verb))
      (some-any (path_of verb)) (λ e. let never = sym h ∙ e in absurd cc) (λ e. e))

  altered-of_lines : (verb : Verb) → how_surely given (takes verb).lines s.zone ≢ Never → (old_has : List (List ℕ)) →
      IfOk (effect false given verb start s) (λ r. IsOfLines r.undo.was old_has)
  altered-of_lines verb h old_has =
      IfOk-weaker (effect false given verb start s) (λ r. is_some r.undo.was ≡ true) (λ r. IsOfLines r.undo.was old_has)
      (λ r k. of-some r.undo.was old_has k) (altered-some given start s verb h)

  certainly : (listed : Bool) (verb : Verb) (altered : Certainty) → how_surely given (takes verb).lines s.zone ≡ altered →
      loads verb ≡ false → IfOk (effect listed given verb start s) (λ r. IsOfLines r.undo.was (old_matched_unless listed altered start s))
  certainly true verb altered is keeps = lasting true verb keeps
  certainly false verb Never is keeps = lasting false verb keeps
  certainly false verb Maybe is keeps =
      altered-of_lines verb (λ (e : how_surely given (takes verb).lines s.zone ≡ Never). let both = sym is ∙ e in absurd cc)
      (old_matched_by Maybe start s)
  certainly false verb Surely is keeps =
      altered-of_lines verb (λ (e : how_surely given (takes verb).lines s.zone ≡ Never). let both = sym is ∙ e in absurd cc) start.matches.has

  by_lines : (listed : Bool) (verb : Verb) (lines : Alteration) → (takes verb).lines ≡ lines → lines ≢ verbs.BringsBack →
      IfOk (effect listed given verb start s) (λ r. IsOfLines r.undo.was (matches_after watched listed given lines start s).old_has)
  by_lines listed verb verbs.Loads is keeps = anyway _ (effect listed given verb start s) (λ r. none-said r.undo.was)
  by_lines listed verb verbs.BringsBack is keeps = absurd (keeps refl)
  by_lines listed verb lines is keeps =
      certainly listed verb (how_surely given lines s.zone) (ap (λ (a : Alteration). how_surely given a s.zone) is) (ap is_loading is)

  pub effect-of_lines : (listed : Bool) (verb : Verb) →
      IfOk (effect listed given verb start s) (λ r. IsOfLines r.undo.was (matches_after watched listed given (takes verb).lines start s).old_has)
  effect-of_lines listed ed.Undo =
      needed (λ (r : State). IsOfLines r.undo.was (matches_by_undo s.undo.same s.undo.was s.matches).old_has) (not s.undo.nothing) fault.Undo
      (undone_by s.undo.same s.undo.was s)
      (undone_by-of_lines s.undo.same s.undo.was s refl old)
  effect-of_lines listed verb = by_lines listed verb (takes verb).lines refl (λ e. absurd cc)
