-- Each rule leaves, of the patterns that some line is known to match, those that were known before, or that it may gain.
use Rattle.std.proofs.Common.{◌≡◌, ℕ, true, List, [], Ok, Err, Result, IfOk, refl}
use Rattle.ed_base.specs.declared.fault.Fault.{Fault}
use Rattle.ed_syntax.specs.Commands.{Verb, Command}
use Rattle.ed_rules.specs.declared.state.State.{State}
use Rattle.ed_rules.specs.Texts.{is_member, are_members}
use Rattle.ed_rules.specs.Order.{join, widen}
use Rattle.ed_rules.specs.Rules.{step}
use Rattle.ed_rules.specs.Globals.{line_taken, taken_matches, facts_taken, body_entry}
use Rattle.ed_rules.proofs.Texting.{filter-passes, with_texts-passes}
use Rattle.ed_rules.proofs.matches.Sayings.{OfSets, Says, says-step, says-join, says-widen, says-entry}
use Rattle.cert_check.specs.declared.certificate.Version.{Version}
use Rattle.cert_check.specs.declared.certificate.Version.TheVariants as version
use Rattle.cert_check.specs.declared.sight.Sight.{Sight}
use Rattle.cert_check.specs.checker.Valid.{told_by, told, left_by}

abbrev pub IsOf : (texts set : List (List ℕ)) → Type 0
IsOf texts set = are_members set texts ≡ true

-- what a state says of matches is of these patterns
abbrev pub Among : (texts : List (List ℕ)) → State → Type 0
Among texts s = Says (IsOf texts) s

module _ (texts : List (List ℕ)) where
  sets : OfSets (IsOf texts)
  sets = record {
    none = refl;
    some = λ keep set h. filter-passes (is_member texts) keep set h;
    more = λ new set g h. with_texts-passes (is_member texts) new set g h;
  }

  pub among-join : (one other : State) → Among texts one → Among texts other → Among texts (join one other)
  among-join one other h k = says-join (IsOf texts) sets one other h k

  pub among-widen : (one other : State) → Among texts one → Among texts other → Among texts (widen one other)
  among-widen one other h k = says-widen (IsOf texts) sets one other h k

  pub among-entry : (verb : Verb) (invariant : State) → are_members (taken_matches verb []) texts ≡ true → Among texts invariant → Among texts (body_entry verb invariant)
  among-entry verb invariant g h = says-entry (IsOf texts) sets verb invariant (line_taken invariant.zone) (facts_taken verb invariant) g h

  -- AS FAR AS IT IS TOLD

  among-told_by : (v : Version) (s : State) → Among texts s → Among texts (told_by v s)
  among-told_by version.One s h = (refl, refl)
  among-told_by version.Two s h = h
  among-told_by version.Three s h = h

  pub among-told : (w : Sight) (s : State) → Among texts s → Among texts (told w s)
  among-told w s h = among-told_by w.version s h

  left-among : (w : Sight) (s : State) (r : Result State Fault) → Among texts s → IfOk r (Among texts) → Among texts (told w (elim r as (λ _. State) [ Ok t ↦ t | Err f ↦ s ]))
  left-among w s (Ok t) h k = among-told w t k
  left-among w s (Err f) h k = among-told w s h

  pub among-left_by : (w : Sight) (c : Command) (s : State) → are_members w.watch texts ≡ true → Among texts s → Among texts (left_by w c s)
  unfolding left_by
  among-left_by w c s g h = left-among w s (step w.watch c s) h (says-step (IsOf texts) sets w.watch c s g h)
