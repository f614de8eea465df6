-- What holds through what a command does: where it is kept with another zone, other kinds, flag and undo, and of two states holds of
-- their join.
use Rattle.std.proofs.Common.{◌≡◌, ◌≢◌, ◌<◌, ◌≤◌, ◌||◌, ◌&&◌, ℕ, zero, suc, ℤ, pos, negsuc, Bool, true}
use Rattle.std.proofs.Common.{false, List, [], ◌∷◌, get_or-set_other, length, Option, None, Some, Result, IfOk, refl, ◌∙◌}
use Rattle.std.proofs.Common.{arith}
use Rattle.std.specs.Prelude.{nat_lt, not, IfSome}
use Rattle.std.specs.List.{list_any}
use Rattle.std.proofs.lemmas.Bool.{and_parts, ltb-true, cond_both}
use Rattle.ed_base.specs.declared.fault.Fault.{Fault}
use Rattle.ed_base.specs.declared.fault.Fault.TheVariants as fault
use Rattle.zones.specs.Name.{mark}
use Rattle.zones.specs.Zone.{Bounds}
use Rattle.zones.specs.Known.{known}
use Rattle.zones.specs.Steps.{after_guard, after_set, after_shift}
use Rattle.ed_syntax.specs.declared.replacement.Part.{Part}
use Rattle.ed_syntax.specs.declared.replacement.Which.{Which}
use Rattle.ed_syntax.specs.Commands as ed
use Rattle.ed_syntax.specs.Commands.{Addresses, Without, One, Comma, Semicolon, Verb}
use Rattle.ed_syntax.specs.meaning.Verbs as lines
use Rattle.ed_syntax.specs.meaning.Verbs.{Alteration, takes}
use Rattle.ed_syntax.proofs.meaning.ResultLemmas.{IfOk-bind}
use Rattle.ed_rules.specs.declared.state.Old.{Old}
use Rattle.ed_rules.specs.declared.state.Changed.{Changed}
use Rattle.ed_rules.specs.declared.state.Replacements.{Replacements}
use Rattle.ed_rules.specs.declared.state.State.{State}
use Rattle.ed_rules.specs.Marks.{is_sure, for_each_sure}
use Rattle.ed_rules.specs.StandsFor.{ends_line}
use Rattle.ed_rules.specs.Order.{join}
use Rattle.ed_rules.specs.Pieces.{with_zone, modified, inserted, is_told_apart, moved_beside, mark_moved, mark_lost, mark_replaced, replaced}
use Rattle.ed_rules.specs.Lines.{text_after, appended, put_before, joined, joined_given, marked, current_at, copied_lines}
use Rattle.ed_rules.specs.Move.{is_target_told_apart, moved_zone}
use Rattle.ed_rules.specs.Substituting.{possible_kinds, replacement_used, pattern_used, is_left_alone, mark_kept, mark_substituted, marks_substituted, substituted}
use Rattle.ed_rules.specs.Substituting.{surely_substituted, partly_substituted, substituted_if}
use Rattle.ed_rules.specs.Files.{named, filled, named_first, named_anew, maybe_modified, lines_read, changed_by_lines, changed_by_write}
use Rattle.ed_rules.specs.Files.{loaded, saved, edited}
use Rattle.ed_rules.specs.Undoing.{brought_back, undone_by}
use Rattle.ed_rules.specs.Rules.{effect}
use Rattle.ed_rules.proofs.sound.Finishing.{for_each_sure-by}
use Rattle.ed_rules.proofs.formed.Forming.{IsChange, IsKind}
use Rattle.ed_rules.proofs.formed.Speaking.{Speaks-shift}
use Rattle.ed_rules.proofs.formed.Naming.{is_spoken, letter-spoken}
use Rattle.ed_rules.proofs.formed.SpeakingPieces.{Inner, IsLow, Inner-guard, Inner-set, Inner-shift, Inner-forget, Inner-inserted}
use Rattle.ed_rules.proofs.formed.SpeakingPieces.{Inner-current_inserted, Inner-left_over, Inner-current_replaced, Inner-moved_up}
use Rattle.ed_rules.proofs.formed.SpeakingPieces.{Inner-moved_down, Inner-moved_either, Inner-current_substituted, Inner-current_within, Inner-current_read}
use Rattle.ed_rules.proofs.through.Needs.{needed, IfOk-needing}
use Rattle.ed_rules.proofs.through.Addresses.{KeptAt, possible-through}

-- the pattern that a command is given, and its path
abbrev pub pattern_of : Verb → Option (List ℕ)
pattern_of verb = (takes verb).pattern

abbrev pub path_of : Verb → Option (List ℕ)
path_of verb = (takes verb).path

-- a file's lines come in place of all
abbrev pub is_loading : Alteration → Bool
is_loading lines.Loads = true
is_loading _ = false

abbrev pub loads : Verb → Bool
loads verb = is_loading (takes verb).lines

-- it is kept by each piece of a rule of a command that began in the state `start`, where these patterns and paths may be given, and
-- where, as `Loads` says, a file's lines may come in place of all
pub record Kept (P : State → Type 0) (Pattern Path : List ℕ → Type 0) (Loads : Type 0) (start : State) : Type 0 where
  pub at : KeptAt P Pattern
  pub named : (s : State) (path : List ℕ) → Path path → P s → P (record s { names = Some path ∷ [] })
  pub filled : (s : State) (path : List ℕ) → Path path → P s → P (record s { names = filled path s.names })
  pub joins : (one other : State) → P one → P other → P (join one other)
  pub loses : (letter : ℕ) (s : State) → P s → P (mark_lost letter s)
  pub marks : (letter : ℕ) (s : State) → letter < 26 → P s → P (marked letter s)
  pub kinds : (s : State) (kinds : Replacements) → (IsKind s.replacements → IsKind kinds) → P s →
      P (record s { replacements = kinds })
  pub flag : (s : State) (c : Changed) → (IsChange s.changed → IsChange c) → P s → P (record s { changed = c })
  pub changes : (listed : Bool) (s : State) → P s → P (modified listed start s)
  pub may_change : (listed : Bool) (s : State) → P s → P (maybe_modified listed start s)
  pub brings_back : (old : Old) (s : State) → s.undo.was ≡ Some old → P s → P (brought_back old s)
  pub loads : Loads → (s : State) → P s → P (loaded s)

-- on the way through the letters: those from k on are as they were
record Marking (P : State → Type 0) (sure : List Bool) (k : ℕ) (s : State) : Type 0 where
  holds : P s
  later : (letter : ℕ) → k ≤ letter → is_sure s.marks letter ≡ is_sure sure letter

lost-later : (sure : List Bool) (k : ℕ) (s : State) →
    ((letter : ℕ) → k ≤ letter → is_sure s.marks letter ≡ is_sure sure letter) →
    (letter : ℕ) → suc k ≤ letter → is_sure (mark_lost k s).marks letter ≡ is_sure sure letter
unfolding mark_lost
lost-later sure k s h letter q =
    let ne : letter ≢ k = omega arith in get_or-set_other s.marks k letter false false ne ∙ h letter (omega arith)

one-kind : (b : Bool) → (false || not b || b) ≡ true
one-kind true = refl
one-kind false = refl

kinds-possible : (own : Option (List Part)) (kinds : Replacements) → IsKind kinds → IsKind (possible_kinds own kinds)
kinds-possible None kinds h = h
kinds-possible (Some parts) kinds h = one-kind (list_any ends_line parts)

flag-by_lines : (zone : Bounds) (c : Changed) → IsChange c → IsChange (changed_by_lines zone c)
unfolding changed_by_lines
flag-by_lines zone c h =
    cond_both (known zone 3 0 (pos 1) && known zone 2 4 (pos 0)) _ _ IsChange (λ _. refl)
    (λ _. cond_both (known zone 0 3 (negsuc 1) || known zone 4 2 (negsuc 0)) _ _ IsChange (λ _. h) (λ _. refl))

flag-by_write : (given : Addresses) (zone : Bounds) (c : Changed) → IsChange c → IsChange (changed_by_write given zone c)
flag-by_write Without zone c h = refl
flag-by_write (One a) zone c h = flag-by_lines zone c h
flag-by_write (Comma a b) zone c h = flag-by_lines zone c h
flag-by_write (Semicolon a b) zone c h = flag-by_lines zone c h

flag-written : (given : Addresses) (path : Option (List ℕ)) (s : State) → IsChange (named_first path s).changed →
    IsChange (changed_by_write given s.zone s.changed)
flag-written given None s h = flag-by_write given s.zone s.changed h
flag-written given (Some path) s h = flag-by_write given s.zone s.changed h

module _ (P : State → Type 0) (Pattern Path : List ℕ → Type 0) (Loads : Type 0) (start : State)
    (keeps : Kept P Pattern Path Loads start) where
  anew : (s : State) (zone : Bounds) → (Inner s.marks s.zone → Inner s.marks zone) → P s → P (with_zone zone s)
  anew s zone i q = keeps.at.zone s zone i q

  -- SURE LETTERS, ONE AFTER ANOTHER

  marking-same : (sure : List Bool) (k : ℕ) (s : State) → Marking P sure k s → Marking P sure (suc k) s
  marking-same sure k s h = record { holds = h.holds; later = λ letter l. h.later letter (omega arith) }

  -- the letter is one of which the zone may speak
  marking-shift : (sure : List Bool) (k : ℕ) (s : State) (low high : Option ℤ) → k < 26 → is_sure sure k ≡ true →
      Marking P sure k s → Marking P sure (suc k) (with_zone (after_shift s.zone (mark k) low high) s)
  marking-shift sure k s low high l e h = record {
    holds =
        anew s (after_shift s.zone (mark k) low high)
        (λ i. Speaks-shift (is_spoken s.marks) s.zone (mark k) low high
        (letter-spoken s.marks k l (h.later k (omega arith) ∙ e)) i) h.holds;
    later = λ letter q. h.later letter (omega arith);
  }

  marking-lost : (sure : List Bool) (k : ℕ) (s : State) → Marking P sure k s → Marking P sure (suc k) (mark_lost k s)
  marking-lost sure k s h = record { holds = keeps.loses k s h.holds; later = lost-later sure k s h.later }

  all-marked : (step : ℕ → State → State) (s : State) →
      ((k : ℕ) (t : State) → k < 26 → is_sure s.marks k ≡ true → Marking P s.marks k t →
      Marking P s.marks (suc k) (step k t)) → P s → P (for_each_sure step s.marks 26 s)
  all-marked step s each h =
      let all : Marking P s.marks 26 (for_each_sure step s.marks 26 s) =
      for_each_sure-by (λ k t. Marking P s.marks k t) step s.marks s (record { holds = h; later = λ letter l. refl })
      each (λ k t l e q. marking-same s.marks k t q) 26 (omega arith) in
      all.holds

  -- LINES IN PLACE OF OTHERS

  beside-marking : (n : ℕ) (sure : List Bool) (k : ℕ) (s : State) → k < 26 → is_sure sure k ≡ true → Marking P sure k s →
      Marking P sure (suc k) (with_zone (moved_beside n (mark k) s.zone) s)
  unfolding moved_beside
  beside-marking zero sure k s l e h = marking-shift sure k s (Some (negsuc 0)) (Some (pos 0)) l e h
  beside-marking (suc n) sure k s l e h = marking-shift sure k s (Some (pos 0)) (Some (pos n)) l e h

  replaced-marking : (before : Bounds) (n : ℕ) (sure : List Bool) (k : ℕ) (s : State) → k < 26 → is_sure sure k ≡ true →
      Marking P sure k s → Marking P sure (suc k) (mark_replaced before n k s)
  unfolding mark_replaced mark_moved
  replaced-marking before n sure k s l e h =
      cond_both (known s.zone (mark k) 3 (negsuc 0)) _ _ (Marking P sure (suc k)) (λ _. marking-same sure k s h)
      (λ _. cond_both (known s.zone 4 (mark k) (negsuc 0)) _ _ (Marking P sure (suc k)) (λ _. marking-shift sure k s _ _ l e h)
      (λ _. cond_both (is_told_apart before k s) _ _ (Marking P sure (suc k)) (λ _. beside-marking n sure k s l e h)
      (λ _. marking-lost sure k s h)))

  replaced-through : (n : ℕ) (s : State) → P s → P (replaced n s)
  unfolding replaced
  replaced-through n s q =
      let t : State = for_each_sure (mark_replaced s.zone n) s.marks 26 s in
      anew t _ (λ i. Inner-set t.marks _ 2 5 (pos n) refl refl
      (Inner-current_replaced t.marks n _ (Inner-left_over t.marks s.zone t.zone i)))
      (all-marked (mark_replaced s.zone n) s (replaced-marking s.zone n s.marks) q)

  changed-through : (listed : Bool) (n : ℕ) (s : State) → P s → P (modified listed start (replaced n s))
  changed-through listed n s q = keeps.changes listed (replaced n s) (replaced-through n s q)

  -- LINES

  text-through : (listed : Bool) (n : ℕ) (s : State) → P s → P (text_after listed start n s)
  text-through listed zero s q = q
  text-through listed (suc m) s q =
      keeps.changes listed _
      (anew s (inserted 3 (pos 0) (Some (pos (suc m))) (Some (pos (suc m))) s.marks s.zone)
      (λ i. Inner-inserted s.marks 3 (pos 0) _ _ s.zone i) q)

  appended-through : (listed : Bool) (n : ℕ) (s : State) → P s → P (appended listed start n s)
  appended-through listed n s q =
      let t : State = text_after listed start n s in
      anew t (after_set t.zone 1 3 (pos n)) (λ i. Inner-set t.marks t.zone 1 3 (pos n) refl refl i) (text-through listed n s q)

  put-through : (listed : Bool) (n : ℕ) (s : State) → P s → P (put_before listed start n s)
  put-through listed zero s q = anew s _ (λ i. Inner-current_inserted s.marks s.zone i) q
  put-through listed (suc m) s q =
      let zone : Bounds = inserted 3 (negsuc 0) (Some (pos (suc m))) (Some (pos (suc m))) s.marks s.zone in
      keeps.changes listed _
      (anew s (after_set zone 1 3 (pos m))
      (λ i. Inner-set s.marks zone 1 3 (pos m) refl refl (Inner-inserted s.marks 3 (negsuc 0) _ _ s.zone i)) q)

  joined-through : (listed : Bool) (s : State) → P s → P (joined listed start s)
  joined-through listed s q =
      let many : State = with_zone (after_guard s.zone 3 4 (negsuc 0)) s in
      cond_both (known s.zone 4 3 (pos 0)) _ _ P (λ _. q)
      (λ _. cond_both (known s.zone 3 4 (negsuc 0)) _ _ P (λ _. changed-through listed 1 s q)
      (λ _. keeps.joins (modified listed start (replaced 1 many)) (with_zone (after_guard s.zone 4 3 (pos 0)) s)
      (changed-through listed 1 many
      (anew s (after_guard s.zone 3 4 (negsuc 0)) (λ i. Inner-guard s.marks s.zone 3 4 (negsuc 0) refl refl i) q))
      (anew s (after_guard s.zone 4 3 (pos 0)) (λ i. Inner-guard s.marks s.zone 4 3 (pos 0) refl refl i) q)))

  given-through : (own : Addresses) (listed : Bool) (s : State) → P s → P (joined_given own listed start s)
  given-through Without listed s q = joined-through listed s q
  given-through (One a) listed s q = q
  given-through (Comma a b) listed s q = joined-through listed s q
  given-through (Semicolon a b) listed s q = joined-through listed s q

  current-through : (x : ℕ) (s : State) → IsLow x → P s → P (current_at x s)
  current-through x s hx q = anew s (after_set s.zone 1 x (pos 0)) (λ i. Inner-set s.marks s.zone 1 x (pos 0) refl hx i) q

  copied-through : (listed : Bool) (s : State) → P s → P (copied_lines listed start s)
  copied-through listed s q =
      keeps.changes listed _
      (anew s _
      (λ i. Inner-shift s.marks _ 1 _ _ refl
      (Inner-set s.marks _ 1 5 (pos 1) refl refl (Inner-inserted s.marks 5 (pos 0) _ _ s.zone i))) q)

  moved-zone : (apart : Bool) (marks : List Bool) (zone : Bounds) →
      IfOk (moved_zone apart marks zone) (λ after. Inner marks zone → Inner marks after)
  moved-zone apart marks zone =
      cond_both (known zone 5 3 (negsuc 0)) _ _ (λ (r : Result Bounds Fault). IfOk r (λ after. Inner marks zone → Inner marks after))
      (λ _ i. Inner-moved_up marks zone i)
      (λ _. cond_both (known zone 4 5 (negsuc 0)) _ _
      (λ (r : Result Bounds Fault). IfOk r (λ after. Inner marks zone → Inner marks after)) (λ _ i. Inner-moved_down marks zone i)
      (λ _. cond_both apart _ _ (λ (r : Result Bounds Fault). IfOk r (λ after. Inner marks zone → Inner marks after))
      (λ _ i. Inner-moved_either marks zone i) (λ _. tt)))

  -- SUBSTITUTION

  kept-marking : (splits : Bool) (sure : List Bool) (k : ℕ) (s : State) → k < 26 → is_sure sure k ≡ true →
      Marking P sure k s → Marking P sure (suc k) (mark_kept splits k s)
  kept-marking true sure k s l e h = marking-shift sure k s (Some (pos 0)) None l e h
  kept-marking false sure k s l e h = marking-same sure k s h

  substituted-marking : (before : Bounds) (splits : Bool) (sure : List Bool) (k : ℕ) (s : State) → k < 26 → is_sure sure k ≡ true →
      Marking P sure k s → Marking P sure (suc k) (mark_substituted before splits k s)
  unfolding mark_substituted
  substituted-marking before splits sure k s l e h =
      cond_both (known s.zone 4 (mark k) (negsuc 0)) _ _ (Marking P sure (suc k)) (λ _. kept-marking splits sure k s l e h)
      (λ _. cond_both (known s.zone (mark k) 3 (negsuc 0)) _ _ (Marking P sure (suc k)) (λ _. marking-same sure k s h)
      (λ _. cond_both (is_left_alone before k s) _ _ (Marking P sure (suc k)) (λ _. kept-marking splits sure k s l e h)
      (λ _. marking-lost sure k s h)))

  substituted_marks-through : (splits : Bool) (s : State) → P s → P (marks_substituted splits s)
  substituted_marks-through splits s q = all-marked (mark_substituted s.zone splits) s (substituted-marking s.zone splits s.marks) q

  surely-through : (listed : Bool) (s : State) → P s → P (surely_substituted listed start s)
  unfolding surely_substituted
  surely-through listed s q =
      let splits : Bool = s.replacements.split in
      let t : State = marks_substituted splits s in
      keeps.changes listed _
      (anew t _ (λ i. Inner-current_substituted splits t.marks s.zone t.zone i) (substituted_marks-through splits s q))

  partly-through : (listed : Bool) (s : State) → P s → P (partly_substituted listed start s)
  unfolding partly_substituted
  partly-through listed s q =
      let splits : Bool = s.replacements.split in
      let t : State = marks_substituted splits s in
      keeps.changes listed _
      (anew t _ (λ i. Inner-current_within splits t.marks t.zone i) (substituted_marks-through splits s q))

  substituted_if-through : (sure some listed : Bool) (s : State) → P s → IfOk (substituted_if sure some listed start s) P
  substituted_if-through true some listed s q = surely-through listed s q
  substituted_if-through false true listed s q = partly-through listed s q
  substituted_if-through false false true s q = keeps.joins s (partly_substituted true start s) q (partly-through true s q)
  substituted_if-through false false false s q = tt

  pattern-through : (pattern : Option (List ℕ)) (s : State) → IfSome pattern Pattern → P s → IfOk (pattern_used pattern s) P
  pattern-through pattern s g q =
      IfOk-bind (λ set. P (record s { patterns = set })) P _ _ (possible-through P Pattern keeps.at pattern s g q) (λ possible p. p)

  substituted-through : (listed : Bool) (pattern : Option (List ℕ)) (parts : Option (List Part)) (choice : Which) (s : State) →
      IfSome pattern Pattern → P s →
      IfOk (substituted listed pattern parts choice start s) P
  substituted-through listed pattern parts choice s g q =
      IfOk-bind P P _ _
      (IfOk-bind P P (replacement_used listed parts s) (pattern_used pattern)
      (needed P _ _ _ (keeps.kinds s (possible_kinds parts s.replacements) (λ k. kinds-possible parts s.replacements k) q))
      (λ t u. pattern-through pattern t g u))
      (λ t u. substituted_if-through _ _ listed t u)

  -- FILES

  named-through : (path : Option (List ℕ)) (s : State) → P s → IfOk (named path s) P
  named-through None s q = needed P _ _ s q
  named-through (Some path) s q = q

  first-through : (path : Option (List ℕ)) (s : State) → IfSome path Path → P s → P (named_first path s)
  first-through None s g q = q
  first-through (Some path) s g q = keeps.filled s path g q

  anew_named-through : (path : Option (List ℕ)) (s : State) → IfSome path Path → P s → P (named_anew path s)
  anew_named-through None s g q = q
  anew_named-through (Some path) s g q = keeps.named s path g q

  read-through : (s : State) → P s → P (lines_read s)
  read-through s q =
      let zone : Bounds = inserted 3 (pos 0) (Some (pos 0)) None s.marks s.zone in
      anew s _ (λ i. Inner-current_read s.marks s.zone zone (Inner-inserted s.marks 3 (pos 0) (Some (pos 0)) None s.zone i)) q

  loaded-through : Loads → (path : Option (List ℕ)) (s : State) → IfSome path Path → P s → P (named_anew path (loaded s))
  loaded-through may path s g q = anew_named-through path (loaded s) g (keeps.loads may s q)

  edited-through : Loads → (path : Option (List ℕ)) (s : State) → IfSome path Path → P s → IfOk (edited path s) P
  edited-through may path s g q =
      IfOk-bind P P (named path s) _ (named-through path s q)
      (λ t u. IfOk-bind P P (saved t) _ (needed P _ _ t u) (λ v w. loaded-through may path v g w))

  -- UNDO

  undone_by-through : (same : Bool) (was : Option Old) (s : State) → s.undo.was ≡ was → P s → P (undone_by same was s)
  undone_by-through same None s is q = q
  undone_by-through true (Some old) s is q = keeps.joins s (brought_back old s) q (keeps.brings_back old s is q)
  undone_by-through false (Some old) s is q = keeps.brings_back old s is q

  -- EACH COMMAND

  pub effect-through : (listed : Bool) (own : Addresses) (v : Verb) (s : State) → IfSome (pattern_of v) Pattern →
      IfSome (path_of v) Path → (loads v ≡ true → Loads) → P s →
      IfOk (effect listed own v start s) P
  effect-through listed own (ed.Append text) s g f may q = appended-through listed (length text) s q
  effect-through listed own (ed.Insert text) s g f may q = put-through listed (length text) s q
  effect-through listed own (ed.Change text) s g f may q = changed-through listed (length text) s q
  effect-through listed own ed.Delete s g f may q = changed-through listed 0 s q
  effect-through listed own ed.Join s g f may q = given-through own listed s q
  effect-through listed own (ed.Mark letter) s g f may q =
      IfOk-needing P (nat_lt letter 26 && known s.zone 3 2 (pos 0)) fault.Address (marked letter s)
      (λ e. keeps.marks letter s (ltb-true letter 26 (and_parts (nat_lt letter 26) (known s.zone 3 2 (pos 0)) e).0) q)
  effect-through listed own (ed.Write form) s g f may q = current-through 4 s refl q
  effect-through listed own ed.Null s g f may q = current-through 3 s refl q
  effect-through listed own (ed.Move to) s g f may q =
      IfOk-bind (λ zone. Inner s.marks s.zone → Inner s.marks zone) P (moved_zone (is_target_told_apart s) s.marks s.zone) _
      (moved-zone (is_target_told_apart s) s.marks s.zone)
      (λ zone i. keeps.changes listed (with_zone zone s) (anew s zone i q))
  effect-through listed own (ed.Copy to) s g f may q = copied-through listed s q
  effect-through listed own (ed.Substitute pattern parts choice form) s g f may q = substituted-through listed pattern parts choice s g q
  effect-through listed own (ed.ReadFile path) s g f may q =
      IfOk-bind P P (named path s) _ (named-through path s q)
      (λ t u. keeps.may_change listed (lines_read (named_first path t)) (read-through (named_first path t) (first-through path t f u)))
  effect-through listed own (ed.WriteFile path) s g f may q =
      IfOk-bind P P (named path s) _ (named-through path s q)
      (λ t u. keeps.flag (named_first path t) (changed_by_write own t.zone t.changed) (λ c. flag-written own path t c)
      (first-through path t f u))
  effect-through listed own (ed.Edit path) s g f may q = edited-through (may refl) path s f q
  effect-through listed own (ed.EditAnyway path) s g f may q =
      IfOk-bind P P (named path s) _ (named-through path s q) (λ t u. loaded-through (may refl) path t f u)
  effect-through listed own (ed.FileName path) s g f may q =
      IfOk-bind P P (named path s) _ (named-through path s q) (λ t u. anew_named-through path t f u)
  effect-through listed own (ed.Global sense pattern) s g f may q = pattern-through pattern s g q
  effect-through listed own ed.Undo s g f may q = needed P _ _ _ (undone_by-through s.undo.same s.undo.was s refl q)
  effect-through listed own ed.Quit s g f may q = needed P _ _ s q
  effect-through listed own _ s g f may q = q
