-- What is vouched for has a text.
use Rattle.std.proofs.Common.{◌≡◌, ◌≤◌, ℕ, ℤ, pos, negsuc, Bool, true, false, cond, ◌&&◌, List, [], ◌∷◌, map, Option, None, Some, refl, sym, subst, arith}
use Rattle.std.specs.Prelude.{nat_lt, min, IfSome}
use Rattle.std.specs.List.{All}
use Rattle.std.specs.List.Sorted.{IsStrictlySortedBy}
use Rattle.std.specs.Ordering.{nat_cmp, is_lt}
use Rattle.std.specs.Cmp.Lexicographic.{slice_cmp}
use Rattle.std.specs.declared.cmp.Ordering.TheVariants.{Less}
use Rattle.std.proofs.lemmas.Bool.{le-leb, ltb-false, and_from}
use Rattle.std.proofs.lemmas.List.Elements.{All-nil, All-cons, All-head, All-tail}
use Rattle.zones.specs.Known.{least, greatest}
use Rattle.ed_syntax.specs.Commands.{Script}
use Rattle.ed_rules.specs.declared.known_matches.Matches.{Matches}
use Rattle.ed_rules.specs.declared.state.Old.{Old}
use Rattle.ed_rules.specs.declared.state.State.{State}
use Rattle.ed_rules.specs.Choices.{Choice}
use Rattle.ed_rules.specs.Texts.{are_rising}
use Rattle.ed_rules.specs.KnownMatches.{no_matches}
use Rattle.ed_rules.specs.Formed.{ChoiceIsBytes, TextsAreFormed, IsOfLines}
use Rattle.ed_rules.specs.facts.Facts.{LineFact, Stretch, Facts}
use Rattle.ed_rules.specs.LineBounds.{IsAtMost, is_few, is_limit, is_within}
use Rattle.cert_check.specs.declared.certificate.Version.{Version}
use Rattle.cert_check.specs.declared.certificate.Version.TheVariants as version
use Rattle.cert_check.specs.Certificates.{Looped, Note, Certificate}
use Rattle.landmarks.specs.ChainValues.{ChainValue}
use Rattle.cert_check.specs.text.HasText.{IsSaidIn, OldIsSaidIn, AreSaidIn, OldIsToldIn, does_follow, StateHasText, ChainHasText, ChainsHaveText, LoopedHasText, NoteHasText, HasText}
use Rattle.cert_check.specs.checker.InForm.{HaveBytes}
use Rattle.cert_check.specs.text.FactsText.{AreBytes, FactIsFormed, StretchIsFormed, FactsAreFormed}
use Rattle.analyser.specs.declared.analysis.Start.{Start}
use Rattle.analyser.specs.Following.{do_count, version_by, version_of, chains_by, stated_of}
use Rattle.analyser.specs.Analysis.{most_lines, low_of, high_of, IsCertificate}
use Rattle.analyser.specs.Walking.{OldIsBytes, StateIsBytes, LoopedIsBytes, NoteIsBytes, StepIsBytes}
use Rattle.analyser.proofs.InForm.{IsPlaced, IsSpanned, AreInForm, OldIsInForm}
use Rattle.analyser.proofs.Telling.{OldSaysNothing, Laws, MatchLaws, Holds, LoopedHolds, NoteHolds, script-holds}

-- BOUNDS AND PATHS

few : (n : ℕ) → n ≤ most_lines → is_few n ≡ true
few n h = le-leb n 1000000000000 h

limit : (max : Option ℕ) → IfSome max (λ most. most ≤ most_lines) → is_limit max ≡ true
limit None h = refl
limit (Some most) h = few most h

within : (n : ℕ) (max : Option ℕ) → IsAtMost n max → is_within n max ≡ true
within n None h = refl
within n (Some most) h = le-leb n most h

low-few : (b : Option ℤ) → is_few (low_of b) ≡ true
low-few None = refl
low-few (Some (pos n)) = few (min n most_lines) (omega arith)
low-few (Some (negsuc n)) = refl

high-limit : (b : Option ℤ) → is_limit (high_of b) ≡ true
high-limit None = refl
high-limit (Some (pos n)) =
    (elim (nat_lt most_lines n) as (λ r. nat_lt most_lines n ≡ r → is_limit (cond r None (Some n)) ≡ true) [ true ↦ λ e. refl | false ↦ λ e. few n (ltb-false most_lines n e) ]) refl
high-limit (Some (negsuc n)) = refl

rising : (paths : List (List ℕ)) → IsStrictlySortedBy (slice_cmp nat_cmp) paths → are_rising paths ≡ true
unfolding IsStrictlySortedBy
rising [] h = refl
rising (p ∷ []) h = refl
rising (p ∷ q ∷ paths) h =
    let less : slice_cmp nat_cmp p q ≡ Less = h.0.0 in
    and_from (is_lt (slice_cmp nat_cmp p q)) (are_rising (q ∷ paths)) (rw less refl) (rising (q ∷ paths) h.1)

-- WHAT IS SAID OF MATCHES

none-said : (was : Option Old) → AreSaidIn version.One was no_matches
none-said None = (refl, refl)
none-said (Some old) = (refl, refl)

old-said : (was : Option Old) (has : List (List ℕ)) → TextsAreFormed has → IsOfLines was has → OldIsSaidIn version.Two was has
old-said None has h lines = lines
old-said (Some old) has h lines = h

old-said_in_three : (was : Option Old) (has : List (List ℕ)) → TextsAreFormed has → IsOfLines was has → OldIsSaidIn version.Three was has
old-said_in_three None has h lines = lines
old-said_in_three (Some old) has h lines = h

old-untold_in_one : (was : Option Old) → OldSaysNothing was → OldIsToldIn version.One was
old-untold_in_one None h = tt
old-untold_in_one (Some old) h = h

old-untold_in_two : (was : Option Old) → OldSaysNothing was → OldIsToldIn version.Two was
old-untold_in_two None h = tt
old-untold_in_two (Some old) h = h

-- WHAT IS SAID OF SINGLE LINES

facts-formed : (marks : List Bool) (facts : Facts) → AreInForm marks facts → HaveBytes facts → FactsAreFormed marks facts
facts-formed marks facts h b = record {
  known = record { each = facts-each facts.lines h.each_line b.lines; rising = h.lines_rise };
  clear = record { each = clear-each facts.clear h.each_clear b.clear; rising = h.clear_rises };
}
  where
    facts-each : (fs : List LineFact) → All (IsPlaced marks) fs → All (λ (f : LineFact). AreBytes f.pattern) fs → All (FactIsFormed marks) fs
    facts-each [] h b = All-nil (FactIsFormed marks)
    facts-each (f ∷ fs) h b =
        All-cons (FactIsFormed marks) f fs
        (record { named = All-head (IsPlaced marks) f fs h; bytes = All-head (λ (g : LineFact). AreBytes g.pattern) f fs b })
        (facts-each fs (All-tail (IsPlaced marks) f fs h) (All-tail (λ (g : LineFact). AreBytes g.pattern) f fs b))

    clear-each : (ss : List Stretch) → All (IsSpanned marks) ss → All (λ (s : Stretch). AreBytes s.pattern) ss → All (StretchIsFormed marks) ss
    clear-each [] h b = All-nil (StretchIsFormed marks)
    clear-each (s ∷ ss) h b =
        let here = All-head (IsSpanned marks) s ss h in
        All-cons (StretchIsFormed marks) s ss
        (record { after = here.after; before = here.before; apart = here.apart; bytes = All-head (λ (t : Stretch). AreBytes t.pattern) s ss b })
        (clear-each ss (All-tail (IsSpanned marks) s ss h) (All-tail (λ (t : Stretch). AreBytes t.pattern) s ss b))

old-formed : (was : Option Old) → OldIsInForm was → OldIsBytes was → OldIsToldIn version.Three was
old-formed None h b = tt
old-formed (Some old) h b = facts-formed old.marks old.facts h b

-- from the third version on something is said of single lines
abbrev BytesIn : Version → State → Type 0
BytesIn v s = does_follow v ≡ true → StateIsBytes s

text-of_state : (v : Version) (s : State) → BytesIn v s → Holds v s → StateHasText v s
text-of_state version.One s b h = record {
  formed = h.formed.formed;
  matches = subst (λ (m : Matches). AreSaidIn version.One s.undo.was m) (sym h.says) (none-said s.undo.was);
  follows = h.lines.follows;
  facts = h.lines.facts;
  old_facts = old-untold_in_one s.undo.was h.lines.old_facts;
}
text-of_state version.Two s b h = record {
  formed = h.formed.formed;
  matches = (h.says.has, old-said s.undo.was s.matches.old_has h.says.old_has h.says.of_lines);
  follows = h.lines.follows;
  facts = h.lines.facts;
  old_facts = old-untold_in_two s.undo.was h.lines.old_facts;
}
text-of_state version.Three s b h = record {
  formed = h.formed.formed;
  matches = (h.says.has, old-said_in_three s.undo.was s.matches.old_has h.says.old_has h.says.of_lines);
  follows = h.lines.follows;
  facts = facts-formed s.marks s.facts h.lines.facts (b refl).0;
  old_facts = old-formed s.undo.was h.lines.old_facts (b refl).1;
}

texts-of_states : (v : Version) (ss : List State) → (does_follow v ≡ true → All StateIsBytes ss) → All (Holds v) ss →
    All (StateHasText v) ss
texts-of_states v [] b h = All-nil (StateHasText v)
texts-of_states v (s ∷ ss) b h =
    All-cons (StateHasText v) s ss (text-of_state v s (λ e. All-head StateIsBytes s ss (b e)) (All-head (Holds v) s ss h))
    (texts-of_states v ss (λ e. All-tail StateIsBytes s ss (b e)) (All-tail (Holds v) s ss h))

text-of_looped : (v : Version) (l : Option Looped) → (does_follow v ≡ true → LoopedIsBytes l) → LoopedHolds v l → LoopedHasText v l
text-of_looped v None b h = tt
text-of_looped v (Some l) b h = (text-of_state v l.invariant (λ e. (b e).0) h.0, texts-of_states v l.inner (λ e. (b e).1) h.1)

texts-of_notes : (v : Version) (ns : List Note) → (does_follow v ≡ true → All NoteIsBytes ns) → All (NoteHolds v) ns → All (NoteHasText v) ns
texts-of_notes v [] b h = All-nil (NoteHasText v)
texts-of_notes v (n ∷ ns) b h =
    let here = All-head (NoteHolds v) n ns h in
    let bytes : does_follow v ≡ true → NoteIsBytes n = λ e. All-head NoteIsBytes n ns (b e) in
    All-cons (NoteHasText v) n ns
    (text-of_state v n.state (λ e. (bytes e).0) here.0, text-of_looped v n.looped (λ e. (bytes e).1) here.1)
    (texts-of_notes v ns (λ e. All-tail NoteIsBytes n ns (b e)) (All-tail (NoteHolds v) n ns h))

-- THE START

stated-said : (counts : Bool) (has : Option (List (List ℕ))) → TextsAreFormed (stated_of has) → IsSaidIn (version_by counts has) (stated_of has)
stated-said true has h = h
stated-said false None h = refl
stated-said false (Some has) h = h

chains-said : (counts : Bool) (has : Option (List (List ℕ))) (landmarks : Option (List ChainValue)) →
    IfSome landmarks (λ chains. All ChainHasText chains) → ChainsHaveText (version_by counts has) (chains_by counts landmarks)
chains-said true has None h = All-nil ChainHasText
chains-said true has (Some chains) h = h
chains-said false None landmarks h = refl
chains-said false (Some has) landmarks h = refl

-- single lines are followed just where landmarks count
pub follows-counts : (counts : Bool) (has : Option (List (List ℕ))) → does_follow (version_by counts has) ≡ true → counts ≡ true
follows-counts true has e = refl
follows-counts false None e = e
follows-counts false (Some has) e = e

-- THE CERTIFICATE

pub has-text : Laws → MatchLaws → (script : Script) (start : Start) (c : Certificate) → All StepIsBytes script.steps → ChoiceIsBytes start.path → TextsAreFormed (stated_of start.has) →
    IfSome start.landmarks (λ chains. All ChainHasText chains) → All ChoiceIsBytes (map (λ path. Some path) c.writes) →
    (does_follow (version_of script start) ≡ true → All NoteIsBytes c.notes × StateIsBytes c.last) →
    IsAtMost start.min start.max → start.min ≤ most_lines → IfSome start.max (λ most. most ≤ most_lines) → IsCertificate script start c → HasText c
has-text k m script start c bytes path has chains paths facts ordered low high is =
    let v : Version = version_of script start in
    let known = script-holds k m script start c.notes bytes path has is.notes in
    let last : Holds v c.last =
    subst (λ (s : State). Holds v s) (sym is.last) (record {
      formed = known.1.ended.formed;
      says = known.1.says;
      lines = known.1.lines;
    }) in
    record {
      path = subst (λ (p : Choice). ChoiceIsBytes p) (sym is.path) path;
      start =
          subst (λ (n : ℕ). (is_few n && is_limit c.max && is_within n c.max) ≡ true) (sym is.min)
          (subst (λ (most : Option ℕ). (is_few start.min && is_limit most && is_within start.min most) ≡ true) (sym is.max)
          (and_from _ _ (and_from _ _ (few start.min low) (limit start.max high)) (within start.min start.max ordered)));
      has =
          subst (λ (u : Version). IsSaidIn u c.has) (sym is.version)
          (subst (λ (stated : List (List ℕ)). IsSaidIn v stated) (sym is.has)
          (stated-said (do_count script start.landmarks) start.has has));
      landmarks =
          subst (λ (u : Version). ChainsHaveText u c.landmarks) (sym is.version)
          (subst (λ (cs : List ChainValue). ChainsHaveText v cs) (sym is.landmarks)
          (chains-said (do_count script start.landmarks) start.has start.landmarks chains));
      notes =
          subst (λ (u : Version). All (NoteHasText u) c.notes) (sym is.version)
          (texts-of_notes v c.notes (λ e. (facts e).0) known.0);
      last = subst (λ (u : Version). StateHasText u c.last) (sym is.version) (text-of_state v c.last (λ e. (facts e).1) last);
      final =
          and_from (is_few c.low) (is_limit c.high) (subst (λ (n : ℕ). is_few n ≡ true) (sym is.low) (low-few (least c.last.zone 2 0)))
          (subst (λ (most : Option ℕ). is_limit most ≡ true) (sym is.high) (high-limit (greatest c.last.zone 2 0)));
      bytes = paths;
      rising = rising c.writes is.writes.rising;
    }
