-- The certificate that follows from a start is valid, where no need fails.
use Rattle.std.proofs.Common.{◌≡◌, ◌+◌, ℕ, Bool, true, false, not, ◌||◌, List, [], ◌∷◌, length, Option, None, Some, is_none, refl, sym, ap, ◌∙◌, subst, eq-eqb, arith, cond}
use Rattle.std.specs.List.{All, list_all}
use Rattle.std.proofs.lemmas.List.Elements.{All-nil, All-cons, All-head, All-tail}
use Rattle.std.proofs.lemmas.Bool.{and_from}
use Rattle.ed_base.specs.declared.fault.Fault.TheVariants as fault
use Rattle.zones.specs.Known.{least, greatest}
use Rattle.ed_syntax.specs.Commands.{Step, Script}
use Rattle.ed_syntax.specs.meaning.Verbs.{is_global}
use Rattle.ed_rules.specs.declared.state.State.{State}
use Rattle.ed_rules.specs.States as states
use Rattle.ed_rules.specs.Formed.{IsCounted}
use Rattle.landmarks.specs.declared.landmark.Landmark.{Landmark}
use Rattle.landmarks.specs.ChainValues.{ChainValue}
use Rattle.cert_check.specs.declared.certificate.Version.{Version}
use Rattle.cert_check.specs.declared.sight.Sight.{Sight}
use Rattle.cert_check.specs.checker.Covering.{covers}
use Rattle.cert_check.specs.declared.checker.verdict.Verdict.TheVariants.{Accepted}
use Rattle.cert_check.specs.Certificates.{Looped, Note, Certificate}
use Rattle.cert_check.specs.checker.Beginning.{landmarks_of, chains_of, stated_chains, has_letters, letters_of_chains, began, start_of}
use Rattle.cert_check.specs.checker.Valid.{Check, at, seen_by, sight_of, told, verdict_of, counted, has_quit, left_after, is_listed, knows_least, knows_most, end_checks, checks_from, fits_list, are_shaped, judged, entry_of}
use Rattle.analyser.specs.declared.analysis.Start.{Start}
use Rattle.analyser.specs.Following.{IsKnownOfList, AreNotes, result_from, paths_from, do_count, version_by, version_of, chains_by, chains_of_start, sight_over, end_fault, knowing, begun}
use Rattle.analyser.specs.Analysis.{low_of, high_of, IsCertificate}
use Rattle.analyser.proofs.Checking.{Laws, covers-same, notes-hold}
use Rattle.analyser.proofs.Listing.{listed-each}
use Rattle.analyser.proofs.ToldBounds.{knows-low, knows-high}
use Rattle.analyser.proofs.Rounding.{inner-length}

-- CHECKS

abbrev Holds : Check → Type 0
Holds check = check.holds ≡ true

all-accepted : (checks : List Check) → All Holds checks → verdict_of checks ≡ Accepted
all-accepted [] h = refl
all-accepted (check ∷ later) h = let e : check.holds ≡ true = All-head Holds check later h in rw e (all-accepted later (All-tail Holds check later h))

holds-at : (b : Bool) (number : ℕ) (later : List Check) → b ≡ true → All Holds later → All Holds (at number b ∷ later)
holds-at b number later e rest = All-cons Holds (at number b) later e rest

-- THE SHAPE AND THE END

fits-known : (w : Sight) (global : Bool) (x : Step) (s : State) (l : Option Looped) → IsKnownOfList w global x s l → fits_list global x.list l ≡ true
fits-known w false x s None h = refl
fits-known w false x s (Some l) h = absurd h
fits-known w true x s None h = absurd h
fits-known w true x s (Some l) h = eq-eqb (length l.inner) (length x.list) (inner-length w x.list (entry_of w x l.invariant) l.inner h.1)

shaped : (w : Sight) (xs : List Step) (s : State) (ns : List Note) → AreNotes w xs s ns → are_shaped xs ns ≡ true
shaped w [] s [] h = refl
shaped w [] s (n ∷ ns) h = absurd h
shaped w (x ∷ xs) s [] h = absurd h
shaped w (x ∷ xs) s (n ∷ ns) h = and_from _ _ (fits-known w (is_global x.command.verb) x s n.looped h.0.list) (shaped w xs (left_after w n.looped x s) ns h.1)

readable : (quit : Bool) (bad : Option ℕ) (s : State) → end_fault quit bad s ≡ None → quit || is_none bad ≡ true
readable true bad s e = refl
readable false None s e = refl
readable false (Some line) s e = absurd cc

saved : (quit : Bool) (bad : Option ℕ) (s : State) → end_fault quit bad s ≡ None → quit || not s.changed.yes ≡ true
saved true bad s e = refl
saved false (Some line) s e = absurd cc
saved false None s e = (elim s.changed.yes as (λ b. cond b (Some fault.Unsaved) None ≡ None → not b ≡ true) [ true ↦ λ f. absurd cc | false ↦ λ f. refl ]) e

end-holds : Laws → (quit : Bool) (bad : Option ℕ) (c : Certificate) (number : ℕ) (s : State) → c.last ≡ s → end_fault quit bad s ≡ None →
    knows_least s.zone c.low ≡ true → knows_most s.zone c.high ≡ true → All Holds (end_checks quit bad c number s)
end-holds k quit bad c number s last e least most =
    let most_at : List Check = at number (knows_most c.last.zone c.high) ∷ [] in
    let least_at : List Check = at number (knows_least c.last.zone c.low) ∷ most_at in
    let saved_at : List Check = at number (quit || not c.last.changed.yes) ∷ least_at in
    holds-at (quit || is_none bad) number (at number (covers c.last s) ∷ saved_at) (readable quit bad s e)
    (holds-at (covers c.last s) number saved_at (covers-same k c.last s last)
    (holds-at (quit || not c.last.changed.yes) number least_at (subst (λ (t : State). quit || not t.changed.yes ≡ true) (sym last) (saved quit bad s e))
    (holds-at (knows_least c.last.zone c.low) number most_at (subst (λ (t : State). knows_least t.zone c.low ≡ true) (sym last) least)
    (holds-at (knows_most c.last.zone c.high) number [] (subst (λ (t : State). knows_most t.zone c.high ≡ true) (sym last) most) (All-nil Holds)))))

-- THE CERTIFICATE

-- what the checker judges by is what was asked for
sight-asked : (script : Script) (start : Start) (c : Certificate) → IsCertificate script start c → seen_by script c ≡ sight_over script start
sight-asked script start c is =
    ap (λ version. sight_of script version c.has) is.version ∙ ap (λ has. sight_of script (version_of script start) has) is.has

-- the chains that count are those that a certificate of the version states,
chains-stated : (counts : Bool) (has : Option (List (List ℕ))) (landmarks : Option (List ChainValue)) →
    stated_chains (version_by counts has) (chains_by counts landmarks) ≡ landmarks_of (chains_by counts landmarks)
chains-stated true has landmarks = refl
chains-stated false None landmarks = refl
chains-stated false (Some has) landmarks = refl

-- and the script leaves letters for them
chains-lettered : (script : Script) (landmarks : Option (List ChainValue)) →
    has_letters script (landmarks_of (chains_by (do_count script landmarks) landmarks)) ≡ true
unfolding do_count
chains-lettered script None = refl
chains-lettered script (Some chains) = by (has_letters script (landmarks_of chains)) refl
  where
    by : (counts : Bool) → has_letters script (landmarks_of chains) ≡ counts →
        has_letters script (landmarks_of (chains_by counts (Some chains))) ≡ true
    by true e = e
    by false e = refl

stated-so : (script : Script) (start : Start) (c : Certificate) → IsCertificate script start c →
    chains_of c ≡ landmarks_of (chains_of_start script start)
stated-so script start c is =
    ap (λ (v : Version). stated_chains v c.landmarks) is.version
    ∙ ap (λ (chains : List ChainValue). stated_chains (version_of script start) chains) is.landmarks
    ∙ chains-stated (do_count script start.landmarks) start.has start.landmarks

begins-as : (script : Script) (start : Start) (c : Certificate) → IsCertificate script start c →
    told (sight_over script start) (start_of script c) ≡ begun script start
unfolding knowing
begins-as script start c is =
    let v : Version = version_of script start in
    let chains : List (List Landmark) = landmarks_of (chains_of_start script start) in
    let from : State → State = λ (s : State). began v (letters_of_chains script chains) chains s in
    ap (λ (t : State). told (sight_over script start) t)
    (ap (λ (u : Version). began u (letters_of_chains script (chains_of c)) (chains_of c) (states.start c.path c.min c.max c.has)) is.version
    ∙ ap (λ (cs : List (List Landmark)). began v (letters_of_chains script cs) cs (states.start c.path c.min c.max c.has)) (stated-so script start c is)
    ∙ ap (λ path. from (states.start path c.min c.max c.has)) is.path
    ∙ ap (λ min. from (states.start start.path min c.max c.has)) is.min
    ∙ ap (λ max. from (states.start start.path start.min max c.has)) is.max
    ∙ ap (λ has. from (states.start start.path start.min start.max has)) is.has)

-- where it is known at the end that there are at least 0 lines
pub accepted : Laws → (script : Script) (start : Start) (c : Certificate) → IsCertificate script start c →
    IsCounted (result_from (sight_over script start) (counted script.steps) (begun script start) c.notes).zone → judged script c ≡ Accepted
accepted k script start c is counts =
    let w : Sight = sight_over script start in
    let xs : List Step = counted script.steps in
    let s : State = begun script start in
    let t : State = result_from w xs s c.notes in
    let quit : Bool = has_quit script.steps in
    let fewest : knows_least t.zone c.low ≡ true =
    subst (λ (n : ℕ). knows_least t.zone n ≡ true) (sym (is.low ∙ ap (λ (u : State). low_of (least u.zone 2 0)) is.last))
    (knows-low t counts) in
    let most : knows_most t.zone c.high ≡ true =
    subst (λ (n : Option ℕ). knows_most t.zone n ≡ true) (sym (is.high ∙ ap (λ (u : State). high_of (greatest u.zone 2 0)) is.last)) (knows-high t) in
    let paths : list_all (is_listed c.writes) (paths_from xs c.notes) ≡ true = listed-each c.writes (paths_from xs c.notes) (λ path h. (is.writes.just path).1 h) in
    let end : ℕ → State → List Check = end_checks quit script.fault c in
    let all : All Holds (checks_from w c.writes end 1 s xs c.notes) =
    notes-hold k w Holds (λ check e. e) c.writes end 1 s xs c.notes is.notes paths
    (end-holds k quit script.fault c (1 + length xs) t is.last (subst (λ (u : State). end_fault quit script.fault u ≡ None) is.last is.end) fewest most) in
    let begins : All Holds (checks_from w c.writes end 1 (told w (start_of script c)) xs c.notes) =
    subst (λ (u : State). All Holds (checks_from w c.writes end 1 u xs c.notes)) (sym (begins-as script start c is)) all in
    let seen : All Holds (checks_from (seen_by script c) c.writes end 1 (told (seen_by script c) (start_of script c)) xs c.notes) =
    subst (λ (v : Sight). All Holds (checks_from v c.writes end 1 (told v (start_of script c)) xs c.notes)) (sym (sight-asked script start c is)) begins in
    let later : List Check = checks_from (seen_by script c) c.writes end 1 (told (seen_by script c) (start_of script c)) xs c.notes in
    let lettered : has_letters script (chains_of c) ≡ true =
    ap (has_letters script) (stated-so script start c is) ∙ chains-lettered script start.landmarks in
    all-accepted (at 0 (are_shaped xs c.notes) ∷ at 0 (has_letters script (chains_of c)) ∷ later)
    (holds-at (are_shaped xs c.notes) 0 (at 0 (has_letters script (chains_of c)) ∷ later) (shaped w xs s c.notes is.notes)
    (holds-at (has_letters script (chains_of c)) 0 later lettered seen))
