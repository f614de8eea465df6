-- The test of covering and what it says, part by part.
use Rattle.std.proofs.Common.{◌≡◌, ◌<◌, ◌+◌, ℕ, Bool, true, false, List, get_or, Option, None, Some, arith, ◌∙◌, refl, sym, subst}
use Rattle.std.specs.List.{list_all, range_with_len}
use Rattle.std.proofs.lemmas.List.Elements.{All-from_get_or}
use Rattle.std.proofs.lemmas.List.FromFn.{length-range_with_len, get_or-range_with_len}
use Rattle.std.proofs.lemmas.List.Sums.{AllPass-from_list_all, list_all-from_AllPass}
use Rattle.std.proofs.lemmas.Bool.{and_from, and_parts}
use Rattle.zones.specs.Bound.{covers_bound}
use Rattle.zones.specs.Zone as zones
use Rattle.zones.specs.Zone.{Bounds}
use Rattle.zones.proofs.Order.{Covers-each, each-Covers}
use Rattle.ed_rules.specs.declared.state.Old.{Old}
use Rattle.ed_rules.specs.declared.state.State.{State}
use Rattle.ed_rules.specs.Marks.{AreAmong}
use Rattle.ed_rules.specs.KnownMatches.{CoversOldHas}
use Rattle.ed_rules.specs.Order.{Allows, CoversOld, Covers}
use Rattle.cert_check.specs.checker.Covering.{old_has_covers, zone_covers, allows, are_among, old_covers, covers}

-- a test of each number below n
counted : (n k : ℕ) → k < n → get_or (range_with_len 0 n) k 0 ≡ k
counted n k l = let z : 0 + k ≡ k = omega arith in get_or-range_with_len 0 n k 0 l ∙ z

pub each-below : (test : ℕ → Bool) (n : ℕ) → list_all test (range_with_len 0 n) ≡ true → (k : ℕ) → k < n → test k ≡ true
each-below test n h k l =
    let size = length-range_with_len 0 n in
    subst (λ (i : ℕ). test i ≡ true) (counted n k l) (AllPass-from_list_all test (range_with_len 0 n) h k 0 (omega arith))

pub below-each : (test : ℕ → Bool) (n : ℕ) → ((k : ℕ) → k < n → test k ≡ true) →
    list_all test (range_with_len 0 n) ≡ true
below-each test n h =
    let size = length-range_with_len 0 n in
    list_all-from_AllPass test (range_with_len 0 n)
    (All-from_get_or (λ (i : ℕ). test i ≡ true) (range_with_len 0 n) 0
    (λ k l. let m : k < n = omega arith in subst (λ (i : ℕ). test i ≡ true) (sym (counted n k m)) (h k m)))

allows-says : (weak strong : Bool) → allows weak strong ≡ true → Allows weak strong
allows-says weak true h e = h
allows-says weak false h e = cc

says-allows : (weak strong : Bool) → Allows weak strong → allows weak strong ≡ true
says-allows weak true h = h refl
says-allows weak false h = refl

zone-says : (weak strong : Bounds) → zone_covers weak strong ≡ true → zones.Covers weak strong
unfolding zone_covers
zone-says weak strong h =
    Covers-each weak strong (each-below (λ (k : ℕ). covers_bound (get_or weak k None) (get_or strong k None)) 1024 h)

pub says-zone : (weak strong : Bounds) → zones.Covers weak strong → zone_covers weak strong ≡ true
unfolding zone_covers
says-zone weak strong h =
    below-each (λ (k : ℕ). covers_bound (get_or weak k None) (get_or strong k None)) 1024 (each-Covers weak strong h)

among-says : (few many : List Bool) → are_among few many ≡ true → AreAmong few many
unfolding are_among
among-says few many h letter l =
    allows-says (get_or many letter false) (get_or few letter false)
    (each-below (λ (k : ℕ). allows (get_or many k false) (get_or few k false)) 26 h letter l)

says-among : (few many : List Bool) → AreAmong few many → are_among few many ≡ true
unfolding are_among
says-among few many h =
    below-each (λ (k : ℕ). allows (get_or many k false) (get_or few k false)) 26
    (λ letter l. says-allows (get_or many letter false) (get_or few letter false) (h letter l))

old-says : (weak strong : Option Old) → old_covers weak strong ≡ true → CoversOld weak strong
old-says weak None h = tt
old-says None (Some strong) h = absurd cc
old-says (Some weak) (Some strong) h =
    let p = and_parts (zone_covers weak.zone strong.zone) _ h in
    let q = and_parts (are_among weak.marks strong.marks) _ p.1 in
    (zone-says weak.zone strong.zone p.0, among-says weak.marks strong.marks q.0, q.1)

says-old : (weak strong : Option Old) → CoversOld weak strong → old_covers weak strong ≡ true
says-old weak None h = refl
says-old None (Some strong) h = absurd h
says-old (Some weak) (Some strong) h =
    and_from (zone_covers weak.zone strong.zone) _ (says-zone weak.zone strong.zone h.0)
    (and_from (are_among weak.marks strong.marks) _ (says-among weak.marks strong.marks h.1) h.2)

old_has-says : (was : Option Old) (weak strong : List (List ℕ)) → old_has_covers was weak strong ≡ true →
    CoversOldHas was weak strong
old_has-says None weak strong h = tt
old_has-says (Some old) weak strong h = h

says-old_has : (was : Option Old) (weak strong : List (List ℕ)) → CoversOldHas was weak strong →
    old_has_covers was weak strong ≡ true
says-old_has None weak strong h = refl
says-old_has (Some old) weak strong h = h

pub covers-says : (weak strong : State) → covers weak strong ≡ true → Covers weak strong
unfolding covers
covers-says weak strong h =
    let zone = and_parts _ _ h in
    let marks = and_parts _ _ zone.1 in
    let patterns = and_parts _ _ marks.1 in
    let replacements = and_parts _ _ patterns.1 in
    let no_replacement = and_parts _ _ replacements.0 in
    let plain = and_parts _ _ no_replacement.1 in
    let names = and_parts _ _ replacements.1 in
    let changed = and_parts _ _ names.1 in
    let flags = and_parts _ _ changed.0 in
    let undo = and_parts _ _ changed.1 in
    let nothing = and_parts _ _ undo.0 in
    let same = and_parts _ _ nothing.1 in
    let last = and_parts _ _ undo.1 in
    let matches = and_parts _ _ last.0 in
    record {
      zone = zone-says weak.zone strong.zone zone.0;
      marks = among-says weak.marks strong.marks marks.0;
      patterns = patterns.0;
      no_replacement = allows-says weak.replacements.none strong.replacements.none no_replacement.0;
      plain_replacement = allows-says weak.replacements.plain strong.replacements.plain plain.0;
      split_replacement = allows-says weak.replacements.split strong.replacements.split plain.1;
      names = names.0;
      unchanged = allows-says weak.changed.no strong.changed.no flags.0;
      changed = allows-says weak.changed.yes strong.changed.yes flags.1;
      nothing = allows-says weak.undo.nothing strong.undo.nothing nothing.0;
      same = allows-says weak.undo.same strong.undo.same same.0;
      was = old-says weak.undo.was strong.undo.was same.1;
      matches = record {
        has = matches.0;
        old_has = old_has-says strong.undo.was weak.matches.old_has strong.matches.old_has matches.1;
      };
      facts = last.1;
    }

pub says-covers : (weak strong : State) → Covers weak strong → covers weak strong ≡ true
unfolding covers
says-covers weak strong h =
    and_from _ _ (says-zone weak.zone strong.zone h.zone) (
    and_from _ _ (says-among weak.marks strong.marks h.marks) (
    and_from _ _ h.patterns (
    and_from _ _ (and_from _ _ (says-allows weak.replacements.none strong.replacements.none h.no_replacement)
    (and_from _ _ (says-allows weak.replacements.plain strong.replacements.plain h.plain_replacement)
    (says-allows weak.replacements.split strong.replacements.split h.split_replacement))) (
    and_from _ _ h.names (
    and_from _ _ (and_from _ _ (says-allows weak.changed.no strong.changed.no h.unchanged)
    (says-allows weak.changed.yes strong.changed.yes h.changed))
    (and_from _ _ (and_from _ _ (says-allows weak.undo.nothing strong.undo.nothing h.nothing)
    (and_from _ _ (says-allows weak.undo.same strong.undo.same h.same) (says-old weak.undo.was strong.undo.was h.was)))
    (and_from _ _ (and_from _ _ h.matches.has (says-old_has strong.undo.was weak.matches.old_has strong.matches.old_has h.matches.old_has)) h.facts)))))))
