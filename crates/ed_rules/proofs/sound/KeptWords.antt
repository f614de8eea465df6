-- A word that stood in a line still does where matches are replaced that share no byte with it.
use Rattle.std.proofs.Common.{◌≡◌, ◌⊎◌, inl, inr, ⊎_elim, ◌≤◌, ℕ, ◌+◌, ◌-◌, Bool, true, false, List, [], ◌∷◌, ◌++◌, take, drop, length, Option, None, Some, All, IsSome, arith, refl, sym, ◌∙◌, ap, subst}
use Rattle.std.specs.Prelude.{◌&&◌, ◌||◌, not, nat_eq}
use Rattle.std.specs.List.{flat_map}
use Rattle.std.proofs.lemmas.Bool.{and_parts, and_from, or_left, or_right, or_cases, eqb-true, eq-eqb, not-true, not_from_false, false≢true}
use Rattle.std.proofs.lemmas.List.{drop-drop, drop_at, drop-take, drop-append-le, length-take-le, length-append, length-drop}
use Rattle.std.proofs.lemmas.List.Elements.{All-nil, All-head, All-tail, All-weaker}
use Rattle.bre_parse.specs.Tree.{Tree}
use Rattle.bre_parse.specs.Groups.{no_groups}
use Rattle.bre_parse.specs.Ways.{Way, by_end, only_if, bytes_of, begins_with}
use Rattle.bre_parse.specs.Match.{first, match_from}
use Rattle.bre_parse.specs.Always.{has_last_anchor}
use Rattle.bre_parse.specs.TextHeads.{is_anchored}
use Rattle.bre_parse.specs.Words.{word_between, stands_at, are_apart, spares_if, spares_word, keeps_word}
use Rattle.bre_parse.proofs.GroupsWithin.{matches_lie_within}
use Rattle.bre_parse.proofs.EmptyWays.{HasWay, has_only_if}
use Rattle.bre_parse.proofs.AlwaysLaw.{way_matches}
use Rattle.bre_parse.proofs.WordLaws.{words_match_themselves, apart_words_do_not_meet}
use Rattle.ed_syntax.specs.declared.replacement.Part.{Part}
use Rattle.ed_syntax.specs.declared.replacement.Which.{Which}
use Rattle.ed_syntax.specs.meaning.Substitution.{Found, taken, picked, expanded, rewritten}
use Rattle.ed_rules.proofs.sound.TakenMatches.{IsFound, taken-found, found-longest, take-begins}

drop-past : (s t : List ℕ) (n : ℕ) → drop (length s + n) (s ++ t) ≡ drop n t
drop-past s t n = sym (drop-drop n (length s) (s ++ t)) ∙ ap (drop n) (drop_at s t (length s) refl)

-- WHAT STAYS OF A TEXT

module _ (parts : List Part) (text : List ℕ) (place : ℕ) (inside : place ≤ length text) where
  -- a place of another text from which on the two are alike
  abbrev Moved : List ℕ → Type 0
  Moved new = (to : ℕ) × (to ≤ length new) × (drop to new ≡ drop place text)

  -- where all matches end before it, all that follows a place stays
  after-all : (ms : List Found) (from : ℕ) → from ≤ place → All (λ (m : Found). m.1.0 ≤ place) ms → Moved (rewritten parts text from ms)
  after-all [] from le all =
      let size = length-drop from text in
      let same : from + (place - from) ≡ place = omega arith in
      (place - from, omega arith, drop-drop (place - from) from text ∙ ap (λ (n : ℕ). drop n text) same)
  after-all (m ∷ ms) from le all =
      let Ends : Found → Type 0 = λ (k : Found). k.1.0 ≤ place in
      let kept : List ℕ = bytes_of text (from, m.0) in
      let put : List ℕ = flat_map (expanded text m) parts in
      let later : List ℕ = rewritten parts text m.1.0 ms in
      let more = after-all ms m.1.0 (All-head Ends m ms all) (All-tail Ends m ms all) in
      let to = more.1 in
      let first_size = length-append kept (put ++ later) in
      let size = length-append put later in
      (length kept + (length put + more.0), omega arith, drop-past kept (put ++ later) (length put + more.0) ∙ drop-past put later more.0 ∙ more.2)

  module _ (word : List ℕ) (stands : begins_with (drop place text) word ≡ true) where
    -- the word stands somewhere in a text
    abbrev StandsIn : List ℕ → Type 0
    StandsIn new = (to : ℕ) × (to ≤ length new) × (begins_with (drop to new) word ≡ true)

    -- a match lies before the word, or behind it
    abbrev IsAside : Found → Type 0
    IsAside m = (m.0 ≤ length text) × ((m.1.0 ≤ place) ⊎ (place + length word ≤ m.0))

    stands-before : (from to : ℕ) (rest : List ℕ) → from ≤ place → to ≤ length text → place + length word ≤ to → StandsIn (bytes_of text (from, to) ++ rest)
    stands-before from to rest le high behind =
        let left : List ℕ = drop from text in
        let at : ℕ = place - from in
        let more : ℕ = to - place in
        let size = length-drop from text in
        let kept : length (take (to - from) left) ≡ to - from = length-take-le (to - from) left (omega arith) in
        let whole = length-append (take (to - from) left) rest in
        let parts_of : to - from ≡ at + more = omega arith in
        let there : from + at ≡ place = omega arith in
        let cut : drop at (take (to - from) left ++ rest) ≡ take more (drop place text) ++ rest =
        drop-append-le at (take (to - from) left) rest (omega arith)
        ∙ ap (λ (n : ℕ). drop at (take n left) ++ rest) parts_of
        ∙ ap (λ (bytes : List ℕ). bytes ++ rest) (drop-take at more left ∙ ap (take more) (drop-drop at from text ∙ ap (λ (n : ℕ). drop n text) there)) in
        (at, omega arith, ap (λ (bytes : List ℕ). begins_with bytes word) cut ∙ take-begins more (drop place text) word rest stands (omega arith))

    word-stays : (ms : List Found) (from : ℕ) → from ≤ place → All IsAside ms → StandsIn (rewritten parts text from ms)
    word-stays [] from le all =
        let moved = after-all [] from le (All-nil (λ (m : Found). m.1.0 ≤ place)) in
        (moved.0, moved.1, ap (λ (bytes : List ℕ). begins_with bytes word) moved.2 ∙ stands)
    word-stays (m ∷ ms) from le all =
        let here = All-head IsAside m ms all in
        let kept : List ℕ = bytes_of text (from, m.0) in
        let put : List ℕ = flat_map (expanded text m) parts in
        let later : List ℕ = rewritten parts text m.1.0 ms in
        elim here.1 [
          | inl before ↦
              let more = word-stays ms m.1.0 before (All-tail IsAside m ms all) in
              let to = more.1 in
              let first_size = length-append kept (put ++ later) in
              let size = length-append put later in (
                length kept + (length put + more.0),
                omega arith,
                ap (λ (bytes : List ℕ). begins_with bytes word) (drop-past kept (put ++ later) (length put + more.0) ∙ drop-past put later more.0) ∙ more.2,
              )
          | inr behind ↦ stands-before from m.0 (put ++ later) le here.0 behind
        ]

-- MATCHES OF WORDS

first-only : (test : Bool) (way other : Way) → first (by_end (only_if test way)) ≡ Some other → (test ≡ true) × (way ≡ other)
first-only true way other e = (refl, cc)
first-only false way other e = absurd cc

-- a match of a word starts where the word stands, and ends behind it
word-match : (tree : Tree) (word text : List ℕ) (m : Found) → word_between tree ≡ Some word → IsFound tree text m →
    (stands_at (is_anchored tree) (has_last_anchor tree) text word m.0 ≡ true) × (m.1.0 ≡ m.0 + length word)
word-match tree word text m is found =
    let listed = words_match_themselves tree word text m.0 no_groups is in
    let only = first-only (stands_at (is_anchored tree) (has_last_anchor tree) text word m.0) (m.0 + length word, no_groups) m.1
    (ap (λ (all : List Way). first (by_end all)) (sym listed) ∙ found-longest tree text m found) in
    (only.0, sym (ap (λ (way : Way). way.0) only.1))

word-matches : (tree : Tree) (word text : List ℕ) (place : ℕ) → word_between tree ≡ Some word → place ≤ length text →
    stands_at (is_anchored tree) (has_last_anchor tree) text word place ≡ true → IsSome (match_from tree text 0)
word-matches tree word text place is inside stands =
    way_matches tree text place inside
    (subst (λ (all : List Way). HasWay all) (sym (words_match_themselves tree word text place no_groups is))
    (has_only_if (stands_at (is_anchored tree) (has_last_anchor tree) text word place) (place + length word, no_groups) stands))

-- what has to be so is, where it is asked for
asked-holds : (asked holds : Bool) → (not asked || holds) ≡ true → asked ≡ true → holds ≡ true
asked-holds true holds e is = e
asked-holds false holds e is = absurd cc

found-within : (tree : Tree) (text : List ℕ) (m : Found) → IsFound tree text m → (m.0 ≤ m.1.0) × (m.1.0 ≤ length text)
found-within tree text m found =
    let lies = matches_lie_within tree text found.from m.0 m.1.0 m.1.1 found.inside found.is in (lies.1, lies.2)

-- THE WORD THAT STAYS

module _ (replaced : Tree) (text word : List ℕ) (place : ℕ) (stands : begins_with (drop place text) word ≡ true) (inside : place + length word ≤ length text) where
  -- a match lies aside, and before the word where that reaches the end and the pattern has no `$`
  abbrev LiesAside : Found → Type 0
  LiesAside m = (m.0 ≤ length text) × ((m.1.0 ≤ place) ⊎ (place + length word ≤ m.0)) × (has_last_anchor replaced ≡ false → place + length word ≡ length text → m.1.0 ≤ place)

  -- an end of the text
  end-aside : (m : Found) → IsFound replaced text m → word_between replaced ≡ Some [] → (is_anchored replaced || has_last_anchor replaced) ≡ true → LiesAside m
  end-aside m found is anchored =
      let lies = found-within replaced text m found in
      let low = lies.0 in
      let high = lies.1 in
      let at = word-match replaced [] text m is found in
      let both = and_parts (not (is_anchored replaced) || nat_eq m.0 0) _ at.0 in
      let start : is_anchored replaced ≡ true → m.1.0 ≤ place = λ h.
      let zero_is = eqb-true m.0 0 (asked-holds (is_anchored replaced) (nat_eq m.0 0) both.0 h) in
      let end_is = at.1 in
      omega arith in (
        omega arith,
        ⊎_elim (λ (h : is_anchored replaced ≡ true). inl (start h))
            (λ (h : has_last_anchor replaced ≡ true).
            let last = eqb-true (m.0 + 0) (length text) (asked-holds (has_last_anchor replaced) (nat_eq (m.0 + 0) (length text)) both.1 h) in inr (omega arith))
            (or_cases (is_anchored replaced) (has_last_anchor replaced) anchored),
        λ none _.
            ⊎_elim start (λ (h : has_last_anchor replaced ≡ true). absurd (false≢true (sym none ∙ h))) (or_cases (is_anchored replaced) (has_last_anchor replaced) anchored),
      )

  -- a word apart from this one
  apart-aside : (m : Found) (byte : ℕ) (bytes : List ℕ) → IsFound replaced text m → word_between replaced ≡ Some (byte ∷ bytes) → are_apart (byte ∷ bytes) word ≡ true → LiesAside m
  apart-aside m byte bytes found is apart =
      let lies = found-within replaced text m found in
      let low = lies.0 in
      let high = lies.1 in
      let at = word-match replaced (byte ∷ bytes) text m is found in
      let end_is = at.1 in
      let there = (and_parts _ _ (and_parts (not (is_anchored replaced) || nat_eq m.0 0) _ at.0).1).0 in
      let sides : (m.1.0 ≤ place) ⊎ (place + length word ≤ m.0) =
      ⊎_elim (λ (before : m.0 + length (byte ∷ bytes) ≤ place). inl (omega arith)) (λ (behind : place + length word ≤ m.0). inr behind)
      (apart_words_do_not_meet (byte ∷ bytes) word text m.0 place apart there stands) in
      (omega arith, sides, λ _ reaches. ⊎_elim (λ (before : m.1.0 ≤ place). before) (λ (behind : place + length word ≤ m.0). absurd (omega arith)) sides)

  lies-aside : spares_word replaced word ≡ true → (m : Found) → IsFound replaced text m → LiesAside m
  lies-aside spares m found =
      (elim (word_between replaced) as (λ o. word_between replaced ≡ o → spares_if (is_anchored replaced || has_last_anchor replaced) o word ≡ true → LiesAside m) [
        | None ↦ λ _ h. absurd cc
        | Some [] ↦ λ is h. end-aside m found is h
        | Some (byte ∷ bytes) ↦ λ is h. apart-aside m byte bytes found is h
      ]) refl spares

-- what reached the end still does, where all behind a place has moved
end-moves : (place size at whole word : ℕ) → place ≤ size → size - place ≡ whole - at → at + word ≡ whole → place + word ≡ size
end-moves place size at whole word within same reaches = omega arith

pub some-is : (o : Option Found) → IsSome o → (m : Found) × (o ≡ Some m)
some-is None h = absurd cc
some-is (Some m) h = (m, refl)

module _ (replaced tree : Tree) (parts : List Part) (choice : Which) (text : List ℕ) where
  abbrev left : List ℕ
  left = rewritten parts text 0 (picked choice (taken replaced text))

  module _ (word : List ℕ) (is : word_between tree ≡ Some word) (free : is_anchored tree ≡ false) (spares : spares_word replaced word ≡ true)
      (ends : (has_last_anchor tree && has_last_anchor replaced) ≡ false) (m : Found) (found : IsFound tree text m) where
    abbrev Aside : Found → Type 0
    Aside k = (k.0 ≤ length text) × ((k.1.0 ≤ m.0) ⊎ (m.0 + length word ≤ k.0)) × (has_last_anchor replaced ≡ false → m.0 + length word ≡ length text → k.1.0 ≤ m.0)

    stood : stands_at (is_anchored tree) (has_last_anchor tree) text word m.0 ≡ true
    stood = (word-match tree word text m is found).0

    there : begins_with (drop m.0 text) word ≡ true
    there = (and_parts _ _ (and_parts (not (is_anchored tree) || nat_eq m.0 0) _ stood).1).0

    low : m.0 ≤ length text
    low = let lies = found-within tree text m found in let a = lies.0 in let b = lies.1 in omega arith

    inside : m.0 + length word ≤ length text
    inside = let lies = found-within tree text m found in let a = lies.1 in let b = (word-match tree word text m is found).1 in omega arith

    all-aside : All Aside (picked choice (taken replaced text))
    all-aside = All-weaker (IsFound replaced text) Aside (lies-aside replaced text word m.0 there inside spares) (picked choice (taken replaced text)) (taken-found replaced text choice)

    -- the pattern may start anywhere
    anywhere : (place : ℕ) → (not (is_anchored tree) || nat_eq place 0) ≡ true
    anywhere place = or_left _ _ (not_from_false (is_anchored tree) free)

    in-the-middle : has_last_anchor tree ≡ false → IsSome (match_from tree left 0)
    in-the-middle without =
        let new = word-stays parts text m.0 low word there (picked choice (taken replaced text)) 0 (omega arith)
        (All-weaker Aside (IsAside parts text m.0 low word there) (λ k aside. (aside.0, aside.1)) (picked choice (taken replaced text)) all-aside) in
        word-matches tree word left new.0 is new.1
        (and_from _ _ (anywhere new.0) (and_from _ _ new.2 (or_left _ _ (not_from_false (has_last_anchor tree) without))))

    at-the-end : has_last_anchor tree ≡ true → IsSome (match_from tree left 0)
    at-the-end last =
        let other : has_last_anchor replaced ≡ false = (ap (λ (b : Bool). b && has_last_anchor replaced) (sym last)) ∙ ends in
        let reaches : m.0 + length word ≡ length text =
        eqb-true (m.0 + length word) (length text)
        (asked-holds (has_last_anchor tree) (nat_eq (m.0 + length word) (length text)) (and_parts _ _ (and_parts (not (is_anchored tree) || nat_eq m.0 0) _ stood).1).1 last) in
        let new = after-all parts text m.0 low (picked choice (taken replaced text)) 0 (omega arith)
        (All-weaker Aside (λ (k : Found). k.1.0 ≤ m.0) (λ k aside. aside.2 other reaches) (picked choice (taken replaced text)) all-aside) in
        let place : ℕ = new.0 in
        let within : place ≤ length left = new.1 in
        let reached : place + length word ≡ length left =
        end-moves place (length left) m.0 (length text) (length word) within (sym (length-drop place left) ∙ ap (λ (bytes : List ℕ). length bytes) new.2 ∙ length-drop m.0 text) reaches in
        word-matches tree word left place is within
        (and_from (not (is_anchored tree) || nat_eq place 0) (begins_with (drop place left) word && (not (has_last_anchor tree) || nat_eq (place + length word) (length left)))
        (anywhere place)
        (and_from (begins_with (drop place left) word) (not (has_last_anchor tree) || nat_eq (place + length word) (length left))
        (ap (λ (bytes : List ℕ). begins_with bytes word) new.2 ∙ there)
        (or_right (not (has_last_anchor tree)) (nat_eq (place + length word) (length left)) (eq-eqb (place + length word) (length left) reached))))

    stays : IsSome (match_from tree left 0)
    stays =
        (elim (has_last_anchor tree) as (λ b. has_last_anchor tree ≡ b → IsSome (match_from tree left 0)) [ true ↦ λ last. at-the-end last | false ↦ λ without. in-the-middle without ]) refl

  -- a pattern that is a word, or a word and `$`, still matches
  pub word-kept : keeps_word replaced tree ≡ true → IsSome (match_from tree text 0) → IsSome (match_from tree left 0)
  word-kept keeps matched =
      (elim (word_between tree) as (λ o. word_between tree ≡ o → (elim o as (λ _. Bool) [
        | Some word ↦ not (is_anchored tree) && (spares_word replaced word && not (has_last_anchor tree && has_last_anchor replaced))
        | None ↦ false
      ]) ≡ true → IsSome (match_from tree left 0)) [
        | Some word ↦ λ is h.
            let outer = and_parts (not (is_anchored tree)) (spares_word replaced word && not (has_last_anchor tree && has_last_anchor replaced)) h in
            let inner = and_parts (spares_word replaced word) (not (has_last_anchor tree && has_last_anchor replaced)) outer.1 in
            let m = some-is (match_from tree text 0) matched in
            stays word is (not-true (is_anchored tree) outer.0) inner.0 (not-true (has_last_anchor tree && has_last_anchor replaced) inner.1) m.0
            (record { from = 0; inside = omega arith; is = m.1 })
        | None ↦ λ _ h. absurd cc
      ]) refl keeps
