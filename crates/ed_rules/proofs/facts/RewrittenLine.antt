-- What is known of the line that `s` makes of one line is true of it.
use Rattle.std.proofs.Common.{◌≡◌, ◌≤◌, inl, inr, arith, Bool, true, false, cond, ℕ, List, ◌∷◌, [], map, Option, None, Some, Result, Ok, Err, All, IsSome, refl, sym, ap, subst, ◌∙◌}
use Rattle.std.specs.Prelude.{◌&&◌}
use Rattle.std.specs.List.{list_any}
use Rattle.std.specs.Option.{is_some}
use Rattle.std.specs.Ordering.{is_eq}
use Rattle.std.proofs.lemmas.Bool.{and_parts, or_cases}
use Rattle.std.proofs.lemmas.List.Elements.{All-map, All-weaker, filter_passes}
use Rattle.bre_parse.specs.declared.fault.BreFault.{BreFault}
use Rattle.bre_parse.specs.Tree.{Tree}
use Rattle.bre_parse.specs.Grammar.{pattern}
use Rattle.bre_parse.specs.Match.{match_from}
use Rattle.bre_parse.specs.Ways.{begins_with}
use Rattle.bre_parse.specs.TextHeads.{untouched, head_asked, head_matches, head_clashes}
use Rattle.bre_parse.specs.Words.{keeps_word}
use Rattle.bre_parse.proofs.TextHeadLaws.{head_is_asked, heads_are_matched, clashing_heads_match_nothing}
use Rattle.ed_syntax.specs.declared.replacement.Part.{Part}
use Rattle.ed_syntax.specs.declared.replacement.Which.{Which}
use Rattle.ed_syntax.specs.meaning.Substitution.{Found, taken, picked, rewritten}
use Rattle.ed_syntax.specs.meaning.Values.{matches}
use Rattle.ed_syntax.specs.meaning.Ranges.{Span}
use Rattle.ed_syntax.specs.meaning.States as editor
use Rattle.ed_syntax.specs.meaning.SubstitutedLines.{made_of}
use Rattle.ed_base.specs.Buffer.{plain_line}
use Rattle.ed_base.specs.Lines.{IsLine}
use Rattle.zones.specs.Zone.{Numbers}
use Rattle.ed_rules.specs.Choices.{Choice, order_of, has_choice}
use Rattle.ed_rules.specs.declared.state.Old.{Old}
use Rattle.ed_rules.specs.declared.state.State.{State}
use Rattle.ed_rules.specs.Following.{patterns_of, only_pattern}
use Rattle.ed_rules.specs.StandsFor.{ends_line}
use Rattle.ed_rules.specs.FactsAfter.{line_left, lines_left}
use Rattle.ed_rules.specs.facts.EditHolds.{AreFresh, AreFreshIf, Takes}
use Rattle.ed_rules.specs.facts.Facts.{same_text, tells}
use Rattle.ed_rules.specs.facts.RewrittenLine.{matched_at, asked_head, heads_left, told_by_heads, told_by_word, or_else, left_by, left_if}
use Rattle.ed_rules.proofs.Choosing.{same-choices}
use Rattle.ed_rules.proofs.facts.FactsTold.{any-gives, text-same, tells-true}
use Rattle.ed_rules.proofs.sound.Results.{made-text}
use Rattle.ed_rules.proofs.sound.SubstitutedLine.{line_of}
use Rattle.ed_rules.proofs.sound.TakenMatches.{head-stays}
use Rattle.ed_rules.proofs.sound.KeptWords.{some-is, word-kept}

is-some-true : (o : Option Found) → IsSome o → is_some o ≡ true
is-some-true None h = absurd cc
is-some-true (Some m) h = refl

true-is-some : (o : Option Found) → is_some o ≡ true → IsSome o
true-is-some None h = absurd cc
true-is-some (Some m) h = refl

some-same : (a b : Bool) → Some a ≡ Some b → a ≡ b
some-same a b e = cc

-- each line that a pattern matches begins with the head that it asks for
asked-begins : (text line : List ℕ) → matches text line ≡ true → begins_with line (asked_head text) ≡ true
asked-begins text line =
    elim (pattern text) as (λ r. (elim r as (λ _. Bool) [ Ok tree ↦ is_some (match_from tree line 0) | Err fault ↦ false ]) ≡ true →
    begins_with line (elim r as (λ _. List ℕ) [ Ok tree ↦ head_asked tree | Err fault ↦ [] ]) ≡ true) [
      | Ok tree ↦ λ h. let m = some-is (match_from tree line 0) (true-is-some (match_from tree line 0) h) in head_is_asked tree line m.0 m.1
      | Err fault ↦ λ h. absurd cc
    ]

module _ (parts : List Part) (choice : Which) (replaced : Tree) (line : List ℕ) where
  -- the line that is made
  abbrev made : List ℕ
  made = rewritten parts line 0 (picked choice (taken replaced line))

  abbrev Matched : List ℕ → Type 0
  Matched text = matches text line ≡ true

  abbrev Begins : List ℕ → Type 0
  Begins head = begins_with made head ≡ true

  heads-stand : (matched : List (List ℕ)) → All Matched matched → All Begins (heads_left replaced matched)
  heads-stand matched all =
      All-map Begins (λ (text : List ℕ). untouched replaced (asked_head text)) matched
      (All-weaker Matched (λ (text : List ℕ). Begins (untouched replaced (asked_head text)))
      (λ text h. head-stays replaced parts choice (asked_head text) line (asked-begins text line h)) matched all)

  heads-tell : (heads : List (List ℕ)) (tree : Tree) (answer : Bool) → All Begins heads → told_by_heads heads tree ≡ Some answer → is_some (match_from tree made 0) ≡ answer
  heads-tell heads tree answer all told =
      (elim (list_any (λ head. head_matches head tree) heads) as (λ b. list_any (λ head. head_matches head tree) heads ≡ b →
      cond b (Some true) (cond (list_any (λ head. head_clashes head tree) heads) (Some false) None) ≡ Some answer → is_some (match_from tree made 0) ≡ answer) [
        | true ↦ λ some e.
            any-gives (λ (head : List ℕ). head_matches head tree) Begins (is_some (match_from tree made 0) ≡ true) heads all
            (λ head begins h. is-some-true (match_from tree made 0) (heads_are_matched tree head made h begins)) some
            ∙ some-same true answer e
        | false ↦ λ _ e.
            (elim (list_any (λ head. head_clashes head tree) heads) as (λ b. list_any (λ head. head_clashes head tree) heads ≡ b →
            cond b (Some false) None ≡ Some answer → is_some (match_from tree made 0) ≡ answer) [
              | true ↦ λ some f.
                  any-gives (λ (head : List ℕ). head_clashes head tree) Begins (is_some (match_from tree made 0) ≡ false) heads all
                  (λ head begins h. ap (λ (o : Option Found). is_some o) (clashing_heads_match_nothing tree head made h begins)) some
                  ∙ some-same false answer f
              | false ↦ λ _ f. absurd cc
            ]) refl e
      ]) refl told

  word-tells : (matched : List (List ℕ)) (text : List ℕ) (tree : Tree) (answer : Bool) → pattern text ≡ Ok tree → All Matched matched →
      told_by_word replaced matched text tree ≡ Some answer → is_some (match_from tree made 0) ≡ answer
  word-tells matched text tree answer read all told =
      (elim (list_any (λ q. same_text q text) matched && keeps_word replaced tree) as (λ b. (list_any (λ q. same_text q text) matched && keeps_word replaced tree) ≡ b →
      cond b (Some true) None ≡ Some answer → is_some (match_from tree made 0) ≡ answer) [
        | true ↦ λ both e.
            let h = and_parts (list_any (λ q. same_text q text) matched) (keeps_word replaced tree) both in
            let before : matches text line ≡ true =
            any-gives (λ (q : List ℕ). same_text q text) Matched (matches text line ≡ true) matched all
            (λ q is same. subst Matched (text-same q text same) is) h.0 in
            let old : is_some (match_from tree line 0) ≡ true =
            sym (ap (λ (r : Result Tree BreFault). elim r as (λ _. Bool) [ Ok t ↦ is_some (match_from t line 0) | Err fault ↦ false ]) read) ∙ before in
            is-some-true (match_from tree made 0) (word-kept replaced tree parts choice line h.1 (true-is-some (match_from tree line 0) old)) ∙ some-same true answer e
        | false ↦ λ _ e. absurd cc
      ]) refl told

  either-tells : (one other : Option Bool) (tree : Tree) (answer : Bool) → (one ≡ Some answer → is_some (match_from tree made 0) ≡ answer) →
      (other ≡ Some answer → is_some (match_from tree made 0) ≡ answer) → or_else one other ≡ Some answer → is_some (match_from tree made 0) ≡ answer
  either-tells None other tree answer first second e = second e
  either-tells (Some b) other tree answer first second e = first e

  left-true : (matched : List (List ℕ)) (text : List ℕ) (answer : Bool) → All Matched matched → left_by replaced (heads_left replaced matched) matched text ≡ Some answer →
      matches text made ≡ answer
  left-true matched text answer all told =
      (elim (pattern text) as (λ r. pattern text ≡ r →
      (elim r as (λ _. Option Bool) [
        | Ok tree ↦ or_else (told_by_heads (heads_left replaced matched) tree) (told_by_word replaced matched text tree)
        | Err fault ↦ None
      ]) ≡ Some answer → (elim r as (λ _. Bool) [ Ok tree ↦ is_some (match_from tree made 0) | Err fault ↦ false ]) ≡ answer) [
        | Ok tree ↦ λ read e.
            either-tells (told_by_heads (heads_left replaced matched) tree) (told_by_word replaced matched text tree) tree answer
            (λ f. heads-tell (heads_left replaced matched) tree answer (heads-stand matched all) f) (λ f. word-tells matched text tree answer read all f) e
        | Err fault ↦ λ _ e. absurd cc
      ]) refl told

-- by the pattern that is looked for
pub sought-left-true : (sought : List ℕ) (replaced : Tree) (parts : List Part) (choice : Which) (line : List ℕ) (matched : List (List ℕ)) (text : List ℕ) (answer : Bool) →
    pattern sought ≡ Ok replaced → All (λ (q : List ℕ). matches q line ≡ true) matched → left_if (Some sought) matched text ≡ Some answer →
    matches text (rewritten parts line 0 (picked choice (taken replaced line))) ≡ answer
sought-left-true sought replaced parts choice line matched text answer read all told =
    left-true parts choice replaced line matched text answer all
    (sym (ap (λ (r : Result Tree BreFault). (elim r as (λ _. List ℕ → Option Bool) [ Ok tree ↦ left_by tree (heads_left tree matched) matched | Err fault ↦ λ _. None ]) text) read) ∙ told)

-- the one pattern that may be looked for is the one that was
only-sought : (possible : List Choice) (text one : List ℕ) → has_choice possible (Some text) ≡ true → only_pattern possible ≡ Some one → one ≡ text
only-sought [] text one h e = absurd cc
only-sought (None ∷ possible) text one h e = absurd cc
only-sought (Some other ∷ []) text one h e = elim (or_cases (is_eq (order_of (Some text) (Some other))) false h) [
  | inl same ↦ text-of one other (sym e) ∙ text-of other text (sym (same-choices (Some text) (Some other) same))
  | inr none ↦ absurd cc
]
  where
    text-of : (a b : List ℕ) → Some a ≡ Some b → a ≡ b
    text-of a b f = cc
only-sought (Some other ∷ another ∷ possible) text one h e = absurd cc

-- by the patterns that may have been looked for
line-left-true : (parts : List Part) (choice : Which) (possible : List Choice) (looked_for : List ℕ) (replaced : Tree) (line : List ℕ) (matched : List (List ℕ)) (text : List ℕ) (answer : Bool) →
    has_choice possible (Some looked_for) ≡ true → pattern looked_for ≡ Ok replaced → All (λ (q : List ℕ). matches q line ≡ true) matched →
    left_if (only_pattern possible) matched text ≡ Some answer → matches text (rewritten parts line 0 (picked choice (taken replaced line))) ≡ answer
line-left-true parts choice possible looked_for replaced line matched text answer one_of read all told =
    (elim (only_pattern possible) as (λ o. only_pattern possible ≡ o → left_if o matched text ≡ Some answer →
    matches text (rewritten parts line 0 (picked choice (taken replaced line))) ≡ answer) [
      | None ↦ λ _ e. absurd cc
      | Some sought ↦ λ is e.
          let same : pattern sought ≡ Ok replaced = ap pattern (only-sought possible looked_for sought one_of is) ∙ read in
          sought-left-true sought replaced parts choice line matched text answer same all e
    ]) refl told

-- THE EDIT

-- what is known of the line that `s` makes is true of it; of a line that may be split nothing is
pub rewritten-fresh : (b : Old) (r : State) (choice : Which) (number : Numbers) (e : editor.State) (x : Span) (looked_for : List ℕ) (parts : List Part) (new : List (List ℕ)) →
    Takes b.zone b.facts b.marks number e x → 1 ≤ x.first → x.first ≤ x.last → has_choice r.patterns (Some looked_for) ≡ true →
    (r.replacements.split ≡ false → list_any ends_line parts ≡ false) → IsLine (line_of x e).bytes → made_of looked_for parts choice (line_of x e).bytes ≡ Some new →
    AreFreshIf (lines_left b r) (map plain_line new)
rewritten-fresh b r choice number e x looked_for parts new t from order possible plain whole is =
    let line : List ℕ = (line_of x e).bytes in
    let inside = t.inside in
    let known : List (List ℕ) = patterns_of b.facts in
    let all : All (λ (q : List ℕ). matches q line ≡ true) (matched_at b.zone b.facts 3 known) =
    All-weaker (λ (q : List ℕ). tells b.zone b.facts 3 q true ≡ true) (λ (q : List ℕ). matches q line ≡ true)
    (λ q told. tells-true b.zone b.facts number e.lines 3 x.first q true told (omega arith) t.holds t.facts_hold t.first_is from (omega arith))
    (matched_at b.zone b.facts 3 known) (filter_passes (λ (q : List ℕ). tells b.zone b.facts 3 q true) known) in
    (elim r.replacements.split as (λ s. r.replacements.split ≡ s → AreFreshIf (cond s None (Some (line_left b r ∷ []))) (map plain_line new)) [
      | true ↦ λ _. tt
      | false ↦ λ still.
          let one = made-text looked_for parts choice (plain still) line new whole is in
          subst (λ (texts : List (List ℕ)). AreFresh (line_left b r ∷ []) (map plain_line texts)) (sym one.2)
          ((λ text answer told. line-left-true parts choice r.patterns looked_for one.0 line (matched_at b.zone b.facts 3 known) text answer possible one.1 all told), tt)
    ]) refl
