-- What `s` does, side by side.
use Rattle.std.proofs.Common.{◌≡◌, ◌<◌, ◌≤◌, inl, inr, All, ℕ, zero, suc, ◌+◌, ◌-◌, pos, Bool, true, false, cond, ◌&&◌, List, [], ◌∷◌, take, drop, get_or, length, length-drop, Option, Some, None, Result, Ok, Err, arith, refl, ◌∙◌, ap, sym, subst, nat_eq}
use Rattle.std.specs.Prelude.{not, ok_or, slice_index_or}
use Rattle.std.proofs.lemmas.Int.{ints}
use Rattle.std.specs.List.{list_any, list_all}
use Rattle.std.proofs.lemmas.List.{length-take-le, get_or-drop, get_or-take, take_all}
use Rattle.std.proofs.lemmas.List.Folds.{list_any_at}
use Rattle.std.proofs.lemmas.List.Elements.{All-nil, All-cons, All-take, All-drop, All-weaker}
use Rattle.std.proofs.lemmas.Bool.{or_cases, or_right, and_parts}
use Rattle.ed_base.specs.declared.fault.Fault.{Fault}
use Rattle.ed_base.specs.declared.fault.Fault.TheVariants as fault
use Rattle.ed_base.specs.Buffer.{Line, plain_line, has_letter}
use Rattle.ed_base.specs.Lines.{newline, IsLine}
use Rattle.ed_base.specs.Parts as parts
use Rattle.zones.specs.Zone.{Numbers, bound}
use Rattle.zones.specs.Known.{known}
use Rattle.zones.proofs.Known.{known-true}
use Rattle.zones.specs.Steps.{after_set}
use Rattle.ed_syntax.specs.declared.replacement.Part.{Part}
use Rattle.ed_syntax.specs.declared.replacement.Part.TheVariants as part
use Rattle.ed_syntax.specs.declared.replacement.Which.{Which}
use Rattle.ed_syntax.specs.Commands.{Form}
use Rattle.ed_syntax.specs.meaning.States as editor
use Rattle.ed_syntax.specs.meaning.Ranges.{Span}
use Rattle.ed_syntax.specs.meaning.Values.{◌>>◌, used_pattern, matches, matches_line}
use Rattle.ed_syntax.specs.meaning.Verbs.{is_split}
use Rattle.ed_syntax.specs.meaning.Effects as effects
use Rattle.ed_syntax.specs.meaning.Effects.{Outcome, Effect, Makes}
use Rattle.ed_syntax.specs.meaning.Applied.{making, settled}
use Rattle.ed_syntax.specs.meaning.SubstitutedLines.{made_of, Results, each, used_replacement, flag_written, made, substitute}
use Rattle.ed_rules.specs.declared.state.Replacements.{Replacements}
use Rattle.ed_rules.specs.declared.state.State.{State}
use Rattle.ed_rules.specs.Choices.{Choice, has_choice}
use Rattle.ed_syntax.specs.meaning.CommandLaws.{AreWhole}
use Rattle.ed_rules.specs.StandsFor.{ends_line, allows_replacement}
use Rattle.ed_rules.specs.Order.{join}
use Rattle.ed_rules.specs.Pieces.{with_zone, modified}
use Rattle.ed_rules.specs.Addresses.{is_always, possible_patterns}
use Rattle.ed_rules.specs.Matched.{is_matched, AreMatched}
use Rattle.ed_rules.specs.Texts.{is_member}
use Rattle.ed_rules.specs.facts.Facts.{LineFactHolds, at, le, tells}
use Rattle.ed_rules.specs.facts.FoundLines.{matches_it}
use Rattle.ed_rules.proofs.facts.FactsTold.{any-gives, le-true, tells-true}
use Rattle.ed_rules.proofs.facts.FoundLines.{witness-of}
use Rattle.ed_rules.proofs.Texting.{member-matched}
use Rattle.ed_rules.proofs.sound.Searching.{always-matched}
use Rattle.ed_rules.proofs.sound.Following.{FollowedHold}
use Rattle.ed_rules.proofs.Basics.{Agrees}
use Rattle.ed_rules.specs.Substituting.{kind_of, has_usable, replacement_used, pattern_used, takes_first, is_known_line, matches_each, is_sure_to_match, takes_all, is_match_among, is_matched_among, matches_some, is_sure_of_some, marks_substituted, current_split, current_substituted, current_within, surely_substituted, partly_substituted, substituted_if, substituted}
use Rattle.ed_rules.proofs.Basics.{Agrees-bind, Agrees-needing, Agrees-map, Agrees-ok, bind-twice}
use Rattle.ed_rules.proofs.Choosing.{has_choice-only, has_choice-all}
use Rattle.ed_rules.proofs.sound.LettersInLines.{line_with, line_with-take_before, one_more, one_more-none}
use Rattle.ed_rules.proofs.sound.Standing.{Stands, StandsBy-patterns, Begins}
use Rattle.ed_rules.proofs.sound.Spans.{Ranges, Spans-by, Ranges-by}
use Rattle.ed_rules.proofs.sound.Weaker.{Stands-join, Stands-join_other}
use Rattle.ed_rules.proofs.sound.Finishing.{Follows}
use Rattle.ed_rules.proofs.sound.Effects.{altered-aside}
use Rattle.ed_rules.proofs.sound.Results.{results-none, results-within, results-least, results-same, results-all, results-some, IsMade, made-each, made-some, made-one, always-makes, matching-makes}
use Rattle.ed_rules.proofs.facts.SubstitutedFacts.{made-unmatched}
use Rattle.ed_rules.proofs.sound.SparedLines.{MakesOne, results-spared, line_with-between, at-between, line_with-replaced_within}
use Rattle.ed_rules.proofs.sound.Substituting.{Exchanges, exchanged-last, exchanged-within, exchanged-split}

-- the replacement

-- what a command uses is of a kind that it may use
abbrev UsesKind : Replacements → List Part → Type 0
UsesKind kinds parts = allows_replacement kinds (Some parts) ≡ true

kind-allows : (parts : List Part) → allows_replacement (kind_of parts) (Some parts) ≡ true
kind-allows parts =
    elim (list_any ends_line parts) as (λ b. cond b b (not b) ≡ true) [
      | true ↦ refl
      | false ↦ refl
    ]

split-ends : (parts : List Part) → list_any is_split parts ≡ true → list_any ends_line parts ≡ true
split-ends [] h = h
split-ends (part.Split ∷ parts) h = refl
split-ends (part.Literal byte ∷ parts) h = or_right (nat_eq byte newline) (list_any ends_line parts) (split-ends parts h)
split-ends (part.Match ∷ parts) h = split-ends parts h
split-ends (part.Group group ∷ parts) h = split-ends parts h

pub not-true : (b : Bool) → not b ≡ true → b ≡ true → ⊥
not-true true h k = absurd cc
not-true false h k = absurd cc

-- what may end a line is a replacement that splits
allows-split : (kinds : Replacements) (parts : List Part) → allows_replacement kinds (Some parts) ≡ true → list_any ends_line parts ≡ true → kinds.split ≡ true
allows-split kinds parts h e = (let P : Bool → Type 0 = λ (b : Bool). cond b kinds.split kinds.plain ≡ true in subst P e) h

pub allows-plain : (kinds : Replacements) (parts : List Part) → allows_replacement kinds (Some parts) ≡ true → kinds.split ≡ false → list_any ends_line parts ≡ false
allows-plain kinds parts h e =
    (elim (list_any ends_line parts) as (λ b. list_any ends_line parts ≡ b → b ≡ false) [
      | true ↦ λ k. let q = allows-split kinds parts h k in let z : true ≡ false = sym q ∙ e in absurd cc
      | false ↦ λ k. refl
    ]) refl

remembered-kind : (listed : Bool) (kinds : Replacements) (r : Option (List Part)) → allows_replacement kinds r ≡ true → has_usable listed kinds ≡ true →
    Agrees UsesKind (Ok kinds)
    (ok_or r fault.Replacement >> λ parts. elim (listed && list_any is_split parts) as (λ _. Result (List Part) Fault) [ true ↦ Err fault.Replacement | false ↦ Ok parts ])
remembered-kind listed kinds None h k = absurd (not-true kinds.none (and_parts (not kinds.none) (not (listed && kinds.split)) k).0 h)
remembered-kind listed kinds (Some parts) h k =
    (elim (listed && list_any is_split parts) as (λ b. listed && list_any is_split parts ≡ b →
    Agrees UsesKind (Ok kinds) (elim b as (λ _. Result (List Part) Fault) [ true ↦ Err fault.Replacement | false ↦ Ok parts ])) [
      | true ↦ λ e.
          let q = and_parts listed (list_any is_split parts) e in
          let split : kinds.split ≡ true = allows-split kinds parts h (split-ends parts q.1) in
          let both : listed && kinds.split ≡ true = rw (q.0, split) refl in
          not-true (listed && kinds.split) (and_parts (not kinds.none) (not (listed && kinds.split)) k).1 both
      | false ↦ λ e. h
    ]) refl

-- the pattern

abbrev pub IsPossible : List Choice → List ℕ → Type 0
IsPossible patterns text = has_choice patterns (Some text) ≡ true

remembered-pattern : (patterns : List Choice) (own : Option (List ℕ)) → has_choice patterns own ≡ true → not (has_choice patterns None) ≡ true → Agrees IsPossible (Ok patterns) (ok_or own fault.Pattern)
remembered-pattern patterns None h k = not-true (has_choice patterns None) k h
remembered-pattern patterns (Some text) h k = h

pub patterns-sound : (own : Option (List ℕ)) (s : State) (e : editor.State) → has_choice s.patterns e.pattern ≡ true → Agrees IsPossible (possible_patterns own s) (used_pattern own e)
patterns-sound None s e h = Agrees-needing IsPossible (not (has_choice s.patterns None)) fault.Pattern s.patterns (used_pattern None e) (λ k. remembered-pattern s.patterns e.pattern h k)
patterns-sound (Some text) s e h = has_choice-only (Some text)

-- lines that a letter marks none of

none-rest : (letter : ℕ) (l : Line) (ls : List Line) → line_with letter (l ∷ ls) ≡ None → line_with letter ls ≡ None
none-rest letter l ls h =
    (elim (has_letter letter l) as (λ b. cond b (Some 1) (one_more (line_with letter ls)) ≡ None → line_with letter ls ≡ None) [
      | true ↦ λ h. cc
      | false ↦ λ h. one_more-none _ h
    ]) h

none-dropped : (letter : ℕ) (ls : List Line) (k : ℕ) → line_with letter ls ≡ None → line_with letter (drop k ls) ≡ None
none-dropped letter ls zero h = h
none-dropped letter [] (suc k) h = h
none-dropped letter (l ∷ ls) (suc k) h = none-dropped letter ls k (none-rest letter l ls h)

-- what comes of the lines

-- which lines come of those that are addressed, with the pattern and the replacement
module _ (text : List ℕ) (replacement : List Part) (choice : Which) (s : State) (e : editor.State) (x : Span) (r : Ranges s e x) (followed : FollowedHold s r.spans.numbers e.lines)
    (possible : has_choice s.patterns (Some text) ≡ true) (whole : AreWhole e.lines) (kind : allows_replacement s.replacements (Some replacement) ≡ true) where
  abbrev block : List Line
  block = parts.between x.first x.last e.lines

  abbrev new : Results
  new = each (made_of text replacement choice) block

  block-size : length block ≡ x.last + 1 - x.first
  block-size = length-drop (x.first - 1) (take x.last e.lines) ∙ (let q = length-take-le x.last e.lines r.spans.last_in in let from = r.from in omega arith)

  -- without a split one line comes of each
  block-one : (list_any ends_line replacement ≡ false) → All (MakesOne (made_of text replacement choice) (made-some text replacement choice)) block
  block-one plain =
      All-weaker (λ (line : Line). IsLine line.bytes) (MakesOne (made_of text replacement choice) (made-some text replacement choice))
      (λ line is ts e. made-one text replacement choice plain line.bytes ts is e) block
      (All-drop (λ (line : Line). IsLine line.bytes) (x.first - 1) (take x.last e.lines)
      (All-take (λ (line : Line). IsLine line.bytes) x.last e.lines whole))

  exchanges : (splits : Bool) → (splits ≡ false → list_any ends_line replacement ≡ false) → Exchanges text splits x.first x.last e.lines new.0
  exchanges splits plain = record {
    least = let q = results-least (made_of text replacement choice) (made-some text replacement choice) block in let z = block-size in omega arith;
    same = λ k. results-same (made_of text replacement choice) (made-one text replacement choice (plain k)) block
        (All-drop (λ (line : Line). IsLine line.bytes) (x.first - 1) (take x.last e.lines)
        (All-take (λ (line : Line). IsLine line.bytes) x.last e.lines whole)) ∙ block-size;
    none = λ letter line h after.
        results-none (made_of text replacement choice) letter block (none-dropped letter (take x.last e.lines) (x.first - 1) (line_with-take_before letter e.lines x.last line h after));
    spared = λ letter line h low high unmatched.
        let q = results-spared (made_of text replacement choice) (made-some text replacement choice) letter (line - (x.first - 1)) block
        (line_with-between letter e.lines x.first x.last line h r.from low high)
        (made-unmatched text replacement choice _ (ap (λ (l : Line). matches text l.bytes) (at-between e.lines x.first x.last line r.from low high) ∙ unmatched)) in
        let from = r.from in
        let further = q.low in (
          x.first - 1 + q.place,
          line_with-replaced_within letter e.lines new.0 x.first x.last line q.place h r.from low q.there,
          omega arith,
          λ k. let same = q.same (block-one (plain k)) in omega arith,
        );
  }

  -- a substitution in each of the lines
  module _ (listed : Bool) (start : State) (begun : editor.State) (st : Begins start begun) (makes : All (IsMade (made_of text replacement choice)) block) where
    last-made : new.1 ≡ Some (length new.0)
    last-made =
        let z = block-size in
        let order = r.order in
        results-all (made_of text replacement choice) block makes (omega arith)

    surely-follows : Follows listed begun (surely_substituted listed start s) (Makes (effects.altered (parts.replaced x.first x.last new.0 e.lines) (x.first - 1 + length new.0) e))
    unfolding surely_substituted
    surely-follows =
        let lines : List Line = parts.replaced x.first x.last new.0 e.lines in
        let current : ℕ = x.first - 1 + length new.0 in
        let from = r.from in
        let order = r.order in
        let G : Bool → Type 0 = λ (b : Bool). Follows listed begun (modified listed start (with_zone (current_substituted b s.zone (marks_substituted b s).zone) (marks_substituted b s))) (Makes (effects.altered lines current e)) in
        (elim s.replacements.split as (λ b. s.replacements.split ≡ b → G b) [
          | true ↦ λ k.
              let by = exchanges true (λ z. absurd cc) in
              let q = exchanged-split text true s e x r followed possible new.0 by current (omega arith) in
              altered-aside listed start s (with_zone (current_split (bound s.zone 4 2) (bound s.zone 2 4) (marks_substituted true s).zone) (marks_substituted true s)) begun e st r.spans.stands.remembered r.spans.stands.past q.aside lines current q.numbers q.buffer
          | false ↦ λ k.
              let by = exchanges false (λ z. allows-plain s.replacements replacement kind k) in
              let size = by.same refl in
              let q = exchanged-last text false s e x r followed possible new.0 by refl current (omega arith) in
              altered-aside listed start s (with_zone (after_set (marks_substituted false s).zone 1 4 (pos 0)) (marks_substituted false s)) begun e st r.spans.stands.remembered r.spans.stands.past q.aside lines current q.numbers q.buffer
        ]) refl

  -- a substitution in some of them
  module _ (listed : Bool) (start : State) (begun : editor.State) (st : Begins start begun) where
    partly-follows : (n : ℕ) → new.1 ≡ Some n →
        Follows listed begun (partly_substituted listed start s) (Makes (effects.altered (parts.replaced x.first x.last new.0 e.lines) (x.first - 1 + n) e))
    unfolding partly_substituted
    partly-follows n is =
        let splits : Bool = s.replacements.split in
        let lines : List Line = parts.replaced x.first x.last new.0 e.lines in
        let current : ℕ = x.first - 1 + n in
        let from = r.from in
        let by = exchanges splits (λ k. allows-plain s.replacements replacement kind k) in
        let within = results-within (made_of text replacement choice) (made-some text replacement choice) block n is in
        let q = exchanged-within text splits s e x r followed possible new.0 by current (omega arith) (omega arith) in
        altered-aside listed start s (with_zone (current_within splits (marks_substituted splits s).zone) (marks_substituted splits s))
        begun e st r.spans.stands.remembered r.spans.stands.past q.aside lines current q.numbers q.buffer

-- what a rule makes of a state that an outcome leaves
abbrev Leads : (listed : Bool) → editor.State → State → Outcome → Type 0
Leads listed begun t o = Follows listed begun t (Makes o)

-- the outcome where some line was made
outcome : (listed : Bool) (form : Option Form) (x : Span) (e : editor.State) (new : Results) (n : ℕ) → new.1 ≡ Some n →
    made listed form x e new ≡ Ok (record (effects.altered (parts.replaced x.first x.last new.0 e.lines) (x.first - 1 + n) e) { output = flag_written form (x.first - 1 + n) (parts.replaced x.first x.last new.0 e.lines) })
outcome listed form x e (lines, None) n is = cc
outcome listed form x e (lines, Some m) n is = let q : m ≡ n = cc in ap (λ (k : ℕ). Ok (record (effects.altered (parts.replaced x.first x.last lines e.lines) (x.first - 1 + k) e) { output = flag_written form (x.first - 1 + k) (parts.replaced x.first x.last lines e.lines) })) q

-- in a list it may be that none was made
partly-leads : (form : Option Form) (start : State) (begun : editor.State) (x : Span) (s : State) (e : editor.State) (v : Stands s e) (new : Results) →
    ((n : ℕ) → new.1 ≡ Some n → Follows true begun (partly_substituted true start s) (Makes (effects.altered (parts.replaced x.first x.last new.0 e.lines) (x.first - 1 + n) e))) →
    Agrees (Leads true begun) (Ok (join s (partly_substituted true start s))) (made true form x e new)
partly-leads form start begun x s e v (lines, None) h = Stands-join s (partly_substituted true start s) e v
partly-leads form start begun x s e v (lines, Some n) h =
    Stands-join_other s (partly_substituted true start s) (settled true (editor.kept begun) (effects.altered (parts.replaced x.first x.last lines e.lines) (x.first - 1 + n) e)) (h n refl)

-- the lines from a number to the same one are that line
one-from : (ls : List Line) (k : ℕ) (d : Line) → k < length ls → drop k (take (suc k) ls) ≡ slice_index_or ls k d ∷ []
one-from [] k d h = absurd (omega arith)
one-from (l ∷ ls) zero d h = refl
one-from (l ∷ ls) (suc k) d h = one-from ls k d (omega arith)

pub one-between : (ls : List Line) (a b : ℕ) → 1 ≤ a → b ≡ a → a ≤ length ls → parts.between a b ls ≡ slice_index_or ls (a - 1) (plain_line []) ∷ []
one-between ls zero b from same inside = absurd (omega arith)
one-between ls (suc k) b from same inside =
    let q : suc k - 1 ≡ k = omega arith in
    subst (λ (n : ℕ). parts.between (suc k) n ls ≡ slice_index_or ls (suc k - 1) (plain_line []) ∷ []) (sym same)
    (subst (λ (n : ℕ). drop n (take (suc k) ls) ≡ slice_index_or ls n (plain_line []) ∷ []) (sym q) (one-from ls k (plain_line []) (omega arith)))

-- a line from a number to another that matches is among the lines between them
between-matched : (text : List ℕ) (ls : List Line) (a b n : ℕ) → 1 ≤ a → a ≤ n → n ≤ b → b ≤ length ls → matches_line text ls n ≡ true →
    is_matched (parts.between a b ls) text ≡ true
between-matched text ls a b n from low high inside h =
    let size : length (parts.between a b ls) ≡ b + 1 - a =
    length-drop (a - 1) (take b ls) ∙ (let q = length-take-le b ls inside in omega arith) in
    let there : get_or (parts.between a b ls) (n - a) (plain_line []) ≡ get_or ls (n - 1) (plain_line []) =
    get_or-drop (a - 1) (take b ls) (n - a) (plain_line []) ∙ get_or-take b ls (a - 1 + (n - a)) (plain_line []) (omega arith)
    ∙ ap (λ (i : ℕ). get_or ls i (plain_line [])) (omega arith) in
    list_any_at (λ (line : Line). matches text line.bytes) (parts.between a b ls) (n - a) (plain_line []) (omega arith)
    (ap (λ (line : Line). matches text line.bytes) there ∙ h)

-- all lines are those from 1 to the last one
all-between : (ls : List Line) (a b : ℕ) → 1 ≡ a → length ls ≡ b → parts.between a b ls ≡ ls
all-between ls a b first last =
    let P : ℕ → ℕ → Type 0 = λ (a b : ℕ). parts.between a b ls ≡ ls in
    subst (λ (a : ℕ). P a b) first (subst (λ (b : ℕ). P 1 b) last (take_all (length ls) ls (omega arith)))

-- pattern and replacement are there
module _ (text : List ℕ) (replacement : List Part) (choice : Which) (form : Option Form) (start : State) (begun : editor.State) (st : Begins start begun) (x : Span) (s : State) (e : editor.State) (r : Ranges s e x)
    (whole : AreWhole e.lines) (possible : has_choice s.patterns (Some text) ≡ true) (kind : allows_replacement s.replacements (Some replacement) ≡ true)
    (followed : FollowedHold s r.spans.numbers e.lines) (matched : AreMatched s.matches.has e.lines) where
  abbrev addressed_lines : List Line
  addressed_lines = parts.between x.first x.last e.lines

  abbrev results : Results
  results = each (made_of text replacement choice) addressed_lines

  -- the one line that is known to match
  known-makes : is_known_line s text ≡ true → takes_first choice ≡ true → All (IsMade (made_of text replacement choice)) addressed_lines
  known-makes k first =
      let v : Numbers = r.spans.numbers in
      let q = and_parts s.follows (known s.zone 4 3 (pos 0) && tells s.zone s.facts 3 text true) k in
      let w = and_parts (known s.zone 4 3 (pos 0)) (tells s.zone s.facts 3 text true) q.1 in
      let holds = r.spans.stands.buffer.holds in
      let d = known-true s.zone v 4 3 (pos 0) w.0 (omega arith) (omega arith) holds in
      let f = r.spans.first_is in
      let l = r.spans.last_is in
      let from = r.from in
      let order = r.order in
      let inside = r.spans.first_in in
      let same : x.last ≡ x.first = omega (arith, ints) in
      let matched : matches_line text e.lines x.first ≡ true =
      tells-true s.zone s.facts v e.lines 3 x.first text true w.1 (omega arith) holds (followed q.0) f from inside in
      let Q : Line → Type 0 = IsMade (made_of text replacement choice) in
      subst (λ (ls : List Line). All Q ls) (sym (one-between e.lines x.first x.last from same inside))
      (All-cons Q (slice_index_or e.lines (x.first - 1) (plain_line [])) [] (matching-makes text replacement choice _ matched first) (All-nil Q))

  each-makes : matches_each s (Some text) ≡ true → takes_first choice ≡ true → All (IsMade (made_of text replacement choice)) addressed_lines
  each-makes k first =
      elim (or_cases (is_always (Some text)) (is_known_line s text) k) [
        | inl always ↦ made-each (made_of text replacement choice) (λ line. always-makes text replacement choice always first line) addressed_lines
        | inr one ↦ known-makes one first
      ]

  sure-sound : (listed : Bool) → is_sure_to_match s choice ≡ true →
      Agrees (Leads listed begun) (Ok (surely_substituted listed start s)) (made listed form x e results)
  sure-sound listed k =
      let q = and_parts (list_all (matches_each s) s.patterns) (takes_first choice) k in
      let each_one : matches_each s (Some text) ≡ true = has_choice-all (matches_each s) s.patterns (Some text) q.0 possible in
      let makes = each-makes each_one q.1 in
      Agrees-ok (Leads listed begun) (surely_substituted listed start s) _ (made listed form x e results)
      (outcome listed form x e results (length results.0) (last-made text replacement choice s e x r followed possible whole kind listed start begun st makes))
      (surely-follows text replacement choice s e x r followed possible whole kind listed start begun st makes)

  -- an addressed line that is known to match
  among-matched : s.follows ≡ true → list_any (is_match_among s.zone text) s.facts.lines ≡ true → is_matched addressed_lines text ≡ true
  among-matched follows k =
      let v : Numbers = r.spans.numbers in
      let holds = r.spans.stands.buffer.holds in
      any-gives (is_match_among s.zone text) (LineFactHolds v e.lines) (is_matched addressed_lines text ≡ true) s.facts.lines
      (followed follows).of_lines
      (λ f t m.
      let p = and_parts (matches_it text f) _ m in
      let one = witness-of v e.lines text f t p.0 in
      let w = and_parts (le s.zone (at 3) (at f.name) (pos 0)) (le s.zone (at f.name) (at 4) (pos 0)) p.1 in
      let low = le-true s.zone v (at 3) (at f.name) (pos 0) w.0 (omega arith) one.named holds in
      let high = le-true s.zone v (at f.name) (at 4) (pos 0) w.1 one.named (omega arith) holds in
      let is = one.is in
      let first = r.spans.first_is in
      let last = r.spans.last_is in
      between-matched text e.lines x.first x.last one.line r.from (omega (arith, ints)) (omega (arith, ints)) r.spans.last_in one.passes) k

  -- all lines are addressed, and some line matches
  all-matched : takes_all s.zone && is_member s.matches.has text ≡ true → is_matched addressed_lines text ≡ true
  all-matched k =
      let v : Numbers = r.spans.numbers in
      let holds = r.spans.stands.buffer.holds in
      let q = and_parts (takes_all s.zone) (is_member s.matches.has text) k in
      let w = and_parts (known s.zone 3 0 (pos 1)) (known s.zone 2 4 (pos 0)) q.0 in
      let low = known-true s.zone v 3 0 (pos 1) w.0 (omega arith) (omega arith) holds in
      let high = known-true s.zone v 2 4 (pos 0) w.1 (omega arith) (omega arith) holds in
      let first = r.spans.first_is in
      let last = r.spans.last_is in
      let zero_is = r.spans.stands.buffer.reads.zero_is in
      let end_is = r.spans.stands.buffer.reads.last_is in
      let from = r.from in
      let inside = r.spans.last_in in
      subst (λ (ls : List Line). is_matched ls text ≡ true)
      (sym (all-between e.lines x.first x.last (omega (arith, ints)) (omega (arith, ints))))
      (member-matched s.matches.has text e.lines q.1 matched)

  some-matched : s.follows ≡ true → matches_some s (Some text) ≡ true → is_matched addressed_lines text ≡ true
  some-matched follows k =
      elim (or_cases (is_matched_among s text) (is_always (Some text)) k) [
        | inl known ↦ elim (or_cases (list_any (is_match_among s.zone text) s.facts.lines) _ known) [
          | inl among ↦ among-matched follows among
          | inr all ↦ all-matched all
        ]
        | inr always ↦
            let size = block-size text replacement choice s e x r followed possible whole kind in
            let from = r.from in
            let order = r.order in
            always-matched text addressed_lines always (omega arith)
      ]

  some-sound : (listed : Bool) → is_sure_of_some s choice ≡ true →
      Agrees (Leads listed begun) (Ok (partly_substituted listed start s)) (made listed form x e results)
  some-sound listed k =
      let q = and_parts s.follows _ k in
      let w = and_parts (list_all (matches_some s) s.patterns) (takes_first choice) q.1 in
      let one : matches_some s (Some text) ≡ true = has_choice-all (matches_some s) s.patterns (Some text) w.0 possible in
      let m =
      results-some (made_of text replacement choice) (matches text) (λ line h. matching-makes text replacement choice line h w.1)
      addressed_lines (some-matched q.0 one) in
      Agrees-ok (Leads listed begun) (partly_substituted listed start s) _ (made listed form x e results)
      (outcome listed form x e results m.0 m.1) (partly-follows text replacement choice s e x r followed possible whole kind listed start begun st m.0 m.1)

  -- nothing is sure to match
  none-sound : (listed : Bool) → Agrees (Leads listed begun) (substituted_if false false listed start s) (made listed form x e results)
  none-sound true =
      partly-leads form start begun x s e (r.spans.numbers, r.spans.stands) results
      (λ n is. partly-follows text replacement choice s e x r followed possible whole kind true start begun st n is)
  none-sound false = tt

  made-sound : (listed : Bool) →
      Agrees (Leads listed begun) (substituted_if (is_sure_to_match s choice) (is_sure_of_some s choice) listed start s)
      (made listed form x e results)
  made-sound listed =
      let G : Bool → Bool → Type 0 = λ (all some : Bool).
      Agrees (Leads listed begun) (substituted_if all some listed start s) (made listed form x e results) in
      (elim (is_sure_to_match s choice) as (λ b. is_sure_to_match s choice ≡ b → G b (is_sure_of_some s choice)) [
        | true ↦ λ k. sure-sound listed k
        | false ↦ λ _.
            (elim (is_sure_of_some s choice) as (λ b. is_sure_of_some s choice ≡ b → G false b) [
              | true ↦ λ k. some-sound listed k
              | false ↦ λ _. none-sound listed
            ]) refl
      ]) refl

-- the states with what is used

-- the addressed lines, where what is said of single lines is true of the same numbers, and what is said of matches too
abbrev pub RangesKnown : State → editor.State → Span → Type 0
RangesKnown s e x = (r : Ranges s e x) × (FollowedHold s r.spans.numbers e.lines × AreMatched s.matches.has e.lines)

abbrev Uses : editor.State → Span → State → List Part → Type 0
Uses e x t parts = RangesKnown t (record e { replacement = Some parts }) x

Ranges-replacement : (s : State) (e : editor.State) (x : Span) (kinds : Replacements) (parts : List Part) → Ranges s e x → allows_replacement kinds (Some parts) ≡ true →
    Ranges (record s { replacements = kinds }) (record e { replacement = Some parts }) x
Ranges-replacement s e x kinds parts r k = Ranges-by r refl (record {
  buffer = record { holds = r.spans.stands.buffer.holds; reads = r.spans.stands.buffer.reads; inside = r.spans.stands.buffer.inside };
  remembered = (r.spans.stands.remembered.0, k, r.spans.stands.remembered.2);
  changed = r.spans.stands.changed;
  past = r.spans.stands.past;
})

Ranges-pattern : (s : State) (e : editor.State) (x : Span) (patterns : List Choice) (text : List ℕ) → Ranges s e x → has_choice patterns (Some text) ≡ true →
    Ranges (record s { patterns = patterns }) (record e { pattern = Some text }) x
Ranges-pattern s e x patterns text r k = Ranges-by r refl (StandsBy-patterns s e r.spans.numbers patterns (Some text) k r.spans.stands)

Agrees-as : {A B C : Type 0} (R : A → B → Type 0) (S : C → B → Type 0) (a : A) (c : C) (y : Result B Fault) → Agrees R (Ok a) y → ((b : B) → R a b → S c b) → Agrees S (Ok c) y
Agrees-as R S a c (Ok b) h k = k b h
Agrees-as R S a c (Err f) h k = absurd h

Agrees-made : {A B C : Type 0} (R : A → B → Type 0) (S : C → B → Type 0) (x : Result A Fault) (y : Result B Fault) (g : A → C) → Agrees R x y → ((a : A) (b : B) → R a b → S (g a) b) → Agrees S (x >> λ a. Ok (g a)) y
Agrees-made R S (Err f) y g h k = tt
Agrees-made R S (Ok a) (Ok b) g h k = k a b h
Agrees-made R S (Ok a) (Err f) g h k = absurd h

replacement-sound : (listed : Bool) (own : Option (List Part)) (s : State) (e : editor.State) (x : Span) → RangesKnown s e x →
    Agrees (Uses e x) (replacement_used listed own s) (used_replacement listed own e)
unfolding Ranges-replacement Ranges-by Spans-by
replacement-sound listed None s e x r =
    let t : State = record s { replacements = s.replacements } in
    Agrees-needing (Uses e x) (has_usable listed s.replacements) fault.Replacement t (used_replacement listed None e) (λ k.
    Agrees-as UsesKind (Uses e x) s.replacements t (used_replacement listed None e) (remembered-kind listed s.replacements e.replacement r.0.spans.stands.remembered.1 k)
    (λ parts q. (Ranges-replacement s e x s.replacements parts r.0 q, r.1)))
replacement-sound listed (Some parts) s e x r =
    let t : State = record s { replacements = kind_of parts } in
    Agrees-needing (Uses e x) (has_usable listed (kind_of parts)) fault.Replacement t (used_replacement listed (Some parts) e) (λ k. (Ranges-replacement s e x (kind_of parts) parts r.0 (kind-allows parts), r.1))

abbrev Looks : editor.State → Span → State → List ℕ → Type 0
Looks e x t text = RangesKnown t (record e { pattern = Some text }) x

pattern-sound : (own : Option (List ℕ)) (s : State) (e : editor.State) (x : Span) → RangesKnown s e x →
    Agrees (Looks e x) (pattern_used own s) (used_pattern own e)
unfolding Ranges-pattern Ranges-by Spans-by
pattern-sound own s e x r =
    Agrees-made IsPossible (Looks e x) (possible_patterns own s) (used_pattern own e) (λ patterns. record s { patterns = patterns }) (patterns-sound own s e r.0.spans.stands.remembered.0)
    (λ patterns text k. (Ranges-pattern s e x patterns text r.0 k, r.1))

-- the replacement has no say in which pattern is used
used-same : (own : Option (List ℕ)) (e : editor.State) (parts : List Part) → used_pattern own (record e { replacement = Some parts }) ≡ used_pattern own e
used-same None e parts = refl
used-same (Some text) e parts = refl

-- `s`
substitute-leads : (listed : Bool) (pattern : Option (List ℕ)) (replacement : Option (List Part)) (choice : Which) (form : Option Form) (start : State) (begun : editor.State) → Begins start begun → (s : State) (e : editor.State) (x : Span) →
    RangesKnown s e x → AreWhole e.lines →
    Agrees (Leads listed begun)
    (replacement_used listed replacement s >> λ t. pattern_used pattern t >> λ u.
    substituted_if (is_sure_to_match u choice) (is_sure_of_some u choice) listed start u)
    (substitute listed pattern replacement choice form x e)
substitute-leads listed pattern replacement choice form start begun st s e x r whole =
    Agrees-bind (Uses e x) (Leads listed begun) (replacement_used listed replacement s) (used_replacement listed replacement e) _ _ (replacement-sound listed replacement s e x r)
    (λ t parts k. Agrees-bind (Looks (record e { replacement = Some parts }) x) (Leads listed begun) (pattern_used pattern t) (used_pattern pattern e) _ _
    (subst (λ (y : Result (List ℕ) Fault). Agrees (Looks (record e { replacement = Some parts }) x) (pattern_used pattern t) y) (used-same pattern e parts)
    (pattern-sound pattern t (record e { replacement = Some parts }) x k))
    (λ u text q.
    made-sound text parts choice form start begun st x u (record e { pattern = Some text; replacement = Some parts }) q.0 whole q.0.spans.stands.remembered.0 q.0.spans.stands.remembered.1
    (q.1).0 (q.1).1 listed))

pub substitute-follows : (listed : Bool) (pattern : Option (List ℕ)) (replacement : Option (List Part)) (choice : Which) (form : Option Form) (start : State) (begun : editor.State) → Begins start begun → (s : State) (e : editor.State) (x : Span) →
    RangesKnown s e x → AreWhole e.lines → Agrees (Follows listed begun) (substituted listed pattern replacement choice start s) (making (substitute listed pattern replacement choice form x e))
substitute-follows listed pattern replacement choice form start begun st s e x r whole =
    Agrees-map (Leads listed begun) (Follows listed begun) (substituted listed pattern replacement choice start s) (substitute listed pattern replacement choice form x e) (λ o. Makes o)
    (subst (λ (y : Result State Fault). Agrees (Leads listed begun) y (substitute listed pattern replacement choice form x e))
    (sym (bind-twice (replacement_used listed replacement s) (pattern_used pattern)
    (λ t. substituted_if (is_sure_to_match t choice) (is_sure_of_some t choice) listed start t)))
    (substitute-leads listed pattern replacement choice form start begun st s e x r whole))
    (λ a b h. h)
