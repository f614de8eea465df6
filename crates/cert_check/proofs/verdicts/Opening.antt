-- The start stands for an editor that was just opened.
use Rattle.std.proofs.Common.{◌≡◌, ◌≤◌, ℕ, pos, neg_ℤ, true, false, ◌&&◌, ◌||◌, List, [], ◌∷◌, map, length, Option, None, Some, arith, ◌∙◌, refl, sym, ap, subst}
use Rattle.std.specs.List.{list_all, list_any}
use Rattle.std.proofs.lemmas.Int.{ints}
use Rattle.std.proofs.lemmas.List.{length-map}
use Rattle.std.proofs.lemmas.List.Elements.{All-nil}
use Rattle.ed_base.specs.Buffer.{Line, plain_line}
use Rattle.ed_base.specs.Lines.{lines_of}
use Rattle.zones.specs.Zone.{Bounds, Numbers, Holds, updated}
use Rattle.zones.specs.Steps.{any_zone, after_guard}
use Rattle.zones.proofs.Soundness.{Holds-any_zone, Holds-after_guard, Holds-after_set}
use Rattle.ed_syntax.specs.meaning.CommandLaws.{FilesAreWellMarked, FilesAreWhole}
use Rattle.ed_syntax.specs.meaning.Values.{matches}
use Rattle.ed_rules.specs.Matched.{is_matched, AreMatched}
use Rattle.ed_rules.specs.States.{limited, start}
use Rattle.ed_rules.specs.Choices.{Choice}
use Rattle.ed_rules.specs.LineBounds.{IsAtMost, IsWithin}
use Rattle.cert_check.specs.checker.Opening.{Match, StartIsSound}
use Rattle.ed_rules.proofs.Choosing.{has_choice-only}
use Rattle.ed_rules.proofs.sound.LettersInLines.{no_letter}
use Rattle.ed_rules.proofs.sound.Lettered.{lettered}
use Rattle.ed_rules.specs.facts.Facts.{FactsHold, LineFactHolds, StretchHolds, no_facts}

-- where nothing is said of single lines, that is true
pub nothing-holds : (v : Numbers) (lines : List Line) → FactsHold no_facts v lines
nothing-holds v lines = record { of_lines = All-nil (LineFactHolds v lines); of_clear = All-nil (StretchHolds v lines) }

limited-holds : (max : Option ℕ) (zone : Bounds) (count : ℕ) (v : Numbers) → IsAtMost count max → v 0 ≡ pos 0 → v 2 ≡ pos count → Holds zone v → Holds (limited max zone) v
limited-holds None zone count v h zero_is last_is holds = holds
limited-holds (Some max) zone count v h zero_is last_is holds = Holds-after_guard zone 2 0 (pos max) v (omega arith) (omega arith) holds (omega (arith, ints))

-- a text is matched just where the line that is made of it is
entered-same : (pattern : List ℕ) (texts : List (List ℕ)) → list_any (matches pattern) texts ≡ is_matched (map plain_line texts) pattern
entered-same pattern [] = refl
entered-same pattern (text ∷ texts) = ap (λ b. matches pattern text || b) (entered-same pattern texts)

matched-same : (patterns texts : List (List ℕ)) → list_all (λ pattern. list_any (matches pattern) texts) patterns ≡ list_all (is_matched (map plain_line texts)) patterns
matched-same [] texts = refl
matched-same (pattern ∷ patterns) texts =
    ap (λ b. b && list_all (λ other. list_any (matches other) texts) patterns) (entered-same pattern texts)
    ∙ ap (λ b. is_matched (map plain_line texts) pattern && b) (matched-same patterns texts)

lines-match : (patterns texts : List (List ℕ)) → Match patterns texts → AreMatched patterns (map plain_line texts)
lines-match patterns texts h = sym (matched-same patterns texts) ∙ h

-- the bounds at the start hold of all numbers that are those of so many lines, the last one current
pub start-holds : (path : Choice) (min : ℕ) (max : Option ℕ) (has : List (List ℕ)) (count : ℕ) (v : Numbers) →
    IsWithin min max count → v 0 ≡ pos 0 → v 1 ≡ pos count → v 2 ≡ pos count → Holds (start path min max has).zone v
unfolding start
start-holds path min max has count v within zero_is current_is last_is =
    let begun = after_guard any_zone 0 2 (neg_ℤ (pos min)) in
    let least : min ≤ count = within.0 in
    let holds : Holds (limited max begun) v =
    limited-holds max begun count v within.1 zero_is last_is
    (Holds-after_guard any_zone 0 2 (neg_ℤ (pos min)) v (omega arith) (omega arith) (Holds-any_zone v) (omega (arith, ints))) in
    Holds-after_set (limited max begun) 1 2 (pos 0) v v (omega arith) (omega arith) holds (λ p other. refl) (omega (arith, ints))

pub start-sound : FilesAreWellMarked → FilesAreWhole → StartIsSound
unfolding start
start-sound marked whole path min max has bytes within matched =
    let texts : List (List ℕ) = lines_of bytes in
    let lines : List Line = map plain_line texts in
    let count : ℕ = length lines in
    let size : count ≡ length texts = length-map texts plain_line in
    let w : Numbers = updated (updated (λ (_ : ℕ). pos 0) 2 (pos count)) 1 (pos count) in
    let fits : IsWithin min max count = subst (λ (n : ℕ). IsWithin min max n) (sym size) within in
    record {
      numbers = w;
      stands = record {
        buffer = record {
          holds = start-holds path min max has count w fits refl refl refl;
          reads = record { zero_is = refl; current_is = refl; last_is = refl; marks_are = λ letter l q. let f : false ≡ true = sym (no_letter 26 letter) ∙ q in absurd cc };
          inside = omega arith;
        };
        remembered = (refl, refl, has_choice-only path);
        changed = refl;
        past = refl;
      };
      lines = lettered lines (marked bytes) (whole bytes);
      kept = tt;
      matches = (lines-match has texts matched, tt);
      facts = nothing-holds w lines;
    }
