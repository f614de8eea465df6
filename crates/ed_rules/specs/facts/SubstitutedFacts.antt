-- What is known of lines after an `s` that makes one line of each line, over a range.
use Rattle.std.specs.Prelude.{◌≡◌, ℕ, ◌<◌, ◌≤◌, pos, Bool, true, false, ◌&&◌, ◌||◌, not, nat_eq, ◌==◌, List, ◌∷◌, length, filter, All, Option, Some, None}
use Rattle.std.specs.List.{list_any, list_all}
use Rattle.zones.specs.Name as name
use Rattle.zones.specs.Zone.{Bounds, Numbers, Holds}
use Rattle.ed_base.specs.Buffer.{Line}
use Rattle.ed_syntax.specs.meaning.Values.{matches}
use Rattle.ed_rules.specs.facts.Facts.{Stretch, Facts, FactsHold, same_text, at, point, end, le, below, may_hold_lines, is_clear, tells}
use Rattle.ed_rules.specs.facts.EditedFacts.{stretches}

-- the line x surely isn't changed: it isn't one of those, or matches none of the patterns that may be looked for
abbrev pub is_spared : Bounds → Facts → (possible : List (List ℕ)) → (x : ℕ) → Bool
is_spared zone facts possible x =
    below zone (at x) (at name.first_address) || (below zone (at name.second_address) (at x) ||
    list_all (λ q. tells zone facts x q false) possible)

-- The stretch was clear, and none of its lines is changed, or a line that doesn't match doesn't become one that does.
abbrev pub stretch_spared : Bounds → Facts → (possible spared : List (List ℕ)) → Stretch → Bool
stretch_spared zone facts possible spared s =
    let x = point s.after in
    let y = point s.before in
    may_hold_lines zone x y && (is_clear zone facts x y s.pattern &&
    (list_any (λ p. same_text p s.pattern) spared || (le zone y (at name.first_address) (pos 0) ||
    (le zone (at name.second_address) x (pos 0) ||
    list_all (λ q. is_clear zone facts x y q) possible))))

abbrev pub substituted_facts : Bounds → Facts → (possible spared : List (List ℕ)) → (kept : List ℕ) →
    (patterns : List (List ℕ)) → Facts
substituted_facts zone facts possible spared kept patterns = record {
  lines = filter (λ f. (list_any (nat_eq f.name) kept || f.name == name.last_line) && is_spared zone facts possible f.name) facts.lines;
  clear = filter (stretch_spared zone facts possible spared) (stretches (name.zero ∷ kept) (end ∷ kept) patterns);
}

-- what a substitution makes of a line's bytes: nothing where it changes nothing
abbrev pub Makes : Type 0
Makes = (bytes : List ℕ) → Option (List (List ℕ))

-- it makes one line of each that it changes; it changes none that matches none of these patterns; of a line that one of those doesn't match it
-- makes one that it doesn't match either
pub record MakesOfEach (f : Makes) (possible spared : List (List ℕ)) : Type 0 where
  pub one : (bytes : List ℕ) (texts : List (List ℕ)) → f bytes ≡ Some texts → length texts ≡ 1
  pub unmatched : (bytes : List ℕ) → list_all (λ q. not (matches q bytes)) possible ≡ true → f bytes ≡ None
  pub spares : (pattern bytes : List ℕ) (texts : List (List ℕ)) → list_any (λ p. same_text p pattern) spared ≡ true →
      f bytes ≡ Some texts →
      matches pattern bytes ≡ false → list_any (matches pattern) texts ≡ false

-- An `s` of the lines a to b, by these numbers; but for the current line no number changes.
pub record IsSubstituted (zone : Bounds) (facts : Facts) (kept : List ℕ) (number after : Numbers) (old : List Line)
    (a b : ℕ) : Type 0 where
  pub holds : Holds zone number
  pub facts_hold : FactsHold facts number old
  pub first_is : number name.first_address ≡ pos a
  pub second_is : number name.second_address ≡ pos b
  pub from : 1 ≤ a
  pub order : a ≤ b
  pub inside : b ≤ length old
  pub last_same : after name.last_line ≡ number name.last_line
  pub zero_same : after name.zero ≡ number name.zero
  pub stay : All (λ x. (x < 32) × (after x ≡ number x)) kept
