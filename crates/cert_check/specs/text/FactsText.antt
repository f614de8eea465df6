-- Which facts of lines have lines in a certificate's text.
use Rattle.std.specs.Prelude.{◌≡◌, ◌<◌, ℕ, ◌==◌, Bool, true, false, not, ◌&&◌, ◌||◌, List, [], ◌∷◌, All}
use Rattle.std.specs.Ordering.{nat_cmp, is_lt, ordering_then}
use Rattle.std.specs.Cmp.Lexicographic.{slice_cmp}
use Rattle.std.specs.declared.cmp.Ordering.{Ordering}
use Rattle.zones.specs.Name as name
use Rattle.cert_check.specs.declared.certificate.Version.{Version}
use Rattle.cert_check.specs.declared.certificate.Version.TheVariants.{One, Two, Three}
use Rattle.ed_rules.specs.Formed.{has_name}
use Rattle.ed_rules.specs.facts.Facts.{LineFact, Stretch, Facts, end, no_facts}
-- which lines these are
pub use Rattle.cert_check.specs.text.Text.{edge_word, answer_word, fact_word, stretch_word, known_line, clear_line, facts_lines, old_facts_lines}

-- a text is bytes
abbrev pub AreBytes : List ℕ → Type 0
AreBytes bytes = All (λ byte. byte < 256) bytes

-- a line is named by `.`, `$` or a sure letter
abbrev pub names_line : List Bool → (place : ℕ) → Bool
names_line marks place = has_name marks place && not (place == name.zero)

-- a stretch begins after `0`, `.` or a sure letter
abbrev pub begins_stretch : List Bool → (place : ℕ) → Bool
begins_stretch marks place = has_name marks place && not (place == name.last_line || place == end)

-- and it ends before `.`, a sure letter or the end
abbrev pub ends_stretch : List Bool → (place : ℕ) → Bool
ends_stretch marks place = place == end || (has_name marks place && not (place == name.zero || place == name.last_line))

-- facts of lines stand by name and then by pattern
abbrev pub fact_order : LineFact → LineFact → Ordering
fact_order f g = ordering_then (nat_cmp f.name g.name) (slice_cmp nat_cmp f.pattern g.pattern)

-- stretches by both names and then by pattern
abbrev pub stretch_order : Stretch → Stretch → Ordering
stretch_order s t = ordering_then (nat_cmp s.after t.after) (ordering_then (nat_cmp s.before t.before) (slice_cmp nat_cmp s.pattern t.pattern))

-- each stands before those after it, so that none stands twice
abbrev pub is_rising_by : {A : Type 0} → (order : A → A → Ordering) → List A → Bool
is_rising_by order [] = true
is_rising_by order (a ∷ []) = true
is_rising_by order (a ∷ b ∷ items) = is_lt (order a b) && is_rising_by order (b ∷ items)

-- a fact that can be written beside these letters
pub record FactIsFormed (marks : List Bool) (f : LineFact) : Type 0 where
  pub named : names_line marks f.name ≡ true
  pub bytes : AreBytes f.pattern

-- a stretch that can: none goes from a name to itself
pub record StretchIsFormed (marks : List Bool) (s : Stretch) : Type 0 where
  pub after : begins_stretch marks s.after ≡ true
  pub before : ends_stretch marks s.before ≡ true
  pub apart : (s.after == s.before) ≡ false
  pub bytes : AreBytes s.pattern

-- facts of lines: there is one answer at most for a name and a pattern
pub record KnownAreFormed (marks : List Bool) (facts : List LineFact) : Type 0 where
  pub each : All (FactIsFormed marks) facts
  pub rising : is_rising_by fact_order facts ≡ true

pub record ClearAreFormed (marks : List Bool) (stretches : List Stretch) : Type 0 where
  pub each : All (StretchIsFormed marks) stretches
  pub rising : is_rising_by stretch_order stretches ≡ true

-- facts that have lines
pub record FactsAreFormed (marks : List Bool) (facts : Facts) : Type 0 where
  pub known : KnownAreFormed marks facts.lines
  pub clear : ClearAreFormed marks facts.clear

-- what is told of lines beside these letters: from version 3 on facts that have lines, and nothing before
abbrev pub AreToldIn : Version → List Bool → Facts → Type 0
AreToldIn One marks facts = facts ≡ no_facts
AreToldIn Two marks facts = facts ≡ no_facts
AreToldIn Three marks facts = FactsAreFormed marks facts
