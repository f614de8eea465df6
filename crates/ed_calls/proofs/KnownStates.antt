-- What is known of a state is true of each editor that it stands for.
use Rattle.std.proofs.Common.{◌≡◌, ◌∙◌, ◌≤◌, ◌<◌, ◌==◌, ◌||◌, ℕ, zero, suc, ℤ, pos, negsuc, ◌-ℤ◌, Bool, true, false, List, Option, Some, None, length, get_or, refl, sym, ap, subst, arith}
use Rattle.std.specs.Prelude.{All, if◌then◌else◌}
use Rattle.std.specs.List.{filter}
use Rattle.std.proofs.lemmas.Bool.{eqb-true}
use Rattle.std.proofs.lemmas.List.Elements.{All-filter, filter_passes}
use Rattle.std.proofs.lemmas.Int.{ints}
use Rattle.zones.specs.Name as name
use Rattle.zones.specs.Bound.{Obeys, negative_of}
use Rattle.zones.specs.Zone.{Bounds, Numbers, Holds, bound}
use Rattle.zones.specs.Known.{known, is_within}
use Rattle.ed_syntax.specs.meaning.States as editor
use Rattle.ed_rules.specs.declared.state.State.{State}
use Rattle.ed_rules.specs.LineBounds.{IsWithin, IsAtMost}
use Rattle.ed_rules.specs.StandsFor.{Reads, StandsFor, allows_change}
use Rattle.ed_rules.specs.facts.Facts.{LineFact, LineFactHolds, IsTold}
use Rattle.ed_syntax.specs.meaning.Values.{matches_line}
use Rattle.ed_calls.specs.Known.{IsFactOf, IsTrueOf, TellsChange, bounds_of, change_of, is_shown, known_of, least_of, line_told, most_of}

at-least : (n : ℕ) (b : Option ℤ) → Obeys (pos 0 -ℤ pos n) b → least_of (negative_of b) ≤ n
at-least n None h = omega arith
at-least n (Some (pos zero)) h = omega arith
at-least n (Some (pos (suc m))) h = omega arith
at-least n (Some (negsuc m)) h = omega (arith, ints)

at-most : (n : ℕ) (b : Option ℤ) → Obeys (pos n -ℤ pos 0) b → IsAtMost n (most_of b)
at-most n None h = tt
at-most n (Some (pos m)) h = omega (arith, ints)
at-most n (Some (negsuc m)) h = omega (arith, ints)

-- a zone bounds a number that one of its names stands for
within : (zone : Bounds) (number : Numbers) (x n : ℕ) → x < 32 → Holds zone number → number name.zero ≡ pos 0 → number x ≡ pos n →
    IsWithin (bounds_of zone x).min (bounds_of zone x).max n
unfolding Holds
within zone number x n small holds none is =
    let low = subst (λ (m : ℤ). Obeys (m -ℤ number x) (bound zone name.zero x)) none (holds name.zero x (omega arith) small) in
    let high = subst (λ (m : ℤ). Obeys (number x -ℤ m) (bound zone x name.zero)) none (holds x name.zero small (omega arith)) in (
      at-least n (bound zone name.zero x) (subst (λ (m : ℤ). Obeys (pos 0 -ℤ m) (bound zone name.zero x)) is low),
      at-most n (bound zone x name.zero) (subst (λ (m : ℤ). Obeys (m -ℤ pos 0) (bound zone x name.zero)) is high),
    )

is-last : (b : Option ℤ) (all current : ℕ) → is_within b (pos 0) ≡ true → Obeys (pos all -ℤ pos current) b → current ≤ all → current ≡ all
is-last None all current is h inside = absurd (let e = is in cc)
is-last (Some c) all current is h inside = grind (arith, ints)

-- a line that is known to be the last one is
last : (zone : Bounds) (number : Numbers) (all current : ℕ) → Holds zone number → number name.last_line ≡ pos all → number name.current_line ≡ pos current → current ≤ all →
    known zone name.last_line name.current_line (pos 0) ≡ true → current ≡ all
unfolding Holds known
last zone number all current holds lines line inside is =
    let part = holds name.last_line name.current_line (omega arith) (omega arith) in
    let read = subst (λ (m : ℤ). Obeys (m -ℤ number name.current_line) (bound zone name.last_line name.current_line)) lines part in
    is-last (bound zone name.last_line name.current_line) all current is
    (subst (λ (m : ℤ). Obeys (pos all -ℤ m) (bound zone name.last_line name.current_line)) line read) inside

changes : (yes no changed : Bool) → allows_change (record { no = no; yes = yes }) changed ≡ true → TellsChange (change_of (record { no = no; yes = yes })) changed
changes true true changed is = tt
changes true false true is = refl
changes true false false is = absurd (let e = is in cc)
changes false true true is = absurd (let e = is in cc)
changes false true false is = refl
changes false false true is = absurd (let e = is in cc)
changes false false false is = refl

-- the number of a line that is told of
numbered : (marks : List Bool) (number : Numbers) (e : editor.State) (x : ℕ) (is_current : Bool) → Reads marks e.lines e.current number →
    (x == name.current_line) ≡ is_current → (is_current || x == name.last_line) ≡ true → number x ≡ pos (if is_current then e.current else length e.lines)
numbered marks number e x true reads is shown = ap number (eqb-true x name.current_line is) ∙ reads.current_is
numbered marks number e x false reads is shown = ap number (eqb-true x name.last_line shown) ∙ reads.last_is

-- a fact of such a line is true of it
fact-of : (marks : List Bool) (number : Numbers) (e : editor.State) (f : LineFact) → Reads marks e.lines e.current number →
    LineFactHolds number e.lines f → is_shown f ≡ true → IsFactOf e f
fact-of marks number e f reads h shown =
    subst (λ (m : ℤ). IsTold (length e.lines) (matches_line f.pattern e.lines) m f.matches)
    (numbered marks number e f.name (f.name == name.current_line) reads refl shown) h.holds

facts-of : (marks : List Bool) (number : Numbers) (e : editor.State) (facts : List LineFact) → Reads marks e.lines e.current number →
    All (LineFactHolds number e.lines) facts → All (IsFactOf e) (filter is_shown facts)
facts-of marks number e facts reads h k d within =
    fact-of marks number e (get_or (filter is_shown facts) k d) reads
    (All-filter is_shown (LineFactHolds number e.lines) facts h k d within) (filter_passes is_shown facts k d within)

pub known-is-true : (s : State) (e : editor.State) → StandsFor s e → IsTrueOf (known_of s) e
known-is-true s e h =
    let by = h.stands.buffer in
    record {
      lines = within s.zone h.numbers name.last_line (length e.lines) (omega arith) by.holds by.reads.zero_is by.reads.last_is;
      current = within s.zone h.numbers name.current_line e.current (omega arith) by.holds by.reads.zero_is by.reads.current_is;
      last = λ is. last s.zone h.numbers (length e.lines) e.current by.holds by.reads.last_is by.reads.current_is by.inside is;
      change = changes s.changed.yes s.changed.no e.changed h.stands.changed;
      matched = h.matches.0;
      told = facts-of s.marks h.numbers e s.facts.lines by.reads h.facts.of_lines;
    }
