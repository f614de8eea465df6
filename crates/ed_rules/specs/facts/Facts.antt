-- Facts of lines: what is known of the line that a name of the zone numbers, and of the lines between two names.
use Rattle.std.specs.Prelude.{◌≡◌, ℕ, ◌==◌, ◌<◌, ◌≤◌, ℤ, pos, ◌+ℤ◌, ◌-ℤ◌, ◌<ℤ◌, int_le, Bool, true, false, ◌&&◌, ◌||◌, not, nat_eq, List, [], length, All, Option, Some, None, if◌then◌else◌}
use Rattle.std.specs.List.{list_any}
use Rattle.std.specs.Cmp.Lexicographic.{pointwise}
use Rattle.zones.specs.Name as name
use Rattle.zones.specs.Zone.{Bounds, Numbers}
use Rattle.zones.specs.Known.{known}
use Rattle.ed_base.specs.Buffer.{Line}
use Rattle.ed_syntax.specs.meaning.Values.{matches_line}

-- the line that a name numbers matches a pattern, or doesn't
pub record LineFact : Type 0 where
  pub name : ℕ
  pub pattern : List ℕ
  pub matches : Bool

-- no line between two names, which are left out, matches a pattern
pub record Stretch : Type 0 where
  pub after : ℕ
  pub before : ℕ
  pub pattern : List ℕ

-- the name that stands for the end, one more than the last line; it isn't one of the zone's
abbrev pub end : ℕ
end = 32

-- what is known of lines
pub record Facts : Type 0 where
  pub lines : List LineFact
  pub clear : List Stretch

abbrev pub no_facts : Facts
no_facts = record { lines = []; clear = [] }

-- a place among the lines: a name of the zone plus a number
pub record Point : Type 0 where
  pub name : ℕ
  pub plus : ℤ

abbrev pub point_at : ℕ → ℤ → Point
point_at x i = record { name = x; plus = i }

abbrev pub at : ℕ → Point
at x = record { name = x; plus = pos 0 }

-- the place of a name of a stretch
abbrev pub point : ℕ → Point
point x = if x == end then record { name = name.last_line; plus = pos 1 } else at x

-- WHAT FACTS MEAN

abbrev pub value_of : Numbers → Point → ℤ
value_of number x = number x.name +ℤ x.plus

-- none of so many lines that lies between two numbers passes a test
abbrev pub IsClear : (count : ℕ) → (test : ℕ → Bool) → (low high : ℤ) → Type 0
IsClear count test low high = (n : ℕ) → 1 ≤ n → n ≤ count → low <ℤ pos n → pos n <ℤ high → test n ≡ false

-- a number is that of one of so many lines, for which a test answers so
pub record IsTold (count : ℕ) (test : ℕ → Bool) (number : ℤ) (answer : Bool) : Type 0 where
  pub line : ℕ
  pub is : number ≡ pos line
  pub from : 1 ≤ line
  pub inside : line ≤ count
  pub told : test line ≡ answer

pub record LineFactHolds (number : Numbers) (lines : List Line) (f : LineFact) : Type 0 where
  pub named : f.name < 32
  pub holds : IsTold (length lines) (matches_line f.pattern lines) (number f.name) f.matches

pub record StretchHolds (number : Numbers) (lines : List Line) (s : Stretch) : Type 0 where
  pub after_named : s.after < 33
  pub before_named : s.before < 33
  pub holds : IsClear (length lines) (matches_line s.pattern lines) (value_of number (point s.after)) (value_of number (point s.before))

-- each fact is true of these lines, by the numbers of the names
pub record FactsHold (facts : Facts) (number : Numbers) (lines : List Line) : Type 0 where
  pub of_lines : All (LineFactHolds number lines) facts.lines
  pub of_clear : All (StretchHolds number lines) facts.clear

-- the numbers of 0 and of the last line, as they are read from so many lines
pub record ReadsEnds (number : Numbers) (lines : List Line) : Type 0 where
  pub zero_is : number name.zero ≡ pos 0
  pub last_is : number name.last_line ≡ pos (length lines)

-- WHAT A ZONE WITH FACTS SAYS

-- x is known to be at most y + c
abbrev pub le : Bounds → Point → Point → ℤ → Bool
le zone x y c =
    let d = (c +ℤ y.plus) -ℤ x.plus in
    if x.name == y.name then int_le (pos 0) d else known zone x.name y.name d

-- two names are known to be one number
abbrev pub same : Bounds → ℕ → ℕ → Bool
same zone x y = le zone (at x) (at y) (pos 0) && le zone (at y) (at x) (pos 0)

abbrev pub below : Bounds → Point → Point → Bool
below zone x y = le zone x y (pos 0 -ℤ pos 1)

-- Lines may come to be between x and y: x is known to be before y, or the zone doesn't say that there is no room for a line. Between names in
-- the other order, or from a name to itself, nothing is worth keeping; but the lines that come between one line and the next are.
abbrev pub may_hold_lines : Bounds → (x y : Point) → Bool
may_hold_lines zone x y = below zone x y || not (le zone y x (pos 1))

abbrev pub same_text : List ℕ → List ℕ → Bool
same_text one other = pointwise nat_eq one other

-- the stretch of a fact has all of that between x and y
abbrev pub spans : Bounds → Point → Point → List ℕ → Stretch → Bool
spans zone x y pattern s =
    same_text s.pattern pattern && (le zone (point s.after) x (pos 0) && le zone y (point s.before) (pos 0))

-- no line between x and y matches the pattern: there is no room for a line, or a fact says so
abbrev pub is_clear : Bounds → Facts → Point → Point → (pattern : List ℕ) → Bool
is_clear zone facts x y pattern = le zone y x (pos 1) || list_any (spans zone x y pattern) facts.clear

-- a fact says it of a name that is known to be this one
abbrev pub says : Bounds → ℕ → List ℕ → Bool → LineFact → Bool
says zone x pattern answer f =
    same_text f.pattern pattern && (same zone f.name x && (if answer then f.matches else not f.matches))

-- the line lies within the stretch of a fact
abbrev pub holds_line : Bounds → ℕ → List ℕ → Stretch → Bool
holds_line zone x pattern s =
    same_text s.pattern pattern && (below zone (point s.after) (at x) && below zone (at x) (point s.before))

abbrev pub is_told : Bounds → Facts → (x : ℕ) → (pattern : List ℕ) → (answer : Bool) → Bool
is_told zone facts x pattern answer = list_any (says zone x pattern answer) facts.lines

-- it is known that the line x matches the pattern, or that it doesn't; x is the number of a line. That some patterns match every line is no
-- fact: rules ask that where they have the pattern itself.
abbrev pub tells : Bounds → Facts → (x : ℕ) → (pattern : List ℕ) → (answer : Bool) → Bool
tells zone facts x pattern true = is_told zone facts x pattern true
tells zone facts x pattern false = is_told zone facts x pattern false || list_any (holds_line zone x pattern) facts.clear

-- whether the line x matches the pattern, where that is known
abbrev pub told : Bounds → Facts → (x : ℕ) → (pattern : List ℕ) → Option Bool
told zone facts x pattern =
    if tells zone facts x pattern true then Some true else if tells zone facts x pattern false then Some false else None

-- one is known to match what the other is known not to match
abbrev pub are_opposite : Option Bool → Option Bool → Bool
are_opposite (Some true) (Some false) = true
are_opposite (Some false) (Some true) = true
are_opposite _ _ = false

-- the lines x and y are known to be two
abbrev pub differ : Bounds → Facts → (x y : ℕ) → Bool
differ zone facts x y =
    list_any (λ f. are_opposite (told zone facts x f.pattern) (told zone facts y f.pattern)) facts.lines ||
    list_any (λ s. are_opposite (told zone facts x s.pattern) (told zone facts y s.pattern)) facts.clear
