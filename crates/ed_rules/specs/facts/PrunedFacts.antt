-- What says nothing more than the zone or other facts do, or nothing that helps, is left out.
use Rattle.std.specs.Prelude.{◌==◌, ℕ, Bool, ◌&&◌, ◌||◌, not, List, [], ◌∷◌, if◌then◌else◌}
use Rattle.std.specs.List.{list_any, filter}
use Rattle.zones.specs.Name.{current_line, last_line}
use Rattle.zones.specs.Zone.{Bounds}
use Rattle.ed_rules.specs.facts.Facts.{LineFact, Stretch, Facts, same_text, point, is_clear, holds_line}
use Rattle.ed_rules.specs.facts.FoundLines.{is_witnessed}

-- STRETCHES

-- the zone alone says that no line of the stretch matches its pattern, or one of these stretches says it
abbrev pub is_said : Bounds → (kept : List Stretch) → Stretch → Bool
is_said zone kept s = is_clear zone (record { lines = []; clear = kept }) (point s.after) (point s.before) s.pattern

-- of these stretches, one after another, each that neither the zone nor those kept before it say; the last one that is kept comes first
abbrev pub with_unsaid : Bounds → (kept more : List Stretch) → List Stretch
with_unsaid zone kept [] = kept
with_unsaid zone kept (s ∷ more) = with_unsaid zone (if is_said zone kept s then kept else s ∷ kept) more

-- Once in each direction: so a short stretch goes where the long one comes before it, and where it comes after it. Nothing is said that wasn't,
-- so what is left is true whichever go.
abbrev pub unsaid : Bounds → List Stretch → List Stretch
unsaid zone clear = with_unsaid zone [] (with_unsaid zone [] clear)

-- LINES

-- a line is known to match the pattern, or a stretch is clear of it
abbrev pub is_spoken_of : Facts → (pattern : List ℕ) → Bool
is_spoken_of facts pattern = is_witnessed facts pattern || list_any (λ s. same_text s.pattern pattern) facts.clear

-- A stretch says that the line doesn't match the pattern; or nothing else is said of the pattern, and the line is the current one or the last.
unfoldable pub is_idle : Bounds → Facts → LineFact → Bool
is_idle zone facts f =
    not f.matches && (list_any (holds_line zone f.name f.pattern) facts.clear ||
    ((f.name == current_line || f.name == last_line) && not (is_spoken_of facts f.pattern)))

abbrev pub busy_lines : Bounds → Facts → List LineFact
busy_lines zone facts = filter (λ f. not (is_idle zone facts f)) facts.lines

abbrev pub with_clear : List Stretch → Facts → Facts
with_clear clear facts = record facts { clear = clear }

abbrev pub pruned : Bounds → Facts → Facts
pruned zone facts = let left = with_clear (unsaid zone facts.clear) facts in record left { lines = busy_lines zone left }
