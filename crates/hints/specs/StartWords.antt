-- A start in words, and its conditions one after another (our own). A file is one of those that the start allows just where they are true of it;
-- each part of the start has its words.
use Rattle.std.specs.Prelude.{ℕ, Bool, true, false, not, ◌&&◌, nat_eq, nat_lt, nat_le, List, [], ◌∷◌, ◌++◌, map, length, Option, Some, None, codes, decimal, unwrap_or, if◌then◌else◌}
use Rattle.std.specs.List.{flat_map, list_all}
use Rattle.landmarks.specs.declared.which.Which.{Which}
use Rattle.landmarks.specs.declared.which.Which.TheVariants.{First, Only, Numbered}
use Rattle.landmarks.specs.declared.landmark.Landmark.{Landmark}
use Rattle.landmarks.specs.ChainValues.{ChainValue}
use Rattle.analyser.specs.declared.analysis.Start.{Start}
use Rattle.analyser.specs.Following.{stated_of}
use Rattle.hints.specs.Shown.{shown_text, quoted_text, joined}

-- nothing
abbrev pub is_empty : {A : Type 0} → List A → Bool
is_empty [] = true
is_empty (x ∷ xs) = false

-- HOW MANY LINES A FILE MAY HAVE

-- so many lines
abbrev pub lines_words : ℕ → List ℕ
lines_words count = decimal count ++ (if nat_eq count 1 then codes " line" else codes " lines")

-- how many lines a file has that has at most so many
abbrev pub limited_words : (min most : ℕ) → List ℕ
limited_words min most =
    if nat_eq most 0 then codes "no lines" else
    if nat_eq min most then codes "exactly " ++ lines_words most else
    if nat_eq min 0 then codes "at most " ++ lines_words most else decimal min ++ codes " to " ++ lines_words most

-- how many lines a file has, where it may not have any number
abbrev pub bounds_words : (min : ℕ) → (max : Option ℕ) → List (List ℕ)
bounds_words min None = if nat_eq min 0 then [] else (codes "at least " ++ lines_words min) ∷ []
bounds_words min (Some most) = limited_words min most ∷ []

-- WHICH PATTERNS SOME LINE OF IT MATCHES

-- a line that matches a pattern
abbrev pub pattern_words : List ℕ → List ℕ
pattern_words pattern = codes "a line that matches " ++ quoted_text pattern

-- WHICH LINE A LANDMARK IS, AND WHAT IS SAID OF THAT LINE

-- Nothing is said of the line of a landmark but which one it is and how many lines come after it. Such a line is as good as any that stands above
-- one that would do.
abbrev pub is_bare : Landmark → Bool
is_bare l = nat_le l.gap 1 && is_empty l.also && is_empty l.lacks && is_empty l.none

-- beneath the line of the landmark that stands before it
abbrev pub below_words : (below : Bool) → List ℕ
below_words below = if below then codes " below it" else []

-- Which line it is, where no more is said of it. Where no more is said of those after it in its chain either, any line that matches will do.
abbrev pub place_words : (below any : Bool) → Which → List ℕ
place_words below true (First pattern) = codes "a line" ++ below_words below ++ codes " matches " ++ quoted_text pattern
place_words below false (First pattern) = codes "there is a first line" ++ below_words below ++ codes " that matches " ++ quoted_text pattern
place_words false any (Only pattern) = codes "just one line matches " ++ quoted_text pattern
place_words true any (Only pattern) = codes "the only line that matches " ++ quoted_text pattern ++ codes " is below it"
place_words false any (Numbered number) = codes "there is a line " ++ decimal number
place_words true any (Numbered number) = codes "line " ++ decimal number ++ codes " is below it"

-- which line it is of which more is said
abbrev pub line_words : (below : Bool) → Which → List ℕ
line_words below (First pattern) = codes "the first line" ++ below_words below ++ codes " that matches " ++ quoted_text pattern
line_words below (Only pattern) = codes "the only line that matches " ++ quoted_text pattern
line_words below (Numbered number) = codes "line " ++ decimal number

-- the first line below another one is below it; of others that is said
abbrev pub below_said : (below : Bool) → Which → List (List ℕ)
below_said below (First pattern) = []
below_said below (Only pattern) = if below then codes "is below it" ∷ [] else []
below_said below (Numbered number) = if below then codes "is below it" ∷ [] else []

-- what is said of several patterns, where there are any
abbrev pub patterns_said : (what between : List ℕ) → List (List ℕ) → List (List ℕ)
patterns_said what between [] = []
patterns_said what between (pattern ∷ patterns) = (what ++ codes " " ++ joined between (map quoted_text (pattern ∷ patterns))) ∷ []

-- how far it is from the line of the landmark before it, or from the beginning
abbrev pub gap_said : (below : Bool) → (gap : ℕ) → List (List ℕ)
gap_said below gap =
    if nat_le gap 1 then [] else
    if below then (codes "is at least " ++ decimal gap ++ codes " lines further down") ∷ [] else (codes "is line " ++ decimal gap ++ codes " or later") ∷ []

-- between the line of the landmark before it and this one, or above this one
abbrev pub between_words : (below : Bool) → List ℕ
between_words below = if below then codes "has no line between that matches" else codes "has no line above it that matches"

-- what is said of its line
abbrev pub said : (below : Bool) → Landmark → List (List ℕ)
said below l =
    below_said below l.which ++ patterns_said (codes "matches") (codes " and ") l.also ++ patterns_said (codes "doesn't match") (codes " or ") l.lacks
    ++ gap_said below l.gap ++ patterns_said (between_words below) (codes " or ") l.none

-- how many lines come after it
abbrev pub tail_words : (tail : ℕ) → List ℕ
tail_words tail = if nat_eq tail 0 then [] else codes ", with at least " ++ lines_words tail ++ codes " after it"

-- a landmark, below another one or first in its chain
abbrev pub landmark_words : (below any : Bool) → Landmark → List ℕ
landmark_words below any l =
    (if is_bare l then place_words below any l.which else line_words below l.which ++ codes " " ++ joined (codes " and ") (said below l))
    ++ tail_words l.tail

-- the landmarks of a chain, of which each is below the one before it
abbrev pub chain_words : (below : Bool) → List Landmark → List (List ℕ)
chain_words below [] = []
chain_words below (l ∷ chain) = landmark_words below (list_all is_bare (l ∷ chain)) l ∷ chain_words true chain

abbrev pub landmarks_words : List ChainValue → List (List ℕ)
landmarks_words chains = flat_map (λ (chain : ChainValue). chain_words false chain.landmarks) chains

-- THE CONDITIONS, ONE AFTER ANOTHER

-- All that a start asks of a file: how many lines it has, a line for each pattern, and its landmarks. Of the landmarks of a chain `it` is the line
-- of the one before.
abbrev pub conditions : Start → List (List ℕ)
conditions start = bounds_words start.min start.max ++ map pattern_words (stated_of start.has) ++ landmarks_words (unwrap_or start.landmarks [])

-- THE SENTENCE

-- so many bytes of a list of patterns, and of what landmarks say, are shown, before the last one that is
abbrev pub most_listed : ℕ
most_listed = 200

abbrev pub most_said : ℕ
most_said = 300

-- what stands before a pattern in a list
abbrev pub separator : (first last : Bool) → List ℕ
separator first last = if first then [] else if last then codes " and " else codes ", "

-- patterns after those that are shown, or how many of them aren't
abbrev pub listed : (front : List ℕ) → List (List ℕ) → List ℕ
listed front [] = front
listed front (pattern ∷ patterns) =
    if nat_lt most_listed (length front) then front ++ codes " and " ++ decimal (length (pattern ∷ patterns)) ++ codes " more"
    else listed (front ++ separator (is_empty front) (is_empty patterns) ++ quoted_text pattern) patterns

-- Conditions after those that are shown, or that there are more.
abbrev pub together : (front : List ℕ) → List (List ℕ) → List ℕ
together front [] = front
together front (condition ∷ conditions) =
    if nat_lt most_said (length front) then front ++ codes " and more"
    else together (front ++ (if is_empty front then [] else codes ", and ") ++ condition) conditions

-- how the patterns that lines match follow on a file, of whose number of lines something is told or not
abbrev pub matched_words : (one told single : Bool) → List ℕ
matched_words one told single =
    if one then codes ", which matches " else
    if told then (if single then codes ", one of which matches " else codes ", with lines that match ") else
    if single then codes " with a line that matches " else codes " with lines that match "

-- there is one line at most
abbrev pub is_at_most_one : (max : Option ℕ) → Bool
is_at_most_one None = false
is_at_most_one (Some most) = nat_eq most 1

-- how many lines, in the sentence
abbrev pub of_lines : List (List ℕ) → List ℕ
of_lines bounds = flat_map (λ words. codes " of " ++ words) bounds

abbrev pub with_patterns : (max : Option ℕ) → (told : Bool) → List (List ℕ) → List ℕ
with_patterns max told [] = []
with_patterns max told (pattern ∷ patterns) = matched_words (is_at_most_one max) told (is_empty patterns) ++ listed [] (pattern ∷ patterns)

-- after lines that match patterns it would be those lines in which another is
abbrev pub in_which : (patterns : Bool) → List (List ℕ) → List ℕ
in_which patterns [] = []
in_which patterns (condition ∷ conditions) = (if patterns then codes ", and in which " else codes " in which ") ++ together [] (condition ∷ conditions)

-- the files that a start allows, by their path
abbrev pub file_words : (path : List ℕ) → Start → List ℕ
file_words path start =
    let bounds = bounds_words start.min start.max in
    let patterns = stated_of start.has in
    codes "any " ++ shown_text path ++ of_lines bounds ++ with_patterns start.max (not (is_empty bounds)) patterns
    ++ in_which (not (is_empty patterns)) (landmarks_words (unwrap_or start.landmarks []))

-- a start in words; without a path it is no file
abbrev pub words : Start → List ℕ
words start = elim start.path [ None ↦ codes "no file" | Some path ↦ file_words path start ]
