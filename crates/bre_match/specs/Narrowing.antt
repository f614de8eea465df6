-- Which ways of a run can lead on, as far as the next items tell it.
use Rattle.std.specs.Prelude.{ℕ, ◌+◌, Bool, true, false, List, [], ◌∷◌, length, Option, Some, None, option_map, nat_eq, slice_index_or}
use Rattle.bre_parse.specs.Always.{is_text_end}
use Rattle.bre_parse.specs.Tree.{Tree, Then, Set, TextStart, BackReference}
use Rattle.bre_parse.specs.Groups.{Groups}
use Rattle.bre_parse.specs.Ways.{Way, bytes_of}
use Rattle.bre_match.specs.Runs.{shorter_ways}

-- the ways that are left of a run, if any are: the one that ends last, and so many more
abbrev pub kept_of : Option (ℕ × ℕ) → (ℕ → Groups) → List Way
kept_of None groups = []
kept_of (Some ends) groups = shorter_ways ends.0 ends.1 groups

-- the sum over a list
abbrev pub weight : {X : Type 0} → (X → ℕ) → List X → ℕ
weight f [] = 0
weight f (x ∷ xs) = f x + weight f xs

abbrev pub unless : Bool → Option (ℕ × ℕ) → Option (ℕ × ℕ)
unless true span = None
unless false span = span

-- the span of a group in all ways of a run: none is known of the group that they close
abbrev pub span_in : (closes : Option (ℕ × ℕ)) → Groups → (group : ℕ) → Option (ℕ × ℕ)
span_in None groups group = slice_index_or groups group None
span_in (Some closes) groups group = unless (nat_eq closes.0 group) (slice_index_or groups group None)

-- how many bytes an item takes, where this is told: a byte, an anchor, or a back-reference to a group that is known
abbrev pub item_bytes : (closes : Option (ℕ × ℕ)) → Groups → List ℕ → Tree → Option ℕ
item_bytes closes groups text (Set negated ranges) = Some 1
item_bytes closes groups text TextStart = Some 0
item_bytes closes groups text (BackReference group) =
    option_map (λ span. length (bytes_of text span)) (span_in closes groups group)
item_bytes closes groups text _ = None

-- how many bytes the items before the first `$` take, where this is told, and so many before them
abbrev pub bytes_to_end : (closes : Option (ℕ × ℕ)) → Groups → List ℕ → Tree → (before : ℕ) → Option ℕ
bytes_to_end closes groups text (Then item rest) before =
    elim (is_text_end item) [
      | true ↦ Some before
      | false ↦ elim (item_bytes closes groups text item) [ None ↦ None | Some bytes ↦ bytes_to_end closes groups text rest (before + bytes) ]
    ]
bytes_to_end closes groups text _ before = None
