-- Parts of a text that are passed over, since each match has a word that doesn't stand in them.
use Rattle.std.specs.Prelude.{ℕ, ◌≡◌, ◌<◌, ◌≤◌, List, [], None, length, slice_range, take}
use Rattle.memchr.specs.Find.{OccursAt}
use Rattle.bre_parse.specs.Tree.{Tree}
use Rattle.bre_parse.specs.Groups.{Groups}
use Rattle.bre_parse.specs.Match.{match_from}
use Rattle.bre_parse.specs.Ways.{ways}
use Rattle.bre_match.specs.declared.candidates.Candidates.{Candidates}
use Rattle.bre_match.specs.declared.short_word.Word.{Word}

-- the bytes of a word
abbrev pub word_bytes : Word → List ℕ
word_bytes word = take word.size word.bytes

-- in a text in which the word doesn't stand the part has no way
abbrev pub NeedsWord : Tree → (word : List ℕ) → Type 0
NeedsWord tree word =
    (text : List ℕ) → ((place : ℕ) → ¬ OccursAt text word place) →
    (place : ℕ) (groups : Groups) → place ≤ length text → ways tree text place groups ≡ []

-- the word that is looked for
abbrev pub needed_by : Candidates → List ℕ
needed_by candidates = candidates.finder

-- no part of the text that ends before this place has a match, where it is taken by itself
abbrev pub NoneEndsBefore : Tree → (text : List ℕ) → (place : ℕ) → Type 0
NoneEndsBefore tree text place =
    (start end : ℕ) → start ≤ end → end ≤ length text → end < place → match_from tree (slice_range text start end) 0 ≡ None
