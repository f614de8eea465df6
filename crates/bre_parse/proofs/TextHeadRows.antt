-- What patterns say of the heads of texts, computed from their bytes.
use Rattle.std.specs.Prelude.{◌≡◌, refl, ℕ, Bool, true, false, List, Option, Some, None, Ok, Err, codes, [], ◌∷◌}
use Rattle.bre_parse.specs.Tree.{covers_below}
use Rattle.bre_parse.specs.Grammar.{pattern}
use Rattle.bre_parse.specs.TextHeads.{untouched, head_asked, head_matches, head_clashes}
use Rattle.bre_parse.specs.Words.{keeps_word}
use Rattle.bre_parse.proofs.Worked.{Row, row}

-- what a pattern that is read leaves of a head
abbrev left : (text head : List ℕ) → Option (List ℕ)
left text head = elim (pattern text) [ Ok tree ↦ Some (untouched tree head) | Err fault ↦ None ]

heads_left : List Row
unfolding covers_below
heads_left =
    row (left (codes "22") (codes "Port") ≡ Some (codes "Port")) refl  -- no byte of the head begins it
    ∷ row (left (codes "$") (codes "k0") ≡ Some (codes "k0")) refl  -- the end is never within a head
    ∷ row (left (codes "root") (codes "User=") ≡ Some (codes "User=")) refl  -- its second byte doesn't follow
    ∷ row (left (codes "0") (codes "k0") ≡ Some (codes "k")) refl  -- the head is cut where it may start
    ∷ row (left (codes "bc") (codes "ab") ≡ Some (codes "a")) refl  -- it may go on behind the head
    ∷ row (left (codes "^#x") (codes "#x") ≡ Some []) refl  -- a match from the head's start takes what follows
    ∷ row (left (codes "^#") (codes "GRUB") ≡ Some (codes "GRUB")) refl  -- an anchor starts at 0 alone
    ∷ row (left (codes "^") (codes "Port") ≡ Some []) refl  -- an empty match at 0
    ∷ row (left (codes "b*") (codes "ab") ≡ Some []) refl  -- a repeat alone may be empty
    ∷ row (left (codes "b*a") (codes "ac") ≡ Some []) refl  -- a repeat that is empty before a byte that is there
    ∷ row (left (codes "b*c") (codes "ab") ≡ Some (codes "a")) refl  -- and before one that isn't
    ∷ row (left (codes " *c") (codes "ab") ≡ Some (codes "ab")) refl  -- at no place of the head
    ∷ row (left (codes "bb*") (codes "ab") ≡ Some (codes "a")) refl  -- a byte and then a repeat
    ∷ row (left (codes "[b-d]x") (codes "abx") ≡ Some (codes "a")) refl  -- a set
    ∷ row (left (codes "[^a-z]") (codes "ab") ≡ Some (codes "ab")) refl  -- a set that leaves the head's bytes out
    ∷ row (left (codes "x\\{1,\\}") (codes "ab") ≡ Some []) refl  -- of other repeats nothing is known
    ∷ row (left (codes "\\(x\\)") (codes "ab") ≡ Some []) refl  -- nor of groups
    ∷ row (left (codes "\\(^a\\)") (codes "ab") ≡ Some []) refl  -- nor of anchors in these
    ∷ []

abbrev asked : List ℕ → Option (List ℕ)
asked text = elim (pattern text) [ Ok tree ↦ Some (head_asked tree) | Err fault ↦ None ]

heads_asked : List Row
unfolding covers_below
heads_asked =
    row (asked (codes "^Port") ≡ Some (codes "Port")) refl  -- a word after the anchor
    ∷ row (asked (codes "^#x$") ≡ Some (codes "#x")) refl  -- up to the other anchor
    ∷ row (asked (codes "^a[bc]d") ≡ Some (codes "a")) refl  -- up to a set of two bytes
    ∷ row (asked (codes "^a[b]*") ≡ Some (codes "a")) refl  -- up to a repeat
    ∷ row (asked (codes "^[=].") ≡ Some (codes "=")) refl  -- a set of one byte
    ∷ row (asked (codes "^[ab]c") ≡ Some []) refl  -- none where the first byte isn't known
    ∷ row (asked (codes "Port") ≡ Some []) refl  -- none without the anchor
    ∷ []

-- whether a head matches a pattern, and whether it clashes with it
abbrev told : (head text : List ℕ) → Option (Bool × Bool)
told head text = elim (pattern text) [ Ok tree ↦ Some (head_matches head tree, head_clashes head tree) | Err fault ↦ None ]

heads_told : List Row
unfolding covers_below
heads_told =
    row (told (codes "#x") (codes "^#") ≡ Some (true, false)) refl  -- the head goes on
    ∷ row (told (codes "#x") (codes "^#x") ≡ Some (true, false)) refl  -- all of the head
    ∷ row (told (codes "#x") (codes "^") ≡ Some (true, false)) refl  -- nothing is asked
    ∷ row (told (codes "#x") (codes "^#x$") ≡ Some (false, false)) refl  -- more than the head is asked
    ∷ row (told (codes "k") (codes "^k1") ≡ Some (false, false)) refl  -- the head is shorter
    ∷ row (told (codes "a") (codes "^[ab]") ≡ Some (false, false)) refl  -- the set isn't one byte
    ∷ row (told (codes "k0") (codes "^k1") ≡ Some (false, true)) refl  -- another byte
    ∷ row (told (codes "#") (codes "^$") ≡ Some (false, true)) refl  -- the text isn't empty
    ∷ row (told [] (codes "^$") ≡ Some (false, false)) refl  -- nothing is known of the text
    ∷ row (told (codes "ab") (codes "^[^a]") ≡ Some (false, true)) refl  -- a set without the byte
    ∷ row (told (codes "ab") (codes "^x*c") ≡ Some (false, true)) refl  -- after an empty repeat
    ∷ row (told (codes "ab") (codes "Port") ≡ Some (false, false)) refl  -- it may stand later
    ∷ []

-- whether the second pattern stays matched where matches of the first are replaced
abbrev kept : (replaced text : List ℕ) → Option Bool
kept replaced text = elim (pattern replaced) [
  | Ok tree ↦ elim (pattern text) as (λ _. Option Bool) [ Ok other ↦ Some (keeps_word tree other) | Err fault ↦ None ]
  | Err fault ↦ None
]

words_kept : List Row
unfolding covers_below
words_kept =
    row (kept (codes "^#") (codes "console") ≡ Some true) refl  -- no byte is shared
    ∷ row (kept (codes "on-x") (codes "console") ≡ Some true) refl  -- no end of one begins the other
    ∷ row (kept (codes "na") (codes "banana") ≡ Some false) refl  -- it stands in the word
    ∷ row (kept (codes "aa") (codes "ab") ≡ Some false) refl  -- its end begins the word
    ∷ row (kept (codes "ba") (codes "ab") ≡ Some false) refl  -- the word's end begins it
    ∷ row (kept (codes "$") (codes "alice") ≡ Some true) refl  -- what is put at the end isn't within a word
    ∷ row (kept (codes "$") (codes "alice$") ≡ Some false) refl  -- but after it
    ∷ row (kept (codes "^#") (codes "alice$") ≡ Some true) refl  -- and not where a match ends before
    ∷ row (kept (codes "22") (codes "22$") ≡ Some false) refl  -- the word itself
    ∷ row (kept (codes "^") (codes "Port") ≡ Some true) refl  -- the start of the text
    ∷ row (kept (codes "^") (codes "^Port") ≡ Some false) refl  -- where the word doesn't stand any more
    ∷ row (kept (codes "x*") (codes "ab") ≡ Some false) refl  -- empty matches within the word
    ∷ row (kept (codes "=.*") (codes "256M") ≡ Some false) refl  -- what it takes isn't known
    ∷ row (kept (codes "#") (codes "a.b") ≡ Some false) refl  -- no word
    ∷ row (kept (codes "a") (codes "$") ≡ Some false) refl  -- the empty word is nowhere apart
    ∷ []
