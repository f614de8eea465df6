-- A greater count changes no reading, since each element, repeat and item takes a byte.
use Rattle.std.proofs.Common.{◌≡◌, ℕ, zero, suc, ◌+◌, ◌-◌, ◌<◌, ◌≤◌, Bool, true, false, List, [], ◌∷◌, ◌++◌, length, drop, Option, Some, None, Result, Ok, Err, refl, ap, ◌∙◌, arith, length-drop}
use Rattle.std.specs.Prelude.{◌&&◌, not, nat_eq, nat_le, nat_lt}
use Rattle.std.specs.List.{list_any}
use Rattle.bre_parse.specs.Bytes.{dollar_sign, left_parenthesis, right_parenthesis, asterisk, period, one_digit, nine_digit, left_square_bracket, right_square_bracket, backslash, circumflex, left_brace}
use Rattle.bre_parse.specs.Tree.{Tree, TextStart, BackReference, Group, Repeat, every_byte}
use Rattle.bre_parse.specs.Reading.{Read, ◌>>=◌, starts_with, starts_with_pair}
use Rattle.bre_parse.specs.Brackets.{Ranges, element_or_range, range_follows, after_ranges, more_elements, bracket}
use Rattle.bre_parse.specs.Intervals.{Bounds, interval}
use Rattle.bre_parse.specs.Grammar.{Head, Finish, Anchor, Open, Refer, Matches, itself, may_be_escaped, escaped, at_end, head_of, nesting, deepest, bounds_at, repeated, repeats, ReadSequence, ReadItem, with_repeats, then_rest, from_start, group_item, item_at, items_after, items}
use Rattle.bre_parse.specs.declared.fault.BreFault.{BreFault}
use Rattle.bre_parse.specs.declared.fault.BreFault.TheVariants as fault
use Rattle.bre_parse.proofs.Choices.{chosen}
use Rattle.bre_parse.proofs.WellRead.{by_test}
use Rattle.bre_parse.proofs.SpelledSteps.{head, head_pair}
use Rattle.bre_parse.proofs.SpelledIntervals.{interval_spelled}
use Rattle.bre_parse.proofs.SpelledBrackets.{one_spelled, bracket_spelled}
use Rattle.bre_parse.proofs.ReadBrackets.{element_shorter}
use Rattle.bre_parse.proofs.ReadItems.{interval_shorter, bracket_shorter}

-- two readings go on alike
same_next : {A B : Type 0} (read : Result A BreFault) (f g : A → Result B BreFault) → ((found : A) → read ≡ Ok found → f found ≡ g found) → read >>= f ≡ read >>= g
same_next (Ok found) f g all = all found refl
same_next (Err wrong) f g all = refl

-- Elements

same_elements : (one other : ℕ) (text : List ℕ) → length text < one → length text < other → more_elements one text ≡ more_elements other text
same_elements zero other text lt lt' = absurd (omega arith)
same_elements (suc one) zero text lt lt' = absurd (omega arith)
same_elements (suc one) (suc other) text lt lt' =
    ap (λ (read : Read Ranges). chosen (starts_with text right_square_bracket) (Ok ([], drop 1 text)) (chosen (range_follows text) (Err fault.Range) read))
    (same_next (element_or_range text) (λ read. after_ranges read.0 (more_elements one read.1)) (λ read. after_ranges read.0 (more_elements other read.1))
    (λ found e. let shorter = element_shorter text found.1 found.0 (one_spelled text found.1 found.0 e) in
    ap (after_ranges found.0) (same_elements one other found.1 (omega arith) (omega arith))))

pub elements_ignore_count : (most : ℕ) (text : List ℕ) → length text < most → more_elements most text ≡ more_elements (length text + 1) text
elements_ignore_count most text lt = same_elements most (length text + 1) text lt (omega arith)

-- Repeats

-- the bounds of a repeat take a byte
abbrev ShortBounds : ℕ → Result (Option (Bounds × List ℕ)) BreFault → Type 0
ShortBounds bytes (Ok None) = Unit {0}
ShortBounds bytes (Ok (Some found)) = length found.1 < bytes
ShortBounds bytes (Err wrong) = Unit {0}

braced_short : (text : List ℕ) (read : Read Bounds) → interval text ≡ read → ShortBounds (length text + 2) (read >>= λ bounds. Ok (Some bounds))
braced_short text (Ok found) e = let shorter = interval_shorter text found.1 found.0 (interval_spelled text found.1 found.0 e) in omega arith
braced_short text (Err wrong) e = tt

bounds_short : (text : List ℕ) → ShortBounds (length text) (bounds_at text)
bounds_short text =
    by_test (ShortBounds (length text)) (starts_with text asterisk) (Ok (Some ((0, None), drop 1 text))) (chosen (starts_with_pair text backslash left_brace) (interval (drop 2 text) >>= λ bounds. Ok (Some bounds)) (Ok None))
    (λ star. let lengths = ap length (head text asterisk star) in omega arith)
    (λ _. by_test (ShortBounds (length text)) (starts_with_pair text backslash left_brace) (interval (drop 2 text) >>= λ bounds. Ok (Some bounds)) (Ok None)
    (λ brace. let lengths = ap length (head_pair text backslash left_brace brace) in raised (length (drop 2 text) + 2) (length text) (interval (drop 2 text) >>= λ bounds. Ok (Some bounds)) (omega arith) (braced_short (drop 2 text) (interval (drop 2 text)) refl))
    (λ _. tt))
  where
    raised : (low high : ℕ) (read : Result (Option (Bounds × List ℕ)) BreFault) → low ≤ high → ShortBounds low read → ShortBounds high read
    raised low high (Ok None) le h = tt
    raised low high (Ok (Some found)) le h = omega arith
    raised low high (Err wrong) le h = tt

same_repeats : (one other depth : ℕ) (part : Tree) (text : List ℕ) → length text < one → length text < other → repeats one depth part text ≡ repeats other depth part text
same_repeats zero other depth part text lt lt' = absurd (omega arith)
same_repeats (suc one) zero depth part text lt lt' = absurd (omega arith)
same_repeats (suc one) (suc other) depth part text lt lt' = by (bounds_at text) (bounds_short text) (same_repeats one other depth)
  where
    by : (found : Result (Option (Bounds × List ℕ)) BreFault) → ShortBounds (length text) found → ((part : Tree) (text : List ℕ) → length text < one → length text < other → repeats one depth part text ≡ repeats other depth part text)
        → found >>= repeated (repeats one depth) depth part text ≡ found >>= repeated (repeats other depth) depth part text
    by (Ok None) short later = refl
    by (Ok (Some bounds)) short later =
        ap (λ (read : Read Tree). chosen (nat_lt (depth + nesting part) deepest) read (Err fault.Depth)) (later (Repeat bounds.0.0 bounds.0.1 part) bounds.1 (omega arith) (omega arith))
    by (Err wrong) short later = refl

pub repeats_ignore_count : (most depth : ℕ) (tree : Tree) (text : List ℕ) → length text < most → repeats most depth tree text ≡ repeats (length text + 1) depth tree text
repeats_ignore_count most depth tree text lt = same_repeats most (length text + 1) depth tree text lt (omega arith)

-- What is left after a part has at most so many bytes.

abbrev ShortRead : ℕ → Read Tree → Type 0
ShortRead bytes (Ok found) = length found.1 ≤ bytes
ShortRead bytes (Err wrong) = Unit {0}

abbrev ShortItem : ℕ → ReadItem → Type 0
ShortItem bytes (Ok None) = Unit {0}
ShortItem bytes (Ok (Some item)) = length item.1.1 ≤ bytes
ShortItem bytes (Err wrong) = Unit {0}

abbrev ShortSequence : ℕ → ReadSequence → Type 0
ShortSequence bytes (Ok sequence) = length sequence.1.1 ≤ bytes
ShortSequence bytes (Err wrong) = Unit {0}

repeated_short : (most depth bytes : ℕ) (part : Tree) (text : List ℕ) (found : Result (Option (Bounds × List ℕ)) BreFault) → ((part : Tree) (text : List ℕ) → length text ≤ bytes → ShortRead bytes (repeats most depth part text))
    → length text ≤ bytes → ShortBounds (length text) found → ShortRead bytes (found >>= repeated (repeats most depth) depth part text)
repeated_short most depth bytes part text (Ok None) again le short = le
repeated_short most depth bytes part text (Ok (Some bounds)) again le short =
    by_test (ShortRead bytes) (nat_lt (depth + nesting part) deepest) (repeats most depth (Repeat bounds.0.0 bounds.0.1 part) bounds.1) (Err fault.Depth) (λ _. again (Repeat bounds.0.0 bounds.0.1 part) bounds.1 (omega arith)) (λ _. tt)
repeated_short most depth bytes part text (Err wrong) again le short = tt

repeats_short : (most depth bytes : ℕ) (part : Tree) (text : List ℕ) → length text ≤ bytes → ShortRead bytes (repeats most depth part text)
repeats_short zero depth bytes part text le = tt
repeats_short (suc most) depth bytes part text le = repeated_short most depth bytes part text (bounds_at text) (λ part' text' le'. repeats_short most depth bytes part' text' le') le (bounds_short text)

with_repeats_short : (depth opened bytes : ℕ) (part : Tree) (text : List ℕ) → length text ≤ bytes → ShortItem bytes (with_repeats depth opened (part, text))
with_repeats_short depth opened bytes part text le = by (repeats (length text + 1) depth part text) (repeats_short (length text + 1) depth bytes part text le)
  where
    by : (read : Read Tree) → ShortRead bytes read → ShortItem bytes (read >>= λ item. Ok (Some (item.0, (opened, item.1))))
    by (Ok item) short = short
    by (Err wrong) short = tt

-- what stands after the head of a text of so many bytes
abbrev ShortHead : ℕ → Head → Type 0
ShortHead bytes Finish = Unit {0}
ShortHead bytes (Anchor rest) = length rest < bytes
ShortHead bytes (Open rest) = length rest < bytes
ShortHead bytes (Refer group rest) = length rest < bytes
ShortHead bytes (Matches (Ok set)) = length set.1 < bytes
ShortHead bytes (Matches (Err wrong)) = Unit {0}

bracket_short : (text : List ℕ) (read : Read Tree) → bracket text ≡ read → ShortHead (suc (length text)) (Matches read)
bracket_short text (Ok set) e = let shorter = bracket_shorter text set.1 set.0 (bracket_spelled text set.1 set.0 e) in omega arith
bracket_short text (Err wrong) e = tt

escaped_by : (a b c d e : Bool) (byte : ℕ) (rest : List ℕ) → ShortHead (suc (suc (length rest))) (chosen a (Open rest) (chosen b Finish (chosen c (Matches (Err fault.Interval)) (chosen d (Refer (byte - one_digit) rest) (chosen e (itself byte rest) (Matches (Err fault.Escape)))))))
escaped_by true b c d e byte rest = omega arith
escaped_by false true c d e byte rest = tt
escaped_by false false true d e byte rest = tt
escaped_by false false false true e byte rest = omega arith
escaped_by false false false false true byte rest = omega arith
escaped_by false false false false false byte rest = tt

escaped_short : (text : List ℕ) → ShortHead (suc (length text)) (escaped text)
escaped_short [] = tt
escaped_short (byte ∷ rest) = escaped_by (nat_eq byte left_parenthesis) (nat_eq byte right_parenthesis) (nat_eq byte left_brace) (nat_le one_digit byte && nat_le byte nine_digit) (may_be_escaped byte) byte rest

head_by : (a b c d : Bool) (byte : ℕ) (rest : List ℕ) → ShortHead (suc (length rest)) (chosen a (escaped rest) (chosen b (Matches (bracket rest)) (chosen c (Matches (Ok (every_byte, rest))) (chosen d (Anchor rest) (itself byte rest)))))
head_by true b c d byte rest = escaped_short rest
head_by false true c d byte rest = bracket_short rest (bracket rest) refl
head_by false false true d byte rest = omega arith
head_by false false false true byte rest = omega arith
head_by false false false false byte rest = omega arith

head_short : (text : List ℕ) → ShortHead (length text) (head_of text)
head_short [] = tt
head_short (byte ∷ rest) = head_by (nat_eq byte backslash) (nat_eq byte left_square_bracket) (nat_eq byte period) (nat_eq byte dollar_sign && at_end rest) byte rest

-- Sequences and items, each inside one

abbrev AllShort : (ℕ → List ℕ → ReadSequence) → Type 0
AllShort items = (opened bytes : ℕ) (text : List ℕ) → length text ≤ bytes → ShortSequence bytes (items opened text)

then_short : (bytes : ℕ) (tree : Tree) (read : ReadSequence) → ShortSequence bytes read → ShortSequence bytes (then_rest tree read)
then_short bytes tree (Ok rest) short = short
then_short bytes tree (Err wrong) short = tt

start_short : (items : ℕ → List ℕ → ReadSequence) → AllShort items → AllShort (from_start items)
start_short items all opened bytes text le =
    by_test (ShortSequence bytes) (starts_with text circumflex) (then_rest TextStart (items opened (drop 1 text))) (items opened text)
    (λ _. let dropped = length-drop 1 text in then_short bytes TextStart (items opened (drop 1 text)) (all opened bytes (drop 1 text) (omega arith)))
    (λ _. all opened bytes text le)

group_short : (bytes depth group : ℕ) (read : ReadSequence) → ShortSequence bytes read → ShortItem bytes (read >>= group_item depth group)
group_short bytes depth group (Err wrong) short = tt
group_short bytes depth group (Ok content) short = by (starts_with_pair content.1.1 backslash right_parenthesis)
  where
    by : (test : Bool) → ShortItem bytes (chosen {A = Read Tree} test (Ok (Group group content.0, drop 2 content.1.1)) (Err fault.Group) >>= with_repeats depth content.1.0)
    by true = let dropped = length-drop 2 content.1.1 in with_repeats_short depth content.1.0 bytes (Group group content.0) (drop 2 content.1.1) (omega arith)
    by false = tt

item_short : (items : List ℕ → ℕ → List ℕ → ReadSequence) → ((inside : List ℕ) → AllShort (items inside)) → (inside : List ℕ) (opened bytes : ℕ) (head : Head) → ShortHead (suc bytes) head → ShortItem bytes (item_at items inside opened head)
item_short items all inside opened bytes Finish short = tt
item_short items all inside opened bytes (Anchor rest) short = omega arith
item_short items all inside opened bytes (Matches (Ok set)) short = with_repeats_short (length inside) opened bytes set.0 set.1 (omega arith)
item_short items all inside opened bytes (Matches (Err wrong)) short = tt
item_short items all inside opened bytes (Refer group rest) short =
    by_test (ShortItem bytes) (nat_lt group opened && not (list_any (nat_eq group) inside)) (with_repeats (length inside) opened (BackReference group, rest)) (Err fault.BackRef)
    (λ _. with_repeats_short (length inside) opened bytes (BackReference group) rest (omega arith)) (λ _. tt)
item_short items all inside opened bytes (Open rest) short =
    by_test (ShortItem bytes) (nat_lt (length inside) deepest) (from_start (items (inside ++ opened ∷ [])) (opened + 1) rest >>= group_item (length inside) opened) (Err fault.Depth)
    (λ _. group_short bytes (length inside) opened (from_start (items (inside ++ opened ∷ [])) (opened + 1) rest) (start_short (items (inside ++ opened ∷ [])) (all (inside ++ opened ∷ [])) (opened + 1) bytes rest (omega arith)))
    (λ _. tt)

after_short : (items : ℕ → List ℕ → ReadSequence) → AllShort items → (opened less bytes : ℕ) (text : List ℕ) (read : ReadItem) → length text ≤ bytes → less ≤ bytes → ShortItem less read → ShortSequence bytes (read >>= items_after items opened text)
after_short items all opened less bytes text (Ok None) le fits short = le
after_short items all opened less bytes text (Ok (Some item)) le fits short = then_short bytes item.0 (items item.1.0 item.1.1) (all item.1.0 bytes item.1.1 (omega arith))
after_short items all opened less bytes text (Err wrong) le fits short = tt

items_short : (most : ℕ) (inside : List ℕ) → AllShort (items most inside)
items_short zero inside opened bytes text le = tt
items_short (suc most) inside opened bytes [] le = omega arith
items_short (suc most) inside opened bytes (byte ∷ rest) le =
    after_short (items most inside) (λ opened' bytes' text' le'. items_short most inside opened' bytes' text' le') opened (length rest) bytes (byte ∷ rest) (item_at (items most) inside opened (head_of (byte ∷ rest))) le (omega arith)
    (item_short (items most) (λ inside' opened' bytes' text' le'. items_short most inside' opened' bytes' text' le') inside opened (length rest) (head_of (byte ∷ rest)) (head_short (byte ∷ rest)))

-- two counts that are great enough for all shorter texts
abbrev Alike : (one other bytes : ℕ) → Type 0
Alike one other bytes = (inside : List ℕ) (opened : ℕ) (text : List ℕ) → length text ≤ bytes → items one inside opened text ≡ items other inside opened text

same_start : (one other bytes : ℕ) (inside : List ℕ) (opened : ℕ) (text : List ℕ) → Alike one other bytes → length text ≤ bytes → from_start (items one inside) opened text ≡ from_start (items other inside) opened text
same_start one other bytes inside opened text alike le =
    let dropped = length-drop 1 text in
    ap (λ (read : ReadSequence). chosen (starts_with text circumflex) (then_rest TextStart read) (items one inside opened text)) (alike inside opened (drop 1 text) (omega arith))
    ∙ ap (λ (read : ReadSequence). chosen (starts_with text circumflex) (then_rest TextStart (items other inside opened (drop 1 text))) read) (alike inside opened text le)

same_item : (one other bytes : ℕ) (inside : List ℕ) (opened : ℕ) (head : Head) → Alike one other bytes → ShortHead (suc bytes) head → item_at (items one) inside opened head ≡ item_at (items other) inside opened head
same_item one other bytes inside opened Finish alike short = refl
same_item one other bytes inside opened (Anchor rest) alike short = refl
same_item one other bytes inside opened (Matches set) alike short = refl
same_item one other bytes inside opened (Refer group rest) alike short = refl
same_item one other bytes inside opened (Open rest) alike short =
    ap (λ (read : ReadSequence). chosen (nat_lt (length inside) deepest) (read >>= group_item (length inside) opened) (Err fault.Depth))
    (same_start one other bytes (inside ++ opened ∷ []) (opened + 1) rest alike (omega arith))

same_after : (one other bytes : ℕ) (inside : List ℕ) (opened : ℕ) (text : List ℕ) (read : ReadItem) → Alike one other bytes → ShortItem bytes read → read >>= items_after (items one inside) opened text ≡ read >>= items_after (items other inside) opened text
same_after one other bytes inside opened text (Ok None) alike short = refl
same_after one other bytes inside opened text (Ok (Some item)) alike short = ap (then_rest item.0) (alike inside item.1.0 item.1.1 short)
same_after one other bytes inside opened text (Err wrong) alike short = refl

same_items : (one other : ℕ) (inside : List ℕ) (opened : ℕ) (text : List ℕ) → length text < one → length text < other → items one inside opened text ≡ items other inside opened text
same_items zero other inside opened text lt lt' = absurd (omega arith)
same_items (suc one) zero inside opened text lt lt' = absurd (omega arith)
same_items (suc one) (suc other) inside opened [] lt lt' = refl
same_items (suc one) (suc other) inside opened (byte ∷ rest) lt lt' =
    let alike : Alike one other (length rest) = λ inside' opened' text' le. same_items one other inside' opened' text' (omega arith) (omega arith) in
    ap (λ (read : ReadItem). read >>= items_after (items one inside) opened (byte ∷ rest)) (same_item one other (length rest) inside opened (head_of (byte ∷ rest)) alike (head_short (byte ∷ rest)))
    ∙ same_after one other (length rest) inside opened (byte ∷ rest) (item_at (items other) inside opened (head_of (byte ∷ rest))) alike
    (item_short (items other) (items_short other) inside opened (length rest) (head_of (byte ∷ rest)) (head_short (byte ∷ rest)))

pub items_ignore_count : (most : ℕ) (inside : List ℕ) (opened : ℕ) (text : List ℕ) → length text < most → items most inside opened text ≡ items (length text + 1) inside opened text
items_ignore_count most inside opened text lt = same_items most (length text + 1) inside opened text lt (omega arith)
