-- The lines of a list: what is joined is spelled so, and what is spelled so is joined.
use Rattle.std.proofs.Common.{◌≡◌, ◌≢◌, ℕ, suc, ◌+◌, ◌-◌, ◌≤◌, nat_eq, Bool, true, false, not, ◌&&◌, List, [], ◌∷◌, ◌++◌, length, map, take, refl, sym, ap, ◌∙◌, ⊎_elim, subst, arith, append_assoc}
use Rattle.std.specs.Prelude.{All}
use Rattle.std.specs.List.{fold}
use Rattle.std.proofs.Math.Seq.{take-append_seam}
use Rattle.std.proofs.lemmas.Bool.{cases_Bool, eqb-true, and_parts, not-true, false≢true}
use Rattle.std.proofs.lemmas.List.{length-append}
use Rattle.std.proofs.lemmas.List.Sums.{fold_push}
use Rattle.std.proofs.lemmas.List.Elements.{All-nil, All-cons, All-head, All-tail}
use Rattle.ed_base.specs.Lines.{newline, IsLine, AreLines, lines_of, bytes_of}
use Rattle.ed_base.proofs.LineLemmas.{lines_of-whole}
use Rattle.ed_syntax.specs.spelling.Characters.{backslash, goes_on}
use Rattle.ed_syntax.specs.spelling.Spellings.{SpellsJoined}
use Rattle.ed_syntax.specs.reading.ReadGlobals.{without_last, joined}
use Rattle.ed_syntax.proofs.meaning.StepLemmas.{chosen, either}
use Rattle.ed_syntax.proofs.reader.TextLemmas.{first_line, no_lines, LeftLines}

without_last-end : (own : List ℕ) (byte : ℕ) → without_last (own ++ byte ∷ []) ≡ own
without_last-end own byte =
    let shorter : length (own ++ byte ∷ []) - 1 ≡ length own = omega (arith, length-append own (byte ∷ [])) in
    ap (λ n. take n (own ++ byte ∷ [])) shorter ∙ take-append_seam own (byte ∷ [])

-- whether an odd number of backslashes stands there after these bytes too
abbrev odd_after : Bool → List ℕ → Bool
odd_after = fold (λ odd b. nat_eq b backslash && not odd)

-- bytes after which it does end in a backslash
ends-in_backslash : (odd : _) (b : ℕ) (bs : List ℕ) → odd_after odd (b ∷ bs) ≡ true → (front : List ℕ) × (b ∷ bs ≡ front ++ backslash ∷ [])
ends-in_backslash odd b [] on = ([], ap (λ b. b ∷ []) (eqb-true b backslash (and_parts (nat_eq b backslash) (not odd) on).0))
ends-in_backslash odd b (c ∷ bs) on =
    let later = ends-in_backslash (nat_eq b backslash && not odd) c bs on in
    (b ∷ later.0, ap (λ bs. b ∷ bs) later.1)

on-backslash : (own : List ℕ) → goes_on own ≡ true → (front : List ℕ) × (own ≡ front ++ backslash ∷ [])
on-backslash [] on = absurd (false≢true on)
on-backslash (b ∷ bs) on = ends-in_backslash false b bs on

-- before the last backslash of an odd number stands an even one
even-before : (own : List ℕ) → goes_on (own ++ backslash ∷ []) ≡ true → goes_on own ≡ false
even-before own on = not-true (goes_on own) (sym (fold_push (λ odd b. nat_eq b backslash && not odd) false own backslash) ∙ on)

front_line : (own : List ℕ) (byte : ℕ) → IsLine (own ++ byte ∷ []) → IsLine own
front_line [] byte is = All-nil (λ b. b ≢ newline)
front_line (c ∷ own) byte is =
    All-cons (λ b. b ≢ newline) c own (All-head (λ b. b ≢ newline) c (own ++ byte ∷ []) is) (front_line own byte (All-tail (λ b. b ≢ newline) c (own ++ byte ∷ []) is))

pub last-read : (own : List ℕ) (later : List (List ℕ)) → goes_on own ≡ false → joined own later ≡ (own ++ newline ∷ [], later)
last-read own [] is = rw (is, joined) refl
last-read own (line ∷ later) is = rw (is, joined) refl

pub cut_off-read : (own : List ℕ) → goes_on own ≡ true → joined own [] ≡ (without_last own ++ newline ∷ [], [])
cut_off-read own is = rw (is, joined) refl

pub further-read : (own line : List ℕ) (later : List (List ℕ)) → goes_on own ≡ true →
    joined own (line ∷ later) ≡ (without_last own ++ newline ∷ (joined line later).0, (joined line later).1)
further-read own line later is = rw (is, joined) refl

-- no lines stand after a list but those that stood after its first line
pub joined-later : (own : List ℕ) (later : List (List ℕ)) → length (joined own later).1 ≤ length later
joined-later own [] =
    either (λ (r : List ℕ × List (List ℕ)). length r.1 ≤ 0) (goes_on own) (without_last own ++ newline ∷ [], []) (own ++ newline ∷ [], []) (λ on. omega arith) (λ ends. omega arith)
joined-later own (line ∷ later) =
    either (λ (r : List ℕ × List (List ℕ)). length r.1 ≤ suc (length later)) (goes_on own) (without_last own ++ newline ∷ (joined line later).0, (joined line later).1) (own ++ newline ∷ [], line ∷ later)
    (λ on. omega (arith, joined-later line later)) (λ ends. omega arith)

-- a list that was joined: the bytes of the lines that were taken, and as many lines as they are
pub record ReadsJoined (own : List ℕ) (later : List (List ℕ)) (r : List ℕ × List (List ℕ)) : Type 0 where
  pub bytes : List ℕ
  pub split : bytes_of later ≡ bytes ++ bytes_of r.1
  pub spells : SpellsJoined own bytes (bytes_of r.1) r.0
  pub counted : length (lines_of bytes) + length r.1 ≡ length later
  pub are : AreLines r.1

last-sound : (own : List ℕ) (later : List (List ℕ)) → AreLines later → goes_on own ≡ false → ReadsJoined own later (own ++ newline ∷ [], later)
last-sound own later are ends = record { bytes = []; split = refl; spells = SpellsJoined.last own (bytes_of later) ends; counted = omega arith; are = are }

cut_off-sound : (own : List ℕ) → goes_on own ≡ true → ReadsJoined own [] (without_last own ++ newline ∷ [], [])
cut_off-sound own on =
    let end = on-backslash own on in
    let front = end.0 in
    let whole : ReadsJoined (front ++ backslash ∷ []) [] (front ++ newline ∷ [], []) =
    record { bytes = []; split = refl; spells = SpellsJoined.cut_off front (sym (ap goes_on end.1) ∙ on); counted = omega arith; are = All-nil IsLine } in
    let same : without_last own ≡ front = ap without_last end.1 ∙ without_last-end front backslash in
    subst (λ kept. ReadsJoined own [] (kept ++ newline ∷ [], [])) (sym same) (subst (λ own. ReadsJoined own [] (front ++ newline ∷ [], [])) (sym end.1) whole)

further-sound : (own line : List ℕ) (later : List (List ℕ)) (r : List ℕ × List (List ℕ)) → goes_on own ≡ true → IsLine line → ReadsJoined line later r →
    ReadsJoined own (line ∷ later) (without_last own ++ newline ∷ r.0, r.1)
further-sound own line later r on is_line read =
    let end = on-backslash own on in
    let front = end.0 in
    let whole : ReadsJoined (front ++ backslash ∷ []) (line ∷ later) (front ++ newline ∷ r.0, r.1) = record {
      bytes = line ++ newline ∷ read.bytes;
      split = ap (λ bytes. line ++ newline ∷ bytes) read.split ∙ sym (append_assoc line (newline ∷ read.bytes) (bytes_of r.1));
      spells = SpellsJoined.further front line read.bytes (bytes_of r.1) r.0 (sym (ap goes_on end.1) ∙ on) is_line read.spells;
      counted = ap (λ lines. length lines + length r.1) (lines_of-whole line read.bytes is_line) ∙ omega (arith, read.counted);
      are = read.are;
    } in
    let same : without_last own ≡ front = ap without_last end.1 ∙ without_last-end front backslash in
    subst (λ kept. ReadsJoined own (line ∷ later) (kept ++ newline ∷ r.0, r.1)) (sym same) (subst (λ own. ReadsJoined own (line ∷ later) (front ++ newline ∷ r.0, r.1)) (sym end.1) whole)

-- a list that is joined is spelled so
pub joined-sound : (own : List ℕ) (later : List (List ℕ)) → AreLines later → ReadsJoined own later (joined own later)
joined-sound own [] are =
    ⊎_elim
    (λ on. subst (ReadsJoined own []) (sym (cut_off-read own on)) (cut_off-sound own on))
    (λ ends. subst (ReadsJoined own []) (sym (last-read own [] ends)) (last-sound own [] are ends))
    (cases_Bool (goes_on own))
joined-sound own (line ∷ later) are =
    ⊎_elim
    (λ on. subst (ReadsJoined own (line ∷ later)) (sym (further-read own line later on))
    (further-sound own line later (joined line later) on (All-head IsLine line later are) (joined-sound line later (All-tail IsLine line later are))))
    (λ ends. subst (ReadsJoined own (line ∷ later)) (sym (last-read own (line ∷ later) ends)) (last-sound own (line ∷ later) are ends))
    (cases_Bool (goes_on own))

-- a list that is spelled so is joined
pub joined-complete : {own text rest list : List ℕ} → SpellsJoined own text rest list → (later : List (List ℕ)) → AreLines later → text ++ rest ≡ bytes_of later →
    (left : LeftLines rest) × (joined own later ≡ (list, left.lines))
joined-complete (SpellsJoined.last own rest ends) later are same = (record { lines = later; split = same; are = are }, last-read own later ends)
joined-complete (SpellsJoined.cut_off own on) later are same =
    let none = no_lines later same in (
      record { lines = []; split = refl; are = All-nil IsLine },
      ap (joined (own ++ backslash ∷ [])) none ∙ cut_off-read (own ++ backslash ∷ []) on ∙ ap (λ kept. (kept ++ newline ∷ [], [])) (without_last-end own backslash),
    )
joined-complete (SpellsJoined.further own line text rest list on is_line is) later are same =
    let first = first_line line (text ++ rest) later is_line are (sym (append_assoc line (newline ∷ text) rest) ∙ same) in
    let after = joined-complete is first.later first.are first.after in (
      after.0,
      ap (joined (own ++ backslash ∷ [])) first.split
          ∙ further-read (own ++ backslash ∷ []) line first.later on
          ∙ ap (λ kept. (kept ++ newline ∷ (joined line first.later).0, (joined line first.later).1)) (without_last-end own backslash)
          ∙ ap (λ (r : List ℕ × List (List ℕ)). (own ++ newline ∷ r.0, r.1)) after.1,
    )

-- a list is whole lines
pub joined-whole : {own text rest list : List ℕ} → SpellsJoined own text rest list → IsLine own → bytes_of (lines_of list) ≡ list
joined-whole (SpellsJoined.last own rest ends) is_line = ap bytes_of (lines_of-whole own [] is_line)
joined-whole (SpellsJoined.cut_off own on) is_line = ap bytes_of (lines_of-whole own [] (front_line own backslash is_line))
joined-whole (SpellsJoined.further own line text rest list on is_next is) is_line =
    ap bytes_of (lines_of-whole own list (front_line own backslash is_line)) ∙ ap (λ list. own ++ newline ∷ list) (joined-whole is is_next)

-- a line that doesn't end in an odd number of backslashes
abbrev pub Even : List ℕ → Type 0
Even line = goes_on line ≡ false

-- the lines of a list don't
pub joined-even : {own text rest list : List ℕ} → SpellsJoined own text rest list → IsLine own → All Even (lines_of list)
joined-even (SpellsJoined.last own rest ends) is_line = subst (All Even) (sym (lines_of-whole own [] is_line)) (All-cons Even own [] ends (All-nil Even))
joined-even (SpellsJoined.cut_off own on) is_line =
    subst (All Even) (sym (lines_of-whole own [] (front_line own backslash is_line))) (All-cons Even own [] (even-before own on) (All-nil Even))
joined-even (SpellsJoined.further own line text rest list on is_next is) is_line =
    subst (All Even) (sym (lines_of-whole own list (front_line own backslash is_line))) (All-cons Even own (lines_of list) (even-before own on) (joined-even is is_next))
