-- The lines of bytes: one step of their recursion, and the bytes that a list of lines is written as.
use Rattle.std.proofs.Common.{◌≡◌, ◌≢◌, ℕ, suc, ◌+◌, ◌<◌, ◌≤◌, List, [], ◌∷◌, ◌++◌, length, take, drop, false, nat_eq, refl, sym, ap, subst, ◌∙◌, ⊎_elim, arith, append_assoc, cond, count_by, drop-cons, add-one, ◌-◌, get_or}
use Rattle.std.proofs.lemmas.Bool.{ne_eqb, eqb-false, eqb-true, eq-eqb, cases_eq, cond-true, cond-false}
use Rattle.std.proofs.lemmas.List.{get_or-take, take-append-drop, length-take-le, take_all, take_more, take_rest}
use Rattle.std.proofs.lemmas.List.Elements.{All-nil, All-cons, All-head, All-tail, All-from_get_or}
use Rattle.std.proofs.lemmas.List.Sums.{sum_by-cons}
use Rattle.memchr.specs.Find.{is_byte, Passes, Nowhere, NoneBefore}
use Rattle.ed_base.specs.Lines.{newline, IsLine, AreLines, HoldsLines, empty, incomplete, whole, onto_first, lines_of, bytes_of}

-- a byte that is no newline goes before the first line
pub lines_of-other : (byte : ℕ) (bytes : List ℕ) → byte ≢ newline → lines_of (byte ∷ bytes) ≡ onto_first byte (lines_of bytes)
lines_of-other byte bytes other = rw (ne_eqb byte newline other, lines_of) refl

-- a newline ends an empty line
pub lines_of-newline : (byte : ℕ) (bytes : List ℕ) → byte ≡ newline → lines_of (byte ∷ bytes) ≡ [] ∷ lines_of bytes
lines_of-newline byte bytes same = rw (eq-eqb byte newline same, lines_of) refl

-- a line, its newline and the rest
pub lines_of-whole : (line rest : List ℕ) → IsLine line → lines_of (line ++ newline ∷ rest) ≡ line ∷ lines_of rest
lines_of-whole [] rest is_line = refl
lines_of-whole (byte ∷ line) rest is_line =
    lines_of-other byte (line ++ newline ∷ rest) (All-head (λ b. b ≢ newline) byte line is_line)
    ∙ ap (onto_first byte) (lines_of-whole line rest (All-tail (λ b. b ≢ newline) byte line is_line))

-- a last line without its newline
pub lines_of-incomplete : (line : List ℕ) → IsLine line → line ≢ [] → lines_of line ≡ line ∷ []
lines_of-incomplete [] is_line some = absurd (some refl)
lines_of-incomplete (byte ∷ []) is_line some =
    lines_of-other byte [] (All-head (λ b. b ≢ newline) byte [] is_line)
lines_of-incomplete (byte ∷ next ∷ line) is_line some =
    lines_of-other byte (next ∷ line) (All-head (λ b. b ≢ newline) byte (next ∷ line) is_line)
    ∙ ap (onto_first byte) (lines_of-incomplete (next ∷ line) (All-tail (λ b. b ≢ newline) byte (next ∷ line) is_line) (λ none. cc))

-- lines that are written, and what follows them
pub lines_of-written : (lines : List (List ℕ)) (rest : List ℕ) → AreLines lines → lines_of (bytes_of lines ++ rest) ≡ lines ++ lines_of rest
lines_of-written [] rest are_lines = refl
lines_of-written (line ∷ lines) rest are_lines =
    ap lines_of (append_assoc line (newline ∷ bytes_of lines) rest) ∙ (lines_of-whole line (bytes_of lines ++ rest) (All-head IsLine line lines are_lines)
    ∙ ap (λ later. line ∷ later) (lines_of-written lines rest (All-tail IsLine line lines are_lines)))

-- lines that are written are read back
pub lines_of-bytes_of : (lines : List (List ℕ)) → AreLines lines → lines_of (bytes_of lines) ≡ lines
lines_of-bytes_of [] are_lines = refl
lines_of-bytes_of (line ∷ lines) are_lines =
    lines_of-whole line (bytes_of lines) (All-head IsLine line lines are_lines)
    ∙ ap (λ later. line ∷ later) (lines_of-bytes_of lines (All-tail IsLine line lines are_lines))

-- lines and further lines
pub bytes_of-append : (lines more : List (List ℕ)) → bytes_of (lines ++ more) ≡ bytes_of lines ++ bytes_of more
bytes_of-append [] more = refl
bytes_of-append (line ∷ lines) more =
    ap (λ bs. line ++ newline ∷ bs) (bytes_of-append lines more) ∙ sym (append_assoc line (newline ∷ bytes_of lines) (bytes_of more))

-- bytes hold no lines but those of `lines_of`
pub HoldsLines-only : {bytes : List ℕ} {lines : List (List ℕ)} → HoldsLines bytes lines → lines ≡ lines_of bytes
HoldsLines-only empty = refl
HoldsLines-only (incomplete line is_line some) = sym (lines_of-incomplete line is_line some)
HoldsLines-only (whole line rest lines is_line later) =
    ap (λ lines. line ∷ lines) (HoldsLines-only later) ∙ sym (lines_of-whole line rest is_line)

-- each line that bytes hold is without newline
pub HoldsLines-lines : {bytes : List ℕ} {lines : List (List ℕ)} → HoldsLines bytes lines → AreLines lines
HoldsLines-lines empty = All-nil IsLine
HoldsLines-lines (incomplete line is_line some) = All-cons IsLine line [] is_line (All-nil IsLine)
HoldsLines-lines (whole line rest lines is_line later) = All-cons IsLine line lines is_line (HoldsLines-lines later)

-- a byte more, which is no newline
HoldsLines-onto_first : (byte : ℕ) {bytes : List ℕ} {lines : List (List ℕ)} → byte ≢ newline → HoldsLines bytes lines → HoldsLines (byte ∷ bytes) (onto_first byte lines)
HoldsLines-onto_first byte other empty =
    incomplete (byte ∷ []) (All-cons (λ b. b ≢ newline) byte [] other (All-nil (λ b. b ≢ newline))) (λ none. cc)
HoldsLines-onto_first byte other (incomplete line is_line some) =
    incomplete (byte ∷ line) (All-cons (λ b. b ≢ newline) byte line other is_line) (λ none. cc)
HoldsLines-onto_first byte other (whole line rest lines is_line later) =
    whole (byte ∷ line) rest lines (All-cons (λ b. b ≢ newline) byte line other is_line) later

-- bytes hold the lines of `lines_of`
pub HoldsLines-lines_of : (bytes : List ℕ) → HoldsLines bytes (lines_of bytes)
HoldsLines-lines_of [] = empty
HoldsLines-lines_of (byte ∷ bytes) =
    ⊎_elim
    (λ same.
    let P : List ℕ → Type 0 = λ bs. HoldsLines bs (lines_of (byte ∷ bytes)) in
    let Q : List (List ℕ) → Type 0 = λ ls. HoldsLines (newline ∷ bytes) ls in
    subst P (ap (λ b. b ∷ bytes) (sym same)) (subst Q (sym (lines_of-newline byte bytes same)) (whole [] bytes (lines_of bytes) (All-nil (λ b. b ≢ newline)) (HoldsLines-lines_of bytes))))
    (λ other.
    let Q : List (List ℕ) → Type 0 = λ ls. HoldsLines (byte ∷ bytes) ls in
    subst Q (sym (lines_of-other byte bytes other)) (HoldsLines-onto_first byte other (HoldsLines-lines_of bytes)))
    (cases_eq byte newline)

-- each of these is a line
pub AreLines-lines_of : (bytes : List ℕ) → AreLines (lines_of bytes)
AreLines-lines_of bytes = HoldsLines-lines (HoldsLines-lines_of bytes)

length-onto_first : (byte : ℕ) (lines : List (List ℕ)) → 0 < length lines → length (onto_first byte lines) ≡ length lines
length-onto_first byte [] some = absurd (omega (arith, some))
length-onto_first byte (line ∷ lines) some = refl

-- how many newlines a byte is
abbrev ones : ℕ → ℕ
ones byte = cond (nat_eq byte newline) 1 0

-- after each newline but a last one stands a line
pub length-lines_of : (front : List ℕ) (last : ℕ) → length (lines_of (front ++ last ∷ [])) ≡ count_by (is_byte newline) front + 1
length-lines_of [] last =
    ⊎_elim
    (λ same. ap length (lines_of-newline last [] same))
    (λ other. ap length (lines_of-other last [] other))
    (cases_eq last newline)
length-lines_of (byte ∷ front) last =
    let later = length-lines_of front last in
    let count : count_by (is_byte newline) (byte ∷ front) ≡ ones byte + count_by (is_byte newline) front = sum_by-cons ones byte front in
    ⊎_elim
    (λ same.
    let one : ones byte ≡ 1 = cond-true _ _ _ (eq-eqb byte newline same) in
    ap length (lines_of-newline byte (front ++ last ∷ []) same) ∙ omega (arith, one, count, later))
    (λ other.
    let none : ones byte ≡ 0 = cond-false _ _ _ (ne_eqb byte newline other) in
    ap length (lines_of-other byte (front ++ last ∷ []) other)
    ∙ length-onto_first byte (lines_of (front ++ last ∷ [])) (omega (arith, later)) ∙ omega (arith, none, count, later))
    (cases_eq byte newline)

-- a byte that is no newline, before the first line
bytes_of-onto_first : (byte : ℕ) (lines : List (List ℕ)) → 0 < length lines → bytes_of (onto_first byte lines) ≡ byte ∷ bytes_of lines
bytes_of-onto_first byte [] some = absurd (omega (arith, some))
bytes_of-onto_first byte (line ∷ lines) some = refl

-- bytes that end in a newline are those of their lines
pub bytes_of-ended : (front : List ℕ) → bytes_of (lines_of (front ++ newline ∷ [])) ≡ front ++ newline ∷ []
bytes_of-ended [] = refl
bytes_of-ended (byte ∷ front) =
    let ended : List ℕ = front ++ newline ∷ [] in
    let later : bytes_of (lines_of ended) ≡ ended = bytes_of-ended front in
    ⊎_elim
    (λ same. ap bytes_of (lines_of-newline byte ended same) ∙ ap (λ t. newline ∷ t) later ∙ ap (λ b. b ∷ ended) (sym same))
    (λ other.
    ap bytes_of (lines_of-other byte ended other)
    ∙ bytes_of-onto_first byte (lines_of ended) (omega (arith, length-lines_of front newline)) ∙ ap (λ t. byte ∷ t) later)
    (cases_eq byte newline)

-- bytes up to a newline have their lines, and those after it theirs
pub lines_of-cut : (front rest : List ℕ) → lines_of (front ++ newline ∷ rest) ≡ lines_of (front ++ newline ∷ []) ++ lines_of rest
lines_of-cut front rest =
    let ended : List ℕ = front ++ newline ∷ [] in
    ap lines_of (sym (append_assoc front (newline ∷ []) rest) ∙ ap (λ t. t ++ rest) (sym (bytes_of-ended front)))
    ∙ lines_of-written (lines_of ended) rest (AreLines-lines_of ended)

-- a newline after a last line that lacks it makes no other lines
pub lines_of-ended : (front : List ℕ) (last : ℕ) → last ≢ newline → lines_of ((front ++ last ∷ []) ++ newline ∷ []) ≡ lines_of (front ++ last ∷ [])
lines_of-ended [] last lacks = lines_of-other last (newline ∷ []) lacks ∙ sym (lines_of-other last [] lacks)
lines_of-ended (byte ∷ front) last lacks =
    let short : List ℕ = front ++ last ∷ [] in
    let later : lines_of (short ++ newline ∷ []) ≡ lines_of short = lines_of-ended front last lacks in
    ⊎_elim
    (λ same. lines_of-newline byte (short ++ newline ∷ []) same ∙ ap (λ ls. [] ∷ ls) later ∙ sym (lines_of-newline byte short same))
    (λ other.
    lines_of-other byte (short ++ newline ∷ []) other ∙ ap (onto_first byte) later ∙ sym (lines_of-other byte short other))
    (cases_eq byte newline)

-- bytes that get the newline that they lack are those of their lines
pub bytes_of-completed : (front : List ℕ) (last : ℕ) → last ≢ newline → (front ++ last ∷ []) ++ newline ∷ [] ≡ bytes_of (lines_of (front ++ last ∷ []))
bytes_of-completed front last lacks =
    sym (bytes_of-ended (front ++ last ∷ [])) ∙ ap bytes_of (lines_of-ended front last lacks)

-- the bytes of lines that bytes have, and whose bytes they are
pub lines_of-completed : (bytes completed : List ℕ) → completed ≡ bytes_of (lines_of bytes) → lines_of completed ≡ lines_of bytes
lines_of-completed bytes completed is = ap lines_of is ∙ lines_of-bytes_of (lines_of bytes) (AreLines-lines_of bytes)

-- the same for all bytes but the last
pub length-lines_of-front : (bytes : List ℕ) → 0 < length bytes
    → length (lines_of bytes) ≡ count_by (is_byte newline) (take (length bytes - 1) bytes) + 1
length-lines_of-front bytes some =
    let before : ℕ = length bytes - 1 in
    let all : length bytes ≤ before + 1 = omega arith in
    let lt : before < length bytes = omega arith in
    ap (λ bs. length (lines_of bs)) (sym (take_all (before + 1) bytes all) ∙ take_more bytes before 0 lt)
    ∙ length-lines_of (take before bytes) (get_or bytes before 0)

-- no newline at all
pub IsLine-none : (bytes : List ℕ) → Nowhere (Passes (is_byte newline) bytes) 0 (length bytes) → IsLine bytes
IsLine-none bytes none =
    All-from_get_or (λ b. b ≢ newline) bytes 0 (λ k low is. none k (omega arith) low (eq-eqb _ _ is))

-- no newline up to a place
pub IsLine-take : (bytes : List ℕ) (end : ℕ) → end ≤ length bytes → Nowhere (Passes (is_byte newline) bytes) 0 end → IsLine (take end bytes)
IsLine-take bytes end le none =
    All-from_get_or (λ b. b ≢ newline) (take end bytes) 0 (λ k low is.
    let short : k < end = omega (arith, length-take-le end bytes le) in
    none k (omega arith) short (eq-eqb _ _ (sym (get_or-take end bytes k 0 short) ∙ is)))

-- the first newline stands after the first line
pub at_newline : (bytes : List ℕ) (end : ℕ) → end < length bytes → Passes (is_byte newline) bytes end → bytes ≡ take end bytes ++ newline ∷ drop (end + 1) bytes
at_newline bytes end lt is =
    sym (take-append-drop end bytes)
    ∙ ap (λ t. take end bytes ++ t) (drop-cons bytes end 0 lt ∙ ap (λ b. b ∷ drop (suc end) bytes) (eqb-true _ _ is) ∙ ap (λ n. newline ∷ drop n bytes) (sym (add-one end)))

-- the first line and the rest, at the first newline
pub lines_of-at : (bytes : List ℕ) (end : ℕ) → NoneBefore (Passes (is_byte newline) bytes) 0 (length bytes) end → Passes (is_byte newline) bytes end
    → lines_of bytes ≡ take end bytes ∷ lines_of (take (length bytes - (end + 1)) (drop (end + 1) bytes))
lines_of-at bytes end first is =
    let is_line = IsLine-take bytes end (omega (arith, first.high)) first.before in
    ap lines_of (at_newline bytes end first.high is)
    ∙ lines_of-whole (take end bytes) (drop (end + 1) bytes) is_line
    ∙ ap (λ rest. take end bytes ∷ lines_of rest) (sym (take_rest bytes (end + 1)))

-- a last line, where there is no newline
pub lines_of-last : (bytes : List ℕ) → nat_eq (length bytes) 0 ≡ false → Nowhere (Passes (is_byte newline) bytes) 0 (length bytes) → lines_of bytes ≡ bytes ∷ []
lines_of-last bytes some none =
    lines_of-incomplete bytes (IsLine-none bytes none) (λ is. eqb-false (length bytes) 0 some (ap length is))
