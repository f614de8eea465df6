-- Lines that are taken off a file's bytes, one after another.
use Rattle.std.proofs.Common.{◌≡◌, ℕ, ◌+◌, ◌<◌, ◌≤◌, List, [], ◌∷◌, ◌++◌, length, map, min, nat_eq, true, false, cond, sym, ap, ◌∙◌, arith, append_assoc, append-nil, ⊎_elim}
use Rattle.std.proofs.lemmas.Bool.{cases_eq}
use Rattle.std.proofs.lemmas.List.{length-append, length-map, map-append}
use Rattle.std.proofs.lemmas.List.Sums.{sum_by_push, sum_by-append}
use Rattle.ed_base.specs.Lines.{newline, onto_first, lines_of}
use Rattle.ed_base.specs.Buffer.{Line, plain_line, texts}
use Rattle.ed_base.proofs.LineLemmas.{lines_of-newline, lines_of-other}
use Rattle.line_store.specs.BlockKinds.{lines_in}
use Rattle.line_store.specs.Chunks.{full, joined}
use Rattle.line_store.specs.Kept.{flag_count}
use Rattle.line_store.specs.declared.block.Kind.{Kind}
use Rattle.line_store.specs.declared.block.Kind.TheVariants as kind
use Rattle.line_store.proofs.Joined.{joined-append}
use Rattle.line_store.proofs.Taken.{texts-plain}

-- a line without the flag, after others without it
pub unflagged-more : (lines : List Line) (line : Line) (text : List ℕ) →
    line ≡ plain_line text → flag_count lines ≡ 0 → flag_count (lines ++ line ∷ []) ≡ 0
unflagged-more lines line text is none =
    sum_by_push (λ (line : Line). cond line.flag 1 0) lines line ∙ omega (arith, none, ap {B = ℕ} (λ (l : Line). cond l.flag 1 0) is)

-- a plain line after others
pub plain-more : (lines : List Line) (line : Line) (text : List ℕ) → line ≡ plain_line text → lines ≡ map plain_line (texts lines) →
    lines ++ line ∷ [] ≡ map plain_line (texts (lines ++ line ∷ []))
plain-more lines line text is before =
    let one : line ≡ plain_line line.bytes = is ∙ ap plain_line (sym (ap (λ (l : Line). l.bytes) is)) in
    ap (λ t. t ++ line ∷ []) before
    ∙ ap (λ (l : Line). map plain_line (texts lines) ++ l ∷ []) one
    ∙ sym (ap (map plain_line) (map-append (λ (l : Line). l.bytes) lines (line ∷ [])) ∙ map-append plain_line (texts lines) (line.bytes ∷ []))

-- one more line, and those after it
pub taken-next : (lines : List Line) (line : Line) (text : List ℕ) (all left rest : List (List ℕ)) →
    line ≡ plain_line text → all ≡ texts lines ++ left → left ≡ text ∷ rest →
    all ≡ texts (lines ++ line ∷ []) ++ rest
taken-next lines line text all left rest is before first =
    before ∙ ap (λ t. texts lines ++ t) (first ∙ ap (λ (l : Line). l.bytes ∷ rest) (sym is))
    ∙ sym (append_assoc (texts lines) (line.bytes ∷ []) rest)
    ∙ ap (λ t. t ++ rest) (sym (map-append (λ (l : Line). l.bytes) lines (line ∷ [])))

-- how many lines were taken
pub taken-count : (lines : List Line) (all rest : List (List ℕ)) → all ≡ texts lines ++ rest → length all ≡ length lines + length rest
taken-count lines all rest is =
    ap length is ∙ length-append (texts lines) rest ∙ ap (λ n. n + length rest) (length-map lines (λ (l : Line). l.bytes))

length-onto_first : (byte : ℕ) (lines : List (List ℕ)) → length (onto_first byte lines) ≤ 1 + length lines
length-onto_first byte [] = omega arith
length-onto_first byte (line ∷ lines) = omega arith

-- no more lines than bytes
pub lines-few : (bytes : List ℕ) → length (lines_of bytes) ≤ length bytes
lines-few [] = omega arith
lines-few (byte ∷ bytes) =
    let later = lines-few bytes in
    ⊎_elim
    (λ same. omega (arith, ap length (lines_of-newline byte bytes same), later))
    (λ other. omega (arith, ap length (lines_of-other byte bytes other), length-onto_first byte (lines_of bytes), later))
    (cases_eq byte newline)

length-some : (byte : ℕ) (lines : List (List ℕ)) → 0 < length (onto_first byte lines)
length-some byte [] = omega arith
length-some byte (line ∷ lines) = omega arith

-- some bytes have a line
pub lines-some : (bytes : List ℕ) → 0 < length bytes → 0 < length (lines_of bytes)
lines-some [] h = absurd (omega arith)
lines-some (byte ∷ bytes) h =
    ⊎_elim
    (λ same. omega (arith, ap length (lines_of-newline byte bytes same)))
    (λ other. omega (arith, ap length (lines_of-other byte bytes other), length-some byte (lines_of bytes)))
    (cases_eq byte newline)

-- the lines of one more chunk
pub joined-more : (chunks now : List (List Line)) (chunk : List Line) → now ≡ chunks ++ chunk ∷ [] → joined now ≡ joined chunks ++ chunk
joined-more chunks now chunk is = ap joined is ∙ joined-append chunks (chunk ∷ []) ∙ ap (λ t. joined chunks ++ t) (append-nil chunk)

pub taken-chunk : (chunks now : List (List Line)) (chunk : List Line) (all left rest : List (List ℕ)) → now ≡ chunks ++ chunk ∷ [] →
    all ≡ texts (joined chunks) ++ left → left ≡ texts chunk ++ rest → all ≡ texts (joined now) ++ rest
taken-chunk chunks now chunk all left rest is before first =
    before ∙ ap (λ t. texts (joined chunks) ++ t) first
    ∙ sym (append_assoc (texts (joined chunks)) (texts chunk) rest)
    ∙ ap (λ t. t ++ rest) (sym (map-append (λ (l : Line). l.bytes) (joined chunks) chunk))
    ∙ ap (λ t. texts t ++ rest) (sym (joined-more chunks now chunk is))

pub unflagged-chunk : (chunks now : List (List Line)) (chunk : List Line) → now ≡ chunks ++ chunk ∷ [] →
    flag_count (joined chunks) ≡ 0 → flag_count chunk ≡ 0 →
    flag_count (joined now) ≡ 0
unflagged-chunk chunks now chunk is before none =
    ap flag_count (joined-more chunks now chunk is)
    ∙ sum_by-append (λ (l : Line). cond l.flag 1 0) (joined chunks) chunk
    ∙ omega (arith, before, none)

some-bytes : (bytes : List ℕ) → nat_eq (length bytes) 0 ≡ false → 0 < length bytes
some-bytes [] h = let e : true ≡ false = h in absurd cc
some-bytes (byte ∷ bytes) h = omega arith

-- a chunk that was filled leaves fewer lines
pub fewer-left : (lines : List Line) (old new : List ℕ) → nat_eq (length old) 0 ≡ false → lines_of old ≡ texts lines ++ lines_of new →
    length lines ≡ min full (length (lines_of old)) → length (lines_of new) < length (lines_of old)
fewer-left lines old new some is count =
    omega (arith, taken-count lines (lines_of old) (lines_of new) is, count, lines-some old (some-bytes old some))

-- a block of a file has its lines
pub whole-file : (block : Kind) (file : List ℕ) (count : ℕ) (lines : List (List ℕ)) → block ≡ kind.File file count → texts (lines_in block) ≡ lines →
    lines_of file ≡ lines
whole-file block file count lines is has = sym (texts-plain (lines_of file)) ∙ ap (λ k. texts (lines_in k)) (sym is) ∙ has
