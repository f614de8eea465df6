-- Lines that are written one after another, each with a newline.
use Rattle.std.proofs.Common.{◌≡◌, ℕ, zero, suc, ◌+◌, ◌<◌, ◌≤◌, List, [], ◌∷◌, ◌++◌, take, drop, length, get_or, sym, ap, ◌∙◌, arith, append_assoc, append-nil}
use Rattle.std.proofs.lemmas.List.{take_more, drop_at, drop-append-le, take-append-le, length-take-le, map-append}
use Rattle.std.proofs.lemmas.List.Elements.{All-append, All-cons, All-nil, All-same}
use Rattle.ed_base.specs.Buffer.{Line, texts}
use Rattle.ed_base.specs.Lines.{newline, AreLines, IsLine, bytes_of}
use Rattle.ed_base.specs.Parts.{block}
use Rattle.ed_base.proofs.LineLemmas.{bytes_of-append}
use Rattle.ed_base.proofs.PartLemmas.{front}
use Rattle.line_store.specs.Chunks.{joined, lines_before}
use Rattle.line_store.proofs.Ranges.{block-none}

-- the lines from place a up to place b come after other bytes
pub record Written (a b : ℕ) (lines : List Line) (old new : List ℕ) : Type 0 where
  pub bytes : new ≡ old ++ bytes_of (texts (block a b lines))
  pub are : AreLines (texts (block a b lines))

pub block-one : {X : Type 0} (i : ℕ) (xs : List X) (x : X) → i < length xs → x ≡ get_or xs i x → block i (i + 1) xs ≡ x ∷ []
block-one i xs x h is =
    ap (drop i) (take_more xs i x h)
    ∙ drop_at (take i xs) (get_or xs i x ∷ []) i (length-take-le i xs (omega arith))
    ∙ ap (λ y. y ∷ []) (sym is)

pub block-joined : {X : Type 0} (a i j : ℕ) (xs : List X) → a ≤ i → i ≤ j → i ≤ length xs →
    block a j xs ≡ block a i xs ++ block i j xs
block-joined a i j xs h k l =
    ap (drop a) (sym (front i j xs k)) ∙ drop-append-le a (take i xs) (block i j xs) (omega (arith, length-take-le i xs l))

-- no line
pub written-none : (a : ℕ) (lines : List Line) (old : List ℕ) → Written a a lines old old
written-none a lines old = record {
  bytes = sym (ap (λ t. old ++ bytes_of (texts t)) (block-none a lines) ∙ append-nil old);
  are = All-same IsLine _ [] (ap texts (block-none a lines)) (All-nil IsLine);
}

-- one line
pub written-line : (i : ℕ) (lines : List Line) (line : Line) (old new : List ℕ) →
    i < length lines → line ≡ get_or lines i line → IsLine line.bytes →
    new ≡ old ++ (line.bytes ++ newline ∷ []) → Written i (i + 1) lines old new
written-line i lines line old new h is are put =
    let one = ap texts (block-one i lines line h is) in
    record {
      bytes = put ∙ ap (λ t. old ++ bytes_of t) (sym one);
      are = All-same IsLine _ (line.bytes ∷ []) one (All-cons IsLine line.bytes [] are (All-nil IsLine));
    }

-- lines and further lines
pub written-on : (a i j : ℕ) (lines : List Line) (old mid new : List ℕ) → a ≤ i → i ≤ j → i ≤ length lines →
    Written a i lines old mid → Written i j lines mid new → Written a j lines old new
written-on a i j lines old mid new h k l first second =
    let xs = texts (block a i lines) in
    let ys = texts (block i j lines) in
    let both : texts (block a j lines) ≡ xs ++ ys =
    ap texts (block-joined a i j lines h k l) ∙ map-append (λ (l : Line). l.bytes) (block a i lines) (block i j lines) in
    record {
      bytes = second.bytes ∙ ap (λ t. t ++ bytes_of ys) first.bytes
          ∙ append_assoc old (bytes_of xs) (bytes_of ys)
          ∙ ap (λ t. old ++ t) (sym (ap bytes_of both ∙ bytes_of-append xs ys));
      are = All-same IsLine _ (xs ++ ys) both (All-append IsLine xs ys first.are second.are);
    }

-- a part of the second of two lists
pub block-after : {X : Type 0} (xs ys : List X) (i j m n : ℕ) → i ≡ length xs + m → j ≡ length xs + n →
    block i j (xs ++ ys) ≡ block m n ys
block-after [] ys i j m n e f =
    ap (λ t. block t j ys) (let g : i ≡ m = omega arith in g) ∙ ap (λ t. block m t ys) (let g : j ≡ n = omega arith in g)
block-after (x ∷ xs) ys zero j m n e f = absurd (omega arith)
block-after (x ∷ xs) ys (suc i) zero m n e f = absurd (omega arith)
block-after (x ∷ xs) ys (suc i) (suc j) m n e f = block-after xs ys i j m n (omega arith) (omega arith)

-- a part of a chunk, among all lines
block-in_chunk : {X : Type 0} (chunks : List (List X)) (k a b i j : ℕ) → k < length chunks → b ≤ length (get_or chunks k []) →
    i ≡ lines_before k chunks + a → j ≡ lines_before k chunks + b → block i j (joined chunks) ≡ block a b (get_or chunks k [])
block-in_chunk [] k a b i j h l e f = absurd (omega arith)
block-in_chunk (chunk ∷ chunks) zero a b i j h l e f =
    ap (λ n. block n j (chunk ++ joined chunks)) (let g : i ≡ a = omega arith in g)
    ∙ ap (λ n. block a n (chunk ++ joined chunks)) (let g : j ≡ b = omega arith in g)
    ∙ ap (drop a) (take-append-le b chunk (joined chunks) l)
block-in_chunk (chunk ∷ chunks) (suc k) a b i j h l e f =
    let m = lines_before k chunks + a in
    let n = lines_before k chunks + b in
    block-after chunk (joined chunks) i j m n (omega arith) (omega arith)
    ∙ block-in_chunk chunks k a b m n (omega arith) l (omega arith) (omega arith)

-- lines of a chunk
pub written-chunk : (chunks : List (List Line)) (k a b i j : ℕ) (old new : List ℕ) → k < length chunks →
    b ≤ length (get_or chunks k []) → i ≡ lines_before k chunks + a → j ≡ lines_before k chunks + b →
    Written a b (get_or chunks k []) old new → Written i j (joined chunks) old new
written-chunk chunks k a b i j old new h l e f part =
    let same = ap texts (block-in_chunk chunks k a b i j h l e f) in
    record {
      bytes = part.bytes ∙ ap (λ t. old ++ bytes_of t) (sym same);
      are = All-same IsLine _ (texts (block a b (get_or chunks k []))) same part.are;
    }
