-- Lines that are taken off a file's bytes, one after another, are a run.
use Rattle.std.proofs.Common.{◌≡◌, ℕ, ◌+◌, ◌-◌, ◌<◌, ◌≤◌, List, [], ◌∷◌, ◌++◌, Bool, true, false, Option, Some, None, take, drop, length, get_or, set, ltb, refl, sym, ap, ◌∙◌, arith, inl, inr, append_assoc, append-nil}
use Rattle.std.specs.List.{slice_range}
use Rattle.std.proofs.lemmas.Bool.{lt-ltb, le-ltb}
use Rattle.std.proofs.lemmas.List.{length-append, length-drop, map-append, drop-drop, drop-take, take_all, take_at}
use Rattle.std.proofs.lemmas.List.Elements.{All-append, All-cons, All-nil, All-same}
use Rattle.std.proofs.Math.Seq.{map-set_same}
use Rattle.ed_base.specs.Buffer.{Line, plain_line, texts}
use Rattle.ed_base.specs.Lines.{newline, AreLines, CutsFirst, IsLine, bytes_of}
use Rattle.ed_base.specs.Parts.{block}
use Rattle.ed_base.proofs.LineLemmas.{bytes_of-append}
use Rattle.ed_base.proofs.PartLemmas.{front}
use Rattle.line_store.specs.Runs.{IsRun, RunOf, run_bytes}

-- a part of a file, and the bytes after it
slice-more : (file : List ℕ) (start next count : ℕ) → start ≤ next →
    slice_range file start (next + count) ≡ slice_range file start next ++ take count (drop next file)
slice-more file start next count h =
    let left = drop start file in
    ap (λ n. take n left) (let e : next + count - start ≡ (next - start) + count = omega arith in e)
    ∙ sym (front (next - start) ((next - start) + count) left (omega arith))
    ∙ ap (λ t. take (next - start) left ++ t) (drop-take (next - start) count left)
    ∙ ap (λ t. take (next - start) left ++ take count t)
    (drop-drop (next - start) start file ∙ ap (λ n. drop n file) (let e : start + (next - start) ≡ next = omega arith in e))

-- no line
pub run-none : (file : List ℕ) (start : ℕ) → RunOf (run_bytes (slice_range file start start) true) []
run-none file start = record {
  bytes = ap (λ n. take n (drop start file)) (let e : start - start ≡ 0 = omega arith in e);
  are = All-nil IsLine;
}

-- the lines of a run, and one more
run-more : (bytes : List ℕ) (lines : List Line) (line : Line) (text : List ℕ) → line ≡ plain_line text → IsLine text →
    RunOf bytes lines → RunOf (bytes ++ (text ++ newline ∷ [])) (lines ++ line ∷ [])
run-more bytes lines line text is one before =
    let both : texts (lines ++ line ∷ []) ≡ texts lines ++ text ∷ [] =
    map-append (λ (l : Line). l.bytes) lines (line ∷ []) ∙ ap (λ (l : Line). texts lines ++ l.bytes ∷ []) is in
    record {
      bytes = ap (λ t. t ++ (text ++ newline ∷ [])) before.bytes
          ∙ sym (ap bytes_of both ∙ bytes_of-append (texts lines) (text ∷ []));
      are = All-same IsLine _ (texts lines ++ text ∷ []) both
          (All-append IsLine (texts lines) (text ∷ []) before.are (All-cons IsLine text [] one (All-nil IsLine)));
    }

-- the bytes up to the end of the next line, which may lack its newline
next-bytes : (file left : List ℕ) (start next : ℕ) (text rest : List ℕ) → start ≤ next → next < length file →
    drop next file ≡ left → CutsFirst left text rest →
    run_bytes (slice_range file start (length file - length rest)) (ltb (next + length text) (length file - length rest))
    ≡ slice_range file start next ++ (text ++ newline ∷ [])
next-bytes file left start next text rest h k e (inl whole) =
    let after = length file - length rest in
    let long : length file - next ≡ length text + (1 + length rest) =
    omega (arith, length-drop next file, ap length (e ∙ whole), length-append text (newline ∷ rest)) in
    let end : after ≡ next + (length text + 1) = omega (arith, long) in
    ap (run_bytes (slice_range file start after)) (lt-ltb (next + length text) after (omega (arith, end)))
    ∙ ap (slice_range file start) end
    ∙ slice-more file start next (length text + 1) h
    ∙ ap (λ t. slice_range file start next ++ take (length text + 1) t) (e ∙ whole ∙ sym (append_assoc text (newline ∷ []) rest))
    ∙ ap (λ t. slice_range file start next ++ t)
    (take_at (text ++ newline ∷ []) rest (length text + 1) (length-append text (newline ∷ [])))
next-bytes file left start next text rest h k e (inr (only, none)) =
    let after = length file - length rest in
    let end : after ≡ next + length text = omega (arith, length-drop next file, ap length (e ∙ only), ap length none) in
    ap (run_bytes (slice_range file start after)) (le-ltb (next + length text) after (omega (arith, end)))
    ∙ ap (λ n. slice_range file start n ++ newline ∷ []) end
    ∙ ap (λ t. t ++ newline ∷ []) (slice-more file start next (length text) h)
    ∙ ap (λ t. (slice_range file start next ++ take (length text) t) ++ newline ∷ []) (e ∙ only ∙ sym (append-nil text))
    ∙ ap (λ t. (slice_range file start next ++ t) ++ newline ∷ []) (take_at text [] (length text) refl)
    ∙ append_assoc (slice_range file start next) text (newline ∷ [])

-- one more line
pub run-next : (file left : List ℕ) (start next : ℕ) (text rest : List ℕ) (lines more : List Line) (line : Line) (ended : Bool) →
    start ≤ next → next < length file → (ended ≡ false → next ≡ length file) → line ≡ plain_line text → IsLine text →
    drop next file ≡ left → CutsFirst left text rest → more ≡ lines ++ line ∷ [] →
    RunOf (run_bytes (slice_range file start next) ended) lines →
    RunOf (run_bytes (slice_range file start (length file - length rest)) (ltb (next + length text) (length file - length rest))) more
run-next file left start next text rest lines more line false h k last is one e cut m before = absurd (omega (arith, last refl))
run-next file left start next text rest lines more line true h k last is one e cut m before =
    let run = run-more (slice_range file start next) lines line text is one before in
    record {
      bytes = next-bytes file left start next text rest h k e cut ∙ run.bytes ∙ ap (λ t. bytes_of (texts t)) (sym m);
      are = All-same IsLine _ (texts (lines ++ line ∷ [])) (ap texts m) run.are;
    }

-- a last line without its newline ends where the file does
pub run-last : (file left : List ℕ) (next : ℕ) (text rest : List ℕ) → next < length file → drop next file ≡ left → CutsFirst left text rest →
    ltb (next + length text) (length file - length rest) ≡ false → length file - length rest ≡ length file
run-last file left next text rest k e (inl whole) h =
    let long : length file - next ≡ length text + (1 + length rest) =
    omega (arith, length-drop next file, ap length (e ∙ whole), length-append text (newline ∷ rest)) in
    let same : true ≡ false = sym (lt-ltb (next + length text) (length file - length rest) (omega (arith, long))) ∙ h in
    cc
run-last file left next text rest k e (inr (only, none)) h = omega (arith, ap length none)

-- all lines of a run are lines
pub run-lines : (run : Option (List ℕ)) (bytes : List ℕ) (lines : List Line) (from to : ℕ) → run ≡ Some bytes → from ≡ 0 →
    to ≡ length lines → IsRun run lines → AreLines (texts (block from to lines))
run-lines None bytes lines from to e f t is = cc
run-lines (Some run) bytes lines from to e f t is =
    let all : block from to lines ≡ lines =
    ap (λ n. block n to lines) f ∙ ap (λ n. block 0 n lines) t ∙ take_all (length lines) lines (omega arith) in
    All-same IsLine _ (texts lines) (ap texts all) is.are

-- a line of the same bytes in place of another
pub run-same : (run : Option (List ℕ)) (lines : List Line) (i : ℕ) (line : Line) → line.bytes ≡ (get_or lines i (plain_line [])).bytes →
    IsRun run lines → IsRun run (set lines i line)
run-same None lines i line same is = is
run-same (Some bytes) lines i line same is =
    let texts-same : texts (set lines i line) ≡ texts lines = map-set_same (λ (l : Line). l.bytes) lines i line (plain_line []) same in
    record { bytes = is.bytes ∙ sym (ap bytes_of texts-same); are = All-same IsLine _ (texts lines) texts-same is.are }
