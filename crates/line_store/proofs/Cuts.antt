-- A line that is cut off a file's bytes, and the bytes after it.
use Rattle.std.proofs.Common.{◌≡◌, ℕ, ◌+◌, ◌-◌, ◌≤◌, List, [], ◌∷◌, ◌++◌, take, drop, length, ap, sym, ◌∙◌, arith, inl, inr, append-nil, append_assoc}
use Rattle.std.specs.List.{slice_range}
use Rattle.std.proofs.lemmas.List.{drop-drop, length-drop, length-append, take_at, take_all, drop_at, drop_all}
use Rattle.ed_base.specs.Lines.{CutsFirst, newline}

-- the line is the front of the bytes
line-front : (bytes line rest : List ℕ) → CutsFirst bytes line rest → take (length line) bytes ≡ line
line-front bytes line rest (inl e) = ap (take (length line)) e ∙ take_at line (newline ∷ rest) (length line) (omega arith)
line-front bytes line rest (inr (e, _)) = ap (take (length line)) (e ∙ sym (append-nil line)) ∙ take_at line [] (length line) (omega arith)

-- the bytes from a place to the end
pub to_end : (file : List ℕ) (next : ℕ) → slice_range file next (length file) ≡ drop next file
to_end file next = take_all (length file - next) (drop next file) (omega (arith, length-drop next file))

-- the line stands between two places of the file
pub line-between : (file left line rest : List ℕ) (next : ℕ) → drop next file ≡ left → CutsFirst left line rest →
    slice_range file next (next + length line) ≡ line
line-between file left line rest next e h =
    let n : (next + length line) - next ≡ length line = omega arith in
    ap (λ k. take k (drop next file)) n ∙ ap (take (length line)) e ∙ line-front left line rest h

-- the bytes after it reach to the end of the file
pub rest-after : (file left line rest : List ℕ) (next : ℕ) → next ≤ length file → drop next file ≡ left → CutsFirst left line rest →
    drop (length file - length rest) file ≡ rest
rest-after file left line rest next h e (inl whole) =
    let long : length left ≡ length line + (1 + length rest) = omega (arith, ap length whole, length-append line (newline ∷ rest)) in
    let place : length file - length rest ≡ next + (length line + 1) = omega (arith, long, ap length e, length-drop next file) in
    ap (λ k. drop k file) place
    ∙ sym (drop-drop (length line + 1) next file)
    ∙ ap (drop (length line + 1)) (e ∙ whole ∙ sym (append_assoc line (newline ∷ []) rest))
    ∙ drop_at (line ++ newline ∷ []) rest (length line + 1) (length-append line (newline ∷ []))
rest-after file left line rest next h e (inr (_, none)) =
    drop_all (length file - length rest) file (omega (arith, ap length none)) ∙ sym none
