-- Bytes in pieces: a part that grows, and pieces that are closed.
use Rattle.std.proofs.Common.{◌≡◌, ℕ, ◌+◌, ◌-◌, ◌≤◌, true, List, [], ◌∷◌, ◌++◌, Option, Some, None, take, drop, length, nat_eq, ap, sym, ◌∙◌, refl, arith, append-nil, append_assoc}
use Rattle.std.specs.List.{slice_range, concat, starts_with}
use Rattle.std.proofs.Math.Seq.{take-add}
use Rattle.std.proofs.lemmas.Bool.Decides.{Decides-eqb}
use Rattle.std.proofs.lemmas.List.{drop-drop, take_at, take_rest}
use Rattle.std.proofs.lemmas.List.Folds.{concat-append}
use Rattle.std.proofs.lemmas.Slice.Eq.{starts_is}
use Rattle.ed_base.specs.Pieces.{bytes_or_none}

-- a part and the bytes that follow it in its block
pub part-grown : (file bytes : List ℕ) (start end place : ℕ) → start ≤ end → end ≡ place →
    true ≡ starts_with nat_eq (slice_range file place (length file)) bytes →
    slice_range file start (end + length bytes) ≡ slice_range file start end ++ bytes
part-grown file bytes start end place h e follows =
    let later : List ℕ = drop place file in
    let there : later ≡ bytes ++ drop (length bytes) later =
    (starts_is Decides-eqb later bytes true (follows ∙ ap (λ b. starts_with nat_eq b bytes) (take_rest file place))).0 refl in
    let size : end + length bytes - start ≡ (end - start) + length bytes = omega (arith, h) in
    let seam : start + (end - start) ≡ place = omega (arith, h, e) in
    ap (λ n. take n (drop start file)) size
    ∙ take-add (end - start) (length bytes) (drop start file)
    ∙ ap (λ t. slice_range file start end ++ take (length bytes) t) (drop-drop (end - start) start file ∙ ap (λ n. drop n file) seam ∙ there)
    ∙ ap (λ t. slice_range file start end ++ t) (take_at bytes (drop (length bytes) later) (length bytes) refl)

-- one more piece at the end
pub concat-more : (pieces : List (List ℕ)) (piece rest : List ℕ) → concat (pieces ++ piece ∷ []) ++ rest ≡ concat pieces ++ (piece ++ rest)
concat-more pieces piece rest =
    ap (λ t. t ++ rest) (concat-append pieces (piece ∷ []) ∙ ap (λ t. concat pieces ++ t) (append-nil piece))
    ∙ append_assoc (concat pieces) piece rest

-- bytes that became a piece
pub own-closed : (before after : List (List ℕ)) (piece own left : List ℕ) → after ≡ before ++ piece ∷ [] → piece ≡ own → left ≡ [] →
    concat after ++ left ≡ concat before ++ own
own-closed before after piece own left e same none =
    ap (λ xs. concat xs ++ left) e ∙ concat-more before piece left
    ∙ ap (λ t. concat before ++ (piece ++ t)) none
    ∙ ap (λ t. concat before ++ t) (append-nil piece ∙ same)

-- a part that became a piece, after the bytes before it
pub part-closed : (before between after : List (List ℕ)) (own left piece : List ℕ) (last gone : Option (List ℕ)) →
    concat between ++ left ≡ concat before ++ own → left ≡ [] → after ≡ between ++ piece ∷ [] → last ≡ Some piece → gone ≡ None →
    concat after ++ (left ++ bytes_or_none gone) ≡ concat before ++ (own ++ bytes_or_none last)
part-closed before between after own left piece last gone same none e is was =
    let whole : concat between ≡ concat before ++ own = sym (append-nil (concat between)) ∙ ap (λ t. concat between ++ t) (sym none) ∙ same in
    ap (λ xs. concat xs ++ (left ++ bytes_or_none gone)) e
    ∙ ap (λ t. concat (between ++ piece ∷ []) ++ (t ++ bytes_or_none gone)) none
    ∙ ap (λ o. concat (between ++ piece ∷ []) ++ bytes_or_none o) was
    ∙ concat-more between piece []
    ∙ ap (λ t. concat between ++ t) (append-nil piece)
    ∙ ap (λ t. t ++ piece) whole
    ∙ append_assoc (concat before) own piece
    ∙ ap (λ o. concat before ++ (own ++ bytes_or_none o)) (sym is)
