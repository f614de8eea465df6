-- The lines that explain commands, one further.
use Rattle.std.proofs.Common.{◌≡◌, ◌≢◌, ◌∙◌, ◌+◌, ◌-◌, ◌<◌, ◌≤◌, ℕ, List, [], ◌∷◌, ◌++◌, length, take, drop, get_or, Bool, true, false, refl, sym, ap, subst, arith, append-nil, append_assoc}
use Rattle.std.specs.Prelude.{All, nat_eq}
use Rattle.std.proofs.lemmas.List.{drop_all, drop-take, drop_more, length-take-le}
use Rattle.std.proofs.lemmas.List.Elements.{All-nil, All-cons}
use Rattle.ed_base.specs.Lines.{newline}
use Rattle.ed_calls.specs.declared.explaining.commands.Explained.{Explained}
use Rattle.ed_calls.specs.Explaining.{Woven, none, more, last_three, line_with, on_one_line}

single-one : (b : ℕ) (bs : List ℕ) (is : Bool) → nat_eq b newline ≡ is → All (λ byte. byte ≢ newline) (on_one_line bs) → All (λ byte. byte ≢ newline) (on_one_line (b ∷ bs))
single-one b bs true is rest = rw is rest
single-one b bs false is rest = rw is (All-cons (λ byte. byte ≢ newline) b (on_one_line bs) (λ e. absurd (let f = rw e at is in cc)) rest)

-- words without their newlines have none
pub on-one-line : (words : List ℕ) → All (λ byte. byte ≢ newline) (on_one_line words)
on-one-line [] = All-nil (λ byte. byte ≢ newline)
on-one-line (b ∷ bs) = single-one b bs (nat_eq b newline) refl (on-one-line bs)

-- those before a place, counted: the last three of them
pub last-of-front : (xs front : List Explained) (n k : ℕ) → n ≤ length xs → k ≡ n - 3 → take n xs ≡ front → take (n - k) (drop k xs) ≡ last_three front
last-of-front xs front n k within is e =
    let size : length (take n xs) ≡ n = length-take-le n xs within in
    let whole : k + (n - k) ≡ n = omega (arith, is) in
    let three : length (take n xs) - 3 ≡ k = omega (arith, size, is) in
    sym (drop-take k (n - k) xs) ∙ ap (λ m. drop k (take m xs)) whole ∙ ap (λ m. drop m (take n xs)) (sym three) ∙ ap last_three e

-- from the command at a place on
at-place : (xs : List Explained) (i : ℕ) (x : Explained) → i < length xs → x ≡ get_or xs i x → drop i xs ≡ x ∷ drop (i + 1) xs
at-place xs i x inside is = drop_more xs i x inside ∙ ap (λ y. y ∷ drop (i + 1) xs) (sym is)

module _ (commands all : List Explained) where
  -- with the lines of the commands from one on, a text has the lines of all
  abbrev Before : (i : ℕ) (text : List ℕ) → Type 0
  Before i text = (rest : List ℕ) → Woven (drop i commands) rest → Woven all (text ++ rest)

  pub woven-on : (i : ℕ) (x : Explained) (line : ℕ) (text new words : List ℕ) → i < length commands → x ≡ get_or commands i x →
      new ≡ text ++ line_with line x.place.inner (on_one_line words) → Before i text → Before (i + 1) new
  woven-on i x line text new words inside is added before = λ rest woven.
      let its = line_with line x.place.inner (on_one_line words) in
      let left : Woven (x ∷ drop (i + 1) commands) (its ++ rest) = more x line (on_one_line words) (drop (i + 1) commands) rest (on-one-line words) woven in
      subst (λ t. Woven all t) (sym (ap (λ t. t ++ rest) added ∙ append_assoc text its rest))
      (before (its ++ rest) (subst (λ (cs : List Explained). Woven cs (its ++ rest)) (sym (at-place commands i x inside is)) left))

  pub woven-end : (i : ℕ) (text : List ℕ) → length commands ≤ i → Before i text → Woven all text
  woven-end i text over before =
      subst (λ t. Woven all t) (append-nil text)
      (before [] (subst (λ (cs : List Explained). Woven cs []) (sym (drop_all i commands over)) none))
