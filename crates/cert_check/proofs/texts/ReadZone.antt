-- A number that a text says first, and what is left after it.
use Rattle.std.proofs.Common.{◌≡◌, ◌++◌, ◌∷◌, [], ℕ, ℤ, List, take, drop, ◌∙◌, sym, ap, subst}
use Rattle.std.specs.Prelude.{codes}
use Rattle.std.specs.Fmt.{signed_decimal}
use Rattle.std.specs.List.{prefix_len}
use Rattle.std.proofs.lemmas.List.{take-append-drop}
use Rattle.cert_check.specs.text.Text.{Word, space, spaced, name_word}
use Rattle.cert_check.specs.text.Reading.{is_in_word, IsUnspaced, EndsWord, IsNamed, IsSigned, said_word, IsSaid}
use Rattle.cert_check.proofs.texts.Worded.{signed-above}
use Rattle.cert_check.proofs.texts.Cutting.{unspaced, ends, word-same, front-unspaced, left-ends}

-- the bytes of what is said
said-bytes : (x y a b : ℕ) (number : ℤ) → name_word x ≡ a ∷ [] → name_word y ≡ b ∷ [] → said_word x y number ≡ a ∷ 45 ∷ b ∷ 60 ∷ 61 ∷ signed_decimal number
said-bytes x y a b number is_x is_y =
    ap (λ (w : Word). w ++ codes "-" ++ name_word y ++ codes "<=" ++ signed_decimal number) is_x
    ∙ ap (λ (w : Word). (a ∷ []) ++ codes "-" ++ w ++ codes "<=" ++ signed_decimal number) is_y

pub said-is : (x y a b : ℕ) (number : ℤ) (text rest digits left : List ℕ) (n : ℕ) → IsNamed x → IsNamed y → IsSigned number →
    name_word x ≡ a ∷ [] → name_word y ≡ b ∷ [] → text ≡ 32 ∷ a ∷ 45 ∷ b ∷ 60 ∷ 61 ∷ rest → n ≡ prefix_len is_in_word rest → digits ≡ take n rest → left ≡ drop n rest →
    signed_decimal number ≡ digits → IsSaid x y number left text
said-is x y a b number text rest digits left n hx hy hs is_x is_y is n_is digits_is left_is spelled = record {
  row = hx;
  column = hy;
  signed = hs;
  is =
      ap (λ (w : Word). (space ∷ w) ++ left) (said-bytes x y a b number is_x is_y)
      ∙ ap (λ (t : List ℕ). 32 ∷ a ∷ 45 ∷ b ∷ 60 ∷ 61 ∷ (t ++ left)) (spelled ∙ digits_is) ∙ ap (λ (t : List ℕ). 32 ∷ a ∷ 45 ∷ b ∷ 60 ∷ 61 ∷ (take n rest ++ t)) left_is
      ∙ ap (λ (t : List ℕ). 32 ∷ a ∷ 45 ∷ b ∷ 60 ∷ 61 ∷ t) (take-append-drop n rest) ∙ sym is;
  ends = subst (λ (t : List ℕ). EndsWord t) (sym (left_is ∙ ap (λ (k : ℕ). drop k rest) n_is)) (left-ends rest);
}

five-more : {a b c d e p q r s t : ℕ} {v w : List ℕ} → 32 ∷ a ∷ b ∷ c ∷ d ∷ e ∷ v ≡ 32 ∷ p ∷ q ∷ r ∷ s ∷ t ∷ w → v ≡ w
five-more h = cc

pub not-said-here : (x y a b : ℕ) (number : ℤ) (words : List Word) (text rest digits left : List ℕ) (n : ℕ) → IsSigned number →
    name_word x ≡ a ∷ [] → name_word y ≡ b ∷ [] → text ≡ 32 ∷ a ∷ 45 ∷ b ∷ 60 ∷ 61 ∷ rest → n ≡ prefix_len is_in_word rest → digits ≡ take n rest → left ≡ drop n rest →
    (space ∷ said_word x y number) ++ spaced words ≡ text → signed_decimal number ≡ digits
not-said-here x y a b number words text rest digits left n hs is_x is_y is n_is digits_is left_is e =
    let said : 32 ∷ a ∷ 45 ∷ b ∷ 60 ∷ 61 ∷ (signed_decimal number ++ spaced words) ≡ 32 ∷ a ∷ 45 ∷ b ∷ 60 ∷ 61 ∷ rest =
    ap (λ (w : Word). (space ∷ w) ++ spaced words) (sym (said-bytes x y a b number is_x is_y)) ∙ e ∙ is in
    let w : digits ≡ take (prefix_len is_in_word rest) rest = digits_is ∙ ap (λ (k : ℕ). take k rest) n_is in
    let l : left ≡ drop (prefix_len is_in_word rest) rest = left_is ∙ ap (λ (k : ℕ). drop k rest) n_is in
    let parted : digits ++ left ≡ rest =
    ap (λ (t : List ℕ). t ++ left) digits_is ∙ ap (λ (t : List ℕ). take n rest ++ t) left_is ∙ take-append-drop n rest in
    (word-same (signed_decimal number) digits (spaced words) left (unspaced (signed_decimal number) (signed-above number hs))
    (subst (λ (t : List ℕ). IsUnspaced t) (sym w) (front-unspaced rest)) (ends words) (subst (λ (t : List ℕ). EndsWord t) (sym l) (left-ends rest))
    (five-more said ∙ sym parted)).0
