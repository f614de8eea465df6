-- What the readers of words rest on.
use Rattle.std.proofs.Common.{◌≡◌, ◌≢◌, ◌<◌, ◌^◌, ◌==◌, ◌++◌, ◌∷◌, [], ℕ, ℤ, true, false, List, length, take, drop, arith, refl, ◌∙◌, sym, ap, subst}
use Rattle.std.specs.Prelude.{decimal}
use Rattle.std.proofs.lemmas.Bool.{eqb-true}
use Rattle.std.specs.Fmt.{signed_decimal}
use Rattle.std.specs.List.{flat_map, prefix_len, All}
use Rattle.std.specs.Str.{IsUtf8}
use Rattle.std.proofs.lemmas.Fmt.{IsAscii-decimal, IsAscii-signed}
use Rattle.std.proofs.lemmas.List.{take-append-drop}
use Rattle.std.proofs.lemmas.List.Elements.{All-head, All-tail}
use Rattle.std.proofs.lemmas.Str.{IsUtf8-from_ascii}
use lib.Signed.{mag}
use Rattle.cert_check.specs.text.Text.{space, byte_text}
use Rattle.cert_check.specs.text.Reading.{is_in_word, IsUnspaced, IsFirstWord, EndsWord}
use Rattle.cert_check.proofs.texts.Chosen.{spelled-of, spelled-same, something}
use Rattle.cert_check.proofs.texts.Cutting.{front-unspaced, left-ends}
use Rattle.cert_check.proofs.texts.Codes.{IsCode, Left, left-of}

-- the first word, cut at the space after it
pub first-word-cut : (text rest word left : List ℕ) (n : ℕ) → text ≡ space ∷ rest → n ≡ prefix_len is_in_word rest →
    word ≡ take n rest → left ≡ drop n rest → IsFirstWord text word left
first-word-cut text rest word left n is n_is word_is left_is =
    let w : word ≡ take (prefix_len is_in_word rest) rest = word_is ∙ ap (λ (k : ℕ). take k rest) n_is in
    let l : left ≡ drop (prefix_len is_in_word rest) rest = left_is ∙ ap (λ (k : ℕ). drop k rest) n_is in
    let parted : word ++ left ≡ rest =
    ap (λ (t : List ℕ). t ++ left) word_is ∙ ap (λ (t : List ℕ). take n rest ++ t) left_is ∙ take-append-drop n rest in (
      is ∙ ap (λ (t : List ℕ). space ∷ t) (sym parted),
      (subst (λ (t : List ℕ). IsUnspaced t) (sym w) (front-unspaced rest), subst (λ (t : List ℕ). EndsWord t) (sym l) (left-ends rest)),
    )

-- numbers are text
pub not-utf8 : (word : List ℕ) (n : ℕ) → n < 2 ^ 64 → (IsUtf8 word → ⊥) → decimal n ≡ word → ⊥
not-utf8 word n h absent e = absent (subst (λ (t : List ℕ). IsUtf8 t) e (IsUtf8-from_ascii (decimal n) (IsAscii-decimal n h)))

pub signed-not-utf8 : (word : List ℕ) (c : ℤ) → mag c < 2 ^ 63 → (IsUtf8 word → ⊥) → signed_decimal c ≡ word → ⊥
signed-not-utf8 word c h absent e = absent (subst (λ (t : List ℕ). IsUtf8 t) e (IsUtf8-from_ascii (signed_decimal c) (IsAscii-signed c h)))

-- what holds of all holds of one in the middle
pub middle : {X : Type 0} (P : X → Type 0) (xs : List X) (y : X) (ys : List X) → All P (xs ++ (y ∷ ys)) → P y
middle P [] y ys h = All-head P y ys h
middle P (x ∷ xs) y ys h = middle P xs y ys (All-tail P x (xs ++ (y ∷ ys)) h)

-- bytes are spelled one after another
pub bytes-code : IsCode byte_text (λ _. Unit {0})
bytes-code = record {
  same = λ x y r s h k e. spelled-same x y r s (spelled-of x) (spelled-of y) e;
  some = λ x r e. something x r (spelled-of x) e;
  nothing = tt;
  another = λ x r. tt;
}

-- bytes that are left begin no byte: then there is none more
none-begun : (text all left : List ℕ) → Left byte_text text all left → ((byte : ℕ) (later : List ℕ) → byte < 256 → byte_text byte ++ later ≢ left) →
    0 < length left → All (λ byte. byte < 256) all → ⊥
none-begun text all left l absent some h =
    elim l.later as (λ t. l.later ≡ t → ⊥) [
      | [] ↦ λ e. let none : [] ≡ left = ap (λ (t : List ℕ). flat_map byte_text t) (sym e) ∙ l.rest in let size : 0 ≡ length left = ap (λ (t : List ℕ). length t) none in omega arith
      | b ∷ bs ↦ λ e.
          let rest : byte_text b ++ flat_map byte_text bs ≡ left = ap (λ (t : List ℕ). flat_map byte_text t) (sym e) ∙ l.rest in
          let is : all ≡ text ++ (b ∷ bs) = l.is ∙ ap (λ (t : List ℕ). text ++ t) e in
          absent b (flat_map byte_text bs) (middle (λ byte. byte < 256) text b bs (subst (λ (t : List ℕ). All (λ byte. byte < 256) t) is h)) rest
    ] refl

pub no-more-bytes : (text all left word : List ℕ) → flat_map byte_text text ++ left ≡ word → ((byte : ℕ) (later : List ℕ) → byte < 256 → byte_text byte ++ later ≢ left) →
    0 < length left → All (λ byte. byte < 256) all → flat_map byte_text all ≡ word → ⊥
no-more-bytes text all left word sofar absent some h e =
    none-begun text all left (left-of byte_text (λ _. Unit {0}) bytes-code text all left (λ _. tt) (e ∙ sym sofar)) absent some h

pub some-left : (left : List ℕ) → false ≡ (length left == 0) → 0 < length left
some-left [] e = absurd cc
some-left (b ∷ left) e = omega arith

pub not-nothing : (left : List ℕ) → false ≡ (length left == 0) → [] ≡ left → ⊥
not-nothing [] h e = absurd cc
not-nothing (b ∷ left) h e = absurd cc

pub nothing-left : (left : List ℕ) → true ≡ (length left == 0) → left ≡ []
nothing-left [] h = refl
nothing-left (b ∷ left) h = let none : length (b ∷ left) ≡ 0 = eqb-true (length (b ∷ left)) 0 (sym h) in absurd (omega arith)
