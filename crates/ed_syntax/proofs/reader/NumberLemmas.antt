-- Numbers of one to nine digits.
use Rattle.std.proofs.Common.{◌≡◌, ℕ, suc, ◌+◌, ◌<◌, ◌≤◌, Bool, true, false, ◌&&◌, nat_le, cond, List, [], ◌∷◌, ◌++◌, length, take, drop, Some, None, All, refl, sym, ap, ◌∙◌, ⊎_elim, subst, arith}
use Rattle.std.specs.Prelude.{IsTrue, IsFalse}
use Rattle.std.specs.List.{prefix_len}
use Rattle.std.proofs.lemmas.Bool.{cases_Bool, leb-true, le-leb, and_parts, and_from}
use Rattle.std.proofs.lemmas.List.{take-append-drop, take_at, drop_at, get_or-take, length-take-le, length-append}
use Rattle.std.proofs.lemmas.List.Elements.{All-head, All-tail, All-from_get_or}
use Rattle.std.proofs.lemmas.List.Sums.{prefix_len-le-length, prefix_len_passes}
use Rattle.ed_syntax.specs.spelling.Characters.{is_digit, begins, value_of}
use Rattle.ed_syntax.specs.spelling.Addressing as spelled
use Rattle.ed_syntax.specs.spelling.Addressing.{SpellsNumber}
use Rattle.ed_syntax.specs.reading.Tokens.{number}
use Rattle.ed_syntax.proofs.meaning.StepLemmas.{Some-same, none_some}

abbrev pub IsDigit : ℕ → Type 0
IsDigit b = is_digit b ≡ true

-- as many digits as a number may have
abbrev pub is_few : ℕ → Bool
is_few len = nat_le 1 len && nat_le len 9

number-some : (bytes : List ℕ) (len : ℕ) → prefix_len is_digit bytes ≡ len → is_few len ≡ true → number bytes ≡ Some (value_of (take len bytes), drop len bytes)
number-some bytes len counted few =
    let enough : is_few (prefix_len is_digit bytes) ≡ true = ap is_few counted ∙ few in
    let read : number bytes ≡ Some (value_of (take (prefix_len is_digit bytes) bytes), drop (prefix_len is_digit bytes) bytes) = rw (enough, number) refl in
    read ∙ ap (λ n. Some (value_of (take n bytes), drop n bytes)) counted

pub number-none : (bytes : List ℕ) → is_few (prefix_len is_digit bytes) ≡ false → number bytes ≡ None
number-none bytes few = rw (few, number) refl

-- no digit stands after the digits in front
after_digits : (bytes : List ℕ) → IsFalse (begins is_digit (drop (prefix_len is_digit bytes) bytes))
after_digits [] = refl
after_digits (b ∷ bytes) =
    ⊎_elim
    (λ yes.
    let more : prefix_len is_digit (b ∷ bytes) ≡ suc (prefix_len is_digit bytes) = ap (λ t. cond t (1 + prefix_len is_digit bytes) 0) yes ∙ omega arith in
    ap (λ n. begins is_digit (drop n (b ∷ bytes))) more ∙ after_digits bytes)
    (λ no. ap (λ t. begins is_digit (drop (cond t (1 + prefix_len is_digit bytes) 0) (b ∷ bytes))) no ∙ no)
    (cases_Bool (is_digit b))

-- the digits in front spell a number
pub number-spelled : (bytes : List ℕ) (len : ℕ) → prefix_len is_digit bytes ≡ len → is_few len ≡ true → SpellsNumber bytes (drop len bytes) (value_of (take len bytes))
number-spelled bytes len counted few =
    let parts = and_parts (nat_le 1 len) (nat_le len 9) few in
    let within : len ≤ length bytes = omega (arith, counted, prefix_len-le-length is_digit bytes) in
    let all : length (take len bytes) ≡ len = length-take-le len bytes within in
    let are : All IsDigit (take len bytes) = All-from_get_or IsDigit (take len bytes) 0 (λ k short.
    let in_front : k < len = omega (arith, all, short) in
    let passed : k < prefix_len is_digit bytes = omega (arith, counted, in_front) in
    ap is_digit (get_or-take len bytes k 0 in_front) ∙ prefix_len_passes is_digit bytes k 0 passed) in
    let some : 0 < length (take len bytes) = omega (arith, all, leb-true 1 len parts.0) in
    let at_most : length (take len bytes) ≤ 9 = omega (arith, all, leb-true len 9 parts.1) in
    let after : IsFalse (begins is_digit (drop len bytes)) = ap (λ n. begins is_digit (drop n bytes)) (sym counted) ∙ after_digits bytes in
    subst (λ text. SpellsNumber text (drop len bytes) (value_of (take len bytes))) (take-append-drop len bytes)
    (spelled.digits (take len bytes) (drop len bytes) are some at_most after)

-- a number that is read is spelled so
pub number-sound : (text : List ℕ) (r : ℕ × List ℕ) → number text ≡ Some r → SpellsNumber text r.1 r.0
number-sound text r is =
    let len = prefix_len is_digit text in
    ⊎_elim
    (λ yes.
    let same = Some-same (value_of (take len text), drop len text) r (sym (number-some text len refl yes) ∙ is) in
    subst (λ r. SpellsNumber text r.1 r.0) same (number-spelled text len refl yes))
    (λ no. absurd (none_some (sym (number-none text no) ∙ is)))
    (cases_Bool (is_few len))

-- where no digit stands in front, there are none
no_digits : (rest : List ℕ) → IsFalse (begins is_digit rest) → prefix_len is_digit rest ≡ 0
no_digits [] none = refl
no_digits (b ∷ rest) none = ap (λ t. cond t (1 + prefix_len is_digit rest) 0) none

-- digits before something else
prefix_len-digits : (digits rest : List ℕ) → All IsDigit digits → IsFalse (begins is_digit rest) → prefix_len is_digit (digits ++ rest) ≡ length digits
prefix_len-digits [] rest are none = no_digits rest none
prefix_len-digits (d ∷ digits) rest are none =
    let first = All-head IsDigit d digits are in
    let later = prefix_len-digits digits rest (All-tail IsDigit d digits are) none in
    ap (λ t. cond t (1 + prefix_len is_digit (digits ++ rest)) 0) first ∙ omega (arith, later)

-- a number that is spelled so is read
pub number-complete : {text rest : List ℕ} {n : ℕ} → SpellsNumber text rest n → number text ≡ Some (n, rest)
number-complete (spelled.digits bytes rest are some at_most none) =
    let len = length bytes in
    let few : is_few len ≡ true = and_from (nat_le 1 len) (nat_le len 9) (le-leb 1 len (omega (arith, some))) (le-leb len 9 at_most) in
    number-some (bytes ++ rest) len (prefix_len-digits bytes rest are none) few
    ∙ ap (λ front. Some (value_of front, drop len (bytes ++ rest))) (take_at bytes rest len refl)
    ∙ ap (λ left. Some (value_of bytes, left)) (drop_at bytes rest len refl)

first_digit : (bytes rest : List ℕ) → All IsDigit bytes → 0 < length bytes → IsTrue (begins is_digit (bytes ++ rest))
first_digit [] rest are some = absurd (omega (arith, some))
first_digit (b ∷ bytes) rest are some = All-head IsDigit b bytes are

-- a number begins with a digit
pub number-first : {text rest : List ℕ} {n : ℕ} → SpellsNumber text rest n → IsTrue (begins is_digit text)
number-first (spelled.digits bytes rest are some at_most none) = first_digit bytes rest are some

-- what stands after a number is shorter
pub number-shorter : {text rest : List ℕ} {n : ℕ} → SpellsNumber text rest n → length rest < length text
number-shorter (spelled.digits bytes rest are some at_most none) = omega (arith, length-append bytes rest, some)
