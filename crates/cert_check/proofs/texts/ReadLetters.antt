-- Letters, one by one, as they are read.
use Rattle.std.proofs.Common.{◌≡◌, ◌≢◌, ◌<◌, ◌≤◌, ◌+◌, ◌-◌, ◌&&◌, Option, None, Some, ◌++◌, ◌∷◌, [], ℕ, zero, suc, Bool, true, false, List, length, get_or, set, drop, arith, refl, ◌∙◌, sym, ap, append-nil, drop-cons}
use Rattle.std.specs.Prelude.{nat_le}
use Rattle.std.proofs.lemmas.Bool.{leb-true, and_parts}
use Rattle.std.proofs.lemmas.List.{get_or-replicate}
use Rattle.ed_base.specs.Buffer.{letter_of}
use Rattle.cert_check.specs.text.Text.{spaced, sure_letters, letters_words}
use Rattle.cert_check.specs.text.Reading.{all_marks}
use Rattle.cert_check.proofs.texts.Chosen.{later-letters}
use Rattle.cert_check.proofs.texts.Separated.{later-of}

-- the byte that spells a letter
pub letter-byte : (byte letter : ℕ) → letter_of byte ≡ Some letter → byte ≡ 97 + letter
letter-byte byte letter is =
    (elim (nat_le 97 byte && nat_le byte 122) as (λ b. nat_le 97 byte && nat_le byte 122 ≡ b →
    (elim b as (λ _. Option ℕ) [ true ↦ Some (byte - 97) | false ↦ None ]) ≡ Some letter → byte ≡ 97 + letter) [
      | true ↦ λ test same.
          let low : 97 ≤ byte = leb-true 97 byte (and_parts (nat_le 97 byte) (nat_le byte 122) test).0 in
          let at : byte - 97 ≡ letter = cc in
          omega arith
      | false ↦ λ test same. absurd cc
    ]) refl is

pub no-letters : (p : ℕ) (marks : List Bool) → ((k : ℕ) → get_or marks k false ≡ false) → sure_letters p marks ≡ []
no-letters p [] h = refl
no-letters p (true ∷ marks) h = let absent : true ≡ false = h 0 in absurd cc
no-letters p (false ∷ marks) h = no-letters (suc p) marks (λ k. h (suc k))

-- a letter after all that are sure
pub letter-added : (p k : ℕ) (marks : List Bool) → k < length marks → ((j : ℕ) → k ≤ j → get_or marks j false ≡ false) →
    sure_letters p (set marks k true) ≡ sure_letters p marks ++ (p + k) ∷ []
letter-added p k [] l h = absurd (omega arith)
letter-added p zero (true ∷ marks) l h = let absent : true ≡ false = h 0 (omega arith) in absurd cc
letter-added p zero (false ∷ marks) l h =
    let none : sure_letters (suc p) marks ≡ [] = no-letters (suc p) marks (λ k. h (suc k) (omega arith)) in
    let at : p ≡ p + 0 = omega arith in
    ap (λ (t : List ℕ). p ∷ t) none ∙ ap (λ (q : ℕ). q ∷ []) at ∙ ap (λ (t : List ℕ). t ++ (p + 0) ∷ []) (sym none)
letter-added p (suc k) (true ∷ marks) l h =
    let at : suc p + k ≡ p + suc k = omega arith in
    ap (λ (t : List ℕ). p ∷ t) (letter-added (suc p) k marks (omega arith) (λ j m. h (suc j) (omega arith)))
    ∙ ap (λ (q : ℕ). p ∷ (sure_letters (suc p) marks ++ q ∷ [])) at
letter-added p (suc k) (false ∷ marks) l h =
    let at : suc p + k ≡ p + suc k = omega arith in
    letter-added (suc p) k marks (omega arith) (λ j m. h (suc j) (omega arith))
    ∙ ap (λ (q : ℕ). sure_letters (suc p) marks ++ q ∷ []) at

pub unsure-later : (marks : List Bool) (k : ℕ) → ((j : ℕ) → k ≤ j → get_or marks j false ≡ false) → (j : ℕ) →
    k + 1 ≤ j → get_or (set marks k true) j false ≡ false
unsure-later [] k h j l = h j (omega arith)
unsure-later (b ∷ marks) zero h zero l = absurd (omega arith)
unsure-later (b ∷ marks) zero h (suc j) l = h (suc j) (omega arith)
unsure-later (b ∷ marks) (suc k) h zero l = absurd (omega arith)
unsure-later (b ∷ marks) (suc k) h (suc j) l = unsure-later marks k (λ i m. h (suc i) (omega arith)) j (omega arith)

letters-here : (b : Bool) (p : ℕ) (marks : List Bool) (left later : List ℕ) → sure_letters p (b ∷ marks) ≡ left →
    left ≡ p ∷ later → sure_letters (suc p) marks ≡ later
letters-here true p marks left later e is = later-of (e ∙ is)
letters-here false p marks left later e is = absurd (later-letters (suc p) p marks later (omega arith) (e ∙ is))

letters-not-here : (b : Bool) (p : ℕ) (marks : List Bool) (left : List ℕ) → sure_letters p (b ∷ marks) ≡ left →
    ((later : List ℕ) → left ≢ p ∷ later) → sure_letters (suc p) marks ≡ left
letters-not-here true p marks left e absent = absurd (absent (sure_letters (suc p) marks) (sym e))
letters-not-here false p marks left e absent = e

letters-at : (marks : List Bool) (k : ℕ) (left : List ℕ) → k < length marks → sure_letters (97 + k) (drop k marks) ≡ left →
    sure_letters (97 + k) (get_or marks k false ∷ drop (suc k) marks) ≡ left
letters-at marks k left l e = ap (λ (ms : List Bool). sure_letters (97 + k) ms) (sym (drop-cons marks k false l)) ∙ e

one-further : (marks : List Bool) (k : ℕ) (left : List ℕ) → sure_letters (suc (97 + k)) (drop (suc k) marks) ≡ left →
    sure_letters (97 + (k + 1)) (drop (k + 1) marks) ≡ left
one-further marks k left e =
    let at : 97 + (k + 1) ≡ suc (97 + k) = omega arith in
    let next : k + 1 ≡ suc k = omega arith in
    ap (λ (p : ℕ). sure_letters p (drop (k + 1) marks)) at ∙ ap (λ (i : ℕ). sure_letters (suc (97 + k)) (drop i marks)) next ∙ e

pub letter-taken : (marks : List Bool) (k : ℕ) (left later : List ℕ) → k < length marks → left ≡ (97 + k) ∷ later →
    sure_letters (97 + k) (drop k marks) ≡ left → sure_letters (97 + (k + 1)) (drop (k + 1) marks) ≡ later
letter-taken marks k left later l is e =
    one-further marks k later
    (letters-here (get_or marks k false) (97 + k) (drop (suc k) marks) left later (letters-at marks k left l e) is)

pub letter-kept : (marks : List Bool) (k : ℕ) (left : List ℕ) → k < length marks →
    ((later : List ℕ) → left ≢ (97 + k) ∷ later) → sure_letters (97 + k) (drop k marks) ≡ left →
    sure_letters (97 + (k + 1)) (drop (k + 1) marks) ≡ left
letter-kept marks k left l absent e =
    one-further marks k left
    (letters-not-here (get_or marks k false) (97 + k) (drop (suc k) marks) left (letters-at marks k left l e) absent)

-- letters say which word they are
pub letters-word-same : (a b : List ℕ) → spaced (letters_words a) ≡ spaced (letters_words b) → a ≡ b
letters-word-same [] [] e = refl
letters-word-same [] (y ∷ b) e = absurd cc
letters-word-same (x ∷ a) [] e = absurd cc
letters-word-same (x ∷ a) (y ∷ b) e = sym (append-nil (x ∷ a)) ∙ later-of e ∙ append-nil (y ∷ b)

pub get_or-all : (k : ℕ) (d : Bool) → k < 26 → get_or all_marks k d ≡ true
get_or-all k d l = get_or-replicate 26 k true d l
