-- Lines of a file, one after another, and what passes a test among them.
use Rattle.std.proofs.Common.{◌≡◌, ◌<◌, ◌≤◌, ◌+◌, ◌-◌, ℕ, Bool, true, false, List, [], ◌∷◌, length, drop, get_or, ◌∙◌, sym, ap, inl, inr, ◌⊎◌, arith}
use Rattle.std.proofs.lemmas.List.{length-drop, drop-drop, get_or-drop, drop_all}
use Rattle.landmarks.specs.Places.{line_of, NonePasses}
use Rattle.landmarks.specs.Looking.{IsFirstPassing}

-- LINES ONE AFTER ANOTHER

pub rest-next : {A : Type 0} (xs ys : List A) (x : A) (k : ℕ) → x ∷ ys ≡ drop k xs → ys ≡ drop (k + 1) xs
rest-next xs ys x k is = ap (drop 1) is ∙ drop-drop 1 k xs

pub rest-over : {A : Type 0} (xs : List A) (k n : ℕ) → [] ≡ drop k xs → k ≤ n → [] ≡ drop n xs
rest-over xs k n is h =
    let left : 0 ≡ length xs - k = ap length is ∙ length-drop k xs in
    sym (drop_all n xs (omega arith))

pub rest-first : (lines rest : List (List ℕ)) (line : List ℕ) (k : ℕ) → line ∷ rest ≡ drop k lines → line ≡ line_of lines (k + 1)
rest-first lines rest line k is =
    ap (λ (ls : List (List ℕ)). get_or ls 0 []) is ∙ get_or-drop k lines 0 [] ∙ ap (λ n. get_or lines n []) (let e : k + 0 ≡ k + 1 - 1 = omega arith in e)

-- there is a line
pub some-left : {A : Type 0} (xs : List A) (k : ℕ) → [] ≡ drop k xs → length xs ≤ k
some-left xs k is = let left : 0 ≡ length xs - k = ap length is ∙ length-drop k xs in omega arith

-- WHAT PASSES

pub none-more : (test : List ℕ → Bool) (lines : List (List ℕ)) (a n : ℕ) (line : List ℕ) → NonePasses test lines a n → line ≡ line_of lines (n + 1) → test line ≡ false →
    NonePasses test lines a (n + 1)
none-more test lines a n line none is fails number above below = elim (last_or number n below) [
  | inl h ↦ none number above h
  | inr e ↦ ap (λ (k : ℕ). test (line_of lines k)) e ∙ sym (ap test is) ∙ fails
]
  where
    last_or : (k m : ℕ) → k ≤ m + 1 → (k ≤ m) ⊎ (k ≡ m + 1)
    last_or k m h = grind arith

pub passes-here : (test : List ℕ → Bool) (lines : List (List ℕ)) (a b n : ℕ) (line : List ℕ) → NonePasses test lines a n → a ≤ n → n < b → line ≡ line_of lines (n + 1) →
    test line ≡ true → IsFirstPassing test lines a b (n + 1)
passes-here test lines a b n line none from below is passes = record {
  after = omega arith;
  through = omega arith;
  passes = sym (ap test is) ∙ passes;
  earlier = λ number above h. none number above (omega arith);
}

-- TEXTS AND THEIR TREES
