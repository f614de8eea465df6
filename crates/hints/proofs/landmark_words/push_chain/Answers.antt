use Rattle.std.proofs.Common.{◌≡◌, ◌<◌, ◌-◌, ℕ, Bool, true, List, [], ◌∷◌, ◌++◌, length, get_or, take, drop, map, string_bytes, String, Global, sym, ap, ◌∙◌, arith, append_assoc}
use Rattle.std.specs.List.{list_all}
use Rattle.std.proofs.lemmas.List.{map_push, take_all}
use Rattle.landmarks.specs.declared.landmark.Landmark.{Landmark}
use Rattle.hints.specs.StartWords.{is_bare, landmark_words, chain_words}
use Rattle.hints.proofs.landmark_words.push_chain.Goals as goal

-- what the first of some landmarks says, and what the later ones do
next : (below : Bool) (left : List Landmark) (d : Landmark) → 0 < length left →
    chain_words below left ≡ landmark_words below (list_all is_bare left) (get_or left 0 d) ∷ chain_words true (take (length left - 1) (drop 1 left))
next below [] d some = absurd (omega arith)
next below (l ∷ rest) d some =
    let all : take (length (l ∷ rest) - 1) rest ≡ rest = take_all (length (l ∷ rest) - 1) rest (omega arith) in
    ap (λ later. landmark_words below (list_all is_bare (l ∷ rest)) l ∷ chain_words true later) (sym all)

-- words that are put in come before what is left
one-more : (was now left later whole : List (List ℕ)) (words : List ℕ) → now ≡ was ++ words ∷ [] → left ≡ words ∷ later → was ++ left ≡ whole → now ++ later ≡ whole
one-more was now left later whole words put first said =
    ap (λ these. these ++ later) put ∙ append_assoc was (words ∷ []) later ∙ ap (λ these. was ++ these) (sym first) ∙ said

pub landmarks-preserved : goal.landmarks-preserved
landmarks-preserved c =
    let below = c.landmarks.is_below in
    let left = c.landmarks.left.now in
    let item = c.landmark-item.result in
    let bytes = λ (words : String Global). string_bytes words in
    let words = c.in_ok-landmark_text.field-0 in
    let some : 0 < length left = omega arith in
    let text : landmark_words below (list_all is_bare left) (get_or left 0 item) ≡ string_bytes words =
    ap (landmark_words below (list_all is_bare left)) (sym c.landmark-item.is)
    ∙ ap (λ any. landmark_words below any item) (sym c.are_bare.ensures.value)
    ∙ sym c.in_ok-landmark_text.ensures.value in
    let later = chain_words true (take (length left - 1) (drop 1 left)) in
    one-more (map bytes c.landmarks.said.items) (map bytes c.push.new.self.items) (chain_words below left) later _ (string_bytes words)
    (ap (map bytes) c.in_ok-push.ensures.items ∙ map_push bytes c.landmarks.said.items words)
    (next below left item some ∙ ap (λ one. one ∷ later) text) c.landmarks.invariant
