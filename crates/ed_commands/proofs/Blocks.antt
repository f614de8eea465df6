-- Blocks of lists: exchanged for other elements, carried to another place, and brought back.
use Rattle.std.proofs.Common.{◌≡◌, ℕ, ◌+◌, ◌-◌, ◌<◌, ◌≤◌, List, [], ◌∷◌, ◌++◌, take, drop, length, get_or, set, sym, ap, ◌∙◌, arith, append_assoc}
use Rattle.std.specs.Prelude.{Option, Some}
use Rattle.std.specs.Option.{option_to_list}
use Rattle.std.specs.List.{concat}
use Rattle.std.proofs.lemmas.List.{take_at, drop_at, take-append-drop, drop-append-le, length-take-le, length-drop, length-append, take_more, map-append, append-nil, take-set, drop-set}
use Rattle.std.proofs.lemmas.List.Folds.{concat-append}
use Rattle.ed_base.specs.Buffer.{Line, plain_line, texts}
use Rattle.ed_base.specs.Parts.{block, exchanged, carried}
pub use Rattle.ed_base.proofs.PartLemmas.{whole}
pub use Rattle.line_store.proofs.Ranges.{length-block, block-none}

pub length-exchanged : {X : Type 0} (a b : ℕ) (new xs : List X) → a ≤ b → b ≤ length xs →
    length (exchanged a b new xs) + (b - a) ≡ length xs + length new
length-exchanged a b new xs h k =
    omega (
      arith,
      length-append (take a xs) (new ++ drop b xs),
      length-append new (drop b xs),
      length-take-le a xs (omega arith),
      length-drop b xs,
    )

-- one more element of a part
pub block-more : {X : Type 0} (a i : ℕ) (xs : List X) (d : X) → a ≤ i → i < length xs →
    block a (i + 1) xs ≡ block a i xs ++ get_or xs i d ∷ []
block-more a i xs d h k =
    ap (drop a) (take_more xs i d k)
    ∙ drop-append-le a (take i xs) (get_or xs i d ∷ []) (omega (arith, length-take-le i xs (omega arith)))

-- the elements after a place are those up to a later one, and those after it
pub rear : {X : Type 0} (a b : ℕ) (xs : List X) → a ≤ b → b ≤ length xs → drop a xs ≡ block a b xs ++ drop b xs
rear a b xs h k =
    ap (drop a) (sym (take-append-drop b xs)) ∙ drop-append-le a (take b xs) (drop b xs) (omega (arith, length-take-le b xs k))

-- elements put where a part was
pub put-there : {X : Type 0} (a b : ℕ) (new xs : List X) → a ≤ length xs →
    exchanged a a new (exchanged a b [] xs) ≡ exchanged a b new xs
put-there a b new xs h =
    ap (λ t. t ++ (new ++ drop a (take a xs ++ drop b xs))) (take_at (take a xs) (drop b xs) a (length-take-le a xs h))
    ∙ ap (λ t. take a xs ++ (new ++ t)) (drop_at (take a xs) (drop b xs) a (length-take-le a xs h))

-- what stood between the front and the back, put there again
pub taken-back : {X : Type 0} (front new old back : List X) (a b : ℕ) → length front ≡ a → a + length new ≡ b →
    exchanged a b old (front ++ (new ++ back)) ≡ front ++ (old ++ back)
taken-back front new old back a b h k =
    ap (λ t. t ++ (old ++ drop b (front ++ (new ++ back)))) (take_at front (new ++ back) a h)
    ∙ ap (λ t. front ++ (old ++ t))
    (ap (drop b) (sym (append_assoc front new back)) ∙ drop_at (front ++ new) back b (length-append front new ∙ omega arith))

block-there : {X : Type 0} (front new back : List X) (a b : ℕ) → length front ≡ a → a + length new ≡ b →
    block a b (front ++ (new ++ back)) ≡ new
block-there front new back a b h k =
    ap (λ t. drop a (take b t)) (sym (append_assoc front new back))
    ∙ ap (drop a) (take_at (front ++ new) back b (length-append front new ∙ omega arith))
    ∙ drop_at front new a h

-- elements that were put in place of a part, taken out again for it
pub put-back : {X : Type 0} (a b n : ℕ) (new xs : List X) → a ≤ b → b ≤ length xs → length new ≡ n →
    exchanged a (a + n) (block a b xs) (exchanged a b new xs) ≡ xs
put-back a b n new xs h k e =
    taken-back (take a xs) new (block a b xs) (drop b xs) a (a + n) (length-take-le a xs (omega arith)) (omega arith)
    ∙ whole a b xs h

-- a part that was carried, carried back
pub carried-back : {X : Type 0} (a b place : ℕ) (xs : List X) → a ≤ b → b ≤ length xs → place + (b - a) ≤ length xs →
    carried place (place + (b - a)) a (carried a b place xs) ≡ xs
carried-back a b place xs h k l =
    let left = exchanged a b [] xs in
    let moved = block a b xs in
    let short : place ≤ length left = omega (arith, length-exchanged a b [] xs h k) in
    let at : length (take place left) ≡ place = length-take-le place left short in
    let long : place + length moved ≡ place + (b - a) = ap (λ n. place + n) (length-block a b xs k) in
    let others : exchanged place (place + (b - a)) [] (carried a b place xs) ≡ left =
    taken-back (take place left) moved [] (drop place left) place (place + (b - a)) at long ∙ take-append-drop place left in
    let again : block place (place + (b - a)) (carried a b place xs) ≡ moved =
    block-there (take place left) moved (drop place left) place (place + (b - a)) at long in
    ap (λ t. exchanged a a t (exchanged place (place + (b - a)) [] (carried a b place xs))) again
    ∙ ap (exchanged a a moved) others
    ∙ put-there a b moved xs (omega arith)
    ∙ whole a b xs h

-- what comes out of a list of one is all that was in it
pub only-one : {X : Type 0} (xs ys : List X) (out : Option X) (x : X) → xs ≡ ys ++ option_to_list out → out ≡ Some x →
    length xs ≡ 1 → xs ≡ x ∷ []
only-one xs [] out x e f h = e ∙ ap option_to_list f
only-one xs (y ∷ ys) out x e f h =
    absurd (omega (arith, ap length (e ∙ ap (λ t. (y ∷ ys) ++ option_to_list t) f), length-append ys (x ∷ [])))

-- an element in place of another
pub set-one : {X : Type 0} (i : ℕ) (y : X) (xs : List X) → i < length xs → set xs i y ≡ exchanged i (i + 1) (y ∷ []) xs
set-one i y xs h =
    sym (take-append-drop i (set xs i y))
    ∙ ap (λ t. t ++ drop i (set xs i y)) (take-set xs i y)
    ∙ ap (λ t. take i xs ++ t) (drop-set xs i y h)

-- the texts of one more line
pub texts-more : (a i : ℕ) (lines : List Line) (text : List ℕ) → a ≤ i → i < length lines →
    text ≡ (get_or lines i (plain_line [])).bytes → texts (block a (i + 1) lines) ≡ texts (block a i lines) ++ text ∷ []
texts-more a i lines text h k e =
    ap texts (block-more a i lines (plain_line []) h k)
    ∙ map-append (λ l. l.bytes) (block a i lines) (get_or lines i (plain_line []) ∷ [])
    ∙ ap (λ t. texts (block a i lines) ++ t ∷ []) (sym e)

-- the text of one line
pub text-one : (i : ℕ) (lines : List Line) (line : Line) → i < length lines → line ≡ get_or lines i (plain_line []) →
    line.bytes ∷ [] ≡ texts (block i (i + 1) lines)
text-one i lines line h e =
    sym (texts-more i i lines line.bytes (omega arith) h (ap (λ l. l.bytes) e)
    ∙ ap (λ t. texts t ++ line.bytes ∷ []) (block-none i lines))

-- one more line's text joined to the others
pub joined-more : (a i : ℕ) (lines : List Line) (text : List ℕ) → a ≤ i → i < length lines →
    text ≡ (get_or lines i (plain_line [])).bytes → concat (texts (block a (i + 1) lines)) ≡ concat (texts (block a i lines)) ++ text
joined-more a i lines text h k e =
    ap concat (texts-more a i lines text h k e)
    ∙ concat-append (texts (block a i lines)) (text ∷ [])
    ∙ ap (λ t. concat (texts (block a i lines)) ++ t) (append-nil text)
