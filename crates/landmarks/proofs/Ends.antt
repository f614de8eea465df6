-- What stands after a part is the end of the text, and what is wrong in an end is wrong in the text.
use Rattle.std.proofs.Common.{◌≡◌, ℕ, ◌≤◌, ◌-◌, true, false, List, [], ◌∷◌, ◌++◌, length, drop, refl, sym, ap, ◌∙◌, subst, append_assoc, arith}
use Rattle.std.proofs.lemmas.List.{length-append, drop_at}
use Rattle.ed_syntax.specs.spelling.Characters.{is_blank, after_blanks}
use Rattle.landmarks.specs.declared.chain_fault.ChainWrong.{ChainWrong}
use Rattle.landmarks.specs.declared.chain_fault.Stop.{Stop}
use Rattle.landmarks.specs.declared.chain_fault.Stop.TheVariants as stop
use Rattle.landmarks.specs.ChainFaults.{IsWrongHere}
use Rattle.landmarks.specs.Stops.{IsEnd, IsWrongAt, StopsIn, Unless}

pub end_all : (text : List ℕ) → IsEnd text text
end_all text = record { front = []; cut = refl }

pub end_after : (byte : ℕ) {text end : List ℕ} → IsEnd text end → IsEnd (byte ∷ text) end
end_after byte e = record { front = byte ∷ e.front; cut = ap (λ xs. byte ∷ xs) e.cut }

pub end_later : {text middle end : List ℕ} → IsEnd text middle → IsEnd middle end → IsEnd text end
end_later {text} {middle} {end} one other =
    record { front = one.front ++ other.front; cut = one.cut ∙ ap (λ xs. one.front ++ xs) other.cut ∙ sym (append_assoc one.front other.front end) }

pub end_is : {text end other : List ℕ} → IsEnd text end → end ≡ other → IsEnd text other
end_is {text} {end} {other} e same = subst (λ end. IsEnd text end) same e

pub end_blanks : (text : List ℕ) → IsEnd text (after_blanks text)
end_blanks [] = end_all []
end_blanks (byte ∷ text) =
    let later = end_blanks text in
    elim (is_blank byte) as (λ t. IsEnd (byte ∷ text) (elim t as (λ _. List ℕ) [ true ↦ after_blanks text | false ↦ byte ∷ text ])) [
      | true ↦ end_after byte later
      | false ↦ end_all (byte ∷ text)
    ]

pub end_shorter : {text end : List ℕ} → IsEnd text end → length end ≤ length text
end_shorter {text} {end} e = omega (arith, ap length e.cut, length-append e.front end)

pub end_at : {text end : List ℕ} → IsEnd text end → drop (length text - length end) text ≡ end
end_at {text} {end} e =
    let size : length text - length end ≡ length e.front = omega (arith, ap length e.cut, length-append e.front end) in
    ap (λ bytes. drop (length text - length end) bytes) e.cut ∙ drop_at e.front end (length text - length end) (sym size)

-- what is wrong in an end
pub stops_later : {text end : List ℕ} (stop : Stop) → IsEnd text end → StopsIn end stop → StopsIn text stop
stops_later {text} {end} (stop.Wrong what left) e h =
    record { here = h.here; end = end_later e h.end; left_is = h.left_is; wrong = h.wrong }
stops_later {text} {end} stop.Memory e h = tt

-- what is wrong, at its place from the front
pub wrong-place : (text : List ℕ) (what : ChainWrong) (left : ℕ) → IsWrongAt text what left →
    (left ≤ length text) × IsWrongHere (drop (length text - left) text) what
wrong-place text what left h =
    let short : left ≤ length text = omega (arith, end_shorter h.end, h.left_is) in
    let place : drop (length text - left) text ≡ h.here = ap (λ n. drop (length text - n) text) (sym h.left_is) ∙ end_at h.end in
    (short, subst (λ here. IsWrongHere here what) (sym place) h.wrong)

pub unless_map : {P Q : Type 0} (stop : Stop) → (P → Q) → Unless P stop → Unless Q stop
unless_map (stop.Wrong what left) f p = f p
unless_map stop.Memory f p = tt
