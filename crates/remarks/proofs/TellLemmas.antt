-- One remark more.
use Rattle.std.proofs.Common.{◌≡◌, ◌≢◌, Bool, true, false, ◌||◌, List, [], ◌∷◌, ◌++◌, length, Result, OnOk, refl, ap, sym, ◌∙◌, append_assoc, arith}
use Rattle.std.proofs.lemmas.Bool.{both_ways, eq-eqb}
use Rattle.std.proofs.lemmas.List.{append-nil}
use Rattle.std.proofs.lemmas.Result.{on_ok_weaker}
use Rattle.std.proofs.lemmas.List.Quantifiers.{all_pairs_push}
use Rattle.std.proofs.lemmas.List.Folds.{list_any-append, list_any_at}
use Rattle.remarks.specs.declared.slip.Slip.{Slip}
use Rattle.remarks.specs.declared.slip.Remarked.{Remarked}
use Rattle.remarks.specs.Told.{same, slip_number, tells, IsOnce}
use Rattle.remarks.specs.Adding.{Adds}
use Rattle.remarks.proofs.KindLemmas.{same_gives}

or_turned : (a b : Bool) → (a || (b || false)) ≡ (b || a)
or_turned true true = refl
or_turned true false = refl
or_turned false true = refl
or_turned false false = refl

-- what is told after one more
pub tells_push : (kind : Slip) (found : List Remarked) (one : Remarked) → tells kind (found ++ one ∷ []) ≡ (same kind one.slip || tells kind found)
tells_push kind found one =
    list_any-append (λ remarked. same kind remarked.slip) found (one ∷ []) ∙ or_turned (tells kind found) (same kind one.slip)

-- what is told once needs no second time
pub told_again : (kind slip : Slip) (found : List Remarked) → tells slip found ≡ true → tells kind found ≡ (same kind slip || tells kind found)
told_again kind slip found there = by_same (same kind slip) refl
  where
    by_same : (b : Bool) → same kind slip ≡ b → tells kind found ≡ (b || tells kind found)
    by_same true e = ap (λ k. tells k found) (same_gives kind slip e) ∙ there
    by_same false e = refl

-- no kind is there twice after one more that wasn't there
pub once_push : (found : List Remarked) (one : Remarked) → tells one.slip found ≡ false → IsOnce found → IsOnce (found ++ one ∷ [])
once_push found one not_there once =
    all_pairs_push (λ a b. a.slip ≢ b.slip) found one once (λ k d within equal.
    both_ways (tells one.slip found) not_there
    (list_any_at (λ remarked. same one.slip remarked.slip) found k d within (eq-eqb _ _ (ap slip_number (sym equal)))))

-- nothing came
pub adds_none : (found : List Remarked) → Adds found found
adds_none found = record { more = []; added = sym (append-nil found); once = λ once. once }

-- one remark came, of a kind that wasn't there
pub adds_one : (found : List Remarked) (one : Remarked) → tells one.slip found ≡ false → Adds found (found ++ one ∷ [])
adds_one found one not_there = record { more = one ∷ []; added = refl; once = once_push found one not_there }

-- some came, and then more
pub adds_then : {a b c : List Remarked} → Adds a b → Adds b c → Adds a c
adds_then {a} first second = record {
  more = first.more ++ second.more;
  added = second.added ∙ ap (λ (found : List Remarked). found ++ second.more) first.added ∙ append_assoc a first.more second.more;
  once = λ once. second.once (first.once once);
}

-- the same where the last step may have failed
pub adds_last : {a b : List Remarked} {T E : Type 0} (r : Result T E) (c : List Remarked) → Adds a b → OnOk r (Adds b c) → OnOk r (Adds a c)
adds_last {a} {b} r c first = on_ok_weaker {P = Adds b c} {Q = Adds a c} r (λ second. adds_then first second)

-- no kind is twice among none
pub once_none : (found : List Remarked) → found ≡ [] → IsOnce found
once_none found empty = λ i j d below within. absurd (omega (arith, ap length empty))
