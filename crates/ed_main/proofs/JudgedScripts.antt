-- What came of scripts that were judged one after another.
use Rattle.std.proofs.Common.{◌≡◌, ◌+◌, ℕ, List, [], ◌∷◌, true, false, length, refl, ap, ◌∙◌, true≢false, arith}
use Rattle.std.proofs.Math.Dec.{eqb-suc-zero}
use Rattle.std.proofs.lemmas.List.Elements.{All-nil, All-cons}
use Rattle.ed_calls.specs.declared.starts.Starts.{Starts}
use Rattle.ed_main.specs.Several.{AreJudged, IsJudged, IsOutcome, Judges, greater, names_none}

module _ (starts : Starts) where
  pub none_judged : AreJudged starts 0 0
  none_judged = record { statuses = []; each = All-nil (IsOutcome starts); as_many = refl; greatest_of = refl }

  -- one more was judged
  pub and_judged : (count status one : ℕ) → AreJudged starts count status → IsOutcome starts one → AreJudged starts (count + 1) (greater one status)
  and_judged count status one before came = record {
    statuses = one ∷ before.statuses;
    each = All-cons (IsOutcome starts) one before.statuses came before.each;
    as_many = rw before.as_many (omega arith);
    greatest_of = ap (greater one) before.greatest_of;
  }

  pub input_judged : (script : List ℕ) (scripts : List (List ℕ)) (status : ℕ) → true ≡ names_none scripts → IsJudged script starts status → Judges script starts scripts status
  input_judged script [] status none came = came
  input_judged script (path ∷ paths) status none came = absurd (true≢false (none ∙ eqb-suc-zero (length paths)))

  pub each_judged : (script : List ℕ) (scripts : List (List ℕ)) (status : ℕ) → false ≡ names_none scripts → AreJudged starts (length scripts) status → Judges script starts scripts status
  each_judged script [] status some came = absurd cc
  each_judged script (path ∷ paths) status some came = came
