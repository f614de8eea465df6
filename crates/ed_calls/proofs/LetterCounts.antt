-- Whether a script leaves letters enough, by a count of landmarks that stops at the greatest number.
use Rattle.std.proofs.Common.{◌≡◌, ◌<◌, ◌≤◌, inl, inr, ℕ, List, arith, subst, sym}
use Rattle.ed_syntax.specs.Commands.{Script}
use Rattle.ed_syntax.specs.reading.Reading.{script_of}
use Rattle.landmarks.specs.ChainValues.{ChainValue}
use Rattle.cert_check.specs.checker.Beginning.{IsCounted, count_of, landmarks_of, letters_left}

pub no_letters : (number count letters : ℕ) → IsCounted number count → number ≡ 0 → count ≤ letters
no_letters number count letters (inl same) none = omega arith
no_letters number count letters (inr more) none = let most = more.0 in absurd (omega arith)

enough_letters : (number count letters : ℕ) → IsCounted number count → number ≤ letters → letters ≤ 26 → count ≤ letters
enough_letters number count letters (inl same) enough few = omega arith
enough_letters number count letters (inr more) enough few = let most = more.0 in absurd (omega arith)

few_letters : (number count letters : ℕ) → IsCounted number count → letters < number → count ≤ letters → ⊥
few_letters number count letters (inl same) few enough = omega arith
few_letters number count letters (inr more) few enough = let less = more.1 in omega arith

module _ (number letters : ℕ) (counted given : List ChainValue) (read : Script) (script : List ℕ) where
  pub leaves_enough : counted ≡ given → read ≡ script_of script → IsCounted number (count_of (landmarks_of counted)) →
      letters ≡ letters_left read → letters ≤ 26 → number ≤ letters → count_of (landmarks_of given) ≤ letters_left (script_of script)
  leaves_enough same is count left few enough =
      subst (λ chains. count_of (landmarks_of chains) ≤ letters_left (script_of script)) same
      (subst (λ r. count_of (landmarks_of counted) ≤ letters_left r) is
      (subst (λ n. count_of (landmarks_of counted) ≤ n) left
      (enough_letters number (count_of (landmarks_of counted)) letters count enough few)))

  pub leaves_few : counted ≡ given → read ≡ script_of script → IsCounted number (count_of (landmarks_of counted)) →
      letters ≡ letters_left read → letters < number → count_of (landmarks_of given) ≤ letters_left (script_of script) → ⊥
  leaves_few same is count left few enough =
      few_letters number (count_of (landmarks_of counted)) letters count few
      (subst (λ n. count_of (landmarks_of counted) ≤ n) (sym left)
      (subst (λ r. count_of (landmarks_of counted) ≤ letters_left r) (sym is)
      (subst (λ chains. count_of (landmarks_of chains) ≤ letters_left (script_of script)) (sym same) enough)))
