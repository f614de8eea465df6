-- What is told of a text that spells no chain.
use Rattle.std.proofs.Common.{◌≡◌, ◌≢◌, ℕ, ◌≤◌, false, nat_eq, List, length, refl, sym, ap, ◌∙◌, arith}
use Rattle.ed_syntax.specs.spelling.Characters.{semicolon_byte, begins, after_blanks}
use Rattle.landmarks.specs.declared.chain_fault.ChainWrong.TheVariants as wrong
use Rattle.landmarks.specs.declared.chain_fault.ChainFault.TheVariants as fault
use Rattle.landmarks.specs.declared.chain_fault.Stop.{Stop}
use Rattle.landmarks.specs.declared.chain_fault.Stop.TheVariants as stop
use Rattle.landmarks.specs.Spelled.{NoChain}
use Rattle.landmarks.specs.ChainFaults.{IsFaultIn}
use Rattle.landmarks.specs.Stops.{IsEnd, IsWrongAt, StopsIn, Unless, NoLandmarks}
use Rattle.landmarks.specs.FaultPlaces.{fault_in}
use Rattle.landmarks.proofs.Ends.{end_later, end_is, end_blanks, wrong-place}
use Rattle.landmarks.proofs.Chains.{no_chain}

pub fault_told : (text : List ℕ) (stopped : Stop) → StopsIn text stopped → IsFaultIn text (fault_in (length text) stopped)
fault_told text (stop.Wrong what left) h = (omega arith, (wrong-place text what left h).1)
fault_told text stop.Memory h = tt

pub fault_unread : (text : List ℕ) (stopped : Stop) → Unless (NoLandmarks text) stopped → fault_in (length text) stopped ≢ fault.Memory → NoChain text
fault_unread text (stop.Wrong what left) h other = no_chain text h
fault_unread text stop.Memory h other = absurd (other refl)

-- a landmark that should end
pub wrong_end : {text left rest : List ℕ} → IsEnd text left → IsEnd left rest → (here : List ℕ) → here ≡ after_blanks rest → 1 ≤ length here →
    begins (nat_eq semicolon_byte) (after_blanks rest) ≡ false → IsWrongAt text wrong.End (length here)
wrong_end {text} {left} {rest} one other here is some no_sign = record {
  here = here;
  end = end_later (end_later one other) (end_is (end_blanks rest) (sym is));
  left_is = refl;
  wrong = (λ nothing. absurd (omega (arith, some, ap length nothing)), ap (begins (nat_eq semicolon_byte)) is ∙ no_sign);
}
