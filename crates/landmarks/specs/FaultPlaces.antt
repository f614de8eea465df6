-- The place of a fault, counted from the front (our own).
use Rattle.std.specs.Prelude.{ℕ, ◌-◌}
use Rattle.landmarks.specs.declared.chain_fault.ChainFault.{ChainFault}
use Rattle.landmarks.specs.declared.chain_fault.ChainFault.TheVariants as fault
use Rattle.landmarks.specs.declared.chain_fault.Stop.{Stop}
use Rattle.landmarks.specs.declared.chain_fault.Stop.TheVariants as stop

-- the fault of a text that is so long, in which a reader stopped
abbrev pub fault_in : (size : ℕ) → Stop → ChainFault
fault_in size (stop.Wrong what left) = fault.Wrong (size - left) what
fault_in size stop.Memory = fault.Memory
