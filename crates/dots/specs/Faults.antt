-- The sheet's own fault as a refusal, and its number.
use Rattle.std.specs.Prelude.{ℕ}
use Rattle.plotters_backend.specs.Refusals.{number}
use Rattle.plotters_backend.specs.declared.error.Refusal.{Refusal}
use Rattle.plotters_backend.specs.declared.error.Refusal.TheVariants as refusal
use Rattle.dots.specs.declared.fault.SheetFault.{SheetFault}
use Rattle.dots.specs.declared.fault.SheetFault.TheVariants.{Full}

-- the refusal that a fault is
abbrev pub fault_refusal : SheetFault → Refusal
fault_refusal Full = refusal.Full

-- and its number
abbrev pub fault_number : SheetFault → ℕ
fault_number f = number (fault_refusal f)
