-- The numbers of answers.
use Rattle.std.specs.Prelude.{ℕ, Ok, Err}
use Rattle.plotters_backend.specs.Run.{Answer}
use Rattle.plotters_backend.specs.Refusals.{number}
use Rattle.plotters_backend.specs.declared.error.DrawingErrorKind.TheVariants.{DrawingError, Refused}
use Rattle.dots.specs.Faults.{fault_number}
use Rattle.dots.specs.declared.fault.SheetFault.{SheetFault}

-- 0 for success, and otherwise the number of the refusal or of the sheet's own fault
abbrev pub answer_number : Answer SheetFault → ℕ
answer_number (Ok _) = 0
answer_number (Err (Refused k)) = number k
answer_number (Err (DrawingError f)) = fault_number f
