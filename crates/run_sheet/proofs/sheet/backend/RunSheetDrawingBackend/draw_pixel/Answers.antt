-- A colour that leaves the dot is accepted, and an offset that is found lies in the sheet.
use Rattle.std.proofs.Common.{Option, sym, ap}
use Rattle.plotters_backend.specs.Surface.{answer}
use Rattle.dots.specs.declared.fault.SheetFault.{SheetFault}
use Rattle.run_sheet.proofs.Places.{accepts, at_area}
use Rattle.run_sheet.proofs.sheet.backend.RunSheetDrawingBackend.draw_pixel.Goals as goal

pub returns-in_default-ink-clause-answer : goal.returns-in_default-ink-clause-answer
returns-in_default-ink-clause-answer c = sym (ap (λ (o : Option SheetFault). answer o) (accepts c.args.self.now c.args.point c.args.color (sym c.in_default-ink.ensures)))

pub lay-requires : goal.lay-requires
lay-requires c = at_area c.args.self.now c.args.point c.in-Some.offset c.in-Some.ensures
