-- The size that a sheet shows is the one that it has.
use Rattle.std.proofs.Common.{sym}
use Rattle.run_sheet.proofs.Wholes.{sheet_sides}
use Rattle.run_sheet.proofs.sheet.backend.RunSheetDrawingBackend.get_size.Goals as goal

pub returns : goal.returns
returns c = sym (sheet_sides c.args.self.now)
