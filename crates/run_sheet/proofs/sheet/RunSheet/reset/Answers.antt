-- A sheet with no pairs is light.
use Rattle.run_sheet.proofs.Places.{granted_grid}
use Rattle.run_sheet.proofs.sheet.RunSheet.reset.Goals as goal

pub returns : goal.returns
returns c = granted_grid c.args.size _ _ c.granted-self.ensures c.clear.ensures.items
