-- An offset that is found lies in the sheet.
use Rattle.run_sheet.proofs.Places.{at_area}
use Rattle.run_sheet.proofs.sheet.RunSheet.dot.Goals as goal

pub get-requires : goal.get-requires
get-requires c = at_area c.args.self.now c.args.point c.in_ok-offset.field-0 c.in_ok-offset.ensures
