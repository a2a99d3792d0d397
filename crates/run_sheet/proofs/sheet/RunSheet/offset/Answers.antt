-- The index of a point in the size is its offset.
use Rattle.std.proofs.Common.{◌∙◌}
use Rattle.run_sheet.proofs.Places.{sheet_offset}
use Rattle.run_sheet.proofs.sheet.RunSheet.offset.Goals as goal

pub returns : goal.returns
returns c = c.in_ok-index_of.ensures ∙ sheet_offset c.args.self.now c.args.point
