-- The head and the lines of the pairs before the one at the index are written.
use Rattle.std.proofs.Common.{◌++◌, take, vec_items}
use Rattle.std.specs.Fmt.{HasWritten, IsPlainFormatter}
use Rattle.std.specs.List.{flat_map}
use Rattle.run_sheet.specs.Texts.{head_text, pair_text}
use Rattle.run_sheet.proofs.sheet.display.RunSheetDisplay.fmt.Given as goal

abbrev pub invariant-loop-pair : goal.invariant-loop-pair
invariant-loop-pair g l = IsPlainFormatter l.fn.f → HasWritten g.W.Write.write_str_gives l.fn.f (head_text l.self.size.0 l.self.size.1 l.count ++ flat_map pair_text (take l.pair-index (vec_items l.self.pairs))) l.f
