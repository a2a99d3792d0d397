-- The head and the pairs before the one at i are written, and what stands behind them is as it was.
use Rattle.std.proofs.Common.{◌≡◌, ◌+◌, ◌*◌, ◌++◌, take, drop, vec_items}
use Rattle.std.specs.List.{flat_map}
use Rattle.dots.specs.Bytes.{head_bytes, pair_bytes}
use Rattle.run_sheet.proofs.sheet.RunSheet.write.Given as goal

abbrev pub invariant-loop-i : goal.invariant-loop-i
invariant-loop-i l = l.out ≡ (head_bytes l.self.size.0 l.self.size.1 l.count ++ flat_map pair_bytes (take l.i (vec_items l.self.pairs))) ++ drop (12 + 8 * l.i) l.fn.out
