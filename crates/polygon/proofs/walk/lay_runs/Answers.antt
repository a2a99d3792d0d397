use Rattle.std.proofs.lemmas.Result.{err_from_is_err_and}
use Rattle.std.proofs.lemmas.Int.{to_z-of_z}
use Rattle.plotters_backend.proofs.Runs.{exits_with}
use Rattle.polygon.proofs.WalkTurns.{next_fits, walked_all, walked_last, walked_more, walked_stop}
use Rattle.polygon.proofs.walk.lay_runs.Goals as goal

pub loop-mark-preserved : goal.loop-mark-preserved
loop-mark-preserved g c =
    let ff = c.ranges.first in
    let inv = simp (to_z-of_z, c.loop-mark.cell-is) at c.loop-mark.invariant in
    let fc = next_fits _ _ _ _ _ _ _ _ _ _ _ _ _ inv c.requires c.loop-mark-test.true c.read_mark-parity.result c.read_mark-parity.ensures in
    let taken = simp c.loop-mark.cell-is at c.in_ok-hand.ensures in
    simp (to_z-of_z, c.loop-mark.cell-is) (walked_more _ _ _ _ _ _ _ _ _ _ _ _ _ inv c.requires c.loop-mark-test.true c.read_mark-parity.result c.read_mark-parity.ensures c.in_ok-hand.hand c.from.result _ c.loop-mark.auto.marks c.from.ensures taken)

-- a fault at a cell ends the draw
pub returns-in_err-hand-clause-pixels : goal.returns-in_err-hand-clause-pixels
returns-in_err-hand-clause-pixels g c =
    let ff = c.ranges.first in
    let inv = simp (to_z-of_z, c.loop-mark.cell-is) at c.loop-mark.invariant in
    let taken = simp c.loop-mark.cell-is at c.in_err-hand.ensures in
    let p = err_from_is_err_and c.from_residual.result c.from_residual.ensures.1 in
    exits_with g.DB.DrawingBackend.surface _ _ _ _ _ p.1 p.2 (walked_stop _ _ _ _ _ _ _ _ _ _ _ _ _ inv c.requires c.loop-mark-test.true c.read_mark-parity.result c.read_mark-parity.ensures _ _ taken)

-- and so does one past the last cell
pub returns-in_err-take_cell-clause-pixels : goal.returns-in_err-take_cell-clause-pixels
returns-in_err-take_cell-clause-pixels g c =
    let ff = c.ranges.first in
    let inv = simp (to_z-of_z, c.loop-mark.cell-is) at c.loop-mark.invariant in
    let taken = simp c.loop-mark.cell-is at c.in_err-take_cell.ensures in
    let p = err_from_is_err_and c.from_residual-in_err-take_cell.result c.from_residual-in_err-take_cell.ensures.1 in
    exits_with g.DB.DrawingBackend.surface _ _ _ _ _ p.1 p.2 (walked_last _ _ _ _ _ _ _ _ _ _ _ _ _ inv c.loop-mark-test.false _ _ taken)

pub returns-clause-pixels : goal.returns-clause-pixels
returns-clause-pixels g c =
    let ff = c.ranges.first in
    let inv = simp (to_z-of_z, c.loop-mark.cell-is) at c.loop-mark.invariant in
    let taken = simp c.loop-mark.cell-is at c.in_ok-take_cell.ensures in
    walked_all _ _ _ _ _ _ _ _ _ _ _ _ _ inv c.loop-mark-test.false _ _ taken
