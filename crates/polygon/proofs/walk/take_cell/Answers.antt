use Rattle.std.proofs.Common.{◌≡◌, pos, ◌-ℤ◌, w32, SFits, rules}
use Rattle.std.proofs.lemmas.Result.{err_from_is_err_and}
use Rattle.std.proofs.lemmas.Int.{to_z-of_z}
use Rattle.plotters_backend.specs.Run.{Outcome, all, run}
use Rattle.polygon.specs.Walking.{inked, laid_at}
use Rattle.polygon.proofs.RunTaken.{laid_taken, taken_err, taken_ok}
use Rattle.polygon.proofs.walk.take_cell.Given.{Over}
use Rattle.polygon.proofs.walk.take_cell.Goals.{After-draw_inner_line}
use Rattle.polygon.proofs.walk.take_cell.Goals as goal

-- the line that was drawn lays the run in hand
laid : (g : Over) (c : After-draw_inner_line g) → ◌≡◌ {A = Outcome g.DB.DrawingBackend.surface} (run g.DB.DrawingBackend.surface (g.DB.DrawingBackend.held c.args.back.now) (all (inked c.args.line.axis c.args.line.at c.args.color (laid_at c.args.hand c.args.covered c.args.cell)))) (c.draw_inner_line.result, g.DB.DrawingBackend.held c.draw_inner_line.new.back)
laid g c =
    let ff : SFits w32 c.in-Some-false.first = search rules in
    let fc : SFits w32 c.args.cell = search rules in
    let fb : SFits w32 (c.args.cell -ℤ pos 1) = search rules in
    laid_taken g.DB.DrawingBackend.surface c.args.line.axis c.args.line.at c.args.color c.args.hand c.args.covered c.args.cell c.in-Some-false.first c.requires c.in-Some-false.is-0 c.in-Some-false.is-1 _ _ c.point.result c.point-in-Some-false.result c.draw_inner_line.result (simp to_z-of_z at c.point.ensures) (simp to_z-of_z at c.point-in-Some-false.ensures) c.draw_inner_line.ensures

pub returns-in_err-draw_inner_line-in-Some-false : goal.returns-in_err-draw_inner_line-in-Some-false
returns-in_err-draw_inner_line-in-Some-false g c =
    let p = err_from_is_err_and c.from_residual.result c.from_residual.ensures.1 in
    taken_err g.DB.DrawingBackend.surface _ _ _ _ _ _ c.in-Some-false.first c.requires c.in-Some-false.is-0 c.in-Some-false.is-1 _ _ _ (laid g (goal.at.returns-in_err-draw_inner_line-in-Some-false g c).After-draw_inner_line) _ _ _ p.1 p.2 c.in_err-draw_inner_line-in-Some-false.was

pub returns-in_ok-draw_inner_line-in-Some-false : goal.returns-in_ok-draw_inner_line-in-Some-false
returns-in_ok-draw_inner_line-in-Some-false g c = taken_ok g.DB.DrawingBackend.surface _ _ _ _ _ _ c.in-Some-false.first c.requires c.in-Some-false.is-0 c.in-Some-false.is-1 _ _ _ (laid g (goal.at.returns-in_ok-draw_inner_line-in-Some-false g c).After-draw_inner_line) c.in_ok-draw_inner_line-in-Some-false.was
