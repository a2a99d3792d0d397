use Rattle.std.proofs.Common.{◌≡◌, List, filter, ℤ, ◌≤ℤ◌, refl, w32, to_z}
use Rattle.std.proofs.lemmas.Result.{err_from_is_err_and}
use Rattle.std.proofs.lemmas.Int.{to_z-of_z}
use Rattle.outline.specs.Filling.{sweep_line}
use Rattle.outline.specs.Sweep.{live}
use Rattle.plotters_backend.proofs.Runs.{exits_with}
use Rattle.plotters_backend.specs.Run.{Outcome, Pixel, all, run}
use Rattle.rasterizer.proofs.Cells.{next_fits, test_in}
use Rattle.polygon.specs.Rims.{mixes}
use Rattle.polygon.proofs.Fills.{lines_more, lines_stop}
use Rattle.polygon.proofs.SweepLine.{near_fits, near_upto}
use Rattle.polygon.proofs.sweep.sweep.Given.{Over}
use Rattle.polygon.proofs.sweep.sweep.Goals.{After-sweep_line}
use Rattle.polygon.proofs.sweep.sweep.Goals as goal

-- what a sweep line that was drawn laid
module _ (g : Over) (c : After-sweep_line g) where
  abbrev line : ℤ → List Pixel
  line m = sweep_line mixes c.args.axis c.args.color c.args.area.0.1 c.args.area.1.1 (filter (live m) c.args.sides.now) m

  abbrev at : ℤ
  at = to_z w32 c.loop-m.m-bits

  within : at ≤ℤ c.args.area.1.0
  within = test_in at c.args.area.1.0 _ (near_upto c.args.area.1.0 c.requires.near.1) (near_fits c.args.area.1.0 c.requires.near.1) refl c.loop-m-test.true

  drawn : ◌≡◌ {A = Outcome g.DB.DrawingBackend.surface} (c.sweep_line.result, g.DB.DrawingBackend.held c.sweep_line.new.back) (run g.DB.DrawingBackend.surface (g.DB.DrawingBackend.held c.loop-m.back) (all (line at)))
  drawn =
      let low = near_fits c.args.area.0.1 c.requires.held.low_near in
      let high = near_fits c.args.area.1.1 c.requires.held.high_near in
      simp to_z-of_z at c.sweep_line.ensures

pub returns-in_err-sweep_line : goal.returns-in_err-sweep_line
returns-in_err-sweep_line g c =
    let S = g.DB.DrawingBackend.surface in
    let r = (goal.at.returns-in_err-sweep_line g c).After-sweep_line in
    let stop = lines_stop S (line g r) _ _ _ _ _ _ c.sweep_line.result c.in_err-sweep_line.field-0.0 c.loop-m.invariant (within g r) (drawn g r) c.in_err-sweep_line.was in
    let p = err_from_is_err_and c.from_residual.result c.from_residual.ensures.1 in
    exits_with S _ _ _ _ _ p.1 p.2 stop

pub loop-m-preserved : goal.loop-m-preserved
loop-m-preserved g c =
    let S = g.DB.DrawingBackend.surface in
    let r = (goal.at.loop-m-preserved g c).After-sweep_line in
    let first = near_fits c.args.area.0.0 c.requires.near.0 in
    let fits = next_fits (at g r) c.args.area.0.0 c.args.area.1.0 c.loop-m.invariant.low (within g r) (near_upto c.args.area.1.0 c.requires.near.1) first in
    simp to_z-of_z (lines_more S (line g r) _ _ _ _ _ _ c.sweep_line.result c.loop-m.invariant (within g r) (drawn g r) c.in_ok-sweep_line.was)
