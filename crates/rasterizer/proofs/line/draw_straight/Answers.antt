use Rattle.std.proofs.Common.{List, pos, ◌≤ℤ◌, ap, ◌∙◌, arith, w32, SFits, rules}
use borrow.Author.Differences.{ints}
use Rattle.std.proofs.lemmas.Int.{to_z-of_z}
use Rattle.std.proofs.lemmas.Result.{err_from_is_err_and}
use Rattle.plotters_backend.specs.Run.{Pixel, all, run}
use Rattle.plotters_backend.proofs.Runs.{exits_with}
use Rattle.rasterizer.proofs.Cells.{as_straight, max_near, next_fits, test_in, test_out, cells_all, cells_more, cells_stop, cells_none}
use Rattle.rasterizer.proofs.line.draw_straight.Goals as goal

pub loop-x-init : goal.loop-x-init
loop-x-init g c =
    let fr = c.ranges.row in
    let ff : SFits w32 c.min-first.result = search rules in
    let fl : SFits w32 c.max-last.result = search rules in
    let rises : c.min-first.result ≤ℤ c.max-last.result = omega (arith, ints, c.min-first.ensures.self_bound, c.max-last.ensures.self_bound) in
    simp to_z-of_z (cells_all g.DB.DrawingBackend.surface c.args.axis c.args.row c.min-first.result c.max-last.result c.args.color (g.DB.DrawingBackend.held c.args.back.now) rises)

pub loop-x-preserved : goal.loop-x-preserved
loop-x-preserved g c =
    let fr = c.ranges.row in
    let ff : SFits w32 c.min-first.result = search rules in
    let fl : SFits w32 c.max-last.result = search rules in
    let f0 : SFits w32 c.args.ends.0 = search rules in
    let f1 : SFits w32 c.args.ends.1 = search rules in
    let first = simp to_z-of_z at c.min-first.ensures.value in
    let last = simp to_z-of_z at c.max-last.ensures.value in
    let near : c.max-last.result ≤ℤ pos 32767 = max_near c.args.ends.0 c.args.ends.1 c.max-last.result c.requires.0 c.requires.1 last in
    let inv = simp (to_z-of_z, c.loop-x.x-is) at c.loop-x.invariant in
    let at = simp (to_z-of_z, c.loop-x.x-is) at c.turn.ensures in
    let le = test_in c.loop-x.x c.max-last.result _ near fl c.loop-x.x-is c.loop-x-test.true in
    let fx = next_fits c.loop-x.x c.min-first.result c.max-last.result inv.left.low le near ff in
    simp (to_z-of_z, c.loop-x.x-is) (cells_more g.DB.DrawingBackend.surface c.args.axis c.args.row c.min-first.result c.max-last.result c.args.color c.loop-x.x c.turn.result _ _ _ c.draw_pixel.result inv le at c.draw_pixel.ensures.answer c.draw_pixel.ensures.holds c.in_ok-draw_pixel.was)

pub returns-in_err-draw_pixel : goal.returns-in_err-draw_pixel
returns-in_err-draw_pixel g c =
    let S = g.DB.DrawingBackend.surface in
    let h = g.DB.DrawingBackend.held c.args.back.now in
    let fr = c.ranges.row in
    let ff : SFits w32 c.min-first.result = search rules in
    let fl : SFits w32 c.max-last.result = search rules in
    let f0 : SFits w32 c.args.ends.0 = search rules in
    let f1 : SFits w32 c.args.ends.1 = search rules in
    let first = simp to_z-of_z at c.min-first.ensures.value in
    let last = simp to_z-of_z at c.max-last.ensures.value in
    let near : c.max-last.result ≤ℤ pos 32767 = max_near c.args.ends.0 c.args.ends.1 c.max-last.result c.requires.0 c.requires.1 last in
    let inv = simp (to_z-of_z, c.loop-x.x-is) at c.loop-x.invariant in
    let at = simp (to_z-of_z, c.loop-x.x-is) at c.turn.ensures in
    let le = test_in c.loop-x.x c.max-last.result _ near fl c.loop-x.x-is c.loop-x-test.true in
    let stop = cells_stop S c.args.axis c.args.row c.min-first.result c.max-last.result c.args.color c.loop-x.x c.turn.result h _ _ c.draw_pixel.result c.in_err-draw_pixel.field-0.0 inv le at c.draw_pixel.ensures.answer c.draw_pixel.ensures.holds c.in_err-draw_pixel.was in
    let p = err_from_is_err_and c.from_residual.result c.from_residual.ensures.1 in
    exits_with S _ _ _ _ _ p.1 p.2 (stop ∙ ap (λ (ps : List Pixel). run S h (all ps)) (as_straight S c.args.axis c.args.row _ _ c.args.color c.args.ends first last))

pub returns : goal.returns
returns g c =
    let S = g.DB.DrawingBackend.surface in
    let h = g.DB.DrawingBackend.held c.args.back.now in
    let fr = c.ranges.row in
    let ff : SFits w32 c.min-first.result = search rules in
    let fl : SFits w32 c.max-last.result = search rules in
    let f0 : SFits w32 c.args.ends.0 = search rules in
    let f1 : SFits w32 c.args.ends.1 = search rules in
    let first = simp to_z-of_z at c.min-first.ensures.value in
    let last = simp to_z-of_z at c.max-last.ensures.value in
    let near : c.max-last.result ≤ℤ pos 32767 = max_near c.args.ends.0 c.args.ends.1 c.max-last.result c.requires.0 c.requires.1 last in
    let inv = simp (to_z-of_z, c.loop-x.x-is) at c.loop-x.invariant in
    let lt = test_out c.loop-x.x c.max-last.result _ near fl c.loop-x.x-is c.loop-x-test.false in
    cells_none S c.args.axis c.args.row c.min-first.result c.max-last.result c.args.color c.loop-x.x h _ inv lt ∙ ap (λ (ps : List Pixel). run S h (all ps)) (as_straight S c.args.axis c.args.row _ _ c.args.color c.args.ends first last)
