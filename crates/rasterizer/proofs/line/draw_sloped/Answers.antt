use Rattle.std.proofs.Common.{List, sym, refl, ap, ◌∙◌, subst, lit<, w32, SFits, rules}
use Rattle.std.proofs.lemmas.Int.{to_z-of_z}
use Rattle.std.proofs.lemmas.Result.{err_from_is_err_and}
use Rattle.binary64.specs.Range.{Sized}
use Rattle.binary64.proofs.Sizes.{sized_int}
use Rattle.plotters_backend.specs.Run.{Pixel, all, run}
use Rattle.plotters_backend.proofs.Runs.{exits_with}
use Rattle.rasterizer.proofs.Steps.{as_sloped, height_sized, lt_le, near_apart, near_fits, rises_by, step_fits, test_in, test_out, steps_all, steps_more, steps_stop, steps_none}
use Rattle.rasterizer.proofs.line.draw_sloped.Goals as goal

pub loop-x-init : goal.loop-x-init
loop-x-init g c =
    let fa : SFits w32 c.args.from.0 = search rules in
    let fc : SFits w32 c.args.to.0 = search rules in
    simp to_z-of_z (steps_all g.DB.DrawingBackend.surface c.args.axis c.args.color c.args.from.0 c.args.to.0 c.from-y.result c.gradient-grad.result (g.DB.DrawingBackend.held c.args.back.now) (lt_le c.args.from.0 c.args.to.0 c.requires.rises))

pub draw_blended-requires : goal.draw_blended-requires
draw_blended-requires g c =
    let a = c.args.from in
    let b = c.args.to in
    let fa : SFits w32 a.0 = search rules in
    let fb : SFits w32 a.1 = search rules in
    let fc : SFits w32 b.0 = search rules in
    let fd : SFits w32 b.1 = search rules in
    let fr = near_fits a.0 b.0 c.requires.near.0.0 c.requires.near.1.0 in
    let fs = near_fits a.1 b.1 c.requires.near.0.1 c.requires.near.1.1 in
    let inv = simp (to_z-of_z, c.loop-x.x-is) at c.loop-x.invariant in
    let sized = simp to_z-of_z at c.gradient-grad.ensures.sized in
    let start : Sized 32767 c.from-y.result = subst (Sized 32767) (sym (simp to_z-of_z at c.from-y.ensures)) (sized_int a.1 32767 c.requires.near.0.1 (lit< tt)) in
    height_sized g.DB.DrawingBackend.surface c.args.axis c.args.color a.0 b.0 c.from-y.result c.gradient-grad.result c.loop-x.x c.loop-x.y _ _ inv (near_apart a.0 b.0 c.requires.near.0.0 c.requires.near.1.0) start (sized (rises_by a.0 b.0 c.requires.rises) c.requires.wide)

pub loop-x-preserved : goal.loop-x-preserved
loop-x-preserved g c =
    let a = c.args.from in
    let b = c.args.to in
    let fa : SFits w32 a.0 = search rules in
    let fc : SFits w32 b.0 = search rules in
    let inv = simp (to_z-of_z, c.loop-x.x-is) at c.loop-x.invariant in
    let lt = test_in c.loop-x.x b.0 _ c.loop-x.x-is (simp to_z-of_z at c.loop-x-test.true) in
    let drawn = simp c.loop-x.x-is at c.draw_blended.ensures in
    let fx = step_fits c.loop-x.x a.0 b.0 inv.left.low lt c.requires.near.1.0 fa in
    simp (to_z-of_z, c.loop-x.x-is) (steps_more g.DB.DrawingBackend.surface c.args.axis c.args.color a.0 b.0 c.from-y.result c.gradient-grad.result c.loop-x.x c.loop-x.y _ _ _ c.draw_blended.result inv lt drawn c.in_ok-draw_blended.was)

pub returns-in_err-draw_blended : goal.returns-in_err-draw_blended
returns-in_err-draw_blended g c =
    let S = g.DB.DrawingBackend.surface in
    let h = g.DB.DrawingBackend.held c.args.back.now in
    let a = c.args.from in
    let b = c.args.to in
    let fa : SFits w32 a.0 = search rules in
    let fb : SFits w32 a.1 = search rules in
    let fc : SFits w32 b.0 = search rules in
    let fd : SFits w32 b.1 = search rules in
    let fr = near_fits a.0 b.0 c.requires.near.0.0 c.requires.near.1.0 in
    let fs = near_fits a.1 b.1 c.requires.near.0.1 c.requires.near.1.1 in
    let inv = simp (to_z-of_z, c.loop-x.x-is) at c.loop-x.invariant in
    let lt = test_in c.loop-x.x b.0 _ c.loop-x.x-is (simp to_z-of_z at c.loop-x-test.true) in
    let drawn = simp c.loop-x.x-is at c.draw_blended.ensures in
    let start = simp to_z-of_z at c.from-y.ensures in
    let grad = simp to_z-of_z at c.gradient-grad.ensures.value in
    let stop = steps_stop S c.args.axis c.args.color a.0 b.0 c.from-y.result c.gradient-grad.result c.loop-x.x c.loop-x.y h _ _ c.draw_blended.result c.in_err-draw_blended.field-0.0 inv lt drawn c.in_err-draw_blended.was in
    let p = err_from_is_err_and c.from_residual.result c.from_residual.ensures.1 in
    exits_with S _ _ _ _ _ p.1 p.2 (stop ∙ ap (λ (ps : List Pixel). run S h (all ps)) (as_sloped S c.args.axis c.args.color a.0 b.0 c.from-y.result c.gradient-grad.result a b refl refl start grad))

pub returns : goal.returns
returns g c =
    let S = g.DB.DrawingBackend.surface in
    let h = g.DB.DrawingBackend.held c.args.back.now in
    let a = c.args.from in
    let b = c.args.to in
    let fa : SFits w32 a.0 = search rules in
    let fb : SFits w32 a.1 = search rules in
    let fc : SFits w32 b.0 = search rules in
    let fd : SFits w32 b.1 = search rules in
    let fr = near_fits a.0 b.0 c.requires.near.0.0 c.requires.near.1.0 in
    let fs = near_fits a.1 b.1 c.requires.near.0.1 c.requires.near.1.1 in
    let inv = simp (to_z-of_z, c.loop-x.x-is) at c.loop-x.invariant in
    let ge = test_out c.loop-x.x b.0 _ c.loop-x.x-is (simp to_z-of_z at c.loop-x-test.false) in
    let start = simp to_z-of_z at c.from-y.ensures in
    let grad = simp to_z-of_z at c.gradient-grad.ensures.value in
    steps_none S c.args.axis c.args.color a.0 b.0 c.from-y.result c.gradient-grad.result c.loop-x.x c.loop-x.y h _ inv ge ∙ ap (λ (ps : List Pixel). run S h (all ps)) (as_sloped S c.args.axis c.args.color a.0 b.0 c.from-y.result c.gradient-grad.result a b refl refl start grad)
