use Rattle.std.proofs.Common.{[], ◌∷◌, ℤ, sym, ap, ◌∙◌}
use Rattle.std.proofs.lemmas.Result.{err_from_is_err_and}
use Rattle.plotters_backend.specs.Run.{all, run}
use Rattle.plotters_backend.proofs.Runs.{exits_with, join_ok, join_err, one_pixel}
use Rattle.rasterizer.specs.Line.{sloped}
use Rattle.rasterizer.proofs.line.draw_rising.Goals as goal

pub returns-in_err-draw_sloped : goal.returns-in_err-draw_sloped
returns-in_err-draw_sloped g c =
    let S = g.DB.DrawingBackend.surface in
    let p = err_from_is_err_and c.from_residual.result c.from_residual.ensures.1 in
    exits_with S _ _ _ _ _ p.1 p.2 (sym (join_err S _ _ (sloped c.args.axis c.args.from c.args.to c.args.color) _ c.draw_sloped.result _ c.draw_sloped.ensures c.in_err-draw_sloped.was))

pub returns : goal.returns
returns g c =
    let S = g.DB.DrawingBackend.surface in
    let k = g.DB.DrawingBackend.held c.draw_sloped.new.back in
    let last = one_pixel S k _ c.turn.result c.args.color c.draw_pixel.result c.draw_pixel.ensures.answer c.draw_pixel.ensures.holds in
    last
    ∙ ap (λ (z : ℤ × ℤ). run S k (all ((z, c.args.color) ∷ []))) c.turn.ensures
    ∙ sym (join_ok S _ k (sloped c.args.axis c.args.from c.args.to c.args.color) _ c.draw_sloped.result c.draw_sloped.ensures c.in_ok-draw_sloped.was)
