use Rattle.std.proofs.Common.{◌≡◌, ℤ, pos, ◌+ℤ◌, ap, ◌∙◌, lit<, w32, SFits, rules}
use lib.Ieee.{Float, binary64, add, sub}
use Rattle.std.specs.Float.{floor}
use Rattle.std.proofs.lemmas.Int.{to_z-of_z}
use Rattle.std.proofs.lemmas.Result.{err_from_is_err_and}
use Rattle.binary64.specs.Range.{floor_z}
use Rattle.plotters_backend.specs.Color.{mixed, one}
use Rattle.plotters_backend.specs.Run.{Pixel}
use Rattle.plotters_backend.specs.declared.axis.Axis.{Axis}
use Rattle.plotters_backend.specs.declared.style.BackendColor.{BackendColor}
use Rattle.plotters_backend.proofs.Runs.{exits_with}
use Rattle.plotters_backend.specs.Axis.{turned}
use Rattle.rasterizer.proofs.Blends.{same_pixel, next_row_fits, next_row_fits', two_stop, two_done}
use Rattle.rasterizer.proofs.line.draw_blended.Goals as goal

abbrev upper : Axis → BackendColor → ℤ → Float → Pixel
upper axis c x y = (turned axis (x, floor_z y), mixed c (sub binary64 (add binary64 one (floor binary64 y)) y))

abbrev lower : Axis → BackendColor → ℤ → Float → Pixel
lower axis c x y = (turned axis (x, floor_z y +ℤ pos 1), mixed c (sub binary64 y (floor binary64 y)))

pub overflow_add-row : goal.overflow_add-row
overflow_add-row g c = next_row_fits c.floor_to_i32-row.result (c.floor_to_i32-row.ensures.exact 131072 (lit< tt) c.requires).1

pub returns-in_err-draw_pixel : goal.returns-in_err-draw_pixel
returns-in_err-draw_pixel g c =
    let S = g.DB.DrawingBackend.surface in
    let axis = c.args.axis in
    let color = c.args.color in
    let x = c.args.x in
    let y = c.args.y in
    let fx = c.ranges.x in
    let fr : SFits w32 c.floor_to_i32-row.result = search rules in
    let row : c.floor_to_i32-row.result ≡ floor_z c.args.y = (c.floor_to_i32-row.ensures.exact 131072 (lit< tt) c.requires).0 in
    let at = simp to_z-of_z at c.turn.ensures ∙ ap (λ (z : ℤ). turned axis (x, z)) row in
    let ink = c.mix.ensures ∙ ap (λ (f : Float). mixed c.args.color (sub binary64 (add binary64 one f) c.args.y)) c.floor.ensures in
    let p = err_from_is_err_and c.from_residual.result c.from_residual.ensures.1 in
    exits_with S _ _ _ _ _ p.1 p.2 (two_stop S (upper axis color x y) (lower axis color x y) _ _ c.turn.result c.mix.result c.draw_pixel.result c.in_err-draw_pixel.field-0.0 (same_pixel c.turn.result (turned axis (x, floor_z y)) c.mix.result (mixed color (sub binary64 (add binary64 one (floor binary64 y)) y)) at ink) c.draw_pixel.ensures.answer c.draw_pixel.ensures.holds c.in_err-draw_pixel.was)

pub returns : goal.returns
returns g c =
    let S = g.DB.DrawingBackend.surface in
    let axis = c.args.axis in
    let color = c.args.color in
    let x = c.args.x in
    let y = c.args.y in
    let fx = c.ranges.x in
    let fr : SFits w32 c.floor_to_i32-row.result = search rules in
    let exact = c.floor_to_i32-row.ensures.exact 131072 (lit< tt) c.requires in
    let row : c.floor_to_i32-row.result ≡ floor_z c.args.y = exact.0 in
    let fn = next_row_fits' c.floor_to_i32-row.result exact.1 in
    let at = simp to_z-of_z at c.turn.ensures ∙ ap (λ (z : ℤ). turned axis (x, z)) row in
    let at' = simp to_z-of_z at c.turn-2.ensures ∙ ap (λ (z : ℤ). turned axis (x, z +ℤ pos 1)) row in
    let ink = c.mix.ensures ∙ ap (λ (f : Float). mixed c.args.color (sub binary64 (add binary64 one f) c.args.y)) c.floor.ensures in
    let ink' = c.mix-2.ensures ∙ ap (λ (f : Float). mixed c.args.color (sub binary64 c.args.y f)) c.floor-2.ensures in
    two_done S (upper axis color x y) (lower axis color x y) _ _ _ c.turn.result c.turn-2.result c.mix.result c.mix-2.result c.draw_pixel.result c.draw_pixel-2.result (same_pixel c.turn.result (turned axis (x, floor_z y)) c.mix.result (mixed color (sub binary64 (add binary64 one (floor binary64 y)) y)) at ink) (same_pixel c.turn-2.result (turned axis (x, floor_z y +ℤ pos 1)) c.mix-2.result (mixed color (sub binary64 y (floor binary64 y))) at' ink') c.draw_pixel.ensures.answer c.draw_pixel.ensures.holds c.in_ok-draw_pixel.was c.draw_pixel-2.ensures.answer c.draw_pixel-2.ensures.holds
