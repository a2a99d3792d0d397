use Rattle.std.proofs.Common.{◌≡◌, List, sym, ap, ◌∙◌, w32, of_z}
use Rattle.plotters_backend.specs.Run.{Pixel, all, run}
use Rattle.rasterizer.proofs.Slants.{thin_slants}
use Rattle.rasterizer.proofs.line.draw_thin.Goals as goal

pub returns : goal.returns
returns g c =
    let S = g.DB.DrawingBackend.surface in
    let h = g.DB.DrawingBackend.held c.args.back.now in
    let n = λ (e : c.args.from.0 ≡ c.args.to.0). c.if-from-to.false (ap (of_z w32) e) in
    let m = λ (e : c.args.from.1 ≡ c.args.to.1). c.if-from-to-2.false (ap (of_z w32) e) in
    c.draw_slanting.ensures ∙ ap (λ (ps : List Pixel). run S h (all ps)) (sym (thin_slants c.args.from c.args.to c.args.color c.if-color.false n m))
