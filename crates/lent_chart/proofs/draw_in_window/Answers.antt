-- The draw through the window is the draw of what it lets through, on the picture that the loan holds.
use mathlib.Core.Path.{ap, ◌∙◌}
use Prim.Native.Nat.{ℕ}
use Rattle.plotters_backend.specs.Run.{Answer, Outcome}
use Rattle.panel.specs.Lent.{lent}
use Rattle.panel.specs.Picture.{Picture, picture, picture_of, sides}
use Rattle.std.specs.declared.convert.Infallible.{Infallible}
use Rattle.panel.specs.declared.panel.Panel.{Panel}
use Rattle.window.specs.Parts.{below_of, frame_of}
use Rattle.window.specs.declared.frame.Frame.{Frame}
use Rattle.window.specs.Window.{window_layer, windowed}
use Rattle.dot_grid.specs.Draws.{drawing}
use Rattle.lent_chart.specs.Charted.{framed}
use Rattle.lent_chart.proofs.Framed.{framed_run}
use Rattle.lent_chart.proofs.draw_in_window.Goals as goal

-- the picture of a panel
abbrev seen : Panel → Picture
seen p = picture_of p.size p.bytes.now

abbrev outcome : Answer Infallible → Picture → Answer Infallible × Picture
outcome r g = (r, g)

pub returns : goal.returns
returns c =
    let draw = c.args.draw in
    let w = c.new-window.result in
    let last = c.into_inner.ensures in
    let pic = seen (below_of w) in
    let e = c.carry_out-answer.ensures ∙ framed_run (below_of w).bytes.ghost_name pic (frame_of w) (drawing ((window_layer (frame_of w)).size (sides pic)) draw) in
    record {
      value =
          ap (λ (p : Panel). outcome c.carry_out-answer.result (seen p)) last
          ∙ ap (λ (o : Outcome (windowed (lent ℕ picture))). outcome o.0 o.1.0.1) e
          ∙ ap (λ (p : Panel). framed (seen p) (frame_of w) draw) c.new-window.ensures.stands
          ∙ ap (λ (f : Frame). framed (seen c.args.panel) f draw) c.new-window.ensures.asked;
      loan = ap (λ (p : Panel). p.bytes.ghost_name) last ∙ ap (λ (o : Outcome (windowed (lent ℕ picture))). o.1.0.0) e ∙ ap (λ (p : Panel). p.bytes.ghost_name) c.new-window.ensures.stands;
    }
