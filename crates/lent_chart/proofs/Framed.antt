-- A draw through a window on a loan.
use mathlib.Core.Path.{◌≡◌, ap, ◌∙◌}
use Prim.Native.Nat.{ℕ}
use Rattle.plotters_backend.specs.Run.{Drawing, Outcome, run}
use Rattle.panel.specs.Lent.{lent, lent_lawful}
use Rattle.panel.specs.Picture.{Picture, picture, sides}
use Rattle.panel.specs.PictureLaws.{picture_lawful}
use Rattle.panel.proofs.Loans.{run_lent}
use Rattle.window.specs.Falling.{through}
use Rattle.window.specs.declared.frame.Frame.{Frame}
use Rattle.window.specs.Window.{window_layer, windowed}
use Rattle.window.proofs.Falling.{run_layered}

-- it is the draw of what the window lets through on the picture that the loan holds, and stays that loan and that window
pub framed_run : (n : ℕ) (g : Picture) (f : Frame) (d : Drawing) → run (windowed (lent ℕ picture)) ((n, g), f) d ≡ ((run picture g (through (window_layer f) (sides g) d)).0, ((n, (run picture g (through (window_layer f) (sides g) d)).1), f))
framed_run n g f d =
    let S = lent ℕ picture in
    run_layered window_layer S (lent_lawful ℕ picture picture_lawful) (n, g) f d
    ∙ ap (λ (o : Outcome S). (o.0, (o.1, f))) (run_lent ℕ picture n g (through (window_layer f) (sides g) d))
