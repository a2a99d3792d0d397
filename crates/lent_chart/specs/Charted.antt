-- What a draw makes of lent memory.
use Rattle.std.specs.Prelude.{List, ℕ}
use Rattle.plotters_backend.specs.Run.{Answer, run}
use Rattle.panel.specs.Picture.{Picture, handed, picture, sides}
use Rattle.std.specs.declared.convert.Infallible.{Infallible}
use Rattle.window.specs.Falling.{through}
use Rattle.window.specs.declared.frame.Frame.{Frame}
use Rattle.window.specs.Window.{window_layer}
use Rattle.dot_grid.specs.Draws.{drawing}
use Rattle.dot_grid.specs.declared.draw.Draw.{Draw}

-- a draw on a panel of a size over the bytes: the answer, and every byte afterwards
abbrev pub charted : ℕ × ℕ → List ℕ → Draw → Answer Infallible × List ℕ
charted s bs d = ((run picture (handed s bs) (drawing (sides (handed s bs)) d)).0, (run picture (handed s bs) (drawing (sides (handed s bs)) d)).1.bytes)

-- a draw through a window on a picture: the answer, and the picture afterwards
abbrev pub framed : Picture → Frame → Draw → Answer Infallible × Picture
framed g f d = run picture g (through (window_layer f) (sides g) (drawing ((window_layer f).size (sides g)) d))
