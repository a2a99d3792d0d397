-- A pile of layers on a sheet.
use Rattle.std.specs.Prelude.{◌≡◌, ℕ, List, [], ◌∷◌}
use Rattle.plotters_backend.specs.Surface.{Surface}
use Rattle.plotters_backend.specs.Run.{Drawing, Outcome, run}
use Rattle.window.specs.Layer.{Layer}
use Rattle.window.specs.Falling.{through}
use Rattle.dots.specs.Grid.{Grid, grid, sides}
use Rattle.dots.specs.declared.fault.SheetFault.{SheetFault}

-- the size that the topmost of some layers shows over a size
abbrev pub seen : ℕ × ℕ → List Layer → ℕ × ℕ
seen s [] = s
seen s (l ∷ ls) = l.size (seen s ls)

-- what reaches the bottom of a draw on the topmost: each layer moves a pixel or drops it
abbrev pub fallen : ℕ × ℕ → List Layer → Drawing → Drawing
fallen s [] d = d
fallen s (l ∷ ls) d = fallen s ls (through l (seen s ls) d)

-- S is a pile on a sheet: it shows the size seen through its layers, and a draw on it is the draw of what falls through them on the sheet's dots
pub record Piled (S : Surface SheetFault) (layers : S.Held → List Layer) (dots : S.Held → Grid) : Type 0 where
  pub sizes : (h : S.Held) → S.size h ≡ seen (sides (dots h)) (layers h)
  pub stays : (h : S.Held) (d : Drawing) → layers (run S h d).1 ≡ layers h
  pub falls : (h : S.Held) (d : Drawing) → ◌≡◌ {A = Outcome grid} ((run S h d).0, dots (run S h d).1) (run grid (dots h) (fallen (sides (dots h)) (layers h) d))

-- values of X that hold `held` of S are piles with these layers and dots
pub record Stands {X : Type 0} (S : Surface SheetFault) (held : X → S.Held) (layers : X → List Layer) (dots : X → Grid) : Type 0 where
  pub held_layers : S.Held → List Layer
  pub held_dots : S.Held → Grid
  pub piled : Piled S held_layers held_dots
  pub layers_is : (x : X) → held_layers (held x) ≡ layers x
  pub dots_is : (x : X) → held_dots (held x) ≡ dots x
