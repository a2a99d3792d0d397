-- A layer on a pile is a pile, and a draw on a pile is a draw on its grid.
use Rattle.std.specs.Prelude.{◌≡◌, ℕ, List, [], ◌∷◌, refl}
use Rattle.std.proofs.Common.{sym, ap, ◌∙◌}
use Rattle.plotters_backend.specs.Surface.{Surface, Lawful}
use Rattle.plotters_backend.specs.Run.{Answer, Drawing, Outcome, run}
use Rattle.window.specs.Layer.{Layer, layered}
use Rattle.window.specs.Falling.{through}
use Rattle.window.proofs.Falling.{run_layered}
use Rattle.dots.specs.Grid.{Grid, grid, sides}
use Rattle.dots.specs.declared.fault.SheetFault.{SheetFault}
use Rattle.dot_grid.specs.declared.draw.Draw.{Draw}
use Rattle.dot_grid.specs.Draws.{drawing}
use Rattle.dot_grid.specs.Piles.{Piled, Stands, fallen}
use Rattle.dot_grid.specs.Replay.{drawn}

-- an answer with the dots
abbrev outcome : Answer SheetFault → Grid → Outcome grid
outcome r g = (r, g)

-- the grid itself is a pile of no layer
pub piled_grid : Piled grid (λ _. []) (λ g. g)
piled_grid = record { sizes = λ h. refl; stays = λ h d. refl; falls = λ h d. refl }

module _ {P : Type 0} (L : P → Layer) (S : Surface SheetFault) (W : Lawful S) (ls : S.Held → List Layer) (dots : S.Held → Grid) (T : Piled S ls dots) where
  abbrev over : S.Held × P → List Layer
  over h = L h.1 ∷ ls h.0

  abbrev under : S.Held × P → Grid
  under h = dots h.0

  -- what the layer lets through of a draw
  abbrev sent : S.Held × P → Drawing → Drawing
  sent h d = through (L h.1) (S.size h.0) d

  -- a layer more on a pile
  pub piled_layer : Piled (layered L S) over under
  piled_layer = record {
    sizes = λ h. ap (λ (s : ℕ × ℕ). (L h.1).size s) (T.sizes h.0);
    stays = λ h d. ap (λ (o : Outcome (layered L S)). over o.1) (run_layered L S W h.0 h.1 d) ∙ ap (λ (xs : List Layer). L h.1 ∷ xs) (T.stays h.0 (sent h d));
    falls = λ h d.
        ap (λ (o : Outcome (layered L S)). outcome o.0 (under o.1)) (run_layered L S W h.0 h.1 d)
        ∙ T.falls h.0 (sent h d)
        ∙ ap (λ (s : ℕ × ℕ). run grid (dots h.0) (fallen (sides (dots h.0)) (ls h.0) (through (L h.1) s d))) (T.sizes h.0);
  }

module _ {X : Type 0} (S : Surface SheetFault) (held : X → S.Held) (layers : X → List Layer) (dots : X → Grid) (T : Stands S held layers dots) where
  -- one draw on what stands on a sheet, told of its layers and its dots alone
  pub stands_drawn : (x x' : X) (r : Answer SheetFault) (d : Draw) → (r, held x') ≡ run S (held x) (drawing (S.size (held x)) d) → (r, dots x') ≡ drawn (layers x) (dots x) d
  stands_drawn x x' r d e =
      let h = held x in
      let D = T.held_dots in
      let K = T.held_layers in
      ap (λ (g : Grid). outcome r g) (sym (T.dots_is x'))
      ∙ ap (λ (o : Outcome S). outcome o.0 (D o.1)) e
      ∙ T.piled.falls h (drawing (S.size h) d)
      ∙ ap (λ (s : ℕ × ℕ). run grid (D h) (fallen (sides (D h)) (K h) (drawing s d))) (T.piled.sizes h)
      ∙ ap (λ (ls : List Layer). drawn ls (D h) d) (T.layers_is x)
      ∙ ap (λ (g : Grid). drawn (layers x) g d) (T.dots_is x)

  -- and it keeps its layers
  pub stands_stays : (x x' : X) (r : Answer SheetFault) (d : Draw) → (r, held x') ≡ run S (held x) (drawing (S.size (held x)) d) → layers x' ≡ layers x
  stands_stays x x' r d e =
      sym (T.layers_is x')
      ∙ ap (λ (o : Outcome S). T.held_layers o.1) e
      ∙ T.piled.stays (held x) (drawing (S.size (held x)) d)
      ∙ T.layers_is x
